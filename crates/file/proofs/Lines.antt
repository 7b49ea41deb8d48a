-- The laws by which the loops over fields and over lines meet their contracts. Assumes nothing.
use Rattle.numbers.specs.Search.Laws.{every_none, first_none, first_all}
use Rattle.text.specs.Text.Laws.{length_field}
use Rattle.file.specs.File.Laws.{field_wrong, line_begins, line_ends, line_whole, lines_hit, lines_more, laid_more, laid_begins, laid_lines}

pub ruleset fields_read = (every_none, length_field, field_wrong, line_begins, line_ends, line_whole)

pub ruleset lines_read = (first_none, first_all, lines_hit, lines_more, laid_more, laid_begins, laid_lines)
