use borrow.Author.Rules.{rules}
use Rattle.file.specs.File.Laws.{field_more, number_more}
use Rattle.file.proofs.read_line.Goals as goal

pub loop-column-preserved : goal.loop-column-preserved
loop-column-preserved c = (search rules, search rules, search field_more, search number_more)
