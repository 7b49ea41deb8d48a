-- For laws and examples that compute with the text of a file.
use Rattle.numbers.specs.Bytes.{joined}
use Rattle.numbers.specs.Search.{computing}
use Rattle.text.specs.Text.{figures_by, figures, numeral, right_justified, text, line_text, file_text, figure_of, size_from, has_minus, pattern_in, same, read_number}
use Rattle.file.specs.File.{is_value, value_of, not_lines, field_is_number, well_formed, malformed, number_at, row_at, file_table}

-- opens what printing and reading it computes with
unfoldable pub reading : Unit {0}
unfolding computing joined figures_by figures numeral right_justified text line_text file_text figure_of size_from has_minus pattern_in same read_number is_value value_of not_lines field_is_number well_formed malformed number_at row_at file_table
reading = tt
