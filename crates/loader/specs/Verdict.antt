-- The verdict on a file: the first ground, in the order of their numbers, that has a line at fault, and the first such line, counted from 1.
pub mod Laws
pub mod Rest
pub mod Computing
use Rattle.loader.specs.Answers.{Verdict}
use Rattle.std.specs.Prelude.{ℕ, suc, Bool, true, false, ◌&&◌, ◌||◌, cond, List, ltb, eqb, Err, Ok}
use Rattle.numbers.specs.Search.{every, first}
use Rattle.table.specs.Table.{Table, max_rows, line_total}
use Rattle.table.specs.Form.{header_in_range, kind_wrong, sums_agree}
use Rattle.ranges.specs.Ranges.{out_of_range, rest_unused}
use Rattle.types.specs.Types.{types_disagree}
use Rattle.flow.specs.Flow.{reads_unwritten, unreachable}
use Rattle.file.specs.File.{line_count, not_lines, malformed, file_table}
use Rattle.loader.specs.declared.Ground.{Ground}
use Rattle.loader.specs.declared.Ground.TheVariants.{Lines, Field, Header, Total, Kind, Sums, Range, Types, Unwritten, Unreachable}

-- the numbers of document 01. Ground 3 is four tests in order
unfoldable pub ground_number : Ground → ℕ
ground_number Lines = 1
ground_number Field = 2
ground_number Header = 3
ground_number Total = 3
ground_number Kind = 3
ground_number Sums = 3
ground_number Range = 4
ground_number Types = 5
ground_number Unwritten = 6
ground_number Unreachable = 7

-- the first of n lines that the test p finds at fault, on ground g; the verdict v where there is none
unfoldable pub at_fault : Ground → (ℕ → Bool) → ℕ → Verdict → Verdict
at_fault g p n v = cond (ltb (first p n) n) (Err (g, suc (first p n))) v

module _ (tb : Table) (n : ℕ) where
  -- grounds 6 and 7, of a table of n lines
  unfoldable pub judged_flow : Verdict
  judged_flow = at_fault Unwritten (reads_unwritten tb) n (at_fault Unreachable (unreachable tb) n (Ok tt))

  -- grounds 4 to 7
  unfoldable pub judged_rows : Verdict
  judged_rows = at_fault Range (out_of_range tb) n (at_fault Types (types_disagree tb) n judged_flow)

  -- grounds 3 to 7
  unfoldable pub judged : Verdict
  judged =
      cond (header_in_range tb)
      (cond (eqb n (line_total tb))
      (at_fault Kind (kind_wrong tb) n
      (cond (sums_agree tb) judged_rows (Err (Sums, 1))))
      (Err (Total, 1)))
      (Err (Header, 1))

unfoldable pub verdict : List ℕ → Verdict
verdict file = cond (not_lines file) (Err (Lines, 0)) (at_fault Field (malformed file) (line_count file) (judged (file_table file) (line_count file)))

-- ground 9: a table passes when grounds 3 to 7 find no fault in it, with the header's number of lines, and the rest is 0
unfoldable pub is_sound : Verdict → Bool
is_sound (Ok tt) = true
is_sound (Err (g, l)) = false

unfoldable pub rest_zero : Table → ℕ → Bool
rest_zero tb r = ltb r (line_total tb) || rest_unused tb r 0

unfoldable pub acceptable : Table → Bool
acceptable tb = is_sound (judged tb (line_total tb)) && every (rest_zero tb) max_rows
