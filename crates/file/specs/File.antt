-- A file as lines of twelve fields: grounds 1 and 2, and the table that its numbers make. Lines and fields are counted from 0 here.
pub mod Laws
pub mod Computing
use Rattle.std.specs.Prelude.{ℕ, ◌+◌, ◌*◌, ◌/◌, ◌%◌, Bool, true, false, not, ◌&&◌, cond, List, ltb, leb, eqb, length, get_or, replicate, None, Option, Some}
use Rattle.numbers.specs.Search.{every, tabulate}
pub use Rattle.text.specs.Text.{line_length}
use Rattle.text.specs.Text.{field_of, read_number}
use Rattle.table.specs.Table.{Table, max_rows, row_numbers}

-- whether a field is a number, and which; 0 where it is none
unfoldable pub is_value : Option ℕ → Bool
is_value (Some v) = true
is_value None = false

unfoldable pub value_of : Option ℕ → ℕ
value_of (Some v) = v
value_of None = 0

module _ (file : List ℕ) where
  abbrev pub line_count : ℕ
  line_count = length file / line_length

  -- ground 1: no line at all, a last line that is cut short, or more lines than a file may have
  unfoldable pub not_lines : Bool
  not_lines = not (leb 1 line_count && (leb line_count max_rows && eqb (length file % line_length) 0))

  -- ground 2, of line i: a field or the newline malformed
  unfoldable pub field_is_number : ℕ → ℕ → Bool
  field_is_number i k = is_value (read_number (field_of file i k))

  unfoldable pub well_formed : ℕ → Bool
  well_formed i = every (field_is_number i) row_numbers && eqb (get_or file (i * line_length + 72) 0) 10

  unfoldable pub malformed : ℕ → Bool
  malformed i = not (well_formed i)

  -- the table: a row for each line, the rest 0
  unfoldable pub number_at : ℕ → ℕ → ℕ
  number_at i k = value_of (read_number (field_of file i k))

  unfoldable pub row_at : ℕ → List ℕ
  row_at i = cond (ltb i line_count) (tabulate row_numbers (number_at i)) (replicate row_numbers 0)

  unfoldable pub file_table : Table
  file_table = tabulate max_rows row_at

  -- the numbers of the table, one after the other
  unfoldable pub number_in : ℕ → ℕ
  number_in x = number_at (x / row_numbers) (x % row_numbers)
