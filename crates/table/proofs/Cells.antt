-- What a read of a buffer means for the table. Assumes nothing.
use Prim.Native.Nat.{ℕ, ◌+◌, ◌*◌, ◌<◌, ◌≤◌}
use mathlib.Core.Path.{◌≡◌, sym}
use mathlib.Core.List.{List}
use lib.ListN.{get_or}
use Rattle.numbers.specs.Rows.{at}
use Rattle.numbers.specs.Bytes.{shorts}
use Rattle.numbers.specs.Rows.Laws.{at_in, at_out, at_row_out}
use Rattle.table.specs.Table.{max_rows, row_numbers, table_of}

module _ (b : List ℕ) (t k : ℕ) where
  pub cell_in : (r : ℕ) → r ≡ get_or (shorts b) (t * row_numbers + k) 0 → t < max_rows → k < row_numbers → r ≡ at (table_of b) t k
  cell_in r e h j = rw (at_in max_rows row_numbers (shorts b) t k h j) e

  pub cell_out : t < max_rows → row_numbers ≤ k → 0 ≡ at (table_of b) t k
  cell_out h j = sym (at_out max_rows row_numbers (shorts b) t k h j)

  pub cell_row_out : max_rows ≤ t → 0 ≡ at (table_of b) t k
  cell_row_out h = sym (at_row_out max_rows row_numbers (shorts b) t k h)

pub ruleset cells = (cell_in, cell_out, cell_row_out)
