-- The numbers of a table that is held in bytes are small, and so are the places that they add up to. Assumes nothing.
use Rattle.std.specs.Prelude.{ℕ, zero, suc, ◌+◌, ◌*◌, ◌≤◌, ◌<◌, List, eqb, leb, get_or}
use native.Mathlib.Omega.{arith}
use Rattle.std.proofs.Math.Decide.{dec_lt}
use Rattle.std.specs.Int.{w8}
use Rattle.std.proofs.Common.{Fits}
use borrow.Author.Tests.{leb-true}
use Rattle.numbers.specs.Bytes.{shorts}
use Rattle.numbers.specs.Bytes.Laws.{bytes_fit, numbers_fit}
use Rattle.numbers.specs.Rows.{at}
use Rattle.numbers.specs.Rows.Laws.{at_in, at_out, at_row_out}
use Rattle.numbers.specs.Search.{sum_to}
use Rattle.numbers.specs.Search.Laws.{case_b, sum_none, sum_suc}
use Rattle.table.specs.Fields as Field
use Rattle.table.specs.Table.{table_of, max_rows, row_numbers, max_nodes, node_row, definition_row}
use Rattle.table.specs.Layout.{blocks, size, branch_count, start}
use Rattle.table.specs.Index.{Indexed}
use Rattle.table.specs.Form.Laws.{Counts, header_counts}
use Rattle.table.specs.declared.Part.{Part}
use Rattle.table.specs.declared.Part.TheVariants.{Slots, Nodes, Branches}

module _ (b : List ℕ) (f : (i : ℕ) → Fits w8 (get_or b i 0)) where
  -- every number has 16 bits
  pub cell_fits : (r k : ℕ) → at (table_of b) r k < 65536
  cell_fits r k = row (dec_lt r max_rows)
    where
      number : (i : ℕ) → get_or (shorts b) i 0 < 65536
      number i = numbers_fit 2 b (bytes_fit b f) i

      column : Dec (k < row_numbers) → r < max_rows → at (table_of b) r k < 65536
      column (yes h) l = rw (at_in max_rows row_numbers (shorts b) r k l h) (number (r * row_numbers + k))
      column (no h) l = rw (at_out max_rows row_numbers (shorts b) r k l (omega arith)) (omega arith)

      row : Dec (r < max_rows) → at (table_of b) r k < 65536
      row (yes h) = column (dec_lt k row_numbers) h
      row (no h) = rw (at_row_out max_rows row_numbers (shorts b) r k (omega arith)) (omega arith)

  size_fits : (p : Part) (i : ℕ) → size (table_of b) p i < 65536
  unfolding size branch_count
  size_fits Slots i = cell_fits (definition_row (table_of b) + i) Field.own_slots
  size_fits Nodes i = cell_fits (definition_row (table_of b) + i) Field.own_nodes
  size_fits Branches i =
      case_b (eqb (at (table_of b) (node_row (table_of b) + i) Field.node_kind) 1)
      (λ t. rw t (cell_fits (node_row (table_of b) + i) Field.own_branches))
      (λ e. rw e (omega arith))

  sum_few : (p : Part) (i : ℕ) → sum_to (size (table_of b) p) i ≤ i * 65535
  sum_few p zero = omega (arith, sum_none (size (table_of b) p))
  sum_few p (suc i) = omega (arith, sum_suc (size (table_of b) p) i, sum_few p i, size_fits p i)

  blocks_few : (p : Part) → Counts (table_of b) → blocks (table_of b) p ≤ max_nodes
  unfolding blocks
  blocks_few Slots c = omega arith
  blocks_few Nodes c = omega arith
  blocks_few Branches c = omega arith

  -- every block starts within 192 blocks of 65535 lines
  pub start_few : (l : List ℕ) → Indexed (table_of b) l → (p : Part) (i : ℕ) → start (table_of b) p i ≤ 12582720
  unfolding start
  start_few l g p i =
      case_b (leb i (blocks (table_of b) p))
      (λ t. rw t (omega (arith, sum_few p i, leb-true i (blocks (table_of b) p) t, blocks_few p (header_counts (table_of b) g.counts))))
      (λ e. rw e (omega arith))
