-- `table::indexing::lay_owners` meets its contract. The loop: the owners below x are laid, and no block before the present one ends past x. Assumes nothing.
use Prim.Native.Nat.{◌+◌, ◌≤◌, ◌<◌}
use mathlib.Core.Path.{◌≡◌}
use lib.ListN.{length}
use Rattle.numbers.specs.Search.{first}
use Rattle.table.specs.Table.{table_of}
use Rattle.table.specs.Layout.{blocks, lines, ends_past}
use Rattle.table.specs.Index.{owners_from, entry, index_length}
use Rattle.numbers.specs.Laid.{laid}
use Rattle.table.proofs.indexing.lay_owners.Given as goal

abbrev pub invariant-loop-x : goal.invariant-loop-x
invariant-loop-x l =
    (l.x ≤ l.n) × (l.n ≡ lines (table_of l.table) l.part) × (l.n < 65536) × (l.from ≡ owners_from l.part) × (l.from ≤ 419)
    × (l.block ≤ blocks (table_of l.table) l.part) × (first (ends_past (table_of l.table) l.part l.x) l.block ≡ l.block) × (length l.index ≡ length l.initial.index)
    × (l.index ≡ laid (entry (table_of l.table)) (l.from + l.x) index_length)
