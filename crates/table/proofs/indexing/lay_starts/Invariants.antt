-- `table::indexing::lay_starts` meets its contract. The loop: the starts up to block i are laid, and the sum is that of the sizes so far. Assumes nothing.
use Prim.Native.Nat.{◌+◌, ◌*◌, ◌≤◌, ◌<◌}
use mathlib.Core.Path.{◌≡◌}
use lib.ListN.{length}
use Rattle.numbers.specs.Search.{sum_to}
use Rattle.table.specs.Table.{table_of}
use Rattle.table.specs.Layout.{blocks, size}
use Rattle.table.specs.Index.{starts_from, entry, index_length}
use Rattle.numbers.specs.Laid.{laid}
use Rattle.table.proofs.indexing.lay_starts.Given as goal

abbrev pub invariant-loop-i : goal.invariant-loop-i
invariant-loop-i l =
    (l.i ≤ l.n) × (l.n ≡ blocks (table_of l.table) l.part) × (l.n < 65536) × (l.from ≡ starts_from l.part) × (l.from ≤ 34)
    × (l.sum ≡ sum_to (size (table_of l.table) l.part) l.i) × (l.sum ≤ 65535 * l.i) × (length l.index ≡ length l.initial.index)
    × (l.index ≡ laid (entry (table_of l.table)) (l.from + l.i + 1) index_length)
