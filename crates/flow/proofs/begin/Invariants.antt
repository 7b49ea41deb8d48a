-- `flow::begin` meets its contract. The loop: the nodes passed have the gaps that they begin with, and the others are 0 still. Assumes nothing.
use Prim.Native.Nat.{◌≤◌}
use mathlib.Core.Path.{◌≡◌}
use lib.ListN.{length}
use Rattle.numbers.specs.Laid.{laid}
use Rattle.table.specs.Table.{max_nodes}
use Rattle.flow.specs.Gaps.{seed}
use Rattle.flow.proofs.begin.Given as goal

abbrev pub invariant-loop-n : goal.invariant-loop-n
invariant-loop-n l =
    (l.n ≤ l.count) × (l.count ≤ max_nodes) × (length l.gaps ≡ length l.initial.gaps) × (l.gaps ≡ laid (seed l.table) l.n max_nodes)
