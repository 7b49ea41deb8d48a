-- `flow::find_gaps` meets its contract. The loop: the nodes below n have been followed. Assumes nothing.
use Prim.Native.Nat.{◌≤◌}
use mathlib.Core.Path.{◌≡◌}
use lib.ListN.{length}
use Rattle.table.specs.Table.{max_nodes}
use Rattle.flow.specs.Flow.{flow_to}
use Rattle.flow.specs.Gaps.{gaps_of}
use Rattle.flow.proofs.find_gaps.Given as goal

abbrev pub invariant-loop-n : goal.invariant-loop-n
invariant-loop-n l =
    (l.n ≤ l.count) × (l.count ≤ max_nodes) × (length l.gaps ≡ length l.initial.gaps) × (gaps_of l.gaps ≡ flow_to l.table l.n)
