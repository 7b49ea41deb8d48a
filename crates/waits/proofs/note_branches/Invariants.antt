-- `waits::note_branches` meets its contract. The loop: the branches below i are held back, and their offers are noted in both lists. Assumes nothing.
use Prim.Native.Nat.{◌≤◌}
use mathlib.Core.Path.{◌≡◌}
use mathlib.Core.Bool.{true}
use Rattle.numbers.specs.Search.{every, tabulate}
use Rattle.state.specs.State.{state_of, max_channels}
use Rattle.rules.specs.declared.Direction.TheVariants.{Out, In}
use Rattle.waits.specs.Waits.{branch_held, who_to}
use Rattle.waits.proofs.note_branches.Given as goal

abbrev pub invariant-loop-i : goal.invariant-loop-i
invariant-loop-i l =
    (l.i ≤ l.count) × (every (branch_held l.table (state_of l.state) l.t) l.i ≡ true)
    × (l.offered.senders ≡ tabulate max_channels (who_to l.table (state_of l.state) Out l.t l.i)) × (l.offered.receivers ≡ tabulate max_channels (who_to l.table (state_of l.state) In l.t l.i))
