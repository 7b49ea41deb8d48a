-- `waits::note_threads` meets its contract. The loop: no thread below t could go ahead alone, and their offers are noted in both lists. Assumes nothing.
use Prim.Native.Nat.{◌≤◌}
use mathlib.Core.Path.{◌≡◌}
use mathlib.Core.Bool.{true}
use Rattle.numbers.specs.Search.{every, tabulate}
use Rattle.state.specs.State.{state_of, max_channels, max_threads}
use Rattle.rules.specs.declared.Direction.TheVariants.{Out, In}
use Rattle.waits.specs.Waits.{waits_alone, who}
use Rattle.waits.proofs.note_threads.Given as goal

abbrev pub invariant-loop-t : goal.invariant-loop-t
invariant-loop-t l =
    (l.t ≤ max_threads) × (every (waits_alone l.table (state_of l.state)) l.t ≡ true)
    × (l.offered.senders ≡ tabulate max_channels (who l.table (state_of l.state) Out l.t)) × (l.offered.receivers ≡ tabulate max_channels (who l.table (state_of l.state) In l.t))
