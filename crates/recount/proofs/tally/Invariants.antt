-- `recount::tally` meets its contract. The loop: the channels of the threads below t are counted, in both lists, and no stamp is that of thread t or of a later one.
-- Assumes nothing.
use Prim.Native.Nat.{◌≤◌}
use mathlib.Core.Path.{◌≡◌}
use mathlib.Core.Bool.{true}
use lib.ListN.{replicate}
use Rattle.state.specs.State.{state_of, is_waiting, max_threads, max_channels}
use Rattle.recount.specs.Tally.{added_below, Fresh}
use Rattle.recount.proofs.tally.Given as goal

abbrev pub invariant-loop-t : goal.invariant-loop-t
invariant-loop-t l =
    (l.t ≤ max_threads) × Fresh l.t l.counts.stamps
    × (l.counts.held ≡ added_below l.table (λ row. true) (state_of l.state).threads (replicate max_channels 0) l.t)
    × (l.counts.waiting ≡ added_below l.table (λ row. is_waiting row) (state_of l.state).threads (replicate max_channels 0) l.t)
