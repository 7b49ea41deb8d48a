-- `recount::tally_row` meets its contract. The loop: the thread is counted at the channels of the slots before the k-th, and has left its stamp there. Assumes nothing.
use Prim.Native.Nat.{◌≤◌}
use mathlib.Core.Path.{◌≡◌}
use Rattle.state.specs.State.{state_of, thread}
use Rattle.holding.specs.Own.{own_of}
use Rattle.recount.specs.Tally.{added_to, Passed}
use Rattle.recount.proofs.tally_row.Given as goal

abbrev pub invariant-loop-k : goal.invariant-loop-k
invariant-loop-k l =
    (l.k ≤ l.n)
    × (l.counts.held ≡ added_to (own_of l.table (thread (state_of l.state) l.t)) 1 l.initial.counts.held l.k)
    × (l.counts.waiting ≡ added_to (own_of l.table (thread (state_of l.state) l.t)) l.w l.initial.counts.waiting l.k)
    × Passed l.table (thread (state_of l.state) l.t) l.t l.k l.counts.stamps
