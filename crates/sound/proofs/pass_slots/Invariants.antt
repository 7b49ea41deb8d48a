-- `sound::pass_slots` meets its contract. The loop: the slots before the k-th have been put to their tests, and the thread is counted at their channels. Assumes
-- nothing.
use Prim.Native.Nat.{◌≤◌}
use mathlib.Core.Path.{◌≡◌}
use Rattle.numbers.specs.Search.{every}
use Rattle.state.specs.State.{state_of, thread}
use Rattle.holding.specs.Own.{own_of}
use Rattle.recount.specs.Tally.{added_to, Passed}
use Rattle.sound.specs.SoundRows.{slot_sound}
use Rattle.sound.proofs.pass_slots.Given as goal

abbrev pub invariant-loop-k : goal.invariant-loop-k
invariant-loop-k l =
    (l.k ≤ l.count) × (l.passed ≡ every (slot_sound l.flow (state_of l.state) (thread (state_of l.state) l.t)) l.k)
    × (l.counts.held ≡ added_to (own_of l.flow (thread (state_of l.state) l.t)) 1 l.initial.counts.held l.k)
    × (l.counts.waiting ≡ added_to (own_of l.flow (thread (state_of l.state) l.t)) l.w l.initial.counts.waiting l.k)
    × Passed l.flow (thread (state_of l.state) l.t) l.t l.k l.counts.stamps
