-- `sound::pass_rows` meets its contract. The loop: the rows below t have been put to their tests, and are counted at their channels. Assumes nothing.
use Prim.Native.Nat.{◌≤◌}
use mathlib.Core.Path.{◌≡◌}
use mathlib.Core.Bool.{true}
use Rattle.numbers.specs.Search.{every}
use Rattle.state.specs.State.{state_of, thread, is_waiting, max_threads}
use Rattle.recount.specs.Tally.{added_below, Fresh}
use Rattle.sound.specs.SoundRows.{row_sound}
use Rattle.sound.proofs.pass_rows.Given as goal

abbrev pub invariant-loop-t : goal.invariant-loop-t
invariant-loop-t l =
    (l.t ≤ max_threads) × (l.passed ≡ every (λ t. row_sound l.flow (state_of l.state) (thread (state_of l.state) t)) l.t)
    × Fresh l.t l.counts.stamps
    × (l.counts.held ≡ added_below l.flow (λ row. true) (state_of l.state).threads l.initial.counts.held l.t)
    × (l.counts.waiting ≡ added_below l.flow (λ row. is_waiting row) (state_of l.state).threads l.initial.counts.waiting l.t)
