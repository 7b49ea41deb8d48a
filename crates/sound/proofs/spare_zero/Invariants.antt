-- `sound::spare_zero` meets its contract. The loop: the spare slots below k are joined. Assumes nothing.
use Prim.Native.Nat.{◌≤◌}
use mathlib.Core.Path.{◌≡◌}
use Rattle.state.specs.State.{state_of, thread, row_slots}
use Rattle.numbers.specs.Bits.{bits_of}
use Rattle.sound.specs.SoundRows.{spare_of}
use Rattle.sound.proofs.spare_zero.Given as goal

abbrev pub invariant-loop-k : goal.invariant-loop-k
invariant-loop-k l =
    (l.k ≤ row_slots) × (l.all ≡ bits_of (spare_of (thread (state_of l.state) l.t) l.count) l.k)
