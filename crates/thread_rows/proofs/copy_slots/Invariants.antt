-- `thread_rows::copy_slots` meets its contract. The loop: the first k slots are laid. Assumes nothing.
use Prim.Native.Nat.{◌≤◌}
use mathlib.Core.Path.{◌≡◌}
use Rattle.numbers.specs.Laid.{laid}
use Rattle.state.specs.State.{state_of, thread, slot_of, row_slots}
use Rattle.thread_rows.proofs.copy_slots.Given as goal

abbrev pub invariant-loop-k : goal.invariant-loop-k
invariant-loop-k l =
    (l.k ≤ row_slots) × (l.slots ≡ laid (slot_of (thread (state_of l.state) l.t)) l.k row_slots)
