-- `thread_rows::put_slots` meets its contract. The loop: the first k slots are those of the list. Assumes nothing.
use Prim.Native.Nat.{◌≤◌}
use mathlib.Core.Path.{◌≡◌}
use Rattle.state.specs.State.{state_of, thread, with_thread, row_slots}
use Rattle.thread_rows.specs.WrittenRows.{refilled}
use Rattle.thread_rows.proofs.put_slots.Given as goal

abbrev pub invariant-loop-k : goal.invariant-loop-k
invariant-loop-k l =
    (l.k ≤ row_slots) × (state_of l.state ≡ with_thread (state_of l.initial.state) l.t (refilled l.slots (thread (state_of l.initial.state) l.t) l.k))
