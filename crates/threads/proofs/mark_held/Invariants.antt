-- `threads::mark_held` meets its contract. The loop: the channels before the i-th of the list are marked. Assumes nothing.
use Prim.Native.Nat.{◌≤◌}
use mathlib.Core.Path.{◌≡◌}
use Rattle.state.specs.State.{row_slots}
use Rattle.threads.specs.Looking.{raised_to}
use Rattle.threads.proofs.mark_held.Given as goal

abbrev pub invariant-loop-c : goal.invariant-loop-c
invariant-loop-c l = (l.c-index ≤ row_slots) × (l.marks ≡ raised_to l.initial.marks l.c-items l.c-index)
