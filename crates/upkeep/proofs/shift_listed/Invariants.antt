-- `upkeep::shift_listed` meets its contract. The loop: the channels before the i-th of the list have moved. Assumes nothing.
use mathlib.Core.Path.{◌≡◌}
use Rattle.state.specs.State.{state_of}
use Rattle.upkeep.specs.Shift.{shifted_to}
use Rattle.upkeep.proofs.shift_listed.Given as goal

abbrev pub invariant-loop-c : goal.invariant-loop-c
invariant-loop-c l =
    state_of l.state ≡ shifted_to (state_of l.initial.state) l.list l.dn l.dw l.c-index
