-- `marking::mark_enabled` meets its contract. The loop: the marks are right. Assumes nothing.
use Rattle.state.specs.State.{state_of}
use Rattle.marking.specs.Marking.{Marking, unmarked}
use Rattle.marking.proofs.mark_enabled.Given as goal

abbrev pub invariant-loop-known : goal.invariant-loop-known
invariant-loop-known l = Marking l.table (state_of l.state) l.marks l.known

abbrev pub decreases-loop-known : goal.decreases-loop-known
decreases-loop-known l = unmarked l.marks
