use Rattle.turns.specs.Running.Laws.{running_begins}
use Rattle.turns.specs.Made.Laws.{next_is_ready}
use Rattle.calls.specs.Course.{course_nobody, course_stopped, course_all}
use Rattle.calls.proofs.Laws.{course_begins, course_goes_on, followed_none, followed_more, nobody_last, stopped_last, all_last}
use borrow.Author.Rules.{rules}
use Rattle.calls.proofs.take_turns.Goals as goal

pub loop-i-init : goal.loop-i-init
loop-i-init c = (search rules, search running_begins, search rules, c.requires.ready, search course_begins, followed_none _ _ _ _)

pub returns-then-next-ge-THREADS : goal.returns-then-next-ge-THREADS
returns-then-next-ge-THREADS c = record { is_course = search course_nobody; one_made = search nobody_last; counted = search }

pub turn_of-round-requires-clause-ready : goal.turn_of-round-requires-clause-ready
turn_of-round-requires-clause-ready c = search (c.loop-i.invariant.3, rules)

pub returns-in-Break : goal.returns-in-Break
returns-in-Break c = record { is_course = search course_stopped; one_made = search stopped_last; counted = search }

pub loop-i-preserved : goal.loop-i-preserved
loop-i-preserved c = (search rules, search, search, search next_is_ready, search course_goes_on, search followed_more)

pub returns : goal.returns
returns c = record { is_course = search course_all; one_made = search all_last; counted = search }
