use Rattle.next_rows.specs.UsedBelow.{used_all}
use Rattle.turns.specs.Made.Laws.{no_turn, next_is_ready}
use Rattle.turns.specs.Running.Laws.{running_begins}
use Rattle.listing_text.specs.Laying.Steps.{turn_taken, turn_laid, turn_keeps, turn_left}
use Rattle.listing_text.proofs.list_turn.Goals as goal

pub next_ready-t-requires : goal.next_ready-t-requires
next_ready-t-requires c = search used_all

pub turn_of-round-requires-clause-running : goal.turn_of-round-requires-clause-running
turn_of-round-requires-clause-running c = search running_begins

pub turn_of-round-requires-clause-used_below : goal.turn_of-round-requires-clause-used_below
turn_of-round-requires-clause-used_below c = search used_all

pub turn_of-round-requires-clause-ready : goal.turn_of-round-requires-clause-ready
turn_of-round-requires-clause-ready c = search next_is_ready

pub returns-then-t-lt-THREADS-clause-state_after : goal.returns-then-t-lt-THREADS-clause-state_after
returns-then-t-lt-THREADS-clause-state_after c = turn_taken _ _ c.requires.sound _ _ _ c.turn_of-round.ensures.ends _ c.settle_waiting.ensures c.next_ready-t.ensures.value c.if-t-lt-THREADS.true

pub returns-then-t-lt-THREADS-clause-sound_after : goal.returns-then-t-lt-THREADS-clause-sound_after
returns-then-t-lt-THREADS-clause-sound_after c = turn_keeps _ _ _ c.settle_waiting.ensures c.turn_of-round.ensures.running.sound

pub returns-then-t-lt-THREADS-clause-out_after : goal.returns-then-t-lt-THREADS-clause-out_after
returns-then-t-lt-THREADS-clause-out_after c = turn_laid _ _ c.requires.sound _ _ _ c.turn_of-round.ensures.ends _ _ _ _ _ _ _ c.put_step.ensures c.step_answer.ensures c.turn_of-round.ensures.decided c.stands_at-node.ensures c.next_ready-t.ensures.value

pub returns-else-t-lt-THREADS-clause-state_after : goal.returns-else-t-lt-THREADS-clause-state_after
returns-else-t-lt-THREADS-clause-state_after c = search no_turn

pub returns-else-t-lt-THREADS-clause-out_after : goal.returns-else-t-lt-THREADS-clause-out_after
returns-else-t-lt-THREADS-clause-out_after c = search turn_left
