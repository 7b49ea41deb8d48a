use Rattle.turns.specs.Counted.Laws.{meeting_made}
use Rattle.turns.specs.Keeping.Laws.{number_keeps, meet_other, meet_facing}
use Rattle.turns.proofs.make_meeting.Goals as goal

pub write_directed-requires-clause-distinct : goal.write_directed-requires-clause-distinct
write_directed-requires-clause-distinct c = search meet_other

pub write_directed-requires-clause-facing : goal.write_directed-requires-clause-facing
write_directed-requires-clause-facing c = search meet_facing

pub returns-then-gives_number : goal.returns-then-gives_number
returns-then-gives_number c = search number_keeps

pub write_meeting-requires : goal.write_meeting-requires
write_meeting-requires c = search meet_other

pub returns-else-gives_number : goal.returns-else-gives_number
returns-else-gives_number c =
    meeting_made _ _ _ _ _ _ _ _ _ _ c.settle_two.ensures _ _ (search) (search) (search) (search) (search) _ _ c.gives_number.ensures (search) (search)
    c.requires.counted c.requires.can_meet.thread_in c.requires.can_meet.partner_in c.requires.can_meet.other
