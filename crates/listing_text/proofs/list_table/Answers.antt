use Rattle.listing_text.specs.Laying.Whole.{accepted_taken, accepted_grants, accepted_starts, sound_settled, run_few, run_long, run_laid}
use Rattle.listing_text.proofs.list_table.Goals as goal

pub list_steps-run-requires-clause-granted : goal.list_steps-run-requires-clause-granted
list_steps-run-requires-clause-granted c =
    let t = accepted_taken c.args.table.now c.requires _ _ c.accept.ensures.value c.in-Some.is in
    rw (c.table-table.ensures, t) (search accepted_grants)

pub list_steps-run-requires-clause-sound : goal.list_steps-run-requires-clause-sound
list_steps-run-requires-clause-sound c =
    let t = accepted_taken c.args.table.now c.requires _ _ c.accept.ensures.value c.in-Some.is in
    let s = rw (c.table-table.ensures, t) at c.write_started.ensures in
    rw (c.table-table.ensures, t) (search accepted_starts)

pub list_end-requires-clause-state_value : goal.list_end-requires-clause-state_value
list_end-requires-clause-state_value c = search sound_settled

pub list_end-requires-clause-steps_le_max_steps : goal.list_end-requires-clause-steps_le_max_steps
list_end-requires-clause-steps_le_max_steps c = search run_few

pub returns-clause-value : goal.returns-clause-value
returns-clause-value c =
    let t = accepted_taken c.args.table.now c.requires _ _ c.accept.ensures.value c.in-Some.is in
    rw (← t, ← c.table-table.ensures) (search run_long)

pub returns-clause-out_after : goal.returns-clause-out_after
returns-clause-out_after c =
    let t = accepted_taken c.args.table.now c.requires _ _ c.accept.ensures.value c.in-Some.is in
    rw (← t, ← c.table-table.ensures) (search run_laid)
