use Rattle.recount.specs.Tally.Stamps.{fresh_later}
use Rattle.recount.specs.Tally.Pass.{free_counted}
use Rattle.sound.proofs.Ways.{row_free, in_use_lem, row_used}
use Rattle.sound.proofs.pass_row.Goals as goal

pub returns-then-status-eq-FREE-clause-value : goal.returns-then-status-eq-FREE-clause-value
returns-then-status-eq-FREE-clause-value c = search row_free

pub returns-then-status-eq-FREE-clause-held_after : goal.returns-then-status-eq-FREE-clause-held_after
returns-then-status-eq-FREE-clause-held_after c = search free_counted

pub returns-then-status-eq-FREE-clause-waiting_after : goal.returns-then-status-eq-FREE-clause-waiting_after
returns-then-status-eq-FREE-clause-waiting_after c = search free_counted

pub returns-then-status-eq-FREE-clause-fresh_after : goal.returns-then-status-eq-FREE-clause-fresh_after
returns-then-status-eq-FREE-clause-fresh_after c = search fresh_later

pub pass_slots-typed-requires-clause-from_value : goal.pass_slots-typed-requires-clause-from_value
pass_slots-typed-requires-clause-from_value c = rw (← c.table-table.ensures) (c.slots_of-slots.ensures.from_value (search in_use_lem))

pub returns-clause-value : goal.returns-clause-value
returns-clause-value c =
    let m = rw c.table-table.ensures at c.slots_of-slots.ensures.count_value in
    let d = rw c.table-table.ensures at c.in_range.ensures in
    search row_used
