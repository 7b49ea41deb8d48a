use Rattle.table.proofs.Places.{start_inside, start_low}
use Rattle.table.proofs.Table.start.Goals as goal

pub bounds-self-inside-starts_from : goal.bounds-self-inside-starts_from
bounds-self-inside-starts_from c = search start_inside

pub returns-then-i-starts_room-clause-upper_bound : goal.returns-then-i-starts_room-clause-upper_bound
returns-then-i-starts_room-clause-upper_bound c = search start_low
