use Rattle.table.proofs.Places.{owner_inside}
use Rattle.table.proofs.Table.owner.Goals as goal

pub bounds-self-inside-owners_from : goal.bounds-self-inside-owners_from
bounds-self-inside-owners_from c = search owner_inside
