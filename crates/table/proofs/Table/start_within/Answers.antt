use Rattle.table.proofs.Places.{within_low}
use Rattle.table.proofs.Table.start_within.Goals as goal

pub returns-clause-upper_bound : goal.returns-clause-upper_bound
returns-clause-upper_bound c =
    within_low _ _ c.self.invariant.indexed c.self.invariant.bytes _ _ c.starts_from.ensures.value _ (rw (← c.self.view_is) at c.requires.i_bound)
