use Rattle.table.specs.Form.Laws.{header_counts}
use Rattle.table.proofs.Table.node_total.Goals as goal

pub returns-clause-counts : goal.returns-clause-counts
returns-clause-counts c = rw (← c.self.view_is) (header_counts _ c.self.invariant.indexed.counts)
