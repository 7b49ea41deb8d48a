use borrow.Author.Rules.{rules}
use Rattle.table.proofs.indexing.Laying.{owners_below, owners_next, owners_more}
use Rattle.table.proofs.indexing.lay_owners.Goals as goal

pub loop-x-preserved : goal.loop-x-preserved
loop-x-preserved c =
    (search rules, search, search, search, search, search owners_below, search owners_next, search rules, owners_more _ c.args.part (search) (search) c.owners_from-from.result (search) c.loop-x.index _ c.loop-x.x _ c.put_cell.ensures (search) (search) (search rules))
