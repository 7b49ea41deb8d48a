use borrow.Author.Rules.{rules}
use Rattle.table.proofs.indexing.Laying.{sizes_more, starts_more}
use Rattle.table.proofs.indexing.lay_starts.Goals as goal

pub loop-i-preserved : goal.loop-i-preserved
loop-i-preserved c =
    (search rules, search, search, search, search, search sizes_more, search rules, search rules, starts_more _ c.args.part (search) c.loop-i.index _ c.starts_from-from.result c.loop-i.i c.loop-i.sum _ c.put_cell.ensures (search) (search) (search) (search) (search rules))
