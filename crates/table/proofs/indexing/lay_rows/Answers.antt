use Rattle.table.proofs.indexing.Laying.{rows_laid}
use Rattle.table.proofs.indexing.lay_rows.Goals as goal

pub returns : goal.returns
returns c =
    rows_laid _ c.args.index.now _ _ _ _ c.definition_row.result _ _ _ c.put_cell-4.ensures c.put_cell-3.ensures c.put_cell-2.ensures c.put_cell.ensures (search) (search) (search) (search) (search)
