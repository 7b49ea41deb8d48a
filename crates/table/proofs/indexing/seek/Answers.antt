use Rattle.std.proofs.Common.{rules, refl, ◌∙◌}
use Rattle.table.specs.Table.{table_of}
use Rattle.table.proofs.indexing.Laying.{seek_found}
use Rattle.table.proofs.indexing.seek.Goals as goal

pub returns : goal.returns
returns c =
    c.unwrap_or.ensures
    ∙ seek_found (table_of c.args.table.now) c.args.part c.requires.header c.args.index.now c.requires.starts c.args.from c.blocks_of-n.result c.args.x c.blocks_of-n.ensures.value c.requires.from_value refl _ _ c.find.result c.find.ensures.ran (λ x b q k. search rules)
