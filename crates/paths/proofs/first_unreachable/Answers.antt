use Rattle.std.proofs.Common.{rules, refl, ◌∙◌}
use Rattle.numbers.specs.Search.Chains.{first_find}
use Rattle.table.specs.Table.{table_of}
use Rattle.flow.specs.Flow.{unreachable}
use Rattle.paths.proofs.first_unreachable.Goals as goal

pub returns : goal.returns
returns c = c.unwrap_or.ensures ∙ first_find (unreachable (table_of c.args.table.now)) c.args.n refl _ _ c.find.result c.find.ensures.ran (λ x b q k. search rules)
