use Rattle.std.proofs.Common.{rules, refl, ◌∙◌}
use Rattle.numbers.specs.Search.Chains.{first_find}
use Rattle.types.specs.Types.{types_disagree}
use Rattle.types.proofs.first_types_disagree.Goals as goal

pub returns : goal.returns
unfolding types_disagree
returns c = c.unwrap_or.ensures ∙ first_find (types_disagree c.args.table.now) c.args.n refl _ _ c.find.result c.find.ensures.ran (λ x b q k. search rules)
