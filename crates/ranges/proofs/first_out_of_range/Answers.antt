use Rattle.std.proofs.Common.{rules, refl, ◌∙◌}
use Rattle.numbers.specs.Search.Chains.{first_find}
use Rattle.ranges.specs.Ranges.{out_of_range}
use Rattle.ranges.proofs.first_out_of_range.Goals as goal

pub returns : goal.returns
unfolding out_of_range
returns c = c.unwrap_or.ensures ∙ first_find (out_of_range c.args.table.now) c.args.n refl _ _ c.find.result c.find.ensures.ran (λ x b q k. search rules)
