use Rattle.std.proofs.Common.{rules, refl}
use Rattle.numbers.specs.Search.Chains.{every_all}
use Rattle.ranges.specs.Ranges.{argument_in_range}
use Rattle.ranges.proofs.arguments_in_range.Goals as goal

pub returns : goal.returns
unfolding argument_in_range
returns c = every_all (argument_in_range c.args.table.now c.args.row c.args.s) c.args.n refl _ _ c.all.result c.all.ensures.ran (λ x b q k. search rules)
