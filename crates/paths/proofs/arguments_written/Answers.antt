use Rattle.std.proofs.Common.{rules, refl}
use Rattle.numbers.specs.Search.Chains.{every_all}
use Rattle.flow.specs.Flow.{argument_written}
use Rattle.paths.proofs.arguments_written.Goals as goal

pub returns : goal.returns
returns c = every_all (argument_written c.args.flow.now c.args.row c.args.n) c.args.count refl _ _ c.all.result c.all.ensures.ran (λ x b q k. search rules)
