use Rattle.std.proofs.Common.{rules, refl}
use Rattle.numbers.specs.Search.Chains.{every_all}
use Rattle.types.specs.Types.{argument_typed}
use Rattle.types.proofs.arguments_typed.Goals as goal

pub returns : goal.returns
returns c = every_all (argument_typed c.args.table.now c.args.row c.args.d) c.args.n refl _ _ c.all.result c.all.ensures.ran (λ x b q k. search rules)
