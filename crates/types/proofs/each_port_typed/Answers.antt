use Rattle.std.proofs.Common.{rules, refl}
use Rattle.numbers.specs.Search.Chains.{every_all}
use Rattle.types.specs.Types.{port_typed}
use Rattle.types.proofs.each_port_typed.Goals as goal

pub returns : goal.returns
unfolding port_typed
returns c = every_all (port_typed c.args.table.now) c.args.n refl _ _ c.all.result c.all.ensures.ran (λ x b q k. search rules)
