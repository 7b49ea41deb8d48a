use Rattle.std.proofs.Common.{rules, refl}
use Rattle.numbers.specs.Search.Chains.{every_all}
use Rattle.table.specs.Roles.{operand_count}
use Rattle.flow.specs.Flow.{operand_written}
use Rattle.paths.proofs.operands_written.Goals as goal

pub returns : goal.returns
returns c = every_all (operand_written c.args.flow.now c.args.row c.args.n) operand_count refl _ _ c.all.result c.all.ensures.ran (λ x b q k. search rules)
