use Rattle.std.proofs.Common.{rules, refl}
use Rattle.numbers.specs.Search.Chains.{every_all}
use Rattle.table.specs.Roles.{operand_count}
use Rattle.types.specs.Types.{operand_typed, branch_typed}
use Rattle.types.proofs.operands_typed.Goals as goal

pub returns : goal.returns
unfolding branch_typed operand_typed
returns c = every_all (operand_typed c.args.table.now c.args.row c.args.d) operand_count refl _ _ c.all.result c.all.ensures.ran (λ x b q k. search rules)
