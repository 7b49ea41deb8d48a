use Rattle.std.proofs.Common.{rules, refl}
use Rattle.numbers.specs.Search.Chains.{every_all}
use Rattle.table.specs.Roles.{operand_count}
use Rattle.ranges.specs.Ranges.{operand_in_range}
use Rattle.ranges.proofs.operands_in_range.Goals as goal

pub returns : goal.returns
unfolding operand_in_range
returns c = every_all (operand_in_range c.args.table.now c.args.row c.args.s) operand_count refl _ _ c.all.result c.all.ensures.ran (λ x b q k. search rules)
