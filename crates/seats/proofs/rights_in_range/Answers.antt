use Rattle.std.proofs.Common.{rules, refl}
use Rattle.numbers.specs.Search.Chains.{every_all}
use Rattle.rules.specs.Seats.{rights_numbers, right_in_range, rights_in_range}
use Rattle.seats.proofs.rights_in_range.Goals as goal

pub returns : goal.returns
unfolding rights_in_range right_in_range
returns c = every_all (right_in_range c.args.rights.now) rights_numbers refl _ _ c.all.result c.all.ensures.ran (λ x b q k. search rules)
