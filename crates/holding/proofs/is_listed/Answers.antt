use lib.Dec.{eqb}
use lib.ListN.{get_or}
use Rattle.std.proofs.Common.{rules, refl}
use Rattle.numbers.specs.Search.Chains.{some_any}
use Rattle.holding.specs.Own.Listing.{listed}
use Rattle.holding.proofs.is_listed.Goals as goal

pub returns : goal.returns
unfolding listed
returns c = some_any (λ i. eqb (get_or c.args.list.now i 0) c.args.c) c.args.n refl _ _ c.any.result c.any.ensures.ran (λ x b q k. search rules)
