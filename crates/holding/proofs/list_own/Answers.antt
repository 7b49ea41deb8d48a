use borrow.Author.Rules.{rules}
use Rattle.holding.proofs.Listings.{list_none, list_more, list_all}
use Rattle.holding.proofs.list_own.Goals as goal

pub loop-k-init : goal.loop-k-init
loop-k-init c = search (list_none, rules)

pub loop-k-preserved : goal.loop-k-preserved
loop-k-preserved c = search (list_more, rules)

pub returns : goal.returns
returns c = search list_all
