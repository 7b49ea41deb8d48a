use Rattle.holding.proofs.Listings.{own_list_is}
use Rattle.holding.proofs.own_channels.Goals as goal

pub returns-clause-list : goal.returns-clause-list
returns-clause-list c = search own_list_is
