use borrow.Author.Rules.{rules}
use Rattle.flow.proofs.Ways.{branches_none, branches_more, branches_all}
use Rattle.flow.proofs.follow_branches.Goals as goal

pub loop-i-init : goal.loop-i-init
loop-i-init c = search (branches_none, rules)

pub loop-i-preserved : goal.loop-i-preserved
loop-i-preserved c = search (branches_more, rules)

pub returns : goal.returns
returns c = search branches_all
