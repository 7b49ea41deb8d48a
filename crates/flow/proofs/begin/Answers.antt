use borrow.Author.Rules.{rules}
use Rattle.flow.proofs.Begins.{begin_none, begin_more, begin_all}
use Rattle.flow.proofs.begin.Goals as goal

pub loop-n-init : goal.loop-n-init
loop-n-init c = search (begin_none, rules)

pub loop-n-preserved : goal.loop-n-preserved
loop-n-preserved c = (search rules, search, search rules, begin_more _ c.loop-n.gaps _ c.loop-n.n _ c.put_cell.ensures (search) (search) (search rules))

pub returns : goal.returns
returns c = search begin_all
