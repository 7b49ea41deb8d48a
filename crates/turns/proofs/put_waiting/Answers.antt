use Rattle.turns.specs.Counted.Laws.{weighed_none, weighed_more, weighed_all}
use borrow.Author.Rules.{rules}
use Rattle.turns.proofs.put_waiting.Goals as goal

pub loop-c-init : goal.loop-c-init
loop-c-init c = (search rules, search weighed_none)

pub loop-c-preserved : goal.loop-c-preserved
loop-c-preserved c = (search rules, search weighed_more)

pub returns : goal.returns
returns c = search weighed_all
