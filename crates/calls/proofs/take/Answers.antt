use Rattle.calls.proofs.Laws.{take_refused, take_nobody, take_met}
use Rattle.turns.specs.Keeping.Laws.{at_port}
use borrow.Author.Rules.{rules}
use Rattle.calls.proofs.take.Goals as goal

pub returns-then-ports-p : goal.returns-then-ports-p
returns-then-ports-p c = search take_refused

pub make_met-requires-clause-at_port : goal.make_met-requires-clause-at_port
make_met-requires-clause-at_port c = search at_port

pub returns-in-None : goal.returns-in-None
returns-in-None c = search take_nobody

pub returns-in-Some : goal.returns-in-Some
returns-in-Some c =
    take_met _ _ _ c.ports.result c.ports.ensures.value (search rules) c.find_at_port.result _ _ _ (search) _ c.make_met.ensures c.value_by-v.ensures c.find_at_port.ensures
