use Rattle.turns.specs.Counted.Laws.{call_made}
use Rattle.turns.specs.Keeping.Laws.{call_keeps_lem, ready_below}
use Rattle.turns.proofs.make_call.Goals as goal

pub returns-then-entry : goal.returns-then-entry
returns-then-entry c = search (call_keeps_lem, ready_below)

pub returns-else-entry : goal.returns-else-entry
returns-else-entry c = call_made _ _ _ _ _ _ _ c.settle_one.ensures (search) (search) (search) (search) (search ready_below)
