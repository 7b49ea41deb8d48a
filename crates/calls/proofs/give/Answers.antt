use Rattle.std.proofs.Common.{rules}
use Rattle.calls.proofs.Laws.{give_met}
use Rattle.calls.proofs.give.Goals as goal

pub returns-in-Some : goal.returns-in-Some
returns-in-Some c =
    give_met _ _ _ c.ports.result c.ports.ensures.value (search rules) c.find_at_port.result _ _ _ (search) _ c.make_met.ensures c.find_at_port.ensures
