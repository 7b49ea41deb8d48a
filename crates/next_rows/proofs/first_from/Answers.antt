use Rattle.std.proofs.Common.{rules}
use Rattle.next_rows.proofs.Ways.{find_from}
use Rattle.next_rows.proofs.first_from.Goals as goal

pub returns-clause-value : goal.returns-clause-value
returns-clause-value g c = λ p says. rw c.unwrap_or.ensures (find_from _ _ _ c.find.result p c.find.ensures.ran (λ x b q k. search (rules, says)))
