use borrow.Author.Rules.{rules}
use Rattle.threads.proofs.Ways.{held_marked}
use Rattle.threads.proofs.mark_held.Goals as goal

pub returns : goal.returns
returns c = search (held_marked, rules)
