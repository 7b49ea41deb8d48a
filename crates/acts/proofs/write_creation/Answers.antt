use Rattle.acts.proofs.Laws.{creation_written}
use borrow.Author.Rules.{rules}
use Rattle.acts.proofs.write_creation.Goals as goal

pub returns : goal.returns
returns c = search (creation_written, rules)
