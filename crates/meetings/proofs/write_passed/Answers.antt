use Rattle.meetings.proofs.Laws.{passed_on}
use borrow.Author.Rules.{rules}
use Rattle.meetings.proofs.write_passed.Goals as goal

pub returns : goal.returns
returns c = search (passed_on, rules)
