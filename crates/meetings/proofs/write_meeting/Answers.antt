use Rattle.meetings.proofs.Laws.{both_go}
use borrow.Author.Rules.{rules}
use Rattle.meetings.proofs.write_meeting.Goals as goal

pub returns : goal.returns
returns c = search (both_go, rules)
