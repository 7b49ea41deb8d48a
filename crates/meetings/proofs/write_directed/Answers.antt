use Rattle.meetings.proofs.Laws.{sent, got}
use Rattle.meetings.proofs.write_directed.Goals as goal

pub returns-in-Out : goal.returns-in-Out
returns-in-Out c = search sent

pub returns-in-In : goal.returns-in-In
returns-in-In c = search got
