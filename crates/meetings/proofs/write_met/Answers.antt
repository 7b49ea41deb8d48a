use Rattle.meetings.proofs.Laws.{receiver_goes}
use Rattle.meetings.proofs.write_met.Goals as goal

pub returns-in-In : goal.returns-in-In
returns-in-In c = search receiver_goes
