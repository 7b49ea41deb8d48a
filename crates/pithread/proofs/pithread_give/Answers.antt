use Rattle.pithread.proofs.Answered.{give_answered}
use Rattle.pithread.proofs.pithread_give.Goals as goal

pub returns : goal.returns
returns c = search give_answered
