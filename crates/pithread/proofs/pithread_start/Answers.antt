use Rattle.interface.specs.Interface.{start_result}
use Rattle.pithread.proofs.Answered.{answered}
use Rattle.pithread.proofs.pithread_start.Goals as goal

pub returns : goal.returns
unfolding start_result
returns c = search answered
