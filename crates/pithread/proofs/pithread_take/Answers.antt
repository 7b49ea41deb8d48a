use Rattle.interface.specs.Interface.{take_result}
use Rattle.pithread.proofs.Answered.{answered}
use Rattle.pithread.proofs.pithread_take.Goals as goal

pub returns : goal.returns
unfolding take_result
returns c = search answered
