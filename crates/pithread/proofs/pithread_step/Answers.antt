use Rattle.interface.specs.Interface.{step_result}
use Rattle.pithread.proofs.Answered.{answered}
use Rattle.pithread.proofs.pithread_step.Goals as goal

pub returns : goal.returns
unfolding step_result
returns c = search answered
