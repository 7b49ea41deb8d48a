use Rattle.interface.specs.Interface.{collect_result}
use Rattle.pithread.proofs.Answered.{answered}
use Rattle.pithread.proofs.pithread_collect.Goals as goal

pub returns : goal.returns
unfolding collect_result
returns c = search answered
