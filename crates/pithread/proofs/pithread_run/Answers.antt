use Rattle.interface.specs.Interface.{run_result}
use Rattle.pithread.proofs.Answered.{answered}
use Rattle.pithread.proofs.pithread_run.Goals as goal

pub returns : goal.returns
unfolding run_result
returns c = search answered
