use Rattle.pithread.proofs.Answered.{line_fits, load_answered}
use Rattle.pithread.proofs.pithread_load.Goals as goal

pub overflow_cast-result-2 : goal.overflow_cast-result-2
overflow_cast-result-2 c = search line_fits

pub returns : goal.returns
returns c = search load_answered
