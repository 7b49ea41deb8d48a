use Rattle.pithread.proofs.Answered.{written_fits, write_answered}
use Rattle.pithread.proofs.pithread_write.Goals as goal

pub overflow_cast-result-2 : goal.overflow_cast-result-2
overflow_cast-result-2 c = search written_fits

pub returns : goal.returns
returns c = search write_answered
