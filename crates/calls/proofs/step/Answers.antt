use Rattle.calls.proofs.Laws.{step_done}
use Rattle.calls.proofs.step.Goals as goal

pub returns : goal.returns
returns c = search step_done
