use Rattle.calls.proofs.Laws.{run_done}
use Rattle.calls.proofs.run.Goals as goal

pub returns : goal.returns
returns c = search run_done
