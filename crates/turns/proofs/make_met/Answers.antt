use Rattle.turns.specs.Keeping.Laws.{met_made}
use Rattle.turns.proofs.make_met.Goals as goal

pub returns : goal.returns
returns c = search met_made
