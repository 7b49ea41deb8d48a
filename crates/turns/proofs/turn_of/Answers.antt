use Rattle.turns.specs.Keeping.Laws.{ready_below}
use Rattle.turns.specs.Running.Laws.{turn_taken}
use Rattle.turns.proofs.turn_of.Goals as goal

pub returns : goal.returns
returns c = let decided = rw c.new-moment.ensures at c.decide-d.ensures.made_value in search (turn_taken, ready_below)
