use Rattle.turns.specs.Counted.Laws.{end_made}
use Rattle.turns.proofs.make_end.Goals as goal

pub returns : goal.returns
returns c = end_made _ _ _ _ _ _ _ c.settle_one.ensures (search) (search) (search) (search) (search)
