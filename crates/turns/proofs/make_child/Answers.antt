use Rattle.turns.specs.Counted.Laws.{child_made}
use Rattle.turns.proofs.make_child.Goals as goal

pub returns : goal.returns
returns c = child_made _ _ _ _ _ _ _ _ _ _ c.settle_two.ensures _ (search) (search) (search) (search) (search) (search) (search) (search) (search)
