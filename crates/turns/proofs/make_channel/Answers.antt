use Rattle.turns.specs.Counted.Laws.{channel_made}
use Rattle.turns.proofs.make_channel.Goals as goal

pub returns : goal.returns
returns c = channel_made _ _ _ _ _ _ _ _ _ c.settle_new.ensures (search) (search) (search) (search) (search) (search)
