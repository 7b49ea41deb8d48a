use Rattle.flow.proofs.Ways.{flow_more}
use Rattle.flow.proofs.follow_node.Goals as goal

pub returns : goal.returns
returns c = search flow_more
