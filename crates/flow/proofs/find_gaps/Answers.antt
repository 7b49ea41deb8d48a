use native.Mathlib.Omega.{arith}
use borrow.Author.Rules.{rules}
use Rattle.flow.proofs.Ways.{flow_none, flow_all}
use Rattle.flow.proofs.find_gaps.Goals as goal

pub loop-n-init : goal.loop-n-init
loop-n-init c = search (flow_none, rules)

pub follow_node-requires-clause-n_bound : goal.follow_node-requires-clause-n_bound
follow_node-requires-clause-n_bound c = omega arith

pub follow_node-requires-clause-n_few : goal.follow_node-requires-clause-n_few
follow_node-requires-clause-n_few c = omega arith

pub returns : goal.returns
returns c = search flow_all
