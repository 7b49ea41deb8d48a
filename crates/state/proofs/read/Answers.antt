use Rattle.std.proofs.Common.{rules}
use Rattle.state.proofs.Filling.{agree_set}
use Rattle.state.proofs.read.Goals as goal

pub loop-i-preserved : goal.loop-i-preserved
loop-i-preserved c = search (agree_set, rules)
