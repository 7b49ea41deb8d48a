use Rattle.profile.specs.Finding.Calls.{spawning_none, spawning_more, spawning_end}
use borrow.Author.Rules.{rules}
use Rattle.profile.proofs.mark_spawns.Goals as goal

pub loop-n-init : goal.loop-n-init
loop-n-init c = (search rules, search spawning_none)

pub loop-n-preserved : goal.loop-n-preserved
loop-n-preserved c = (search rules, spawning_more _ _ _ _ c.mark_node.ensures (search))

pub returns : goal.returns
returns c = search spawning_end
