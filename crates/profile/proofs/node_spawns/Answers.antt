use Rattle.std.proofs.Common.{rules, refl}
use Rattle.numbers.specs.Search.Chains.{some_any}
use Rattle.profile.specs.Profile.{is_spawn, node_spawns}
use Rattle.profile.proofs.node_spawns.Goals as goal

pub returns : goal.returns
unfolding node_spawns
returns c =
    rw (← c.branch_count-count.ensures.value)
    (some_any (is_spawn c.args.table.now c.args.n) c.branch_count-count.result refl _ _ c.any.result c.any.ensures.ran (λ x b q k. search rules))
