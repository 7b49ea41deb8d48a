use Rattle.std.proofs.Common.{rules, refl}
use Rattle.numbers.specs.Search.Chains.{every_all}
use Rattle.profile.specs.Profile.{node_allowed, calls_allowed}
use Rattle.profile.proofs.calls_allowed.Goals as goal

pub returns : goal.returns
unfolding calls_allowed
returns c =
    rw (← c.node_total-count.ensures.value)
    (every_all (node_allowed c.args.table.now) c.node_total-count.result refl _ _ c.all.result c.all.ensures.ran (λ x b q k. search rules))
