use Rattle.std.proofs.Common.{rules, refl, ◌∙◌, ap}
use Rattle.numbers.specs.Search.{every}
use Rattle.numbers.specs.Search.Chains.{every_all}
use Rattle.state.specs.State.{state_of}
use Rattle.rules.specs.Sound.{port_typed}
use Rattle.sound.proofs.ports_sound.Goals as goal

pub returns : goal.returns
unfolding port_typed
returns c =
    every_all (port_typed c.args.table.now (state_of c.args.state.now)) c.ports-n.result refl _ _ c.all.result c.all.ensures.ran (λ x b q k. search rules)
    ∙ ap (every (port_typed c.args.table.now (state_of c.args.state.now))) (search rules)
