use Rattle.std.proofs.Common.{rules, refl}
use Rattle.numbers.specs.Search.Chains.{every_all}
use Rattle.state.specs.State.{state_of, max_channels}
use Rattle.rules.specs.Sound.{count_true}
use Rattle.sound.proofs.counts_sound.Goals as goal

pub returns : goal.returns
returns c =
    every_all (count_true c.args.table.now (state_of c.args.state.now)) max_channels refl _ _ c.all.result c.all.ensures.ran (λ x b q k. search rules)
