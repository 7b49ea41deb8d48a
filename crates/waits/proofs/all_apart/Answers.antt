use Rattle.std.proofs.Common.{rules, refl, get_or}
use Rattle.numbers.specs.Search.Chains.{every_all}
use Rattle.state.specs.State.{max_channels}
use Rattle.waits.specs.Waits.{apart, all_apart}
use Rattle.waits.proofs.all_apart.Goals as goal

pub returns : goal.returns
unfolding all_apart
returns c =
    every_all (λ k. apart (get_or c.args.offered.now.senders k 0) (get_or c.args.offered.now.receivers k 0)) max_channels refl _ _ c.all.result c.all.ensures.ran (λ x b q k. search rules)
