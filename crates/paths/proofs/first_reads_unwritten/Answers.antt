use Rattle.std.proofs.Common.{rules, refl, ◌∙◌}
use Rattle.numbers.specs.Search.Chains.{first_find}
use Rattle.flow.specs.Flow.{reads_unwritten}
use Rattle.paths.proofs.first_reads_unwritten.Goals as goal

pub returns : goal.returns
unfolding reads_unwritten
returns c = c.unwrap_or.ensures ∙ first_find (reads_unwritten c.args.flow.now) c.args.n refl _ _ c.find.result c.find.ensures.ran (λ x b q k. search rules)
