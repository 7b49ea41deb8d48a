use Rattle.std.proofs.Common.{rules, refl, ◌∙◌}
use Rattle.numbers.specs.Search.Chains.{first_find}
use Rattle.table.specs.Table.{table_of}
use Rattle.table.specs.Form.{kind_wrong}
use Rattle.form.proofs.first_kind_wrong.Goals as goal

pub returns : goal.returns
unfolding kind_wrong
returns c = c.unwrap_or.ensures ∙ first_find (kind_wrong (table_of c.args.table.now)) c.args.n refl _ _ c.find.result c.find.ensures.ran (λ x b q k. search rules)
