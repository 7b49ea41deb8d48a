use mathlib.Core.Path.{◌∙◌}
use borrow.Author.Rules.{rules}
use Rattle.recount.specs.Tally.Stamps.{fresh_zeros}
use Rattle.recount.specs.Tally.Pass.{rows_none, rows_held, rows_more, all_held_lem, all_waiting}
use Rattle.recount.proofs.tally.Goals as goal

pub loop-t-init : goal.loop-t-init
loop-t-init c = (search rules, rw c.none-counts.ensures.stamps fresh_zeros, c.none-counts.ensures.held ∙ rows_none _ _ _ _, c.none-counts.ensures.waiting ∙ rows_none _ _ _ _)

pub loop-t-preserved : goal.loop-t-preserved
loop-t-preserved c = (search rules, search, search rows_held, search rows_more)

pub returns-clause-held : goal.returns-clause-held
returns-clause-held c = search all_held_lem

pub returns-clause-waiting : goal.returns-clause-waiting
returns-clause-waiting c = search all_waiting
