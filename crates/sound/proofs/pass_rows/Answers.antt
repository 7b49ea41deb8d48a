use borrow.Author.Rules.{rules}
use Rattle.numbers.specs.Search.Laws.{tests_none, tests_more, tests_all}
use Rattle.recount.specs.Tally.Stamps.{fresh_zeros}
use Rattle.recount.specs.Tally.Pass.{rows_none, rows_held, rows_more, all_held_lem, all_waiting}
use Rattle.sound.proofs.pass_rows.Goals as goal

pub loop-t-init : goal.loop-t-init
loop-t-init c = (search rules, search tests_none, rw c.requires.stamps_value fresh_zeros, search rows_none, search rows_none)

pub loop-t-preserved : goal.loop-t-preserved
loop-t-preserved c = (search rules, search tests_more, search, search rows_held, search rows_more)

pub returns-clause-value : goal.returns-clause-value
returns-clause-value c = search tests_all

pub returns-clause-held_after : goal.returns-clause-held_after
returns-clause-held_after c = search all_held_lem

pub returns-clause-waiting_after : goal.returns-clause-waiting_after
returns-clause-waiting_after c = search all_waiting
