use Rattle.driver.specs.Encoding.Laws.{left_first, left_next, left_last, answers_first, answers_next, answers_last}
use borrow.Author.Rules.{rules}
use Rattle.driver.proofs.driver_work_list.Goals as goal

pub loop-i-init : goal.loop-i-init
loop-i-init c = (search rules, search rules, search rules, search left_first, search answers_first)

pub loop-i-preserved : goal.loop-i-preserved
loop-i-preserved c = (search rules, search rules, search rules, search left_next, search answers_next)

pub returns-clause-state_after : goal.returns-clause-state_after
returns-clause-state_after c = search left_last

pub returns-clause-answers_after : goal.returns-clause-answers_after
returns-clause-answers_after c = search answers_last
