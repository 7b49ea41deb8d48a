use borrow.Author.Rules.{rules}
use Rattle.numbers.specs.Search.Laws.{tests_none, tests_more, tests_all}
use Rattle.recount.specs.Tally.Stamps.{passed_none, passed_all}
use Rattle.recount.specs.Tally.Pass.{slots_none, slots_more, slots_all}
use Rattle.sound.proofs.pass_slots.Goals as goal

pub loop-k-init : goal.loop-k-init
loop-k-init c = (search rules, search tests_none, search slots_none, search slots_none, search passed_none)

pub loop-k-preserved : goal.loop-k-preserved
loop-k-preserved c =
    let h = rw c.table.ensures at c.count_slot.ensures.held_after in
    let w = rw c.table.ensures at c.count_slot.ensures.waiting_after in
    let p = rw c.table.ensures at c.count_slot.ensures.passed_after in
    (search rules, search tests_more, search slots_more, search slots_more, p)

pub returns-clause-value : goal.returns-clause-value
returns-clause-value c = search tests_all

pub returns-clause-held_after : goal.returns-clause-held_after
returns-clause-held_after c = search slots_all

pub returns-clause-waiting_after : goal.returns-clause-waiting_after
returns-clause-waiting_after c = search slots_all

pub returns-clause-fresh_after : goal.returns-clause-fresh_after
returns-clause-fresh_after c = search passed_all
