use borrow.Author.Rules.{rules}
use Rattle.recount.specs.Tally.Stamps.{passed_none, passed_all}
use Rattle.recount.specs.Tally.Pass.{slots_none, slots_more, slots_all, types_there}
use Rattle.recount.proofs.tally_row.Goals as goal

pub loop-k-init : goal.loop-k-init
loop-k-init c = (search rules, search slots_none, search slots_none, search passed_none)

pub count_slot-requires-clause-from_value : goal.count_slot-requires-clause-from_value
count_slot-requires-clause-from_value c = search types_there

pub loop-k-preserved : goal.loop-k-preserved
loop-k-preserved c = (search rules, search slots_more, search slots_more, search)

pub returns-clause-held_after : goal.returns-clause-held_after
returns-clause-held_after c = search slots_all

pub returns-clause-waiting_after : goal.returns-clause-waiting_after
returns-clause-waiting_after c = search slots_all

pub returns-clause-fresh_after : goal.returns-clause-fresh_after
returns-clause-fresh_after c = search passed_all
