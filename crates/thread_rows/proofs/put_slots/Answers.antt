use Rattle.thread_rows.specs.WrittenRows.Laws.{refill_none, refill_more, refill_done}
use borrow.Author.Rules.{rules}
use Rattle.thread_rows.proofs.put_slots.Goals as goal

pub loop-k-init : goal.loop-k-init
loop-k-init c = (search rules, search refill_none)

pub loop-k-preserved : goal.loop-k-preserved
loop-k-preserved c = (search rules, refill_more _ _ _ _ _ _ _ c.store.ensures (search rules) (search rules))

pub returns : goal.returns
returns c = search (refill_done, rules)
