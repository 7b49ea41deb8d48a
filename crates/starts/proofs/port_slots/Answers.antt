use Rattle.thread_rows.specs.WrittenRows.Laws.{slots_none, slots_more, slots_done}
use borrow.Author.Rules.{rules}
use Rattle.starts.proofs.port_slots.Goals as goal

pub loop-k-init : goal.loop-k-init
loop-k-init c = (search rules, search slots_none)

pub loop-k-preserved : goal.loop-k-preserved
loop-k-preserved c = (search rules, search slots_more fits 5000)

pub returns : goal.returns
returns c = search slots_done
