use Rattle.std.proofs.Common.{arith}
use Rattle.recount.specs.Tally.Stamps.{counted_here}
use Rattle.recount.proofs.Rows.{slot_below}
use Rattle.recount.proofs.count_slot.Goals as goal

pub returns-clause-held_after : goal.returns-clause-held_after
returns-clause-held_after c = search counted_here

pub returns-clause-waiting_after : goal.returns-clause-waiting_after
returns-clause-waiting_after c = search counted_here

pub overflow_cast-t : goal.overflow_cast-t
overflow_cast-t c = let h = slot_below _ _ _ _ c.requires.k_bound in omega arith

pub overflow_add-t : goal.overflow_add-t
overflow_add-t c = let h = slot_below _ _ _ _ c.requires.k_bound in omega arith
