use Rattle.upkeep.proofs.Shifts.{shifts_none, shifts_more}
use Rattle.upkeep.proofs.shift_listed.Goals as goal

pub loop-c-init : goal.loop-c-init
loop-c-init c = search shifts_none

pub loop-c-preserved : goal.loop-c-preserved
loop-c-preserved c = shifts_more _ _ _ _ _ c.loop-c.c-index c.loop-c.invariant _ _ c.shift.ensures (search)
