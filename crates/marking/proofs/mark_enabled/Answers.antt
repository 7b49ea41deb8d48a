use Rattle.marking.proofs.Marking.Laws.{marking_none, marking_end, fewer_marked}
use Rattle.marking.proofs.mark_enabled.Goals as goal

pub loop-known-init : goal.loop-known-init
loop-known-init c = search marking_none

pub loop-known-smaller : goal.loop-known-smaller
loop-known-smaller c = search fewer_marked

pub returns : goal.returns
returns c = search marking_end
