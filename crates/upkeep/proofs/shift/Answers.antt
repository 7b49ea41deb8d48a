use Rattle.upkeep.proofs.Shifts.{shift_in}
use Rattle.upkeep.proofs.shift.Goals as goal

pub returns-then-c-lt-CHANNELS : goal.returns-then-c-lt-CHANNELS
returns-then-c-lt-CHANNELS c = search shift_in
