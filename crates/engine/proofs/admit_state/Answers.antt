use Rattle.engine.proofs.Laws.{state_read}
use Rattle.engine.proofs.admit_state.Goals as goal

pub returns-then-is_sound-clause-sound : goal.returns-then-is_sound-clause-sound
returns-then-is_sound-clause-sound c = λ e. search state_read
