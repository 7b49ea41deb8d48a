use Rattle.threads.proofs.Ways.{released}
use Rattle.threads.proofs.release.Goals as goal

pub returns-clause-words_after : goal.returns-clause-words_after
returns-clause-words_after c = search released
