use Rattle.driver.specs.Restore.Laws.{load_answered}
use Rattle.driver.proofs.driver_restore.Goals as goal

pub returns : goal.returns
returns c = search load_answered
