use Rattle.call_rows.specs.CalledRow.Laws.{call_laid}
use Rattle.call_rows.proofs.prepare_call.Goals as goal

pub returns-then-definition_of-d-2-clause-slots : goal.returns-then-definition_of-d-2-clause-slots
returns-then-definition_of-d-2-clause-slots c = search call_laid

pub returns-else-definition_of-d-2-clause-slots : goal.returns-else-definition_of-d-2-clause-slots
returns-else-definition_of-d-2-clause-slots c = search call_laid
