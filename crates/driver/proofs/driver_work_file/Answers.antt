use Rattle.driver.specs.WorkedFile.Laws.{load_refused, start_refused, list_worked}
use Rattle.driver.proofs.driver_work_file.Goals as goal

pub returns-then-loaded-ne0 : goal.returns-then-loaded-ne0
returns-then-loaded-ne0 c = search load_refused

pub returns-then-started-eq0 : goal.returns-then-started-eq0
returns-then-started-eq0 c =
    list_worked _ _ _ _ _ c.load-loaded.ensures.table_after c.load-loaded.ensures.value (search) (search) _ _ c.start-started.ensures.state_after c.start-started.ensures.value (search) (search) _ _ _ _ _ c.driver_work_list.ensures.state_after c.driver_work_list.ensures.answers_after

pub returns-else-started-eq0 : goal.returns-else-started-eq0
returns-else-started-eq0 c = search start_refused
