use Rattle.collector.proofs.Ends.{row_there}
use Rattle.collector.proofs.take_thread.Goals as goal

pub release-requires-clause-t_lt_max_threads : goal.release-requires-clause-t_lt_max_threads
release-requires-clause-t_lt_max_threads c = search row_there
