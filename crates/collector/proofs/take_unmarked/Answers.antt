use Rattle.collector.specs.Freeing.Laws.{freed_all, freed_more, counted_none, counted_more, counted_all, counted_fits}
use borrow.Author.Rules.{rules}
use Rattle.collector.proofs.Ends.{none_freed}
use Rattle.collector.proofs.take_unmarked.Goals as goal

pub loop-t-init : goal.loop-t-init
loop-t-init c = (search rules, search none_freed, search counted_none, search rules)

pub overflow_add-count : goal.overflow_add-count
overflow_add-count c = search counted_fits

pub loop-t-preserved : goal.loop-t-preserved
loop-t-preserved c = (search rules, search freed_more, search counted_more, search rules)

pub returns-clause-value : goal.returns-clause-value
returns-clause-value c = search counted_all

pub returns-clause-state_after : goal.returns-clause-state_after
returns-clause-state_after c = search freed_all
