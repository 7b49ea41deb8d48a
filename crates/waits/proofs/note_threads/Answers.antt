use borrow.Author.Tests.{not-false}
use borrow.Author.Rules.{rules}
use Rattle.numbers.specs.Search.Laws.{every_laws}
use Rattle.waits.proofs.Ways.{threads_none, threads_more, threads_all}
use Rattle.waits.proofs.note_threads.Goals as goal

pub loop-t-init : goal.loop-t-init
loop-t-init c = (search rules, search every_laws, search threads_none, search threads_none)

pub returns-then-not-note_thread-clause-value : goal.returns-then-not-note_thread-clause-value
returns-then-not-note_thread-clause-value c = search every_laws

pub loop-t-preserved : goal.loop-t-preserved
loop-t-preserved c = (search rules, search (every_laws, not-false), search threads_more, search threads_more)

pub returns-clause-value : goal.returns-clause-value
returns-clause-value c = search every_laws

pub returns-clause-senders : goal.returns-clause-senders
returns-clause-senders c = search threads_all

pub returns-clause-receivers : goal.returns-clause-receivers
returns-clause-receivers c = search threads_all
