use mathlib.Core.Path.{refl}
use borrow.Author.Tests.{not-false}
use borrow.Author.Rules.{rules}
use Rattle.numbers.specs.Search.Laws.{every_none, every_more, contra}
use Rattle.state.specs.State.Laws.{used_below}
use Rattle.waits.proofs.Ways.{branches_none, branches_more, branches_all, row_held, held_all, held_not}
use Rattle.waits.proofs.note_branches.Goals as goal

pub loop-i-init : goal.loop-i-init
loop-i-init c = (search rules, search every_none, search branches_none, search branches_none)

pub returns-then-not-note_branch-clause-value : goal.returns-then-not-note_branch-clause-value
returns-then-not-note_branch-clause-value c = search (held_not, row_held)

pub returns-then-not-note_branch-clause-senders_after : goal.returns-then-not-note_branch-clause-senders_after
returns-then-not-note_branch-clause-senders_after c = λ e. contra e refl

pub returns-then-not-note_branch-clause-receivers_after : goal.returns-then-not-note_branch-clause-receivers_after
returns-then-not-note_branch-clause-receivers_after c = λ e. contra e refl

pub loop-i-preserved : goal.loop-i-preserved
loop-i-preserved c = (search rules, search (every_more, row_held, not-false), search branches_more, search branches_more)

pub returns-clause-value : goal.returns-clause-value
returns-clause-value c = search held_all

pub returns-clause-senders_after : goal.returns-clause-senders_after
returns-clause-senders_after c = λ e. search branches_all

pub returns-clause-receivers_after : goal.returns-clause-receivers_after
returns-clause-receivers_after c = λ e. search branches_all

-- a thread that waits has a row
pub note_branch-requires : goal.note_branch-requires
note_branch-requires c = used_below c.args.state.now c.args.t (rw c.requires.waits refl)
