use borrow.Author.Rules.{rules}
use mathlib.Core.Path.{◌≡◌, refl}
use Rattle.numbers.specs.Search.{some}
use Rattle.numbers.specs.Search.Chains.{some_any}
use Rattle.state.specs.State.{state_of, thread}
use Rattle.threads.specs.Looking.{reaches_at}
use Rattle.threads.proofs.Ways.{not_waiting, offers_here, reaches_there}
use Rattle.threads.proofs.offers_marked.Goals as goal

pub returns-then-status_of-ne-WAITING : goal.returns-then-status_of-ne-WAITING
returns-then-status_of-ne-WAITING c = search not_waiting

pub returns : goal.returns
returns c =
    let p = reaches_at c.args.table.now (thread (state_of c.args.words.now) c.args.t) c.args.marks.now in
    let h : c.any.result ≡ some p c.branch_count-n.result = some_any p _ refl _ _ c.any.result c.any.ensures.ran (λ x b q k. search (reaches_there, rules)) in
    search (offers_here, rules)
