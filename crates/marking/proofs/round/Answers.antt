use mathlib.Core.Path.{refl}
use Rattle.marking.proofs.Marking.Laws.{marking_more, fewer_none, fewer_more, still_none, still_more, still_all}
use borrow.Author.Rules.{rules}
use Rattle.marking.proofs.round.Goals as goal

pub loop-t-init : goal.loop-t-init
loop-t-init c = (search rules, search rules, search fewer_none, λ e. search still_none)

pub loop-t-preserved : goal.loop-t-preserved
loop-t-preserved c = (
  search rules,
  search marking_more,
  search fewer_more,
  λ e. still_more _ _ _ _ _ _ _ _ c.visit-changed.ensures.marks_after c.visit-changed.ensures.known_after c.visit-changed.ensures.value c.loop-t.changed _ refl
      c.loop-t.invariant.3 e,
)

pub returns-clause-still : goal.returns-clause-still
returns-clause-still c = λ e. search still_all
