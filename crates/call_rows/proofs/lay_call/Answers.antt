use mathlib.Core.Path.{refl}
use borrow.Author.Rules.{rules}
use Rattle.thread_rows.specs.WrittenRows.Laws.{slots_none}
use native.Mathlib.Omega.{arith}
use Rattle.call_rows.specs.CalledRow.Laws.{last_le, calls_more, calls_laid, kept_none, kept_more, kept_all}
use Rattle.call_rows.proofs.lay_call.Goals as goal

pub loop-k-init : goal.loop-k-init
loop-k-init c = (search rules, search slots_none, search kept_none)

pub bounds-slots-k : goal.bounds-slots-k
bounds-slots-k c = omega (arith, last_le c.args.p c.args.n)

pub loop-k-preserved : goal.loop-k-preserved
loop-k-preserved c = (
  search rules,
  search calls_more fits 5000,
  kept_more _ _ _ _ _ _ _ c.call_slot-v.result _ c.loop-k.keeps c.slot_keeps-keeps.result refl (search) c.slot_keeps-keeps.ensures c.call_slot-v.ensures,
)

pub returns-clause-slots : goal.returns-clause-slots
returns-clause-slots c = search calls_laid

pub returns-clause-keeps : goal.returns-clause-keeps
returns-clause-keeps c = search kept_all
