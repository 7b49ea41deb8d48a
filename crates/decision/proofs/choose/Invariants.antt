-- `decision::choose` meets its contract. The loop: no branch passed goes ahead. Assumes nothing.
use Prim.Native.Nat.{◌≤◌}
use mathlib.Core.Path.{◌≡◌}
use Rattle.numbers.specs.Search.{first}
use Rattle.rules.specs.Moves.{ahead}
use Rattle.decision.proofs.choose.Given as goal

abbrev pub invariant-loop-i : goal.invariant-loop-i
invariant-loop-i l = (l.i ≤ l.n) × (first (ahead l.moment.table l.moment.state l.t) l.i ≡ l.i)
