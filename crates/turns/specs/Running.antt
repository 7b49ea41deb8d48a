-- The invariant of a run, and what a move and a turn leave.
pub mod Laws
use Rattle.std.specs.Prelude.{ℕ, ◌≡◌}
use Rattle.table.specs.Table.{Table}
use Rattle.state.specs.State.{State, thread, stands_at}
use Rattle.rules.specs.Holding.{settled}
use Rattle.rules.specs.Moves.{move, perform}
use Rattle.rules.specs.Calls.{turn_by, turned, turn_end}
use Rattle.rules.specs.declared.Move.{Move}
use Rattle.rules_laws.specs.Granted.{Granted}
use Rattle.rules_laws.specs.Soundness.{Sound}
use Rattle.next_rows.specs.UsedBelow.{UsedBelow}
use Rattle.turns.specs.declared.Round.{Round}
use Rattle.turns.specs.Counted.{Counted}
use Rattle.turns.specs.Weights.{weighed_after}

-- The table is an accepted one. The channel rows of the state are right but for their counts of waiting holders; once these are settled it
-- is a sound state.
pub record Running (tb : Table) (s : State) : Type 0 where
  pub accepted : Granted tb
  pub counted : Counted tb s
  pub sound : Sound tb (settled tb s)

-- Thread t made move m in state s, which left s₁: once settled, s₁ is the state after the move. Where s was settled, one row at most is to be weighed for it.
pub record MoveMade (tb : Table) (s : State) (t : ℕ) (m : Move) (s₁ : State) : Type 0 where
  pub after : settled tb s₁ ≡ perform tb (settled tb s) t m
  pub counted : Counted tb s₁
  pub weights : settled tb s ≡ s → settled tb s₁ ≡ weighed_after tb (stands_at (thread s t)) t m s₁

-- Thread t had its turn in state s, which came to r and left s₁: the turn and the state are those of the rules, r tells the move that was decided, and the run
-- can go on with no row in use from the number in r on. What is to be weighed is as after the move.
pub record TurnTaken (tb : Table) (s : State) (t : ℕ) (r : Round) (s₁ : State) : Type 0 where
  pub ends : turned r.turn (settled tb s₁) ≡ turn_end tb (settled tb s) t (turn_by t (move tb (settled tb s) t))
  pub decided : r.decided ≡ move tb (settled tb s) t
  pub running : Running tb s₁
  pub used : UsedBelow s₁ r.top
  pub weights : settled tb s ≡ s → settled tb s₁ ≡ weighed_after tb (stands_at (thread s t)) t r.decided s₁
