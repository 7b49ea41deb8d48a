-- A turn: the move that a thread makes, the state after it, and what it comes to. Assumes nothing.
use Rattle.std.specs.declared.ops.ControlFlow.TheVariants.{Break, Continue}
use Rattle.rules.specs.Answers.{Stepped, Turn}
use Rattle.std.specs.Prelude.{ℕ, ◌<◌, ◌≤◌, ◌≡◌, true, Err, Ok}
use Rattle.std.proofs.Math.Path.{refl}
use Rattle.std.proofs.Common.{sym}
use borrow.Author.Tests.{lt-ltb, le-ltb}
use Rattle.table.specs.Table.{Table}
use Rattle.state.specs.State.{State, thread, max_threads, is_ready, with_mark}
use Rattle.rules.specs.Holding.{settled}
use Rattle.rules.specs.Moves.{one_up, move, written, perform}
use Rattle.rules.specs.declared.Move.{Move}
use Rattle.rules.specs.declared.Move.TheVariants.{Ends, Calls, Waits, Goes, Creates, Spawns, Meets, LacksThread, LacksChannel}
use Rattle.rules.specs.Calls.{step_answer, next_ready, past_turn, reason_for, turn_for, turn_by, Turned, turned, turn_end, take_turn}
use Rattle.rules.specs.declared.Refusal.{Refusal}
use Rattle.rules.specs.declared.Deed.{Deed}
use Rattle.rules.specs.declared.Reason.{Reason}
use Rattle.rules.specs.declared.Reason.TheVariants.{NoneReady}
use Rattle.next_rows.specs.Around.{next_ready_in}
use Rattle.rules_laws.specs.Decided.{spawns_free}
use Rattle.rules_laws.specs.Granted.{Granted}
use Rattle.rules_laws.specs.Soundness.{Sound}
use Rattle.rules_laws.specs.Lasting.{move_kept, turn_kept}
use Rattle.turns.specs.Made.{ChildIn}

-- ---- the move that a thread makes

module _ (tb : Table) (s : State) (t : ℕ) where
  decided_child : (m : Move) → move tb s t ≡ m → ChildIn m
  unfolding ChildIn
  decided_child Ends e = tt
  decided_child Calls e = tt
  decided_child Waits e = tt
  decided_child (Goes i) e = tt
  decided_child (Creates i c) e = tt
  decided_child (Spawns i u) e = (spawns_free tb s t i u e).0
  decided_child (Meets i u j) e = tt
  decided_child LacksThread e = tt
  decided_child LacksChannel e = tt

  pub move_child : (m : Move) → m ≡ move tb s t → ChildIn m
  move_child m e = decided_child m (sym e)

-- after a move, and after the turn has moved on, the state is sound
module _ (tb : Table) (g : Granted tb) (s : State) (ok : Sound tb s) (t : ℕ) (l : t < max_threads) (r : is_ready (thread s t) ≡ true) where
  pub turn_sound : (s₁ s₂ : State) (v : ℕ) → s₂ ≡ with_mark s₁ 2 v → s₁ ≡ perform tb s t (move tb s t) → v ≡ one_up max_threads t → Sound tb s₂
  unfolding past_turn
  turn_sound s₁ s₂ v f h i = rw (f, h, i) (turn_kept tb (perform tb s t (move tb s t)) (move_kept tb g s ok t l r) t l)

-- ---- a turn in a settled state: a move that lacks a row changes nothing

module _ (tb : Table) (s : State) (whole : settled tb s ≡ s) (t : ℕ) where
  made_turn : (m n : Move) → n ≡ m → move tb s t ≡ n → turned (turn_by t m) (past_turn (perform tb s t m) t) ≡ turn_end tb s t (turn_by t m)
  unfolding step_answer turn_for turn_by turn_end perform written
  made_turn Ends n f e = rw (e, f)
  made_turn Calls n f e = rw (e, f)
  made_turn Waits n f e = rw (e, f)
  made_turn (Goes i) n f e = rw (e, f)
  made_turn (Creates i c) n f e = rw (e, f)
  made_turn (Spawns i u) n f e = rw (e, f)
  made_turn (Meets i u j) n f e = rw (e, f)
  made_turn LacksThread n f e = rw whole
  made_turn LacksChannel n f e = rw whole

  pub turn_ends : (m : Move) (s₁ s₂ : State) (w : Turn) (v : ℕ) → s₂ ≡ with_mark s₁ 2 v → s₁ ≡ perform tb s t (move tb s t) → m ≡ move tb s t
      → v ≡ one_up max_threads t → w ≡ turn_by t m
      → turned w s₂ ≡ turn_end tb s t (turn_by t (move tb s t))
  unfolding past_turn
  turn_ends m s₁ s₂ w v f g h i j = rw (f, g, i, j, h) (made_turn (move tb s t) (move tb s t) refl refl)

-- ---- the arms: the answer to a step, and what a turn comes to

pub answer_arm : (r : Stepped) (n : ℕ) (m k : Move) → m ≡ k → r ≡ step_answer n k → r ≡ step_answer n m
answer_arm r n m k e f = rw e f

pub reason_arm : (r : Reason) (t : ℕ) (g h : Refusal) → g ≡ h → r ≡ reason_for t h → r ≡ reason_for t g
reason_arm r t g h e f = rw e f

module _ (t : ℕ) (m : Move) (a : Stepped) (e : a ≡ step_answer 0 m) where
  pub went_by : (n : ℕ) (d : Deed) → a ≡ Ok (n, d) → Continue tt ≡ turn_by t m
  unfolding turn_by turn_for
  went_by n d f = rw (← e, f)

  pub stopped_by : (g : Refusal) (r : Reason) → a ≡ Err g → r ≡ reason_for t g → Break r ≡ turn_by t m
  unfolding turn_by turn_for
  stopped_by g r f h = rw (← e, f, h)

module _ (tb : Table) (s : State) (t : ℕ) (e : t ≡ next_ready s) where
  pub next_turn : (k : Turned) → k ≡ turn_end tb s t (turn_by t (move tb s t)) → t < max_threads → k ≡ take_turn tb s
  unfolding take_turn
  next_turn k f h = rw (← e, lt-ltb t 64 h) f

  pub no_turn : max_threads ≤ t → turned (Break NoneReady) s ≡ take_turn tb s
  unfolding take_turn
  no_turn h = rw (← e, le-ltb t 64 h)

pub next_is_ready : (s : State) (t : ℕ) → t ≡ next_ready s → t < max_threads → is_ready (thread s t) ≡ true
next_is_ready s t e h = rw e (next_ready_in s (rw e at h))
