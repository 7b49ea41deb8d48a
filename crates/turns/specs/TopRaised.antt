-- After a move of a ready thread no row is in use from the old number on or, where it makes a thread further up, from one past that thread on.
-- Assumes nothing.
use Rattle.std.specs.Prelude.{ℕ, suc, ◌+◌, ◌<◌, ◌≤◌, ◌≡◌, refl, true, cond, List, ltb}
use native.Mathlib.Omega.{arith}
use Rattle.std.proofs.Common.{add-one, Fits}
use Rattle.std.specs.Int.{w32}
use borrow.Author.Tests.{lt-ltb, le-ltb, ltb-true, ltb-false}
use Rattle.numbers.specs.Search.Laws.{case_b}
use Rattle.table.specs.Table.{Table}
use Rattle.state.specs.State.{State, max_threads, thread, is_ready, with_mark, with_thread, with_channel, with_channels}
use Rattle.state.specs.State.Laws.{thread_other}
use Rattle.rules.specs.Holding.{settled}
use Rattle.rules.specs.Moves.{move, written, perform, typed, spawned_by}
use Rattle.rules.specs.declared.Move.{Move}
use Rattle.rules.specs.declared.Move.TheVariants.{Ends, Calls, Waits, Goes, Creates, Spawns, Meets, LacksThread, LacksChannel}
use Rattle.next_rows.specs.UsedBelow.{UsedBelow, top_le, ready_below, waiting_below}
use Rattle.rules_laws.specs.Decided.{meets_waiting, spawns_free}
use Rattle.turns.specs.Made.{ChildIn}

-- the number after a move
unfoldable pub raised_by : ℕ → Move → ℕ
raised_by top Ends = top
raised_by top Calls = top
raised_by top Waits = top
raised_by top (Goes i) = top
raised_by top (Creates i c) = top
raised_by top (Spawns i u) = cond (ltb u top) top (suc u)
raised_by top (Meets i u j) = top
raised_by top LacksThread = top
raised_by top LacksChannel = top

module _ (s : State) (top : ℕ) (used : UsedBelow s top) where
  -- what writes no thread row
  used_mark : (i v : ℕ) → UsedBelow (with_mark s i v) top
  unfolding UsedBelow with_mark
  used_mark i v = used

  used_typed : (c ty : ℕ) → UsedBelow (typed s c ty) top
  unfolding UsedBelow typed with_channel
  used_typed c ty = used

  used_settled : (tb : Table) → UsedBelow (settled tb s) top
  unfolding UsedBelow settled with_channels
  used_settled tb = used

  -- what writes a row below
  used_thread : (t : ℕ) (row : List ℕ) → t < top → UsedBelow (with_thread s t row) top
  unfolding UsedBelow
  used_thread t row h = (used.0, λ u l. rw (thread_other s t row u (λ q. absurd (omega arith))) (used.1 u l))

  -- a larger number
  used_more : (k : ℕ) → top ≤ k → k ≤ max_threads → UsedBelow s k
  unfolding UsedBelow
  used_more k h l = (l, λ u j. used.1 u (omega arith))

module _ (tb : Table) (s : State) (t top : ℕ) (used : UsedBelow s top) (r : is_ready (thread s t) ≡ true) where
  low : t < top
  low = ready_below s top used t r

  one : (row : List ℕ) → UsedBelow (with_thread s t row) top
  one row = used_thread s top used t row low

  two : (u k : ℕ) (row row' : List ℕ) → u < k → top ≤ k → k ≤ max_threads → UsedBelow (with_thread (with_thread s t row) u row') k
  two u k row row' h l j =
      used_thread (with_thread s t row) k (used_thread s k (used_more s top used k l j) t row (omega (arith, low))) u row' h

  child : (u : ℕ) (row row' : List ℕ) → u < max_threads → UsedBelow (with_thread (with_thread s t row) u row') (cond (ltb u top) top (suc u))
  unfolding UsedBelow
  child u row row' h =
      case_b (ltb u top)
      (λ y. rw y (two u top row row' (ltb-true u top y) (omega arith) used.0))
      (λ y. rw y (two u (suc u) row row' (omega arith) (omega (arith, ltb-false u top y)) (omega arith)))

  made_used : (m : Move) → move tb s t ≡ m → UsedBelow (perform tb s t m) (raised_by top m)
  unfolding perform written spawned_by raised_by
  made_used Ends e = used_settled _ top (one _) tb
  made_used Calls e = used_settled _ top (one _) tb
  made_used Waits e = used_settled _ top (one _) tb
  made_used (Goes i) e = used_settled _ top (one _) tb
  made_used (Creates i c) e = used_settled _ top (used_mark _ top (used_typed _ top (one _) c _) 1 _) tb
  made_used (Spawns i u) e = used_settled _ _ (used_mark _ _ (child u _ _ (spawns_free tb s t i u e).0) 0 _) tb
  made_used (Meets i u j) e =
      used_settled _ top (two u top _ _ (waiting_below s top used u (meets_waiting tb s t i u j e)) (omega arith) (top_le s top used)) tb
  made_used LacksThread e = used_settled s top used tb
  made_used LacksChannel e = used_settled s top used tb

  -- after the turn: s₁ after the move, s₂ with the turn moved on
  pub turn_used : (m : Move) (s₁ s₂ : State) (v k : ℕ) → s₂ ≡ with_mark s₁ 2 v → s₁ ≡ perform tb s t (move tb s t) → m ≡ move tb s t → k ≡ raised_by top m
      → UsedBelow s₂ k
  turn_used m s₁ s₂ v k f g h i = rw (f, i, h, g) (used_mark _ _ (made_used (move tb s t) refl) 2 v)

-- ---- arms

module _ (r top : ℕ) (m : Move) where
  pub raised_arm : (n : Move) → m ≡ n → r ≡ raised_by top n → r ≡ raised_by top m
  raised_arm n e f = rw e f

  module _ (i u : ℕ) (e : m ≡ Spawns i u) where
    pub raised_kept : u < top → top ≡ raised_by top m
    unfolding raised_by
    raised_kept h = rw (e, lt-ltb u top h)

    pub raised_child : top ≤ u → u + 1 ≡ raised_by top m
    unfolding raised_by
    raised_child h = rw (e, le-ltb u top h) (add-one u)

    pub child_fits : ChildIn m → Fits w32 (u + 1)
    unfolding ChildIn
    child_fits a = let h : u < max_threads = rw e at a in omega arith
