-- A run seen from a step in its midst. Assumes nothing.
use Rattle.std.specs.declared.ops.ControlFlow.TheVariants.{Break, Continue}
use Rattle.rules.specs.Answers.{Turn}
use Prim.Native.Nat.{ℕ, zero, suc, ◌+◌, ◌-◌, ◌<◌, ◌≤◌}
use native.Mathlib.Omega.{arith}
use Rattle.std.specs.Prelude.{◌≡◌, cond, ltb}
use Rattle.std.proofs.Math.Path.{refl, sym}
use Rattle.std.proofs.Common.{◌∙◌, lt-ltb, le-ltb}
use Rattle.table.specs.Table.{Table}
use Rattle.state.specs.State.{State, max_threads, thread, stands_at}
use Rattle.rules.specs.Holding.{settled}
use Rattle.rules.specs.Moves.{move}
use Rattle.rules.specs.Calls.{Course, course, one_more, onward, next_ready, turn_by, Turned, turned, turn_end, take_turn, course_of}
use Rattle.rules.specs.declared.Move.{Move}
use Rattle.rules.specs.declared.Reason.{Reason}
use Rattle.rules.specs.declared.Reason.TheVariants.{AllDone, NoneReady}
use Rattle.turns.specs.Counted.{Counted}
use Rattle.turns.specs.Weights.{weighed_after}

-- i steps before all of it
unfoldable pub after : ℕ → Course → Course
after i k = course (i + k.steps) k.reason k.state

module _ (tb : Table) where
  -- thread t's turn; the number past the last thread says that nobody is ready
  unfoldable pub turn_at : State → ℕ → Turned
  turn_at s t = cond (ltb t max_threads) (turn_end tb s t (turn_by t (move tb s t))) (turned (Break NoneReady) s)

  -- at most n steps, the first of them thread t's
  unfoldable pub course_by : ℕ → State → ℕ → Course
  course_by zero s t = course 0 AllDone s
  course_by (suc n) s t = onward (turn_at s t).turn (turn_at s t).state (course_of tb n)

  pub course_by_lem : (n : ℕ) (s : State) → course_by n s (next_ready s) ≡ course_of tb n s
  unfolding course_by turn_at course_of take_turn
  course_by_lem zero s = refl
  course_by_lem (suc n) s = refl

module _ (tb : Table) (n : ℕ) (s : State) (t : ℕ) where
  pub course_none : course_by tb n s t ≡ after 0 (course_by tb (n - 0) s t)
  unfolding after
  course_none =
      let e : n - 0 ≡ n = omega arith in
      let z : 0 + (course_by tb n s t).steps ≡ (course_by tb n s t).steps = omega arith in
      rw (e, z)

  module _ (i : ℕ) (s₁ : State) (u : ℕ) (f : course_by tb n s t ≡ after i (course_by tb (n - i) s₁ u)) (h : i < n) where
    step_on_lem : (k : Turned) → k ≡ turn_at tb s₁ u → course_by tb (n - i) s₁ u ≡ onward k.turn k.state (course_of tb (n - (i + 1)))
    unfolding course_by
    step_on_lem k e =
        let q : n - i ≡ suc (n - (i + 1)) = omega arith in
        rw (q, e)

    -- nobody is ready
    pub course_nobody : max_threads ≤ u → course i NoneReady s₁ ≡ course_by tb n s t
    unfolding after onward turn_at
    course_nobody l =
        let k : course_by tb (n - i) s₁ u ≡ course 0 NoneReady s₁ = step_on_lem (turned (Break NoneReady) s₁) (rw (le-ltb u 64 l)) in
        let x : i + 0 ≡ i = omega arith in
        sym (f ∙ rw (k, x))

    module _ (w : Turn) (s₂ : State) (e : turned w s₂ ≡ turn_end tb s₁ u (turn_by u (move tb s₁ u))) (l : u < max_threads) where
      here : turned w s₂ ≡ turn_at tb s₁ u
      unfolding turn_at
      here = rw (lt-ltb u 64 l) e

      -- a turn that went
      pub course_more : (v : ℕ) → w ≡ Continue tt → v ≡ next_ready s₂ → course_by tb n s t ≡ after (i + 1) (course_by tb (n - (i + 1)) s₂ v)
      unfolding after onward one_more
      course_more v g j =
          let k : course_by tb (n - i) s₁ u ≡ one_more (course_of tb (n - (i + 1)) s₂) = step_on_lem (turned w s₂) here ∙ rw g in
          let x : i + suc (course_of tb (n - (i + 1)) s₂).steps ≡ i + 1 + (course_of tb (n - (i + 1)) s₂).steps = omega arith in
          f ∙ rw (k, j, course_by_lem tb (n - (i + 1)) s₂, x)

      -- a turn that stopped
      pub course_stopped : (r : Reason) → w ≡ Break r → course i r s₂ ≡ course_by tb n s t
      unfolding after onward
      course_stopped r g =
          let k : course_by tb (n - i) s₁ u ≡ course 0 r s₂ = step_on_lem (turned w s₂) here ∙ rw g in
          let x : i + 0 ≡ i = omega arith in
          sym (f ∙ rw (k, x))

  -- all steps made
  pub course_all : (i : ℕ) (s₁ : State) (u : ℕ) → course_by tb n s t ≡ after i (course_by tb (n - i) s₁ u) → i ≤ n → n ≤ i
      → course n AllDone s₁ ≡ course_by tb n s t
  unfolding after course_by
  course_all i s₁ u f h l =
      let e : i ≡ n = omega arith in
      let q : n - n ≡ 0 = omega arith in
      let x : n + 0 ≡ n = omega arith in
      sym (f ∙ rw (e, q, x))

-- thread t's turn in state s, which is settled: it made move m, and what it left is settled by one row at most
abbrev pub OneTurn : Table → State → ℕ → Move → State → Type 0
OneTurn tb s t m s₁ = (m ≡ move tb s t) × (settled tb s₁ ≡ weighed_after tb (stands_at (thread s t)) t m s₁)

-- At most n turns were taken in state s, the first of them thread t's: this many went, they ended for this reason and left s₁, whose counts of waiting holders are
-- still to be settled. Where one turn was asked for, it is that of thread t, with the last move.
pub record TurnsOf (tb : Table) (n : ℕ) (s : State) (t went : ℕ) (reason : Reason) (last : Move) (s₁ : State) : Type 0 where
  pub is_course : course went reason (settled tb s₁) ≡ course_by tb n s t
  pub one_made : t < max_threads → n ≡ 1 → OneTurn tb s t last s₁
  pub counted : Counted tb s₁

-- a turn after which no more steps are asked for
pub last_turn : (tb : Table) (w : Turn) (x : State) → (onward w x (course_of tb 0)).state ≡ x
unfolding onward one_more course_of
last_turn tb (Continue tt) x = refl
last_turn tb (Break r) x = refl
