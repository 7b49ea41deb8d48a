-- One law for each way out of the calls. Assumes nothing.
use Rattle.std.specs.declared.ops.ControlFlow.TheVariants.{Continue}
use Rattle.std.specs.Prelude.{Err, None, Ok, Some}
use Rattle.rules.specs.Answers.{Partner, Stepped, Turn}
use Prim.Native.Nat.{ℕ, ◌+◌, ◌-◌, ◌<◌, ◌≤◌}
use native.Mathlib.Omega.{arith}
use mathlib.Core.Path.{◌≡◌, refl, sym, ◌∙◌, ap}
use mathlib.Core.List.{List}
use mathlib.Core.Bool.{Bool, true, false}
use lib.Dec.{eqb, ltb}
use lib.ListN.{get_or}
use lib.Seq.{get_or-set_other, set-get_or, set-set}
use borrow.Author.Tests.{lt-ltb, le-ltb, ltb-true}
use Rattle.numbers.specs.Rows.{at}
use Rattle.numbers.specs.Tests.{and_left, and_right}
use Rattle.table.specs.Table.{Table}
use Rattle.state.specs.State.{State, max_threads, max_channels, thread, stands_at, is_ready, with_mark, with_thread, with_channel, with_channels, with_marks}
use Rattle.rules.specs.Holding.{settled}
use Rattle.rules.specs.Offers.{partner_of}
use Rattle.rules.specs.Moves.{one_up, move, written, perform, typed, spawned_by, value_by, met_by_bench}
use Rattle.rules.specs.Calls.{afterwards, step_answer, step_end, can_step, step_on, bench, given_to, give_on, taken_from, take_on, Course, course, is_ready_thread, next_ready, past_turn, turn_by, turned, turn_end, course_of, run_on}
use Rattle.rules.specs.declared.Direction.TheVariants.{Out, In}
use Rattle.rules.specs.declared.Move.{Move}
use Rattle.rules.specs.declared.Move.TheVariants.{Ends, Calls, Waits, Goes, Creates, Spawns, Meets, LacksThread, LacksChannel}
use Rattle.rules.specs.declared.Refusal.TheVariants.{Thread, Port}
use Rattle.rules.specs.declared.Reason.{Reason}
use Rattle.rules_laws.specs.Soundness.{Sound}
use Rattle.rules_laws.specs.Soundness.Laws.{sound_settled}
use Rattle.turns.specs.declared.Round.{Round}
use Rattle.turns.specs.Made.Laws.{turn_ends}
use Rattle.turns.specs.Running.{TurnTaken}
use Rattle.turns.specs.Weights.{weighed_after}
use Rattle.turns.specs.Weights.Laws.{weighed_mark}
use Rattle.calls.specs.Course.{OneTurn, after, turn_at, course_by, course_by_lem, course_none, course_more, last_turn}

-- ---- ground 11

module _ (s : State) (t : ℕ) where
  pub step_inside : (v : ℕ) → v ≡ at s.threads t 0 → t < max_threads → eqb v 1 ≡ can_step s t
  unfolding can_step
  step_inside v e h = rw (lt-ltb t 64 h, e)

  pub step_outside : max_threads ≤ t → false ≡ can_step s t
  unfolding can_step
  step_outside h = rw (le-ltb t 64 h)

  module _ (r : Bool) (e : r ≡ can_step s t) (f : r ≡ true) where
    pub step_low : t < max_threads
    unfolding can_step
    step_low = ltb-true t 64 (and_left (ltb t max_threads) (is_ready (thread s t)) (sym e ∙ f))

    pub step_is_ready : is_ready (thread s t) ≡ true
    unfolding can_step
    step_is_ready = and_right (ltb t max_threads) (is_ready (thread s t)) (sym e ∙ f)

-- ---- one turn, and the turn put back

settled_mark : (tb : Table) (s : State) (v : ℕ) → settled tb (with_mark s 2 v) ≡ with_mark (settled tb s) 2 v
unfolding settled with_mark with_channels
settled_mark tb s v = refl

module _ (tb : Table) (s : State) where
  by_one : settled tb s ≡ s → (t : ℕ) → t < max_threads → (course_by tb 1 s t).state ≡ past_turn (perform tb s t (move tb s t)) t
  unfolding course_by turn_at past_turn
  by_one whole t l =
      let e = turn_ends tb s whole t (move tb s t) (perform tb s t (move tb s t)) (with_mark (perform tb s t (move tb s t)) 2 (one_up max_threads t)) (turn_by t (move tb s t)) (one_up max_threads t) refl refl refl refl refl in
      rw (lt-ltb t 64 l, ← e) (last_turn tb (turn_by t (move tb s t)) (with_mark (perform tb s t (move tb s t)) 2 (one_up max_threads t)))

module _ (tb : Table) (s : State) (t : ℕ) where
  -- a move leaves the turn as it is
  turn_stays : (m : Move) → get_or (perform tb s t m).marks 2 0 ≡ get_or s.marks 2 0
  unfolding perform written spawned_by typed settled with_channels with_channel with_thread with_mark
  turn_stays Ends = refl
  turn_stays Calls = refl
  turn_stays Waits = refl
  turn_stays (Goes i) = refl
  turn_stays (Creates i c) = get_or-set_other s.marks 1 2 (one_up max_channels c) 0 (λ e. absurd (omega arith))
  turn_stays (Spawns i u) = get_or-set_other s.marks 0 2 (one_up max_threads u) 0 (λ e. absurd (omega arith))
  turn_stays (Meets i u j) = refl
  turn_stays LacksThread = refl
  turn_stays LacksChannel = refl

  put_back : (m : Move) → with_mark (past_turn (perform tb s t m) t) 2 (get_or s.marks 2 0) ≡ perform tb s t m
  unfolding past_turn with_mark
  put_back m =
      ap (λ (y : List ℕ). with_marks (perform tb s t m) y)
      (set-set (perform tb s t m).marks 2 (one_up max_threads t) (get_or s.marks 2 0) ∙ rw (← turn_stays m) (set-get_or (perform tb s t m).marks 2 0))

-- ---- step: s before and s₁ after

module _ (s s₁ : State) (tb : Table) (ok : Sound tb s) (t : ℕ) where
  whole : settled tb s ≡ s
  whole = sound_settled tb s ok

  step_made : (n : ℕ) (m : Move) → s₁ ≡ perform tb s t m → afterwards (step_answer n m) s₁ ≡ step_end (step_answer n m) s (perform tb s t m)
  unfolding step_answer step_end perform written
  step_made n Ends e = ap (afterwards _) e
  step_made n Calls e = ap (afterwards _) e
  step_made n Waits e = ap (afterwards _) e
  step_made n (Goes i) e = ap (afterwards _) e
  step_made n (Creates i c) e = ap (afterwards _) e
  step_made n (Spawns i u) e = ap (afterwards _) e
  step_made n (Meets i u j) e = ap (afterwards _) e
  step_made n LacksThread e = ap (afterwards _) (e ∙ whole)
  step_made n LacksChannel e = ap (afterwards _) (e ∙ whole)

  step_answered : (n : ℕ) (m : Move) (r : Stepped) (x : Bool) → s₁ ≡ perform tb s t (move tb s t)
      → r ≡ step_answer n m → m ≡ move tb s t → n ≡ at s.threads t 1 → x ≡ can_step s t → x ≡ true → afterwards r s₁ ≡ step_on tb s t
  unfolding step_on
  step_answered n m r x e p q i j k = rw (← j, k, p, q, i) (step_made (stands_at (thread s t)) (move tb s t) e)

  -- The turn is put back: s₂ is the state after the turn, s₃ that with the turn put back, s₁ that with all counts settled.
  turned_back : (i v : ℕ) (r : Reason) (s₂ s₃ : State) → course i r (settled tb s₂) ≡ course_by tb 1 s t → t < max_threads → s₁ ≡ settled tb s₃
      → s₃ ≡ with_mark s₂ 2 v → v ≡ get_or s.marks 2 0
      → s₁ ≡ perform tb s t (move tb s t)
  turned_back i v r s₂ s₃ e l f k g =
      let q : settled tb s₂ ≡ past_turn (perform tb s t (move tb s t)) t = ap (λ (k : Course). k.state) e ∙ by_one tb s whole t l in
      f ∙ rw (k, settled_mark tb s₂ v, q, g) (put_back tb s t (move tb s t))

  pub step_done : (i v n : ℕ) (r : Reason) (s₂ s₃ : State) (m : Move) (a : Stepped) (x : Bool) → course i r (settled tb s₂) ≡ course_by tb 1 s t
      → s₁ ≡ weighed_after tb n t m s₃
      → s₃ ≡ with_mark s₂ 2 v → v ≡ get_or s.marks 2 0 → (t < max_threads → ◌≡◌ {A = ℕ} 1 1 → OneTurn tb s t m s₂) → a ≡ step_answer n m → n ≡ at s.threads t 1
      → x ≡ can_step s t → x ≡ true → afterwards a s₁ ≡ step_on tb s t
  step_done i v n r s₂ s₃ m a x e f w g o p q j k =
      let l : t < 64 = step_low s t x j k in
      let (d, z) = o l refl in
      let y : s₁ ≡ settled tb s₃ = f ∙ rw (w, q, weighed_mark tb (stands_at (thread s t)) t s₂ 2 v m, ← z) (sym (settled_mark tb s₂ v)) in
      step_answered n m a x (turned_back i v r s₂ s₃ e l y w g) p d q j k

pub step_refused : (tb : Table) (s : State) (t : ℕ) (x : Bool) → x ≡ can_step s t → x ≡ false → afterwards (Err Thread) s ≡ step_on tb s t
unfolding step_on
step_refused tb s t x e f = rw (← e, f)

-- ---- give and take: p is the port, n the number of ports

module _ (tb : Table) (s : State) (p n : ℕ) (e : n ≡ at tb 0 6) where
  pub give_refused : (v : ℕ) → n ≤ p → afterwards (Err Port) s ≡ give_on tb s p v
  unfolding give_on
  give_refused v h = rw (le-ltb p (at tb 0 6) (omega arith))

  pub take_refused : n ≤ p → afterwards (Err Port) s ≡ take_on tb s p
  unfolding take_on
  take_refused h = rw (le-ltb p (at tb 0 6) (omega arith))

  module _ (h : p < n) (x : Partner) where
    pub give_nobody : (v : ℕ) → x ≡ partner_of tb s bench In p → x ≡ None → afterwards (Ok None) s ≡ give_on tb s p v
    unfolding give_on given_to
    give_nobody v f g = rw (lt-ltb p (at tb 0 6) (omega arith), ← f, g)

    pub take_nobody : x ≡ partner_of tb s bench Out p → x ≡ None → afterwards (Ok None) s ≡ take_on tb s p
    unfolding take_on taken_from
    take_nobody f g = rw (lt-ltb p (at tb 0 6) (omega arith), ← f, g)

    module _ (s₁ : State) (u j : ℕ) (g : x ≡ Some (u, j)) where
      pub give_met : (v : ℕ) → s₁ ≡ met_by_bench tb s u j v → x ≡ partner_of tb s bench In p → afterwards (Ok (Some u)) s₁ ≡ give_on tb s p v
      unfolding give_on given_to
      give_met v i f = rw (lt-ltb p (at tb 0 6) (omega arith), ← f, g) (ap (afterwards _) i)

      pub take_met : (v : ℕ) → s₁ ≡ met_by_bench tb s u j 0 → v ≡ value_by tb (thread s u) j → x ≡ partner_of tb s bench Out p
          → afterwards (Ok (Some (u, v))) s₁ ≡ take_on tb s p
      unfolding take_on taken_from
      take_met v i q f = rw (lt-ltb p (at tb 0 6) (omega arith), ← f, g, q) (ap (afterwards _) i)

-- ---- turns: s₀ and t₀ at first, s and t after i turns, the last of which made move m

module _ (tb : Table) (s₀ : State) (t₀ : ℕ) where
  abbrev pub Followed : ℕ → State → ℕ → Move → Type 0
  Followed i s t m = (i ≡ 0 → (s ≡ s₀) × (t ≡ t₀)) × (i ≡ 1 → OneTurn tb s₀ t₀ m s)

  pub followed_none : (m : Move) → Followed 0 s₀ t₀ m
  followed_none m = (λ e. (refl, refl), λ e. absurd (omega arith))

  module _ (i : ℕ) (s : State) (t : ℕ) (m : Move) (f : Followed i s t m) (r : Round) (s₁ : State) (a : TurnTaken tb s t r s₁) (ok : Sound tb s₀) where
    first_is : i ≡ 0 → OneTurn tb s₀ t₀ r.decided s₁
    first_is z =
        let (p, q) = f.0 z in
        let whole : settled tb s ≡ s = rw p (sound_settled tb s₀ ok) in
        (a.decided ∙ rw (whole, p, q), rw (p, q) at (a.weights whole))

    pub followed_more : (t₁ : ℕ) → Followed (i + 1) s₁ t₁ r.decided
    followed_more t₁ = (λ z. absurd (omega arith), λ z. first_is (omega arith))

    -- what it comes to where only one turn was asked for
    pub stopped_last : (n : ℕ) → i < n → t₀ < max_threads → n ≡ 1 → OneTurn tb s₀ t₀ r.decided s₁
    stopped_last n h l o = first_is (omega arith)

  module _ (i : ℕ) (s : State) (t : ℕ) (m : Move) (f : Followed i s t m) (n : ℕ) where
    pub nobody_last : i < n → max_threads ≤ t → t₀ < max_threads → n ≡ 1 → OneTurn tb s₀ t₀ m s
    nobody_last h j l o = let (p, q) = f.0 (omega arith) in absurd (omega arith)

    pub all_last : i ≤ n → n ≤ i → t₀ < max_threads → n ≡ 1 → OneTurn tb s₀ t₀ m s
    all_last h j l o = f.1 (omega arith)

-- a sound state is settled
module _ (tb : Table) (s : State) (ok : Sound tb s) where
  pub course_begins : (n t : ℕ) → course_by tb n s t ≡ after 0 (course_by tb (n - 0) (settled tb s) t)
  course_begins n t = rw (sound_settled tb s ok) (course_none tb n s t)

-- the next turn, in a state whose counts of waiting holders are still to be settled
pub course_goes_on : (tb : Table) (n : ℕ) (s : State) (t i : ℕ) (s₁ s₂ : State) (u v : ℕ) (w : Turn)
    → course_by tb n s t ≡ after i (course_by tb (n - i) (settled tb s₁) u) → i < n
    → turned w (settled tb s₂) ≡ turn_end tb (settled tb s₁) u (turn_by u (move tb (settled tb s₁) u)) → u < max_threads → w ≡ Continue tt → v ≡ next_ready s₂
    → course_by tb n s t ≡ after (i + 1) (course_by tb (n - (i + 1)) (settled tb s₂) v)
unfolding next_ready is_ready_thread settled with_channels
course_goes_on tb n s t i s₁ s₂ u v w f h e l g j = course_more tb n s t i (settled tb s₁) u f h w (settled tb s₂) e l v g j

-- ---- run

pub run_done : (tb : Table) (s s₁ s₂ : State) (n i t : ℕ) (r : Reason) → course i r (settled tb s₁) ≡ course_by tb n s t → s₂ ≡ settled tb s₁ → t ≡ next_ready s
    → afterwards (Ok (i, r)) s₂ ≡ run_on tb s n
unfolding run_on
run_done tb s s₁ s₂ n i t r e g f =
    let k : course_of tb n s ≡ course i r s₂ = sym (rw g (e ∙ rw f (course_by_lem tb n s))) in
    rw k
