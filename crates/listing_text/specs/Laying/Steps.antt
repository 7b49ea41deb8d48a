-- The lines of a run's steps, laid turn by turn. Assumes nothing.
use Rattle.std.specs.declared.ops.ControlFlow.TheVariants.{Break, Continue}
use Rattle.rules.specs.Answers.{Stepped, Turn}
use Rattle.std.specs.Prelude.{ℕ, suc, ◌+◌, ◌*◌, ◌<◌, ◌≤◌, List, ◌++◌, ltb, length}
use Rattle.std.proofs.Common.{arith, ◌∙◌, length-append}
use Rattle.std.proofs.Math.Numerals.{add-one}
use Rattle.std.proofs.Math.Path.{◌≡◌, refl, sym, ap}
use Rattle.std.proofs.lemmas.List.Edits.{sets}
use Rattle.numbers.specs.Rows.{at}
use Rattle.numbers.specs.Bytes.{joined}
use Rattle.numbers.specs.Bytes.Laws.{sets_append, joined_snoc}
use Rattle.numbers.specs.Search.{tabulate}
use Rattle.numbers.specs.Search.Laws.{case_b, tabulate_none, tabulate_suc}
use Rattle.numbers.specs.Tests.{clash}
use Rattle.table.specs.Table.{Table}
use Rattle.state.specs.State.{State, max_threads, thread, stands_at}
use Rattle.rules.specs.Holding.{settled}
use Rattle.rules.specs.Moves.{move}
use Rattle.rules.specs.Calls.{step_answer, next_ready, turn_for, turn_by, Course, course, Turned, turned, turn_end, take_turn, course_of}
use Rattle.rules.specs.declared.Move.{Move}
use Rattle.rules.specs.declared.Move.TheVariants.{Ends, Calls, Waits, Goes, Creates, Spawns, Meets, LacksThread, LacksChannel}
use Rattle.rules.specs.declared.Reason.{Reason}
use Rattle.rules.specs.declared.Reason.TheVariants.{AllDone, NoneReady}
use Rattle.rules_laws.specs.Soundness.{Sound}
use Rattle.rules_laws.specs.Soundness.Laws.{sound_settled}
use Rattle.turns.specs.Made.Laws.{next_turn}
use Rattle.listing_lines.specs.Lines.{step_line}
use Rattle.listing_lines.specs.Laid.Laws.{length_line}
use Rattle.listing_text.specs.Listing.{max_steps, turn_line, step_lines}
use Rattle.listing_text.specs.Laying.{shown, Come, lines_to}
use Rattle.listing_text.specs.Laying.Turns.{course_none, course_more, course_stopped, course_all}

-- ---- a turn

-- a turn that was no step has no line anyway
shown_is : (k t n : ℕ) (m : Move) → shown (turn_by t m) (step_line k t (step_answer n m)) ≡ step_line k t (step_answer n m)
unfolding shown turn_for turn_by step_answer step_line
shown_is k t n Ends = refl
shown_is k t n Calls = refl
shown_is k t n Waits = refl
shown_is k t n (Goes i) = refl
shown_is k t n (Creates i c) = refl
shown_is k t n (Spawns i u) = refl
shown_is k t n (Meets i u j) = refl
shown_is k t n LacksThread = refl
shown_is k t n LacksChannel = refl

pub turn_keeps : (tb : Table) (x s₂ : State) → s₂ ≡ settled tb x → Sound tb (settled tb x) → Sound tb s₂
turn_keeps tb x s₂ f ok = rw f ok

module _ (tb : Table) (s : State) where
  pub end_turn : (t : ℕ) (w : Turn) → (turn_end tb s t w).turn ≡ w
  unfolding turn_end
  end_turn t (Continue tt) = refl
  end_turn t (Break r) = refl

  -- a sound state is settled
  module _ (ok : Sound tb s) where
    same : settled tb s ≡ s
    same = sound_settled tb s ok

    -- thread t's turn came to w and left state x, which is settled then
    module _ (t : ℕ) (w : Turn) (x : State) (e : turned w (settled tb x) ≡ turn_end tb (settled tb s) t (turn_by t (move tb (settled tb s) t))) where
      taken : turned w (settled tb x) ≡ turn_end tb s t (turn_by t (move tb s t))
      taken = rw same at e

      says : w ≡ turn_by t (move tb s t)
      says = ap (λ (k : Turned). k.turn) taken ∙ end_turn t (turn_by t (move tb s t))

      pub turn_taken : (s₂ : State) → s₂ ≡ settled tb x → t ≡ next_ready s → t < max_threads → turned w s₂ ≡ take_turn tb s
      turn_taken s₂ f i l = rw f (next_turn tb s t i (turned w (settled tb x)) taken l)

      pub turn_laid : (l l₁ : List ℕ) (p i n : ℕ) (m : Move) (y : Stepped) → l₁ ≡ sets l p (step_line (i + 1) t y) → y ≡ step_answer n m → m ≡ move tb (settled tb s) t
          → n ≡ at s.threads t 1 → t ≡ next_ready s → l₁ ≡ sets l p (shown w (turn_line tb (suc i) s))
      unfolding turn_line
      turn_laid l l₁ p i n m y f g h j o =
          let k : m ≡ move tb s t = h ∙ rw same in
          let q : stands_at (thread s (next_ready s)) ≡ n = rw (← o) (sym j) in
          let z : move tb s (next_ready s) ≡ m = rw (← o) (sym k) in
          let v : w ≡ turn_by t m = says ∙ rw k in
          f ∙ rw (g, add-one i, ← shown_is (suc i) t n m, v, q, z, ← o)

  pub turn_left : (l : List ℕ) (p k : ℕ) (r : Reason) → l ≡ sets l p (shown (Break r) (turn_line tb k s))
  unfolding shown
  turn_left l p k r = refl

  step_long : (k t n : ℕ) (m : Move) → turn_by t m ≡ Continue tt → length (step_line k t (step_answer n m)) ≡ 37
  unfolding turn_for turn_by step_answer step_line
  step_long k t n Ends e = length_line _
  step_long k t n Calls e = length_line _
  step_long k t n Waits e = length_line _
  step_long k t n (Goes i) e = length_line _
  step_long k t n (Creates i c) e = length_line _
  step_long k t n (Spawns i u) e = length_line _
  step_long k t n (Meets i u j) e = length_line _
  step_long k t n LacksThread e = clash cc
  step_long k t n LacksChannel e = clash cc

  -- the line of a turn that was a step
  went_long : (k : ℕ) (w : Turn) (s₂ : State) → turned w s₂ ≡ take_turn tb s → w ≡ Continue tt → length (turn_line tb k s) ≡ 37
  unfolding turn_line take_turn
  went_long k w s₂ e g =
      let h : (take_turn tb s).turn ≡ Continue tt = sym (ap (λ (x : Turned). x.turn) e) ∙ g in
      case_b (ltb (next_ready s) max_threads)
      (λ y. step_long k (next_ready s) _ (move tb s (next_ready s)) (sym (end_turn (next_ready s) (turn_by (next_ready s) (move tb s (next_ready s)))) ∙ rw y at h))
      (λ y. clash (let z : ◌≡◌ {A = Turn} (Break NoneReady) (Continue tt) = rw y at h in cc))

-- ---- the turns of a run

-- the lines are those of the whole run
module _ (tb : Table) (s : State) (i : ℕ) (r : Reason) (s₁ : State) (e : course i r s₁ ≡ course_of tb max_steps s) where
  lines_all : lines_to tb s i ≡ step_lines tb s
  unfolding lines_to step_lines
  lines_all = rw (← ap (λ (k : Course). k.steps) e)

  all_long : length (lines_to tb s i) ≡ i * 37 → i * 37 ≡ length (step_lines tb s)
  all_long h = rw (← lines_all) (sym h)

  all_laid : (l l₁ : List ℕ) → l₁ ≡ sets l 37 (lines_to tb s i) → l₁ ≡ sets l 37 (step_lines tb s)
  all_laid l l₁ h = h ∙ rw lines_all

module _ (tb : Table) (s : State) where
  pub come_none : Come tb s 0 s
  unfolding Come
  come_none n h = course_none tb n s

  pub lines_none : (l : List ℕ) (p : ℕ) → l ≡ sets l p (lines_to tb s 0)
  unfolding lines_to joined
  lines_none l p = rw (tabulate_none (λ i. turn_line tb (suc i) (course_of tb i s).state))

  pub none_long : length (lines_to tb s 0) ≡ 0
  unfolding lines_to joined
  none_long = rw (tabulate_none (λ i. turn_line tb (suc i) (course_of tb i s).state))

  pub come_state : (i : ℕ) (s₁ : State) → Come tb s i s₁ → (course_of tb i s).state ≡ s₁
  unfolding Come
  come_state i s₁ f = ap (λ (k : Course). k.state) (course_all tb i s i s₁ (f i (omega arith)) refl)

  lines_suc : (i : ℕ) (s₁ : State) → Come tb s i s₁ → lines_to tb s (suc i) ≡ lines_to tb s i ++ turn_line tb (suc i) s₁
  unfolding lines_to
  lines_suc i s₁ f =
      rw (tabulate_suc i (λ j. turn_line tb (suc j) (course_of tb j s).state), ← come_state i s₁ f)
      (joined_snoc (tabulate i (λ j. turn_line tb (suc j) (course_of tb j s).state)) (turn_line tb (suc i) (course_of tb i s).state))

  module _ (i : ℕ) (s₁ s₂ : State) (w : Turn) (f : Come tb s i s₁) (e : turned w s₂ ≡ take_turn tb s₁) where
    pub come_more : w ≡ Continue tt → Come tb s (i + 1) s₂
    unfolding Come
    come_more g n h = course_more tb n s i s₁ (f n (omega arith)) (omega arith) w s₂ e g

    module _ (long : length (lines_to tb s i) ≡ i * 37) where
      pub more_long : w ≡ Continue tt → length (lines_to tb s (i + 1)) ≡ (i + 1) * 37
      more_long g =
          rw (add-one i, lines_suc i s₁ f)
          (length-append (lines_to tb s i) (turn_line tb (suc i) s₁) ∙ omega (arith, went_long tb s₁ (suc i) w s₂ e g))

      pub lines_more : (l l₁ l₂ : List ℕ) → l₁ ≡ sets l 37 (lines_to tb s i) → l₂ ≡ sets l₁ (37 + i * 37) (shown w (turn_line tb (suc i) s₁)) → w ≡ Continue tt
          → l₂ ≡ sets l 37 (lines_to tb s (i + 1))
      unfolding shown
      lines_more l l₁ l₂ h j g =
          j ∙ rw (g, h, add-one i, lines_suc i s₁ f, sets_append l 37 (lines_to tb s i) (turn_line tb (suc i) s₁), long)

    module _ (r : Reason) (g : w ≡ Break r) (h : i < max_steps) where
      pub come_stopped : course i r s₂ ≡ course_of tb max_steps s
      unfolding Come
      come_stopped = sym (course_stopped tb max_steps s i s₁ (f max_steps (omega arith)) h w s₂ e r g)

      pub stopped_long : length (lines_to tb s i) ≡ i * 37 → i * 37 ≡ length (step_lines tb s)
      stopped_long = all_long tb s i r s₂ come_stopped

      pub stopped_laid : (l l₁ l₂ x : List ℕ) (p : ℕ) → l₁ ≡ sets l 37 (lines_to tb s i) → l₂ ≡ sets l₁ p (shown w x) → l₂ ≡ sets l 37 (step_lines tb s)
      unfolding shown
      stopped_laid l l₁ l₂ x p j k = k ∙ rw g (all_laid tb s i r s₂ come_stopped l l₁ j)

  module _ (i : ℕ) (s₁ : State) (f : Come tb s i s₁) (h : i ≤ max_steps) (j : max_steps ≤ i) where
    pub come_all : course max_steps AllDone s₁ ≡ course_of tb max_steps s
    unfolding Come
    come_all = sym (course_all tb max_steps s i s₁ (f max_steps h) (omega arith))

    done : i ≡ max_steps
    done = omega arith

    pub done_long : length (lines_to tb s i) ≡ i * 37 → max_steps * 37 ≡ length (step_lines tb s)
    done_long k = all_long tb s max_steps AllDone s₁ come_all (rw done at k)

    pub done_laid : (l l₁ : List ℕ) → l₁ ≡ sets l 37 (lines_to tb s i) → l₁ ≡ sets l 37 (step_lines tb s)
    done_laid l l₁ k = all_laid tb s max_steps AllDone s₁ come_all l l₁ (rw done at k)
