-- The calls on a sound state: none makes it heavier, and none lacks a thread row while it weighs no more than there are rows. Assumes nothing.
use Rattle.std.specs.declared.ops.ControlFlow.TheVariants.{Break, Continue}
use Rattle.rules.specs.Answers.{Partner, Stepped, Turn}
use Prim.Native.Nat.{ℕ, zero, suc, ◌≤◌, ◌<◌}
use native.Mathlib.Omega.{arith}
use Rattle.std.specs.Prelude.{◌≡◌, true, ◌≢◌, ltb, Err, None, Ok, Some}
use Rattle.std.proofs.Math.Path.{refl}
use Rattle.std.proofs.Common.{sym, ap, ◌∙◌}
use borrow.Author.Tests.{ltb-true}
use Rattle.numbers.specs.Search.Laws.{case_b}
use Rattle.numbers.specs.Tests.{parts, clash}
use Rattle.table.specs.Table.{Table, ports}
use Rattle.state.specs.State.{State, max_threads, thread, is_ready, with_mark}
use Rattle.rules.specs.Offers.{partner_of}
use Rattle.rules.specs.Moves.{move}
use Rattle.rules.specs.Calls.{can_step, step_on, bench, given_to, give_on, taken_from, take_on, next_ready, past_turn, step_answer, reason_for, turn_for, turn_by, Course, one_more, onward, turn_end, take_turn, course_of, run_on}
use Rattle.rules.specs.Calls.Laws.{step_unchanged}
use Rattle.rules.specs.declared.Direction.TheVariants.{Out, In}
use Rattle.rules.specs.declared.Move.{Move}
use Rattle.rules.specs.declared.Move.TheVariants.{Ends, Calls, Waits, Goes, Creates, Spawns, Meets, LacksThread, LacksChannel}
use Rattle.rules.specs.declared.Reason.{Reason}
use Rattle.rules.specs.declared.Reason.TheVariants.{LackedThread}
use Rattle.rules_laws.specs.Soundness.{Sound}
use Rattle.rules_laws.specs.Chosen.{partner_answers}
use Rattle.rules_laws.specs.Lasting.{take_turn_kept}
use Rattle.next_rows.specs.Around.{next_ready_in}
use Rattle.engine_laws.specs.Answers.{step_performed}
use Rattle.engine_laws.specs.Lacking.{lacks_thread_iff}
use Rattle.profile_laws.specs.Bounds.{Allowed}
use Rattle.profile_laws.specs.Weight.{weight, full_weighs}
use Rattle.profile_laws.specs.Lighter.{move_lighter, bench_lighter}

module _ (tb : Table) (a : Allowed tb) (s : State) (ok : Sound tb s) where
  -- ---- step, give and take

  step_by : (t : ℕ) (x : Stepped) → (step_on tb s t).answer ≡ x → weight tb (step_on tb s t).state ≤ weight tb s
  unfolding can_step
  step_by t (Ok (n, d)) e =
      let (c, f, q) = step_performed tb s t n d e in
      rw q (move_lighter tb a s ok t (ltb-true t max_threads (search parts)) (search parts))
  step_by t (Err r) e = rw (step_unchanged tb s t r e) (omega arith)

  pub step_lighter : (t : ℕ) → weight tb (step_on tb s t).state ≤ weight tb s
  step_lighter t = step_by t (step_on tb s t).answer refl

  given_lighter : (p v : ℕ) (m : Partner) → partner_of tb s bench In p ≡ m → weight tb (given_to tb s m v).state ≤ weight tb s
  unfolding given_to
  given_lighter p v None e = omega arith
  given_lighter p v (Some (u, j)) e = bench_lighter tb a s ok In p u j v (partner_answers tb s bench In p u j e)

  pub give_lighter : (p v : ℕ) → weight tb (give_on tb s p v).state ≤ weight tb s
  unfolding give_on
  give_lighter p v = case_b (ltb p (ports tb)) (λ e. rw e (given_lighter p v (partner_of tb s bench In p) refl)) (λ e. rw e (omega arith))

  taken_lighter : (p : ℕ) (m : Partner) → partner_of tb s bench Out p ≡ m → weight tb (taken_from tb s m).state ≤ weight tb s
  unfolding taken_from
  taken_lighter p None e = omega arith
  taken_lighter p (Some (u, j)) e = bench_lighter tb a s ok Out p u j 0 (partner_answers tb s bench Out p u j e)

  pub take_lighter : (p : ℕ) → weight tb (take_on tb s p).state ≤ weight tb s
  unfolding take_on
  take_lighter p = case_b (ltb p (ports tb)) (λ e. rw e (taken_lighter p (partner_of tb s bench Out p) refl)) (λ e. rw e (omega arith))

-- ---- a run

-- a turn that ends a run for want of a thread row is one whose move lacks it
lacked_turn : (t u : ℕ) (m : Move) → turn_by t m ≡ Break (LackedThread u) → m ≡ LacksThread
unfolding turn_by turn_for step_answer reason_for
lacked_turn t u Ends e = clash cc
lacked_turn t u Calls e = clash cc
lacked_turn t u Waits e = clash cc
lacked_turn t u (Goes i) e = clash cc
lacked_turn t u (Creates i c) e = clash cc
lacked_turn t u (Spawns i v) e = clash cc
lacked_turn t u (Meets i v j) e = clash cc
lacked_turn t u LacksThread e = refl
lacked_turn t u LacksChannel e = clash cc

module _ (tb : Table) (a : Allowed tb) where
  module _ (s : State) (ok : Sound tb s) where
    end_told : (t : ℕ) (w : Turn) → (turn_end tb s t w).turn ≡ w
    unfolding turn_end
    end_told t (Continue tt) = refl
    end_told t (Break r) = refl

    end_lighter : (t : ℕ) → t < max_threads → is_ready (thread s t) ≡ true → (w : Turn) → weight tb (turn_end tb s t w).state ≤ weight tb s
    unfolding turn_end past_turn with_mark weight
    end_lighter t l rd (Continue tt) = move_lighter tb a s ok t l rd
    end_lighter t l rd (Break r) = omega arith

    turn_lighter : weight tb (take_turn tb s).state ≤ weight tb s
    unfolding take_turn
    turn_lighter = case_b (ltb (next_ready s) max_threads)
        (λ y. let l = ltb-true (next_ready s) max_threads y in rw y (end_lighter (next_ready s) l (next_ready_in s l) (turn_by (next_ready s) (move tb s (next_ready s)))))
        (λ y. rw y (omega arith))

    turn_finds : weight tb s ≤ max_threads → (u : ℕ) → (take_turn tb s).turn ≢ Break (LackedThread u)
    unfolding take_turn
    turn_finds w u =
        let t = next_ready s in
        case_b (ltb t max_threads)
        (λ y. rw y (λ e. let (takes, full) = (lacks_thread_iff tb s t).0 (lacked_turn t u (move tb s t) (sym (end_told t _) ∙ e)) in
        omega (arith, full_weighs tb a s ok t (ltb-true t max_threads y) takes full)))
        (λ y. rw y (λ e. clash cc))

  -- a run from s that takes this course makes the state no heavier, and lacks no thread row where s weighs no more than there are rows
  abbrev Lasts : State → Course → Type 0
  Lasts s k = (weight tb k.state ≤ weight tb s) × (weight tb s ≤ max_threads → (t : ℕ) → k.reason ≢ LackedThread t)

  onward_lasts : (s s' : State) (w : Turn) (f : State → Course) → weight tb s' ≤ weight tb s → (weight tb s ≤ max_threads → (t : ℕ) → w ≢ Break (LackedThread t))
      → Lasts s' (f s') → Lasts s (onward w s' f)
  unfolding onward one_more
  onward_lasts s s' (Continue tt) f h n (light, found) = (omega arith, λ b. found (omega arith))
  onward_lasts s s' (Break r) f h n rest = (h, λ b t e. n b t (ap Break e))

  course_lasts : (n : ℕ) (s : State) → Sound tb s → Lasts s (course_of tb n s)
  unfolding course_of
  course_lasts zero s ok = (omega arith, λ b t e. clash cc)
  course_lasts (suc n) s ok =
      onward_lasts s (take_turn tb s).state (take_turn tb s).turn (course_of tb n) (turn_lighter s ok) (turn_finds s ok)
      (course_lasts n (take_turn tb s).state (take_turn_kept tb a.grants s ok))

  pub run_lighter : (s : State) → Sound tb s → (n : ℕ) → weight tb (run_on tb s n).state ≤ weight tb s
  unfolding run_on
  run_lighter s ok n = (course_lasts n s ok).0

  -- a run does not end for want of a thread row
  pub run_finds : (s : State) → Sound tb s → weight tb s ≤ max_threads → (n j t : ℕ) → (run_on tb s n).answer ≢ Ok (j, LackedThread t)
  unfolding run_on
  run_finds s ok w n j t e =
      let c : Course = course_of tb n s in
      let q : ◌≡◌ {A = ℕ × Reason} (c.steps, c.reason) (j, LackedThread t) = cc in
      (course_lasts n s ok).1 w t (ap (λ (x : ℕ × Reason). x.1) q)
