-- Who takes part in a run, in the numbers that C sees. `InNumbers.antt` has the threads that step or are met in a run by its turns (`ran_movers`), since a run
-- answers how many steps it made and not whose. Here each turn is the call of `pithread_step` that makes the same step, from the bytes that a shorter run
-- leaves, and its answer tells who takes part. Of buffers of bytes, whatever their length. Assumes nothing.
use Rattle.std.specs.Prelude.{ℕ, ◌<◌, ◌≡◌, true, List, get_or, pos, Err, Ok}
use Rattle.std.proofs.Common.{arith, ap, ◌∙◌}
use Rattle.std.proofs.Math.Path.{sym}
use borrow.Author.Tests.{ltb-true, lt-ltb}
use Rattle.numbers.specs.Tests.{parts, clash}
use Rattle.table.specs.Table.{table_of}
use Rattle.loader.specs.Load.{accepted}
use Rattle.state.specs.State.{max_threads, view}
use Rattle.rules.specs.Calls.{Outcome, can_step, step_call, course_of, run_on, run_call}
use Rattle.rules.specs.Calls.Laws.{call_answer}
use Rattle.rules.specs.Seats.{seat_admission, seated_step, seated_run}
use Rattle.rules.specs.Seats.Laws.{seat_granted, seat_answer}
use Rattle.rules.specs.declared.Right.TheVariants.{StepAndRun}
use Rattle.rules.specs.declared.Deed.{Deed}
use Rattle.rules.specs.declared.Reason.{Reason}
use Rattle.engine_laws.specs.Entry.{admitted_iff}
use Rattle.engine_laws.specs.Buffers.{SoundBuffer}
use Rattle.engine_laws.specs.SoundCalls.{admitted, run_sound}
use Rattle.engine_laws.specs.Lists.{step, run}
use Rattle.engine_laws.specs.Movers.{turn_movers}
use Rattle.engine_laws.specs.Reasons.{due, due_answer, after_turns, run_ends}
use Rattle.engine_laws.specs.RunMovers.{in_turn, in_turn_same, run_in_turn}
use Rattle.interface.specs.Interface.{in_numbers, run_result}
use Rattle.guarantee.specs.Claim.{unless_refused, in_turns}
use Rattle.guarantee.specs.SeatedClaim.{moving_by}
use Rattle.guarantee.specs.InNumbers.{moved}
use Rattle.guarantee.specs.InNumbers.Proof.{moved_so}
use Rattle.guarantee.specs.ReasonsInLists.{after_run, RunAnswers, run_done, run_told, may_step, done_ready, after_run_lem}

-- ---- what is said

-- a run of at most n steps, at a seat, made k of them, each as the step call makes it at the same seat (`RunAnswers` has that); and who steps or is met in the run
-- is who steps or is met in these calls, in turn: call i, counted from 0, is that of the thread that is due in the bytes that a run of i steps leaves
pub record RunSteps (table state rights : List ℕ) (seat n k : ℕ) : Type 0 where
  pub answers : RunAnswers table state rights seat n k (run_result table state rights seat n).answer (run_result table state rights seat n).state
  pub taking_part : moved table state rights seat (run n)
      ≡ in_turn k (λ i. moved table (after_run table state rights seat i) rights seat (step (due (after_run table state rights seat i))))

-- ---- the step call of the thread that is due, from bytes that hold a sound state

module _ (table : List ℕ) (ok : accepted table ≡ true) (rights : List ℕ) (seat : ℕ) (x : List ℕ) (b : SoundBuffer table x)
    (may : seat_admission table x rights seat StepAndRun ≡ Ok tt) (a : ℕ) (d : Deed) (e : due_answer table x ≡ Ok (a, d)) where
  low : due x < max_threads
  unfolding can_step
  low = let c = (done_ready table x a d e).1 in ltb-true (due x) max_threads (search parts)

  moves_so : turn_movers (table_of table) (view x) ≡ moved table x rights seat (step (due x))
  unfolding turn_movers moving_by unless_refused seated_step
  moves_so =
      let plainly = seat_granted table x rights seat StepAndRun Err (step_call table x (due x)) may in
      rw (moved_so table ok x b rights seat (step (due x)), plainly, e, lt-ltb (due x) max_threads low)

-- ---- a run from bytes that hold a sound state

module _ (table : List ℕ) (ok : accepted table ≡ true) (fit : (i : ℕ) → get_or table i 0 < 256) (state rights : List ℕ) (seat : ℕ) (b : SoundBuffer table state)
    (may : seat_admission table state rights seat StepAndRun ≡ Ok tt) (n k : ℕ) (count : (course_of (table_of table) n (view state)).steps ≡ k)
    (made : (i : ℕ) → i < k → (a : ℕ) × (d : Deed) × (due_answer table (after_turns table i state) ≡ Ok (a, d))) where
  abbrev left : ℕ → List ℕ
  left i = after_run table state rights seat i

  run_plainly : (i : ℕ) → seated_run table state rights seat i ≡ run_call table state i
  unfolding seated_run
  run_plainly i = seat_granted table state rights seat StepAndRun Err (run_call table state i) may

  left_sound : (i : ℕ) → SoundBuffer table (left i)
  unfolding run_result in_numbers
  left_sound i = rw (ap (λ (o : Outcome _). o.state) (run_plainly i)) (run_sound table ok fit state b i)

  left_is : (i : ℕ) → i < k → left i ≡ after_turns table i state
  left_is i l = after_run_lem table state rights seat fit b.small may (admitted table ok state b) k made i (omega arith)

  part_there : (i : ℕ) → i < k → turn_movers (table_of table) (view (after_turns table i state)) ≡ moved table (left i) rights seat (step (due (left i)))
  part_there i l =
      let (a, d, e) = made i l in
      let there = may_step table state rights seat may (left i) (admitted table ok (left i) (left_sound i)) in
      let done : due_answer table (left i) ≡ Ok (a, d) = rw (left_is i l) e in
      ap (λ x. turn_movers (table_of table) (view x)) (sym (left_is i l)) ∙ moves_so table ok rights seat (left i) (left_sound i) there a d done

  took_part : (r : Reason) → (run_call table state n).answer ≡ Ok (k, r)
      → moved table state rights seat (run n) ≡ in_turn k (λ i. moved table (left i) rights seat (step (due (left i))))
  unfolding moving_by in_turns
  took_part r q =
      rw (moved_so table ok state b rights seat (run n), run_plainly n, q, run_in_turn table ok fit n state b, count)
      (in_turn_same k (λ i. turn_movers (table_of table) (view (after_turns table i state))) (λ i. moved table (left i) rights seat (step (due (left i)))) part_there)

-- ---- the theorem

module _ (table state rights : List ℕ) (seat : ℕ) (fit : (i : ℕ) → get_or table i 0 < 256) (small : (i : ℕ) → get_or state i 0 < 256) (n : ℕ) (l : n < 65536) where
  run_so : (k : ℕ) (r : Reason) → (seated_run table state rights seat n).answer ≡ Ok (k, r) → RunSteps table state rights seat n k
  unfolding seated_run run_call run_on run_result in_numbers
  run_so k r q =
      let call = run_call table state n in
      let may = seat_answer table state rights seat StepAndRun Err call (Ok (k, r)) (λ g f. clash cc) q in
      let done : call.answer ≡ Ok (k, r) = sym (ap (λ (o : Outcome _). o.answer) (seat_granted table state rights seat StepAndRun Err call may)) ∙ q in
      let (a, f) = (call_answer Err table state (run_on (table_of table) (view state) n) (Ok (k, r)) (λ g h i. clash cc)).0 done in
      let (m, ok, s) = (admitted_iff table state).0 a in
      let b : SoundBuffer table state = record { long = m.1; small = small; tested = s } in
      let c = course_of (table_of table) n (view state) in
      let made : ◌≡◌ {A = ℕ × Reason} (c.steps, c.reason) (k, r) = cc in
      let count : c.steps ≡ k = ap (λ (x : ℕ × Reason). x.0) made in
      record {
        answers = run_told table state rights seat fit small n l k r q;
        taking_part = took_part table ok fit state rights seat b may n k count (run_ends table state fit small n k r done).steps r done;
      }

  -- a run that C sees not refused
  pub run_steps : (run_result table state rights seat n).answer.refusal ≡ pos 0 → (k : ℕ) × RunSteps table state rights seat n k
  unfolding run_result in_numbers
  run_steps e = let (k, r, q) = run_done (seated_run table state rights seat n).answer e in (k, run_so k r q)
