-- Why a run ends, in the numbers that C sees: what `pithread_run` answers and leaves, said by what `pithread_step` answers and leaves at the same seat on the bytes
-- that shorter runs leave. Of buffers of bytes, whatever their length and whatever they hold. Assumes nothing.
use Rattle.rules.specs.Answers.{Ran, Stepped}
use Rattle.std.specs.Prelude.{ℕ, zero, suc, ◌<◌, ◌≤◌, ◌≡◌, true, false, ◌⊎◌, ◌↔◌, List, ltb, ℤ, pos, negsuc, get_or, Err, Ok}
use native.Mathlib.Omega.{arith}
use Rattle.std.proofs.Math.Path.{refl, sym, ap}
use Rattle.std.proofs.Common.{◌∙◌, inr}
use Rattle.std.proofs.Math.Logic.{⊎_elim}
use mir.Syntax.{w32}
use mir.Val.{to_z}
use Rattle.std.proofs.Math.Facts.{to_z_pos}
use borrow.Author.Tests.{ltb-true, ltb-false}
use Rattle.numbers.specs.Search.Laws.{case_b, contra}
use Rattle.numbers.specs.Tests.{and_left, and_right, parts, clash}
use Rattle.table.specs.Table.{table_of}
use Rattle.state.specs.State.{max_threads, view}
use Rattle.rules.specs.Calls.{Outcome, can_step, step_on, step_call, course_of, run_on, run_call}
use Rattle.rules.specs.Calls.Laws.{start_admits, call_answer, call_admitted}
use Rattle.rules.specs.Seats.{seat_admission, seated_step, seated_run}
use Rattle.rules.specs.Seats.Laws.{seat_admits, state_unread, seat_granted, seat_answer}
use Rattle.rules.specs.declared.Right.TheVariants.{StepAndRun}
use Rattle.rules.specs.declared.Refusal.{Refusal}
use Rattle.rules.specs.declared.Refusal.TheVariants as Ground
use Rattle.rules.specs.declared.Deed.{Deed}
use Rattle.rules.specs.declared.Reason.{Reason}
use Rattle.rules.specs.declared.Reason.TheVariants.{AllDone, NoneReady, LackedThread, LackedChannel}
use Rattle.engine.specs.Numbers.{refusal_number, reason_number, held_up_number}
use Rattle.engine_laws.specs.Entry.{Admitted, admitted_iff}
use Rattle.engine_laws.specs.Answers.{step_performed}
use Rattle.engine_laws.specs.Seats.{at_seat_entry, seat_refused_entry}
use Rattle.engine_laws.specs.Lists.{step, RefusedWith}
use Rattle.engine_laws.specs.Refusals.{step_thread_row_iff, step_channel_row_iff}
use Rattle.engine_laws.specs.Reasons.{turn_past, due, Idle, due_answer, after_turn, after_turns, left_by, RunEnds, run_ends}
use Rattle.interface.specs.Interface.{StateResult, in_numbers, step_fields, step_numbers, step_result, run_fields, run_numbers, run_result}
use Rattle.interface.specs.declared.StepAnswer.{StepAnswer}
use Rattle.interface.specs.declared.RunAnswer.{RunAnswer}
use Rattle.guarantee.specs.Claim.{on, RefusedBy}
use Rattle.guarantee.specs.SeatedClaim.{asked}
use Rattle.guarantee.specs.Through.{refused_iff}
use Rattle.guarantee.specs.Exported.{ground_signed, not_zero, refusal_by, refused_by, refused_shows}

-- ---- what is said

module _ (table state rights : List ℕ) (seat : ℕ) where
  -- the bytes that a run of i steps leaves
  abbrev pub after_run : ℕ → List ℕ
  after_run i = (run_result table state rights seat i).state

  -- a step of the first ready thread from the turn on, made there at the same seat
  abbrev pub due_step : ℕ → StateResult StepAnswer
  due_step i = step_result table (after_run i) rights seat (due (after_run i))

-- a run of at most n steps, at a seat, made k of them, was answered with a and left the bytes `left`
pub record RunAnswers (table state rights : List ℕ) (seat n k : ℕ) (a : RunAnswer) (left : List ℕ) : Type 0 where
  pub steps : a.steps ≡ pos k
  pub at_most : k ≤ n
  -- it begins with the state, and each of its steps is one that the step call makes, with the turn then one past the thread
  pub first : after_run table state rights seat 0 ≡ state
  pub each : (i : ℕ) → i < k
      → ((due_step table state rights seat i).answer.refusal ≡ pos 0)
      × (after_run table state rights seat (suc i) ≡ turn_past (due_step table state rights seat i).state (due (after_run table state rights seat i)))
  pub reason_0 : (a.reason ≡ pos 0) ↔ (k ≡ n)
  pub reason_1 : (a.reason ≡ pos 1) ↔ ((k < n) × Idle (after_run table state rights seat k))
  pub reason_2 : (a.reason ≡ pos 2) ↔ ((k < n) × ((due_step table state rights seat k).answer.refusal ≡ pos 13))
  pub reason_3 : (a.reason ≡ pos 3) ↔ ((k < n) × ((due_step table state rights seat k).answer.refusal ≡ pos 14))
  pub no_other : (m : ℕ) × (m ≤ 3) × (a.reason ≡ pos m)
  -- nobody is held up, and nothing changes after the steps
  pub ends : (a.reason ≡ pos 0) ⊎ (a.reason ≡ pos 1) → (a.thread ≡ negsuc 0) × (left ≡ after_run table state rights seat k)
  -- the thread whose step would be refused is held up, and the turn moves past it
  pub held_up : (a.reason ≡ pos 2) ⊎ (a.reason ≡ pos 3)
      → (a.thread ≡ pos (due (after_run table state rights seat k)))
      × (left ≡ turn_past (after_run table state rights seat k) (due (after_run table state rights seat k)))

-- ---- the same by the turns of the rules, `after_turns table i state` being the bytes after i of them

unfoldable pub due_refusal : List ℕ → List ℕ → List ℕ → ℕ → ℤ
due_refusal table state rights seat = (step_result table state rights seat (due state)).answer.refusal

record RunTurns (table state rights : List ℕ) (seat n k : ℕ) (a : RunAnswer) (left : List ℕ) : Type 0 where
  steps : a.steps ≡ pos k
  at_most : k ≤ n
  each : (i : ℕ) → i < k → due_refusal table (after_turns table i state) rights seat ≡ pos 0
  reason_0 : (a.reason ≡ pos 0) ↔ (k ≡ n)
  reason_1 : (a.reason ≡ pos 1) ↔ ((k < n) × Idle (after_turns table k state))
  reason_2 : (a.reason ≡ pos 2) ↔ ((k < n) × (due_refusal table (after_turns table k state) rights seat ≡ pos 13))
  reason_3 : (a.reason ≡ pos 3) ↔ ((k < n) × (due_refusal table (after_turns table k state) rights seat ≡ pos 14))
  no_other : (m : ℕ) × (m ≤ 3) × (a.reason ≡ pos m)
  ends : (a.reason ≡ pos 0) ⊎ (a.reason ≡ pos 1) → (a.thread ≡ negsuc 0) × (left ≡ after_turns table k state)
  held_up : (a.reason ≡ pos 2) ⊎ (a.reason ≡ pos 3)
      → (a.thread ≡ pos (due (after_turns table k state))) × (left ≡ turn_past (after_turns table k state) (due (after_turns table k state)))

-- ---- numbers

number : Reason → ℤ
number r = to_z w32 (reason_number r)

zero_is : (r : Reason) → number r ≡ pos 0 → r ≡ AllDone
unfolding number reason_number
zero_is AllDone e = refl
zero_is NoneReady e = clash cc
zero_is (LackedThread t) e = clash cc
zero_is (LackedChannel t) e = clash cc

one_is : (r : Reason) → number r ≡ pos 1 → r ≡ NoneReady
unfolding number reason_number
one_is AllDone e = clash cc
one_is NoneReady e = refl
one_is (LackedThread t) e = clash cc
one_is (LackedChannel t) e = clash cc

pub two_is : (r : Reason) → to_z w32 (reason_number r) ≡ pos 2 → (t : ℕ) × (r ≡ LackedThread t)
unfolding reason_number
two_is AllDone e = clash cc
two_is NoneReady e = clash cc
two_is (LackedThread t) e = (t, refl)
two_is (LackedChannel t) e = clash cc

three_is : (r : Reason) → number r ≡ pos 3 → (t : ℕ) × (r ≡ LackedChannel t)
unfolding number reason_number
three_is AllDone e = clash cc
three_is NoneReady e = clash cc
three_is (LackedThread t) e = clash cc
three_is (LackedChannel t) e = (t, refl)

few_reasons : (r : Reason) → reason_number r ≤ 3
unfolding reason_number
few_reasons AllDone = omega arith
few_reasons NoneReady = omega arith
few_reasons (LackedThread t) = omega arith
few_reasons (LackedChannel t) = omega arith

reason_signed : (r : Reason) → number r ≡ pos (reason_number r)
unfolding number
reason_signed r = to_z_pos w32 {n = reason_number r} (omega (arith, few_reasons r))

pub run_done : (x : Ran) → (run_numbers x).refusal ≡ pos 0 → (k : ℕ) × (r : Reason) × (x ≡ Ok (k, r))
unfolding run_numbers run_fields
run_done (Ok (k, r)) e = (k, r, refl)
run_done (Err g) e = absurd (not_zero g (sym e ∙ ground_signed g))

-- ---- a run as the rules have it

-- the run began with `state`, which its seat might run, and b is another state of the run
module _ (table state rights : List ℕ) (seat : ℕ) (may : seat_admission table state rights seat StepAndRun ≡ Ok tt) (b : List ℕ) where
  -- the seat may step wherever a step would be admitted
  pub may_step : Admitted table b → seat_admission table b rights seat StepAndRun ≡ Ok tt
  may_step a =
      let (l, s, i, h) = seat_admits table state rights seat StepAndRun may in
      state_unread table state rights seat StepAndRun b (((admitted_iff table b).0 a).0.1 ∙ sym (start_admits table state s).1) ∙ may

  -- the number is that of the step's answer
  pub done_number : (a : ℕ) (d : Deed) → due_answer table b ≡ Ok (a, d) → due_refusal table b rights seat ≡ pos 0
  unfolding due_refusal step_result seated_step in_numbers step_numbers step_fields step_call
  done_number a d e =
      let y = ((call_answer Err table b (step_on (table_of table) (view b) (due b)) (Ok (a, d)) (λ r f g. clash cc)).0 e).0 in
      ap (λ (o : Outcome Stepped). (step_numbers o.answer).refusal) (seat_granted table b rights seat StepAndRun Err (step_call table b (due b)) (may_step y))
      ∙ ap (λ x. (step_numbers x).refusal) e

  row_number : (r : Refusal) → at_seat_entry r ≡ false → (due_answer table b ≡ Err r → Admitted table b)
      → (due_answer table b ≡ Err r) ↔ (due_refusal table b rights seat ≡ pos (refusal_number r))
  unfolding due_refusal refusal_by RefusedBy RefusedWith asked
  row_number r own y =
      let k = on (step (due b)) in (
        λ e. refused_shows table b rights seat k r ((refused_iff table b rights seat k r).1 (inr (may_step (y e), e))),
        λ e. ⊎_elim (λ f. contra (seat_refused_entry table b rights seat StepAndRun r f) own) (λ f. f.1)
            ((refused_iff table b rights seat k r).0 (refused_by table b rights seat k r e)),
      )

  thread_row_number : (due_answer table b ≡ Err Ground.ThreadRow) ↔ (due_refusal table b rights seat ≡ pos 13)
  unfolding refusal_number at_seat_entry
  thread_row_number = row_number Ground.ThreadRow refl (λ e. ((step_thread_row_iff table b (due b)).0 e).0)

  channel_row_number : (due_answer table b ≡ Err Ground.ChannelRow) ↔ (due_refusal table b rights seat ≡ pos 14)
  unfolding refusal_number at_seat_entry
  channel_row_number = row_number Ground.ChannelRow refl (λ e. ((step_channel_row_iff table b (due b)).0 e).0)

module _ (table b : List ℕ) where
  -- a thread whose step lacks a row is one of the 64
  can_low : can_step (view b) (due b) ≡ true → due b < max_threads
  unfolding can_step
  can_low e = ltb-true (due b) max_threads (search parts)

  thread_row_low : due_answer table b ≡ Err Ground.ThreadRow → due b < max_threads
  thread_row_low e = can_low ((step_thread_row_iff table b (due b)).0 e).1

  channel_row_low : due_answer table b ≡ Err Ground.ChannelRow → due b < max_threads
  channel_row_low e = can_low ((step_channel_row_iff table b (due b)).0 e).1

module _ (table state rights : List ℕ) (seat : ℕ) (may : seat_admission table state rights seat StepAndRun ≡ Ok tt)
    (n k : ℕ) (r : Reason) (left : List ℕ) (run : RunEnds table state n k r left) (l : n < 65536) where
  abbrev b : List ℕ
  b = after_turns table k state

  abbrev a : RunAnswer
  a = run_numbers (Ok (k, r))

  reason_is : a.reason ≡ number r
  unfolding run_numbers run_fields number
  reason_is = refl

  thread_is : a.thread ≡ to_z w32 (held_up_number r)
  unfolding run_numbers run_fields
  thread_is = refl

  steps_are : a.steps ≡ pos k
  unfolding run_numbers run_fields
  steps_are = to_z_pos w32 {n = k} (omega (arith, run.at_most))

  -- why it ended, by the number
  told : (x : Reason) → r ≡ x → a.reason ≡ number x
  told x q = reason_is ∙ ap number q

  all_ends : r ≡ AllDone → (a.thread ≡ negsuc 0) × (left ≡ b)
  unfolding held_up_number left_by
  all_ends q = (thread_is ∙ ap (λ x. to_z w32 (held_up_number x)) q, run.leaves ∙ ap (λ x. left_by x b) q)

  none_ends : r ≡ NoneReady → (a.thread ≡ negsuc 0) × (left ≡ b)
  unfolding held_up_number left_by
  none_ends q = (thread_is ∙ ap (λ x. to_z w32 (held_up_number x)) q, run.leaves ∙ ap (λ x. left_by x b) q)

  thread_held : (t : ℕ) → r ≡ LackedThread t → (a.thread ≡ pos (due b)) × (left ≡ turn_past b (due b))
  unfolding held_up_number left_by
  thread_held t q =
      let h = (run.lacked_thread t).0 q in
      let low : due b < max_threads = thread_row_low table b h.2 in
      let z : r ≡ LackedThread (due b) = q ∙ ap (λ x. LackedThread x) h.1 in
      (thread_is ∙ ap (λ x. to_z w32 (held_up_number x)) z ∙ to_z_pos w32 {n = due b} (omega (arith, low)), run.leaves ∙ ap (λ x. left_by x b) z)

  channel_held : (t : ℕ) → r ≡ LackedChannel t → (a.thread ≡ pos (due b)) × (left ≡ turn_past b (due b))
  unfolding held_up_number left_by
  channel_held t q =
      let h = (run.lacked_channel t).0 q in
      let low : due b < max_threads = channel_row_low table b h.2 in
      let z : r ≡ LackedChannel (due b) = q ∙ ap (λ x. LackedChannel x) h.1 in
      (thread_is ∙ ap (λ x. to_z w32 (held_up_number x)) z ∙ to_z_pos w32 {n = due b} (omega (arith, low)), run.leaves ∙ ap (λ x. left_by x b) z)

  answers : RunTurns table state rights seat n k a left
  unfolding number reason_number
  answers = record {
    steps = steps_are;
    at_most = run.at_most;
    each = λ i h. let e = run.steps i h in done_number table state rights seat may (after_turns table i state) e.0 e.1 e.2;
    reason_0 = (λ e. run.all_done.0 (zero_is r (sym reason_is ∙ e)), λ q. told AllDone (run.all_done.1 q));
    reason_1 = (λ e. run.none_ready.0 (one_is r (sym reason_is ∙ e)), λ q. told NoneReady (run.none_ready.1 q));
    reason_2 = (
      λ e. let t = two_is r (sym reason_is ∙ e) in let h = (run.lacked_thread t.0).0 t.1 in (h.0, (thread_row_number table state rights seat may b).0 h.2),
      λ q. told (LackedThread (due b)) ((run.lacked_thread (due b)).1 (q.0, refl, (thread_row_number table state rights seat may b).1 q.1)),
    );
    reason_3 = (
      λ e. let t = three_is r (sym reason_is ∙ e) in let h = (run.lacked_channel t.0).0 t.1 in (h.0, (channel_row_number table state rights seat may b).0 h.2),
      λ q. told (LackedChannel (due b)) ((run.lacked_channel (due b)).1 (q.0, refl, (channel_row_number table state rights seat may b).1 q.1)),
    );
    no_other = (reason_number r, few_reasons r, reason_is ∙ reason_signed r);
    ends = λ x. ⊎_elim (λ e. all_ends (zero_is r (sym reason_is ∙ e))) (λ e. none_ends (one_is r (sym reason_is ∙ e))) x;
    held_up = λ x. ⊎_elim
        (λ e. let t = two_is r (sym reason_is ∙ e) in thread_held t.0 t.1)
        (λ e. let t = three_is r (sym reason_is ∙ e) in channel_held t.0 t.1) x;
  }

  answered : (x : Ran) → x ≡ Ok (k, r) → RunTurns table state rights seat n k (run_numbers x) left
  answered x q = rw q answers

-- ---- a run of fewer steps

-- a turn that is made is the last of the turns so far
turns_last : (table : List ℕ) (i : ℕ) (state : List ℕ) → after_turns table (suc i) state ≡ after_turn table (after_turns table i state)
unfolding after_turns
turns_last table zero state = refl
turns_last table (suc i) state = turns_last table i (after_turn table state)

module _ (table b : List ℕ) where
  -- where the step call makes a step, some thread is ready
  pub done_ready : (a : ℕ) (d : Deed) → due_answer table b ≡ Ok (a, d) → Admitted table b × (can_step (view b) (due b) ≡ true)
  unfolding step_call
  done_ready a d e =
      let (y, f) = (call_answer Err table b (step_on (table_of table) (view b) (due b)) (Ok (a, d)) (λ r f g. clash cc)).0 e in
      (y, (step_performed (table_of table) (view b) (due b) a d f).0)

  not_idle : (a : ℕ) (d : Deed) → due_answer table b ≡ Ok (a, d) → ¬ Idle b
  unfolding can_step
  not_idle a d e idle =
      let c = (done_ready a d e).1 in
      contra (and_right (ltb (due b) max_threads) _ c) (idle (due b) (ltb-true (due b) max_threads (and_left _ _ c)))

-- where a run makes k steps, a run of at most i of them, i being at most k, makes all i and leaves the bytes after i turns
module _ (table state : List ℕ) (fit : (i : ℕ) → get_or table i 0 < 256) (small : (i : ℕ) → get_or state i 0 < 256) (k : ℕ)
    (made : (i : ℕ) → i < k → (a : ℕ) × (d : Deed) × (due_answer table (after_turns table i state) ≡ Ok (a, d))) where
  all_made : (i j : ℕ) (r : Reason) (left : List ℕ) → RunEnds table state i j r left → i ≤ k → left ≡ after_turns table i state
  unfolding left_by
  all_made i j r left e h = case_b (ltb j i)
      (λ y. let l = ltb-true j i y in let (a, d, f) = made j (omega arith) in absurd (not_short a d f l r e))
      (λ y. let q : j ≡ i = omega (arith, ltb-false j i y, e.at_most) in
      e.leaves ∙ ap (λ x. left_by x (after_turns table j state)) (e.all_done.1 q) ∙ ap (λ (x : ℕ). after_turns table x state) q)
    where
      not_short : (a : ℕ) (d : Deed) → due_answer table (after_turns table j state) ≡ Ok (a, d) → j < i → (r : Reason) → RunEnds table state i j r left → ⊥
      not_short a d f l AllDone e = let q : j ≡ i = e.all_done.0 refl in omega arith
      not_short a d f l NoneReady e = not_idle table (after_turns table j state) a d f (e.none_ready.0 refl).1
      not_short a d f l (LackedThread t) e = let g = ((e.lacked_thread t).0 refl).2 in clash cc
      not_short a d f l (LackedChannel t) e = let g = ((e.lacked_channel t).0 refl).2 in clash cc

-- ---- the theorem

module _ (table state rights : List ℕ) (seat : ℕ) (fit : (i : ℕ) → get_or table i 0 < 256) (small : (i : ℕ) → get_or state i 0 < 256) where
  module _ (may : seat_admission table state rights seat StepAndRun ≡ Ok tt) (on_state : Admitted table state)
      (k : ℕ) (made : (i : ℕ) → i < k → (a : ℕ) × (d : Deed) × (due_answer table (after_turns table i state) ≡ Ok (a, d))) where
    -- a run of i steps leaves what i turns leave
    pub after_run_lem : (i : ℕ) → i ≤ k → after_run table state rights seat i ≡ after_turns table i state
    unfolding run_result in_numbers seated_run run_call run_on
    after_run_lem i h =
        let same = seat_granted table state rights seat StepAndRun Err (run_call table state i) may in
        let c = course_of (table_of table) i (view state) in
        let done : (run_call table state i).answer ≡ Ok (c.steps, c.reason)
        = ap (λ (o : Outcome Ran). o.answer) (call_admitted Err table state (run_on (table_of table) (view state) i) on_state) in
        ap (λ (o : Outcome Ran). o.state) same
        ∙ all_made table state fit small k made i c.steps c.reason (run_call table state i).state (run_ends table state fit small i c.steps c.reason done) h

    -- the next turn
    next_run : (i : ℕ) → i < k → after_turns table (suc i) state
        ≡ turn_past (step_result table (after_turns table i state) rights seat (due (after_turns table i state))).state (due (after_turns table i state))
    unfolding after_turn step_result in_numbers seated_step
    next_run i h =
        let b = after_turns table i state in
        let (a, d, f) = made i h in
        let m = may_step table state rights seat may b (done_ready table b a d f).0 in
        let same = seat_granted table b rights seat StepAndRun Err (step_call table b (due b)) m in
        turns_last table i state ∙ sym (ap (λ (o : Outcome Stepped). turn_past o.state (due b)) same)

    in_runs : (n : ℕ) (a : RunAnswer) (left : List ℕ) → RunTurns table state rights seat n k a left → RunAnswers table state rights seat n k a left
    unfolding due_refusal after_turns
    in_runs n a left w =
        let q = after_run_lem k (omega arith) in
        record {
          steps = w.steps;
          at_most = w.at_most;
          first = after_run_lem 0 (omega arith);
          each = λ i h. rw (after_run_lem i (omega arith), after_run_lem (suc i) h) (w.each i h, next_run i h);
          reason_0 = w.reason_0;
          reason_1 = rw q w.reason_1;
          reason_2 = rw q w.reason_2;
          reason_3 = rw q w.reason_3;
          no_other = w.no_other;
          ends = rw q w.ends;
          held_up = rw q w.held_up;
        }

  module _ (n : ℕ) (l : n < 65536) where
    -- a run at a seat that is not refused is the run without seats
    pub run_told : (k : ℕ) (r : Reason) → (seated_run table state rights seat n).answer ≡ Ok (k, r)
        → RunAnswers table state rights seat n k (run_numbers (seated_run table state rights seat n).answer) (seated_run table state rights seat n).state
    unfolding seated_run run_call
    run_told k r q =
        let call = run_call table state n in
        let may = seat_answer table state rights seat StepAndRun Err call (Ok (k, r)) (λ g f. clash cc) q in
        let same = seat_granted table state rights seat StepAndRun Err call may in
        let done : call.answer ≡ Ok (k, r) = sym (ap (λ (o : Outcome Ran). o.answer) same) ∙ q in
        let admitted = ((call_answer Err table state (run_on (table_of table) (view state) n) (Ok (k, r)) (λ g f h. clash cc)).0 done).0 in
        let ended = run_ends table state fit small n k r done in
        in_runs may admitted k ended.steps n _ _
        (rw same (answered table state rights seat may n k r call.state ended l call.answer done))

    -- a run that C sees not refused: each reason exactly when it is due, the thread held up, and the bytes that are left
    pub run_answers : (run_result table state rights seat n).answer.refusal ≡ pos 0
        → (k : ℕ) × RunAnswers table state rights seat n k (run_result table state rights seat n).answer (run_result table state rights seat n).state
    unfolding run_result in_numbers
    run_answers e = let (k, r, q) = run_done (seated_run table state rights seat n).answer e in (k, run_told k r q)
