-- Who takes part in a run, at work (`guarantee/specs/MoversInNumbers.antt`): a run in which a thread is met, by the step call that meets it; and a run beside which
-- a thread only waits. Assumes nothing.
use Rattle.rules.specs.Answers.{Ran}
use Rattle.std.specs.Prelude.{ℕ, ◌<◌, ◌≡◌, refl, true, false, List, [], ◌∷◌, get_or, Err, Ok}
use Rattle.std.proofs.Common.{arith, ap, ◌∙◌}
use Rattle.table.specs.Table.{Table, table_of}
use Rattle.loader.specs.Load.{accepted}
use Rattle.loader_laws.specs.PrintedFile.{filled_up}
use Rattle.state.specs.State.{view, thread, stands_at, is_waiting}
use Rattle.rules.specs.Start.{started}
use Rattle.rules.specs.Moves.{move}
use Rattle.rules.specs.Calls.{Outcome, step_answer, can_step, step_on, step_call, next_ready, course_of, run_call}
use Rattle.rules.specs.Calls.Laws.{step_answered}
use Rattle.rules.specs.Seats.{seat_admission, seated_step, seated_run}
use Rattle.rules.specs.Seats.Laws.{seat_granted}
use Rattle.rules.specs.declared.Right.TheVariants.{StepAndRun}
use Rattle.rules.specs.declared.Deed.TheVariants.{TookWith}
use Rattle.rules.specs.declared.Move.TheVariants.{Meets}
use Rattle.rules.specs.declared.Reason.TheVariants.{AllDone}
use Rattle.rules_laws.specs.Frames.{elem, movers}
use Rattle.engine_laws.specs.Seats.{seat_admitted_iff}
use Rattle.engine_laws.specs.Buffers.{SoundBuffer}
use Rattle.engine_laws.specs.SoundCalls.{right_lengths, call_made, start_view, run_view, run_sound}
use Rattle.engine_laws.specs.Lists.{step, run}
use Rattle.engine_laws.specs.Movers.{turn_movers, onward_movers, ran_movers}
use Rattle.engine_laws.specs.Reasons.{due}
use Rattle.interface.specs.Interface.{in_numbers, run_fields, run_numbers, run_result}
use Rattle.examples.specs.Tables.{teaching}
use Rattle.examples.specs.Computing.{running}
use Rattle.examples.specs.Files.{table_for, table_holds, table_small, table_accepted, teaching_in_order}
use Rattle.guarantee.specs.Claim.{after_list, reached_by, unless_refused, in_turns}
use Rattle.guarantee.specs.Proof.{reached_sound}
use Rattle.guarantee.specs.SeatedClaim.{moving_by}
use Rattle.guarantee.specs.InNumbers.{moved}
use Rattle.guarantee.specs.InNumbers.Proof.{moved_so}
use Rattle.guarantee.specs.ReasonsInLists.{after_run}
use Rattle.guarantee.specs.MoversInNumbers.{RunSteps, run_steps}
use Rattle.published_laws.proofs.Running.{run_done}
use Rattle.instances.specs.Seating.{full, full_long, full_in_range, full_steps}
use Rattle.instances.specs.Parting as Parting
use Rattle.instances.specs.Parting.{blank, blank_long}

-- ---- a run at seat 0 by a list with all rights, from bytes that hold a sound state, which makes the n steps that are asked for

module _ (table : List ℕ) (ok : accepted table ≡ true) (fit : (i : ℕ) → get_or table i 0 < 256) (x : List ℕ) (b : SoundBuffer table x) where
  pub may : seat_admission table x full 0 StepAndRun ≡ Ok tt
  may = (seat_admitted_iff table x full 0 StepAndRun).1 ((right_lengths table ok x b.long, full_long), ok, full_in_range, full_steps)

  plainly : (n : ℕ) → seated_run table x full 0 n ≡ run_call table x n
  unfolding seated_run
  plainly n = seat_granted table x full 0 StepAndRun Err (run_call table x n) may

  module _ (n : ℕ) (e : (run_call table x n).answer ≡ Ok (n, AllDone)) where
    moved_by : (who : List ℕ) → ran_movers (table_of table) n (view x) ≡ who → moved table x full 0 (run n) ≡ who
    unfolding moving_by in_turns
    moved_by who f = moved_so table ok x b full 0 (run n) ∙ rw (plainly n, e, f)

    steps_by : n < 65536 → (k : ℕ) × RunSteps table x full 0 n k
    unfolding run_result in_numbers run_numbers run_fields
    steps_by l = run_steps table x full 0 fit b.small n l (rw (plainly n, e))

-- ---- the file `teaching` from its start: thread 0 makes a channel and spawns thread 1, thread 1 begins to wait for what comes on it, thread 0 makes another channel
-- and sends it, which meets thread 1

abbrev tb : Table
tb = filled_up teaching

unfoldable pub table : List ℕ
table = table_for teaching

accepts : accepted table ≡ true
unfolding table
accepts = table_accepted teaching teaching_in_order

small : (i : ℕ) → get_or table i 0 < 256
unfolding table
small = table_small teaching teaching_in_order

held_table : table_of table ≡ tb
unfolding table
held_table = table_holds teaching teaching_in_order

abbrev pub begun : List ℕ
begun = reached_by table blank []

begun_sound : SoundBuffer table begun
begun_sound = reached_sound table accepts small blank blank_long []

begun_view : view begun ≡ started tb
unfolding after_list
begun_view = start_view table accepts small blank blank_long ∙ ap started held_table

five_steps : ((course_of tb 5 (started tb)).steps ≡ 5) × ((course_of tb 5 (started tb)).reason ≡ AllDone) × (ran_movers tb 5 (started tb) ≡ 0 ∷ 0 ∷ 1 ∷ 0 ∷ 0 ∷ 1 ∷ [])
unfolding running ran_movers turn_movers onward_movers movers
five_steps = (refl, refl, refl)

five_done : (run_call table begun 5).answer ≡ Ok (5, AllDone)
five_done = run_done table accepts small begun begun_sound 5 ∙ rw (held_table, begun_view, five_steps.0, five_steps.1)

-- thread 1 takes part in the third turn, in which it begins to wait, and in the fifth, in which it is met
pub five_moved : moved table begun full 0 (run 5) ≡ 0 ∷ 0 ∷ 1 ∷ 0 ∷ 0 ∷ 1 ∷ []
five_moved = moved_by table accepts small begun begun_sound 5 five_done (0 ∷ 0 ∷ 1 ∷ 0 ∷ 0 ∷ 1 ∷ []) (rw (held_table, begun_view) five_steps.2)

-- the theorem, of this run
pub five_told : (k : ℕ) × RunSteps table begun full 0 5 k
five_told = steps_by table accepts small begun begun_sound 5 five_done (omega arith)

-- the bytes that a run of four steps leaves: thread 0 is due, and its step meets thread 1
abbrev pub four : List ℕ
four = after_run table begun full 0 4

four_left : four ≡ (run_call table begun 4).state
unfolding run_result in_numbers
four_left = ap (λ (o : Outcome Ran). o.state) (plainly table accepts small begun begun_sound 4)

four_sound : SoundBuffer table four
four_sound = rw four_left (run_sound table accepts small begun begun_sound 4)

four_view : view four ≡ (course_of tb 4 (started tb)).state
four_view = rw four_left (run_view table accepts small begun begun_sound 4 ∙ rw (held_table, begun_view))

fifth : (next_ready (course_of tb 4 (started tb)).state ≡ 0) × (can_step (course_of tb 4 (started tb)).state 0 ≡ true)
    × (move tb (course_of tb 4 (started tb)).state 0 ≡ Meets 0 1 0)
unfolding running can_step
fifth = (refl, refl, refl)

pub fifth_due : due four ≡ 0
fifth_due = rw four_view fifth.0

fifth_moves : (can_step (view four) 0 ≡ true) × (move (table_of table) (view four) 0 ≡ Meets 0 1 0)
fifth_moves = rw (held_table, four_view) (fifth.1, fifth.2)

fifth_answer : (step_call table four 0).answer ≡ Ok (stands_at (thread (view four) 0), TookWith 0 1)
unfolding step_call step_answer
fifth_answer =
    rw (call_made table accepts Err four four_sound (step_on (table_of table) (view four) 0))
    (step_answered (table_of table) (view four) 0 ∙ rw (fifth_moves.0, fifth_moves.1))

fifth_plainly : seated_step table four full 0 0 ≡ step_call table four 0
unfolding seated_step
fifth_plainly = seat_granted table four full 0 StepAndRun Err (step_call table four 0) (may table accepts small four four_sound)

pub fifth_meets : moved table four full 0 (step 0) ≡ 0 ∷ 1 ∷ []
unfolding moving_by unless_refused movers
fifth_meets = moved_so table accepts four four_sound full 0 (step 0) ∙ rw (fifth_plainly, fifth_answer, fifth_moves.1)

-- ---- the file `parting` after three steps: thread 1 waits, and a run of two steps goes on without it

abbrev pub three : List ℕ
three = Parting.bytes_after 3

two_steps : ((course_of Parting.tb 2 (Parting.state_after 3)).steps ≡ 2) × ((course_of Parting.tb 2 (Parting.state_after 3)).reason ≡ AllDone)
    × (ran_movers Parting.tb 2 (Parting.state_after 3) ≡ 0 ∷ 0 ∷ []) × (is_waiting (thread (Parting.state_after 3) 1) ≡ true)
unfolding running Parting.state_after ran_movers turn_movers onward_movers movers
two_steps = (refl, refl, refl, refl)

two_done : (run_call Parting.table three 2).answer ≡ Ok (2, AllDone)
two_done =
    run_done Parting.table Parting.accepts Parting.small three (Parting.bytes_sound 3) 2
    ∙ rw (Parting.held_table, Parting.bytes_view 3, two_steps.0, two_steps.1)

pub two_moved : moved Parting.table three full 0 (run 2) ≡ 0 ∷ 0 ∷ []
two_moved =
    moved_by Parting.table Parting.accepts Parting.small three (Parting.bytes_sound 3) 2 two_done (0 ∷ 0 ∷ [])
    (rw (Parting.held_table, Parting.bytes_view 3) two_steps.2)

pub waits_beside : (is_waiting (thread (view three) 1) ≡ true) × (elem 1 (moved Parting.table three full 0 (run 2)) ≡ false)
unfolding elem
waits_beside = (rw (Parting.bytes_view 3) two_steps.3, rw two_moved)
