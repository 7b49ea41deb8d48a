-- Instances of document 02's S-4 (`published_laws/specs/Fitting.antt`, `proofs/Compared.antt`, `guarantee/proofs/SumsInNumbers.antt`): the arithmetic at the ends of its
-- range, a counter that has one number left, and one at its end; and a thread with a difference and a sum before it, where both fit, and where the difference
-- does not. Assumes nothing.
use Rattle.std.specs.Prelude.{ℕ, zero, suc, ◌<◌, ◌≡◌, refl, ◌≢◌, true, false, List, [], ◌∷◌, length, get_or, pos, negsuc, Err, None, Ok, Some}
use Rattle.std.proofs.Common.{arith, ◌∙◌, inl, inr, to_z}
use Rattle.std.proofs.Math.Path.{ap}
use Rattle.std.specs.Int.{w32}
use Rattle.numbers.specs.Rows.{at}
use Rattle.numbers.specs.Search.Laws.{contra}
use Rattle.numbers.specs.Tests.{clash}
use Rattle.table.specs.Layout.{branch_count}
use Rattle.table.specs.Table.{Table, table_of}
use Rattle.loader.specs.Load.{accepted}
use Rattle.loader_laws.specs.PrintedFile.{filled_up}
use Rattle.state.specs.State.{State, view, state_bytes, thread, slot_of}
use Rattle.rules.specs.Program.{checked_sum, checked_difference, branch_at, printed_guard, assigned, guard_holds}
use Rattle.rules.specs.Sound.{sound}
use Rattle.published.specs.Syntax.{end, waiting}
use Rattle.published.specs.Agents as Agents
use Rattle.published.specs.Agents.{refers, Thread}
use Rattle.published.specs.Fired.{by_zeros, kind, apart, Fired}
use Rattle.published.specs.Unchecked.{unchecked_guard, unchecked, unchecked_thread, unchecked_body, unchecked_rule, unchecked_fired, Halted}
use Rattle.published.proofs.Unchecked.{halted_only}
use Rattle.published_laws.specs.Fitting.{residue, wrapped, TooFar, wrapped_value, guard_printed, value_wrapped}
use Rattle.published_laws.specs.Standing.{printed_guard_of, expression_of, guard_by, guard_of, prefix_of, sum_before, node_process, unrolled, process_at, body_of, for_numbers, value_as, in_front, trimmed, slot_value, env_of, ready_thread, thread_of}
use Rattle.published_laws.specs.Products.{Bench}
use Rattle.published_laws.specs.Firing.{Tells}
use Rattle.published_laws.specs.Benches.{ports_and, bench_is}
use Rattle.published_laws.specs.Compared.{SumsFit, UncheckedStep}
use Rattle.published_laws.proofs.Compared.{step_call_unchecked}
use Rattle.rules.specs.Calls.{step_end, can_step, step_on, step_call}
use Rattle.rules.specs.Seats.{seated_step}
use Rattle.rules.specs.Seats.Laws.{seat_granted}
use Rattle.rules.specs.declared.Right.TheVariants as Right
use Rattle.rules.specs.declared.Deed.TheVariants.{Took}
use Rattle.rules_laws.specs.Shape.{Shaped}
use Rattle.rules_laws.specs.Shape.Laws.{bytes_long, bytes_small, view_bytes}
use Rattle.engine.specs.Numbers.{act_number, branch_number}
use Rattle.engine_laws.specs.Buffers.{SoundBuffer}
use Rattle.engine_laws.specs.Seats.{seat_admitted_iff}
use Rattle.engine_laws.specs.SoundCalls.{right_lengths, call_made}
use Rattle.interface.specs.Interface.{in_numbers, step_fields, step_numbers, step_result}
use Rattle.interface.specs.declared.StepAnswer.{StepAnswer}
use Rattle.guarantee.specs.SumsInNumbers.{ComesTo, Answered}
use Rattle.guarantee.proofs.SumsInNumbers.{stored_exactly}
use Rattle.examples.specs.Builders.{header, of_numbers, definition, slot, ending, choice, receive, add, ready_at, waiting_at, channel_with, state_with}
use Rattle.examples.specs.Tables.{counter, only_counter}
use Rattle.examples.specs.Computing.{judging, running, testing}
use Rattle.examples.specs.Files.{prints, in_order, table_for, table_holds, table_accepted, table_small, counter_in_order}
use Rattle.instances.specs.Seating.{shop, shop_long, shop_in_range, trainee_may}
use Rattle.instances.specs.OfBuffers.{zero_row, zero_at, zero_long}

-- ---- sums and differences. Patterns above 2147483647 are those of negative numbers, and negsuc n is -(n + 1)

pub sums_at_ends : (checked_sum 2147483646 1 ≡ Some (pos 2147483647)) × (checked_sum 2147483647 1 ≡ None)
    × (checked_sum 2147483649 4294967295 ≡ Some (negsuc 2147483647)) × (checked_sum 2147483648 4294967295 ≡ None)
unfolding running
sums_at_ends = (refl, refl, refl, refl)

-- -1 - (-2147483648) fits, though 2147483648 by itself does not
pub differences_at_ends : (checked_difference 4294967295 2147483648 ≡ Some (pos 2147483647)) × (checked_difference 0 2147483648 ≡ None)
    × (checked_difference 2147483649 1 ≡ Some (negsuc 2147483647)) × (checked_difference 2147483648 1 ≡ None)
unfolding running
differences_at_ends = (refl, refl, refl, refl)

-- ---- a thread that is to count on, before its last number and at its end

abbrev tb : Table
tb = filled_up counter

abbrev pub near : List ℕ
near = ready_at 2 (0 ∷ 2147483646 ∷ 1 ∷ [])

abbrev pub far : List ℕ
far = ready_at 2 (0 ∷ 2147483647 ∷ 1 ∷ [])

-- before it all sums of the choice fit
near_fits : (i : ℕ) → i < branch_count tb 2 → TooFar tb (branch_at tb 2 i) near → ⊥
unfolding running
near_fits zero l (inl (e, inl o)) = clash cc
near_fits zero l (inl (e, inr o)) = clash cc
near_fits zero l (inr (e, o)) = omega arith
near_fits (suc zero) l (inl (e, o)) = omega arith
near_fits (suc zero) l (inr (e, o)) = omega arith
near_fits (suc (suc i)) l o = omega arith

-- and so, by the laws, the guard counts as the file has it, and the sum is what document 01 has
pub near_as_before : (guard_holds tb (branch_at tb 2 0) near ≡ printed_guard tb (branch_at tb 2 0) near)
    × (assigned tb (branch_at tb 2 0) near ≡ Some (wrapped_value tb (branch_at tb 2 0) near))
unfolding running
near_as_before =
    let q = table_holds counter counter_in_order in
    let table = table_for counter in
    let ok = table_accepted counter counter_in_order in
    let small = table_small counter counter_in_order in (
      rw q at (guard_printed table ok small near (rw q (omega arith)) (rw q near_fits) 0 (rw q (omega arith))),
      rw q at (value_wrapped table ok small near (rw q (omega arith)) (rw q near_fits) 0 (rw q (omega arith)) (rw q refl)),
    )

pub near_counts : (guard_holds tb (branch_at tb 2 0) near ≡ true) × (wrapped_value tb (branch_at tb 2 0) near ≡ pos 2147483647)
unfolding running residue wrapped wrapped_value
near_counts = (refl, refl)

-- at its end the sum is too far: the guard counts as false, for 002's rules too, though the file's is true; document 01 had -2147483648 for the sum
pub far_too_far : TooFar tb (branch_at tb 2 0) far
unfolding running
far_too_far = inl (refl, inr refl)

pub far_passed_over : (guard_holds tb (branch_at tb 2 0) far ≡ false) × (printed_guard tb (branch_at tb 2 0) far ≡ true)
    × (assigned tb (branch_at tb 2 0) far ≡ None) × (wrapped_value tb (branch_at tb 2 0) far ≡ negsuc 2147483647)
unfolding running residue wrapped wrapped_value
far_passed_over = (refl, refl, refl, refl)

pub far_published : (Agents.holds (env_of tb far) (guard_of tb (branch_at tb 2 0)) ≡ false) × (Agents.holds (env_of tb far) (printed_guard_of tb (branch_at tb 2 0)) ≡ true)
unfolding running Agents.numeric Agents.value_of Agents.holds printed_guard_of expression_of guard_by guard_of value_as in_front trimmed slot_value env_of
far_published = (refl, refl)

-- ---- a thread that waits at its only branch, a sum: such a state is sound just where the sum does not fit

abbrev pub waiting_with : ℕ → State
waiting_with n = state_with (1 ∷ 1 ∷ 0 ∷ []) (waiting_at 2 (0 ∷ n ∷ 1 ∷ []) ∷ []) (channel_with 1 2 1 ∷ [])

pub end_waits : (sound (filled_up only_counter) (waiting_with 2147483647) ≡ true) × (sound (filled_up only_counter) (waiting_with 2147483646) ≡ false)
unfolding testing
end_waits = (refl, refl)

-- slot a gets slot b minus slot c
abbrev subtract : ℕ → ℕ → ℕ → ℕ → List ℕ
subtract a b c next = 6 ∷ 0 ∷ 0 ∷ 0 ∷ 7 ∷ a ∷ b ∷ c ∷ next ∷ 0 ∷ 0 ∷ 0 ∷ []

-- ---- a file with a difference and a sum in one choice. Slots: the port, two numbers. Nodes: 0 and 1 receive the numbers, 2 the first becomes it minus the
-- second, or else it plus the second

abbrev pub reckoner : Table
reckoner =
    header 1 1 3 4 4 1 ∷ of_numbers ∷ definition 1 3 4 ∷ slot 1 ∷ slot 0 ∷ slot 0
    ∷ choice 1 ∷ choice 1 ∷ choice 2 ∷ ending
    ∷ receive 0 1 1 ∷ receive 0 2 2 ∷ subtract 1 1 2 3 ∷ add 1 1 2 3 ∷ []

reckoner_in_order : in_order reckoner ≡ true
unfolding judging prints in_order
reckoner_in_order = refl

unfoldable pub reckons : List ℕ
reckons = table_for reckoner

accepts : accepted reckons ≡ true
unfolding reckons
accepts = table_accepted reckoner reckoner_in_order

small : (i : ℕ) → get_or reckons i 0 < 256
unfolding reckons
small = table_small reckoner reckoner_in_order

held : table_of reckons ≡ filled_up reckoner
unfolding reckons
held = table_holds reckoner reckoner_in_order

-- thread 0 is ready there with x and y
abbrev pub reckoning : ℕ → ℕ → State
reckoning x y = state_with (1 ∷ 1 ∷ 0 ∷ []) (ready_at 2 (0 ∷ x ∷ y ∷ []) ∷ []) (channel_with 1 2 0 ∷ [])

module _ (x y : ℕ) (l : x < 4294967296) (m : y < 4294967296) where
  row_small : (k : ℕ) → get_or (ready_at 2 (0 ∷ x ∷ y ∷ [])) k 0 < 4294967296
  row_small zero = omega arith
  row_small (suc zero) = omega arith
  row_small (suc (suc zero)) = omega arith
  row_small (suc (suc (suc zero))) = l
  row_small (suc (suc (suc (suc zero)))) = m
  row_small (suc (suc (suc (suc (suc k))))) = omega (arith, zero_row 13 k)

  thread_small : (t k : ℕ) → at (reckoning x y).threads t k < 4294967296
  thread_small zero k = row_small k
  thread_small (suc t) k = omega (arith, zero_at 63 18 t k)

  channel_small : (c k : ℕ) → at (reckoning x y).channels c k < 4294967296
  channel_small zero zero = omega arith
  channel_small zero (suc zero) = omega arith
  channel_small zero (suc (suc zero)) = omega arith
  channel_small zero (suc (suc (suc k))) = omega arith
  channel_small (suc c) k = omega (arith, zero_at 127 3 c k)

  thread_long : (t : ℕ) → t < 64 → length (get_or (reckoning x y).threads t []) ≡ 18
  thread_long zero h = refl
  thread_long (suc t) h = zero_long 63 18 t (omega arith)

  channel_long : (c : ℕ) → c < 128 → length (get_or (reckoning x y).channels c []) ≡ 3
  channel_long zero h = refl
  channel_long (suc c) h = zero_long 127 3 c (omega arith)

  mark_small : (i : ℕ) → get_or (reckoning x y).marks i 0 < 4294967296
  mark_small zero = omega arith
  mark_small (suc zero) = omega arith
  mark_small (suc (suc zero)) = omega arith
  mark_small (suc (suc (suc i))) = omega arith

  reckoning_shaped : Shaped (reckoning x y)
  reckoning_shaped = record {
    three_marks = refl;
    all_threads = refl;
    all_channels = refl;
    thread_long = thread_long;
    channel_long = channel_long;
    mark_small = mark_small;
    thread_small = thread_small;
    channel_small = channel_small;
  }

  module _ (tested : sound (filled_up reckoner) (reckoning x y) ≡ true) where
    bytes_of : SoundBuffer reckons (state_bytes (reckoning x y))
    bytes_of = record {
      long = bytes_long (reckoning x y) reckoning_shaped;
      small = bytes_small (reckoning x y);
      tested = rw (held, view_bytes (reckoning x y) reckoning_shaped) tested;
    }

    -- what a step of thread 0 is answered
    step_is : (step_call reckons (state_bytes (reckoning x y)) 0).answer ≡ (step_on (filled_up reckoner) (reckoning x y) 0).answer
    unfolding step_call
    step_is =
        rw (
          call_made reckons accepts Err (state_bytes (reckoning x y)) bytes_of (step_on (table_of reckons) (view (state_bytes (reckoning x y))) 0),
          held,
          view_bytes (reckoning x y) reckoning_shaped,
        )

    -- at a seat: the trainee's, who may step
    seated : seated_step reckons (state_bytes (reckoning x y)) shop 1 0 ≡ step_call reckons (state_bytes (reckoning x y)) 0
    unfolding seated_step
    seated =
        seat_granted reckons (state_bytes (reckoning x y)) shop 1 Right.StepAndRun Err (step_call reckons (state_bytes (reckoning x y)) 0)
        ((seat_admitted_iff reckons (state_bytes (reckoning x y)) shop 1 Right.StepAndRun).1
        ((right_lengths reckons accepts (state_bytes (reckoning x y)) bytes_of.long, shop_long), accepts, shop_in_range, trainee_may.1))

    -- and in C's numbers
    module _ (i : ℕ) (e : (step_on (filled_up reckoner) (reckoning x y) 0).answer ≡ Ok (2, Took i)) (q : to_z w32 i ≡ pos i) where
      numbers_are : (step_result reckons (state_bytes (reckoning x y)) shop 1 0).answer ≡ step_numbers (Ok (2, Took i))
      unfolding step_result in_numbers
      numbers_are = rw (seated, step_is, e)

      answered : Answered reckons (state_bytes (reckoning x y)) shop 1 0 2 i
      unfolding step_numbers step_fields act_number branch_number
      answered = record {
        done = ap (λ (a : StepAnswer). a.refusal) numbers_are;
        took = ap (λ (a : StepAnswer). a.act) numbers_are;
        node = ap (λ (a : StepAnswer). a.node) numbers_are;
        branch = ap (λ (a : StepAnswer). a.branch) numbers_are ∙ q;
      }

-- 5 and 12: both fit
abbrev both : State
both = reckoning 5 12

-- -2147483640 and 100: the sum fits, and the difference does not
abbrev one : State
one = reckoning 2147483656 100

tested_both : sound (filled_up reckoner) (reckoning 5 12) ≡ true
unfolding testing
tested_both = refl

tested_one : sound (filled_up reckoner) (reckoning 2147483656 100) ≡ true
unfolding testing
tested_one = refl

both_sound : SoundBuffer reckons (state_bytes both)
both_sound = bytes_of 5 12 (omega arith) (omega arith) tested_both

-- the first is answered with the difference, branch 0, and the second, where that is passed over, with the sum, branch 1
both_does : (step_on (filled_up reckoner) (reckoning 5 12) 0).answer ≡ Ok (2, Took 0)
unfolding running step_on step_end can_step
both_does = refl

one_does : (step_on (filled_up reckoner) (reckoning 2147483656 100) 0).answer ≡ Ok (2, Took 1)
unfolding running step_on step_end can_step
one_does = refl

pub both_step : (step_call reckons (state_bytes (reckoning 5 12)) 0).answer ≡ Ok (2, Took 0)
both_step = step_is 5 12 (omega arith) (omega arith) tested_both ∙ both_does

pub one_step : (step_call reckons (state_bytes (reckoning 2147483656 100)) 0).answer ≡ Ok (2, Took 1)
one_step = step_is 2147483656 100 (omega arith) (omega arith) tested_one ∙ one_does

-- ---- what C sees: the difference of 5 and 12 is stored as -7; the sum of -2147483640 and 100 as -2147483540; and by the law no step of the second could be
-- answered with the difference

both_answered : Answered reckons (state_bytes both) shop 1 0 2 0
both_answered = answered 5 12 (omega arith) (omega arith) tested_both 0 both_does refl

one_answered : Answered reckons (state_bytes one) shop 1 0 2 1
one_answered = answered 2147483656 100 (omega arith) (omega arith) tested_one 1 one_does refl

both_view : view (state_bytes both) ≡ both
both_view = view_bytes both (reckoning_shaped 5 12 (omega arith) (omega arith))

one_view : view (state_bytes one) ≡ one
one_view = view_bytes one (reckoning_shaped 2147483656 100 (omega arith) (omega arith))

-- what the first branch comes to, and the second
both_comes : ComesTo (table_of reckons) (branch_at (table_of reckons) 2 0) (thread (view (state_bytes both)) 0) (negsuc 6)
unfolding running
both_comes = rw (held, both_view) (inr (refl, refl))

one_comes : ComesTo (table_of reckons) (branch_at (table_of reckons) 2 0) (thread (view (state_bytes one)) 0) (negsuc 2147483739)
    × ComesTo (table_of reckons) (branch_at (table_of reckons) 2 1) (thread (view (state_bytes one)) 0) (negsuc 2147483539)
unfolding running
one_comes = (rw (held, one_view) (inr (refl, refl)), rw (held, one_view) (inl (refl, refl)))

pub difference_stored : to_z w32 (slot_of (thread (view (step_result reckons (state_bytes (reckoning 5 12)) shop 1 0).state) 0) 1) ≡ negsuc 6
unfolding running
difference_stored = (rw held at (stored_exactly reckons (state_bytes both) shop small (bytes_small both) 1 0 2 0 (negsuc 6) both_answered both_comes)).0

pub sum_stored : to_z w32 (slot_of (thread (view (step_result reckons (state_bytes (reckoning 2147483656 100)) shop 1 0).state) 0) 1) ≡ negsuc 2147483539
unfolding running
sum_stored =
    (rw held at (stored_exactly reckons (state_bytes one) shop small (bytes_small one) 1 0 2 1 (negsuc 2147483539) one_answered one_comes.1)).0

pub difference_not_answered : ¬ Answered reckons (state_bytes (reckoning 2147483656 100)) shop 1 0 2 0
unfolding running
difference_not_answered a =
    let (e, f) = stored_exactly reckons (state_bytes one) shop small (bytes_small one) 1 0 2 0 (negsuc 2147483739) a one_comes.0 in
    contra f refl

-- ---- comparison with the papers: the first step is a turn of the agent whose guards are the file's own. The second is none: in that agent the guard of the
-- difference is true, nothing can be stored, and nothing passes the branch over

abbrev idle : Thread
idle = Agents.thread [] (ports_and (table_of reckons) None) end

idle_bench : Bench (table_of reckons) idle
unfolding refers waiting
idle_bench = bench_is (table_of reckons) None (λ c. refl) end refl

both_fit : (i : ℕ) → i < branch_count (filled_up reckoner) 2 → TooFar (filled_up reckoner) (branch_at (filled_up reckoner) 2 i) (thread both 0) → ⊥
unfolding running
both_fit zero l (inl (e, o)) = omega arith
both_fit zero l (inr (e, inl o)) = clash cc
both_fit zero l (inr (e, inr o)) = clash cc
both_fit (suc zero) l (inl (e, inl o)) = clash cc
both_fit (suc zero) l (inl (e, inr o)) = clash cc
both_fit (suc zero) l (inr (e, o)) = omega arith
both_fit (suc (suc i)) l o = omega arith

pub both_fits : SumsFit reckons (state_bytes (reckoning 5 12)) 0
both_fits = rw (held, both_view) both_fit

pub both_turn : UncheckedStep reckons (state_bytes (reckoning 5 12)) idle 0 (Took 0)
    (step_call reckons (state_bytes (reckoning 5 12)) 0).state
both_turn = step_call_unchecked reckons accepts small (state_bytes both) both_sound idle idle_bench 0 2 (Took 0) both_fits both_step

pub one_unfit : ¬ SumsFit reckons (state_bytes (reckoning 2147483656 100)) 0
unfolding running
one_unfit h = let f = rw (held, one_view) at h in f 0 (omega arith) (inr (refl, inl refl))

one_halted : Halted (unchecked_thread (thread_of (filled_up reckoner) (thread one 0))).env (unchecked_thread (thread_of (filled_up reckoner) (thread one 0))).process
unfolding running Halted Agents.numeric Agents.value_of Agents.holds printed_guard_of expression_of guard_by guard_of prefix_of sum_before node_process unrolled process_at value_as in_front trimmed slot_value env_of ready_thread thread_of unchecked unchecked_guard unchecked_thread
one_halted = (refl, refl)

-- an answer with a branch tells of no rule but these three
took_not_zeros : (s later : State) (f : Fired) → Tells (table_of reckons) s later 0 (Took 1) f → (unchecked_fired f).rule ≢ by_zeros
unfolding Tells unchecked_fired unchecked_rule kind
took_not_zeros s later f (e, inl q) z = apart (rw q at z) refl
took_not_zeros s later f (e, inr (inl q)) z = apart (rw q at z) refl
took_not_zeros s later f (e, inr (inr (c, q))) z = apart (rw q at z) refl

pub one_no_turn : (later : List ℕ) → ¬ UncheckedStep reckons (state_bytes (reckoning 2147483656 100)) idle 0 (Took 1) later
one_no_turn later (f, tells, h) =
    took_not_zeros (view (state_bytes one)) (view later) f tells
    (halted_only (unchecked_body (body_of (table_of reckons))) (for_numbers (table_of reckons)) (unchecked_fired f) (rw (held, one_view) one_halted) h)
