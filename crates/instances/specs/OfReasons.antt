-- Instances of the theorem on why a run ends (`engine_laws/specs/Reasons.antt`), of the bytes of a state for each reason: states of which every thread row, or
-- every channel row, is in use, and states with free rows, where the run goes on (from 63 threads to 64: `OfMoves.antt`). Assumes nothing.
use Rattle.std.specs.Prelude.{ℕ, ◌+◌, ◌*◌, ◌<◌, ◌≡◌, refl, true, false, cond, ltb, eqb, Err, Ok}
use Rattle.std.proofs.Common.{arith, ap, ◌∙◌, ltb-true, ltb-false, lt-ltb, eqb-true}
use mathlib.Core.List.{List, [], ◌∷◌}
use Rattle.std.proofs.Math.ListN.{get_or-eq_default}
use Rattle.numbers.specs.Rows.{at}
use Rattle.numbers.specs.Search.{every, tabulate}
use Rattle.numbers.specs.Search.Laws.{case_b, contra, every_elim, length_tabulate, get_d_tabulate}
use Rattle.numbers.specs.Tests.{clash}
use Rattle.table.specs.Table.{Table, definitions, ports, parameters}
use Rattle.table.specs.Layout.{start, slot_type}
use Rattle.table.specs.declared.Part.TheVariants.{Nodes}
use Rattle.loader_laws.specs.PrintedFile.{filled_up}
use Rattle.state.specs.State.{State, max_threads, max_channels, state_bytes, thread, is_waiting, type_in}
use Rattle.rules.specs.Holding.{settled}
use Rattle.rules.specs.Start.{free_row, free_channel_row, entered}
use Rattle.rules.specs.Calls.{course_of, run_call}
use Rattle.rules.specs.declared.Refusal.TheVariants as Ground
use Rattle.rules.specs.declared.Reason.{Reason}
use Rattle.rules.specs.declared.Reason.TheVariants.{AllDone, NoneReady, LackedThread, LackedChannel}
use Rattle.offers.specs.Apart.{Apart}
use Rattle.rules_laws.specs.Granted.{Granted}
use Rattle.rules_laws.specs.Reading.Laws.{offers_elim}
use Rattle.rules_laws.specs.Shape.{Shaped}
use Rattle.rules_laws.specs.Shape.Laws.{view_bytes, bytes_small}
use Rattle.rules_laws.specs.Soundness.{SlotSound, filled, RowSound, Sound}
use Rattle.rules_laws.specs.Entered.{free_sound, entered_sound}
use Rattle.rules_laws.specs.Settle.{three_small, settle}
use Rattle.engine_laws.specs.Buffers.{bytes_sound}
use Rattle.engine_laws.specs.Reasons.{due_answer, after_turns, run_ends}
use Rattle.examples.specs.Builders.{channel_with, state_of_rows}
use Rattle.examples.specs.Tables.{spawner, maker}
use Rattle.examples.specs.Computing.{running}
use Rattle.examples.specs.Files.{in_order, table_for, table_holds, table_small, table_accepted, rows_granted, spawner_in_order, maker_in_order}
use Rattle.published_laws.proofs.Running.{run_done}

-- ---- states in which threads have entered a definition

module _ (tb : Table) (d n : ℕ) (given : ℕ → ℕ → ℕ) (m : ℕ) where
  abbrev thread_of : ℕ → List ℕ
  thread_of t = cond (ltb t n) (entered tb d (given t)) free_row

  abbrev channel_of : ℕ → List ℕ
  channel_of c = cond (ltb c m) (channel_with 1 0 0) free_channel_row

  -- the first n threads have entered definition d, thread t with given t for its parameters, and the first m channels have type 1; the channels are not counted
  abbrev gathered : State
  gathered = state_of_rows (0 ∷ 0 ∷ 0 ∷ []) (tabulate max_threads thread_of) (tabulate max_channels channel_of)

  module _ (g : Granted tb) (l : d < definitions tb) (unported : ports tb ≡ 0)
      (fit : (t k : ℕ) → t < n → k < parameters tb d → (given t k < 4294967296) × SlotSound tb (type_in gathered) (start tb Nodes d) k (given t k)) where
    row_sound_lem : (t : ℕ) → t < max_threads → RowSound tb (type_in gathered) (thread gathered t)
    row_sound_lem t h =
        rw (get_d_tabulate max_threads t thread_of [] h)
        (case_b (ltb t n)
        (λ y. rw y (entered_sound tb g (type_in gathered) d (given t) l (λ k. fit t k (ltb-true t n y))))
        (λ y. rw y (free_sound tb (type_in gathered))))

    thread_small : (t k : ℕ) → at gathered.threads t k < 4294967296
    thread_small t k = case_b (ltb t 64)
        (λ y. (row_sound_lem t (ltb-true t 64 y)).small k)
        (λ y. rw (get_or-eq_default (tabulate 64 thread_of) [] {n = t} (omega (arith, ltb-false t 64 y, length_tabulate 64 thread_of))) (omega arith))

    channel_small : (c k : ℕ) → at gathered.channels c k < 4294967296
    channel_small c k = case_b (ltb c 128)
        (λ y. rw (get_d_tabulate 128 c channel_of [] (ltb-true c 128 y))
        (case_b (ltb c m)
        (λ z. rw z (three_small 1 0 0 k (omega arith) (omega arith) (omega arith)))
        (λ z. rw z (three_small 0 0 0 k (omega arith) (omega arith) (omega arith)))))
        (λ y. rw (get_or-eq_default (tabulate 128 channel_of) [] {n = c} (omega (arith, ltb-false c 128 y, length_tabulate 128 channel_of))) (omega arith))

    nobody_waits : (t : ℕ) → t < max_threads → is_waiting (thread gathered t) ≡ false
    unfolding entered
    nobody_waits t h = rw (get_d_tabulate max_threads t thread_of [] h) (case_b (ltb t n) (λ y. rw y) (λ y. rw y))

    gathered_shaped : Shaped gathered
    gathered_shaped = record {
      three_marks = refl;
      all_threads = length_tabulate max_threads thread_of;
      all_channels = length_tabulate max_channels channel_of;
      thread_long = λ t h. (row_sound_lem t h).long;
      channel_long = λ c h. rw (get_d_tabulate max_channels c channel_of [] h) (case_b (ltb c m) (λ y. rw y) (λ y. rw y));
      mark_small = λ i. three_small 0 0 0 i (omega arith) (omega arith) (omega arith);
      thread_small = thread_small;
      channel_small = channel_small;
    }

    gathered_apart : Apart tb gathered.threads
    unfolding Apart
    gathered_apart t u h i q e c a b = contra (offers_elim tb (thread gathered t) e c a).waits (nobody_waits t h)

    -- counted, it is sound
    gathered_sound : Sound tb (settled tb gathered)
    gathered_sound = settle tb g gathered (record {
      shaped = gathered_shaped;
      thread_mark_lem = omega arith;
      channel_mark_lem = omega arith;
      turn_in = omega arith;
      row = row_sound_lem;
      port = λ c h. absurd (omega (arith, unported, h));
      apart = gathered_apart;
    })

-- ---- what a run on the bytes of a sound state is answered with

module _ (rs : Table) (e : in_order rs ≡ true) (s : State) (ok : Sound (filled_up rs) s) (n : ℕ) where
  run_answer : (run_call (table_for rs) (state_bytes s) n).answer ≡ Ok ((course_of (filled_up rs) n s).steps, (course_of (filled_up rs) n s).reason)
  run_answer =
      run_done (table_for rs) (table_accepted rs e) (table_small rs e) (state_bytes s) (bytes_sound (table_for rs) s (rw (table_holds rs e) ok)) n
      ∙ rw (table_holds rs e, view_bytes s ok.orderly.shaped)

-- ---- reason 2: every thread row is in use

-- n threads that stand at a spawn
unfoldable pub spawners : ℕ → State
spawners n = settled (filled_up spawner) (gathered (filled_up spawner) 0 n (λ t k. 0) 0)

spawners_sound : (n : ℕ) → Sound (filled_up spawner) (spawners n)
unfolding spawners
spawners_sound n =
    gathered_sound (filled_up spawner) 0 n (λ t k. 0) 0 (rows_granted spawner spawner_in_order) (omega arith) refl
    (λ t k h j. absurd (let z : k < 0 = j in let y : ⊥ = omega arith in y))

abbrev spawning : ℕ → List ℕ
spawning n = state_bytes (spawners n)

spawner_run : (n k : ℕ) → (run_call (table_for spawner) (spawning n) k).answer
    ≡ Ok ((course_of (filled_up spawner) k (spawners n)).steps, (course_of (filled_up spawner) k (spawners n)).reason)
spawner_run n k = run_answer spawner spawner_in_order (spawners n) (spawners_sound n) k

-- with 64 threads the first spawn lacks a row: no step is made, and thread 0 is held up
pub no_thread_row : (run_call (table_for spawner) (spawning 64) 5).answer ≡ Ok (0, LackedThread 0)
unfolding running spawners
no_thread_row = spawner_run 64 5

-- the step call refuses the step that lacks a thread row on ground 13
pub step_no_thread_row : due_answer (table_for spawner) (spawning 64) ≡ Err Ground.ThreadRow
unfolding after_turns
step_no_thread_row =
    (((run_ends (table_for spawner) (spawning 64) (table_small spawner spawner_in_order) (bytes_small (spawners 64)) 5 0 (LackedThread 0) no_thread_row
    ).lacked_thread 0).0 refl).2

-- with one thread the spawn goes ahead; the run ends with the one step that was asked for, for reason 0 and for no other
pub thread_row_left : (run_call (table_for spawner) (spawning 1) 1).answer ≡ Ok (1, AllDone)
unfolding running spawners
thread_row_left = spawner_run 1 1

pub not_lacked : ¬ ((run_call (table_for spawner) (spawning 1) 1).answer ≡ Ok (0, LackedThread 0))
not_lacked e =
    let f = thread_row_left in
    let q : ◌≡◌ {A = ℕ × Reason} (1, AllDone) (0, LackedThread 0) = cc in
    let n : ◌≡◌ {A = ℕ} 1 0 = ap (λ (x : ℕ × Reason). x.0) q in clash cc

-- with no thread it is reason 1, unless no step was asked for
pub nobody_ready : (run_call (table_for spawner) (spawning 0) 1).answer ≡ Ok (0, NoneReady)
unfolding running spawners
nobody_ready = spawner_run 0 1

pub no_step_asked : (run_call (table_for spawner) (spawning 0) 0).answer ≡ Ok (0, AllDone)
unfolding running spawners
no_step_asked = spawner_run 0 0

-- ---- reason 3: every channel row is in use

-- sixteen threads at a new, each with eight channels that nobody else knows
unfoldable pub makers : State
makers = settled (filled_up maker) (gathered (filled_up maker) 1 16 (λ t k. t * 8 + k) 128)

slots_typed_lem : every (λ k. eqb (slot_type (filled_up maker) 1 k) 1) 8 ≡ true
unfolding running
slots_typed_lem = refl

makers_sound : Sound (filled_up maker) makers
unfolding makers
makers_sound =
    gathered_sound (filled_up maker) 1 16 (λ t k. t * 8 + k) 128 (rows_granted maker maker_in_order) (omega arith) refl
    (λ t k h j. let i : k < 8 = j in (omega arith, own t k h i))
  where
    own : (t k : ℕ) → t < 16 → k < 8
        → SlotSound (filled_up maker) (type_in (gathered (filled_up maker) 1 16 (λ t k. t * 8 + k) 128)) (start (filled_up maker) Nodes 1) k (t * 8 + k)
    own t k h i =
        let e = ((rows_granted maker maker_in_order).definition 1 (omega arith)).first_same in
        let f : slot_type (filled_up maker) 1 k ≡ 1 = eqb-true (slot_type (filled_up maker) 1 k) 1 (every_elim _ 8 k slots_typed_lem i) in
        let v : t * 8 + k < 128 = omega arith in
        filled (rw e i) (rw (e, f) (λ z. absurd (omega arith))) v (rw (e, f, get_d_tabulate max_channels (t * 8 + k) (channel_of (filled_up maker) 1 16 (λ t k. t * 8 + k) 128) [] v, lt-ltb (t * 8 + k) 128 v))

-- the makers know all 128 channels: the new lacks a row, though the thread is the last holder of the channel in the slot
pub no_channel_row : (run_call (table_for maker) (state_bytes makers) 5).answer ≡ Ok (0, LackedChannel 0)
unfolding running makers
no_channel_row = run_answer maker maker_in_order makers makers_sound 5

-- the step call refuses the step that lacks a channel row on ground 14
pub step_no_channel_row : due_answer (table_for maker) (state_bytes makers) ≡ Err Ground.ChannelRow
unfolding after_turns
step_no_channel_row =
    (((run_ends (table_for maker) (state_bytes makers) (table_small maker maker_in_order) (bytes_small makers) 5 0 (LackedChannel 0) no_channel_row
    ).lacked_channel 0).0 refl).2
