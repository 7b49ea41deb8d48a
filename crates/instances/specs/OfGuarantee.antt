-- Demand 3 at work (`guarantee/specs/Claim.antt`): one file that loads, one list of calls from its start, and a collection after it that takes a thread and
-- leaves another waiting; and in the numbers that C gets, with what they exclude. Assumes nothing.
use Rattle.std.specs.Prelude.{ℕ, ◌≡◌, refl, true, false, List, [], ◌∷◌, ltb, length, take, replicate, pos, Err, Ok, Some}
use Rattle.std.proofs.Common.{arith, sym, ap, ◌∙◌, inl}
use Rattle.std.proofs.lemmas.List.{length-replicate}
use Rattle.numbers.specs.Tests.{clash}
use Rattle.text.specs.Text.{file_text}
use Rattle.table.specs.Table.{table_of, ports}
use Rattle.loader.specs.Load as Load
use Rattle.loader.specs.Load.{table_length, Outcome, outcome, loaded}
use Rattle.state.specs.State.{view, thread, stands_at, is_waiting}
use Rattle.rules.specs.Offers.{partner_of}
use Rattle.rules.specs.Moves.{move}
use Rattle.rules.specs.Calls.{step_answer, can_step, step_on, step_call, bench, given_to, give_on, give_call}
use Rattle.rules.specs.Calls.Laws.{step_answered}
use Rattle.rules.specs.Seats.{has_right, seat_admission, seated_step, seated_give}
use Rattle.rules.specs.Seats.Laws.{seat_granted}
use Rattle.rules.specs.declared.Right.{Right}
use Rattle.rules.specs.declared.Deed.TheVariants.{TookWith}
use Rattle.rules.specs.declared.Direction.TheVariants.{In}
use Rattle.rules.specs.declared.Move.TheVariants.{Spawns}
use Rattle.rules_laws.specs.Frames.{elem, movers}
use Rattle.engine.specs.Numbers.{partner_number}
use Rattle.engine_laws.specs.Seats.{seat_admitted_iff}
use Rattle.engine_laws.specs.SoundCalls.{right_lengths, call_made}
use Rattle.engine_laws.specs.Lists.{Call, step, give, run}
use Rattle.collector.specs.Collect.{collected, taken_count, collect_call, seated_collect}
use Rattle.collector_laws.specs.Linked.{Series}
use Rattle.collector_laws.specs.Out.{taken_thread}
use Rattle.interface.specs.Interface.{numbered, load_result, in_numbers, start_result, step_fields, step_numbers, step_result, collect_fields, collect_numbers, collect_result}
use Rattle.examples.specs.Tables.{parting}
use Rattle.examples.specs.Computing.{collecting}
use Rattle.examples.specs.Files.{rows_loaded, parting_in_order}
use Rattle.examples.specs.ListingFile.{listing_file, listing_cut_long}
use Rattle.guarantee.specs.Claim.{Any, on, unless_refused, met_by_give, moving, moving_all, taken_by, Guarantee}
use Rattle.guarantee.specs.ClaimKept.{collect_view, taken_is}
use Rattle.guarantee.specs.SeatedClaim.{AtSeat, moving_by}
use Rattle.guarantee.specs.Proof.{collection_made, guarantee}
use Rattle.guarantee.specs.Exported.{table_so}
use Rattle.guarantee.specs.LoadInNumbers.{load_in_numbers}
use Rattle.guarantee.specs.InNumbers.{moved, InNumbers}
use Rattle.guarantee.specs.InNumbers.Proof.{moved_so, started_iff, in_numbers_lem}
use Rattle.instances.specs.Seating.{full, full_long, full_in_range, full_steps, full_collects, full_gives}
use Rattle.instances.specs.Parting.{tb, table, accepts, small, held_table, state_after, blank, blank_long, bytes_after, bytes_sound, bytes_view}

-- ---- the file loads, here into a buffer of zeros

pub blank_table : List ℕ
blank_table = replicate table_length 0

pub blank_table_long : length blank_table ≡ table_length
unfolding blank_table
blank_table_long = length-replicate {A = ℕ} table_length 0

parting_loaded : loaded (file_text parting) blank_table ≡ outcome (Ok tt) table
unfolding table
parting_loaded = rows_loaded parting parting_in_order blank_table blank_table_long

pub parting_loads : (loaded (file_text parting) blank_table).answer ≡ Ok tt
parting_loads = ap (λ (o : Outcome). o.answer) parting_loaded

pub loaded_table : (loaded (file_text parting) blank_table).table ≡ table
loaded_table = ap (λ (o : Outcome). o.table) parting_loaded

-- ---- a list of calls, from the start in a buffer of zeros

-- the whole claim, of whatever list
pub parting_guarantee : (ks : List Any) → Guarantee table blank ks
parting_guarantee ks = rw loaded_table at (guarantee (file_text parting) blank_table parting_loads blank blank_long ks)

-- a run of five steps
abbrev pub worked : List ℕ
worked = bytes_after 5

-- ---- the state after it

-- a collection takes one thread, thread 1, and leaves thread 0 waiting
one_taken : (taken_count tb (state_after 5) ≡ 1) × (taken_thread tb (state_after 5) 1 ≡ true) × (is_waiting (thread (collected tb (state_after 5)) 0) ≡ true)
unfolding collecting state_after taken_thread
one_taken = (refl, refl, refl)

-- ---- the bytes after it: the collection is made and takes one thread, which is thread 1; and thread 0 waits after it, so that no part of the claim is empty

taken_one : taken_count (table_of table) (view worked) ≡ 1
taken_one = rw (held_table, bytes_view 5) one_taken.0

pub one_collected : (collect_call table worked).answer ≡ Ok 1
one_collected = collection_made table accepts small blank blank_long (on (run 5) ∷ []) ∙ ap (λ n. Ok n) taken_one

taken_child : taken_thread (table_of table) (view worked) 1 ≡ true
taken_child = rw (held_table, bytes_view 5) one_taken.1

pub child_taken : taken_by table worked 1 ≡ true
child_taken = taken_is table accepts small worked (bytes_sound 5) 1 ∙ taken_child

left_parent : is_waiting (thread (collected (table_of table) (view worked)) 0) ≡ true
left_parent = rw (held_table, bytes_view 5) one_taken.2

pub parent_waits : is_waiting (thread (view (collect_call table worked).state) 0) ≡ true
parent_waits = rw (collect_view table accepts small worked (bytes_sound 5)) left_parent

-- whatever would have been called in place of the collection, thread 1 would not have moved
pub child_rests : (later : List Call) → elem 1 (moving_all table worked later) ≡ false
child_rests later = ((parting_guarantee (on (run 5) ∷ [])).untouched 1 one_collected later 1 child_taken).0

port_open : ltb 0 (ports (table_of table)) ≡ true
port_open = rw held_table refl

parent_offers : partner_of tb (state_after 5) bench In 0 ≡ Some (0, 0)
unfolding collecting state_after
parent_offers = refl

parent_found : partner_of (table_of table) (view worked) bench In 0 ≡ Some (0, 0)
parent_found = rw (held_table, bytes_view 5) parent_offers

pub parent_met : (give_call table worked 0 7).answer ≡ Ok (Some 0)
unfolding give_call give_on given_to
parent_met = rw (call_made table accepts Err worked (bytes_sound 5) (give_on (table_of table) (view worked) 0 7), port_open, parent_found)

-- thread 0 would have moved: a give on the port meets it
pub parent_moves : elem 0 (moving_all table worked (give 0 7 (omega arith) ∷ [])) ≡ true
unfolding moving_all moving met_by_give elem
parent_moves = rw parent_met

-- after the collection thread 0 is linked
pub parent_linked : (r : List ℕ) × Series (table_of table) (view (collect_call table worked).state) 0 r
parent_linked = (parting_guarantee (on (run 5) ∷ [])).linked 1 one_collected 0 (omega arith) parent_waits

-- ---- in C's numbers

-- load is answered with 0, and so is start in the buffer of zeros
pub parting_zero : (load_result (file_text parting) blank_table).answer.refusal ≡ pos 0
unfolding load_result numbered Load.refusal_number
parting_zero = rw parting_loads

pub parting_begun : (start_result (load_result (file_text parting) blank_table).table blank).answer.refusal ≡ pos 0
parting_begun = rw (table_so (file_text parting) blank_table, loaded_table) ((started_iff table accepts blank).1 blank_long)

-- the claim in numbers holds of it, of whatever list
pub parting_in_numbers : (ks : List (AtSeat Any)) → InNumbers (load_result (file_text parting) blank_table).table blank ks
parting_in_numbers = in_numbers_lem (file_text parting) blank_table parting_zero blank parting_begun

-- the first 72 bytes of document 01's listing are refused with 1, and leave the buffer as it was
abbrev pub cut : List ℕ
cut = take 72 listing_file

pub cut_refused : ((load_result cut blank_table).answer.refusal ≡ pos 1) × ((load_result cut blank_table).table ≡ blank_table)
cut_refused =
    let load = load_in_numbers cut blank_table in
    let one = ((load.one 0).1 (refl, inl (λ (n, e). absurd (omega (arith, listing_cut_long))))).0 in
    (one, load.kept (λ z. let q : pos 0 ≡ pos 1 = sym z ∙ one in clash cc))

-- the calls below are made at seat 0, by a list with all rights
pub may : (n : ℕ) (right : Right) → has_right full 0 right ≡ true → seat_admission table (bytes_after n) full 0 right ≡ Ok tt
may n right h =
    (seat_admitted_iff table (bytes_after n) full 0 right).1 ((right_lengths table accepts (bytes_after n) (bytes_sound n).long, full_long), accepts, full_in_range, h)

-- the collection after the run of five steps answers 1
pub one_answered : (collect_result table worked full 0).answer.threads ≡ pos 1
unfolding collect_result seated_collect in_numbers collect_numbers collect_fields
one_answered = rw (seat_granted table worked full 0 Right.Collect Err (collect_call table worked) (may 5 Right.Collect full_collects), one_collected)

-- a give on the port in its place names thread 0
pub parent_named : moved table worked full 0 (give 0 7 (omega arith)) ≡ 0 ∷ []
unfolding moving_by seated_give met_by_give
parent_named =
    moved_so table accepts worked (bytes_sound 5) full 0 (give 0 7 (omega arith))
    ∙ rw (seat_granted table worked full 0 (Right.Give 0) Err (give_call table worked 0 7) (may 5 (Right.Give 0) full_gives), parent_met)

-- after one step thread 0 is about to spawn: the answer of its step names thread 1, which it starts and does not meet
spawns : (can_step (state_after 1) 0 ≡ true) × (move tb (state_after 1) 0 ≡ Spawns 0 1)
unfolding collecting state_after can_step
spawns = (refl, refl)

child_moves : (can_step (view (bytes_after 1)) 0 ≡ true) × (move (table_of table) (view (bytes_after 1)) 0 ≡ Spawns 0 1)
child_moves = rw (held_table, bytes_view 1) spawns

child_answer : (step_call table (bytes_after 1) 0).answer ≡ Ok (stands_at (thread (view (bytes_after 1)) 0), TookWith 0 1)
unfolding step_call step_answer
child_answer =
    rw (call_made table accepts Err (bytes_after 1) (bytes_sound 1) (step_on (table_of table) (view (bytes_after 1)) 0))
    (step_answered (table_of table) (view (bytes_after 1)) 0 ∙ rw (child_moves.0, child_moves.1))

child_seated : seated_step table (bytes_after 1) full 0 0 ≡ step_call table (bytes_after 1) 0
unfolding seated_step
child_seated = seat_granted table (bytes_after 1) full 0 Right.StepAndRun Err (step_call table (bytes_after 1) 0) (may 1 Right.StepAndRun full_steps)

pub child_named : ((step_result table (bytes_after 1) full 0 0).answer.partner ≡ pos 1) × (moved table (bytes_after 1) full 0 (step 0) ≡ 0 ∷ [])
unfolding step_result in_numbers step_numbers step_fields partner_number moving_by unless_refused movers
child_named = (
  rw (child_seated, child_answer),
  moved_so table accepts (bytes_after 1) (bytes_sound 1) full 0 (step 0) ∙ rw (child_seated, child_answer, child_moves.1),
)
