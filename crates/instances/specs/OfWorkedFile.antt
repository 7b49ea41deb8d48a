-- Demand 3 of the buffers, at work (`driver/specs/ClaimOfBuffers.antt`): a file that is loaded, started and worked with a run and a collection, which takes a thread;
-- the same with a give in place of the collection, whose answer names another; and a file that is refused, which leaves every buffer. Assumes nothing.
use Rattle.collector.specs.Answers.{Collected}
use Rattle.rules.specs.Answers.{Ran}
use Rattle.std.specs.Prelude.{ℕ, ◌*◌, ◌<◌, ◌≤◌, ◌≡◌, refl, true, false, List, [], ◌∷◌, ltb, length, get_or, take, replicate, pos, Err}
use Rattle.std.proofs.Common.{arith, ap, ◌∙◌, take_all, to_z, ltb-true, ltb-false, eq-eqb}
use Rattle.std.proofs.Math.ListN.{get_or-eq_default}
use Rattle.std.specs.Int.{w32}
use Rattle.numbers.specs.Bytes.{words, bytes_of, encode}
use Rattle.numbers.specs.Bytes.Laws.{numbers_encode}
use Rattle.numbers.specs.Search.{every, computing}
use Rattle.numbers.specs.Search.Laws.{case_b, every_elim}
use Rattle.text.specs.Text.{file_text}
use Rattle.state.specs.State.{state_length}
use Rattle.rules.specs.Calls.{Outcome, give_call, run_call}
use Rattle.rules.specs.Seats.{seated_give, seated_run}
use Rattle.rules.specs.Seats.Laws.{seat_granted}
use Rattle.rules.specs.declared.Right.TheVariants as Right
use Rattle.rules_laws.specs.Frames.{elem}
use Rattle.engine_laws.specs.Lists.{give, run, after}
use Rattle.collector.specs.Collect.{collect_call, seated_collect}
use Rattle.interface.specs.Interface.{in_numbers, give_fields, give_numbers, give_result, collect_fields, collect_numbers, collect_result}
use Rattle.examples.specs.Tables.{parting}
use Rattle.guarantee.specs.Claim.{Any, on, collect, after_any, after_list, taken_by}
use Rattle.guarantee.specs.SeatedClaim.{AtSeat, after_by, after_seats}
use Rattle.guarantee.specs.Exported.{started_so, table_so}
use Rattle.guarantee.specs.InNumbers.{is_zero}
use Rattle.driver.specs.Encoding.{pattern_small, call_by, part_of, seated_by, called_by, calls_of, given, collected, answer_to, words_of, answers_to, written_from}
use Rattle.driver.specs.WorkedFile.{Worked, load_opening, worked_to, worked_file}
use Rattle.driver.specs.ClaimOfBuffers.{call_count, code_at, row_named, named_by, freed, state_at, called, told, Collects, ClaimOfBuffers}
use Rattle.driver.specs.Guaranteed.{guaranteed}
use Rattle.instances.specs.Seating.{full, full_long, full_collects, full_gives}
use Rattle.instances.specs.Parting.{table, accepts, small, blank, blank_long, begun, begun_sound}
use Rattle.instances.specs.OfGuarantee.{blank_table, loaded_table, worked, one_collected, child_taken, parent_met, parting_zero, cut, cut_refused, may, one_answered}
use Rattle.instances.specs.OfRuns as OfRuns

-- ---- two lists of two calls at seat 0, by a list with all rights: a run of five steps, and a collection or a give of 7 at port 0

abbrev taking : List ℕ
taking = encode 4 (3 ∷ 5 ∷ 0 ∷ 0 ∷ 0 ∷ 288 ∷ 4 ∷ 0 ∷ 0 ∷ 0 ∷ 0 ∷ 288 ∷ [])

abbrev giving : List ℕ
giving = encode 4 (3 ∷ 5 ∷ 0 ∷ 0 ∷ 0 ∷ 288 ∷ 1 ∷ 0 ∷ 7 ∷ 0 ∷ 0 ∷ 288 ∷ [])

abbrev room : List ℕ
room = replicate 10 0

read_back : (ns : List ℕ) → every (λ i. ltb (get_or ns i 0) 4294967296) (length ns) ≡ true → words (encode 4 ns) ≡ ns
read_back ns e = numbers_encode 4 ns (omega arith) (λ i. case_b (ltb i (length ns))
    (λ y. ltb-true (get_or ns i 0) 4294967296 (every_elim (λ j. ltb (get_or ns j 0) 4294967296) (length ns) i e (ltb-true i (length ns) y)))
    (λ y. omega (arith, get_or-eq_default ns 0 {n = i} (ltb-false i (length ns) y))))

all_rights : part_of full 0 288 ≡ full
unfolding part_of
all_rights = take_all 288 full (omega (arith, full_long))

abbrev leader : Any → AtSeat Any
leader k = record { rights = full; seat = 0; call = k }

taking_calls : calls_of full taking ≡ leader (on (run 5)) ∷ leader collect ∷ []
unfolding called_by seated_by call_by computing
taking_calls = rw (read_back (3 ∷ 5 ∷ 0 ∷ 0 ∷ 0 ∷ 288 ∷ 4 ∷ 0 ∷ 0 ∷ 0 ∷ 0 ∷ 288 ∷ []) refl, all_rights)

giving_read : words giving ≡ 3 ∷ 5 ∷ 0 ∷ 0 ∷ 0 ∷ 288 ∷ 1 ∷ 0 ∷ 7 ∷ 0 ∷ 0 ∷ 288 ∷ []
unfolding computing
giving_read = read_back (3 ∷ 5 ∷ 0 ∷ 0 ∷ 0 ∷ 288 ∷ 1 ∷ 0 ∷ 7 ∷ 0 ∷ 0 ∷ 288 ∷ []) refl

giving_calls : calls_of full giving ≡ leader (on (run 5)) ∷ leader (on (give 0 7 (pattern_small 7))) ∷ []
unfolding called_by seated_by call_by
giving_calls = rw (giving_read, all_rights)

-- the first record alone
first_calls : calls_of full (take (1 * 24) taking) ≡ leader (on (run 5)) ∷ []
unfolding called_by seated_by call_by computing encode bytes_of
first_calls =
    let e : take 24 taking ≡ encode 4 (3 ∷ 5 ∷ 0 ∷ 0 ∷ 0 ∷ 288 ∷ []) = refl in
    rw (e, read_back (3 ∷ 5 ∷ 0 ∷ 0 ∷ 0 ∷ 288 ∷ []) refl, all_rights)

both_calls : calls_of full (take (2 * 24) taking) ≡ calls_of full taking
unfolding encode bytes_of
both_calls = ap (calls_of full) (let e : take 48 taking ≡ taking = refl in e)

-- ---- the file `parting`, in buffers of zeros

opened : (calls a : List ℕ)
    → worked_file (file_text parting) blank_table blank full calls a
    ≡ worked_to (record { refusal = pos 0; line = pos 0 }) table (after_seats table begun (calls_of full calls)) (written_from a 0 (answers_to table begun (calls_of full calls)))
unfolding worked_file is_zero after_list
opened calls a = rw (parting_zero, eq-eqb (length blank) state_length blank_long, table_so (file_text parting) blank_table, loaded_table, started_so table blank)

after_run_lem : after_by table begun full 0 (on (run 5)) ≡ worked
unfolding after_by after_list after_any after seated_run
after_run_lem = ap (λ (o : Outcome Ran). o.state)
    (seat_granted table begun full 0 Right.StepAndRun Err (run_call table begun 5) (OfRuns.may table accepts small begun begun_sound))

-- words 0 and 1 of the second answer, which is that to call k
module _ (k : Any) where
  abbrev laid : List ℕ
  laid = written_from room 0 (answers_to table begun (leader (on (run 5)) ∷ leader k ∷ []))

  word_0 : get_or laid 5 0 ≡ get_or (words_of (answer_to table worked full 0 k)) 0 0
  unfolding answers_to written_from words_of
  word_0 = rw after_run_lem

  word_1 : get_or laid 6 0 ≡ get_or (words_of (answer_to table worked full 0 k)) 1 0
  unfolding answers_to written_from words_of
  word_1 = rw after_run_lem

collected_plainly : seated_collect table worked full 0 ≡ collect_call table worked
unfolding seated_collect
collected_plainly = seat_granted table worked full 0 Right.Collect Err (collect_call table worked) (may 5 Right.Collect full_collects)

one_done : (collect_result table worked full 0).answer.refusal ≡ pos 0
unfolding collect_result in_numbers collect_numbers collect_fields
one_done = rw (collected_plainly, one_collected)

collect_words : (get_or (words_of (answer_to table worked full 0 collect)) 0 0 ≡ 0) × (get_or (words_of (answer_to table worked full 0 collect)) 1 0 ≡ 1)
unfolding words_of answer_to collected
collect_words = (rw one_done, rw one_answered)

-- the claim holds of it
pub claimed : ClaimOfBuffers (file_text parting) blank_table blank full taking room
claimed = guaranteed (file_text parting) blank_table blank full taking room (rw (opened taking room))

-- the answer to the collection has the refusal 0 and the number 1
pub one_told : (told (file_text parting) blank_table blank full taking room 1 0 ≡ 0) × (told (file_text parting) blank_table blank full taking room 1 1 ≡ 1)
one_told = rw (opened taking room, taking_calls) (word_0 collect ∙ collect_words.0, word_1 collect ∙ collect_words.1)

-- it is thread 1, whose row was in use and is free
before_is : state_at (file_text parting) blank_table blank full taking room 1 ≡ worked
unfolding after_seats
before_is = ap (λ (o : Worked). o.state) (opened (take (1 * 24) taking) room) ∙ ap (after_seats table begun) first_calls ∙ after_run_lem

after_is : state_at (file_text parting) blank_table blank full taking room 2 ≡ (collect_call table worked).state
unfolding after_seats after_by
after_is =
    ap (λ (o : Worked). o.state) (opened (take (2 * 24) taking) room) ∙ ap (after_seats table begun) (both_calls ∙ taking_calls)
    ∙ ap (λ b. after_by table b full 0 collect) after_run_lem ∙ ap (λ (o : Outcome Collected). o.state) collected_plainly

pub child_freed : freed (state_at (file_text parting) blank_table blank full taking room 1) (state_at (file_text parting) blank_table blank full taking room 2) 1 ≡ true
unfolding freed taken_by
child_freed = rw (before_is, after_is) child_taken

-- ---- the give in its place

give_done : (give_result table worked full 0 0 (to_z w32 7)).answer ≡ give_fields 0 0
unfolding give_result in_numbers give_numbers seated_give
give_done = rw (seat_granted table worked full 0 (Right.Give 0) Err (give_call table worked 0 7) (may 5 (Right.Give 0) full_gives), parent_met)

give_words : (get_or (words_of (answer_to table worked full 0 (on (give 0 7 (pattern_small 7))))) 0 0 ≡ 0) × (get_or (words_of (answer_to table worked full 0 (on (give 0 7 (pattern_small 7))))) 1 0 ≡ 0)
unfolding words_of answer_to given give_fields
give_words = (rw give_done, rw give_done)

pub zero_told : (told (file_text parting) blank_table blank full giving room 1 0 ≡ 0) × (told (file_text parting) blank_table blank full giving room 1 1 ≡ 0)
zero_told =
    let k = on (give 0 7 (pattern_small 7)) in
    rw (opened giving room, giving_calls) (word_0 k ∙ give_words.0, word_1 k ∙ give_words.1)

-- its answer names thread 0
pub parent_told : named_by (on (give 0 7 (pattern_small 7))) (told (file_text parting) blank_table blank full giving room 1) ≡ 0 ∷ []
unfolding named_by row_named
parent_told = rw (zero_told.0, zero_told.1)

-- and, by the claim, not thread 1
takes_one : Collects (file_text parting) blank_table blank full taking room 1
unfolding encode bytes_of computing
takes_one = (
  (omega arith, omega arith),
  rw (read_back (3 ∷ 5 ∷ 0 ∷ 0 ∷ 0 ∷ 288 ∷ 4 ∷ 0 ∷ 0 ∷ 0 ∷ 0 ∷ 288 ∷ []) refl) (omega arith),
  one_told.0,
)

no_collection : (j : ℕ) → 1 ≤ j → j < call_count giving → code_at giving j < 4
unfolding encode bytes_of
no_collection j l n = let e : j ≡ 1 = omega arith in rw (e, giving_read) (omega arith)

same_first : take (1 * 24) giving ≡ take (1 * 24) taking
unfolding encode bytes_of
same_first = refl

pub child_unnamed : elem 1 (named_by (called (file_text parting) blank_table blank full giving room 1).call (told (file_text parting) blank_table blank full giving room 1)) ≡ false
unfolding encode bytes_of
child_unnamed = (claimed.untouched 1 takes_one 1 child_freed giving room same_first no_collection 1 (omega arith) (omega arith)).2 (omega arith)

-- ---- what is excluded: a file that is refused leaves the table, the state and the answers

pub cut_left : ((worked_file cut blank_table blank full taking room).opening.refusal ≡ pos 1)
    × ((worked_file cut blank_table blank full taking room).table ≡ blank_table)
    × ((worked_file cut blank_table blank full taking room).state ≡ blank)
    × ((worked_file cut blank_table blank full taking room).answers ≡ room)
unfolding worked_file is_zero load_opening
cut_left = rw cut_refused.0 (refl, refl, refl, refl)
