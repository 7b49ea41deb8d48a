-- Instances of the theorems on the refusals that C sees (`guarantee/specs/RefusalsInNumbers.antt`, `LoadInNumbers.antt`): calls to which several grounds apply, with
-- the one that is answered; calls that no ground refuses; runs that end for want of a row, and the step that is refused there; files that are refused on each
-- ground, with their lines. Assumes nothing.
use Rattle.std.specs.Prelude.{ℕ, zero, suc, ◌<◌, ◌≤◌, ◌≡◌, refl, ◌≢◌, true, false, List, [], ℤ, pos, negsuc, length, get_or, set, Err, None, Ok, Some}
use Rattle.std.proofs.Common.{arith, sym, ap, ◌∙◌, inr, SFits}
use Rattle.std.proofs.Math.Logic.{inl}
use Rattle.std.specs.Int.{w32}
use Rattle.std.proofs.Math.Facts.{sfits_lit}
use Rattle.numbers.specs.Bytes.{joined}
use Rattle.numbers.specs.Bytes.Laws.{encode_below}
use Rattle.numbers.specs.Search.Laws.{contra}
use Rattle.numbers.specs.Tests.{clash}
use Rattle.text.specs.Text.{file_text}
use Rattle.text.specs.Text.Characters.{Characters}
use Rattle.table.specs.Table.{Table, table_of, ports}
use Rattle.loader.specs.Verdict.{verdict}
use Rattle.loader.specs.Load.{table_length, table_bytes}
use Rattle.loader.specs.declared.Ground.{Ground}
use Rattle.loader.specs.declared.Ground.TheVariants.{Lines, Field, Header, Kind, Range, Types, Unwritten, Unreachable}
use Rattle.loader_laws.specs.Refused.{Refused, rank}
use Rattle.loader_laws.specs.Refused.Laws.{refused_iff}
use Rattle.loader_laws.specs.Yields.{length_bytes}
use Rattle.state.specs.State.{State, state_bytes, view, thread, is_ready, in_use, type_in}
use Rattle.rules.specs.Sound.{sound}
use Rattle.rules.specs.Seats.Entitled.{Entitled}
use Rattle.rules.proofs.Seats.Entitled.{lacks_right_iff, has_right_iff}
use Rattle.rules.specs.declared.Right.{Right}
use Rattle.rules_laws.specs.Shape.Laws.{bytes_small}
use Rattle.engine_laws.specs.Entry.{Admitted, admitted_iff, state_iff}
use Rattle.engine_laws.specs.Refusals.{step_thread_row_iff, step_channel_row_iff, give_nobody_iff}
use Rattle.engine_laws.specs.Reasons.{due}
use Rattle.engine_laws.specs.Lists.{step}
use Rattle.engine_laws.specs.Seats.{in_order_iff}
use Rattle.examples.specs.Tables.{port_receiver, spawner, maker}
use Rattle.examples.specs.Computing.{running}
use Rattle.examples.specs.Files.{in_order, table_for, table_holds, table_small, table_accepted, receiver_in_order, spawner_in_order, maker_in_order}
use Rattle.examples.specs.ListingFile.{listing_file, seventeen, slot_for_node, outside, mistyped, unset, passing, listing_malformed, listing_header, listing_kind, listing_range, listing_types, listing_unwritten, listing_unreachable, listing_refused, range_only, unwritten_refused}
use Rattle.interface.specs.declared.RunAnswer.{RunAnswer}
use Rattle.interface.specs.Interface.{result, start_result, step_result, give_result, take_result, run_result, collect_result}
use Rattle.guarantee.specs.Claim.{on, after_any}
use Rattle.guarantee.specs.SeatedClaim.{asked}
use Rattle.guarantee.specs.Exported.{step_list, left_by, answer_by}
use Rattle.guarantee.specs.SeatsInNumbers.{plain_answer, granted_same}
use Rattle.guarantee.specs.WriteInNumbers.{LoadsTo, IsLoaded, loads_so, accepted_loads}
use Rattle.guarantee.specs.LoadInNumbers.{Told, FaultAt, load_in_numbers}
use Rattle.guarantee.specs.ReasonsInLists.{RunAnswers}
use Rattle.guarantee.specs.RefusalsInNumbers.{ListInOrder, Past19, Past10, StepInNumbers, GiveInNumbers, TakeInNumbers}
use Rattle.guarantee.specs.RefusalsInNumbers.Proof.{ready_iff, start_in_numbers, step_in_numbers, give_in_numbers, take_in_numbers, run_in_numbers, collect_in_numbers}
use Rattle.instances.specs.Seating.{full, full_long, full_small, full_read, full_in_range, full_steps, shop, shop_long, shop_small, shop_in_range, leader_entitled, trainee_not_entitled, others_bench, stray, stray_last, stray_long, stray_small}
use Rattle.instances.specs.OfBuffers.{receives, blank, zero_table, zero_shaped, begun, zeros_refused, zeros_lengths, begun_admitted, begun_lengths, begun_view, somebody_there, nobody_offers}
use Rattle.instances.specs.OfWriting.{zeros_of_none}
use Rattle.instances.specs.OfReasons.{spawners, makers, step_no_thread_row, step_no_channel_row}
use Rattle.instances.specs.OfSeats.{four_outside}

-- ---- a file whose one thread receives on a port, and the shop's list of rights: the leader at seat 0 steps and collects, the feeder at seat 2 does neither, and
-- the one at seat 3 only collects

fits : Characters receives
fits = table_small port_receiver receiver_in_order

loads : IsLoaded receives
loads = (accepted_loads receives fits).0 (table_accepted port_receiver receiver_in_order)

in_order_lem : ListInOrder shop
in_order_lem = (in_order_iff shop shop_small).0 shop_in_range

-- at the start the thread is ready, and after a step it waits; a state of zeros is not sound
abbrev fresh : List ℕ
fresh = state_bytes (begun 0)

abbrev waits : List ℕ
waits = state_bytes (begun 1)

abbrev zeros : List ℕ
zeros = state_bytes blank

past : (n seat : ℕ) (right : Right) → Entitled shop seat right → Past10 receives (state_bytes (begun n)) shop seat right
past n seat right e =
    (((((begun_lengths n, shop_long), loads), in_order_lem), e), ((admitted_iff receives (state_bytes (begun n))).0 (begun_admitted n)).2)

zeros_past : (seat : ℕ) (right : Right) → Entitled shop seat right → Past19 receives zeros shop seat right
zeros_past seat right e = ((((zeros_lengths, shop_long), loads), in_order_lem), e)

unsound : sound (table_of receives) (view zeros) ≡ false
unsound = ((state_iff receives zeros).0 zeros_refused).2

feeder_steps_not : ¬ Entitled shop 2 Right.StepAndRun
feeder_steps_not = (lacks_right_iff shop shop_small 2 Right.StepAndRun).0 others_bench.0

-- ---- steps: the order of the grounds

module _ (state : List ℕ) (small : Characters state) (seat t : ℕ) where
  stepping : StepInNumbers receives state shop seat t
  stepping = step_in_numbers receives state shop seat fits small shop_small t

-- a step of thread 99, which there is not: the feeder is told 19, of the state that waits and of the state of zeros
pub feeder_nineteen : ((step_result receives waits shop 2 99).answer.refusal ≡ pos 19) × ((step_result receives zeros shop 2 99).answer.refusal ≡ pos 19)
feeder_nineteen = (
  (stepping waits (bytes_small (begun 1)) 2 99).entered.nineteen.1 ((((begun_lengths 1, shop_long), loads), in_order_lem), feeder_steps_not),
  (stepping zeros (bytes_small blank) 2 99).entered.nineteen.1 ((((zeros_lengths, shop_long), loads), in_order_lem), feeder_steps_not),
)

-- the leader is told 11 of the one and 10 of the other
pub leader_eleven : ((step_result receives waits shop 0 99).answer.refusal ≡ pos 11) × ((step_result receives zeros shop 0 99).answer.refusal ≡ pos 10)
leader_eleven = (
  (stepping waits (bytes_small (begun 1)) 0 99).eleven.1 (past 1 0 Right.StepAndRun leader_entitled.2, λ (l, e). omega arith),
  (stepping zeros (bytes_small blank) 0 99).entered.ten.1 (zeros_past 0 Right.StepAndRun leader_entitled.2, unsound),
)

-- with a stray number in the list the feeder is told 18, with a table of zeros 9, and with no list 8
zero_small : Characters (table_bytes zero_table)
unfolding table_bytes
zero_small = encode_below 2 (joined zero_table)

no_file : (file : List ℕ) → ¬ LoadsTo (table_bytes zero_table) file
no_file file f = zeros_of_none file ((loads_so (table_bytes zero_table) file).1 f)

pub before_nineteen : ((step_result receives zeros stray 2 99).answer.refusal ≡ pos 18)
    × ((step_result (table_bytes zero_table) zeros stray 2 99).answer.refusal ≡ pos 9)
    × ((step_result (table_bytes zero_table) zeros [] 2 99).answer.refusal ≡ pos 8)
before_nineteen = (
  (step_in_numbers receives zeros stray 2 fits (bytes_small blank) stray_small 99).entered.eighteen.1
      (((zeros_lengths, stray_long), loads), (71, omega arith, rw stray_last four_outside)),
  (step_in_numbers (table_bytes zero_table) zeros stray 2 zero_small (bytes_small blank) stray_small 99).entered.nine.1
      (((length_bytes zero_table zero_shaped, zeros_lengths.1), stray_long), no_file),
  (step_in_numbers (table_bytes zero_table) zeros [] 2 zero_small (bytes_small blank) (λ i. omega arith) 99).entered.eight.1 (λ (l, e). omega arith),
)

-- ---- steps: a thread that waits is not ready, and one at the start is; then a step is answered with 0

unready : is_ready (thread (begun 1) 0) ≡ false
unfolding running
unready = refl

ready : is_ready (thread (begun 0) 0) ≡ true
unfolding running
ready = refl

free_row_lem : in_use (thread (begun 0) 1) ≡ false
unfolding running
free_row_lem = refl

free_channel_lem : type_in (begun 0) 5 ≡ 0
unfolding running
free_channel_lem = refl

pub waiting_eleven : (step_result receives waits shop 0 0).answer.refusal ≡ pos 11
waiting_eleven =
    (stepping waits (bytes_small (begun 1)) 0 0).eleven.1
    (past 1 0 Right.StepAndRun leader_entitled.2, λ (l, e). contra (ap (λ s. is_ready (thread s 0)) (sym (begun_view 1)) ∙ e) unready)

-- besides 11 it answers zeros, and the bytes stay
pub waiting_kept : step_result receives waits shop 0 0 ≡ result (record { refusal = pos 11; node = pos 0; act = pos 0; branch = pos 0; partner = pos 0 }) waits
waiting_kept =
    (stepping waits (bytes_small (begun 1)) 0 0).kept (λ z. let q : pos 11 ≡ pos 0 = sym waiting_eleven ∙ z in clash cc)
    ∙ ap (λ x. result (record { refusal = x; node = pos 0; act = pos 0; branch = pos 0; partner = pos 0 }) waits) waiting_eleven

pub ready_zero : (step_result receives fresh shop 0 0).answer.refusal ≡ pos 0
ready_zero =
    (stepping fresh (bytes_small (begun 0)) 0 0).zero.1 (
      (past 0 0 Right.StepAndRun leader_entitled.2, (omega arith, rw (begun_view 0) ready)),
      λ (q, n). contra (ap (λ s. in_use (thread s 1)) (sym (begun_view 0)) ∙ n 1 (omega arith)) free_row_lem,
      λ (q, n). n 5 (omega arith) (ap (λ s. type_in s 5) (begun_view 0) ∙ free_channel_lem),
    )

-- ---- with the right granted a call is the call without seats, on buffers without a byte too; without the right it is another

pub granted_nothing : (answer_by [] [] shop 0 (on (step 99)) ≡ plain_answer [] [] (on (step 99))) × (left_by [] [] shop 0 (on (step 99)) ≡ after_any [] [] (on (step 99)))
unfolding asked
granted_nothing = granted_same [] [] shop 0 shop_small (on (step 99)) shop_long in_order_lem leader_entitled.2

pub not_granted : answer_by receives waits shop 2 (on (step 99)) ≢ plain_answer receives waits (on (step 99))
unfolding asked answer_by step_list
not_granted e =
    let g = (granted_same receives waits shop 0 shop_small (on (step 99)) shop_long in_order_lem leader_entitled.2).0 in
    let q : pos 19 ≡ pos 11 = sym feeder_nineteen.0 ∙ ap (λ (l : List ℤ). get_or l 0 (pos 0)) (e ∙ sym g) ∙ leader_eleven.0 in
    let n : ◌≡◌ {A = ℕ} 19 11 = cc in omega arith

-- ---- 13 and 14: every thread row, or every channel row, is in use

module _ (rs : Table) (e : in_order rs ≡ true) (s : State) (a : Admitted (table_for rs) (state_bytes s)) where
  all_past : (right : Right) → Entitled full 0 right → Past10 (table_for rs) (state_bytes s) full 0 right
  all_past right h =
      let (l, ok, sd) = (admitted_iff (table_for rs) (state_bytes s)).0 a in
      (((((l, full_long), (accepted_loads (table_for rs) (table_small rs e)).0 ok), (in_order_iff full full_small).0 full_in_range), h), sd)

  stepping_full : (t : ℕ) → StepInNumbers (table_for rs) (state_bytes s) full 0 t
  stepping_full t = step_in_numbers (table_for rs) (state_bytes s) full 0 (table_small rs e) (bytes_small s) full_small t

may_step : Entitled full 0 Right.StepAndRun
may_step = (has_right_iff full full_small 0 Right.StepAndRun).0 full_steps

-- of 64 threads that would each start one more, the one whose turn it is
abbrev crowd : List ℕ
crowd = state_bytes (spawners 64)

pub thirteen_due : (step_result (table_for spawner) crowd full 0 (due crowd)).answer.refusal ≡ pos 13
thirteen_due =
    let (a, c, q, n) = (step_thread_row_iff (table_for spawner) crowd (due crowd)).0 step_no_thread_row in
    (stepping_full spawner spawner_in_order (spawners 64) a (due crowd)).thirteen.1
    ((all_past spawner spawner_in_order (spawners 64) a Right.StepAndRun may_step, (ready_iff (table_for spawner) crowd (due crowd)).0 c), (q, n))

-- of 128 channels, all known to their makers
abbrev filled : List ℕ
filled = state_bytes makers

pub fourteen_due : (step_result (table_for maker) filled full 0 (due filled)).answer.refusal ≡ pos 14
fourteen_due =
    let (a, c, q, n) = (step_channel_row_iff (table_for maker) filled (due filled)).0 step_no_channel_row in
    (stepping_full maker maker_in_order makers a (due filled)).fourteen.1
    ((all_past maker maker_in_order makers a Right.StepAndRun may_step, (ready_iff (table_for maker) filled (due filled)).0 c), (q, n))

-- so a run of five steps makes none of them and ends for want of a thread row, by what the step is answered there; the thread whose turn it is is held up
held : (k : ℕ) (a : RunAnswer) (left : List ℕ) → RunAnswers (table_for spawner) crowd full 0 5 k a left → (a.reason ≡ pos 2) × (a.thread ≡ pos (due crowd))
held zero a left w =
    let two = w.reason_2.1 (omega arith, rw w.first thirteen_due) in
    (two, (w.held_up (inl two)).0 ∙ ap (λ (b : List ℕ). pos (due b)) w.first)
held (suc k) a left w =
    let e : (step_result (table_for spawner) crowd full 0 (due crowd)).answer.refusal ≡ pos 0 = rw w.first at (w.each 0 (omega arith)).0 in
    let q : pos 13 ≡ pos 0 = sym thirteen_due ∙ e in clash cc

pub run_held_up : ((run_result (table_for spawner) crowd full 0 5).answer.reason ≡ pos 2) × ((run_result (table_for spawner) crowd full 0 5).answer.thread ≡ pos (due crowd))
run_held_up =
    let (a, c, q, n) = (step_thread_row_iff (table_for spawner) crowd (due crowd)).0 step_no_thread_row in
    let w = run_in_numbers (table_for spawner) crowd full 0 (table_small spawner spawner_in_order) (bytes_small (spawners 64)) full_small 5 (omega arith) in
    let (k, r) = w.reasons (w.zero.1 (all_past spawner spawner_in_order (spawners 64) a Right.StepAndRun may_step)) in
    held k _ _ r

-- ---- gives and takes: a port that the file has not is 12 and one that no file has is 19, whatever number is given, a negative one here

minus_five : SFits w32 (negsuc 4)
minus_five = sfits_lit tt

may_at : Entitled full 0 (Right.Give 0) × Entitled full 0 (Right.Give 3) × Entitled full 0 (Right.Take 0) × Entitled full 0 (Right.Take 5)
unfolding Entitled
may_at = (
  (omega arith, omega arith, inr (rw full_read refl)),
  (omega arith, omega arith, inr (rw full_read refl)),
  (omega arith, omega arith, inr (rw full_read refl)),
  (omega arith, omega arith, inr (rw full_read refl)),
)

none_at_eight : ¬ Entitled full 0 (Right.Give 8)
unfolding Entitled
none_at_eight (s, p, n) = omega arith

one_port : (0 < ports (table_of receives)) × (ports (table_of receives) ≤ 3)
one_port = rw (table_holds port_receiver receiver_in_order) (omega arith, omega arith)

past_full : (right : Right) → Entitled full 0 right → Past10 receives waits full 0 right
past_full = all_past port_receiver receiver_in_order (begun 1) (begun_admitted 1)

giving : (p : ℕ) → GiveInNumbers receives waits full 0 p (negsuc 4)
giving p = give_in_numbers receives waits full 0 fits (bytes_small (begun 1)) full_small p (negsuc 4) minus_five

pub gives_told : ((give_result receives waits full 0 0 (negsuc 4)).answer.refusal ≡ pos 0)
    × ((give_result receives waits full 0 3 (negsuc 4)).answer.refusal ≡ pos 12)
    × ((give_result receives waits full 0 8 (negsuc 4)).answer.refusal ≡ pos 19)
gives_told = (
  (giving 0).zero.1 (past_full (Right.Give 0) may_at.0, one_port.0),
  (giving 3).twelve.1 (past_full (Right.Give 3) may_at.1, one_port.1),
  (giving 8).entered.nineteen.1 ((((begun_lengths 1, full_long), loads), (in_order_iff full full_small).0 full_in_range), none_at_eight),
)

-- at the start nobody waits at the port, and after a step somebody does
pub nobody_told : ((give_result receives fresh full 0 0 (negsuc 4)).answer.thread ≡ negsuc 0) × ((give_result receives waits full 0 0 (negsuc 4)).answer.thread ≢ negsuc 0)
nobody_told = (
  (give_in_numbers receives fresh full 0 fits (bytes_small (begun 0)) full_small 0 (negsuc 4) minus_five).nobody.1
      (all_past port_receiver receiver_in_order (begun 0) (begun_admitted 0) (Right.Give 0) may_at.0, one_port.0, nobody_offers),
  λ e. let (w, l, n) = (giving 0).nobody.0 e in
      let q : Ok (Some 0) ≡ Ok None = sym somebody_there ∙ (give_nobody_iff receives waits 0 7).1 (begun_admitted 1, l, n) in clash cc,
)

taking : (p : ℕ) → TakeInNumbers receives waits full 0 p
taking p = take_in_numbers receives waits full 0 fits (bytes_small (begun 1)) full_small p

pub takes_told : ((take_result receives waits full 0 0).answer.refusal ≡ pos 0) × ((take_result receives waits full 0 5).answer.refusal ≡ pos 12)
takes_told = (
  (taking 0).zero.1 (past_full (Right.Take 0) may_at.2, one_port.0),
  (taking 5).twelve.1 (past_full (Right.Take 5) may_at.3, omega (arith, one_port.1)),
)

-- ---- a collection at seat 3, where nothing else is granted: 0 of the one state and 10 of the other. The trainee's is 19, and so is a run at seat 3

clearer : Entitled shop 3 Right.Collect
clearer = (has_right_iff shop shop_small 3 Right.Collect).0 others_bench.3

clearer_runs_not : ¬ Entitled shop 3 Right.StepAndRun
clearer_runs_not = (lacks_right_iff shop shop_small 3 Right.StepAndRun).0 others_bench.2

pub collections_told : ((collect_result receives waits shop 3).answer.refusal ≡ pos 0)
    × ((collect_result receives zeros shop 3).answer.refusal ≡ pos 10)
    × ((collect_result receives zeros shop 1).answer.refusal ≡ pos 19)
    × ((run_result receives waits shop 3 9).answer.refusal ≡ pos 19)
collections_told = (
  (collect_in_numbers receives waits shop 3 fits (bytes_small (begun 1)) shop_small).zero.1 (past 1 3 Right.Collect clearer),
  (collect_in_numbers receives zeros shop 3 fits (bytes_small blank) shop_small).entered.ten.1 (zeros_past 3 Right.Collect clearer, unsound),
  (collect_in_numbers receives zeros shop 1 fits (bytes_small blank) shop_small).entered.nineteen.1
      ((((zeros_lengths, shop_long), loads), in_order_lem), trainee_not_entitled.3),
  (run_in_numbers receives waits shop 3 fits (bytes_small (begun 1)) shop_small 9 (omega arith)).entered.nineteen.1
      ((((begun_lengths 1, shop_long), loads), in_order_lem), clearer_runs_not),
)

-- ---- a start: whatever the state's buffer has, if it has its length

pub starts_told : ((start_result receives zeros).answer.refusal ≡ pos 0)
    × ((start_result (table_bytes zero_table) zeros).answer.refusal ≡ pos 9)
    × ((start_result (table_bytes zero_table) []).answer.refusal ≡ pos 8)
starts_told = (
  (start_in_numbers receives zeros fits).zero.1 (zeros_lengths, loads),
  (start_in_numbers (table_bytes zero_table) zeros zero_small).nine.1 ((length_bytes zero_table zero_shaped, zeros_lengths.1), no_file),
  (start_in_numbers (table_bytes zero_table) [] zero_small).eight.1 (λ (a, b). omega arith),
)

-- ---- loads: document 01's listing with one change each, into whatever buffer. The ground and the first line at fault

module _ (t : List ℕ) where
  fault : (file : List ℕ) (g : Ground) (l : ℕ) → verdict file ≡ Err (g, l) → 0 < rank g → FaultAt file t g l
  unfolding Refused rank
  fault file g l e h = let w = (refused_iff file g l).0 e in (λ z. w.2 Lines 0 h (refl, inl z), w)

  pub loads_refused : Told (set listing_file 145 32) t 2 2 × Told (file_text seventeen) t 3 1 × Told (file_text slot_for_node) t 3 6
      × Told (file_text outside) t 4 14 × Told (file_text mistyped) t 5 14 × Told (file_text unset) t 6 15 × Told (file_text passing) t 7 9
  unfolding rank
  loads_refused = (
    ((load_in_numbers (set listing_file 145 32) t).two 2).1 (fault (set listing_file 145 32) Field 2 listing_malformed (omega arith)),
    ((load_in_numbers (file_text seventeen) t).three 1).1 (inl (fault (file_text seventeen) Header 1 listing_header (omega arith))),
    ((load_in_numbers (file_text slot_for_node) t).three 6).1 (inr (inr (inl (fault (file_text slot_for_node) Kind 6 listing_kind (omega arith))))),
    ((load_in_numbers (file_text outside) t).four 14).1 (fault (file_text outside) Range 14 listing_range (omega arith)),
    ((load_in_numbers (file_text mistyped) t).five 14).1 (fault (file_text mistyped) Types 14 listing_types (omega arith)),
    ((load_in_numbers (file_text unset) t).six 15).1 (fault (file_text unset) Unwritten 15 listing_unwritten (omega arith)),
    ((load_in_numbers (file_text passing) t).seven 9).1 (fault (file_text passing) Unreachable 9 listing_unreachable (omega arith)),
  )

  -- the file that is told 4 is not told 5, and the one that is told line 15 not line 16
  pub not_later : (¬ Told (file_text outside) t 5 14) × (¬ Told (file_text unset) t 6 16)
  not_later = (
    λ e. range_only (((load_in_numbers (file_text outside) t).five 14).0 e).1,
    λ e. (((load_in_numbers (file_text unset) t).six 16).0 e).1.1 15 (omega arith) unwritten_refused.0,
  )

  -- the listing itself loads into a buffer of the table's length, and into no other
  pub listing_told : (length t ≡ table_length → Told listing_file t 0 0) × (length t ≢ table_length → Told listing_file t 8 0)
  listing_told = (
    λ l. ((load_in_numbers listing_file t).zero 0).1 (refl, inr listing_refused, l),
    λ n. ((load_in_numbers listing_file t).eight 0).1 (refl, inr listing_refused, n),
  )
