-- Instances of the theorems on seats (`engine_laws/specs/Seats.antt`, `guarantee/specs/SeatedProof.antt`, `SeatsInNumbers.antt`,
-- `profile_laws/specs/SeatedPledge.antt`): a trainee who may not feed a
-- port is told the same of two states, and a leader is told them apart; a list with one number out of range is refused to everybody; and a list of calls
-- at seats, whose collection the leader may make and the trainee not. Assumes nothing.
use Rattle.collector.specs.Answers.{Collected}
use Rattle.std.specs.Prelude.{ℕ, ◌<◌, ◌≡◌, refl, ◌≢◌, true, List, [], ◌∷◌, map, length, get_or, pos, Err, Ok, Some}
use Rattle.std.proofs.Common.{arith, sym, ap, ◌∙◌, inr, eq-eqb}
use Rattle.std.specs.Int.{w32}
use Rattle.std.proofs.Math.Facts.{to_z_pos}
use Rattle.numbers.specs.Bytes.{words}
use Rattle.loader.specs.Load.{accepted}
use Rattle.state.specs.State.{view, state_bytes}
use Rattle.rules.specs.Seats.{rights_numbers, rights_length, seat_admission, seated_give}
use Rattle.rules.specs.Seats.Laws.{seat_granted, seat_refused}
use Rattle.rules.specs.Calls.{Outcome, give_call, take_call}
use Rattle.rules.specs.declared.Right.TheVariants as Right
use Rattle.rules.specs.declared.Refusal.TheVariants as Ground
use Rattle.engine.specs.Numbers.{refusal_number}
use Rattle.engine_laws.specs.Entry.{at_entry, RightLengths}
use Rattle.engine_laws.specs.Refusals.{give_entry_iff, take_port_iff}
use Rattle.engine_laws.specs.Seats.{AllLengths, ZeroToThree, right_iff, seat_admitted_iff, in_order_iff}
use Rattle.engine_laws.specs.SoundCalls.{right_lengths}
use Rattle.engine_laws.specs.Lists.{step, give, take, run, RefusedWith}
use Rattle.collector.specs.Collect.{collect_call, seated_collect}
use Rattle.examples.specs.Tables.{port_receiver, doublings}
use Rattle.examples.specs.Files.{table_for, table_holds, table_accepted, table_small, receiver_in_order, doublings_in_order}
use Rattle.guarantee.specs.Claim.{Any, on, reached_by, RefusedBy}
use Rattle.guarantee.specs.SeatedClaim.{AtSeat, asked, reached_at, SeatedGuarantee}
use Rattle.guarantee.specs.Through.{let_through, through, refused_iff}
use Rattle.guarantee.specs.SeatedProof.{reached_through, accepted_seated}
use Rattle.guarantee.specs.Exported.{refusal_by, refused_shows}
use Rattle.guarantee.specs.SeatsInNumbers.{SameTold, eighteen_iff, nineteen_iff, above_seven, same_told_numbers}
use Rattle.profile_laws.specs.Claim.{threads_in}
use Rattle.profile_laws.specs.SeatedPledge.{SeatedPledge, seated_accepted_pledge}
use Rattle.instances.specs.Seating.{full, full_long, full_small, full_in_range, shop, shop_long, shop_small, shop_in_range, leader_not_entitled, trainee_entitled, trainee_not_entitled, leader_may, trainee_may, trainee_may_not, others_bench, stray, stray_last, stray_long, stray_small}
use Rattle.instances.specs.OfBuffers.{receives, blank, begun, zeros_refused, somebody_there, zeros_lengths, begun_admitted, begun_lengths}
use Rattle.instances.specs.Parting as Parting
use Rattle.instances.specs.OfProfile.{doublings_pass, steps, doubled, doublings_reach}
use Rattle.instances.specs.OfGuarantee.{worked, one_collected}

-- ---- two states of one file: in one a thread waits at its port for a number, and the other is a state of zeros, which is not sound

abbrev waits : List ℕ
waits = state_bytes (begun 1)

abbrev zeros : List ℕ
zeros = state_bytes blank

abbrev feed : Any
feed = on (give 0 7 (omega arith))

accepts : accepted receives ≡ true
accepts = table_accepted port_receiver receiver_in_order

-- the trainee at seat 1 may not feed the port, and cannot tell them apart: 19 both times
pub trainee_told : SameTold receives waits zeros shop 1 feed
unfolding asked
trainee_told = same_told_numbers receives waits zeros shop 1 feed trainee_may_not.0 (zeros_lengths.1 ∙ sym (begun_lengths 1).1)

all_right : AllLengths receives waits shop
all_right = (begun_lengths 1, shop_long)

shop_in_order : (i : ℕ) → i < rights_numbers → ZeroToThree (get_or (words shop) i 0)
shop_in_order = (in_order_iff shop shop_small).0 shop_in_range

pub trainee_nineteen : refusal_by receives waits shop 1 feed ≡ pos 19
unfolding asked
trainee_nineteen =
    (nineteen_iff receives waits shop 1 shop_small feed).1 (all_right, accepts, shop_in_order, trainee_not_entitled.0)

-- the leader at seat 0 meets the thread in one, and is refused with 10 in the other
leader_admitted : (state : List ℕ) → RightLengths receives state → seat_admission receives state shop 0 (Right.Give 0) ≡ Ok tt
leader_admitted state l = (seat_admitted_iff receives state shop 0 (Right.Give 0)).1 ((l, shop_long), accepts, shop_in_range, leader_may.0)

pub leader_meets : (seated_give receives waits shop 0 0 7).answer ≡ Ok (Some 0)
unfolding seated_give
leader_meets = rw (seat_granted receives waits shop 0 (Right.Give 0) Err (give_call receives waits 0 7) (leader_admitted waits (begun_lengths 1))) somebody_there

pub leader_ten : refusal_by receives zeros shop 0 feed ≡ pos 10
unfolding asked RefusedBy RefusedWith refusal_number at_entry
leader_ten =
    refused_shows receives zeros shop 0 feed Ground.State
    ((refused_iff receives zeros shop 0 feed Ground.State).1
    (inr (leader_admitted zeros zeros_lengths, (give_entry_iff receives zeros 0 7 Ground.State refl).1 zeros_refused)))

-- ---- 19 and 12: each call goes by the number of its own port

no_second_port : (take_call receives waits 1).answer ≡ Err Ground.Port
no_second_port = (take_port_iff receives waits 1).1 (begun_admitted 1, rw (table_holds port_receiver receiver_in_order) (omega arith))

-- the trainee may take at port 1 alone: there the call comes to its own ground, since the file has one port, and at port 0 it does not
pub trainee_takes : (refusal_by receives waits shop 1 (on (take 1)) ≡ pos 12) × (refusal_by receives waits shop 1 (on (take 0)) ≡ pos 19)
unfolding asked RefusedBy RefusedWith refusal_number
trainee_takes = (
  refused_shows receives waits shop 1 (on (take 1)) Ground.Port
      ((refused_iff receives waits shop 1 (on (take 1)) Ground.Port).1
      (inr ((seat_admitted_iff receives waits shop 1 (Right.Take 1)).1 (all_right, accepts, shop_in_range, trainee_may.0), no_second_port))),
  (nineteen_iff receives waits shop 1 shop_small (on (take 0))).1 (all_right, accepts, shop_in_order, trainee_not_entitled.1),
)

-- so 19 is not said at port 1, which is what its law says too
pub trainee_not_nineteen : refusal_by receives waits shop 1 (on (take 1)) ≢ pos 19
unfolding asked
trainee_not_nineteen e = ((nineteen_iff receives waits shop 1 shop_small (on (take 1))).0 e).3 trainee_entitled.0

-- the leader gives at port 0 and takes at port 1, and not the other way round; at port 7 there is nothing to give or take
pub leader_nineteen : (refusal_by receives waits shop 0 (on (take 0)) ≡ pos 19) × (refusal_by receives waits shop 0 (on (give 1 7 (omega arith))) ≡ pos 19)
    × (refusal_by receives waits shop 0 (on (give 7 7 (omega arith))) ≡ pos 19)
unfolding asked
leader_nineteen = (
  (nineteen_iff receives waits shop 0 shop_small (on (take 0))).1 (all_right, accepts, shop_in_order, leader_not_entitled.0),
  (nineteen_iff receives waits shop 0 shop_small (on (give 1 7 (omega arith)))).1 (all_right, accepts, shop_in_order, leader_not_entitled.1),
  (nineteen_iff receives waits shop 0 shop_small (on (give 7 7 (omega arith)))).1 (all_right, accepts, shop_in_order, leader_not_entitled.3),
)

-- port 8 is refused to a seat whose nine numbers are all 3
pub eight_refused : (refusal_by receives waits full 0 (on (take 8)) ≡ pos 19) × (refusal_by receives waits full 0 (on (give 8 7 (omega arith))) ≡ pos 19)
eight_refused =
    let (t, g) = above_seven receives waits full 0 full_small (begun_lengths 1, full_long) accepts ((in_order_iff full full_small).0 full_in_range) 8 (omega arith) in
    (t, g 7 (omega arith))

-- ---- 18: the last number of the list is 4, which is for seat 7, and every call is refused, at seat 0 too

pub four_outside : ¬ ZeroToThree 4
four_outside (n, l, e) = let q : pos 4 ≡ pos n = sym (to_z_pos w32 {n = 4} (omega arith)) ∙ e in let k : 4 ≡ n = cc in omega arith

pub all_refused : (k : Any) → refusal_by receives waits stray 0 k ≡ pos 18
all_refused k = (eighteen_iff receives waits stray 0 stray_small k).1 ((begun_lengths 1, stray_long), accepts, (71, omega arith, rw stray_last four_outside))

-- ---- demand 3: the trainee runs five steps, and a collection follows

abbrev work : AtSeat Any
work = record { rights = shop; seat = 1; call = on (run 5) }

-- before that the feeder at seat 2 tries, who may not
abbrev idle : AtSeat Any
idle = record { rights = shop; seat = 2; call = on (run 5) }

-- seats leave the first one out
pub let_through_lem : through (idle ∷ work ∷ []) ≡ on (run 5) ∷ []
unfolding through let_through asked
let_through_lem = rw (eq-eqb (length shop) rights_length shop_long, shop_in_range, others_bench.0, trainee_may.1)

pub worked_at_seats : reached_at Parting.table Parting.blank (idle ∷ work ∷ []) ≡ worked
worked_at_seats =
    reached_through Parting.table Parting.accepts Parting.small Parting.blank Parting.blank_long (idle ∷ work ∷ [])
    ∙ ap (reached_by Parting.table Parting.blank) let_through_lem

-- the claim holds of this list
pub seats_guarantee : SeatedGuarantee Parting.table Parting.blank (idle ∷ work ∷ [])
seats_guarantee = accepted_seated Parting.table Parting.accepts Parting.small Parting.blank Parting.blank_long (idle ∷ work ∷ [])

worked_lengths : RightLengths Parting.table worked
worked_lengths = right_lengths Parting.table Parting.accepts worked (Parting.bytes_sound 5).long

-- the leader's collection takes one thread, and the trainee's is refused with 19
pub leader_collects : (seated_collect Parting.table worked shop 0).answer ≡ Ok 1
unfolding seated_collect
leader_collects =
    rw (seat_granted Parting.table worked shop 0 Right.Collect Err (collect_call Parting.table worked)
    ((seat_admitted_iff Parting.table worked shop 0 Right.Collect).1 ((worked_lengths, shop_long), Parting.accepts, shop_in_range, leader_may.1)))
    one_collected

pub trainee_collects_not : (seated_collect Parting.table worked shop 1).answer ≡ Err Ground.Seat
unfolding seated_collect
trainee_collects_not =
    ap (λ (o : Outcome Collected). o.answer)
    (seat_refused Parting.table worked shop 1 Right.Collect Err (collect_call Parting.table worked) Ground.Seat
    ((right_iff Parting.table worked shop 1 Right.Collect).1 ((worked_lengths, shop_long), Parting.accepts, shop_in_range, trainee_may_not.1)))

-- ---- the pledge of the profile: 64 threads are pledged, and steps that the trainee makes come to 64

abbrev by_trainee : List ℕ → List (AtSeat Any)
by_trainee ts = map (λ t. record { rights = shop; seat = 1; call = on (step t) }) ts

all_let : (ts : List ℕ) → through (by_trainee ts) ≡ steps ts
unfolding through let_through asked
all_let [] = refl
all_let (t ∷ ts) =
    rw (eq-eqb (length shop) rights_length shop_long, shop_in_range, trainee_may.1) (ap (λ (ks : List Any). on (step t) ∷ ks) (all_let ts))

pub seats_pledge : (ks : List (AtSeat Any)) → SeatedPledge (table_for doublings) Parting.blank 64 ks
seats_pledge ks = seated_accepted_pledge (table_for doublings) (table_small doublings doublings_in_order) 64 doublings_pass Parting.blank Parting.blank_long ks

pub seats_reach : threads_in (view (reached_at (table_for doublings) Parting.blank (by_trainee doubled))) ≡ 64
seats_reach =
    let ok = table_accepted doublings doublings_in_order in
    rw (reached_through (table_for doublings) ok (table_small doublings doublings_in_order) Parting.blank Parting.blank_long (by_trainee doubled), all_let doubled)
    doublings_reach

-- so no smaller number could be pledged at seats
pub seats_not_fewer : ¬ ((ks : List (AtSeat Any)) → SeatedPledge (table_for doublings) Parting.blank 63 ks)
seats_not_fewer p = omega (arith, (p (by_trainee doubled)).few_threads, seats_reach)
