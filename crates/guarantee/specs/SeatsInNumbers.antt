-- What C sees of seats and rights (document 02, S-6): that a seat without the right is told the same of every state, when a call is refused with 18 and with 19,
-- and that with the right all is as without seats. Of all bytes and lengths, and of every call. Assumes nothing.
use Rattle.collector.specs.Answers.{Collected}
use Rattle.rules.specs.Answers.{Admission, Given, Ran, Stepped, Taken}
use Rattle.std.specs.Prelude.{ℕ, ◌<◌, ◌≤◌, ◌≡◌, true, false, List, ◌⊎◌, ◌≢◌, ◌↔◌, length, get_or, ℤ, pos, Err, Ok}
use Rattle.std.proofs.Common.{arith, sym, ◌∙◌, inl, to_z, of_z, eq-eqb}
use Rattle.std.proofs.Math.Path.{refl, ap}
use Rattle.std.proofs.Math.Logic.{⊎_elim}
use mir.Syntax.{w32}
use Rattle.numbers.specs.Bytes.{words}
use Rattle.numbers.specs.Search.Laws.{contra}
use Rattle.numbers.specs.Tests.{clash}
use Rattle.table.specs.Table.{table_of}
use Rattle.loader.specs.Load.{accepted}
use Rattle.state.specs.State.{view}
use Rattle.rules.specs.Calls.{Outcome, and_then, start_admission, admission, step_on, step_call, give_on, give_call, take_on, take_call, run_on, run_call}
use Rattle.rules.specs.Calls.Laws.{call_refused}
use Rattle.rules.specs.Seats.{rights_numbers, rights_length, rights_in_range, has_right, rights_admission, seat_admission, at_seat, seated_step, seated_give, seated_take, seated_run}
use Rattle.rules.specs.Seats.Laws.{state_unread}
use Rattle.rules.specs.Seats.Entitled.{Entitled}
use Rattle.rules.proofs.Seats.Entitled.{has_right_iff, lacks_right_iff}
use Rattle.rules.specs.declared.Right.TheVariants as Right
use Rattle.rules.specs.declared.Refusal.{Refusal}
use Rattle.rules.specs.declared.Refusal.TheVariants as Ground
use Rattle.engine.specs.Numbers.{refusal_number}
use Rattle.engine_laws.specs.Entry.{at_entry, refused_entry}
use Rattle.engine_laws.specs.Seats.{AllLengths, ZeroToThree, early_number, in_order_iff, outside_iff, rights_iff, right_iff, seat_refused_entry, lacking_refused}
use Rattle.engine_laws.specs.Refusals.{step_all_grounds, give_grounds, take_grounds, run_refused_iff}
use Rattle.engine_laws.specs.Lists.{step, give, take, run, after, RefusedWith}
use Rattle.collector.specs.Collect.{collect_on, collect_call, seated_collect}
use Rattle.collector_laws.specs.CollectionRefusals.{collect_refused_iff}
use Rattle.interface.specs.Interface.{in_numbers, step_numbers, step_result, give_numbers, give_result, take_numbers, take_result, run_numbers, run_result, collect_numbers, collect_result}
use Rattle.guarantee.specs.Claim.{Any, on, collect, after_any, RefusedBy}
use Rattle.guarantee.specs.SeatedClaim.{asked}
use Rattle.guarantee.specs.Through.{by_told, by_told_lem, refused_iff, granted_left, kept_left}
use Rattle.guarantee.specs.Exported.{step_list, give_list, take_list, run_list, collect_list, left_by, refusal_by, answer_by, given_so, left_by_lem, refused_by, refused_shows}

-- ---- what is said

-- of two states: a call at a seat without the right gets the same numbers, each state keeps its bytes, and the refusal is 8, 9, 18 or 19, so that it is
-- none from 10 to 14
pub record SameTold (table state second rights : List ℕ) (seat : ℕ) (k : Any) : Type 0 where
  pub answers : answer_by table state rights seat k ≡ answer_by table second rights seat k
  pub kept : left_by table state rights seat k ≡ state
  pub second_kept : left_by table second rights seat k ≡ second
  pub refused : (n : ℕ) × (refusal_by table state rights seat k ≡ pos n) × ((n ≡ 8) ⊎ ((n ≡ 9) ⊎ ((n ≡ 18) ⊎ (n ≡ 19))))
  pub never : (n : ℕ) → 10 ≤ n → n ≤ 14 → refusal_by table state rights seat k ≢ pos n

-- the answer of a call without seats, in the numbers that C would see
unfoldable pub plain_answer : List ℕ → List ℕ → Any → List ℤ
plain_answer table state (on (step t)) = step_list (step_numbers (step_call table state t).answer)
plain_answer table state (on (give p v h)) = give_list (give_numbers (give_call table state p v).answer)
plain_answer table state (on (take p)) = take_list (take_numbers (take_call table state p).answer)
plain_answer table state (on (run n)) = run_list (run_numbers (run_call table state n).answer)
plain_answer table state collect = collect_list (collect_numbers (collect_call table state).answer)

-- ---- what a call at a seat is answered, by what its seat is told

-- the numbers of a refusal on ground r
unfoldable refused_answer : Refusal → Any → List ℤ
refused_answer r (on (step t)) = step_list (step_numbers (Err r))
refused_answer r (on (give p v h)) = give_list (give_numbers (Err r))
refused_answer r (on (take p)) = take_list (take_numbers (Err r))
refused_answer r (on (run n)) = run_list (run_numbers (Err r))
refused_answer r collect = collect_list (collect_numbers (Err r))

module _ (table state rights : List ℕ) (seat : ℕ) where
  answer_told : (k : Any)
      → answer_by table state rights seat k ≡ by_told (seat_admission table state rights seat (asked k)) (λ r. refused_answer r k) (plain_answer table state k)
  unfolding asked answer_by refused_answer plain_answer step_result give_result take_result run_result collect_result in_numbers at_seat seated_step seated_give seated_take seated_run seated_collect
  answer_told (on (step t)) = by_told_lem Err state (step_call table state t) (λ o. step_list (step_numbers o.answer)) _
  answer_told (on (give p v h)) =
      let a = seat_admission table state rights seat (Right.Give p) in
      by_told_lem Err state (give_call table state p (of_z w32 (to_z w32 v))) (λ o. give_list (give_numbers o.answer)) a
      ∙ ap (λ x. by_told a (λ r. give_list (give_numbers (Err r))) (give_list (give_numbers (give_call table state p x).answer))) (given_so v h)
  answer_told (on (take p)) = by_told_lem Err state (take_call table state p) (λ o. take_list (take_numbers o.answer)) _
  answer_told (on (run n)) = by_told_lem Err state (run_call table state n) (λ o. run_list (run_numbers o.answer)) _
  answer_told collect = by_told_lem Err state (collect_call table state) (λ o. collect_list (collect_numbers o.answer)) _

  refused_answer_lem : (k : Any) (r : Refusal) → seat_admission table state rights seat (asked k) ≡ Err r → answer_by table state rights seat k ≡ refused_answer r k
  unfolding by_told
  refused_answer_lem k r e = answer_told k ∙ rw e

  granted_answer : (k : Any) → seat_admission table state rights seat (asked k) ≡ Ok tt → answer_by table state rights seat k ≡ plain_answer table state k
  unfolding by_told
  granted_answer k e = answer_told k ∙ rw e

  -- a call without seats is refused on no ground of seats
  module _ (r : Refusal) (own : at_entry r ≡ false) (one : r ≢ Ground.Thread) (two : r ≢ Ground.ThreadRow) (three : r ≢ Ground.ChannelRow) (four : r ≢ Ground.Port) where
    not_plain : (k : Any) → ¬ RefusedBy table state k r
    unfolding RefusedBy RefusedWith
    not_plain (on (step t)) e =
        ⊎_elim (λ y. contra y own) (λ f. ⊎_elim one (λ g. ⊎_elim two three g) f) (step_all_grounds table state t r e)
    not_plain (on (give p v h)) e = ⊎_elim (λ y. contra y own) four (give_grounds table state p v r e)
    not_plain (on (take p)) e = ⊎_elim (λ y. contra y own) four (take_grounds table state p r e)
    not_plain (on (run n)) e = contra (refused_entry table state r ((run_refused_iff table state n r).0 e)) own
    not_plain collect e = contra (refused_entry table state r ((collect_refused_iff table state r).0 e)) own

    -- so C sees its number exactly when the seat is refused so
    seat_number : (k : Any) → (refusal_by table state rights seat k ≡ pos (refusal_number r)) ↔ (seat_admission table state rights seat (asked k) ≡ Err r)
    seat_number k = (
      λ e. ⊎_elim (λ f. f) (λ f. absurd (not_plain k f.1)) ((refused_iff table state rights seat k r).0 (refused_by table state rights seat k r e)),
      λ e. refused_shows table state rights seat k r ((refused_iff table state rights seat k r).1 (inl e)),
    )

  -- ---- the theorems

  -- 18 exactly when all lengths are right, the table is accepted, and some number of the list, whoever's seat it is for, is none of 0 to 3
  pub eighteen_iff : ((i : ℕ) → get_or rights i 0 < 256) → (k : Any) → (refusal_by table state rights seat k ≡ pos 18)
      ↔ (AllLengths table state rights × (accepted table ≡ true) × ((i : ℕ) × (i < rights_numbers) × (¬ ZeroToThree (get_or (words rights) i 0))))
  unfolding refusal_number at_entry
  eighteen_iff fit k =
      let n = seat_number Ground.Rights refl (λ e. clash cc) (λ e. clash cc) (λ e. clash cc) (λ e. clash cc) k in
      let w = rights_iff table state rights seat (asked k) in
      let o = outside_iff rights fit in (
        λ e. let (l, a, i) = w.0 (n.0 e) in (l, a, o.0 i),
        λ (l, a, i). n.1 (w.1 (l, a, o.1 i)),
      )

  -- 19 exactly when all lengths are right, the table is accepted, every number of the list is one of 0 to 3, and the seat is not entitled by them to what the
  -- call asks
  pub nineteen_iff : ((i : ℕ) → get_or rights i 0 < 256) → (k : Any) → (refusal_by table state rights seat k ≡ pos 19)
      ↔ (AllLengths table state rights × (accepted table ≡ true) × ((i : ℕ) → i < rights_numbers → ZeroToThree (get_or (words rights) i 0))
      × (¬ Entitled rights seat (asked k)))
  unfolding refusal_number at_entry
  nineteen_iff fit k =
      let n = seat_number Ground.Seat refl (λ e. clash cc) (λ e. clash cc) (λ e. clash cc) (λ e. clash cc) k in
      let w = right_iff table state rights seat (asked k) in
      let o = in_order_iff rights fit in
      let q = lacks_right_iff rights fit seat (asked k) in (
        λ e. let (l, a, i, h) = w.0 (n.0 e) in (l, a, o.0 i, q.0 h),
        λ (l, a, i, h). n.1 (w.1 (l, a, o.1 i, q.1 h)),
      )

  -- a take and a give on a port above 7 are refused with 19, whatever the list, if it is in order, the seat and the state
  pub above_seven : ((i : ℕ) → get_or rights i 0 < 256) → AllLengths table state rights → accepted table ≡ true
      → ((i : ℕ) → i < rights_numbers → ZeroToThree (get_or (words rights) i 0)) → (p : ℕ) → 8 ≤ p
      → (refusal_by table state rights seat (on (take p)) ≡ pos 19)
      × ((v : ℕ) (h : v < 4294967296) → refusal_by table state rights seat (on (give p v h)) ≡ pos 19)
  unfolding asked Entitled
  above_seven fit l a i p h = (
    (nineteen_iff fit (on (take p))).1 (l, a, i, λ (m, n, x). omega arith),
    λ v f. (nineteen_iff fit (on (give p v f))).1 (l, a, i, λ (m, n, x). omega arith),
  )

  -- ---- with the right granted, numbers and bytes are those of the call without seats, whatever bytes the table and the state have and however long they are

  -- a call without seats whose admission is refused
  plain_refused : (k : Any) (r : Refusal) → admission table state ≡ Err r
      → (plain_answer table state k ≡ refused_answer r k) × (after_any table state k ≡ state)
  unfolding plain_answer refused_answer after_any after step_call give_call take_call run_call collect_call
  plain_refused (on (step t)) r e = let q = call_refused Err table state (step_on (table_of table) (view state) t) r e in (rw q, ap (λ (o : Outcome Stepped). o.state) q)
  plain_refused (on (give p v h)) r e = let q = call_refused Err table state (give_on (table_of table) (view state) p v) r e in (rw q, ap (λ (o : Outcome Given). o.state) q)
  plain_refused (on (take p)) r e = let q = call_refused Err table state (take_on (table_of table) (view state) p) r e in (rw q, ap (λ (o : Outcome Taken). o.state) q)
  plain_refused (on (run n)) r e = let q = call_refused Err table state (run_on (table_of table) (view state) n) r e in (rw q, ap (λ (o : Outcome Ran). o.state) q)
  plain_refused collect r e = let q = call_refused Err table state (collect_on (table_of table) (view state)) r e in (rw q, ap (λ (o : Outcome Collected). o.state) q)

  module _ (k : Any) (long : length rights ≡ rights_length) (i : rights_in_range rights ≡ true) (h : has_right rights seat (asked k) ≡ true) where
    -- the seat is then asked what start is asked
    as_start : (a : Admission) → start_admission table state ≡ a → seat_admission table state rights seat (asked k) ≡ a
    unfolding seat_admission rights_admission and_then
    as_start (Err r) e = rw (eq-eqb (length rights) rights_length long, e)
    as_start (Ok tt) e = rw (eq-eqb (length rights) rights_length long, e, i, h)

    also_plain : (r : Refusal) → start_admission table state ≡ Err r → admission table state ≡ Err r
    unfolding admission and_then
    also_plain r e = rw e

    granted_by : (a : Admission) → start_admission table state ≡ a
        → (answer_by table state rights seat k ≡ plain_answer table state k) × (left_by table state rights seat k ≡ after_any table state k)
    granted_by (Err r) e =
        let told = as_start (Err r) e in
        let (p, q) = plain_refused k r (also_plain r e) in
        (refused_answer_lem k r told ∙ sym p, left_by_lem table state rights seat k ∙ kept_left table state rights seat k r told ∙ sym q)
    granted_by (Ok tt) e =
        let told = as_start (Ok tt) e in
        (granted_answer k told, left_by_lem table state rights seat k ∙ granted_left table state rights seat k told)

  pub granted_same : ((i : ℕ) → get_or rights i 0 < 256) → (k : Any) → length rights ≡ rights_length
      → ((i : ℕ) → i < rights_numbers → ZeroToThree (get_or (words rights) i 0)) → Entitled rights seat (asked k)
      → (answer_by table state rights seat k ≡ plain_answer table state k) × (left_by table state rights seat k ≡ after_any table state k)
  granted_same fit k l i h =
      granted_by k l ((in_order_iff rights fit).1 i) ((has_right_iff rights fit seat (asked k)).1 h) (start_admission table state) refl

none_between : (m n : ℕ) → 10 ≤ m → m ≤ 14 → (n ≡ 8) ⊎ ((n ≡ 9) ⊎ ((n ≡ 18) ⊎ (n ≡ 19))) → pos n ≢ pos m
none_between m n l h o e =
    let q : n ≡ m = cc in
    ⊎_elim (λ i. omega arith) (λ o. ⊎_elim (λ i. omega arith) (λ o. ⊎_elim (λ i. omega arith) (λ i. omega arith) o) o) o

-- two benches that differ in their states alone, which may be any of one length: a seat without the right cannot tell them apart
pub same_told_numbers : (table state second rights : List ℕ) (seat : ℕ) (k : Any) → has_right rights seat (asked k) ≡ false → length second ≡ length state
    → SameTold table state second rights seat k
same_told_numbers table state second rights seat k n e =
    let (r, f) = lacking_refused table state rights seat (asked k) n in
    let g = state_unread table state rights seat (asked k) second e ∙ f in
    let shown = refused_shows table state rights seat k r ((refused_iff table state rights seat k r).1 (inl f)) in
    let early = early_number r (seat_refused_entry table state rights seat (asked k) r f) in
    record {
      answers = refused_answer_lem table state rights seat k r f ∙ sym (refused_answer_lem table second rights seat k r g);
      kept = left_by_lem table state rights seat k ∙ kept_left table state rights seat k r f;
      second_kept = left_by_lem table second rights seat k ∙ kept_left table second rights seat k r g;
      refused = (refusal_number r, shown, early);
      never = λ m l h z. none_between m (refusal_number r) l h early (sym shown ∙ z);
    }
