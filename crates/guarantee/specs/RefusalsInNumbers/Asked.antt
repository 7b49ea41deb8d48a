-- What is asked of every call at a seat, by the tests of the definitions, and what follows for the number that C sees: for grounds 8, 9, 18, 19 and 10, for those of
-- the call's own, and for 0. `Proof.antt` has it call by call. Of tables, states and lists of rights in buffers of bytes, of any length. Assumes nothing.
use Rattle.collector.specs.Answers.{Collected}
use Rattle.rules.specs.Answers.{Admission, Given, Ran, Stepped, Taken}
use Rattle.std.specs.Prelude.{ℕ, ◌≡◌, true, List, [], ◌∷◌, ◌⊎◌, ◌≢◌, ◌↔◌, ℤ, pos, negsuc, Err, None, Ok, Some}
use Rattle.std.proofs.Math.Path.{refl}
use Rattle.std.proofs.Common.{sym, ap, ◌∙◌}
use Rattle.std.proofs.Math.Bool.{false}
use Rattle.std.proofs.Math.Logic.{inl, inr, ⊎_elim}
use Rattle.numbers.specs.Search.Laws.{contra}
use Rattle.numbers.specs.Tests.{clash}
use Rattle.text.specs.Text.Characters.{Characters}
use Rattle.rules.specs.Calls.{Outcome, outcome, admission}
use Rattle.rules.specs.Seats.{seat_admission, at_seat, seated_step, seated_give, seated_take, seated_run}
use Rattle.rules.specs.Seats.Laws.{seat_refused, seat_granted}
use Rattle.rules.proofs.Seats.Entitled.{has_right_iff}
use Rattle.rules.specs.declared.Right.{Right}
use Rattle.rules.specs.declared.Refusal.{Refusal}
use Rattle.rules.specs.declared.Refusal.TheVariants as Ground
use Rattle.rules_laws.specs.Frames.{elem, elem_later}
use Rattle.engine.specs.Numbers.{refusal_number}
use Rattle.engine_laws.specs.Entry.{Admitted, at_entry, length_iff, table_iff, state_iff, admitted_iff, refused_entry}
use Rattle.engine_laws.specs.Seats.{at_seat_entry, seat_length_iff, seat_table_iff, seat_admitted_iff, seat_refused_entry, in_order_iff}
use Rattle.engine_laws.specs.Refusals.{step_entry_iff, give_entry_iff, take_entry_iff, run_refused_iff, step_refused_keeps, give_refused_keeps, take_refused_keeps, run_refused_keeps}
use Rattle.engine_laws.specs.Lists.{step, give, take, run, RefusedWith, after}
use Rattle.collector.specs.Collect.{seated_collect}
use Rattle.collector_laws.specs.CollectionRefusals.{collect_refused_iff, collect_refused_keeps}
use Rattle.interface.specs.Interface.{in_numbers, step_fields, step_numbers, step_result, give_fields, give_numbers, give_result, take_fields, take_numbers, take_result, run_fields, run_numbers, run_result, collect_fields, collect_numbers, collect_result}
use Rattle.guarantee.specs.Claim.{Any, on, collect, after_any, RefusedBy}
use Rattle.guarantee.specs.SeatedClaim.{asked, after_by, RefusedAt}
use Rattle.guarantee.specs.Through.{refused_iff, granted_left, kept_left}
use Rattle.guarantee.specs.Exported.{not_zero, given_so, refusal_by, refused_by, refused_shows}
use Rattle.guarantee.specs.WriteInNumbers.{accepted_loads, refused_loads}
use Rattle.guarantee.specs.SeatsInNumbers.{eighteen_iff, nineteen_iff}
use Rattle.guarantee.specs.RefusalsInNumbers.{Past19, Past10, Entered}

-- ---- an answer is done or a refusal

step_either : (a : Stepped) → ((step_numbers a).refusal ≡ pos 0) ⊎ ((r : Refusal) × (a ≡ Err r))
unfolding step_numbers step_fields
step_either (Ok (n, d)) = inl refl
step_either (Err r) = inr (r, refl)

give_either : (a : Given) → ((give_numbers a).refusal ≡ pos 0) ⊎ ((r : Refusal) × (a ≡ Err r))
unfolding give_numbers give_fields
give_either (Ok (Some u)) = inl refl
give_either (Ok None) = inl refl
give_either (Err r) = inr (r, refl)

take_either : (a : Taken) → ((take_numbers a).refusal ≡ pos 0) ⊎ ((r : Refusal) × (a ≡ Err r))
unfolding take_numbers take_fields
take_either (Ok (Some (u, v))) = inl refl
take_either (Ok None) = inl refl
take_either (Err r) = inr (r, refl)

run_either : (a : Ran) → ((run_numbers a).refusal ≡ pos 0) ⊎ ((r : Refusal) × (a ≡ Err r))
unfolding run_numbers run_fields
run_either (Ok (n, x)) = inl refl
run_either (Err r) = inr (r, refl)

collect_either : (a : Collected) → ((collect_numbers a).refusal ≡ pos 0) ⊎ ((r : Refusal) × (a ≡ Err r))
unfolding collect_numbers collect_fields
collect_either (Ok n) = inl refl
collect_either (Err r) = inr (r, refl)

-- ---- a call without seats

module _ (table state : List ℕ) where
  -- it is refused on ground 8, 9 or 10 exactly when the buffers are
  entry_by : (k : Any) (r : Refusal) → at_entry r ≡ true → RefusedBy table state k r ↔ (admission table state ≡ Err r)
  unfolding RefusedBy RefusedWith
  entry_by (on (step t)) r y = step_entry_iff table state t r y
  entry_by (on (give p v h)) r y = give_entry_iff table state p v r y
  entry_by (on (take p)) r y = take_entry_iff table state p r y
  entry_by (on (run n)) r y = run_refused_iff table state n r
  entry_by collect r y = collect_refused_iff table state r

  -- a call that is refused leaves every byte
  plain_kept : Characters state → (k : Any) (r : Refusal) → RefusedBy table state k r → after_any table state k ≡ state
  unfolding RefusedBy RefusedWith after_any after
  plain_kept small (on (step t)) r e = step_refused_keeps table state small t r e
  plain_kept small (on (give p v h)) r e = give_refused_keeps table state small p v r e
  plain_kept small (on (take p)) r e = take_refused_keeps table state small p r e
  plain_kept small (on (run n)) r e = run_refused_keeps table state n r e
  plain_kept small collect r e = collect_refused_keeps table state r e

  -- where no ground refuses it, its buffers are admitted
  pub admitted_by : (k : Any) → ((r : Refusal) → ¬ RefusedBy table state k r) → (a : Admission) → admission table state ≡ a → Admitted table state
  admitted_by k none (Err r) e = absurd (none r ((entry_by k r (refused_entry table state r e)).1 e))
  admitted_by k none (Ok tt) e = e

-- ---- the number that C sees, by the seat and by the call without seats

module _ (table state rights : List ℕ) (seat : ℕ) where
  either : (k : Any) → (refusal_by table state rights seat k ≡ pos 0) ⊎ ((r : Refusal) × RefusedAt table state rights seat k r)
  unfolding refusal_by RefusedAt step_result give_result take_result run_result collect_result in_numbers
  either (on (step t)) = step_either (seated_step table state rights seat t).answer
  either (on (give p v h)) =
      ⊎_elim (λ z. inl (ap (λ x. (give_numbers (seated_give table state rights seat p x).answer).refusal) (given_so v h) ∙ z)) (λ f. inr f)
      (give_either (seated_give table state rights seat p v).answer)
  either (on (take p)) = take_either (seated_take table state rights seat p).answer
  either (on (run n)) = run_either (seated_run table state rights seat n).answer
  either collect = collect_either (seated_collect table state rights seat).answer

module _ (table state rights : List ℕ) (seat : ℕ) (k : Any) where
  abbrev told : Admission
  told = seat_admission table state rights seat (asked k)

  abbrev refusal : ℤ
  refusal = refusal_by table state rights seat k

  abbrev Passed : Type 0
  Passed = (told ≡ Ok tt) × Admitted table state

  -- on a ground of the seat, where the call without seats is not refused so
  by_seat_lem : (r : Refusal) → (told ≡ Ok tt → ¬ RefusedBy table state k r)
      → (refusal ≡ pos (refusal_number r)) ↔ (told ≡ Err r)
  by_seat_lem r never = (
    λ e. ⊎_elim (λ f. f) (λ f. absurd (never f.0 f.1)) ((refused_iff table state rights seat k r).0 (refused_by table state rights seat k r e)),
    λ e. refused_shows table state rights seat k r ((refused_iff table state rights seat k r).1 (inl e)),
  )

  -- on any other
  by_call : (r : Refusal) → at_seat_entry r ≡ false → (refusal ≡ pos (refusal_number r)) ↔ ((told ≡ Ok tt) × RefusedBy table state k r)
  by_call r own = (
    λ e. ⊎_elim (λ f. contra (seat_refused_entry table state rights seat (asked k) r f) own) (λ f. f)
        ((refused_iff table state rights seat k r).0 (refused_by table state rights seat k r e)),
    λ f. refused_shows table state rights seat k r ((refused_iff table state rights seat k r).1 (inr f)),
  )

  -- a seat that may make the call has buffers of the right lengths, and an accepted table
  not_length : told ≡ Ok tt → ¬ RefusedBy table state k Ground.Length
  unfolding at_entry refusal_number
  not_length a f =
      let (l, t, i, h) = (seat_admitted_iff table state rights seat (asked k)).0 a in
      (length_iff table state).0 ((entry_by table state k Ground.Length refl).0 f) l.0

  not_table : told ≡ Ok tt → ¬ RefusedBy table state k Ground.Table
  unfolding at_entry refusal_number
  not_table a f =
      let (l, t, i, h) = (seat_admitted_iff table state rights seat (asked k)).0 a in
      contra t ((table_iff table state).0 ((entry_by table state k Ground.Table refl).0 f)).1

  -- 0 exactly when the seat may make the call, and it is refused on no ground
  done_by : (a : Admission) → told ≡ a → refusal ≡ pos 0 → (told ≡ Ok tt) × ((r : Refusal) → ¬ RefusedBy table state k r)
  done_by (Err r) e z =
      absurd (not_zero r (sym z ∙ refused_shows table state rights seat k r ((refused_iff table state rights seat k r).1 (inl e))))
  done_by (Ok tt) e z =
      (e, λ r f. not_zero r (sym z ∙ refused_shows table state rights seat k r ((refused_iff table state rights seat k r).1 (inr (e, f)))))

  none_refused : told ≡ Ok tt → ((r : Refusal) → ¬ RefusedBy table state k r) → (r : Refusal) → ¬ RefusedAt table state rights seat k r
  none_refused a none r f = ⊎_elim (λ e. clash cc) (λ e. none r e.1) ((refused_iff table state rights seat k r).0 f)

  zero_iff : (refusal ≡ pos 0) ↔ ((told ≡ Ok tt) × ((r : Refusal) → ¬ RefusedBy table state k r))
  zero_iff = (
    done_by told refl,
    λ (a, none). ⊎_elim (λ z. z) (λ (r, f). absurd (none_refused a none r f)) (either table state rights seat k),
  )

  -- where it is another number, the call was refused on some ground, and the bytes are as they were
  pub refused_so : Characters state → refusal ≢ pos 0 → (r : Refusal) × RefusedAt table state rights seat k r × (after_by table state rights seat k ≡ state)
  refused_so small n = ⊎_elim (λ z. absurd (n z))
      (λ (r, f). (
        r,
        f,
        ⊎_elim (λ e. kept_left table state rights seat k r e)
            (λ (e, g). granted_left table state rights seat k e ∙ plain_kept table state small k r g) ((refused_iff table state rights seat k r).0 f),
      )) (either table state rights seat k)

-- ---- what is asked of every call, by the tests of the definitions

module _ (table state rights : List ℕ) (seat : ℕ) (fit : Characters table) (few : Characters rights) (right : Right) where
  abbrev told_right : Admission
  told_right = seat_admission table state rights seat right

  past_nineteen : Past19 table state rights seat right ↔ (told_right ≡ Ok tt)
  past_nineteen =
      let a = seat_admitted_iff table state rights seat right in
      let o = in_order_iff rights few in
      let r = has_right_iff rights few seat right in
      let loads = accepted_loads table fit in (
        λ (((l, t), i), h). a.1 (l, loads.1 t, o.1 i, r.1 h),
        λ e. let (l, t, i, h) = a.0 e in (((l, loads.0 t), o.0 i), r.0 h),
      )

  past_ten : Past10 table state rights seat right ↔ ((told_right ≡ Ok tt) × Admitted table state)
  past_ten =
      let p = past_nineteen in
      let a = admitted_iff table state in (
        λ (q, s). (p.0 q, let (((l, t), i), h) = q in a.1 (l.0, (accepted_loads table fit).1 t, s)),
        λ (q, e). (p.1 q, (a.0 e).2),
      )

-- ---- grounds 8, 9, 18, 19 and 10

module _ (table state rights : List ℕ) (seat : ℕ) (fit : Characters table) (few : Characters rights) where
  pub entered_by : (k : Any) → Entered table state rights seat (asked k) (refusal_by table state rights seat k)
  unfolding refusal_number at_seat_entry at_entry
  entered_by k =
      let eight = by_seat_lem table state rights seat k Ground.Length (not_length table state rights seat k) in
      let length = seat_length_iff table state rights seat (asked k) in
      let nine = by_seat_lem table state rights seat k Ground.Table (not_table table state rights seat k) in
      let wrong = seat_table_iff table state rights seat (asked k) in
      let eighteen = eighteen_iff table state rights seat few k in
      let nineteen = nineteen_iff table state rights seat few k in
      let ten = by_call table state rights seat k Ground.State refl in
      let unsound = state_iff table state in
      let entry = entry_by table state k Ground.State refl in
      let loads = accepted_loads table fit in
      let none = refused_loads table fit in
      let past = past_nineteen table state rights seat fit few (asked k) in
      record {
        eight = (λ e. length.0 (eight.0 e), λ h. eight.1 (length.1 h));
        nine = (
          λ e. let (l, n) = wrong.0 (nine.0 e) in (l, none.0 n),
          λ (l, n). nine.1 (wrong.1 (l, none.1 n)),
        );
        eighteen = (
          λ e. let (l, t, s) = eighteen.0 e in ((l, loads.0 t), s),
          λ ((l, t), s). eighteen.1 (l, loads.1 t, s),
        );
        nineteen = (
          λ e. let (l, t, i, h) = nineteen.0 e in (((l, loads.0 t), i), h),
          λ (((l, t), i), h). nineteen.1 (l, loads.1 t, i, h),
        );
        ten = (
          λ e. let (a, f) = ten.0 e in (past.1 a, (unsound.0 (entry.0 f)).2),
          λ (q, s). ten.1 (past.0 q, entry.1 (unsound.1 (let (((l, t), i), h) = q in (l.0, loads.1 t, s)))),
        );
      }

-- ---- which numbers: of a refusal that is on none of the grounds of others

at_entry_lem : (r : Refusal) → r ≢ Ground.Thread → r ≢ Ground.Port → r ≢ Ground.ThreadRow → r ≢ Ground.ChannelRow
    → elem (refusal_number r) (8 ∷ 9 ∷ 18 ∷ 19 ∷ 10 ∷ []) ≡ true
unfolding elem refusal_number
at_entry_lem Ground.Length a b c d = refl
at_entry_lem Ground.Table a b c d = refl
at_entry_lem Ground.Rights a b c d = refl
at_entry_lem Ground.Seat a b c d = refl
at_entry_lem Ground.State a b c d = refl
at_entry_lem Ground.Thread a b c d = absurd (a refl)
at_entry_lem Ground.Port a b c d = absurd (b refl)
at_entry_lem Ground.ThreadRow a b c d = absurd (c refl)
at_entry_lem Ground.ChannelRow a b c d = absurd (d refl)

pub of_step : (r : Refusal) → r ≢ Ground.Port → elem (refusal_number r) (8 ∷ 9 ∷ 18 ∷ 19 ∷ 10 ∷ 11 ∷ 13 ∷ 14 ∷ []) ≡ true
unfolding elem refusal_number
of_step Ground.Length a = refl
of_step Ground.Table a = refl
of_step Ground.Rights a = refl
of_step Ground.Seat a = refl
of_step Ground.State a = refl
of_step Ground.Thread a = refl
of_step Ground.Port a = absurd (a refl)
of_step Ground.ThreadRow a = refl
of_step Ground.ChannelRow a = refl

of_port : (r : Refusal) → r ≢ Ground.Thread → r ≢ Ground.ThreadRow → r ≢ Ground.ChannelRow → elem (refusal_number r) (8 ∷ 9 ∷ 18 ∷ 19 ∷ 10 ∷ 12 ∷ []) ≡ true
unfolding elem refusal_number
of_port Ground.Length a b c = refl
of_port Ground.Table a b c = refl
of_port Ground.Rights a b c = refl
of_port Ground.Seat a b c = refl
of_port Ground.State a b c = refl
of_port Ground.Thread a b c = absurd (a refl)
of_port Ground.Port a b c = refl
of_port Ground.ThreadRow a b c = absurd (b refl)
of_port Ground.ChannelRow a b c = absurd (c refl)

-- ---- grounds of a call's own, 0, and no other number

module _ (table state rights : List ℕ) (seat : ℕ) (fit : Characters table) (few : Characters rights) (k : Any) where
  abbrev past : Type 0
  past = Past10 table state rights seat (asked k)

  passed : past ↔ Passed table state rights seat k
  passed = past_ten table state rights seat fit few (asked k)

  -- on a ground of its own, which the call without seats has exactly if the buffers are admitted and Q
  pub own : (r : Refusal) (Q : Type 0) → at_seat_entry r ≡ false → (RefusedBy table state k r ↔ (Admitted table state × Q))
      → (refusal_by table state rights seat k ≡ pos (refusal_number r)) ↔ (past × Q)
  own r Q y w =
      let b = by_call table state rights seat k r y in (
        λ e. let (a, f) = b.0 e in let (h, q) = w.0 f in (passed.1 (a, h), q),
        λ (h, q). let (a, d) = passed.0 h in b.1 (a, w.1 (d, q)),
      )

  -- 0, where the call without seats is refused on no ground exactly if the buffers are admitted and Q
  pub none : (Q : Type 0) → (((r : Refusal) → ¬ RefusedBy table state k r) ↔ (Admitted table state × Q)) → (refusal_by table state rights seat k ≡ pos 0) ↔ (past × Q)
  none Q w =
      let z = zero_iff table state rights seat k in (
        λ e. let (a, n) = z.0 e in let (h, q) = w.0 n in (passed.1 (a, h), q),
        λ (h, q). let (a, d) = passed.0 h in z.1 (a, w.1 (d, q)),
      )

  -- a run and a collection have no ground but those of the admission
  pub none_own : ((r : Refusal) → RefusedBy table state k r → admission table state ≡ Err r) → (refusal_by table state rights seat k ≡ pos 0) ↔ past
  none_own w =
      let z = zero_iff table state rights seat k in (
        λ e. let (a, n) = z.0 e in passed.1 (a, admitted_by table state k n (admission table state) refl),
        λ h. let (a, d) = passed.0 h in z.1 (a, λ r f. let q = w r f in clash cc),
      )

  -- a refusal on a ground that neither the seat nor the call has is not seen
  pub foreign : (r : Refusal) → at_seat_entry r ≡ false → (¬ RefusedBy table state k r) → ¬ RefusedAt table state rights seat k r
  foreign r y n f = n ((by_call table state rights seat k r y).0 (refused_shows table state rights seat k r f)).1

  pub one_of : (ns : List ℕ) → ((r : Refusal) → RefusedAt table state rights seat k r → elem (refusal_number r) ns ≡ true)
      → (n : ℕ) × (refusal_by table state rights seat k ≡ pos n) × (elem n (0 ∷ ns) ≡ true)
  unfolding elem
  one_of ns w = ⊎_elim (λ z. (0, z, refl))
      (λ (r, f). (refusal_number r, refused_shows table state rights seat k r f, elem_later (refusal_number r) 0 ns (w r f))) (either table state rights seat k)

  -- a run and a collection have no ground of their own
  pub entry_only : ((q : Refusal) → RefusedBy table state k q → admission table state ≡ Err q)
      → (n : ℕ) × (refusal_by table state rights seat k ≡ pos n) × (elem n (0 ∷ 8 ∷ 9 ∷ 18 ∷ 19 ∷ 10 ∷ []) ≡ true)
  unfolding at_seat_entry at_entry refusal_number
  entry_only w = one_of (8 ∷ 9 ∷ 18 ∷ 19 ∷ 10 ∷ []) (λ r f.
      let not : (q : Refusal) → at_seat_entry q ≡ false → at_entry q ≡ false → r ≢ q
      = λ q y z x. foreign q y (λ e. contra (refused_entry table state q (w q e)) z) (rw x at f) in
      at_entry_lem r (not Ground.Thread refl refl) (not Ground.Port refl refl) (not Ground.ThreadRow refl refl) (not Ground.ChannelRow refl refl))

  -- a give and a take have 12
  pub port_only : ((q : Refusal) → RefusedBy table state k q → (at_entry q ≡ true) ⊎ (q ≡ Ground.Port))
      → (n : ℕ) × (refusal_by table state rights seat k ≡ pos n) × (elem n (0 ∷ 8 ∷ 9 ∷ 18 ∷ 19 ∷ 10 ∷ 12 ∷ []) ≡ true)
  unfolding at_seat_entry at_entry refusal_number
  port_only w = one_of (8 ∷ 9 ∷ 18 ∷ 19 ∷ 10 ∷ 12 ∷ []) (λ r f.
      let not : (q : Refusal) → at_seat_entry q ≡ false → at_entry q ≡ false → q ≢ Ground.Port → r ≢ q
      = λ q y z o x. foreign q y (λ e. ⊎_elim (λ c. contra c z) o (w q e)) (rw x at f) in
      of_port r (not Ground.Thread refl refl (λ e. clash cc)) (not Ground.ThreadRow refl refl (λ e. clash cc)) (not Ground.ChannelRow refl refl (λ e. clash cc)))

-- an outcome is its answer and its bytes
pub whole : {A : Type 0} (o : Outcome A) (a : A) (b : List ℕ) → o.answer ≡ a → o.state ≡ b → o ≡ outcome a b
whole o a b e f = ap (λ x. outcome x o.state) e ∙ ap (λ x. outcome a x) f

-- ---- a call that answers a thread, and -1 where it meets nobody; `call` is the call without seats

module _ (table state rights : List ℕ) (seat : ℕ) (fit : Characters table) (few : Characters rights) (right : Right) {A : Type 0} (refused : Refusal → A)
    (call : Outcome A) (thread : A → ℤ) (nobody : A) (zero : (r : Refusal) → thread (refused r) ≡ pos 0) (only : thread call.answer ≡ negsuc 0 → call.answer ≡ nobody) where
  abbrev made : Outcome A
  made = at_seat table state rights seat refused right call

  -- where C sees nobody, the seat may make the call, and the call without seats meets nobody
  nobody_so : (a : Admission) → seat_admission table state rights seat right ≡ a → thread made.answer ≡ negsuc 0
      → (seat_admission table state rights seat right ≡ Ok tt) × (call.answer ≡ nobody)
  nobody_so (Err r) e f =
      let q = ap (λ (o : Outcome A). thread o.answer) (seat_refused table state rights seat right refused call r e) in
      let z : pos 0 ≡ negsuc 0 = sym (zero r) ∙ sym q ∙ f in clash cc
  nobody_so (Ok tt) e f =
      (e, only (sym (ap (λ (o : Outcome A). thread o.answer) (seat_granted table state rights seat right refused call e)) ∙ f))

  pub nobody_iff : thread nobody ≡ negsuc 0 → {P Q : Type 0} → ((call.answer ≡ nobody) ↔ (Admitted table state × P × Q))
      → (thread made.answer ≡ negsuc 0) ↔ (Past10 table state rights seat right × P × Q)
  nobody_iff m w =
      let past = past_ten table state rights seat fit few right in (
        λ e. let (a, f) = nobody_so (seat_admission table state rights seat right) refl e in let (d, l, n) = w.0 f in (past.1 (a, d), l, n),
        λ (h, l, n). let (a, d) = past.0 h in
            ap (λ (o : Outcome A). thread o.answer) (seat_granted table state rights seat right refused call a) ∙ ap thread (w.1 (d, l, n)) ∙ m,
      )

  pub nobody_whole : (call.answer ≡ nobody → call.state ≡ state) → thread made.answer ≡ negsuc 0 → made ≡ outcome nobody state
  nobody_whole kept e =
      let (a, f) = nobody_so (seat_admission table state rights seat right) refl e in
      seat_granted table state rights seat right refused call a ∙ whole call nobody state f (kept f)
