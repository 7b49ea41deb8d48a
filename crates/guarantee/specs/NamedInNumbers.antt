-- Whom the answers of a step, a give and a take name, in the numbers that C sees: -1, or a thread of which the state before the call says how it came into the
-- answer. Of any buffers. Assumes nothing.
use Rattle.collector.specs.Answers.{Collected}
use Rattle.rules.specs.Answers.{Given, Ran, Stepped, Taken}
use Rattle.std.specs.Prelude.{ℕ, ◌<◌, ◌≡◌, true, false, ◌⊎◌, List, ℤ, pos, negsuc, Err, None, Ok, Some}
use Rattle.std.proofs.Common.{arith, ap, ◌∙◌, SFits, to_z, of_z, ltb-true}
use Rattle.std.proofs.Math.Path.{refl, sym}
use Rattle.std.proofs.Math.Logic.{inl, inr}
use mir.Syntax.{w32}
use Rattle.std.proofs.Math.Facts.{to_z_pos, sfits_to_z}
use Rattle.numbers.specs.Search.Laws.{case_b}
use Rattle.numbers.specs.Tests.{parts, clash}
use Rattle.table.specs.Table.{Table, table_of}
use Rattle.state.specs.State.{State, max_threads, view, thread, stands_at, in_use, is_ready, is_waiting}
use Rattle.rules.specs.Moves.{move}
use Rattle.rules.specs.Calls.{Outcome, step_answer, can_step, step_on, step_call, bench, give_on, give_call, take_on, take_call}
use Rattle.rules.specs.Calls.Laws.{step_answered, call_answer}
use Rattle.rules.specs.Seats.{seated_step, seated_give, seated_take, seated_run}
use Rattle.rules.specs.Seats.Laws.{seat_granted, seat_answer}
use Rattle.rules.specs.declared.Right.TheVariants as Right
use Rattle.rules.specs.declared.Direction.TheVariants.{Out, In}
use Rattle.rules.specs.declared.Refusal.{Refusal}
use Rattle.rules.specs.declared.Refusal.TheVariants as Ground
use Rattle.rules.specs.declared.Deed.{Deed}
use Rattle.rules.specs.declared.Move.{Move}
use Rattle.rules.specs.declared.Move.TheVariants.{Ends, Calls, Waits, Goes, Creates, Spawns, Meets, LacksThread, LacksChannel}
use Rattle.collector.specs.Collect.{seated_collect}
use Rattle.engine.specs.Numbers.{refusal_number, partner_number}
use Rattle.engine.specs.Numbers.Laws.{ground_range}
use Rattle.engine_laws.specs.Lists.{step, give, take, run}
use Rattle.engine_laws.specs.Bench.{give_met, take_met}
use Rattle.rules_laws.specs.Chosen.{Chosen, chosen, partner_answers}
use Rattle.interface.specs.Interface.{in_numbers, step_fields, step_numbers, step_result, give_fields, give_numbers, give_result, take_fields, take_numbers, take_result, run_fields, run_numbers, run_result, collect_fields, collect_numbers, collect_result}
use Rattle.guarantee.specs.Claim.{Any, on, collect}
use Rattle.guarantee.specs.Exported.{ground_signed, not_zero, refusal_by}

-- a number names nobody, or a thread of which P holds
abbrev pub NamesOf : ℤ → (ℕ → Type 0) → Type 0
NamesOf z P = (z ≡ negsuc 0) ⊎ ((u : ℕ) × (u < max_threads) × (z ≡ pos u) × P u)

-- ---- the refusal is a number of 32 bits

ground_fits : (r : Refusal) → SFits w32 (to_z w32 (refusal_number r))
ground_fits r = sfits_to_z {w = w32} {n = refusal_number r} (record { fits = omega (arith, (ground_range r).1) })

zero_fits : SFits w32 (to_z w32 0)
zero_fits = sfits_to_z {w = w32} {n = 0} (record { fits = omega arith })

pub refusal_fits : (table state rights : List ℕ) (seat : ℕ) (k : Any) → SFits w32 (refusal_by table state rights seat k)
unfolding refusal_by step_result give_result take_result run_result collect_result in_numbers step_numbers give_numbers take_numbers run_numbers collect_numbers step_fields give_fields take_fields run_fields collect_fields
refusal_fits table state rights seat (on (step t)) = go (seated_step table state rights seat t).answer
  where
    go : (a : Stepped) → SFits w32 (step_numbers a).refusal
    go (Ok (n, d)) = zero_fits
    go (Err r) = ground_fits r
refusal_fits table state rights seat (on (give p v h)) = go (seated_give table state rights seat p (of_z w32 (to_z w32 v))).answer
  where
    go : (a : Given) → SFits w32 (give_numbers a).refusal
    go (Ok (Some u)) = zero_fits
    go (Ok None) = zero_fits
    go (Err r) = ground_fits r
refusal_fits table state rights seat (on (take p)) = go (seated_take table state rights seat p).answer
  where
    go : (a : Taken) → SFits w32 (take_numbers a).refusal
    go (Ok (Some (u, v))) = zero_fits
    go (Ok None) = zero_fits
    go (Err r) = ground_fits r
refusal_fits table state rights seat (on (run n)) = go (seated_run table state rights seat n).answer
  where
    go : (a : Ran) → SFits w32 (run_numbers a).refusal
    go (Ok (m, r)) = zero_fits
    go (Err r) = ground_fits r
refusal_fits table state rights seat collect = go (seated_collect table state rights seat).answer
  where
    go : (a : Collected) → SFits w32 (collect_numbers a).refusal
    go (Ok n) = zero_fits
    go (Err r) = ground_fits r

-- ---- a step that is done

step_zero : (a : Stepped) → (step_numbers a).refusal ≡ pos 0 → (n : ℕ) × (d : Deed) × (a ≡ Ok (n, d))
unfolding step_numbers step_fields
step_zero (Ok (n, d)) e = (n, d, refl)
step_zero (Err r) e = absurd (not_zero r (sym e ∙ ground_signed r))

-- whom it names, by its move: a thread that it met was waiting, the row of one that it started was free
step_by : (tb : Table) (s : State) (t n : ℕ) (m : Move) → Chosen tb s t m → (step_numbers (step_answer n m)).refusal ≡ pos 0
    → NamesOf (step_numbers (step_answer n m)).partner (λ u. (is_waiting (thread s u) ≡ true) ⊎ (in_use (thread s u) ≡ false))
unfolding step_numbers step_fields partner_number refusal_number step_answer Chosen
step_by tb s t n Ends k e = inl refl
step_by tb s t n Calls k e = inl refl
step_by tb s t n Waits k e = inl refl
step_by tb s t n (Goes i) k e = inl refl
step_by tb s t n (Creates i c) k e = inl refl
step_by tb s t n (Spawns i u) k e = inr (u, k.thread_in, to_z_pos w32 {n = u} (omega (arith, k.thread_in)), inr k.unused)
step_by tb s t n (Meets i u j) k e = inr (u, k.partner.thread_in, to_z_pos w32 {n = u} (omega (arith, k.partner.thread_in)), inl k.partner.waits)
step_by tb s t n LacksThread k e = clash cc
step_by tb s t n LacksChannel k e = clash cc

module _ (table state rights : List ℕ) (seat t : ℕ) (e : (step_result table state rights seat t).answer.refusal ≡ pos 0) where
  done_so : (n : ℕ) × (d : Deed) × ((seated_step table state rights seat t).answer ≡ Ok (n, d))
  unfolding step_result in_numbers
  done_so = step_zero (seated_step table state rights seat t).answer e

  -- it is the step of the state
  made_so : (can_step (view state) t ≡ true)
      × ((seated_step table state rights seat t).answer ≡ step_answer (stands_at (thread (view state) t)) (move (table_of table) (view state) t))
  unfolding seated_step step_call
  made_so =
      let (n, d, q) = done_so in
      let call = step_call table state t in
      let may = seat_answer table state rights seat Right.StepAndRun Err call (Ok (n, d)) (λ r f. clash cc) q in
      let plain = seat_granted table state rights seat Right.StepAndRun Err call may in
      let f : call.answer ≡ Ok (n, d) = sym (ap (λ (o : Outcome Stepped). o.answer) plain) ∙ q in
      let g = ((call_answer Err table state (step_on (table_of table) (view state) t) (Ok (n, d)) (λ r x y. clash cc)).0 f).1 in
      let h = sym (step_answered (table_of table) (view state) t) ∙ g in
      case_b (can_step (view state) t)
      (λ y. (y, q ∙ sym (rw y at h)))
      (λ y. let z : Err Ground.Thread ≡ Ok (n, d) = rw y at h in clash cc)

  -- a step that is done is that of a ready thread
  pub steps_ready : (t < max_threads) × (is_ready (thread (view state) t) ≡ true)
  unfolding can_step
  steps_ready = let y = made_so.0 in (ltb-true t max_threads (search parts), search parts)

  pub step_names : NamesOf (step_result table state rights seat t).answer.partner (λ u. (is_waiting (thread (view state) u) ≡ true) ⊎ (in_use (thread (view state) u) ≡ false))
  unfolding step_result in_numbers
  step_names =
      let tb = table_of table in
      let s = view state in
      let q = made_so.1 in
      rw q (step_by tb s t (stands_at (thread s t)) (move tb s t) (chosen tb s t) (rw q at e))

-- ---- a give and a take that are done name a thread that was waiting

module _ (table state rights : List ℕ) (seat p : ℕ) where
  pub give_waits : (v u : ℕ) → (seated_give table state rights seat p v).answer ≡ Ok (Some u) → (u < max_threads) × (is_waiting (thread (view state) u) ≡ true)
  unfolding seated_give give_call
  give_waits v u e =
      let tb = table_of table in
      let s = view state in
      let a = seat_answer table state rights seat (Right.Give p) Err (give_call table state p v) (Ok (Some u)) (λ r h. clash cc) e in
      let g : (give_call table state p v).answer ≡ Ok (Some u) = rw (seat_granted table state rights seat (Right.Give p) Err (give_call table state p v) a) at e in
      let f = ((call_answer Err table state (give_on tb s p v) (Ok (Some u)) (λ r h i. clash cc)).0 g).1 in
      let (l, j, h, i) = give_met tb s p v u f in
      let o = partner_answers tb s bench In p u j h in
      (o.thread_in, o.waits)

  pub take_waits : (u v : ℕ) → (seated_take table state rights seat p).answer ≡ Ok (Some (u, v)) → (u < max_threads) × (is_waiting (thread (view state) u) ≡ true)
  unfolding seated_take take_call
  take_waits u v e =
      let tb = table_of table in
      let s = view state in
      let a = seat_answer table state rights seat (Right.Take p) Err (take_call table state p) (Ok (Some (u, v))) (λ r h. clash cc) e in
      let g : (take_call table state p).answer ≡ Ok (Some (u, v)) = rw (seat_granted table state rights seat (Right.Take p) Err (take_call table state p) a) at e in
      let f = ((call_answer Err table state (take_on tb s p) (Ok (Some (u, v))) (λ r h i. clash cc)).0 g).1 in
      let (l, j, h, i, k) = take_met tb s p u v f in
      let o = partner_answers tb s bench Out p u j h in
      (o.thread_in, o.waits)

  give_by : (a : Given) → ((u : ℕ) → a ≡ Ok (Some u) → (u < max_threads) × (is_waiting (thread (view state) u) ≡ true)) → (give_numbers a).refusal ≡ pos 0
      → NamesOf (give_numbers a).thread (λ u. is_waiting (thread (view state) u) ≡ true)
  unfolding give_numbers give_fields
  give_by (Ok (Some u)) h e = let (l, w) = h u refl in inr (u, l, to_z_pos w32 {n = u} (omega arith), w)
  give_by (Ok None) h e = inl refl
  give_by (Err r) h e = absurd (not_zero r (sym e ∙ ground_signed r))

  take_by : (a : Taken) → ((u v : ℕ) → a ≡ Ok (Some (u, v)) → (u < max_threads) × (is_waiting (thread (view state) u) ≡ true)) → (take_numbers a).refusal ≡ pos 0
      → NamesOf (take_numbers a).thread (λ u. is_waiting (thread (view state) u) ≡ true)
  unfolding take_numbers take_fields
  take_by (Ok (Some (u, v))) h e = let (l, w) = h u v refl in inr (u, l, to_z_pos w32 {n = u} (omega arith), w)
  take_by (Ok None) h e = inl refl
  take_by (Err r) h e = absurd (not_zero r (sym e ∙ ground_signed r))

  pub give_names : (z : ℤ) → (give_result table state rights seat p z).answer.refusal ≡ pos 0
      → NamesOf (give_result table state rights seat p z).answer.thread (λ u. is_waiting (thread (view state) u) ≡ true)
  unfolding give_result in_numbers
  give_names z e = give_by (seated_give table state rights seat p (of_z w32 z)).answer (give_waits (of_z w32 z)) e

  pub take_names : (take_result table state rights seat p).answer.refusal ≡ pos 0
      → NamesOf (take_result table state rights seat p).answer.thread (λ u. is_waiting (thread (view state) u) ≡ true)
  unfolding take_result in_numbers
  take_names e = take_by (seated_take table state rights seat p).answer take_waits e
