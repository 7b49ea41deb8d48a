-- What each refusal of the engine's calls means, as they are without seats, and that a call that is refused changes nothing. Of all buffers of bytes, of any
-- length. `guarantee/specs/RefusalsInNumbers.antt` says it of the calls that C makes. Assumes nothing.
use Rattle.rules.specs.Answers.{Ran, Started}
use Rattle.std.specs.Prelude.{ℕ, ◌<◌, ◌≤◌, ◌≡◌, ◌⊎◌, ◌≢◌, ◌↔◌, true, false, List, get_or, Err, None, Ok}
use Rattle.std.proofs.Math.Path.{refl, ap}
use Rattle.std.proofs.Common.{inl, inr}
use Rattle.numbers.specs.Search.Laws.{case_b}
use Rattle.numbers.specs.Tests.{clash}
use Rattle.table.specs.Table.{Table, table_of, ports}
use Rattle.state.specs.State.{State, view}
use Rattle.rules.specs.Calls.{Outcome, start_admission, admission, start_on, start_call, can_step, step_on, step_call, give_on, give_call, take_on, take_call, run_on, run_call}
use Rattle.rules.specs.Calls.Laws.{step_unchanged, give_unchanged, take_unchanged, by_refused, by_refusal, call_refused, call_answer, call_refusal, call_unchanged}
use Rattle.rules.specs.declared.Direction.TheVariants.{Out, In}
use Rattle.rules.specs.declared.Act.TheVariants.{New, Spawn}
use Rattle.rules.specs.declared.Refusal.{Refusal}
use Rattle.rules.specs.declared.Refusal.TheVariants as Ground
use Rattle.engine.specs.Numbers.{refusal_number}
use Rattle.engine_laws.specs.Entry.{Admitted, at_entry, own_ground, entry_ground, start_not_state}
use Rattle.engine_laws.specs.Lacking.{Takes, NoThreadRow, NoChannelRow, lacks_thread_iff, lacks_channel_iff}
use Rattle.engine_laws.specs.Answers.{step_own, own_thread, own_thread_row, own_channel_row, own_grounds, own_no_port}
use Rattle.engine_laws.specs.Bench.{NobodyOffers, give_no_port, give_refused, give_own, give_nobody, take_no_port, take_refused, take_own, take_nobody}

module _ (table state : List ℕ) where
  abbrev tb : Table
  tb = table_of table

  abbrev s : State
  s = view state

  -- ---- grounds 8, 9 and 10: a call is refused on one of them exactly when its admission is. What that says is in `Entry.antt`

  pub step_entry_iff : (t : ℕ) (r : Refusal) → at_entry r ≡ true
      → ((step_call table state t).answer ≡ Err r) ↔ (admission table state ≡ Err r)
  unfolding step_call
  step_entry_iff t = entry_ground Err (λ q r e. cc) table state (step_on tb s t) (step_own tb s t)

  pub give_entry_iff : (p v : ℕ) (r : Refusal) → at_entry r ≡ true
      → ((give_call table state p v).answer ≡ Err r) ↔ (admission table state ≡ Err r)
  unfolding give_call
  give_entry_iff p v = entry_ground Err (λ q r e. cc) table state (give_on tb s p v) (give_own tb s p v)

  pub take_entry_iff : (p : ℕ) (r : Refusal) → at_entry r ≡ true
      → ((take_call table state p).answer ≡ Err r) ↔ (admission table state ≡ Err r)
  unfolding take_call
  take_entry_iff p = entry_ground Err (λ q r e. cc) table state (take_on tb s p) (take_own tb s p)

  -- a run is refused exactly when its admission is, and on the same ground
  pub run_refused_iff : (n : ℕ) (r : Refusal) → ((run_call table state n).answer ≡ Err r) ↔ (admission table state ≡ Err r)
  unfolding run_call run_on
  run_refused_iff n r = call_refusal Err table state (run_on tb s n) (λ p q e. cc) r (λ e. clash cc)

  -- a start is refused exactly when its admission is, and on the same ground, which is never ground 10
  pub start_refused_iff : (r : Refusal) → ((start_call table state).answer ≡ Err r) ↔ (start_admission table state ≡ Err r)
  unfolding start_call start_on
  start_refused_iff r = by_refusal Err state (start_on tb) (λ p q e. cc) (start_admission table state) r (λ e. clash cc)

  pub start_never_state : ¬ ((start_call table state).answer ≡ Err Ground.State)
  start_never_state e = start_not_state table state ((start_refused_iff Ground.State).0 e)

  -- ---- a call that is refused leaves the bytes of the state as they were

  pub start_refused_keeps : (r : Refusal) → (start_call table state).answer ≡ Err r → (start_call table state).state ≡ state
  unfolding start_call
  start_refused_keeps r e =
      ap (λ (o : Outcome Started). o.state) (by_refused Err state (start_on tb) (start_admission table state) r ((start_refused_iff r).0 e))

  pub run_refused_keeps : (n : ℕ) (r : Refusal) → (run_call table state n).answer ≡ Err r → (run_call table state n).state ≡ state
  unfolding run_call
  run_refused_keeps n r e = ap (λ (o : Outcome Ran). o.state) (call_refused Err table state (run_on tb s n) r ((run_refused_iff n r).0 e))

  -- a step, a give or a take that is refused leaves the bytes of the state as they were, and so does a give or a take that meets nobody
  module _ (small : (i : ℕ) → get_or state i 0 < 256) where
    pub step_refused_keeps : (t : ℕ) (r : Refusal) → (step_call table state t).answer ≡ Err r → (step_call table state t).state ≡ state
    unfolding step_call
    step_refused_keeps t r = call_unchanged Err table state (step_on tb s t) small (Err r) (step_unchanged tb s t r)

    pub give_refused_keeps : (p v : ℕ) (r : Refusal) → (give_call table state p v).answer ≡ Err r → (give_call table state p v).state ≡ state
    unfolding give_call
    give_refused_keeps p v r =
        call_unchanged Err table state (give_on tb s p v) small (Err r) (λ e. give_unchanged tb s p v (λ u f. clash cc))

    pub take_refused_keeps : (p : ℕ) (r : Refusal) → (take_call table state p).answer ≡ Err r → (take_call table state p).state ≡ state
    unfolding take_call
    take_refused_keeps p r =
        call_unchanged Err table state (take_on tb s p) small (Err r) (λ e. take_unchanged tb s p (λ u v f. clash cc))

    pub give_nobody_keeps : (p v : ℕ) → (give_call table state p v).answer ≡ Ok None → (give_call table state p v).state ≡ state
    unfolding give_call
    give_nobody_keeps p v = call_unchanged Err table state (give_on tb s p v) small (Ok None) (λ e. give_unchanged tb s p v (λ u f. clash cc))

    pub take_nobody_keeps : (p : ℕ) → (take_call table state p).answer ≡ Ok None → (take_call table state p).state ≡ state
    unfolding take_call
    take_nobody_keeps p = call_unchanged Err table state (take_on tb s p) small (Ok None) (λ e. take_unchanged tb s p (λ u v f. clash cc))

  -- ---- the grounds that a step has of its own: 11, 13 and 14

  step_by : (t : ℕ) (r : Refusal) → at_entry r ≡ false
      → ((step_call table state t).answer ≡ Err r) ↔ (Admitted table state × ((step_on tb s t).answer ≡ Err r))
  unfolding step_call
  step_by t = own_ground Err (λ q r e. cc) table state (step_on tb s t)

  -- a step is refused on ground 11 exactly when the thread is none, or is not ready
  pub step_thread_iff : (t : ℕ) → ((step_call table state t).answer ≡ Err Ground.Thread) ↔ (Admitted table state × (can_step s t ≡ false))
  unfolding at_entry refusal_number
  step_thread_iff t =
      let o = step_by t Ground.Thread refl in
      let w = own_thread tb s t in
      (λ e. let (h, f) = o.0 e in (h, w.0 f), λ k. o.1 (k.0, w.1 k.1))

  -- a step is refused on ground 13 exactly when the first branch of its thread that goes ahead is a spawn, and no thread row is free
  pub step_thread_row_iff : (t : ℕ) → ((step_call table state t).answer ≡ Err Ground.ThreadRow)
      ↔ (Admitted table state × (can_step s t ≡ true) × Takes tb s t Spawn × NoThreadRow s)
  unfolding at_entry refusal_number
  step_thread_row_iff t =
      let o = step_by t Ground.ThreadRow refl in
      let w = own_thread_row tb s t in
      let l = lacks_thread_iff tb s t in (
        λ e. let (h, f) = o.0 e in let (c, m) = w.0 f in let (k, n) = l.0 m in (h, c, k, n),
        λ q. let (h, c, k, n) = q in o.1 (h, w.1 (c, l.1 (k, n))),
      )

  -- a step is refused on ground 14 exactly when the first branch of its thread that goes ahead is a new, and no channel row is free
  pub step_channel_row_iff : (t : ℕ) → ((step_call table state t).answer ≡ Err Ground.ChannelRow)
      ↔ (Admitted table state × (can_step s t ≡ true) × Takes tb s t New × NoChannelRow s)
  unfolding at_entry refusal_number
  step_channel_row_iff t =
      let o = step_by t Ground.ChannelRow refl in
      let w = own_channel_row tb s t in
      let l = lacks_channel_iff tb s t in (
        λ e. let (h, f) = o.0 e in let (c, m) = w.0 f in let (k, n) = l.0 m in (h, c, k, n),
        λ q. let (h, c, k, n) = q in o.1 (h, w.1 (c, l.1 (k, n))),
      )

  -- a step is refused on no ground but those at entry, 11, 13 and 14
  pub step_all_grounds : (t : ℕ) (r : Refusal) → (step_call table state t).answer ≡ Err r
      → (at_entry r ≡ true) ⊎ ((r ≡ Ground.Thread) ⊎ ((r ≡ Ground.ThreadRow) ⊎ (r ≡ Ground.ChannelRow)))
  step_all_grounds t r e = case_b (at_entry r) (λ y. inl y) (λ y. inr (own_grounds tb s t r ((step_by t r y).0 e).1))

  -- a step is not refused on ground 12
  pub step_grounds : (t : ℕ) (r : Refusal) → (step_call table state t).answer ≡ Err r → r ≢ Ground.Port
  unfolding at_entry refusal_number
  step_grounds t r e q = own_no_port tb s t ((step_by t Ground.Port refl).0 (rw q at e)).1

  -- ---- the one ground that a give and a take have of their own: 12

  give_by : (p v : ℕ) (r : Refusal) → at_entry r ≡ false
      → ((give_call table state p v).answer ≡ Err r) ↔ (Admitted table state × ((give_on tb s p v).answer ≡ Err r))
  unfolding give_call
  give_by p v = own_ground Err (λ q r e. cc) table state (give_on tb s p v)

  take_by : (p : ℕ) (r : Refusal) → at_entry r ≡ false
      → ((take_call table state p).answer ≡ Err r) ↔ (Admitted table state × ((take_on tb s p).answer ≡ Err r))
  unfolding take_call
  take_by p = own_ground Err (λ q r e. cc) table state (take_on tb s p)

  -- a give or a take is refused on ground 12 exactly when there is no such port
  pub give_port_iff : (p v : ℕ) → ((give_call table state p v).answer ≡ Err Ground.Port) ↔ (Admitted table state × (ports tb ≤ p))
  unfolding at_entry refusal_number
  give_port_iff p v =
      let o = give_by p v Ground.Port refl in
      (λ e. let (h, f) = o.0 e in (h, (give_refused tb s p v Ground.Port f).0), λ k. o.1 (k.0, rw (give_no_port tb s p v k.1)))

  pub take_port_iff : (p : ℕ) → ((take_call table state p).answer ≡ Err Ground.Port) ↔ (Admitted table state × (ports tb ≤ p))
  unfolding at_entry refusal_number
  take_port_iff p =
      let o = take_by p Ground.Port refl in
      (λ e. let (h, f) = o.0 e in (h, (take_refused tb s p Ground.Port f).0), λ k. o.1 (k.0, rw (take_no_port tb s p k.1)))

  -- a give or a take is refused on no ground but those at entry and 12
  pub give_grounds : (p v : ℕ) (r : Refusal) → (give_call table state p v).answer ≡ Err r → (at_entry r ≡ true) ⊎ (r ≡ Ground.Port)
  give_grounds p v r e = case_b (at_entry r) (λ y. inl y) (λ y. inr (give_refused tb s p v r ((give_by p v r y).0 e).1).1)

  pub take_grounds : (p : ℕ) (r : Refusal) → (take_call table state p).answer ≡ Err r → (at_entry r ≡ true) ⊎ (r ≡ Ground.Port)
  take_grounds p r e = case_b (at_entry r) (λ y. inl y) (λ y. inr (take_refused tb s p r ((take_by p r y).0 e).1).1)

  -- ---- a give meets nobody when no thread offers to receive on the port, and a take when none offers to send

  pub give_nobody_iff : (p v : ℕ) → ((give_call table state p v).answer ≡ Ok None) ↔ (Admitted table state × (p < ports tb) × NobodyOffers tb s In p)
  unfolding give_call
  give_nobody_iff p v =
      let o = call_answer Err table state (give_on tb s p v) (Ok None) (λ r e f. clash cc) in
      let w = give_nobody tb s p v in
      (λ e. let (h, f) = o.0 e in let (l, n) = w.0 f in (h, l, n), λ k. o.1 (k.0, w.1 (k.1, k.2)))

  pub take_nobody_iff : (p : ℕ) → ((take_call table state p).answer ≡ Ok None) ↔ (Admitted table state × (p < ports tb) × NobodyOffers tb s Out p)
  unfolding take_call
  take_nobody_iff p =
      let o = call_answer Err table state (take_on tb s p) (Ok None) (λ r e f. clash cc) in
      let w = take_nobody tb s p in
      (λ e. let (h, f) = o.0 e in let (l, n) = w.0 f in (h, l, n), λ k. o.1 (k.0, w.1 (k.1, k.2)))
