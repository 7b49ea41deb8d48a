-- That each refusal which C sees is due, and each that is due is seen: `RefusalsInNumbers.antt` of every table, state and list of rights in buffers of bytes, of any
-- length, and of all numbers; call by call, from `Asked.antt`. Assumes nothing.
use Rattle.rules.specs.Answers.{Admission, Given, Started, Taken}
use Rattle.std.specs.Prelude.{ℕ, ◌<◌, ◌≤◌, ◌≡◌, true, false, List, [], ◌∷◌, ◌⊎◌, ◌≢◌, ◌↔◌, ltb, ℤ, Err, None, Ok, Some}
use Rattle.std.proofs.Common.{arith, ◌∙◌, inl, inr, SFits, to_z}
use Rattle.std.proofs.Math.Path.{refl, sym, ap}
use Rattle.std.proofs.Math.Logic.{⊎_elim}
use Rattle.std.proofs.Math.IntN.{pos, negsuc}
use mir.Syntax.{w32}
use Rattle.std.proofs.Math.Facts.{to_z_pos}
use borrow.Author.Tests.{ltb-true, lt-ltb, ltb-false}
use Rattle.numbers.specs.Search.Laws.{case_b, contra}
use Rattle.numbers.specs.Tests.{and_left, and_right, clash}
use Rattle.text.specs.Text.Characters.{Characters}
use Rattle.table.specs.Table.{table_of, ports}
use Rattle.loader.specs.Load.{accepted}
use Rattle.state.specs.State.{max_threads, view}
use Rattle.rules.specs.Calls.{lengths_right, admission, start_admission, can_step, start_call, bench, give_on, give_call, take_on, take_call}
use Rattle.rules.specs.Calls.Laws.{call_answer}
use Rattle.rules.specs.Seats.{seated_step, seated_give, seated_take, seated_run}
use Rattle.rules.specs.declared.Direction.TheVariants.{Out, In}
use Rattle.rules.specs.declared.Right.{Right}
use Rattle.rules.specs.declared.Refusal.{Refusal}
use Rattle.rules.specs.declared.Refusal.TheVariants as Ground
use Rattle.rules_laws.specs.Chosen.{partner_answers}
use Rattle.rules_laws.specs.Frames.{elem}
use Rattle.engine.specs.Numbers.{refusal_number}
use Rattle.engine_laws.specs.Entry.{Admitted, at_entry, lengths_iff, start_length_iff, start_table_iff, start_admitted_iff}
use Rattle.engine_laws.specs.Seats.{at_seat_entry}
use Rattle.engine_laws.specs.Refusals.{step_entry_iff, give_entry_iff, take_entry_iff, run_refused_iff, start_refused_iff, step_thread_iff, step_thread_row_iff, step_channel_row_iff, step_all_grounds, step_grounds, give_port_iff, give_grounds, take_port_iff, take_grounds, start_refused_keeps, give_nobody_iff, take_nobody_iff, give_nobody_keeps, take_nobody_keeps}
use Rattle.engine_laws.specs.Bench.{NobodyOffers, give_met, take_met}
use Rattle.engine_laws.specs.Lists.{step, give, take, run, RefusedWith}
use Rattle.collector.specs.Collect.{seated_collect}
use Rattle.collector_laws.specs.CollectionRefusals.{collect_refused_iff}
use Rattle.interface.specs.Interface.{result, in_numbers, start_fields, start_numbers, start_result, step_fields, step_numbers, step_result, give_fields, give_numbers, give_result, take_fields, take_numbers, take_result, run_fields, run_numbers, run_result, collect_fields, collect_numbers, collect_result}
use Rattle.guarantee.specs.Claim.{on, collect, RefusedBy}
use Rattle.guarantee.specs.SeatedClaim.{asked, after_by, RefusedAt}
use Rattle.guarantee.specs.Exported.{ground_signed, not_zero, start_number, given_so, refusal_by}
use Rattle.guarantee.specs.InNumbers.{every_number}
use Rattle.guarantee.specs.WriteInNumbers.{accepted_loads, refused_loads}
use Rattle.guarantee.specs.ReasonsInLists.{run_answers}
use Rattle.guarantee.specs.RefusalsInNumbers.{Past10, StartInNumbers, Ready, LacksThreadRow, LacksChannelRow, StepInNumbers, GiveInNumbers, TakeInNumbers, RunInNumbers, CollectInNumbers}
use Rattle.guarantee.specs.RefusalsInNumbers.Asked.{admitted_by, refused_so, entered_by, own, none, none_own, foreign, one_of, port_only, entry_only, of_step, whole, nobody_iff, nobody_whole}

-- ---- start

start_either : (a : Started) → ((start_numbers a).refusal ≡ pos 0) ⊎ ((r : Refusal) × (a ≡ Err r))
unfolding start_numbers start_fields
start_either (Ok tt) = inl refl
start_either (Err r) = inr (r, refl)

module _ (table state : List ℕ) (fit : Characters table) where
  abbrev answer : Started
  answer = (start_call table state).answer

  start_by : (r : Refusal) → ((start_numbers answer).refusal ≡ pos (refusal_number r)) ↔ (start_admission table state ≡ Err r)
  unfolding start_numbers start_fields
  start_by r =
      let w = start_refused_iff table state r in
      (λ e. w.0 (start_number r answer e), λ e. rw (w.1 e) (ground_signed r))

  start_zero : ((start_numbers answer).refusal ≡ pos 0) ↔ (start_admission table state ≡ Ok tt)
  start_zero = (
    λ e. zero_by (start_admission table state) refl e,
    λ a. ⊎_elim (λ z. z) (λ (r, f). let q = (start_refused_iff table state r).0 f in clash cc) (start_either answer),
  )
    where
      zero_by : (a : Admission) → start_admission table state ≡ a → (start_numbers answer).refusal ≡ pos 0 → start_admission table state ≡ Ok tt
      zero_by (Err r) e z = absurd (not_zero r (sym z ∙ (start_by r).1 e))
      zero_by (Ok tt) e z = e

  -- one of three numbers
  start_only : (n : ℕ) × ((start_numbers answer).refusal ≡ pos n) × (elem n (0 ∷ 8 ∷ 9 ∷ []) ≡ true)
  unfolding elem refusal_number
  start_only = case_b (lengths_right table state)
      (λ l. let h = (lengths_iff table state).0 l in case_b (accepted table)
      (λ a. (0, start_zero.1 ((start_admitted_iff table state).1 (h, a)), refl))
      (λ a. (9, (start_by Ground.Table).1 ((start_table_iff table state).1 (h, a)), refl)))
      (λ l. (8, (start_by Ground.Length).1 ((start_length_iff table state).1 (λ h. contra ((lengths_iff table state).1 h) l)), refl))

  pub start_in_numbers : StartInNumbers table state
  unfolding start_result in_numbers refusal_number
  start_in_numbers =
      let eight = start_by Ground.Length in
      let length = start_length_iff table state in
      let nine = start_by Ground.Table in
      let wrong = start_table_iff table state in
      let passes = start_admitted_iff table state in
      let loads = accepted_loads table fit in
      let none = refused_loads table fit in
      record {
        eight = (λ e. length.0 (eight.0 e), λ h. eight.1 (length.1 h));
        nine = (λ e. let (l, n) = wrong.0 (nine.0 e) in (l, none.0 n), λ (l, n). nine.1 (wrong.1 (l, none.1 n)));
        zero = (
          λ e. let (l, t) = passes.0 (start_zero.0 e) in (l, loads.0 t),
          λ (l, t). start_zero.1 (passes.1 (l, loads.1 t)),
        );
        only = start_only;
        kept = λ n. ⊎_elim (λ z. absurd (n z)) (λ (r, f). start_refused_keeps table state r f) (start_either answer);
      }

-- ---- steps, gives, takes, runs and collections

module _ (table state : List ℕ) (t : ℕ) where
  pub ready_iff : (can_step (view state) t ≡ true) ↔ Ready state t
  unfolding can_step
  ready_iff = (
    λ e. (ltb-true t max_threads (and_left _ _ e), and_right (ltb t max_threads) _ e),
    λ (l, e). rw (lt-ltb t max_threads l, e),
  )

  unready_iff : (can_step (view state) t ≡ false) ↔ (¬ Ready state t)
  unready_iff = (
    λ e h. contra (ready_iff.1 h) e,
    λ n. case_b (can_step (view state) t) (λ e. absurd (n (ready_iff.0 e))) (λ e. e),
  )

  -- a step without seats is refused on no ground exactly then
  step_none : ((r : Refusal) → ¬ RefusedBy table state (on (step t)) r)
      ↔ (Admitted table state × (Ready state t × (¬ LacksThreadRow table state t) × (¬ LacksChannelRow table state t)))
  unfolding RefusedBy RefusedWith
  step_none = (
    λ n. let a = admitted_by table state (on (step t)) n (admission table state) refl in
        let can = case_b (can_step (view state) t) (λ e. e) (λ e. absurd (n Ground.Thread ((step_thread_iff table state t).1 (a, e)))) in (
          a,
          (
            ready_iff.0 can,
            λ (q, f). n Ground.ThreadRow ((step_thread_row_iff table state t).1 (a, can, q, f)),
            λ (q, f). n Ground.ChannelRow ((step_channel_row_iff table state t).1 (a, can, q, f)),
          ),
        ),
    λ (a, (h, b, c)) r f. ⊎_elim
        (λ y. let q = (step_entry_iff table state t r y).0 f in clash cc)
        (λ x. ⊎_elim (λ q. contra (ready_iff.1 h) ((step_thread_iff table state t).0 (f ∙ ap (λ x. Err x) q)).1)
        (λ x. ⊎_elim
        (λ q. let (d, e, p, z) = (step_thread_row_iff table state t).0 (f ∙ ap (λ x. Err x) q) in b (p, z))
        (λ q. let (d, e, p, z) = (step_channel_row_iff table state t).0 (f ∙ ap (λ x. Err x) q) in c (p, z)) x) x)
        (step_all_grounds table state t r f),
  )

-- so is a give or a take
module _ (table state : List ℕ) (p : ℕ) where
  give_none : (v : ℕ) (h : v < 4294967296) → ((r : Refusal) → ¬ RefusedBy table state (on (give p v h)) r) ↔ (Admitted table state × (p < ports (table_of table)))
  unfolding RefusedBy RefusedWith
  give_none v h = (
    λ n. let a = admitted_by table state (on (give p v h)) n (admission table state) refl in
        (a, case_b (ltb p (ports (table_of table))) (λ y. ltb-true p _ y) (λ y. absurd (n Ground.Port ((give_port_iff table state p v).1 (a, ltb-false p _ y))))),
    λ (a, l) r f. ⊎_elim
        (λ y. let q = (give_entry_iff table state p v r y).0 f in clash cc)
        (λ q. let (d, m) = (give_port_iff table state p v).0 (f ∙ ap (λ x. Err x) q) in omega arith)
        (give_grounds table state p v r f),
  )

  take_none : ((r : Refusal) → ¬ RefusedBy table state (on (take p)) r) ↔ (Admitted table state × (p < ports (table_of table)))
  unfolding RefusedBy RefusedWith
  take_none = (
    λ n. let a = admitted_by table state (on (take p)) n (admission table state) refl in
        (a, case_b (ltb p (ports (table_of table))) (λ y. ltb-true p _ y) (λ y. absurd (n Ground.Port ((take_port_iff table state p).1 (a, ltb-false p _ y))))),
    λ (a, l) r f. ⊎_elim
        (λ y. let q = (take_entry_iff table state p r y).0 f in clash cc)
        (λ q. let (d, m) = (take_port_iff table state p).0 (f ∙ ap (λ x. Err x) q) in omega arith)
        (take_grounds table state p r f),
  )

module _ (table state rights : List ℕ) (seat : ℕ) (fit : Characters table) (small : Characters state) (few : Characters rights) where
  module _ (t : ℕ) where
    step_kept : (step_result table state rights seat t).answer.refusal ≢ pos 0
        → step_result table state rights seat t
        ≡ result (record { refusal = (step_result table state rights seat t).answer.refusal; node = pos 0; act = pos 0; branch = pos 0; partner = pos 0 }) state
    unfolding refusal_by RefusedAt after_by step_result in_numbers step_numbers step_fields
    step_kept n =
        let (r, f, e) = refused_so table state rights seat (on (step t)) small n in
        rw (whole (seated_step table state rights seat t) (Err r) state f e)

    pub step_in_numbers : StepInNumbers table state rights seat t
    unfolding asked refusal_by RefusedBy RefusedWith refusal_number at_seat_entry
    step_in_numbers =
        let k = on (step t) in
        let own = own table state rights seat fit few k in
        let thread = step_thread_iff table state t in
        let unready = unready_iff table state t in
        let ready = ready_iff table state t in
        let spawns = step_thread_row_iff table state t in
        let makes = step_channel_row_iff table state t in
        let eleven = own Ground.Thread (¬ Ready state t) refl (λ e. let (a, c) = thread.0 e in (a, unready.0 c), λ (a, n). thread.1 (a, unready.1 n)) in
        let thirteen = own Ground.ThreadRow (Ready state t × LacksThreadRow table state t) refl (
          λ e. let (a, c, q, n) = spawns.0 e in (a, (ready.0 c, (q, n))),
          λ (a, (c, (q, n))). spawns.1 (a, ready.1 c, q, n),
        ) in
        let fourteen = own Ground.ChannelRow (Ready state t × LacksChannelRow table state t) refl (
          λ e. let (a, c, q, n) = makes.0 e in (a, (ready.0 c, (q, n))),
          λ (a, (c, (q, n))). makes.1 (a, ready.1 c, q, n),
        ) in
        let zero = none table state rights seat fit few k (Ready state t × (¬ LacksThreadRow table state t) × (¬ LacksChannelRow table state t)) (step_none table state t) in
        record {
          entered = entered_by table state rights seat fit few k;
          eleven = eleven;
          thirteen = (λ e. let (p, (c, l)) = thirteen.0 e in ((p, c), l), λ ((p, c), l). thirteen.1 (p, (c, l)));
          fourteen = (λ e. let (p, (c, l)) = fourteen.0 e in ((p, c), l), λ ((p, c), l). fourteen.1 (p, (c, l)));
          zero = (λ e. let (p, (c, l, m)) = zero.0 e in ((p, c), l, m), λ ((p, c), l, m). zero.1 (p, (c, l, m)));
          only = one_of table state rights seat fit few k (8 ∷ 9 ∷ 18 ∷ 19 ∷ 10 ∷ 11 ∷ 13 ∷ 14 ∷ [])
              (λ r f. of_step r (λ q. foreign table state rights seat fit few k Ground.Port refl (λ e. step_grounds table state t Ground.Port e refl) (rw q at f)));
          kept = step_kept;
        }

  module _ (p : ℕ) where
    module _ (v : ℕ) (h : v < 4294967296) where
      give_kept : (give_result table state rights seat p (to_z w32 v)).answer.refusal ≢ pos 0
          → give_result table state rights seat p (to_z w32 v)
          ≡ result (record { refusal = (give_result table state rights seat p (to_z w32 v)).answer.refusal; thread = pos 0 }) state
      unfolding refusal_by RefusedAt after_by give_result in_numbers give_numbers give_fields
      give_kept n =
          let (r, f, e) = refused_so table state rights seat (on (give p v h)) small n in
          rw (given_so v h, whole (seated_give table state rights seat p v) (Err r) state f e)

      give_nobody : (a : Given) → (give_call table state p v).answer ≡ a → (give_numbers a).thread ≡ negsuc 0 → (give_call table state p v).answer ≡ Ok None
      unfolding give_numbers give_fields give_call
      give_nobody (Ok (Some u)) q e =
          let f = ((call_answer Err table state (give_on (table_of table) (view state) p v) (Ok (Some u)) (λ r h i. clash cc)).0 q).1 in
          let (l, j, h, i) = give_met (table_of table) (view state) p v u f in
          let low = (partner_answers (table_of table) (view state) bench In p u j h).thread_in in
          let z : pos u ≡ negsuc 0 = sym (to_z_pos w32 {n = u} (omega arith)) ∙ e in clash cc
      give_nobody (Ok None) q e = q
      give_nobody (Err r) q e = clash cc

      give_nobody_numbers : ((give_result table state rights seat p (to_z w32 v)).answer.thread ≡ negsuc 0)
          ↔ (Past10 table state rights seat (Right.Give p) × (p < ports (table_of table)) × NobodyOffers (table_of table) (view state) In p)
      unfolding give_result in_numbers seated_give give_numbers give_fields
      give_nobody_numbers =
          rw (given_so v h) (nobody_iff table state rights seat fit few (Right.Give p) Err (give_call table state p v) (λ a. (give_numbers a).thread) (Ok None)
          (λ r. refl) (give_nobody (give_call table state p v).answer refl) refl (give_nobody_iff table state p v))

      give_nobody_kept : (give_result table state rights seat p (to_z w32 v)).answer.thread ≡ negsuc 0
          → give_result table state rights seat p (to_z w32 v) ≡ result (record { refusal = pos 0; thread = negsuc 0 }) state
      unfolding give_result in_numbers seated_give give_numbers give_fields
      give_nobody_kept =
          rw (given_so v h) (λ e. rw (nobody_whole table state rights seat fit few (Right.Give p) Err (give_call table state p v) (λ a. (give_numbers a).thread) (Ok None)
          (λ r. refl) (give_nobody (give_call table state p v).answer refl) (give_nobody_keeps table state small p v) e))

      give_pattern : GiveInNumbers table state rights seat p (to_z w32 v)
      unfolding asked refusal_by RefusedBy RefusedWith refusal_number at_seat_entry at_entry
      give_pattern =
          let k = on (give p v h) in
          let no_port = give_port_iff table state p v in
          record {
            entered = entered_by table state rights seat fit few k;
            twelve = own table state rights seat fit few k Ground.Port (ports (table_of table) ≤ p) refl (λ e. let (a, l) = no_port.0 e in (a, l), λ (a, l). no_port.1 (a, l));
            zero = none table state rights seat fit few k (p < ports (table_of table)) (give_none table state p v h);
            only = port_only table state rights seat fit few k (give_grounds table state p v);
            kept = give_kept;
            nobody = give_nobody_numbers;
            nobody_kept = give_nobody_kept;
          }

    -- of each number that C can give
    pub give_in_numbers : (z : ℤ) → SFits w32 z → GiveInNumbers table state rights seat p z
    give_in_numbers z s = let (v, h, e) = every_number z s in rw e at (give_pattern v h)

    take_kept : (take_result table state rights seat p).answer.refusal ≢ pos 0
        → take_result table state rights seat p
        ≡ result (record { refusal = (take_result table state rights seat p).answer.refusal; thread = pos 0; number = pos 0 }) state
    unfolding refusal_by RefusedAt after_by take_result in_numbers take_numbers take_fields
    take_kept n =
        let (r, f, e) = refused_so table state rights seat (on (take p)) small n in
        rw (whole (seated_take table state rights seat p) (Err r) state f e)

    take_nobody : (a : Taken) → (take_call table state p).answer ≡ a → (take_numbers a).thread ≡ negsuc 0 → (take_call table state p).answer ≡ Ok None
    unfolding take_numbers take_fields take_call
    take_nobody (Ok (Some (u, w))) q e =
        let f = ((call_answer Err table state (take_on (table_of table) (view state) p) (Ok (Some (u, w))) (λ r h i. clash cc)).0 q).1 in
        let (l, j, h, i, k) = take_met (table_of table) (view state) p u w f in
        let low = (partner_answers (table_of table) (view state) bench Out p u j h).thread_in in
        let z : pos u ≡ negsuc 0 = sym (to_z_pos w32 {n = u} (omega arith)) ∙ e in clash cc
    take_nobody (Ok None) q e = q
    take_nobody (Err r) q e = clash cc

    take_nobody_numbers : ((take_result table state rights seat p).answer.thread ≡ negsuc 0)
        ↔ (Past10 table state rights seat (Right.Take p) × (p < ports (table_of table)) × NobodyOffers (table_of table) (view state) Out p)
    unfolding take_result in_numbers seated_take take_numbers take_fields
    take_nobody_numbers =
        nobody_iff table state rights seat fit few (Right.Take p) Err (take_call table state p) (λ a. (take_numbers a).thread) (Ok None)
        (λ r. refl) (take_nobody (take_call table state p).answer refl) refl (take_nobody_iff table state p)

    take_nobody_kept : (take_result table state rights seat p).answer.thread ≡ negsuc 0
        → take_result table state rights seat p ≡ result (record { refusal = pos 0; thread = negsuc 0; number = pos 0 }) state
    unfolding take_result in_numbers seated_take take_numbers take_fields
    take_nobody_kept e =
        rw (nobody_whole table state rights seat fit few (Right.Take p) Err (take_call table state p) (λ a. (take_numbers a).thread) (Ok None)
        (λ r. refl) (take_nobody (take_call table state p).answer refl) (take_nobody_keeps table state small p) e)

    pub take_in_numbers : TakeInNumbers table state rights seat p
    unfolding asked refusal_by RefusedBy RefusedWith refusal_number at_seat_entry at_entry
    take_in_numbers =
        let k = on (take p) in
        let no_port = take_port_iff table state p in
        record {
          entered = entered_by table state rights seat fit few k;
          twelve = own table state rights seat fit few k Ground.Port (ports (table_of table) ≤ p) refl (λ e. let (a, l) = no_port.0 e in (a, l), λ (a, l). no_port.1 (a, l));
          zero = none table state rights seat fit few k (p < ports (table_of table)) (take_none table state p);
          only = port_only table state rights seat fit few k (take_grounds table state p);
          kept = take_kept;
          nobody = take_nobody_numbers;
          nobody_kept = take_nobody_kept;
        }

  module _ (n : ℕ) (l : n < 65536) where
    run_kept : (run_result table state rights seat n).answer.refusal ≢ pos 0
        → run_result table state rights seat n
        ≡ result (record { refusal = (run_result table state rights seat n).answer.refusal; steps = pos 0; reason = pos 0; thread = pos 0 }) state
    unfolding refusal_by RefusedAt after_by run_result in_numbers run_numbers run_fields
    run_kept m =
        let (r, f, e) = refused_so table state rights seat (on (run n)) small m in
        rw (whole (seated_run table state rights seat n) (Err r) state f e)

    pub run_in_numbers : RunInNumbers table state rights seat n
    unfolding asked refusal_by RefusedBy RefusedWith
    run_in_numbers =
        let k = on (run n) in
        let w : (r : Refusal) → RefusedBy table state k r → admission table state ≡ Err r = λ r. (run_refused_iff table state n r).0 in
        record {
          entered = entered_by table state rights seat fit few k;
          zero = none_own table state rights seat fit few k w;
          only = entry_only table state rights seat fit few k w;
          kept = run_kept;
          reasons = run_answers table state rights seat fit small n l;
        }

  collect_kept : (collect_result table state rights seat).answer.refusal ≢ pos 0
      → collect_result table state rights seat ≡ result (record { refusal = (collect_result table state rights seat).answer.refusal; threads = pos 0 }) state
  unfolding refusal_by RefusedAt after_by collect_result in_numbers collect_numbers collect_fields
  collect_kept n =
      let (r, f, e) = refused_so table state rights seat collect small n in
      rw (whole (seated_collect table state rights seat) (Err r) state f e)

  pub collect_in_numbers : CollectInNumbers table state rights seat
  unfolding asked refusal_by RefusedBy
  collect_in_numbers =
      let w : (r : Refusal) → RefusedBy table state collect r → admission table state ≡ Err r = λ r. (collect_refused_iff table state r).0 in
      record {
        entered = entered_by table state rights seat fit few collect;
        zero = none_own table state rights seat fit few collect w;
        only = entry_only table state rights seat fit few collect w;
        kept = collect_kept;
      }
