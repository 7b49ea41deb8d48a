-- The calls of the engine and of the collector, over the bytes that the bench software sees, are series of 002's reductions. Assumes nothing.
use Rattle.rules.specs.Answers.{Ran}
use Rattle.std.specs.Prelude.{ℕ, ◌<◌, ◌≡◌, List, [], get_or, Err, Ok, Some}
use Rattle.std.proofs.Common.{sym, ◌∙◌}
use Rattle.std.proofs.Math.Path.{ap}
use Rattle.std.proofs.Math.Bool.{true}
use borrow.Author.Tests.{ltb-true}
use Rattle.numbers.specs.Search.{tabulate}
use Rattle.numbers.specs.Search.Laws.{tabulate_cong}
use Rattle.numbers.specs.Tests.{parts, clash}
use Rattle.table.specs.Table.{Table, table_of, ports}
use Rattle.loader.specs.Load.{accepted}
use Rattle.state.specs.State.{max_threads, view, thread, stands_at, is_ready}
use Rattle.rules.specs.Offers.{partner_of}
use Rattle.rules.specs.Moves.{move, perform, value_by, met_by_bench}
use Rattle.rules.specs.Calls.{on_buffers, step_answer, can_step, step_on, step_call, bench, give_on, give_call, take_on, take_call, course_of, run_on, run_call}
use Rattle.rules.specs.Calls.Laws.{call_answer}
use Rattle.rules.specs.declared.Direction.TheVariants.{Out}
use Rattle.rules.specs.declared.Move.{Move}
use Rattle.rules.specs.declared.Move.TheVariants.{Ends, Calls, Waits, Goes, Creates, Spawns, Meets, LacksThread, LacksChannel}
use Rattle.rules.specs.declared.Deed.{Deed}
use Rattle.rules.specs.declared.Reason.{Reason}
use Rattle.rules_laws.specs.Granted.{Granted}
use Rattle.rules_laws.specs.Accepted.{granted}
use Rattle.rules_laws.specs.Soundness.{Sound}
use Rattle.rules_laws.specs.Lasting.{step_on_kept, give_on_kept, take_on_kept}
use Rattle.engine_laws.specs.Buffers.{SoundBuffer, view_sound}
use Rattle.engine_laws.specs.Answers.{step_performed}
use Rattle.engine_laws.specs.Bench.{give_met, take_met}
use Rattle.engine_laws.specs.SoundCalls.{call_made, call_view, run_view}
use Rattle.collector.specs.Collect.{collect_on, collect_call, seated_collect}
use Rattle.collector_laws.specs.CollectionKeeps.{collect_on_kept}
use Rattle.guarantee.specs.SeatedProof.{collected_plainly}
use Rattle.published.specs.Syntax.{Process, choice, Sum, branch, always, output, input}
use Rattle.published.specs.Agents as Agents
use Rattle.published.specs.Agents.{Env, look, bind, Commitment, Thread, Agent}
use Rattle.published.specs.Fired.{by_send, by_recv, fired, Labels, SteppedBy, Turns}
use Rattle.published_laws.specs.Readable.{Readable, readable}
use Rattle.published_laws.specs.Standing.{body_of, thread_of, agent_of, OurRules, OurLabels}
use Rattle.published_laws.specs.Products.{Bench}
use Rattle.published_laws.specs.Firing.{fired_by, next_had, had_in}
use Rattle.published_laws.specs.Running as Running
use Rattle.published_laws.specs.Stepping.{Allowed}
use Rattle.published_laws.proofs.Stepping.{step_reduced}
use Rattle.published_laws.proofs.Telling.{answer_tells}
use Rattle.published_laws.proofs.Turning.{course_turns}
use Rattle.published_laws.proofs.Outside.{give_reduced, take_reduced}
use Rattle.published_laws.proofs.Collecting.{collection_reduced}

pub done_allowed : (n : ℕ) (m : Move) (k : ℕ) (d : Deed) → step_answer n m ≡ Ok (k, d) → Allowed m
unfolding step_answer Allowed
done_allowed n Ends k d e = tt
done_allowed n Calls k d e = tt
done_allowed n Waits k d e = tt
done_allowed n (Goes i) k d e = tt
done_allowed n (Creates i c) k d e = tt
done_allowed n (Spawns i u) k d e = tt
done_allowed n (Meets i u j) k d e = tt
done_allowed n LacksThread k d e = clash cc
done_allowed n LacksChannel k d e = clash cc

ran_steps : (n k : ℕ) (r x : Reason) → ◌≡◌ {A = Ran} (Ok (n, r)) (Ok (k, x)) → n ≡ k
ran_steps n k r x e =
    let q : ◌≡◌ {A = ℕ × Reason} (n, r) (k, x) = cc in
    ap (λ (x : ℕ × Reason). x.0) q

module _ (table : List ℕ) (ok : accepted table ≡ true) (fit : (i : ℕ) → get_or table i 0 < 256) (state : List ℕ) (sb : SoundBuffer table state) where
  abbrev tb : Table
  tb = table_of table

  g : Granted tb
  g = granted table ok fit

  rd : Readable tb
  rd = readable table ok fit

  sound : Sound tb (view state)
  sound = view_sound table state sb

  -- ---- a step that is done: its thread could step, and the bytes hold the state after its move

  pub step_did : (t k : ℕ) (d : Deed) → (step_call table state t).answer ≡ Ok (k, d)
      → (can_step (view state) t ≡ true)
      × (step_answer (stands_at (thread (view state) t)) (move (table_of table) (view state) t) ≡ Ok (k, d))
      × (view (step_call table state t).state ≡ perform (table_of table) (view state) t (move (table_of table) (view state) t))
  unfolding step_call
  step_did t k d e =
      let on = step_on tb (view state) t in
      let (c, q, w) = step_performed tb (view state) t k d ((call_answer Err table state on (Ok (k, d)) (λ r f i. clash cc)).0 e).1 in
      (c, q, call_view table ok Err state sb on (step_on_kept tb g (view state) sound t) ∙ w)

  -- ---- the answer of a run: it is done

  pub run_done : (n : ℕ)
      → (run_call table state n).answer
      ≡ Ok ((course_of (table_of table) n (view state)).steps, (course_of (table_of table) n (view state)).reason)
  unfolding run_call run_on
  run_done n = rw (call_made table ok Err state sb (run_on tb (view state) n))

  module _ (b : Thread) (bn : Bench (table_of table) b) where
    abbrev pub StepBy : ℕ → Deed → List ℕ → Type 0
    StepBy t d later = Running.StepBy table state b t d later

    step_by : (t k : ℕ) (d : Deed) → can_step (view state) t ≡ true → step_answer (stands_at (thread (view state) t)) (move tb (view state) t) ≡ Ok (k, d)
        → (later : List ℕ) → view later ≡ perform tb (view state) t (move tb (view state) t) → StepBy t d later
    unfolding can_step
    step_by t k d c e later w =
        let l = ltb-true t max_threads (search parts) in
        let ready : is_ready (thread (view state) t) ≡ true = search parts in
        let n = stands_at (thread (view state) t) in
        let m = move tb (view state) t in
        rw w (
          fired_by tb (view state) t m,
          answer_tells tb rd (view state) sound.orderly t l ready n k d e,
          step_reduced tb g rd (view state) sound t l ready b bn (done_allowed n m k d e),
        )

    -- a step that is answered as done
    pub step_call_reduced : (t k : ℕ) (d : Deed) → (step_call table state t).answer ≡ Ok (k, d) → StepBy t d (step_call table state t).state
    step_call_reduced t k d e =
        let (c, q, w) = step_did t k d e in
        step_by t k d c q (step_call table state t).state w

    -- ---- a run

    -- a run that is answered with k steps is k turns; each is of the thread that is the first ready, from the turn on, in the bytes that a run of so many steps
    -- as were made before leaves
    pub run_call_reduced : (n k : ℕ) (r : Reason) → (run_call table state n).answer ≡ Ok (k, r)
        → Turns (body_of (table_of table)) (OurRules (table_of table)) (OurLabels (table_of table))
        (tabulate k (λ i. next_had (table_of table) (view (run_call table state i).state)))
        (agent_of (table_of table) b (view state)) (agent_of (table_of table) b (view (run_call table state n).state))
    unfolding had_in
    run_call_reduced n k r e =
        let c = course_of tb n (view state) in
        let q : c.steps ≡ k = ran_steps c.steps k c.reason r (sym (run_done n) ∙ e) in
        let same = tabulate_cong k (λ i. next_had tb (view (run_call table state i).state)) (λ i. next_had tb (course_of tb i (view state)).state)
        (λ i l. ap (next_had tb) (run_view table ok fit state sb i)) in
        rw (same, run_view table ok fit state sb n, ← q) (course_turns tb g rd b bn n (view state) sound)

    -- ---- a collection

    abbrev pub CollectedTo : List ℕ → Type 0
    CollectedTo later = Running.CollectedTo table state b later

    pub collect_call_reduced : CollectedTo (collect_call table state).state
    unfolding collect_call collect_on
    collect_call_reduced =
        rw (call_view table ok Err state sb (collect_on tb (view state)) (collect_on_kept tb g (view state) sound))
        (collection_reduced tb g rd (view state) sound b bn)

    -- the delivered call, at a seat at which it is done
    pub seated_collect_reduced : (rights : List ℕ) (seat n : ℕ) → (seated_collect table state rights seat).answer ≡ Ok n
        → CollectedTo (seated_collect table state rights seat).state
    seated_collect_reduced rights seat n e = rw (collected_plainly table state rights seat n e) collect_call_reduced

  -- ---- give and take, by any rules that have those of Table 3: the bench is about to send on a port, or to receive

  module _ (def : ℕ → Process) (More : Agent → Agent → Type 0) (own : Labels More) (p : ℕ) (δ : Env) (c x : ℕ) (E : Process) (q : Sum) (on : look δ c ≡ Some (Agents.channel p)) where
    module _ (v : ℕ) (small : v < 4294967296) (has : look δ x ≡ Some (Agents.number v)) (bn : Bench (table_of table) (Agents.thread [] δ E)) where
      -- a give that meets thread u is (send) to it
      pub give_call_reduced : (u : ℕ) → (give_call table state p v).answer ≡ Ok (Some u)
          → (k : Commitment) × SteppedBy def More own (agent_of (table_of table) (Agents.thread [] δ (choice (branch always (output c x) E q))) (view state))
          (Agents.thread [] δ (choice (branch always (output c x) E q))) (fired 0 (by_send (thread_of (table_of table) (thread (view state) u)) k))
          (agent_of (table_of table) (Agents.thread [] δ E) (view (give_call table state p v).state))
      unfolding give_call
      give_call_reduced u e =
          let k = give_on tb (view state) p v in
          let (l, j, a, h) = give_met tb (view state) p v u ((call_answer Err table state k (Ok (Some u)) (λ r f i. clash cc)).0 e).1 in
          rw (call_view table ok Err state sb k (give_on_kept tb g (view state) sound p v small), h)
          (give_reduced tb g rd (view state) sound p u j l def More own δ c x v E q on has a bn)

    module _ (v : ℕ) (bn : Bench (table_of table) (Agents.thread [] (bind δ x (Agents.number v)) E)) where
      abbrev taker : Thread
      taker = Agents.thread [] δ (choice (branch always (input c x) E q))

      taken_by_lem : (u j : ℕ) → p < ports tb → partner_of tb (view state) bench Out p ≡ Some (u, j) → value_by tb (thread (view state) u) j ≡ v
          → (later : List ℕ) → view later ≡ met_by_bench tb (view state) u j 0
          → (k : Commitment) × SteppedBy def More own (agent_of tb taker (view state)) taker (fired 0 (by_recv (thread_of tb (thread (view state) u)) k))
          (agent_of tb (Agents.thread [] (bind δ x (Agents.number v)) E) (view later))
      taken_by_lem u j l a z later w = rw (w, ← z) (take_reduced tb g rd (view state) sound p u j l def More own δ c x E q on a (rw z bn))

      -- a take that meets thread u, and brings the number v, is (recv) from it
      pub take_call_reduced : (u : ℕ) → (take_call table state p).answer ≡ Ok (Some (u, v))
          → (k : Commitment) × SteppedBy def More own (agent_of (table_of table) (Agents.thread [] δ (choice (branch always (input c x) E q))) (view state))
          (Agents.thread [] δ (choice (branch always (input c x) E q))) (fired 0 (by_recv (thread_of (table_of table) (thread (view state) u)) k))
          (agent_of (table_of table) (Agents.thread [] (bind δ x (Agents.number v)) E) (view (take_call table state p).state))
      unfolding take_call
      take_call_reduced u e =
          let k = take_on tb (view state) p in
          let (l, j, a, z, h) = take_met tb (view state) p u v ((call_answer Err table state k (Ok (Some (u, v))) (λ r f i. clash cc)).0 e).1 in
          taken_by_lem u j l a z (on_buffers Err table state k).state (call_view table ok Err state sb k (take_on_kept tb g (view state) sound p) ∙ h)
