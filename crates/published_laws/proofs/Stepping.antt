-- A step of the engine is a turn of its thread by 002's reductions, which ends with the rule of its move, and then uses of (reclaim). The branches before the one that is taken are passed over in
-- their order, by (next), (out) and (in); so 002's local priority is document 01's. Assumes nothing but what the
-- table grants.
use Rattle.rules.specs.Answers.{Partner}
use Rattle.std.specs.Prelude.{ℕ, ◌<◌, ◌≡◌, true, ltb, eqb, None, Some}
use Rattle.std.proofs.Common.{arith}
use Rattle.std.proofs.Math.Path.{refl}
use borrow.Author.Tests.{ltb-true, ltb-false, eqb-true, eqb-false, not-true}
use Rattle.numbers.specs.Search.{first}
use Rattle.numbers.specs.Search.Laws.{case_b, contra, first_passes, first_below}
use Rattle.numbers.specs.Tests.{clash}
use Rattle.table.specs.Table.{Table}
use Rattle.table.specs.Layout.{branch_count}
use Rattle.state.specs.State.{State, max_threads, max_channels, thread_mark, channel_mark, thread, stands_at, in_use, is_ready, type_in}
use Rattle.rules.specs.Program.{kind_of, branch_at, next_of, field_b, act_of, guard_holds, opposite}
use Rattle.rules.specs.Offers.{partner_of}
use Rattle.rules.specs.Moves.{is_free_thread, is_free_channel, free_thread, free_channel, meeting, creation, spawning, goes_ahead, act_move, branch_move, ahead, choice, move, side_of, written, perform}
use Rattle.rules.specs.declared.Direction.{Direction}
use Rattle.rules.specs.declared.Act.{Act}
use Rattle.rules.specs.declared.Act.TheVariants.{Tau, Meeting, New, Spawn, Assignment}
use Rattle.rules.specs.declared.Move.{Move}
use Rattle.rules.specs.declared.Move.TheVariants.{Calls, Waits, Goes, Meets, LacksThread, LacksChannel}
use Rattle.next_rows.specs.Around.{around_in}
use Rattle.rules_laws.specs.Granted.{Granted}
use Rattle.rules_laws.specs.Soundness.{Sound}
use Rattle.rules_laws.specs.Chosen.{channel_by, Open, Answering, partner_answers, chosen}
use Rattle.rules_laws.specs.Kept.{written_orderly}
use Rattle.published.specs.Agents.{Thread, Agent}
use Rattle.published.specs.Rules.{Nothing}
use Rattle.published.specs.Fired.{fired, Labels, nothing_fires, TurnBy, SteppedBy}
use Rattle.published_laws.specs.Readable.{Readable}
use Rattle.published_laws.specs.Standing.{process_at, body_of, waiting_thread, ready_thread, thread_of, agent_of, OurRules, OurLabels}
use Rattle.published_laws.specs.Products.{Bench, ready_thread_lem, waiting_thread_lem}
use Rattle.published_laws.proofs.Reclaims.{counted_anew}
use Rattle.published_laws.specs.Commitments.{pledge}
use Rattle.published_laws.specs.Firing.{going_rule, meeting_rule, fired_by}
use Rattle.published_laws.proofs.Passing.{Passed, passed}
use Rattle.published_laws.proofs.Alone.{ends_reduced, waits_reduced, tau_reduced, assignment_reduced, creation_reduced}
use Rattle.published_laws.proofs.Calling.{calls_reduced, calls_published}
use Rattle.published_laws.proofs.Together.{spawn_reduced, meeting_reduced}
use Rattle.published_laws.specs.Stepping.{Allowed, Plain}

-- ---- the turn, by whatever further rules are there

module _ (tb : Table) (g : Granted tb) (rd : Readable tb) (s : State) (ok : Sound tb s) (t : ℕ) (l : t < max_threads) (ready : is_ready (thread s t) ≡ true)
    (b : Thread) (bn : Bench tb b) (More : Agent → Agent → Type 0) (own : Labels More) (Allowed : Move → Type 0) where
  -- from the agent before to that of what the move writes, by the rule of the move
  abbrev Turns : Move → Type 0
  Turns m = TurnBy (body_of tb) More own (agent_of tb b s) (ready_thread tb (thread s t)) (fired_by tb s t m) (agent_of tb b (written tb s t m))

  abbrev Reduced : Move → Type 0
  Reduced m = Allowed m → Turns m

  -- branch k is the first that goes ahead
  abbrev FirstOpen : ℕ → Act → Type 0
  FirstOpen k a = Open tb s t k a × ((j : ℕ) → j < k → Passed tb s t j)

  -- after the turn the channels that nobody holds any more are reclaimed
  stepped : Turns (move tb s t)
      → SteppedBy (body_of tb) More own (agent_of tb b s) (thread_of tb (thread s t)) (fired_by tb s t (move tb s t)) (agent_of tb b (perform tb s t (move tb s t)))
  unfolding perform
  stepped h = rw (ready_thread_lem tb (thread s t) ready) (record {
    stepped = record {
      between = agent_of tb b (written tb s t (move tb s t));
      turn = h.turn;
      reclaimed = counted_anew tb (written tb s t (move tb s t))
          (written_orderly tb g s ok.orderly t l ready (move tb s t) (chosen tb s t)).shaped.all_channels b bn;
    };
    ends = h.ends;
  })

  meets_fired : (k u j : ℕ) (d : Direction) → Open tb s t k (Meeting d) → Answering tb s t (opposite d) (channel_by tb s t k) u j
      → fired_by tb s t (Meets k u j)
      ≡ fired k (meeting_rule d (waiting_thread tb (thread s u)) (pledge (opposite d) (channel_by tb s t k) (field_b tb (branch_at tb (stands_at (thread s u)) j))
      (process_at tb (next_of tb (stands_at (thread s u)) (branch_at tb (stands_at (thread s u)) j)))))
  unfolding fired_by side_of
  meets_fired k u j d x a = rw (x.does, waiting_thread_lem tb (thread s u) a.waits, a.is)

  -- moves with a row lacking are not allowed; calls, waits and assignments are turns where they are
  module _ (no_thread : Allowed LacksThread → ⊥) (no_channel : Allowed LacksChannel → ⊥)
      (calling : kind_of tb (stands_at (thread s t)) ≡ 2 → Reduced Calls)
      (waits : kind_of tb (stands_at (thread s t)) ≡ 1 → ((j : ℕ) → j < branch_count tb (stands_at (thread s t)) → Passed tb s t j) → Reduced Waits)
      (assigning : (k : ℕ) → FirstOpen k Assignment → Reduced (Goes k)) where
    meets_reduced : (k : ℕ) (d : Direction) → FirstOpen k (Meeting d) → (p : Partner) → partner_of tb s t (opposite d) (channel_by tb s t k) ≡ p
        → goes_ahead (meeting k p) ≡ true → Reduced (meeting k p)
    unfolding meeting goes_ahead
    meets_reduced k d x None e y z = contra y refl
    meets_reduced k d (x, before) (Some (u, j)) e y z =
        let a = partner_answers tb s t (opposite d) (channel_by tb s t k) u j e in
        rw (meets_fired k u j d x a) (meeting_reduced tb g rd s ok.orderly t l ready b bn More own k x.at_choice x.branch_in before u j d x a)

    creates_reduced : (k : ℕ) → FirstOpen k New → Reduced (creation k (free_channel s))
    unfolding creation free_channel is_free_channel fired_by
    creates_reduced k (x, before) z =
        let c = free_channel s in
        case_b (ltb c max_channels)
        (λ y. let i = ltb-true c max_channels y in
        rw y (creation_reduced tb g rd s ok.orderly t l ready b bn More own k x.at_choice x.branch_in before c
        (record { takes = x; found = refl; channel_in = i; untyped = eqb-true (type_in s c) 0 (around_in max_channels (channel_mark s) (is_free_channel s) i) })))
        (λ y. absurd (no_channel (rw y at z)))

    spawns_reduced : (k : ℕ) → FirstOpen k Spawn → Reduced (spawning k (free_thread s))
    unfolding spawning free_thread is_free_thread fired_by
    spawns_reduced k (x, before) z =
        let u = free_thread s in
        case_b (ltb u max_threads)
        (λ y. let i = ltb-true u max_threads y in
        rw y (spawn_reduced tb g rd s ok.orderly t l ready b bn More own k x.at_choice x.branch_in before u
        (record { takes = x; found = refl; thread_in = i; unused = not-true (in_use (thread s u)) (around_in max_threads (thread_mark s) (is_free_thread s) i) })))
        (λ y. absurd (no_thread (rw y at z)))

    act_reduced : (k : ℕ) (a : Act) → FirstOpen k a → goes_ahead (act_move tb s t k a) ≡ true → Reduced (act_move tb s t k a)
    unfolding act_move fired_by going_rule
    act_reduced k Tau (x, before) h z =
        rw x.does (tau_reduced tb g rd s ok.orderly t l ready b bn More own k x.at_choice x.branch_in before x)
    act_reduced k (Meeting d) x h z = meets_reduced k d x (partner_of tb s t (opposite d) (channel_by tb s t k)) refl h z
    act_reduced k New x h z = creates_reduced k x z
    act_reduced k Spawn x h z = spawns_reduced k x z
    act_reduced k Assignment x h z = assigning k x z

    branch_reduced : (k : ℕ) → kind_of tb (stands_at (thread s t)) ≡ 1 → k < branch_count tb (stands_at (thread s t)) → ((j : ℕ) → j < k → Passed tb s t j)
        → goes_ahead (branch_move tb s t k) ≡ true → Reduced (branch_move tb s t k)
    unfolding branch_move goes_ahead
    branch_reduced k kind m before h z =
        let r = branch_at tb (stands_at (thread s t)) k in
        case_b (guard_holds tb r (thread s t))
        (λ y. rw y (act_reduced k (act_of tb r) (record { at_choice = kind; branch_in = m; passes = y; does = refl }, before) (rw y at h) (rw y at z)))
        (λ y. contra h (rw y))

    choice_reduced : kind_of tb (stands_at (thread s t)) ≡ 1 → Reduced (choice tb s t)
    unfolding choice ahead
    choice_reduced kind z =
        let n = branch_count tb (stands_at (thread s t)) in
        let k = first (ahead tb s t) n in
        case_b (ltb k n)
        (λ y. let m = ltb-true k n y in
        rw y (branch_reduced k kind m (λ j i. passed tb s t j (first_below (ahead tb s t) n j i)) (first_passes (ahead tb s t) n m) (rw y at z)))
        (λ y. rw y (waits kind (λ j i. passed tb s t j (first_below (ahead tb s t) n j (omega (arith, ltb-false k n y)))) (rw y at z)))

    move_reduced : Reduced (move tb s t)
    unfolding move fired_by
    move_reduced z =
        let kind = kind_of tb (stands_at (thread s t)) in
        case_b (eqb kind 1)
        (λ y. rw y (choice_reduced (eqb-true kind 1 y) (rw y at z)))
        (λ y. rw y (case_b (eqb kind 2)
        (λ x. rw x (calling (eqb-true kind 2 x) (rw (y, x) at z)))
        (λ x. rw x (ends_reduced tb g rd s ok.orderly t l ready b bn More own (eqb-false kind 1 y) (eqb-false kind 2 x)))))

-- ---- every step that is not refused

tau_assignment : {A : Type 0} (a : Act) → a ≡ Tau → a ≡ Assignment → A
tau_assignment a p q = clash cc

module _ (tb : Table) (g : Granted tb) (rd : Readable tb) (s : State) (ok : Sound tb s) (t : ℕ) (l : t < max_threads) (ready : is_ready (thread s t) ≡ true)
    (b : Thread) (bn : Bench tb b) where
  -- a step that is not refused is a turn of its thread by 002's rules and document 01's own, which ends with the rule of its move, followed by uses of (reclaim)
  pub step_reduced : Allowed (move tb s t)
      → SteppedBy (body_of tb) (OurRules tb) (OurLabels tb) (agent_of tb b s) (thread_of tb (thread s t)) (fired_by tb s t (move tb s t))
      (agent_of tb b (perform tb s t (move tb s t)))
  unfolding Allowed fired_by going_rule
  step_reduced z =
      stepped tb g rd s ok t l ready b bn (OurRules tb) (OurLabels tb) Allowed
      (move_reduced tb g rd s ok t l ready b bn (OurRules tb) (OurLabels tb) Allowed (λ y. y) (λ y. y)
      (λ k y. calls_reduced tb g rd s ok.orderly t l ready b bn k)
      (λ k p y. waits_reduced tb g rd s ok.orderly t l ready b bn (OurRules tb) (OurLabels tb) (λ i m f A C x. (x, refl)) k p)
      (λ k (x, before) y. rw x.does (assignment_reduced tb g rd s ok.orderly t l ready b bn k x.at_choice x.branch_in before x)) z)

  -- the turn is one by 002's rules alone, if it is neither a call of a definition with number locals, nor an assignment, nor a wait with a guard that is false
  pub turn_published : Plain tb (thread s t) (move tb s t)
      → TurnBy (body_of tb) Nothing nothing_fires (agent_of tb b s) (ready_thread tb (thread s t)) (fired_by tb s t (move tb s t))
      (agent_of tb b (written tb s t (move tb s t)))
  unfolding Plain fired_by
  turn_published =
      move_reduced tb g rd s ok t l ready b bn Nothing nothing_fires (Plain tb (thread s t)) (λ z. z) (λ z. z)
      (λ k z. calls_published tb g rd s ok.orderly t l ready b bn k z Nothing nothing_fires)
      (λ k p z. waits_reduced tb g rd s ok.orderly t l ready b bn Nothing nothing_fires (λ i m f A C x. contra (z i m) f) k p)
      (λ k (x, before) z. tau_assignment (act_of tb (branch_at tb (stands_at (thread s t)) k)) z x.does)

  -- the step is one by 002's rules alone, if its turn is
  pub step_published : Plain tb (thread s t) (move tb s t)
      → SteppedBy (body_of tb) Nothing nothing_fires (agent_of tb b s) (thread_of tb (thread s t)) (fired_by tb s t (move tb s t))
      (agent_of tb b (perform tb s t (move tb s t)))
  step_published z = stepped tb g rd s ok t l ready b bn Nothing nothing_fires (Plain tb (thread s t)) (turn_published z)
