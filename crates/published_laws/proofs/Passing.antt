-- How a ready thread at a choice passes over the branches that do not go ahead: by (next) where the guard is false, by (out) and (in) where nobody answers; and
-- where no branch goes ahead, by (out), (in) and skip to the last. Assumes nothing but what the table grants.
use Rattle.rules.specs.Answers.{Partner}
use Prim.Native.Nat.{ℕ, zero, suc, ◌+◌, ◌<◌}
use native.Mathlib.Omega.{arith}
use Rattle.std.specs.Prelude.{◌≡◌, ◌⊎◌, ◌≢◌, true, false, cond, ltb, eqb, get_or, set, None, Some}
use Rattle.std.proofs.Math.Path.{refl, ap}
use Rattle.std.proofs.Common.{◌∙◌, length-set, get_or-set_same, get_or-set_other, eqb-true}
use Rattle.std.proofs.Math.Logic.{inl, inr, ⊎_elim}
use mathlib.Core.List.{List, [], ◌∷◌, ◌++◌, append-nil, append_assoc}
use Rattle.std.proofs.lemmas.Bool.{eqb-false}
use Rattle.numbers.specs.Search.Laws.{case_b, contra}
use Rattle.table.specs.Table.{Table}
use Rattle.table.specs.Layout.{branch_count, definition_of, slot_type}
use Rattle.state.specs.State.{State, max_threads, max_channels, thread, stands_at, in_use, is_ready, type_in}
use Rattle.rules.specs.Program.{branch_at, next_of, child_of, field_a, act_of, guard_holds, opposite}
use Rattle.rules.specs.Start.{free_row}
use Rattle.rules.specs.Offers.{offers, partner_of}
use Rattle.rules.specs.Moves.{free_thread, free_channel, meeting, creation, spawning, goes_ahead, act_move, branch_move, ahead}
use Rattle.rules.specs.declared.Direction.{Direction}
use Rattle.rules.specs.declared.Direction.TheVariants.{Out, In}
use Rattle.rules.specs.declared.Act.{Act}
use Rattle.rules.specs.declared.Act.TheVariants.{Tau, Meeting, New, Spawn, Assignment}
use Rattle.rules_laws.specs.Granted.{Granted}
use Rattle.rules_laws.specs.Reading.Laws.{ready_used, holds_elim}
use Rattle.rules_laws.specs.Soundness.{RowSound, Orderly}
use Rattle.rules_laws.specs.Chosen.{channel_by, nobody_answers}
use Rattle.rules_laws.specs.Meetings.{meets_by}
use Rattle.engine_laws.specs.Channels.{on_held}
use Rattle.published.specs.Syntax.{Process, choice, Sum, branch, and_wait, waits}
use Rattle.published.specs.Agents as Agents
use Rattle.published.specs.Agents.{◌∈◌, look, Commitment, Thread, Channels, Agent, agent}
use Rattle.published.specs.Rules.{next, out, inn, more, last, skip}
use Rattle.published.specs.Fired.{Rule, by_passing, Fired, fired, behind, behind_one, behind_more, Labels, ours_fire, firing, Ends, ActsBy, RunBy, run_past}
use Rattle.published_laws.specs.Readable.{Readable}
use Rattle.published_laws.specs.Standing.{guard_of, prefix_of, sum_before, process_at, body_of, for_numbers, env_of, committed, commitments_from, thread_of, threads_of, OurRules}
use Rattle.published_laws.specs.Unrolled.{wait_behind, one_more_wait}
use Rattle.published_laws.specs.Environments.{channel_value, look_filled, guard_same}
use Rattle.published_laws.specs.Products.{Bench, row_of}
use Rattle.published_laws.specs.Commitments.{pledge}
use Rattle.published_laws.proofs.Commitments.{pledge_offers}

-- ---- a branch that does not go ahead

module _ (tb : Table) (s : State) (t : ℕ) where
  -- no other thread offers d on channel c
  abbrev pub Unanswered : Direction → ℕ → Type 0
  Unanswered d c = (u : ℕ) → u < max_threads → u ≢ t → offers tb (thread s u) d c ≡ false

  -- branch i is passed over: its guard is false, or it is a meeting that nobody answers
  pub data Passed (i : ℕ) : Type 0 where
    closed : guard_holds tb (branch_at tb (stands_at (thread s t)) i) (thread s t) ≡ false → Passed i
    unmet : (d : Direction) → guard_holds tb (branch_at tb (stands_at (thread s t)) i) (thread s t) ≡ true
        → act_of tb (branch_at tb (stands_at (thread s t)) i) ≡ Meeting d → Unanswered (opposite d) (channel_by tb s t i) → Passed i

  meeting_waits : (i : ℕ) (p : Partner) → goes_ahead (meeting i p) ≡ false → p ≡ None
  unfolding meeting goes_ahead
  meeting_waits i None e = refl
  meeting_waits i (Some (u, j)) e = contra refl e

  act_waits : (i : ℕ) (a : Act) → goes_ahead (act_move tb s t i a) ≡ false
      → (d : Direction) × (a ≡ Meeting d) × (partner_of tb s t (opposite d) (channel_by tb s t i) ≡ None)
  unfolding act_move goes_ahead creation spawning
  act_waits i Tau e = contra refl e
  act_waits i (Meeting d) e = (d, refl, meeting_waits i (partner_of tb s t (opposite d) (channel_by tb s t i)) e)
  act_waits i New e = case_b (ltb (free_channel s) max_channels) (λ y. contra refl (rw y at e)) (λ y. contra refl (rw y at e))
  act_waits i Spawn e = case_b (ltb (free_thread s) max_threads) (λ y. contra refl (rw y at e)) (λ y. contra refl (rw y at e))
  act_waits i Assignment e = contra refl e

  pub passed : (i : ℕ) → ahead tb s t i ≡ false → Passed i
  unfolding ahead branch_move
  passed i e =
      let r = branch_at tb (stands_at (thread s t)) i in
      case_b (guard_holds tb r (thread s t))
      (λ y. let (d, q, p) = act_waits i (act_of tb r) (rw y at e) in unmet d y q (nobody_answers tb s t (opposite d) (channel_by tb s t i) p))
      (λ y. closed y)

module _ (tb : Table) (g : Granted tb) (rd : Readable tb) (s : State) (o : Orderly tb s) (t : ℕ) (l : t < max_threads) (ready : is_ready (thread s t) ≡ true)
    (b : Thread) (bn : Bench tb b) where
  -- the bench and the threads but t
  unfoldable pub others : List Thread
  others = b ∷ threads_of tb (set s.threads t free_row)

  used : in_use (thread s t) ≡ true
  used = ready_used (thread s t) ready

  sound : RowSound tb (type_in s) (thread s t)
  sound = o.row t l

  -- a commitment of one of them is an offer
  rows_silent : (d : Direction) (c : ℕ) → c < max_channels → Unanswered tb s t d c → (x : Thread) → x ∈ threads_of tb (set s.threads t free_row)
      → (v : ℕ) (S : Process) → pledge d c v S ∈ x.commitments → ⊥
  rows_silent d c m f x i v S k =
      let rows = s.threads in
      let (u, b, y, q) = row_of tb x (set rows t free_row) i in
      let k' : pledge d c v S ∈ (thread_of tb (get_or (set rows t free_row) u [])).commitments = rw q at k in
      let in_rows : u < max_threads = omega (arith, length-set rows t free_row, o.shaped.all_threads) in
      case_b (eqb u t)
      (λ z. let e : u ≡ t = eqb-true u t z in
      let w : get_or (set rows t free_row) u [] ≡ free_row = rw e (get_or-set_same rows t free_row [] (rw o.shaped.all_threads l)) in
      contra (rw w at y) refl)
      (λ z. let e : u ≢ t = eqb-false u t z in
      let w : get_or (set rows t free_row) u [] ≡ thread s u = get_or-set_other rows t u free_row [] e in
      contra (pledge_offers tb (thread s u) d c v S (rw w at k') m) (f u in_rows e))

  pub others_silent : (d : Direction) (c : ℕ) → c < max_channels → Unanswered tb s t d c → (x : Thread) → x ∈ others → (v : ℕ) (S : Process)
      → pledge d c v S ∈ x.commitments → ⊥
  unfolding others
  others_silent d c m f x (inl q) v S k = absurd (let h : pledge d c v S ∈ [] = rw (q, bn.uncommitted) at k in h)
  others_silent d c m f x (inr i) v S k = rows_silent d c m f x i v S k

  -- branch i with the sum q behind it
  unfoldable pub tip : ℕ → Sum → Sum
  tip i q =
      branch (guard_of tb (branch_at tb (stands_at (thread s t)) i))
      (prefix_of tb (process_at tb (child_of tb (stands_at (thread s t)) (branch_at tb (stands_at (thread s t)) i))) (branch_at tb (stands_at (thread s t)) i)
      (act_of tb (branch_at tb (stands_at (thread s t)) i)))
      (process_at tb (next_of tb (stands_at (thread s t)) (branch_at tb (stands_at (thread s t)) i))) q

  -- the thread with commitments Γ, in the midst of its choice
  abbrev pub midway : List Commitment → Sum → Thread
  midway Γ q = Agents.thread Γ (env_of tb (thread s t)) (choice q)

  pub guard_is : (i : ℕ) → i < branch_count tb (stands_at (thread s t))
      → Agents.holds (env_of tb (thread s t)) (guard_of tb (branch_at tb (stands_at (thread s t)) i))
      ≡ guard_holds tb (branch_at tb (stands_at (thread s t)) i) (thread s t)
  guard_is i m = guard_same tb g rd (type_in s) (thread s t) sound used i m

  -- ---- the channel of a meeting

  module _ (i : ℕ) (m : i < branch_count tb (stands_at (thread s t))) (d : Direction) (e : act_of tb (branch_at tb (stands_at (thread s t)) i) ≡ Meeting d) where
    pub channel_in : channel_by tb s t i < max_channels
    channel_in = (holds_elim tb (thread s t) (channel_by tb s t i) (on_held tb g (type_in s) (thread s t) sound used i m d e)).channel_in

    pub channel_is : look (env_of tb (thread s t)) (field_a tb (branch_at tb (stands_at (thread s t)) i)) ≡ Some (Agents.channel (channel_by tb s t i))
    channel_is =
        let a = field_a tb (branch_at tb (stands_at (thread s t)) i) in
        let x = meets_by tb g (type_in s) (thread s t) sound used i m d e in
        look_filled tb g rd (type_in s) (thread s t) sound used a x.on_slot
        ∙ channel_value (slot_type tb (definition_of tb (stands_at (thread s t))) a) (channel_by tb s t i) x.on_channel channel_in

  -- ---- beside threads that are all among the others
  module _ (More : Agent → Agent → Type 0) (own : Labels More) (B : List Thread) (among : (x : Thread) → x ∈ B → x ∈ others) (Δ : Channels) where
    -- (out) or (in)
    commit : (i : ℕ) → i < branch_count tb (stands_at (thread s t)) → (d : Direction) → guard_holds tb (branch_at tb (stands_at (thread s t)) i) (thread s t) ≡ true
        → act_of tb (branch_at tb (stands_at (thread s t)) i) ≡ Meeting d → Unanswered tb s t (opposite d) (channel_by tb s t i) → (Γ : List Commitment) (q : Sum)
        → ActsBy (body_of tb) More own (fired 0 by_passing) (agent Δ (midway Γ (tip i q) ∷ B))
        (agent Δ (midway (Γ ++ committed tb (thread s t) (branch_at tb (stands_at (thread s t)) i) (act_of tb (branch_at tb (stands_at (thread s t)) i)))
        (and_wait q) ∷ B))
    unfolding tip prefix_of committed opposite pledge firing
    commit i m Out y e f Γ q =
        let c = channel_in i m Out e in
        rw e (out (channel_by tb s t i) (guard_is i m ∙ y) (channel_is i m Out e) (λ x k z S h. others_silent In (channel_by tb s t i) c f x (among x k) z S h), refl)
    commit i m In y e f Γ q =
        let c = channel_in i m In e in
        rw e (inn (channel_by tb s t i) (guard_is i m ∙ y) (channel_is i m In e) (λ x k z S h. others_silent Out (channel_by tb s t i) c f x (among x k) z S h), refl)

    -- ---- as far as a branch that goes ahead

    -- to the agent with D and h ∷ C: by one reduction, which is f, or by a branch that is passed over and a run behind it, which ends with f
    abbrev pub Leads : Channels → Thread → List Thread → Fired → List Commitment → Sum → Type 0
    Leads D h C f Γ q =
        ActsBy (body_of tb) More own f (agent Δ (midway Γ q ∷ B)) (agent D (h ∷ C))
        ⊎ ((x : Thread) × (i : ℕ) × (e : Fired) × ActsBy (body_of tb) More own (fired i by_passing) (agent Δ (midway Γ q ∷ B)) (agent Δ (x ∷ B))
        × RunBy (body_of tb) More own e (agent Δ (x ∷ B)) (agent D (h ∷ C)) × (f ≡ behind (suc i) e))

    pub leads_run : (D : Channels) (h : Thread) (C : List Thread) (f : Fired) (Γ : List Commitment) (q : Sum) → Leads D h C f Γ q
        → RunBy (body_of tb) More own f (agent Δ (midway Γ q ∷ B)) (agent D (h ∷ C))
    unfolding Ends
    leads_run D h C f Γ q (inl (r, y)) = (last r, y)
    leads_run D h C f Γ q (inr (x, i, e, r, w, v)) = rw v (run_past (body_of tb) More own i e r w)

    module _ (D : Channels) (h : Thread) (C : List Thread) where
      -- past branch i, where the branches behind it lead there
      pass_by : (i : ℕ) → Passed tb s t i → i < branch_count tb (stands_at (thread s t)) → (Γ : List Commitment) (q : Sum) (m : ℕ)
          → (e : Fired) → ((Γ : List Commitment) (q : Sum) → Leads D h C e Γ (sum_before tb (process_at tb) q (stands_at (thread s t)) (suc i) m))
          → Leads D h C (behind 1 e) Γ (tip i (sum_before tb (process_at tb) q (stands_at (thread s t)) (suc i) m))
      unfolding tip firing
      pass_by i (closed y) n Γ q m o f =
          ⊎_elim (λ (r, p). inl (next (guard_is i n ∙ y) r, ap (behind 1) p))
          (λ (x, j, e, (r, p), w, v). inr (x, suc j, e, (next (guard_is i n ∙ y) r, ap (behind 1) p ∙ behind_one j by_passing), w, ap (behind 1) v ∙ behind_more (suc j) e))
          (f Γ q)
      pass_by i (unmet d y e z) n Γ q m o f =
          let Q = sum_before tb (process_at tb) q (stands_at (thread s t)) (suc i) m in
          let Γ' = Γ ++ committed tb (thread s t) (branch_at tb (stands_at (thread s t)) i) (act_of tb (branch_at tb (stands_at (thread s t)) i)) in
          let Q' = sum_before tb (process_at tb) (and_wait q) (stands_at (thread s t)) (suc i) m in
          let v = wait_behind tb (process_at tb) q (stands_at (thread s t)) (suc i) m in
          let w : RunBy (body_of tb) More own o (agent Δ (midway Γ' (and_wait Q) ∷ B)) (agent D (h ∷ C)) = rw v (leads_run D h C o Γ' Q' (f Γ' (and_wait q))) in
          inr (midway Γ' (and_wait Q), 0, o, commit i n d y e z Γ Q, w, refl)

      pub lead : (k : ℕ) → k < branch_count tb (stands_at (thread s t)) → ((j : ℕ) → j < k → Passed tb s t j)
          → (r : Rule) → ((Γ : List Commitment) (q : Sum) → Leads D h C (fired 0 r) Γ (tip k q))
          → (m j i : ℕ) → j < m → k ≡ i + j → (Γ : List Commitment) (q : Sum)
          → Leads D h C (fired j r) Γ (sum_before tb (process_at tb) q (stands_at (thread s t)) i m)
      unfolding sum_before tip
      lead k b p r act zero j i z e Γ q = absurd (omega arith)
      lead k b p r act (suc m) zero i z e Γ q =
          let w : k ≡ i = omega arith in rw w at (act Γ (sum_before tb (process_at tb) q (stands_at (thread s t)) (suc i) m))
      lead k b p r act (suc m) (suc j) i z e Γ q =
          rw (← behind_one j r) (pass_by i (p i (omega arith)) (omega arith) Γ q m (fired j r) (λ Γ' q'. lead k b p r act m j (suc i) (omega arith) (omega arith) Γ' q'))

  -- ---- where none goes ahead; the rule skip is there if some guard is false
  module _ (More : Agent → Agent → Type 0) (own : Labels More)
      (skips : (i : ℕ) → i < branch_count tb (stands_at (thread s t)) → guard_holds tb (branch_at tb (stands_at (thread s t)) i) (thread s t) ≡ false
      → (A C : Agent) (x : OurRules tb A C) → (y : More A C) × (own A C y ≡ ours_fire (body_of tb) (for_numbers tb) A C x))
      (B : List Thread) (among : (x : Thread) → x ∈ B → x ∈ others) (Δ : Channels) where
    -- what branch i leaves
    unfoldable pub left_by_lem : ℕ → List Commitment
    left_by_lem i =
        cond (guard_holds tb (branch_at tb (stands_at (thread s t)) i) (thread s t))
        (committed tb (thread s t) (branch_at tb (stands_at (thread s t)) i) (act_of tb (branch_at tb (stands_at (thread s t)) i))) []

    pub pass_one : (i : ℕ) → i < branch_count tb (stands_at (thread s t)) → Passed tb s t i → (Γ : List Commitment) (q : Sum)
        → ActsBy (body_of tb) More own (fired 0 by_passing) (agent Δ (midway Γ (tip i q) ∷ B)) (agent Δ (midway (Γ ++ left_by_lem i) (and_wait q) ∷ B))
    unfolding left_by_lem tip firing ours_fire
    pass_one i m (closed y) Γ q = rw (y, append-nil Γ) (let (x, e) = skips i m y _ _ (skip (guard_is i m ∙ y)) in (more x, e))
    pass_one i m (unmet d y e f) Γ q = rw y (commit More own B among Δ i m d y e f Γ q)

    -- branch i, and then the branches behind it, one and m more
    pass_first : (m i : ℕ) → i < branch_count tb (stands_at (thread s t)) → Passed tb s t i → (Γ : List Commitment)
        → RunBy (body_of tb) More own (fired m by_passing)
        (agent Δ (midway (Γ ++ left_by_lem i) (sum_before tb (process_at tb) (waits (suc i)) (stands_at (thread s t)) (suc i) (suc m)) ∷ B))
        (agent Δ (midway ((Γ ++ left_by_lem i) ++ commitments_from tb (thread s t) (suc i) (suc m)) (waits (suc i + suc m)) ∷ B))
        → RunBy (body_of tb) More own (fired (suc m) by_passing)
        (agent Δ (midway Γ (tip i (sum_before tb (process_at tb) (waits i) (stands_at (thread s t)) (suc i) (suc m))) ∷ B))
        (agent Δ (midway (Γ ++ (left_by_lem i ++ commitments_from tb (thread s t) (suc i) (suc m))) (waits (i + suc (suc m))) ∷ B))
    pass_first m i l p Γ h =
        let n = stands_at (thread s t) in
        let v = wait_behind tb (process_at tb) (waits i) n (suc i) (suc m) in
        let z : i + suc (suc m) ≡ suc i + suc m = omega arith in
        let Q = sum_before tb (process_at tb) (waits i) n (suc i) (suc m) in
        let h' : RunBy (body_of tb) More own (fired m by_passing) (agent Δ (midway (Γ ++ left_by_lem i) (and_wait Q) ∷ B))
        (agent Δ (midway (Γ ++ (left_by_lem i ++ commitments_from tb (thread s t) (suc i) (suc m))) (waits (i + suc (suc m))) ∷ B)) =
        rw (v, one_more_wait i, z, ← append_assoc Γ (left_by_lem i) (commitments_from tb (thread s t) (suc i) (suc m))) h in
        rw (← behind_one m by_passing) (run_past (body_of tb) More own 0 (fired m by_passing) (pass_one i l p Γ Q) h')

    -- the branches from i on, one and m more
    pub pass_all : (m i : ℕ) → i + suc m ≡ branch_count tb (stands_at (thread s t))
        → ((j : ℕ) → j < branch_count tb (stands_at (thread s t)) → Passed tb s t j) → (Γ : List Commitment)
        → RunBy (body_of tb) More own (fired m by_passing) (agent Δ (midway Γ (sum_before tb (process_at tb) (waits i) (stands_at (thread s t)) i (suc m)) ∷ B))
        (agent Δ (midway (Γ ++ commitments_from tb (thread s t) i (suc m)) (waits (i + suc m)) ∷ B))
    unfolding sum_before commitments_from left_by_lem tip Ends
    pass_all zero i e p Γ =
        let z : i + 1 ≡ suc i = omega arith in
        let r = pass_one i (omega arith) (p i (omega arith)) Γ (waits i) in
        let (a, f) = rw (one_more_wait i) at r in
        rw (z, append-nil (left_by_lem i)) (last a, f)
    pass_all (suc m) i e p Γ = pass_first m i (omega arith) (p i (omega arith)) Γ (pass_all m (suc i) (omega arith) p (Γ ++ left_by_lem i))
