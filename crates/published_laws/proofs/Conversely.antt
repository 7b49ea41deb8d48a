-- The other direction of the refinement: every whole turn of a ready thread by 002's rules ends as the engine's step of that thread does, up to what 002 leaves
-- open. Assumes nothing but what the table grants.
use Rattle.rules.specs.Answers.{Partner}
use Prim.Native.Nat.{ℕ, zero, suc, ◌+◌, ◌-◌, ◌<◌}
use Rattle.std.proofs.Common.{arith, ◌∙◌, inl, inr}
use Rattle.std.specs.Prelude.{◌≡◌, refl, ◌⊎◌, ◌≢◌, true, ltb, eqb, set, None, Some}
use Rattle.std.proofs.Math.Path.{sym, ap}
use Rattle.std.proofs.Math.Logic.{⊎_elim}
use Rattle.std.proofs.Math.Bool.{false}
use mathlib.Core.List.{List, [], ◌∷◌, map}
use Rattle.numbers.specs.Search.{first}
use Rattle.numbers.specs.Search.Laws.{case_b, first_below}
use Rattle.table.specs.Table.{Table}
use Rattle.table.specs.Layout.{branch_count}
use Rattle.state.specs.State.{State, max_threads, max_channels, thread, stands_at, in_use, is_ready, type_in, with_mark, with_thread, with_channel}
use Rattle.rules.specs.Program.{kind_of, callee, branch_at, next_of, child_of, field_a, field_b, act_of, guard_holds, opposite}
use Rattle.rules.specs.Start.{free_row}
use Rattle.rules.specs.Offers.{partner_of}
use Rattle.rules.specs.Moves.{free_thread, free_channel, meeting, creation, spawning, act_move, branch_move, ahead, choice, move, waiting_row, typed, gone_by, created_by, value_by, spawned_by, written, perform}
use Rattle.rules.specs.declared.Direction.{Direction}
use Rattle.rules.specs.declared.Direction.TheVariants.{Out, In}
use Rattle.rules.specs.declared.Act.{Act}
use Rattle.rules.specs.declared.Act.TheVariants.{Tau, Meeting, New, Spawn, Assignment}
use Rattle.rules.specs.declared.Move.{Move}
use Rattle.rules.specs.declared.Move.TheVariants.{Ends, Calls, Waits, Goes, Creates, Spawns, Meets, LacksThread, LacksChannel}
use Rattle.rules_laws.specs.Granted.{Granted}
use Rattle.rules_laws.specs.Reading.Laws.{ready_used, waiting_used}
use Rattle.rules_laws.specs.Soundness.{RowSound, Orderly, Sound}
use Rattle.rules_laws.specs.ThreadRow.{waiting_waits}
use Rattle.rules_laws.specs.Onward.{gone_by_ready, created_by_ready}
use Rattle.rules_laws.specs.Chosen.{channel_by, Open, Answering, Blocked, Creating, Spawning, Chosen, chosen}
use Rattle.rules_laws.specs.Kept.{written_orderly}
use Rattle.published.specs.Syntax as Syntax
use Rattle.published.specs.Syntax.{Process, Sum, nothing, Prefix, waits}
use Rattle.published.specs.Agents as Agents
use Rattle.published.specs.Agents.{◌∈◌, Value, look, bind, holds, Commitment, Thread, Channels, Agent, agent}
use Rattle.published.specs.Rules.{Rearranged, same_first, twice, Many, Reclaims, Nothing}
use Rattle.published.specs.ProductLaws.{in_rearranged, turned_back}
use Rattle.published.specs.Fired.{nothing_fires}
use Rattle.published.specs.Orders.{cancelled}
use Rattle.published.specs.Choices.{Sends, Receives, ByAction, ByCommitment, ByProcess, Of, InProcess}
use Rattle.published.proofs.Choices.{same_channel}
use Rattle.published.specs.Whole.{Whole, WholeTurn, Is, Unmet, ByBranch, branches, UpTo, same_end, same_branch, other_waits, from_zero}
use Rattle.published.proofs.Whole.{whole_of}
use Rattle.published.specs.Sole.{Sole}
use Rattle.published.proofs.Sole.{gives_once, takes_once}
use Rattle.published_laws.specs.Readable.{Readable}
use Rattle.published_laws.specs.Standing.{prefix_of, sum_before, process_at, body_of, for_numbers, env_of, commitments_from, waiting_thread, ready_thread, thread_of, threads_of, channels_of, agent_of}
use Rattle.published_laws.specs.Products.{Bench, ready_thread_lem}
use Rattle.published_laws.proofs.Reclaims.{counted_anew}
use Rattle.published_laws.specs.Commitments.{pledge}
use Rattle.published_laws.proofs.Passing.{Passed, closed, unmet, passed, others, channel_is}
use Rattle.published_laws.specs.Afterwards.{tau_thread, created_thread, next_thread, child_thread, gave_thread, received_thread}
use Rattle.published_laws.proofs.Alone.{own_first, new_first, at_choice, at_call, at_end, wait_thread, channels_with}
use Rattle.published_laws.proofs.Calling.{after, values, evaluated, entered_zeros, after_thread, after_used, as_given}
use Rattle.published_laws.proofs.Together.{met_commits, given_value, family_first, mate_second, both_first}
use Rattle.published_laws.specs.Stepping.{Allowed, Plain}
use Rattle.published_laws.proofs.PassedOver.{next_by, comes_so, acts_by, none_acts, rests, ahead_of}
use Rattle.published_laws.specs.Conversely as Conversely
use Rattle.published_laws.specs.Conversely.{Settled}

-- ---- the branches before the one that the engine takes

module _ (tb : Table) (s : State) (t : ℕ) where
  -- none of them goes ahead
  unfoldable pub Before : Move → Type 0
  Before Ends = Unit {0}
  Before Calls = Unit {0}
  Before Waits = Unit {0}
  Before (Goes i) = (j : ℕ) → j < i → Passed tb s t j
  Before (Creates i c) = (j : ℕ) → j < i → Passed tb s t j
  Before (Spawns i u) = (j : ℕ) → j < i → Passed tb s t j
  Before (Meets i u k) = (j : ℕ) → j < i → Passed tb s t j
  Before LacksThread = Unit {0}
  Before LacksChannel = Unit {0}

  before_meeting : (i : ℕ) (p : Partner) → ((j : ℕ) → j < i → Passed tb s t j) → Before (meeting i p)
  unfolding Before meeting
  before_meeting i None h = tt
  before_meeting i (Some (u, j)) h = h

  before_act : (i : ℕ) (a : Act) → ((j : ℕ) → j < i → Passed tb s t j) → Before (act_move tb s t i a)
  unfolding Before act_move creation spawning
  before_act i Tau h = h
  before_act i (Meeting d) h = before_meeting i (partner_of tb s t (opposite d) (channel_by tb s t i)) h
  before_act i New h = case_b (ltb (free_channel s) max_channels) (λ y. rw y h) (λ y. rw y tt)
  before_act i Spawn h = case_b (ltb (free_thread s) max_threads) (λ y. rw y h) (λ y. rw y tt)
  before_act i Assignment h = h

  before_branch : (i : ℕ) → ((j : ℕ) → j < i → Passed tb s t j) → Before (branch_move tb s t i)
  unfolding Before branch_move
  before_branch i h =
      let r = branch_at tb (stands_at (thread s t)) i in
      case_b (guard_holds tb r (thread s t)) (λ y. rw y (before_act i (act_of tb r) h)) (λ y. rw y tt)

  before_choice : Before (choice tb s t)
  unfolding Before choice
  before_choice =
      let n = branch_count tb (stands_at (thread s t)) in
      let k = first (ahead tb s t) n in
      case_b (ltb k n) (λ y. rw y (before_branch k (λ j i. passed tb s t j (first_below (ahead tb s t) n j i)))) (λ y. rw y tt)

  pub before : Before (move tb s t)
  unfolding Before move
  before =
      let kind = kind_of tb (stands_at (thread s t)) in
      case_b (eqb kind 1) (λ y. rw y before_choice) (λ y. rw y (case_b (eqb kind 2) (λ x. rw x tt) (λ x. rw x tt)))

  -- where the engine waits, no branch goes ahead
  pub all_passed : Blocked tb s t → (i : ℕ) → i < branch_count tb (stands_at (thread s t)) → Passed tb s t i
  all_passed w i m =
      case_b (guard_holds tb (branch_at tb (stands_at (thread s t)) i) (thread s t))
      (λ y. let (d, e) = w.meeting_only i m y in
      unmet d y e (w.unanswered i d (record { at_choice = w.at_choice; branch_in = m; passes = y; does = e })))
      (λ y. closed y)

-- ---- the ends

branch_number_lem : (tb : Table) (q : Sum) (n i m : ℕ) → branches (sum_before tb (process_at tb) q n i m) ≡ m + branches q
unfolding branches sum_before
branch_number_lem tb q n i zero = omega arith
branch_number_lem tb q n i (suc m) = omega (arith, branch_number_lem tb q n (suc i) m)

module _ (tb : Table) (g : Granted tb) (rd : Readable tb) (s : State) (o : Orderly tb s) (t : ℕ) (l : t < max_threads) (ready : is_ready (thread s t) ≡ true)
    (b : Thread) (bn : Bench tb b) (T : Agent) (h : WholeTurn (body_of tb) (agent_of tb b s) (ready_thread tb (thread s t)) T) where
  abbrev rest : List Thread
  rest = others tb g rd s o t l ready b bn

  used : in_use (thread s t) ≡ true
  used = ready_used (thread s t) ready

  sound : RowSound tb (type_in s) (thread s t)
  sound = o.row t l

  -- from the agent of the state before to that of what the move writes
  abbrev EndsLike : Move → Type 0
  EndsLike m = UpTo (body_of tb) (for_numbers tb) (agent_of tb b s) (ready_thread tb (thread s t)) T (agent_of tb b (written tb s t m))

  -- the end is the agent of what the move writes, the threads in some order
  abbrev EndsSo : Move → Type 0
  EndsSo m = Conversely.EndsSo tb b s t T m

  as_like : (m : Move) → EndsSo m → EndsLike m
  as_like m e = same_end e

  -- the threads beside it are those of the state
  beside : (C : List Thread) → Rearranged (agent_of tb b s).threads (ready_thread tb (thread s t) ∷ C) → Rearranged (others tb g rd s o t l ready b bn) C
  unfolding agent_of
  beside C p = cancelled (ready_thread tb (thread s t)) rest C (twice (turned_back (own_first tb g rd s o t l ready b bn)) p)

  same_others : Rearranged (others tb g rd s o t l ready b bn) h.others
  same_others = beside h.others h.brought

  among : (x : Thread) → x ∈ h.others → x ∈ others tb g rd s o t l ready b bn
  among x i = in_rearranged x same_others i

  turn : Whole (body_of tb) (agent (channels_of s) (ready_thread tb (thread s t) ∷ h.others)) (agent T.channels h.product)
  unfolding agent_of
  turn = h.whole

  is_end : (D : Channels) (P : List Thread) → agent T.channels h.product ≡ agent D P → Is T D P
  is_end D P q =
      let e : h.product ≡ P = ap (λ (X : Agent). X.threads) q in
      (ap (λ (X : Agent). X.channels) q, rw e at h.put_back)

  -- the engine writes the row of the thread alone
  own_row : (row : List ℕ) → in_use row ≡ true → (x : Thread) → thread_of tb row ≡ x → Rearranged (x ∷ h.others) (b ∷ threads_of tb (set s.threads t row))
  own_row row u x e = turned_back (twice (new_first tb g rd s o t l ready b bn row u) (rw e (same_first same_others)))

  -- (inert)
  ends_so : kind_of tb (stands_at (thread s t)) ≢ 1 → kind_of tb (stands_at (thread s t)) ≢ 2 → EndsSo Ends
  unfolding Of ByProcess agent_of written with_thread channels_of others
  ends_so m n =
      ⊎_elim (λ q. let (c, p) = is_end (channels_of s) h.others q in (c, twice same_others p)) (λ (U, x, y). absurd x)
      (whole_of (body_of tb) (rw (at_end tb g rd s o t l ready b bn m n) at turn))

  -- (call)
  module _ (kind : kind_of tb (stands_at (thread s t)) ≡ 2) where
    abbrev called : List ℕ
    called = after tb g rd s o t l ready b bn kind

    abbrev ws : List Value
    ws = values tb g rd s o t l ready b bn kind

    by_call : Is T (channels_of s) (Agents.thread [] (map Some ws) (body_of tb (callee tb (stands_at (thread s t)))) ∷ h.others)
    unfolding Of ByProcess
    by_call =
        ⊎_elim
        (λ (vs, e, q). let z : map Some vs ≡ map Some ws = sym e ∙ evaluated tb g rd s o t l ready b bn kind in is_end _ _ (rw z at q))
        (λ (U, x, y). absurd x)
        (whole_of (body_of tb) (rw (at_call tb g rd s o t l ready b bn kind) at turn))

    called_first : Rearranged (Agents.thread [] (env_of tb called) (body_of tb (callee tb (stands_at (thread s t)))) ∷ h.others)
        (b ∷ threads_of tb (set s.threads t called))
    called_first = own_row called (after_used tb g rd s o t l ready b bn kind) _ (after_thread tb g rd s o t l ready b bn kind)

    calls_like : EndsLike Calls
    unfolding agent_of written with_thread channels_of ready_thread
    calls_like =
        from_zero h.others (callee tb (stands_at (thread s t))) _ ws (env_of tb called) h.brought
        (ap (λ (x : Thread). x.process) (at_call tb g rd s o t l ready b bn kind))
        (evaluated tb g rd s o t l ready b bn kind) (entered_zeros tb g rd s o t l ready b bn kind) by_call (refl, called_first)

    -- without numbers besides the parameters
    calls_so : Plain tb (thread s t) Calls → EndsSo Calls
    unfolding Plain agent_of written with_thread channels_of
    calls_so z =
        let (c, p) = by_call in
        (c, twice (turned_back (rw (as_given tb g rd s o t l ready b bn kind z) at called_first)) p)

  -- ---- at a choice

  module _ (kind : kind_of tb (stands_at (thread s t)) ≡ 1) where
    -- (out) and (in) to the last branch
    module _ (n : ℕ) (c : branch_count tb (stands_at (thread s t)) ≡ suc n)
        (all : (j : ℕ) → j < branch_count tb (stands_at (thread s t)) → Passed tb s t j) where
      abbrev resting : ℕ → Thread
      resting w = Agents.thread (commitments_from tb (thread s t) 0 (suc n)) (env_of tb (thread s t)) (Syntax.choice (waits (suc w)))

      by_waits : (w : ℕ) × Is T (channels_of s) (resting w ∷ h.others) × (Plain tb (thread s t) Waits → w ≡ n)
      unfolding Plain waits
      by_waits =
          let w = rw (at_choice tb g rd s o t l ready b bn kind, c) at turn in
          let a = ahead_of tb g rd s o t l ready b bn h.others among [] _ (agent T.channels h.product) w in
          let (w', q, f) = rests tb g rd s o t l ready b bn h.others among all n 0 (omega (arith, c)) [] 0 (agent T.channels h.product) a in
          (w', is_end (channels_of s) (resting w' ∷ h.others) q, λ z. let e = f z in omega arith)

      resting_first : Rearranged (resting n ∷ h.others) (b ∷ threads_of tb (set s.threads t (waiting_row (thread s t))))
      resting_first =
          let row = waiting_row (thread s t) in
          own_row row (waiting_used row (waiting_waits (thread s t))) _ (rw c at (wait_thread tb g rd s o t l ready b bn))

      none_goes : (α : Prefix) (P : Process) (X : Agent) → ByBranch (agent_of tb b s) (ready_thread tb (thread s t)) α P X → ⊥
      unfolding agent_of ready_thread InProcess
      none_goes α P X x =
          let it = rw (ap (λ (y : Thread). y.process) (at_choice tb g rd s o t l ready b bn kind)) at x.comes_to in
          none_acts tb g rd s o t l ready b bn x.others (λ y i. in_rearranged y (beside x.others x.brought) i) all _
          (branch_count tb (stands_at (thread s t))) 0 (omega arith) α P (agent X.channels x.product) it x.action

      waits_like : EndsLike Waits
      unfolding agent_of written with_thread channels_of ready_thread branches
      waits_like =
          let (w, e, f) = by_waits in
          let Q = sum_before tb (process_at tb) nothing (stands_at (thread s t)) 0 (branch_count tb (stands_at (thread s t))) in
          let all_of_them : branches Q ≡ suc n = omega (arith, branch_number_lem tb nothing (stands_at (thread s t)) 0 (branch_count tb (stands_at (thread s t))), c) in
          other_waits h.others (commitments_from tb (thread s t) 0 (suc n)) Q w h.brought
          (ap (λ (x : Thread). x.process) (at_choice tb g rd s o t l ready b bn kind)) none_goes h e (refl, rw all_of_them resting_first)

      -- with no guard that is false
      waits_so : Plain tb (thread s t) Waits → EndsSo Waits
      unfolding agent_of written with_thread channels_of
      waits_so z =
          let (w, (d, p), f) = by_waits in
          let e : w ≡ n = f z in
          (d, twice (turned_back resting_first) (rw e at p))

    -- branch k is the first that goes ahead
    module _ (k : ℕ) (before_it : (j : ℕ) → j < k → Passed tb s t j) where
      -- the turn ends by its action, unless it could commit instead
      by_action : (a : Act) → Open tb s t k a
          → ((Γ : List Commitment) (Q : Sum) (U : Agent) → ByCommitment (channels_of s) Γ (env_of tb (thread s t)) h.others
          (prefix_of tb (process_at tb (child_of tb (stands_at (thread s t)) (branch_at tb (stands_at (thread s t)) k))) (branch_at tb (stands_at (thread s t)) k) a)
          (next_by tb g rd s o t l ready b bn k) Q U → ⊥)
          → ByAction (channels_of s) (env_of tb (thread s t)) h.others
          (prefix_of tb (process_at tb (child_of tb (stands_at (thread s t)) (branch_at tb (stands_at (thread s t)) k))) (branch_at tb (stands_at (thread s t)) k) a)
          (next_by tb g rd s o t l ready b bn k) (agent T.channels h.product)
      by_action a x f =
          let w = rw (at_choice tb g rd s o t l ready b bn kind) at turn in
          rw x.does at (acts_by tb g rd s o t l ready b bn h.others among k x.branch_in before_it x.passes
          (λ Γ Q U y. f Γ Q U (rw x.does at y)) (agent T.channels h.product) w)

      -- the turn is one by that branch
      abbrev ByIts : Act → Agent → Type 0
      ByIts a X =
          ByBranch (agent_of tb b s) (ready_thread tb (thread s t))
          (prefix_of tb (process_at tb (child_of tb (stands_at (thread s t)) (branch_at tb (stands_at (thread s t)) k))) (branch_at tb (stands_at (thread s t)) k) a)
          (next_by tb g rd s o t l ready b bn k) X

      comes_there : (a : Act) → Open tb s t k a → (B : List Thread) → ((x : Thread) → x ∈ B → x ∈ others tb g rd s o t l ready b bn)
          → InProcess (env_of tb (thread s t)) (λ g β. (holds (env_of tb (thread s t)) g ≡ false) ⊎ Unmet (env_of tb (thread s t)) B β)
          (ready_thread tb (thread s t)).process
          (prefix_of tb (process_at tb (child_of tb (stands_at (thread s t)) (branch_at tb (stands_at (thread s t)) k))) (branch_at tb (stands_at (thread s t)) k) a)
          (next_by tb g rd s o t l ready b bn k)
      comes_there a x B f =
          rw (at_choice tb g rd s o t l ready b bn kind)
          (rw x.does at (comes_so tb g rd s o t l ready b bn B f k x.branch_in before_it x.passes))

      its_turn : (a : Act) → Open tb s t k a
          → ((Γ : List Commitment) (Q : Sum) (U : Agent) → ByCommitment (channels_of s) Γ (env_of tb (thread s t)) h.others
          (prefix_of tb (process_at tb (child_of tb (stands_at (thread s t)) (branch_at tb (stands_at (thread s t)) k))) (branch_at tb (stands_at (thread s t)) k) a)
          (next_by tb g rd s o t l ready b bn k) Q U → ⊥)
          → ByIts a T
      unfolding agent_of ready_thread
      its_turn a x f = record {
        others = h.others;
        brought = h.brought;
        comes_to = comes_there a x h.others among;
        product = h.product;
        action = by_action a x f;
        put_back = h.put_back;
      }

      -- (step)
      tau_so : Open tb s t k Tau → EndsSo (Goes k)
      unfolding ByAction ByCommitment prefix_of agent_of written with_thread channels_of
      tau_so x =
          let row = thread s t in
          let (c, p) = is_end (channels_of s) _ (by_action Tau x (λ Γ Q U y. y)) in (
            c,
            twice (turned_back (own_row (gone_by tb row k) (ready_used (gone_by tb row k) (gone_by_ready tb row k)) _
                (tau_thread tb g (type_in s) row sound used k x.branch_in x.does))) p,
          )

      -- document 01's own: 002 has no rule for it
      assignment_so : Open tb s t k Assignment → EndsSo (Goes k)
      unfolding ByAction ByCommitment prefix_of
      assignment_so x = absurd (by_action Assignment x (λ Γ Q U y. y))

      -- (new)
      creation_like : (c : ℕ) → Creating tb s t k c → EndsLike (Creates k c)
      unfolding ByAction ByCommitment prefix_of agent_of written with_mark typed with_thread with_channel channels_of ready_thread
      creation_like c x =
          let row = thread s t in
          let free : channels_of s c ≡ false = rw x.untyped in
          same_branch _ _ (its_turn New x.takes (λ Γ Q U y. y)) (record {
            others = h.others;
            brought = h.brought;
            comes_to = comes_there New x.takes h.others among;
            product = Agents.thread [] (bind (env_of tb row) (field_a tb (branch_at tb (stands_at row) k)) (Agents.channel c)) (next_by tb g rd s o t l ready b bn k) ∷ h.others;
            action = (c, free, rw (channels_with tb g rd s o t l ready b bn Nothing nothing_fires k kind x.takes.branch_in before_it c x) refl);
            put_back = own_row (created_by tb row k c) (ready_used (created_by tb row k c) (created_by_ready tb row k c)) _
                (created_thread tb g (type_in s) row sound used k x.takes.branch_in x.takes.does c x.channel_in);
          })

      -- (spawn)
      spawn_so : (u : ℕ) → Spawning tb s t k u → EndsSo (Spawns k u)
      unfolding ByAction ByCommitment prefix_of agent_of written with_mark spawned_by with_thread channels_of
      spawn_so u x =
          let row = thread s t in
          let (c, p) = is_end (channels_of s) _ (by_action Spawn x.takes (λ Γ Q U y. y)) in
          let q = rw (
            next_thread tb g (type_in s) row sound used k x.takes.branch_in,
            child_thread tb g (type_in s) row sound used k x.takes.branch_in x.takes.does,
          ) at (family_first tb g rd s o t l ready b bn Nothing nothing_fires k kind x.takes.branch_in before_it u x) in
          (c, twice (twice q (same_first (same_first same_others))) p)

      -- (send) and (recv), where the engine's partner is thread u by its branch j
      module _ (u j : ℕ) (d : Direction) (x : Open tb s t k (Meeting d)) (a : Answering tb s t (opposite d) (channel_by tb s t k) u j) where
        mate_sound : RowSound tb (type_in s) (thread s u)
        mate_sound = o.row u a.thread_in

        mate_used : in_use (thread s u) ≡ true
        mate_used = waiting_used (thread s u) a.waits

        -- the threads but t and u
        abbrev apart : List Thread
        apart = b ∷ threads_of tb (set (set s.threads t free_row) u free_row)

        mate_next : Rearranged (others tb g rd s o t l ready b bn) (waiting_thread tb (thread s u) ∷ apart)
        mate_next = mate_second tb g rd s o t l ready b bn Nothing nothing_fires k kind x.branch_in before_it u j d x a

        mate_there : waiting_thread tb (thread s u) ∈ h.others
        mate_there =
            let m = waiting_thread tb (thread s u) in
            in_rearranged m (turned_back same_others) (in_rearranged m mate_next (inl refl))

        two_first : Rearranged (agent_of tb b s).threads (ready_thread tb (thread s t) ∷ (waiting_thread tb (thread s u) ∷ apart))
        unfolding agent_of
        two_first = twice (own_first tb g rd s o t l ready b bn) (same_first mate_next)

        -- the meeting in 002's words: the variable and the process of the partner's commitment
        abbrev slot' : ℕ
        slot' = field_b tb (branch_at tb (stands_at (thread s u)) j)

        abbrev next' : Process
        next' = process_at tb (next_of tb (stands_at (thread s u)) (branch_at tb (stands_at (thread s u)) j))

        same_as : (e : Direction) → act_of tb (branch_at tb (stands_at (thread s t)) k) ≡ Meeting e → (ĉ : ℕ)
            → look (env_of tb (thread s t)) (field_a tb (branch_at tb (stands_at (thread s t)) k)) ≡ Some (Agents.channel ĉ) → ĉ ≡ channel_by tb s t k
        same_as e does ĉ q =
            same_channel (env_of tb (thread s t)) (field_a tb (branch_at tb (stands_at (thread s t)) k)) ĉ (channel_by tb s t k) q
            (channel_is tb g rd s o t l ready b bn k x.branch_in e does)

        mate_among : (y : Thread) → y ∈ (waiting_thread tb (thread s u) ∷ apart) → y ∈ others tb g rd s o t l ready b bn
        mate_among y i = in_rearranged y mate_next i

        open_as : (e : Direction) → act_of tb (branch_at tb (stands_at (thread s t)) k) ≡ Meeting e → Open tb s t k (Meeting e)
        open_as e does = record { at_choice = kind; branch_in = x.branch_in; passes = x.passes; does = does }

        -- branch k gives
        module _ (does : act_of tb (branch_at tb (stands_at (thread s t)) k) ≡ Meeting Out) (does' : act_of tb (branch_at tb (stands_at (thread s u)) j) ≡ Meeting In)
            (dir : opposite d ≡ In) where
          mate_takes : Agents.takes (channel_by tb s t k) slot' next' ∈ (waiting_thread tb (thread s u)).commitments
          unfolding waiting_thread pledge
          mate_takes = rw dir at (met_commits tb s t u j (channel_by tb s t k) (opposite d) a)

          -- the turn, and the engine's
          gives_turn : ByIts (Meeting Out) T
          unfolding ByCommitment prefix_of
          gives_turn =
              its_turn (Meeting Out) (open_as Out does)
              (λ Γ Q U (ĉ, q, f, z). let c : ĉ ≡ channel_by tb s t k = same_as Out does ĉ q in
              f (waiting_thread tb (thread s u)) mate_there slot' next' (rw c mate_takes))

          gives_engine : ByIts (Meeting Out) (agent_of tb b (written tb s t (Meets k u j)))
          unfolding ByAction Sends prefix_of agent_of written with_thread channels_of ready_thread waiting_thread
          gives_engine =
              let (w, has, gets) = given_value tb g rd (type_in s) (thread s t) (thread s u) sound mate_sound used mate_used k j x.branch_in a.branch_in
              does does' (sym a.is) in
              let both = rw (
                gave_thread tb g (type_in s) (thread s t) sound used k x.branch_in does (value_by tb (thread s u) j),
                received_thread tb g (type_in s) (thread s u) mate_sound mate_used j a.branch_in does' (value_by tb (thread s t) k) w gets,
              ) at (both_first tb g rd s o t l ready b bn Nothing nothing_fires k kind x.branch_in before_it u j d x a) in
              record {
                others = waiting_thread tb (thread s u) ∷ apart;
                brought = two_first;
                comes_to = comes_there (Meeting Out) (open_as Out does) (waiting_thread tb (thread s u) ∷ apart) mate_among;
                product = _;
                action = (channel_by tb s t k, slot', next', w, channel_is tb g rd s o t l ready b bn k x.branch_in Out does, mate_takes, has, refl);
                put_back = turned_back both;
              }

        -- branch k receives
        module _ (does : act_of tb (branch_at tb (stands_at (thread s t)) k) ≡ Meeting In) (does' : act_of tb (branch_at tb (stands_at (thread s u)) j) ≡ Meeting Out)
            (dir : opposite d ≡ Out) where
          mate_gives : Agents.gives (channel_by tb s t k) slot' next' ∈ (waiting_thread tb (thread s u)).commitments
          unfolding waiting_thread pledge
          mate_gives = rw dir at (met_commits tb s t u j (channel_by tb s t k) (opposite d) a)

          receives_turn : ByIts (Meeting In) T
          unfolding ByCommitment prefix_of
          receives_turn =
              its_turn (Meeting In) (open_as In does)
              (λ Γ Q U (ĉ, q, f, z). let c : ĉ ≡ channel_by tb s t k = same_as In does ĉ q in
              f (waiting_thread tb (thread s u)) mate_there slot' next' (rw c mate_gives))

          receives_engine : ByIts (Meeting In) (agent_of tb b (written tb s t (Meets k u j)))
          unfolding ByAction Receives prefix_of agent_of written with_thread channels_of ready_thread waiting_thread
          receives_engine =
              let (w, has, gets) = given_value tb g rd (type_in s) (thread s u) (thread s t) mate_sound sound mate_used used j k a.branch_in x.branch_in
              does' does a.is in
              let both = rw (
                received_thread tb g (type_in s) (thread s t) sound used k x.branch_in does (value_by tb (thread s u) j) w gets,
                gave_thread tb g (type_in s) (thread s u) mate_sound mate_used j a.branch_in does' (value_by tb (thread s t) k),
              ) at (both_first tb g rd s o t l ready b bn Nothing nothing_fires k kind x.branch_in before_it u j d x a) in
              record {
                others = waiting_thread tb (thread s u) ∷ apart;
                brought = two_first;
                comes_to = comes_there (Meeting In) (open_as In does) (waiting_thread tb (thread s u) ∷ apart) mate_among;
                product = _;
                action = (channel_by tb s t k, slot', next', w, channel_is tb g rd s o t l ready b bn k x.branch_in In does, mate_gives, has, refl);
                put_back = turned_back both;
              }

        -- both are by branch k, and so up to whom is met; where there is one commitment on the channel they are the same
        meeting_by : (e : Direction) → e ≡ d → EndsLike (Meets k u j) × (Sole (agent_of tb b s).threads (channel_by tb s t k) → EndsSo (Meets k u j))
        unfolding opposite prefix_of ready_thread
        meeting_by Out z =
            let does = x.does ∙ ap Meeting (sym z) in
            let does' = a.does ∙ ap (λ y. Meeting (opposite y)) (sym z) in
            let one = gives_turn does does' (ap opposite (sym z)) in
            let other = gives_engine does does' (ap opposite (sym z)) in
            (same_branch _ _ one other, λ sole. gives_once _ _ _ _ _ _ _ (channel_is tb g rd s o t l ready b bn k x.branch_in Out does) sole _ one other)
        meeting_by In z =
            let does = x.does ∙ ap Meeting (sym z) in
            let does' = a.does ∙ ap (λ y. Meeting (opposite y)) (sym z) in
            let one = receives_turn does does' (ap opposite (sym z)) in
            let other = receives_engine does does' (ap opposite (sym z)) in
            (same_branch _ _ one other, λ sole. takes_once _ _ _ _ _ _ _ (channel_is tb g rd s o t l ready b bn k x.branch_in In does) sole _ one other)

  -- ---- by the move that the engine makes

  some_branch : kind_of tb (stands_at (thread s t)) ≡ 1 → branch_count tb (stands_at (thread s t)) ≡ suc (branch_count tb (stands_at (thread s t)) - 1)
  some_branch kind = let x = rd.some_branch (stands_at (thread s t)) (sound.node_in used) kind in omega arith

  settled_so : (m : Move) → Chosen tb s t m → Before tb s t m → Settled tb b s t m → EndsSo m
  unfolding Chosen Before Settled
  settled_so Ends (m, n) p z = ends_so m n
  settled_so Calls c p z = calls_so c z
  settled_so Waits c p z = waits_so c.at_choice _ (some_branch c.at_choice) (all_passed tb s t c) z
  settled_so (Goes i) (inl c) p z = tau_so c.at_choice i p c
  settled_so (Goes i) (inr c) p z = assignment_so c.at_choice i p c
  settled_so (Creates i k) c p z = absurd z
  settled_so (Spawns i u) c p z = spawn_so c.takes.at_choice i p u c
  settled_so (Meets i u j) c p z = (meeting_by c.takes.at_choice i p u j c.direction c.takes c.partner c.direction refl).1 z
  settled_so LacksThread c p z = absurd z
  settled_so LacksChannel c p z = absurd z

  ends_like : (m : Move) → Chosen tb s t m → Before tb s t m → Allowed m → EndsLike m
  unfolding Chosen Before Allowed Settled
  ends_like Ends c p z = as_like Ends (settled_so Ends c p tt)
  ends_like Calls c p z = calls_like c
  ends_like Waits c p z = waits_like c.at_choice _ (some_branch c.at_choice) (all_passed tb s t c)
  ends_like (Goes i) c p z = as_like (Goes i) (settled_so (Goes i) c p tt)
  ends_like (Creates i k) c p z = creation_like c.takes.at_choice i p k c
  ends_like (Spawns i u) c p z = as_like (Spawns i u) (settled_so (Spawns i u) c p tt)
  ends_like (Meets i u j) c p z = (meeting_by c.takes.at_choice i p u j c.direction c.takes c.partner c.direction refl).0
  ends_like LacksThread c p z = absurd z
  ends_like LacksChannel c p z = absurd z

module _ (tb : Table) (g : Granted tb) (rd : Readable tb) (s : State) (ok : Sound tb s) (t : ℕ) (l : t < max_threads) (ready : is_ready (thread s t) ≡ true)
    (b : Thread) (bn : Bench tb b) where
  -- From the agent of a sound state every whole turn of the ready thread t by 002's rules alone ends, up to what 002 leaves open, in the agent of what the
  -- engine's step of t writes. Of the partners that are left open the engine takes document 01's, the first by thread and then by branch (`Choosing.antt`:
  -- `lowest_partner`). A step for which a row is lacking is no reduction, so it is left aside
  pub turn_conversely : Allowed (move tb s t) → (T : Agent) → WholeTurn (body_of tb) (agent_of tb b s) (thread_of tb (thread s t)) T
      → UpTo (body_of tb) (for_numbers tb) (agent_of tb b s) (thread_of tb (thread s t)) T (agent_of tb b (written tb s t (move tb s t)))
  turn_conversely z T h =
      let e = ready_thread_lem tb (thread s t) ready in
      rw e (ends_like tb g rd s ok.orderly t l ready b bn T (rw e at h) (move tb s t) (chosen tb s t) (before tb s t) z)

  -- where 002 leaves nothing open it is that agent itself, its threads in some order
  pub turn_exactly : Settled tb b s t (move tb s t) → (T : Agent) → WholeTurn (body_of tb) (agent_of tb b s) (thread_of tb (thread s t)) T
      → Is T (agent_of tb b (written tb s t (move tb s t))).channels (agent_of tb b (written tb s t (move tb s t))).threads
  turn_exactly z T h =
      settled_so tb g rd s ok.orderly t l ready b bn T (rw (ready_thread_lem tb (thread s t) ready) at h) (move tb s t) (chosen tb s t) (before tb s t) z

  -- after that the step only reclaims
  reclaims_after : Many Reclaims (agent_of tb b (written tb s t (move tb s t))) (agent_of tb b (perform tb s t (move tb s t)))
  unfolding perform
  reclaims_after =
      counted_anew tb (written tb s t (move tb s t)) (written_orderly tb g s ok.orderly t l ready (move tb s t) (chosen tb s t)).shaped.all_channels b bn

  pub step_conversely : Allowed (move tb s t) → (T : Agent) → WholeTurn (body_of tb) (agent_of tb b s) (thread_of tb (thread s t)) T
      → (E : Agent) × UpTo (body_of tb) (for_numbers tb) (agent_of tb b s) (thread_of tb (thread s t)) T E × Many Reclaims E (agent_of tb b (perform tb s t (move tb s t)))
  step_conversely z T h = (agent_of tb b (written tb s t (move tb s t)), turn_conversely z T h, reclaims_after)

  pub step_exactly : Settled tb b s t (move tb s t) → (T : Agent) → WholeTurn (body_of tb) (agent_of tb b s) (thread_of tb (thread s t)) T
      → (E : Agent) × Is T E.channels E.threads × Many Reclaims E (agent_of tb b (perform tb s t (move tb s t)))
  step_exactly z T h = (agent_of tb b (written tb s t (move tb s t)), turn_exactly z T h, reclaims_after)
