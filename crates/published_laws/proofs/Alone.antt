-- The moves of a thread alone are reductions: an end, a call, a wait, a tau or an assignment, a new channel. Assumes nothing but what the table grants.
use Prim.Native.Nat.{ℕ, zero, suc, ◌+◌, ◌-◌, ◌<◌}
use native.Mathlib.Omega.{arith}
use Rattle.std.specs.Prelude.{◌≡◌, ◌≢◌, true, eqb, length, set}
use Rattle.std.proofs.Math.Path.{refl, fun_ext}
use Rattle.std.proofs.Common.{◌∙◌, inl}
use Rattle.std.proofs.Math.Bool.{false}
use mathlib.Core.List.{List, [], ◌∷◌}
use borrow.Author.Tests.{eqb-true, eqb-false, eq-eqb, ne_eqb}
use Rattle.numbers.specs.Search.{tabulate}
use Rattle.numbers.specs.Search.Laws.{case_b}
use Rattle.table.specs.Table.{Table, nodes, parameters}
use Rattle.table.specs.Layout.{branch_count}
use Rattle.state.specs.State.{State, max_threads, thread, stands_at, in_use, is_ready, type_in, with_mark, with_thread, with_channel}
use Rattle.rules.specs.Program.{type_at, kind_of, callee, argument, branch_at, guard_holds}
use Rattle.rules.specs.Moves.{waiting_row, typed, gone_by, created_by, type_by, written}
use Rattle.rules.specs.declared.Act.TheVariants.{Tau, Assignment}
use Rattle.rules.specs.declared.Move.TheVariants.{Ends, Waits, Goes, Creates}
use Rattle.rules_laws.specs.Granted.{Granted}
use Rattle.rules_laws.specs.Guards.{assigning}
use Rattle.rules_laws.specs.Reading.Laws.{ready_used, waiting_used}
use Rattle.rules_laws.specs.Soundness.{RowSound, Orderly}
use Rattle.rules_laws.specs.ThreadRow.{waiting_waits, waiting_node, waiting_slot, waiting_guard}
use Rattle.rules_laws.specs.Onward.{branching, gone_by_ready, created_by_ready}
use Rattle.rules_laws.specs.Replaced.{typed_same, typed_other}
use Rattle.rules_laws.specs.Chosen.{Open, Creating}
use Rattle.published.specs.Syntax.{Process, end, invoke, Sum, nothing, waits}
use Rattle.published.specs.Agents as Agents
use Rattle.published.specs.Agents.{◌∈◌, Commitment, Thread, Channels, adding, Agent, agent}
use Rattle.published.specs.Rules.{Rearranged, same_first, swapped, twice, step, new, inert, more, last, assigns}
use Rattle.published.specs.Fired as Fired
use Rattle.published.specs.Fired.{Rule, by_inert, by_step, by_new, by_passing, by_assigns, Fired, fired, Labels, ours_fire, firing, ActsBy, RunBy, TurnBy}
use Rattle.published.specs.ProductLaws.{same_order, turned_back}
use Rattle.published_laws.specs.Readable.{Readable}
use Rattle.published_laws.specs.Standing.{guard_of, prefix_of, sum_before, node_process, process_at, body_of, for_numbers, env_of, commitments_from, waiting_thread, ready_thread, thread_of, threads_of, channels_of, agent_of, OurRules, OurLabels}
use Rattle.published_laws.specs.Unrolled.{process_at_lem}
use Rattle.published_laws.specs.Environments.{env_same, assigned_same, guard_same}
use Rattle.published_laws.specs.Products.{Bench, ready_thread_lem, waiting_thread_lem, stored_first, row_first}
use Rattle.published_laws.proofs.Commitments.{commitments_same}
use Rattle.published_laws.proofs.Passing.{Passed, others, tip, midway, leads_run, lead, pass_all}
use Rattle.published_laws.specs.Afterwards.{tau_thread, assigned_thread, created_thread}

-- a turn, by its reductions
pub turn_by_lem : (def : ℕ → Process) (More : Agent → Agent → Type 0) (own : Labels More) (f : Fired) {A B P : List Thread} {t : Thread} {Δ : Channels} {T : Agent}
    → Rearranged A (t ∷ B) → RunBy def More own f (agent Δ (t ∷ B)) T → Rearranged T.threads P
    → TurnBy def More own (agent Δ A) t f (agent T.channels P)
turn_by_lem def More own f {B = B} {T = T} p (w, e) q = record {
  turn = record { others = B; brought = p; product = T.threads; run = w; put_back = q };
  ends = e;
}

module _ (tb : Table) (g : Granted tb) (rd : Readable tb) (s : State) (o : Orderly tb s) (t : ℕ) (l : t < max_threads) (ready : is_ready (thread s t) ≡ true)
    (b : Thread) (bn : Bench tb b) where
  abbrev rest : List Thread
  rest = others tb g rd s o t l ready b bn

  used : in_use (thread s t) ≡ true
  used = ready_used (thread s t) ready

  sound : RowSound tb (type_in s) (thread s t)
  sound = o.row t l

  inside : t < length s.threads
  inside = rw o.shaped.all_threads l

  node_in : stands_at (thread s t) < nodes tb
  node_in = sound.node_in used

  -- ---- the thread to the front, before and after

  pub own_first : Rearranged (b ∷ threads_of tb s.threads) (ready_thread tb (thread s t) ∷ others tb g rd s o t l ready b bn)
  unfolding others
  own_first = rw (← ready_thread_lem tb (thread s t) ready) (twice (same_first (row_first tb s.threads t inside used)) swapped)

  pub new_first : (row : List ℕ) → in_use row ≡ true → Rearranged (b ∷ threads_of tb (set s.threads t row)) (thread_of tb row ∷ others tb g rd s o t l ready b bn)
  unfolding others
  new_first row u = twice (same_first (stored_first tb s.threads t row inside u)) swapped

  -- ---- what the thread is about to do

  pub at_choice : kind_of tb (stands_at (thread s t)) ≡ 1
      → ready_thread tb (thread s t)
      ≡ midway tb g rd s o t l ready b bn [] (sum_before tb (process_at tb) nothing (stands_at (thread s t)) 0 (branch_count tb (stands_at (thread s t))))
  unfolding ready_thread node_process
  at_choice e = rw (process_at_lem tb g rd (stands_at (thread s t)) node_in, eq-eqb (kind_of tb (stands_at (thread s t))) 1 e)

  pub at_call : kind_of tb (stands_at (thread s t)) ≡ 2
      → ready_thread tb (thread s t)
      ≡ Agents.thread [] (env_of tb (thread s t)) (invoke (callee tb (stands_at (thread s t)))
      (tabulate (parameters tb (callee tb (stands_at (thread s t)))) (argument tb (stands_at (thread s t)))))
  unfolding ready_thread node_process
  at_call e = let k = kind_of tb (stands_at (thread s t)) in
      rw (process_at_lem tb g rd (stands_at (thread s t)) node_in, ne_eqb k 1 (λ q. omega arith), eq-eqb k 2 e)

  pub at_end : kind_of tb (stands_at (thread s t)) ≢ 1 → kind_of tb (stands_at (thread s t)) ≢ 2 → ready_thread tb (thread s t) ≡ Agents.thread [] (env_of tb (thread s t)) end
  unfolding ready_thread node_process
  at_end m n = let k = kind_of tb (stands_at (thread s t)) in rw (process_at_lem tb g rd (stands_at (thread s t)) node_in, ne_eqb k 1 m, ne_eqb k 2 n)

  -- ---- (inert)

  pub ends_reduced : (More : Agent → Agent → Type 0) (own : Labels More) → kind_of tb (stands_at (thread s t)) ≢ 1 → kind_of tb (stands_at (thread s t)) ≢ 2
      → TurnBy (body_of tb) More own (agent_of tb b s) (ready_thread tb (thread s t)) (fired 0 by_inert) (agent_of tb b (written tb s t Ends))
  unfolding agent_of channels_of written with_thread others firing Fired.Ends
  ends_reduced More own m n =
      let start = rw (at_end m n) at own_first in
      rw (at_end m n) (turn_by_lem (body_of tb) More own (fired 0 by_inert) {T = agent (channels_of s) rest} start (last inert, refl) (same_order rest))

  -- ---- a wait: (out), (in) and skip

  pub wait_thread : thread_of tb (waiting_row (thread s t))
      ≡ midway tb g rd s o t l ready b bn (commitments_from tb (thread s t) 0 (branch_count tb (stands_at (thread s t))))
      (waits (branch_count tb (stands_at (thread s t))))
  unfolding waiting_thread
  wait_thread =
      let row = thread s t in
      let node = waiting_node row in
      let slots = waiting_slot row in
      waiting_thread_lem tb (waiting_row row) (waiting_waits row)
      ∙ rw (
        node,
        env_same tb row (waiting_row row) (rw node) slots,
        commitments_same tb row (waiting_row row) node slots (waiting_guard row tb) (branch_count tb (stands_at row)) 0,
      )

  module _ (More : Agent → Agent → Type 0) (own : Labels More)
      (skips : (i : ℕ) → i < branch_count tb (stands_at (thread s t)) → guard_holds tb (branch_at tb (stands_at (thread s t)) i) (thread s t) ≡ false
      → (A C : Agent) (x : OurRules tb A C) → (y : More A C) × (own A C y ≡ ours_fire (body_of tb) (for_numbers tb) A C x)) where
    waits_by : (n : ℕ) → branch_count tb (stands_at (thread s t)) ≡ n → 0 < n → kind_of tb (stands_at (thread s t)) ≡ 1
        → ((j : ℕ) → j < branch_count tb (stands_at (thread s t)) → Passed tb s t j)
        → TurnBy (body_of tb) More own (agent_of tb b s) (ready_thread tb (thread s t)) (fired (n - 1) by_passing) (agent_of tb b (written tb s t Waits))
    unfolding agent_of channels_of written with_thread waits
    waits_by zero e z k p = absurd (omega arith)
    waits_by (suc n) e z k p =
        let Δ = channels_of s in
        let row = thread s t in
        let q = sum_before tb (process_at tb) nothing (stands_at row) 0 (suc n) in
        let all = pass_all tb g rd s o t l ready b bn More own skips rest (λ x i. i) Δ n 0 (omega arith) p [] in
        let no_more : 0 + suc n ≡ suc n = omega arith in
        let w : RunBy (body_of tb) More own (fired n by_passing) (agent Δ (midway tb g rd s o t l ready b bn [] q ∷ rest))
        (agent Δ (thread_of tb (waiting_row row) ∷ rest)) =
        rw (wait_thread, e) (rw no_more at all) in
        let start : Rearranged (b ∷ threads_of tb s.threads) (midway tb g rd s o t l ready b bn [] q ∷ rest) = rw (at_choice k, e) at own_first in
        let last_one : suc n - 1 ≡ n = omega arith in
        rw (at_choice k, e, last_one) (turn_by_lem (body_of tb) More own (fired n by_passing) {T = agent Δ (thread_of tb (waiting_row row) ∷ rest)} start w
        (turned_back (new_first (waiting_row row) (waiting_used (waiting_row row) (waiting_waits row)))))

    pub waits_reduced : kind_of tb (stands_at (thread s t)) ≡ 1 → ((j : ℕ) → j < branch_count tb (stands_at (thread s t)) → Passed tb s t j)
        → TurnBy (body_of tb) More own (agent_of tb b s) (ready_thread tb (thread s t)) (fired (branch_count tb (stands_at (thread s t)) - 1) by_passing)
        (agent_of tb b (written tb s t Waits))
    waits_reduced k p = waits_by (branch_count tb (stands_at (thread s t))) refl (rd.some_branch (stands_at (thread s t)) node_in k) k p

  -- ---- the first branch that goes ahead is branch k

  module _ (More : Agent → Agent → Type 0) (own : Labels More) (k : ℕ) (kind : kind_of tb (stands_at (thread s t)) ≡ 1) (m : k < branch_count tb (stands_at (thread s t)))
      (before : (j : ℕ) → j < k → Passed tb s t j) where
    -- beside the threads B: from a reduction of it by rule r, whatever was committed and whatever branches are behind it
    pub led : (r : Rule) (B : List Thread) (D : Channels) (h : Thread) (C P : List Thread) → Rearranged (others tb g rd s o t l ready b bn) B
        → (among : (x : Thread) → x ∈ B → x ∈ others tb g rd s o t l ready b bn)
        → ((Γ : List Commitment) (q : Sum) → ActsBy (body_of tb) More own (fired 0 r)
        (agent (channels_of s) (midway tb g rd s o t l ready b bn Γ (tip tb g rd s o t l ready b bn k q) ∷ B)) (agent D (h ∷ C)))
        → Rearranged (h ∷ C) P
        → TurnBy (body_of tb) More own (agent (channels_of s) (b ∷ threads_of tb s.threads)) (ready_thread tb (thread s t)) (fired k r) (agent D P)
    led r B D h C P p among act q =
        let n = stands_at (thread s t) in
        let Q = sum_before tb (process_at tb) nothing n 0 (branch_count tb n) in
        let z : k ≡ 0 + k = omega arith in
        let x = lead tb g rd s o t l ready b bn More own B among (channels_of s) D h C k m before r (λ Γ y. inl (act Γ y)) (branch_count tb n) k 0 m z [] nothing in
        let w = leads_run tb g rd s o t l ready b bn More own B among (channels_of s) D h C (fired k r) [] Q x in
        let start = rw (at_choice kind) at own_first in
        rw (at_choice kind) (turn_by_lem (body_of tb) More own (fired k r) (twice start (same_first p)) w q)

    -- the reduction of a branch that writes the row of the thread alone
    single : (r : Rule) (row : List ℕ) → in_use row ≡ true → (D : Channels)
        → ((Γ : List Commitment) (q : Sum) → ActsBy (body_of tb) More own (fired 0 r)
        (agent (channels_of s) (midway tb g rd s o t l ready b bn Γ (tip tb g rd s o t l ready b bn k q) ∷ rest))
        (agent D (thread_of tb row ∷ rest)))
        → TurnBy (body_of tb) More own (agent (channels_of s) (b ∷ threads_of tb s.threads)) (ready_thread tb (thread s t)) (fired k r)
        (agent D (b ∷ threads_of tb (set s.threads t row)))
    single r row u D f =
        led r rest D (thread_of tb row) rest (b ∷ threads_of tb (set s.threads t row)) (same_order rest) (λ x i. i) f (turned_back (new_first row u))

    guard_true : guard_holds tb (branch_at tb (stands_at (thread s t)) k) (thread s t) ≡ true
        → Agents.holds (env_of tb (thread s t)) (guard_of tb (branch_at tb (stands_at (thread s t)) k)) ≡ true
    guard_true e = guard_same tb g rd (type_in s) (thread s t) sound used k m ∙ e

    -- (step)
    pub tau_reduced : Open tb s t k Tau
        → TurnBy (body_of tb) More own (agent_of tb b s) (ready_thread tb (thread s t)) (fired k by_step) (agent_of tb b (written tb s t (Goes k)))
    unfolding agent_of channels_of written with_thread tip prefix_of firing
    tau_reduced x =
        let row = thread s t in
        single by_step (gone_by tb row k) (ready_used (gone_by tb row k) (gone_by_ready tb row k)) (channels_of s)
        (λ Γ q. rw (tau_thread tb g (type_in s) row sound used k m x.does, x.does) (step (guard_true x.passes), refl))

    -- (new)
    module _ (c : ℕ) (x : Creating tb s t k c) where
      type_there : type_by tb (thread s t) k ≢ 0
      unfolding type_by type_at
      type_there = ((branching tb g (type_in s) (thread s t) sound used k m).creates x.takes.does).1

      pub channels_with : channels_of (written tb s t (Creates k c)) ≡ adding (channels_of s) c
      unfolding channels_of adding written with_mark typed with_thread with_channel
      channels_with =
          let y = type_by tb (thread s t) k in
          fun_ext (λ e. case_b (eqb e c)
          (λ z. let q : e ≡ c = eqb-true e c z in
          rw (q, eq-eqb c c refl, typed_same s o.shaped c y x.channel_in, ne_eqb y 0 type_there))
          (λ z. rw (z, typed_other s o.shaped c y x.channel_in e (eqb-false e c z))))

      pub creation_reduced : TurnBy (body_of tb) More own (agent_of tb b s) (ready_thread tb (thread s t)) (fired k (by_new c))
          (agent_of tb b (written tb s t (Creates k c)))
      unfolding agent_of channels_of written with_mark typed with_thread with_channel tip prefix_of firing
      creation_reduced =
          let row = thread s t in
          let free : channels_of s c ≡ false = rw x.untyped in
          rw channels_with
          (single (by_new c) (created_by tb row k c) (ready_used (created_by tb row k c) (created_by_ready tb row k c)) (adding (channels_of s) c)
          (λ Γ q. rw (created_thread tb g (type_in s) row sound used k m x.takes.does c x.channel_in, x.takes.does)
          (new c (guard_true x.takes.passes) free, refl)))

  -- an assignment, document 01's own
  pub assignment_reduced : (k : ℕ) → kind_of tb (stands_at (thread s t)) ≡ 1 → k < branch_count tb (stands_at (thread s t)) → ((j : ℕ) → j < k → Passed tb s t j)
      → Open tb s t k Assignment
      → TurnBy (body_of tb) (OurRules tb) (OurLabels tb) (agent_of tb b s) (ready_thread tb (thread s t)) (fired k by_assigns) (agent_of tb b (written tb s t (Goes k)))
  unfolding agent_of channels_of written with_thread tip prefix_of firing ours_fire
  assignment_reduced k kind m before x =
      let row = thread s t in
      let a = assigning tb row k x.passes x.does in
      single (OurRules tb) (OurLabels tb) k kind m before by_assigns (gone_by tb row k) (ready_used (gone_by tb row k) (gone_by_ready tb row k)) (channels_of s)
      (λ Γ q. rw (assigned_thread tb g (type_in s) row sound used k m x.does a, x.does) (
        more (assigns a.z (guard_true (OurRules tb) (OurLabels tb) k kind m before x.passes)
            (assigned_same tb g rd (type_in s) row sound used k m x.does ∙ a.comes_to)),
        refl,
      ))
