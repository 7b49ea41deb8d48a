-- How any whole turn of a ready thread at a choice, by 002's rules alone, comes to its end: past each branch that does not go ahead in the engine, by (next) or
-- by (out) or (in), to the action of the first that does, or to Σ wait where none does. Assumes nothing but what the table grants.
use Prim.Native.Nat.{ℕ, zero, suc, ◌+◌, ◌<◌}
use native.Mathlib.Omega.{arith}
use Rattle.std.specs.Prelude.{◌≡◌, ◌⊎◌, Bool, cond}
use Rattle.std.proofs.Math.Path.{refl}
use Rattle.std.proofs.Common.{sym, ◌∙◌}
use Rattle.std.proofs.Math.Logic.{inl, inr, ⊎_elim}
use Rattle.std.proofs.Math.Bool.{true, false}
use mathlib.Core.List.{List, [], ◌∷◌, ◌++◌, append-nil, append_assoc}
use Rattle.numbers.specs.Search.Laws.{contra}
use Rattle.table.specs.Table.{Table}
use Rattle.table.specs.Layout.{branch_count}
use Rattle.state.specs.State.{State, max_threads, thread, stands_at, is_ready}
use Rattle.rules.specs.Program.{branch_at, next_of, child_of, field_a, act_of, guard_holds, opposite}
use Rattle.rules.specs.declared.Direction.{Direction}
use Rattle.rules.specs.declared.Direction.TheVariants.{Out, In}
use Rattle.rules.specs.declared.Act.TheVariants.{Meeting}
use Rattle.rules_laws.specs.Granted.{Granted}
use Rattle.rules_laws.specs.Soundness.{Orderly}
use Rattle.rules_laws.specs.Chosen.{channel_by}
use Rattle.published.specs.Syntax.{Guard, Process, choice, Sum, nothing, Prefix, and_wait, waits, waiting, some_wait}
use Rattle.published.specs.Agents.{◌∈◌, Env, holds, Commitment, Thread, Agent, agent}
use Rattle.published.specs.Choices.{Sends, Receives, ByAction, ByCommitment, ByPrefix, BySum, ByProcess, Of, InSum, InProcess}
use Rattle.published.proofs.Choices.{same_channel}
use Rattle.published.specs.Whole.{Whole, first_waits, Unmet, Onward}
use Rattle.published.proofs.Whole.{whole_of}
use Rattle.published_laws.specs.Readable.{Readable}
use Rattle.published_laws.specs.Standing.{guard_of, prefix_of, sum_before, process_at, body_of, env_of, committed, commitments_from, channels_of}
use Rattle.published_laws.specs.Unrolled.{wait_behind, one_more_wait}
use Rattle.published_laws.specs.Products.{Bench}
use Rattle.published_laws.specs.Commitments.{pledge}
use Rattle.published_laws.proofs.Passing.{Unanswered, Passed, closed, unmet, others, others_silent, tip, midway, guard_is, channel_in, channel_is}

module _ (tb : Table) (g : Granted tb) (rd : Readable tb) (s : State) (o : Orderly tb s) (t : ℕ) (l : t < max_threads) (ready : is_ready (thread s t) ≡ true)
    (b : Thread) (bn : Bench tb b) where
  abbrev δ : Env
  δ = env_of tb (thread s t)

  abbrev n : ℕ
  n = stands_at (thread s t)

  abbrev row : ℕ → ℕ
  row i = branch_at tb (stands_at (thread s t)) i

  -- what branch i begins with, and what it goes on with
  abbrev pub prefix_by : ℕ → Prefix
  prefix_by i =
      prefix_of tb (process_at tb (child_of tb (stands_at (thread s t)) (branch_at tb (stands_at (thread s t)) i))) (branch_at tb (stands_at (thread s t)) i)
      (act_of tb (branch_at tb (stands_at (thread s t)) i))

  abbrev pub next_by : ℕ → Process
  next_by i = process_at tb (next_of tb (stands_at (thread s t)) (branch_at tb (stands_at (thread s t)) i))

  -- ---- a branch that does not go ahead

  -- beside threads that are all among the others
  module _ (B : List Thread) (among : (x : Thread) → x ∈ B → x ∈ others tb g rd s o t l ready b bn) where
    -- nobody is met by a meeting that nobody answers ...
    meets_nobody : (i : ℕ) → i < branch_count tb (stands_at (thread s t)) → (d : Direction) → act_of tb (branch_at tb (stands_at (thread s t)) i) ≡ Meeting d
        → Unanswered tb s t (opposite d) (channel_by tb s t i) → (C : List Thread) → ((x : Thread) → x ∈ C → x ∈ B) → (P Q : Process) (T : Agent)
        → ByAction (channels_of s) (env_of tb (thread s t)) C (prefix_of tb P (branch_at tb (stands_at (thread s t)) i) (Meeting d)) Q T → ⊥
    unfolding prefix_of ByAction Sends Receives opposite pledge
    meets_nobody i m Out e f [] h P Q T a = a
    meets_nobody i m In e f [] h P Q T a = a
    meets_nobody i m Out e f (u ∷ C) h P Q T (ĉ, x, R, w, q, k, y, z) =
        let c : ĉ ≡ channel_by tb s t i = same_channel δ (field_a tb (row i)) ĉ (channel_by tb s t i) q (channel_is tb g rd s o t l ready b bn i m Out e) in
        others_silent tb g rd s o t l ready b bn In (channel_by tb s t i) (channel_in tb g rd s o t l ready b bn i m Out e) f u (among u (h u (inl refl))) x R
        (rw c at k)
    meets_nobody i m In e f (u ∷ C) h P Q T (ĉ, x, R, w, q, k, y, z) =
        let c : ĉ ≡ channel_by tb s t i = same_channel δ (field_a tb (row i)) ĉ (channel_by tb s t i) q (channel_is tb g rd s o t l ready b bn i m In e) in
        others_silent tb g rd s o t l ready b bn Out (channel_by tb s t i) (channel_in tb g rd s o t l ready b bn i m In e) f u (among u (h u (inl refl))) x R
        (rw c at k)

    -- the commitment of a branch that is passed over is the one that the engine's thread has
    commits_so : (i : ℕ) → i < branch_count tb (stands_at (thread s t)) → (d : Direction) → act_of tb (branch_at tb (stands_at (thread s t)) i) ≡ Meeting d
        → (Γ : List Commitment) (P : Process) (Q : Sum) (T : Agent)
        → ByCommitment (channels_of s) Γ (env_of tb (thread s t)) B (prefix_of tb P (branch_at tb (stands_at (thread s t)) i) (Meeting d)) (next_by i) Q T
        → T ≡ agent (channels_of s) (midway tb g rd s o t l ready b bn (Γ ++ committed tb (thread s t) (branch_at tb (stands_at (thread s t)) i) (Meeting d))
        (and_wait Q) ∷ B)
    unfolding prefix_of ByCommitment committed
    commits_so i m Out e Γ P Q T (ĉ, q, f, z) =
        let c : ĉ ≡ channel_by tb s t i = same_channel δ (field_a tb (row i)) ĉ (channel_by tb s t i) q (channel_is tb g rd s o t l ready b bn i m Out e) in
        rw c at z
    commits_so i m In e Γ P Q T (ĉ, q, f, z) =
        let c : ĉ ≡ channel_by tb s t i = same_channel δ (field_a tb (row i)) ĉ (channel_by tb s t i) q (channel_is tb g rd s o t l ready b bn i m In e) in
        rw c at z

    -- in 002's words: its guard is false, or nobody is there to meet
    unmet_so : (i : ℕ) → i < branch_count tb (stands_at (thread s t)) → (d : Direction) → act_of tb (branch_at tb (stands_at (thread s t)) i) ≡ Meeting d
        → Unanswered tb s t (opposite d) (channel_by tb s t i) → (P : Process)
        → Unmet (env_of tb (thread s t)) B (prefix_of tb P (branch_at tb (stands_at (thread s t)) i) (Meeting d))
    unfolding Unmet prefix_of opposite pledge
    unmet_so i m Out e f P =
        let on = channel_is tb g rd s o t l ready b bn i m Out e in
        let inside = channel_in tb g rd s o t l ready b bn i m Out e in
        (channel_by tb s t i, on, λ u k x S h. others_silent tb g rd s o t l ready b bn In (channel_by tb s t i) inside f u (among u k) x S h)
    unmet_so i m In e f P =
        let on = channel_is tb g rd s o t l ready b bn i m In e in
        let inside = channel_in tb g rd s o t l ready b bn i m In e in
        (channel_by tb s t i, on, λ u k x S h. others_silent tb g rd s o t l ready b bn Out (channel_by tb s t i) inside f u (among u k) x S h)

    left_aside : (i : ℕ) → Passed tb s t i → i < branch_count tb (stands_at (thread s t))
        → (holds (env_of tb (thread s t)) (guard_of tb (branch_at tb (stands_at (thread s t)) i)) ≡ false) ⊎ Unmet (env_of tb (thread s t)) B (prefix_by i)
    left_aside i (closed y) m = inl (guard_is tb g rd s o t l ready b bn i m ∙ y)
    left_aside i (unmet d y e f) m = inr (rw e (unmet_so i m d e f _))

    -- with m branches left from branch i on, j before branch k, which goes ahead
    comes : (k : ℕ) → k < branch_count tb (stands_at (thread s t)) → ((j : ℕ) → j < k → Passed tb s t j)
        → guard_holds tb (branch_at tb (stands_at (thread s t)) k) (thread s t) ≡ true → (m j i : ℕ) → j < m → k ≡ i + j
        → InSum (env_of tb (thread s t)) (λ g β. (holds (env_of tb (thread s t)) g ≡ false) ⊎ Unmet (env_of tb (thread s t)) B β)
        (sum_before tb (process_at tb) nothing (stands_at (thread s t)) i m) (prefix_by k) (next_by k)
    unfolding InSum sum_before
    comes k n before y zero j i z e = absurd (omega arith)
    comes k n before y (suc m) zero i z e = let q : i ≡ k = omega arith in rw q (inl (guard_is tb g rd s o t l ready b bn k n ∙ y, refl, refl))
    comes k n before y (suc m) (suc j) i z e = inr (left_aside i (before i (omega arith)) (omega arith), comes k n before y m j (suc i) (omega arith) (omega arith))

    -- it is the branch that a turn comes to
    pub comes_so : (k : ℕ) → k < branch_count tb (stands_at (thread s t)) → ((j : ℕ) → j < k → Passed tb s t j)
        → guard_holds tb (branch_at tb (stands_at (thread s t)) k) (thread s t) ≡ true
        → InProcess (env_of tb (thread s t)) (λ g β. (holds (env_of tb (thread s t)) g ≡ false) ⊎ Unmet (env_of tb (thread s t)) B β)
        (choice (sum_before tb (process_at tb) nothing (stands_at (thread s t)) 0 (branch_count tb (stands_at (thread s t))))) (prefix_by k) (next_by k)
    unfolding InProcess
    comes_so k n before y = comes k n before y (branch_count tb (stands_at (thread s t))) k 0 n (omega arith)

    -- a branch that does not go ahead is passed over: by (next), or by (out) or (in)
    pub passes_over : (i : ℕ) → Passed tb s t i → i < branch_count tb (stands_at (thread s t)) → (k : Bool) (Γ : List Commitment) (Q : Sum) (T : Agent)
        → BySum (channels_of s) Γ (env_of tb (thread s t)) B k (tip tb g rd s o t l ready b bn i Q) T
        → ((guard_holds tb (branch_at tb (stands_at (thread s t)) i) (thread s t) ≡ false) × BySum (channels_of s) Γ (env_of tb (thread s t)) B k Q T)
        ⊎ ((guard_holds tb (branch_at tb (stands_at (thread s t)) i) (thread s t) ≡ true) × (k ≡ true)
        × (T ≡ agent (channels_of s) (midway tb g rd s o t l ready b bn
        (Γ ++ committed tb (thread s t) (branch_at tb (stands_at (thread s t)) i) (act_of tb (branch_at tb (stands_at (thread s t)) i))) (and_wait Q) ∷ B)))
    unfolding BySum ByPrefix tip
    passes_over i (closed y) m k Γ Q T (inl (f, a)) = inl (y, a)
    passes_over i (closed y) m k Γ Q T (inr (f, a)) = contra (sym (guard_is tb g rd s o t l ready b bn i m) ∙ f) y
    passes_over i (unmet d y e z) m k Γ Q T (inl (f, a)) = contra y (sym (guard_is tb g rd s o t l ready b bn i m) ∙ f)
    passes_over i (unmet d y e z) m false Γ Q T (inr (f, a)) = absurd (meets_nobody i m d e z B (λ x h. h) _ _ T (rw e at a))
    passes_over i (unmet d y e z) m true Γ Q T (inr (f, a)) = inr (y, refl, rw e (commits_so i m d e Γ _ Q T (rw e at a)))

    -- ---- a whole turn from the midst of a choice

    -- the first reduction of a whole turn is an action, or else one that commits, before the rest of the turn
    abbrev Ahead : List Commitment → Sum → Agent → Type 0
    Ahead Γ Q T =
        BySum (channels_of s) Γ (env_of tb (thread s t)) B false Q T
        ⊎ ((U : Agent) × BySum (channels_of s) Γ (env_of tb (thread s t)) B true Q U × Onward (body_of tb) U T)

    pub ahead_of : (Γ : List Commitment) (Q : Sum) (T : Agent)
        → Whole (body_of tb) (agent (channels_of s) (midway tb g rd s o t l ready b bn Γ Q ∷ B)) T → Ahead Γ Q T
    unfolding Of ByProcess
    ahead_of Γ Q T w = whole_of (body_of tb) w

    -- after an (out) or (in) the thread does not wait while there are branches behind
    goes_on : (Γ : List Commitment) (q : Sum) (i m : ℕ) (T : Agent)
        → Onward (body_of tb) (agent (channels_of s) (midway tb g rd s o t l ready b bn Γ
        (and_wait (sum_before tb (process_at tb) q (stands_at (thread s t)) i (suc m))) ∷ B)) T
        → Ahead Γ (sum_before tb (process_at tb) (and_wait q) (stands_at (thread s t)) i (suc m)) T
    unfolding Onward first_waits waiting some_wait sum_before and_wait
    goes_on Γ q i m T (inl (w, e)) = contra w refl
    goes_on Γ q i m T (inr w) =
        let v = wait_behind tb (process_at tb) q n i (suc m) in
        ahead_of Γ (sum_before tb (process_at tb) (and_wait q) (stands_at (thread s t)) i (suc m)) T (rw v at w)

    -- what branch i leaves
    abbrev left_by : ℕ → List Commitment
    left_by i =
        cond (guard_holds tb (branch_at tb (stands_at (thread s t)) i) (thread s t))
        (committed tb (thread s t) (branch_at tb (stands_at (thread s t)) i) (act_of tb (branch_at tb (stands_at (thread s t)) i))) []

    -- past a branch that does not go ahead, where there are branches behind it; there is one wait more if its guard is true
    past : (i : ℕ) → Passed tb s t i → i < branch_count tb (stands_at (thread s t)) → (Γ : List Commitment) (w m : ℕ) (T : Agent)
        → Ahead Γ (tip tb g rd s o t l ready b bn i (sum_before tb (process_at tb) (waits w) (stands_at (thread s t)) (suc i) (suc m))) T
        → (w' : ℕ) × Ahead (Γ ++ left_by i) (sum_before tb (process_at tb) (waits w') (stands_at (thread s t)) (suc i) (suc m)) T
        × (guard_holds tb (branch_at tb (stands_at (thread s t)) i) (thread s t) ≡ true → w' ≡ suc w)
    unfolding Onward
    past i p h Γ w m T (inl a) =
        let Q = sum_before tb (process_at tb) (waits w) (stands_at (thread s t)) (suc i) (suc m) in
        ⊎_elim (λ (f, x). (w, rw (f, append-nil Γ) (inl x), λ y. contra y f)) (λ (f, e, x). contra e refl) (passes_over i p h false Γ Q T a)
    past i p h Γ w m T (inr (U, a, v)) =
        let Q = sum_before tb (process_at tb) (waits w) (stands_at (thread s t)) (suc i) (suc m) in
        let Γ' = Γ ++ committed tb (thread s t) (row i) (act_of tb (row i)) in
        ⊎_elim (λ (f, x). (w, rw (f, append-nil Γ) (inr (U, x, v)), λ y. contra y f))
        (λ (f, e, x). (suc w, rw f (rw (one_more_wait w) at (goes_on Γ' (waits w) (suc i) m T (rw x at v))), λ y. refl))
        (passes_over i p h true Γ Q U a)

    -- ---- where branch k is the first that goes ahead, the turn ends by its action
    module _ (k : ℕ) (in_choice : k < branch_count tb (stands_at (thread s t))) (before : (j : ℕ) → j < k → Passed tb s t j)
        (passes : guard_holds tb (branch_at tb (stands_at (thread s t)) k) (thread s t) ≡ true)
        (met : (Γ : List Commitment) (Q : Sum) (T : Agent)
        → ByCommitment (channels_of s) Γ (env_of tb (thread s t)) B (prefix_by k) (next_by k) Q T → ⊥) where
      acts_there : (Γ : List Commitment) (Q : Sum) (T : Agent) → Ahead Γ (tip tb g rd s o t l ready b bn k Q) T
          → ByAction (channels_of s) (env_of tb (thread s t)) B (prefix_by k) (next_by k) T
      unfolding BySum ByPrefix tip
      acts_there Γ Q T (inl (inl (f, a))) = contra passes (sym (guard_is tb g rd s o t l ready b bn k in_choice) ∙ f)
      acts_there Γ Q T (inl (inr (f, a))) = a
      acts_there Γ Q T (inr (U, inl (f, a), w)) = contra passes (sym (guard_is tb g rd s o t l ready b bn k in_choice) ∙ f)
      acts_there Γ Q T (inr (U, inr (f, a), w)) = absurd (met Γ Q U a)

      -- with m branches left from branch i on, j before branch k
      reaches : (m j i : ℕ) → j < m → k ≡ i + j → i + m ≡ branch_count tb (stands_at (thread s t)) → (Γ : List Commitment) (w : ℕ) (T : Agent)
          → Ahead Γ (sum_before tb (process_at tb) (waits w) (stands_at (thread s t)) i m) T
          → ByAction (channels_of s) (env_of tb (thread s t)) B (prefix_by k) (next_by k) T
      unfolding sum_before tip
      reaches zero j i z e c Γ w T a = absurd (omega arith)
      reaches (suc m) zero i z e c Γ w T a =
          let q : i ≡ k = omega arith in acts_there Γ (sum_before tb (process_at tb) (waits w) (stands_at (thread s t)) (suc k) m) T (rw q at a)
      reaches (suc zero) (suc j) i z e c Γ w T a = absurd (omega arith)
      reaches (suc (suc m)) (suc j) i z e c Γ w T a =
          let (w', a', y) = past i (before i (omega arith)) (omega arith) Γ w m T a in
          reaches (suc m) j (suc i) (omega arith) (omega arith) (omega arith) (Γ ++ left_by i) w' T a'

      pub acts_by : (T : Agent) → Whole (body_of tb) (agent (channels_of s) (midway tb g rd s o t l ready b bn []
          (sum_before tb (process_at tb) nothing (stands_at (thread s t)) 0 (branch_count tb (stands_at (thread s t)))) ∷ B)) T
          → ByAction (channels_of s) (env_of tb (thread s t)) B (prefix_by k) (next_by k) T
      unfolding waits
      acts_by T w = reaches (branch_count tb (stands_at (thread s t))) k 0 in_choice (omega arith) (omega arith) [] 0 T (ahead_of [] _ T w)

    -- ---- where none goes ahead, it ends at Σ wait, with the commitments of the branches whose guards are true

    no_branch : (k : Bool) (w : ℕ) (Γ : List Commitment) (T : Agent) → BySum (channels_of s) Γ (env_of tb (thread s t)) B k (waits w) T → ⊥
    unfolding BySum waits
    no_branch k zero Γ T a = a
    no_branch k (suc w) Γ T a = a

    no_act : (i : ℕ) → Passed tb s t i → i < branch_count tb (stands_at (thread s t))
        → holds (env_of tb (thread s t)) (guard_of tb (branch_at tb (stands_at (thread s t)) i)) ≡ true → (T : Agent)
        → ByAction (channels_of s) (env_of tb (thread s t)) B (prefix_by i) (next_by i) T → ⊥
    no_act i (closed z) m y T a = contra (sym (guard_is tb g rd s o t l ready b bn i m) ∙ y) z
    no_act i (unmet d z e f) m y T a = meets_nobody i m d e f B (λ x h. h) _ _ T (rw e at a)

    module _ (all : (j : ℕ) → j < branch_count tb (stands_at (thread s t)) → Passed tb s t j) where
      -- no branch from i on acts
      pub none_acts : (Over : Guard → Prefix → Type 0) (m i : ℕ) → i + m ≡ branch_count tb (stands_at (thread s t)) → (α : Prefix) (P : Process) (T : Agent)
          → InSum (env_of tb (thread s t)) Over (sum_before tb (process_at tb) nothing (stands_at (thread s t)) i m) α P
          → ByAction (channels_of s) (env_of tb (thread s t)) B α P T → ⊥
      unfolding InSum sum_before
      none_acts Over zero i c α P T x a = x
      none_acts Over (suc m) i c α P T (inl (y, e, f)) a = no_act i (all i (omega arith)) (omega arith) y T (rw (← e, ← f) at a)
      none_acts Over (suc m) i c α P T (inr (p, x)) a = none_acts Over m (suc i) (omega arith) α P T x a

      -- after the last branch
      stops : (Γ : List Commitment) (w : ℕ) (T : Agent)
          → Onward (body_of tb) (agent (channels_of s) (midway tb g rd s o t l ready b bn Γ (and_wait (waits w)) ∷ B)) T
          → T ≡ agent (channels_of s) (midway tb g rd s o t l ready b bn Γ (waits (suc w)) ∷ B)
      unfolding Onward
      stops Γ w T (inl (y, e)) = rw (one_more_wait w) at e
      stops Γ w T (inr v) =
          ⊎_elim (λ x. absurd (no_branch false (suc w) Γ T x)) (λ (U, x, y). absurd (no_branch true (suc w) Γ U x))
          (ahead_of Γ (waits (suc w)) T (rw (one_more_wait w) at v))

      last_one : (i : ℕ) → i < branch_count tb (stands_at (thread s t)) → (Γ : List Commitment) (w : ℕ) (T : Agent)
          → Ahead Γ (tip tb g rd s o t l ready b bn i (waits w)) T
          → T ≡ agent (channels_of s) (midway tb g rd s o t l ready b bn (Γ ++ left_by i) (waits (suc w)) ∷ B)
      last_one i h Γ w T (inl a) =
          ⊎_elim (λ (f, x). absurd (no_branch false w Γ T x)) (λ (f, e, x). contra e refl) (passes_over i (all i h) h false Γ (waits w) T a)
      last_one i h Γ w T (inr (U, a, v)) =
          ⊎_elim (λ (f, x). absurd (no_branch true w Γ U x))
          (λ (f, e, x). rw f (stops (Γ ++ committed tb (thread s t) (row i) (act_of tb (row i))) w T (rw x at v)))
          (passes_over i (all i h) h true Γ (waits w) U a)

      -- the branches from i on, one and m more; if all guards are true there is a wait for each of them
      pub rests : (m i : ℕ) → i + suc m ≡ branch_count tb (stands_at (thread s t)) → (Γ : List Commitment) (w : ℕ) (T : Agent)
          → Ahead Γ (sum_before tb (process_at tb) (waits w) (stands_at (thread s t)) i (suc m)) T
          → (w' : ℕ) × (T ≡ agent (channels_of s) (midway tb g rd s o t l ready b bn (Γ ++ commitments_from tb (thread s t) i (suc m)) (waits (suc w')) ∷ B))
          × (((j : ℕ) → j < branch_count tb (stands_at (thread s t)) → guard_holds tb (branch_at tb (stands_at (thread s t)) j) (thread s t) ≡ true) → w' ≡ w + m)
      unfolding sum_before tip commitments_from
      rests zero i e Γ w T a = (w, rw (append-nil (left_by i)) (last_one i (omega arith) Γ w T a), λ y. omega arith)
      rests (suc m) i e Γ w T a =
          let (w', a', f) = past i (all i (omega arith)) (omega arith) Γ w m T a in
          let (w'', q, h) = rests m (suc i) (omega arith) (Γ ++ left_by i) w' T a' in (
            w'',
            rw (append_assoc Γ (left_by i) (commitments_from tb (thread s t) (suc i) (suc m))) at q,
            λ y. let x = h y in let z = f (y i (omega arith)) in omega arith,
          )
