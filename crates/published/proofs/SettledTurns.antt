-- Two whole turns of one thread from one agent differ in no more than `UpTo` says, by what it takes from 002. With `NoFreer.antt` it says just what 002 leaves
-- open. Assumes nothing.
use Prim.Native.Nat.{ℕ, zero, suc}
use Rattle.std.specs.Prelude.{◌≡◌, ◌⊎◌, Bool, true, false, Some}
use Rattle.std.proofs.Math.Path.{refl, sym, ap}
use Rattle.std.proofs.Common.{◌∙◌}
use Rattle.std.proofs.Math.Logic.{inl, inr, ⊎_elim}
use mathlib.Core.List.{List, [], ◌∷◌, ◌++◌, map}
use Rattle.numbers.specs.Search.Laws.{contra}
use Rattle.published.specs.Syntax.{Guard, Process, end, choice, invoke, Sum, nothing, branch, wait, Prefix, tau, output, input, new_channel, new_thread, assign, and_wait, waits, waiting, some_wait}
use Rattle.published.specs.Agents.{◌∈◌, Env, holds, Commitment, gives, takes, Thread, thread, Channels, Agent, agent}
use Rattle.published.specs.Rules.{Rearranged, same_first, twice}
use Rattle.published.specs.ProductLaws.{in_rearranged, turned_back}
use Rattle.published.specs.Orders.{cancelled}
use Rattle.published.specs.Choices.{ByAction, ByCommitment, ByPrefix, BySum, ByProcess, Of, InSum, InProcess}
use Rattle.published.proofs.Choices.{same_channel, not_both}
use Rattle.published.specs.Whole.{first_waits, WholeTurn, Is, Unmet, UpTo, same_end, same_branch, Onward}
use Rattle.published.proofs.Whole.{whole_of}
use Rattle.published.proofs.NoFreer.{waited, waited_branch, waited_wait, waited_nothing}

-- ---- beside threads that are the same in another order

module _ (def : ℕ → Process) (Δ : Channels) (δ : Env) where
  -- the first reduction of a whole turn is an action, or else an (out) or (in) before the rest of the turn
  abbrev Ahead : List Thread → List Commitment → Sum → Agent → Type 0
  Ahead C Γ Q T = BySum Δ Γ δ C false Q T ⊎ ((U : Agent) × BySum Δ Γ δ C true Q U × Onward def U T)

  no_branch : (C : List Thread) (Γ : List Commitment) (Q : Sum) (k : Bool) (T : Agent) → some_wait Q ≡ true → BySum Δ Γ δ C k Q T → ⊥
  unfolding some_wait BySum
  no_branch C Γ nothing k T w a = a
  no_branch C Γ (branch g α P Q) k T w a = contra w refl
  no_branch C Γ (wait Q) k T w a = a

  none_ahead : (C : List Thread) (Γ : List Commitment) (Q : Sum) (T : Agent) → some_wait Q ≡ true → Ahead C Γ Q T → ⊥
  none_ahead C Γ Q T w (inl a) = no_branch C Γ Q false T w a
  none_ahead C Γ Q T w (inr (U, a, v)) = no_branch C Γ Q true U w a

  -- by the first branch
  abbrev First : List Thread → List Commitment → Guard → Prefix → Process → Sum → Agent → Type 0
  First C Γ g β R Q T =
      ((holds δ g ≡ false) × Ahead C Γ Q T)
      ⊎ ((holds δ g ≡ true) × (ByAction Δ δ C β R T ⊎ ((U : Agent) × ByCommitment Δ Γ δ C β R Q U × Onward def U T)))

  first_of : (C : List Thread) (Γ : List Commitment) (g : Guard) (β : Prefix) (R : Process) (Q : Sum) (T : Agent) → Ahead C Γ (branch g β R Q) T
      → First C Γ g β R Q T
  unfolding BySum ByPrefix
  first_of C Γ g β R Q T (inl (inl (f, a))) = inl (f, inl a)
  first_of C Γ g β R Q T (inl (inr (y, a))) = inr (y, inl a)
  first_of C Γ g β R Q T (inr (U, inl (f, a), w)) = inl (f, inr (U, a, w))
  first_of C Γ g β R Q T (inr (U, inr (y, a), w)) = inr (y, inr (U, a, w))

  -- after an (out) or (in) the thread waits, or goes on
  onward_so : (C : List Thread) (Γ : List Commitment) (Q : Sum) (T : Agent) → Onward def (agent Δ (thread Γ δ (choice Q) ∷ C)) T
      → ((some_wait Q ≡ true) × (T ≡ agent Δ (thread Γ δ (choice Q) ∷ C))) ⊎ Ahead C Γ Q T
  unfolding Onward first_waits waiting Of ByProcess
  onward_so C Γ Q T (inl (w, e)) = inl (w, e)
  onward_so C Γ Q T (inr w) = inr (whole_of def w)

  unmet_of : (C : List Thread) (Γ : List Commitment) (α : Prefix) (P : Process) (Q : Sum) (U : Agent) → ByCommitment Δ Γ δ C α P Q U → Unmet δ C α
  unfolding ByCommitment Unmet
  unmet_of C Γ tau P Q U a = a
  unmet_of C Γ (output c v) P Q U (ĉ, e, f, q) = (ĉ, e, f)
  unmet_of C Γ (input c x) P Q U (ĉ, e, f, q) = (ĉ, e, f)
  unmet_of C Γ (new_channel c) P Q U a = a
  unmet_of C Γ (new_thread R) P Q U a = a
  unmet_of C Γ (assign x e) P Q U a = a

  commit_moved : (C C' : List Thread) → ((x : Thread) → x ∈ C → x ∈ C') → (Γ : List Commitment) (α : Prefix) (P : Process) (Q : Sum) (U : Agent)
      → ByCommitment Δ Γ δ C' α P Q U → (U' : Agent) × ByCommitment Δ Γ δ C α P Q U'
  unfolding ByCommitment
  commit_moved C C' h Γ tau P Q U a = absurd a
  commit_moved C C' h Γ (output c v) P Q U (ĉ, e, f, q) = (_, (ĉ, e, (λ t i. f t (h t i)), refl))
  commit_moved C C' h Γ (input c x) P Q U (ĉ, e, f, q) = (_, (ĉ, e, (λ t i. f t (h t i)), refl))
  commit_moved C C' h Γ (new_channel c) P Q U a = absurd a
  commit_moved C C' h Γ (new_thread R) P Q U a = absurd a
  commit_moved C C' h Γ (assign x e) P Q U a = absurd a

  module _ (B B' : List Thread) (r : Rearranged B B') where
    -- the same commitment
    commit_both : (Γ : List Commitment) (α : Prefix) (P : Process) (Q : Sum) (U U' : Agent) → ByCommitment Δ Γ δ B α P Q U → ByCommitment Δ Γ δ B' α P Q U'
        → (Γ' : List Commitment) × (U ≡ agent Δ (thread Γ' δ (choice (and_wait Q)) ∷ B)) × (U' ≡ agent Δ (thread Γ' δ (choice (and_wait Q)) ∷ B'))
    unfolding ByCommitment
    commit_both Γ tau P Q U U' a a' = absurd a
    commit_both Γ (output c v) P Q U U' (ĉ, e, f, q) (ĉ', e', f', q') =
        let z : ĉ' ≡ ĉ = same_channel δ c ĉ' ĉ e' e in (Γ ++ (gives ĉ v P ∷ []), q, rw z at q')
    commit_both Γ (input c x) P Q U U' (ĉ, e, f, q) (ĉ', e', f', q') =
        let z : ĉ' ≡ ĉ = same_channel δ c ĉ' ĉ e' e in (Γ ++ (takes ĉ x P ∷ []), q, rw z at q')
    commit_both Γ (new_channel c) P Q U U' a a' = absurd a
    commit_both Γ (new_thread R) P Q U U' a a' = absurd a
    commit_both Γ (assign x e) P Q U U' a a' = absurd a

    -- the two ends are the same but for the order of threads, or are by one branch
    abbrev Passed : List Thread → Guard → Prefix → Type 0
    Passed C g β = (holds δ g ≡ false) ⊎ Unmet δ C β

    abbrev Together : Process → Agent → Agent → Type 0
    Together S T T' =
        Is T T'.channels T'.threads
        ⊎ ((α : Prefix) × (P : Process) × InProcess δ (Passed B) S α P × InProcess δ (Passed B') S α P × ByAction Δ δ B α P T × ByAction Δ δ B' α P T')

    -- the first thread is x in both ends, and the others are as they were
    same_first_thread : (x : Thread) (T T' : Agent) → T ≡ agent Δ (x ∷ B) → T' ≡ agent Δ (x ∷ B') → Is T T'.channels T'.threads
    same_first_thread x T T' e e' = (
      ap (λ (X : Agent). X.channels) e ∙ sym (ap (λ (X : Agent). X.channels) e'),
      rw (ap (λ (X : Agent). X.threads) e, ap (λ (X : Agent). X.threads) e') (same_first (turned_back r)),
    )

    behind : (g : Guard) (β : Prefix) (R : Process) (Q : Sum) (T T' : Agent) → Passed B g β → Passed B' g β → Together (choice Q) T T'
        → Together (choice (branch g β R Q)) T T'
    unfolding InProcess InSum
    behind g β R Q T T' p p' (inl e) = inl e
    behind g β R Q T T' p p' (inr (α, P, i, i', a, a')) = inr (α, P, inr (p, i), inr (p', i'), a, a')

    module _ (g : Guard) (β : Prefix) (R : Process) (Q : Sum) (T T' : Agent)
        (later : (n : ℕ) (Γ : List Commitment) → Ahead B Γ (waited n Q) T → Ahead B' Γ (waited n Q) T' → Together (choice Q) T T') (n : ℕ) (Γ : List Commitment) where
      -- both pass over the first branch by (out) or (in)
      committed : (Γ' : List Commitment) → Unmet δ B β → Unmet δ B' β
          → ((some_wait (waited (suc n) Q) ≡ true) × (T ≡ agent Δ (thread Γ' δ (choice (waited (suc n) Q)) ∷ B))) ⊎ Ahead B Γ' (waited (suc n) Q) T
          → ((some_wait (waited (suc n) Q) ≡ true) × (T' ≡ agent Δ (thread Γ' δ (choice (waited (suc n) Q)) ∷ B'))) ⊎ Ahead B' Γ' (waited (suc n) Q) T'
          → Together (choice (branch g β R Q)) T T'
      committed Γ' u u' (inl (w, e)) (inl (w', e')) = inl (same_first_thread _ T T' e e')
      committed Γ' u u' (inl (w, e)) (inr a) = absurd (none_ahead B' Γ' (waited (suc n) Q) T' w a)
      committed Γ' u u' (inr a) (inl (w, e)) = absurd (none_ahead B Γ' (waited (suc n) Q) T w a)
      committed Γ' u u' (inr a) (inr a') = behind g β R Q T T' (inr u) (inr u') (later (suc n) Γ' a a')

      by_first : First B Γ g β R (waited n Q) T → First B' Γ g β R (waited n Q) T' → Together (choice (branch g β R Q)) T T'
      unfolding InProcess InSum waited
      by_first (inl (f, a)) (inl (f', a')) = behind g β R Q T T' (inl f) (inl f) (later n Γ a a')
      by_first (inl (f, a)) (inr (y, a')) = contra y f
      by_first (inr (y, a)) (inl (f, a')) = contra y f
      by_first (inr (y, inl a)) (inr (y', inl a')) = inr (β, R, inl (y, refl, refl), inl (y, refl, refl), a, a')
      by_first (inr (y, inl a)) (inr (y', inr (U, k, w))) =
          let (X, k') = commit_moved B B' (λ x i. in_rearranged x (turned_back r) i) Γ β R (waited n Q) U k in
          absurd (not_both Δ Γ δ B β R (waited n Q) T X a k')
      by_first (inr (y, inr (U, k, w))) (inr (y', inl a)) =
          let (X, k') = commit_moved B' B (λ x i. in_rearranged x r i) Γ β R (waited n Q) U k in
          absurd (not_both Δ Γ δ B' β R (waited n Q) T' X a k')
      by_first (inr (y, inr (U, k, w))) (inr (y', inr (U', k', w'))) =
          let (Γ', q, q') = commit_both Γ β R (waited n Q) U U' k k' in
          committed Γ' (unmet_of B Γ β R (waited n Q) U k) (unmet_of B' Γ β R (waited n Q) U' k')
          (onward_so B Γ' (waited (suc n) Q) T (rw q at w)) (onward_so B' Γ' (waited (suc n) Q) T' (rw q' at w'))

    sums : (Q : Sum) (T T' : Agent) (n : ℕ) (Γ : List Commitment) → Ahead B Γ (waited n Q) T → Ahead B' Γ (waited n Q) T' → Together (choice Q) T T'
    unfolding BySum waits
    sums nothing T T' zero Γ a a' = absurd (let z = rw (waited_nothing zero) at a in ⊎_elim (λ b. b) (λ (U, b, w). b) z)
    sums nothing T T' (suc n) Γ a a' = absurd (let z = rw (waited_nothing (suc n)) at a in ⊎_elim (λ b. b) (λ (U, b, w). b) z)
    sums (branch g β R Q) T T' n Γ a a' =
        by_first g β R Q T T' (sums Q T T') n Γ (first_of B Γ g β R (waited n Q) T (rw (waited_branch n g β R Q) at a))
        (first_of B' Γ g β R (waited n Q) T' (rw (waited_branch n g β R Q) at a'))
    sums (wait Q) T T' n Γ a a' = absurd (let z = rw (waited_wait n Q) at a in ⊎_elim (λ b. b) (λ (U, b, w). b) z)

    abbrev Begins : List Thread → List Commitment → Process → Agent → Type 0
    Begins C Γ S T = ByProcess Δ Γ δ C def false S T ⊎ ((U : Agent) × ByProcess Δ Γ δ C def true S U × Onward def U T)

    processes : (S : Process) (T T' : Agent) (Γ : List Commitment) → Begins B Γ S T → Begins B' Γ S T' → Together S T T'
    unfolding ByProcess waited
    processes end T T' Γ (inl e) (inl e') = inl (
      ap (λ (X : Agent). X.channels) e ∙ sym (ap (λ (X : Agent). X.channels) e'),
      rw (ap (λ (X : Agent). X.threads) e, ap (λ (X : Agent). X.threads) e') (turned_back r),
    )
    processes end T T' Γ (inl e) (inr (U, a, w)) = absurd a
    processes end T T' Γ (inr (U, a, w)) b = absurd a
    processes (choice Q) T T' Γ a a' = sums Q T T' 0 Γ a a'
    processes (invoke D vs) T T' Γ (inl (ws, e, q)) (inl (ws', e', q')) =
        let z : map Some ws ≡ map Some ws' = sym e ∙ e' in inl (same_first_thread _ T T' (rw z at q) q')
    processes (invoke D vs) T T' Γ (inl x) (inr (U, a, w)) = absurd a
    processes (invoke D vs) T T' Γ (inr (U, a, w)) b = absurd a

-- ---- whole turns

pub settled_turn : (def : ℕ → Process) (for_numbers : ℕ → ℕ → Bool) {A : Agent} {t : Thread} {T T' : Agent} → WholeTurn def A t T → WholeTurn def A t T'
    → UpTo def for_numbers A t T T'
unfolding Of
settled_turn def for_numbers {A} {t} {T} {T'} h h' =
    let r = cancelled t h.others h'.others (twice (turned_back h.brought) h'.brought) in
    ⊎_elim
    (λ (c, p). same_end (c, twice (turned_back h'.put_back) (twice p h.put_back)))
    (λ (α, P, i, i', a, a'). same_branch α P
    (record { others = h.others; brought = h.brought; comes_to = i; product = h.product; action = a; put_back = h.put_back })
    (record { others = h'.others; brought = h'.brought; comes_to = i'; product = h'.product; action = a'; put_back = h'.put_back }))
    (processes def A.channels t.env h.others h'.others r t.process (agent T.channels h.product) (agent T'.channels h'.product)
    t.commitments (whole_of def h.whole) (whole_of def h'.whole))
