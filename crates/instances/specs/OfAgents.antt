-- Instances of the theorems on 002's agents (`crates/published`), and pairs that its relations exclude. Assumes nothing.
use Rattle.std.specs.Prelude.{ℕ, ◌≡◌, refl, ◌≢◌, true, false, List, [], ◌∷◌, ◌++◌, eqb, length, Some}
use Rattle.std.proofs.Common.{arith, sym, ◌∙◌, ap, inl, inr, ⊎_elim, eqb-true}
use Rattle.numbers.specs.Count.{bit, count}
use Rattle.numbers.specs.Search.Laws.{contra}
use Rattle.std.proofs.lemmas.Bool.{or_cases}
use Rattle.published.specs.Syntax.{Process, end, choice, nothing, branch, wait, always, output, and_wait, waiting, some_wait, only_waits}
use Rattle.published.specs.Agents.{◌∈◌, channel, number, Env, holds, Commitment, gives, takes, channel_of, Thread, thread, Channels, adding, Agent, agent, refers, mentions, knows, globalrc, Commits}
use Rattle.published.specs.Rules.{Rearranged, Acts, step, new, spawn, next, call, inert, send, out, recv, inn, more, Reclaims, reclaim, Sticks, stuck, Reduces, par, acts, reclaims, sticks, exchange, stays, goes, Reaches, Nothing}
use Rattle.published.specs.ProductLaws.{in_left, in_right, in_either, in_rearranged}
use Rattle.published.specs.Enabling.{active, Disabled}
use Rattle.published.specs.Chain.{Chain, lemma_1}
use Rattle.published.specs.Polarity.{Bare}
use Rattle.published.proofs.Polarity.{proposition_2}
use Rattle.published.proofs.Cliques.{proposition_3, proposition_4, proposition_5}
use Rattle.published.specs.Printed.{waitrc, P, W, R, case_three, p_enabled, not_stuck}

-- ---- threads: one that has come to its end, and one that alone knows the channel on which it waits (document 01's first case)

abbrev ended : Thread
ended = thread [] [] end

abbrev pub lone : Thread
lone = thread (takes 0 1 end ∷ []) (Some (channel 0) ∷ []) (choice (wait nothing))

waits_apart : lone ≢ ended
unfolding waiting some_wait only_waits
waits_apart q = contra {b = waiting lone.process} refl (ap (λ (t : Thread). waiting t.process) q)

-- ---- Rearranged: each thread counts, not only how many there are

pub not_rearranged : ¬ Rearranged (ended ∷ ended ∷ []) (ended ∷ lone ∷ [])
not_rearranged r = ⊎_elim waits_apart (λ i. ⊎_elim waits_apart (λ z. z) i) (in_rearranged lone r (inr (inl refl)))

-- ---- Reduces and Reaches: where all threads wait nobody goes on, by whatever rules of 002

abbrev AllWait : List Thread → Type 0
AllWait A = (t : Thread) → t ∈ A → waiting t.process ≡ true

-- a first thread that waits has no reduction of its own
acts_rest : (def : ℕ → Process) {A T : Agent} → Acts def Nothing A T → AllWait A.threads → ⊥
unfolding waiting some_wait Nothing
acts_rest def (step g) h = contra (h _ (inl refl)) refl
acts_rest def (new ĉ g f) h = contra (h _ (inl refl)) refl
acts_rest def (spawn g) h = contra (h _ (inl refl)) refl
acts_rest def (next g r) h = contra (h _ (inl refl)) refl
acts_rest def (call ws e) h = contra (h _ (inl refl)) refl
acts_rest def inert h = contra (h _ (inl refl)) refl
acts_rest def (send ĉ x w g c i v) h = contra (h _ (inl refl)) refl
acts_rest def (out ĉ g c f) h = contra (h _ (inl refl)) refl
acts_rest def (recv ĉ v w g c i e) h = contra (h _ (inl refl)) refl
acts_rest def (inn ĉ g c f) h = contra (h _ (inl refl)) refl
acts_rest def (more m) h = m

sticks_wait : {S T : Agent} → Sticks S T → AllWait S.threads → AllWait T.threads
sticks_wait (stuck A B w u) h t i = h t (in_right t A B i)

reclaims_wait : {S T : Agent} → Reclaims S T → AllWait S.threads → AllWait T.threads
reclaims_wait (reclaim ĉ f e) h = h

one_waits_lem : (def : ℕ → Process) {S T : Agent} → Reduces def Nothing S T → AllWait S.threads → AllWait T.threads
one_waits_lem def (par A A' B r) h =
    let front = one_waits_lem def r (λ u j. h u (⊎_elim (λ k. in_right u B A k) (λ k. in_left u B A k) (in_either u A B j))) in
    λ t i. ⊎_elim (λ k. front t (in_right t A' B k)) (λ k. front t (in_left t A' B k)) (in_either t B A' i)
one_waits_lem def (acts r) h = absurd (acts_rest def r h)
one_waits_lem def (reclaims r) h = reclaims_wait r h
one_waits_lem def (sticks r) h = sticks_wait r h
one_waits_lem def (exchange p r q) h = let front = one_waits_lem def r (λ u j. h u (in_rearranged u p j)) in λ t i. front t (in_rearranged t q i)

pub all_wait_on : (def : ℕ → Process) {S T : Agent} → Reaches def Nothing S T → AllWait S.threads → AllWait T.threads
all_wait_on def stays h = h
all_wait_on def (goes r p) h = all_wait_on def p (one_waits_lem def r h)

-- the lone thread never comes to its end: the two agents are a pair that no series of reductions joins
pub not_reached : (def : ℕ → Process) (Δ Δ' : Channels) → ¬ Reaches def Nothing (agent Δ (lone ∷ [])) (agent Δ' (ended ∷ []))
unfolding waiting some_wait only_waits
not_reached def Δ Δ' p = contra (all_wait_on def p (λ t i. ⊎_elim (λ q. rw q refl) (λ z. absurd z) i) ended (inl refl)) refl

-- ---- Reclaims: what goes is a channel that no thread knows

gone_unknown : {S T : Agent} → Reclaims S T → (c : ℕ) → S.channels c ≡ true → T.channels c ≡ false → globalrc c S.threads ≡ 0
unfolding adding
gone_unknown (reclaim {Δ} {A} ĉ f e) c y n =
    ⊎_elim (λ q. rw (eqb-true c ĉ q) e) (λ q. contra q n) (or_cases (eqb c ĉ) (Δ c) y)

-- channel 0 stays while the lone thread is there
pub not_reclaimed : (Δ Δ' : Channels) → Δ 0 ≡ true → Δ' 0 ≡ false → ¬ Reclaims (agent Δ (lone ∷ [])) (agent Δ' (lone ∷ []))
unfolding globalrc count bit knows mentions refers
not_reclaimed Δ Δ' y n r = absurd (let z : ◌≡◌ {A = ℕ} 1 0 = gone_unknown r 0 y n in omega arith)

-- ---- Sticks: (stuck) does not take P alone in document 01's third case, which the printed collector does (`Printed.antt`)

taken_part : {S T : Agent} → Sticks S T
    → (A : List Thread) × (S.threads ≡ A ++ T.threads) × ((t : Thread) → t ∈ A → (ĉ : ℕ) → Commits t.commitments ĉ → globalrc ĉ T.threads ≡ 0)
taken_part (stuck A B w u) = (A, refl, u)

pub p_not_stuck : (Δ Δ' : Channels) → ¬ Sticks (agent Δ case_three) (agent Δ' (W ∷ R ∷ []))
unfolding channel_of
p_not_stuck Δ Δ' r = let (A, e, u) = taken_part r in by A e u
  where
    by : (A : List Thread) → case_three ≡ A ++ (W ∷ R ∷ [])
        → ((t : Thread) → t ∈ A → (ĉ : ℕ) → Commits t.commitments ĉ → globalrc ĉ (W ∷ R ∷ []) ≡ 0) → ⊥
    by [] e u = let z : ◌≡◌ {A = ℕ} 3 2 = ap length e in omega arith
    by (t ∷ A) e u =
        let q : P ≡ t = cc in
        let z = u t (inl refl) 0 (rw (← q) (takes 0 2 end, inl refl, refl)) in
        absurd (let y : ◌≡◌ {A = ℕ} 1 0 = sym not_stuck ∙ z in omega arith)

-- ---- Definition 1 and Lemma 1: P is enabled, and so linked to an active thread; the lone thread is disabled, and no chain begins with it

pub p_linked : (r : List ℕ) × Chain case_three 0 r
p_linked = lemma_1 case_three p_enabled

pub lone_unlinked : (r : List ℕ) → ¬ Chain (lone ∷ []) 0 r
unfolding waiting some_wait only_waits
lone_unlinked [] w = contra refl w
lone_unlinked (k ∷ r) ((ĉ, i, l, n, h), c) = n (omega arith)

lone_waits : (t : Thread) → t ∈ (lone ∷ []) → waiting t.process ≡ true
unfolding waiting some_wait only_waits
lone_waits t (inl q) = rw q
lone_waits t (inr z) = absurd z

-- ---- Propositions 3 and 4, beside a thread that does not know channel 0

lone_unknown : (t : Thread) → t ∈ (lone ∷ []) → (ĉ : ℕ) → Commits t.commitments ĉ → globalrc ĉ (R ∷ []) ≡ 0
unfolding globalrc count bit knows mentions refers channel_of
lone_unknown t (inl q) ĉ (k, i, e) = by k (rw q at i) e
  where
    by : (k : Commitment) → k ∈ (takes 0 1 end ∷ []) → channel_of k ≡ ĉ → globalrc ĉ (R ∷ []) ≡ 0
    by k (inl q) e = let z : 0 ≡ ĉ = rw q at e in rw (← z) refl
    by k (inr z) e = absurd z
lone_unknown t (inr z) ĉ c = absurd z

pub lone_disabled : Disabled (lone ∷ R ∷ []) 0
lone_disabled = proposition_3 (lone ∷ []) (R ∷ []) lone_waits lone_unknown 0 (omega arith)

pub lone_taken : (Δ : Channels) → Sticks (agent Δ (lone ∷ R ∷ [])) (agent Δ (R ∷ []))
unfolding waiting
lone_taken Δ =
    proposition_4 Δ (lone ∷ []) (R ∷ [])
    (λ j l. proposition_3 (lone ∷ []) (R ∷ []) lone_waits lone_unknown j l)
    (λ k a b. let q : k ≡ 1 = omega arith in rw q (active {j = 1} (omega arith) refl))

-- Proposition 5: it is one of threads that are taken together
pub lone_part : (Δ : Channels) → (C : List Thread) × (D : List Thread) × Rearranged (lone ∷ R ∷ []) (C ++ D) × (lone ∈ C) × Sticks (agent Δ (C ++ D)) (agent Δ D)
lone_part Δ = let (C, D, r, i, d, s) = proposition_5 Δ (lone ∷ R ∷ []) 0 (omega arith) lone_disabled in (C, D, r, i, s)

-- ---- Proposition 2: from an agent without commitments one is reached that waits to send, and none in which another thread waits to receive on that channel

abbrev sends : Env
sends = Some (channel 0) ∷ Some (number 7) ∷ []

abbrev pub sender : Thread
sender = thread (gives 0 1 end ∷ []) sends (choice (wait nothing))

pub sender_reached : (def : ℕ → Process) (Δ : Channels)
    → Reaches def Nothing (agent Δ (thread [] sends (choice (branch always (output 0 1) end nothing)) ∷ [])) (agent Δ (sender ∷ []))
unfolding holds and_wait
sender_reached def Δ = goes (acts (out 0 refl refl (λ t i. absurd i))) stays

pub facing_not_reached : (def : ℕ → Process) (A : Agent) (Δ : Channels) → Bare A.threads → ¬ Reaches def Nothing A (agent Δ (sender ∷ lone ∷ []))
facing_not_reached def A Δ h p =
    proposition_2 def A (agent Δ (sender ∷ lone ∷ [])) h p 0 1 (omega arith) (omega arith) (λ q. omega arith) 0 1 1 end end (inl refl) (inl refl)

-- ---- Proposition 6: the two counts agree for the channel that P and W know, and not for the one that R, who does not wait, knows

pub counts_agree : waitrc 0 case_three ≡ globalrc 0 case_three
unfolding waitrc waiting some_wait only_waits globalrc count bit knows mentions refers
counts_agree = refl

pub counts_differ : ¬ (waitrc 1 case_three ≡ globalrc 1 case_three)
unfolding waitrc waiting some_wait only_waits globalrc count bit knows mentions refers
counts_differ e = let z : ◌≡◌ {A = ℕ} 1 2 = e in omega arith
