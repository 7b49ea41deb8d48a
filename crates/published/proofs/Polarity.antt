-- Proposition 2 of 002: all commitments to a channel are of one polarity (`specs/Polarity.antt`). It holds of an agent without commitments, and every rule
-- keeps it. Assumes nothing.
use Rattle.std.specs.Prelude.{ℕ, zero, suc, ◌≡◌, refl, Bool, List, [], ◌∷◌, ◌++◌}
use Rattle.std.proofs.Common.{arith, inl, inr, ⊎_elim}
use Rattle.numbers.specs.Tests.{clash}
use Rattle.published.specs.Syntax.{Process}
use Rattle.published.specs.Agents.{◌∈◌, bind, Commitment, gives, takes, Thread, thread, Agent, nth}
use Rattle.published.specs.Rules.{Rearranged, none_left, same_first, swapped, twice, Acts, step, new, spawn, next, call, inert, send, out, recv, inn, more, Reclaims, reclaim, Sticks, stuck, Reduces, par, acts, reclaims, sticks, exchange, Reaches, stays, goes, Nothing, Ours, skip, assigns, zeros}
use Rattle.published.specs.ProductLaws.{in_either, in_rearranged, turned_round, nth_in}
use Rattle.published.specs.Polarity.{Meetless, Polar, OnePolarity, Bare}

pub polar_printed : (A : List Thread) → Polar A → OnePolarity A
polar_printed [] h j k l m n = absurd (omega arith)
polar_printed (t ∷ A) h zero zero l m n = absurd (n refl)
polar_printed (t ∷ A) h zero (suc k) l m n = (h.0 (nth A k) (nth_in A k (omega arith))).0
polar_printed (t ∷ A) h (suc j) zero l m n = (h.0 (nth A j) (nth_in A j (omega arith))).1
polar_printed (t ∷ A) h (suc j) (suc k) l m n = polar_printed A h.1 j k (omega arith) (omega arith) (λ q. n (rw q))

-- ---- the parts of a rule

polar_rearranged : {A B : List Thread} → Rearranged A B → Polar A → Polar B
polar_rearranged none_left h = h
polar_rearranged (same_first r) h = ((λ u i. h.0 u (in_rearranged u r i)), polar_rearranged r h.1)
polar_rearranged (swapped {t} {u} {A}) h = (
  (λ x i. ⊎_elim (λ q. rw q ((h.0 u (inl refl)).1, (h.0 u (inl refl)).0)) (λ j. h.1.0 x j) i),
  ((λ x i. h.0 x (inr i)), h.1.1),
)
polar_rearranged (twice r s) h = polar_rearranged s (polar_rearranged r h)

-- a thread without commitments
bare : (A : List Thread) → Polar A → ((u : Thread) → u ∈ A → Meetless [] u.commitments × Meetless u.commitments []) × Polar A
bare A h = ((λ u i. ((λ ĉ v x Q R m n. absurd m), (λ ĉ v x Q R m n. absurd n))), h)

polar_rest : (A B : List Thread) → Polar (A ++ B) → Polar B
polar_rest [] B h = h
polar_rest (t ∷ A) B h = polar_rest A B h.1

-- (out) and (in): one commitment more, which no other thread meets
gives_on : (Γ Γ' : List Commitment) (ĉ v : ℕ) (P : Process) → ((x : ℕ) (S : Process) → takes ĉ x S ∈ Γ' → ⊥)
    → Meetless Γ Γ' × Meetless Γ' Γ → Meetless (Γ ++ (gives ĉ v P ∷ [])) Γ' × Meetless Γ' (Γ ++ (gives ĉ v P ∷ []))
gives_on Γ Γ' ĉ v P f (a, b) = (
  (λ d w x Q R m n. ⊎_elim (λ i. a d w x Q R i n)
      (λ i. ⊎_elim (λ q. let e : d ≡ ĉ = cc in f x R (rw e at n)) (λ z. absurd z) i) (in_either (gives d w Q) Γ (gives ĉ v P ∷ []) m)),
  (λ d w x Q R m n. ⊎_elim (λ i. b d w x Q R m i)
      (λ i. ⊎_elim (λ q. clash cc) (λ z. absurd z) i) (in_either (takes d x R) Γ (gives ĉ v P ∷ []) n)),
)

takes_on : (Γ Γ' : List Commitment) (ĉ x : ℕ) (P : Process) → ((v : ℕ) (S : Process) → gives ĉ v S ∈ Γ' → ⊥)
    → Meetless Γ Γ' × Meetless Γ' Γ → Meetless (Γ ++ (takes ĉ x P ∷ [])) Γ' × Meetless Γ' (Γ ++ (takes ĉ x P ∷ []))
takes_on Γ Γ' ĉ x P f (a, b) = (
  (λ d w y Q R m n. ⊎_elim (λ i. a d w y Q R i n)
      (λ i. ⊎_elim (λ q. clash cc) (λ z. absurd z) i) (in_either (gives d w Q) Γ (takes ĉ x P ∷ []) m)),
  (λ d w y Q R m n. ⊎_elim (λ i. b d w y Q R m i)
      (λ i. ⊎_elim (λ q. let e : d ≡ ĉ = cc in f w Q (rw e at m)) (λ z. absurd z) i) (in_either (takes d y R) Γ (takes ĉ x P ∷ []) n)),
)

reclaims_polar : {A B : Agent} → Reclaims A B → Polar A.threads → Polar B.threads
reclaims_polar (reclaim ĉ f e) h = h

sticks_polar : {A B : Agent} → Sticks A B → Polar A.threads → Polar B.threads
sticks_polar (stuck A B w u) h = polar_rest A B h

-- ---- every rule keeps it, where the further rules do

module _ (def : ℕ → Process) (More : Agent → Agent → Type 0)
    (kept : (A B : Agent) → More A B → Polar A.threads → Polar B.threads) where
  acts_polar : {A B : Agent} → Acts def More A B → Polar A.threads → Polar B.threads
  acts_polar (step {B = B} g) h = bare B h.1
  acts_polar (new {B = B} ĉ g f) h = bare B h.1
  acts_polar (spawn {δ = δ} {Q = Q} {B = B} g) h = bare (thread [] δ Q ∷ B) (bare B h.1)
  acts_polar (next g r) h = acts_polar r h
  acts_polar (call {B = B} ws e) h = bare B h.1
  acts_polar inert h = h.1
  acts_polar (send {δ' = δ} {R = R} {B = B} ĉ x w g c i v) h = bare (thread [] (bind δ x w) R ∷ B) (bare B h.1.1)
  acts_polar (out {Γ = Γ} {v = v} {P = P} ĉ g c f) h = ((λ u i. gives_on Γ u.commitments ĉ v P (f u i) (h.0 u i)), h.1)
  acts_polar (recv {δ' = δ} {R = R} {B = B} ĉ x w g c i v) h = bare (thread [] δ R ∷ B) (bare B h.1.1)
  acts_polar (inn {Γ = Γ} {x = x} {P = P} ĉ g c f) h = ((λ u i. takes_on Γ u.commitments ĉ x P (f u i) (h.0 u i)), h.1)
  acts_polar (more {A} {B} m) h = kept A B m h

  pub polar_kept : {A B : Agent} → Reduces def More A B → Polar A.threads → Polar B.threads
  polar_kept (par A A' B r) h = polar_rearranged (turned_round A' B) (polar_kept r (polar_rearranged (turned_round B A) h))
  polar_kept (acts r) h = acts_polar r h
  polar_kept (reclaims r) h = reclaims_polar r h
  polar_kept (sticks r) h = sticks_polar r h
  polar_kept (exchange p r q) h = polar_rearranged q (polar_kept r (polar_rearranged p h))

  polar_reached : {A B : Agent} → Reaches def More A B → Polar A.threads → Polar B.threads
  polar_reached stays h = h
  polar_reached (goes r p) h = polar_reached p (polar_kept r h)

bare_polar : (A : List Thread) → Bare A → Polar A
bare_polar [] h = tt
bare_polar (t ∷ A) h = (
  (λ u i. (
    (λ ĉ v x Q R m n. absurd (let z : gives ĉ v Q ∈ [] = rw (h t (inl refl)) at m in z)),
    (λ ĉ v x Q R m n. absurd (let z : takes ĉ x R ∈ [] = rw (h t (inl refl)) at n in z)),
  )),
  bare_polar A (λ u i. h u (inr i)),
)

nothing_kept : (A B : Agent) → Nothing A B → Polar A.threads → Polar B.threads
unfolding Nothing
nothing_kept A B z h = absurd z

module _ (def : ℕ → Process) (for_numbers : ℕ → ℕ → Bool) where
  ours_polar : {A B : Agent} → Ours def for_numbers A B → Polar A.threads → Polar B.threads
  ours_polar (skip g) h = h
  ours_polar (assigns {B = B} z g e) h = bare B h.1
  ours_polar (zeros D z) h = h

  ours_kept : (A B : Agent) → Ours def for_numbers A B → Polar A.threads → Polar B.threads
  ours_kept A B m h = ours_polar m h

-- Proposition 2, of what the published rules reach from threads without commitments, and of what they reach together with document 01's own
pub proposition_2 : (def : ℕ → Process) (A B : Agent) → Bare A.threads → Reaches def Nothing A B → OnePolarity B.threads
proposition_2 def A B h p = polar_printed B.threads (polar_reached def Nothing nothing_kept p (bare_polar A.threads h))

pub our_proposition_2 : (def : ℕ → Process) (for_numbers : ℕ → ℕ → Bool) (A B : Agent) → Bare A.threads → Reaches def (Ours def for_numbers) A B
    → OnePolarity B.threads
our_proposition_2 def for_numbers A B h p =
    polar_printed B.threads (polar_reached def (Ours def for_numbers) (ours_kept def for_numbers) p (bare_polar A.threads h))
