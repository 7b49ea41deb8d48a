-- 002's rules leave no more open to a thread in the first place than `specs/Choices.antt` says. Assumes nothing.
use Rattle.std.specs.Prelude.{ℕ, ◌≡◌, ◌⊎◌, Bool, Some}
use Rattle.std.proofs.Math.Path.{refl, sym}
use Rattle.std.proofs.Common.{◌∙◌}
use Rattle.std.proofs.Math.Logic.{inl, inr, ⊎_elim}
use Rattle.std.proofs.Math.Bool.{true, false}
use mathlib.Core.List.{List, [], ◌∷◌, map}
use Rattle.numbers.specs.Search.Laws.{contra}
use Rattle.published.specs.Syntax.{Guard, Process, end, choice, invoke, Sum, nothing, branch, wait, Prefix, tau, output, input, new_channel, new_thread, assign}
use Rattle.published.specs.Agents.{◌∈◌, Value, channel, Env, look, holds, Commitment, gives, takes, Thread, Channels, Agent, agent}
use Rattle.published.specs.Rules.{Acts, step, new, spawn, next, call, inert, send, out, recv, inn, more, Nothing, Run, last, pass}
use Rattle.published.specs.Choices.{commits, Sends, Receives, ByAction, ByCommitment, ByPrefix, BySum, ByProcess, Of, InSum, InProcess, Alike, same_end, same_branch, Forced}

-- every reduction of the first thread is one of these
pub acts_of : (def : ℕ → Process) {A T : Agent} (r : Acts def Nothing A T) → Of def A.channels A.threads (commits def r) T
unfolding Of ByProcess BySum ByPrefix ByAction ByCommitment Sends Receives Nothing commits
acts_of def (step g) = inr (g, refl)
acts_of def (new ĉ g f) = inr (g, (ĉ, f, refl))
acts_of def (spawn g) = inr (g, refl)
acts_of def (next g r) = inl (g, acts_of def r)
acts_of def (call ws e) = (ws, e, refl)
acts_of def inert = refl
acts_of def (send {R = R} ĉ x w g c i v) = inr (g, (ĉ, x, R, w, c, i, v, refl))
acts_of def (out ĉ g c f) = inr (g, (ĉ, c, f, refl))
acts_of def (recv {R = R} ĉ v w g c i e) = inr (g, (ĉ, v, R, w, c, i, e, refl))
acts_of def (inn ĉ g c f) = inr (g, (ĉ, c, f, refl))
acts_of def (more m) = absurd m

-- ---- two of them

pub same_channel : (δ : Env) (c ĉ ĉ' : ℕ) → look δ c ≡ Some (channel ĉ) → look δ c ≡ Some (channel ĉ') → ĉ ≡ ĉ'
same_channel δ c ĉ ĉ' e f = let q : Some (channel ĉ) ≡ Some (channel ĉ') = sym e ∙ f in cc

pub same_value : (δ : Env) (v : ℕ) (w w' : Value) → look δ v ≡ Some w → look δ v ≡ Some w' → w ≡ w'
same_value δ v w w' e f = let q : Some w ≡ Some w' = sym e ∙ f in cc

module _ (Δ : Channels) (Γ : List Commitment) (δ : Env) where
  module _ (B : List Thread) where
    commitment_same : (α : Prefix) (P : Process) (Q : Sum) (T T' : Agent) → ByCommitment Δ Γ δ B α P Q T → ByCommitment Δ Γ δ B α P Q T' → T ≡ T'
    unfolding ByCommitment
    commitment_same tau P Q T T' a a' = absurd a
    commitment_same (output c v) P Q T T' (ĉ, e, f, q) (ĉ', e', f', q') = let z : ĉ ≡ ĉ' = same_channel δ c ĉ ĉ' e e' in (rw z at q) ∙ sym q'
    commitment_same (input c x) P Q T T' (ĉ, e, f, q) (ĉ', e', f', q') = let z : ĉ ≡ ĉ' = same_channel δ c ĉ ĉ' e e' in (rw z at q) ∙ sym q'
    commitment_same (new_channel c) P Q T T' a a' = absurd a
    commitment_same (new_thread R) P Q T T' a a' = absurd a
    commitment_same (assign x e) P Q T T' a a' = absurd a

  -- a neighbour that is met has a commitment, so that nothing is committed to instead
  sends_only : (B : List Thread) (c v ĉ' : ℕ) (P : Process) (T : Agent) → Sends Δ δ B c v P T → look δ c ≡ Some (channel ĉ')
      → ((t : Thread) → t ∈ B → (x : ℕ) (S : Process) → takes ĉ' x S ∈ t.commitments → ⊥) → ⊥
  unfolding Sends
  sends_only [] c v ĉ' P T s e' f = s
  sends_only (u ∷ C) c v ĉ' P T (ĉ, x, R, w, e, i, g, q) e' f = let z : ĉ ≡ ĉ' = same_channel δ c ĉ ĉ' e e' in f u (inl refl) x R (rw z at i)

  receives_only : (B : List Thread) (c x ĉ' : ℕ) (P : Process) (T : Agent) → Receives Δ δ B c x P T → look δ c ≡ Some (channel ĉ')
      → ((t : Thread) → t ∈ B → (v : ℕ) (S : Process) → gives ĉ' v S ∈ t.commitments → ⊥) → ⊥
  unfolding Receives
  receives_only [] c x ĉ' P T s e' f = s
  receives_only (u ∷ C) c x ĉ' P T (ĉ, v, R, w, e, i, g, q) e' f = let z : ĉ ≡ ĉ' = same_channel δ c ĉ ĉ' e e' in f u (inl refl) v R (rw z at i)

  module _ (B : List Thread) where
    pub not_both : (α : Prefix) (P : Process) (Q : Sum) (T T' : Agent) → ByAction Δ δ B α P T → ByCommitment Δ Γ δ B α P Q T' → ⊥
    unfolding ByAction ByCommitment
    not_both tau P Q T T' a k = k
    not_both (output c v) P Q T T' a (ĉ, e, f, q) = sends_only B c v ĉ P T a e f
    not_both (input c x) P Q T T' a (ĉ, e, f, q) = receives_only B c x ĉ P T a e f
    not_both (new_channel c) P Q T T' a k = k
    not_both (new_thread R) P Q T T' a k = k
    not_both (assign x e) P Q T T' a k = k

    -- both are the action of one branch of the process S
    abbrev OfBranch : Process → Agent → Agent → Type 0
    OfBranch S T T' =
        (α : Prefix) × (P : Process) × InProcess δ (λ g β. holds δ g ≡ false) S α P × ByAction Δ δ B α P T × ByAction Δ δ B α P T'

    prefix_alike : (g : Guard) → holds δ g ≡ true → (k k' : Bool) (α : Prefix) (P : Process) (Q : Sum) (T T' : Agent)
        → ByPrefix Δ Γ δ B k α P Q T → ByPrefix Δ Γ δ B k' α P Q T' → (T ≡ T') ⊎ OfBranch (choice (branch g α P Q)) T T'
    unfolding ByPrefix InProcess InSum
    prefix_alike g y false false α P Q T T' a a' = inr (α, P, inl (y, refl, refl), a, a')
    prefix_alike g y false true α P Q T T' a a' = absurd (not_both α P Q T T' a a')
    prefix_alike g y true false α P Q T T' a a' = absurd (not_both α P Q T' T a' a)
    prefix_alike g y true true α P Q T T' a a' = inl (commitment_same B α P Q T T' a a')

    sum_alike : (k k' : Bool) (Q : Sum) (T T' : Agent) → BySum Δ Γ δ B k Q T → BySum Δ Γ δ B k' Q T' → (T ≡ T') ⊎ OfBranch (choice Q) T T'
    unfolding BySum InProcess InSum
    sum_alike k k' nothing T T' a b = absurd a
    sum_alike k k' (branch g α P Q) T T' (inl (f, a)) (inl (f', a')) =
        ⊎_elim (λ e. inl e) (λ (β, R, i, x, x'). inr (β, R, inr (f, i), x, x')) (sum_alike k k' Q T T' a a')
    sum_alike k k' (branch g α P Q) T T' (inl (f, a)) (inr (f', a')) = contra f' f
    sum_alike k k' (branch g α P Q) T T' (inr (f, a)) (inl (f', a')) = contra f f'
    sum_alike k k' (branch g α P Q) T T' (inr (f, a)) (inr (f', a')) = prefix_alike g f k k' α P Q T T' a a'
    sum_alike k k' (wait Q) T T' a b = absurd a

    process_alike : (def : ℕ → Process) (k k' : Bool) (S : Process) (T T' : Agent) → ByProcess Δ Γ δ B def k S T → ByProcess Δ Γ δ B def k' S T'
        → (T ≡ T') ⊎ OfBranch S T T'
    unfolding ByProcess
    process_alike def k k' (choice Q) T T' a a' = sum_alike k k' Q T T' a a'
    process_alike def false false end T T' e e' = inl (e ∙ sym e')
    process_alike def false true end T T' e e' = absurd e'
    process_alike def true k' end T T' e e' = absurd e
    process_alike def false false (invoke D vs) T T' (ws, e, q) (ws', e', q') =
        let z : map Some ws ≡ map Some ws' = sym e ∙ e' in inl ((rw z at q) ∙ sym q')
    process_alike def false true (invoke D vs) T T' a a' = absurd a'
    process_alike def true k' (invoke D vs) T T' a a' = absurd a

of_alike : (def : ℕ → Process) (Δ : Channels) (A : List Thread) (k k' : Bool) (T T' : Agent) → Of def Δ A k T → Of def Δ A k' T' → Alike (agent Δ A) T T'
unfolding Of
of_alike def Δ [] k k' T T' a a' = absurd a
of_alike def Δ (t ∷ B) k k' T T' a a' =
    ⊎_elim (λ e. same_end e) (λ (α, P, i, x, x'). same_branch t B α P refl i x x')
    (process_alike Δ t.commitments t.env B def k k' t.process T T' a a')

-- two reductions of the first thread from one agent end in the same agent, but for the name of a new channel and the commitment that is met
pub settled_choice : (def : ℕ → Process) {A T T' : Agent} → Acts def Nothing A T → Acts def Nothing A T' → Alike A T T'
settled_choice def {A} {T} {T'} r r' =
    of_alike def A.channels A.threads (commits def r) (commits def r') T T' (acts_of def r) (acts_of def r')

-- ---- along a turn

-- in a turn by 002's rules alone nothing could have gone otherwise, but for names of channels and for the commitments that are met
pub turn_forced : (def : ℕ → Process) {A B : Agent} (w : Run def Nothing A B) → Forced def w
unfolding Forced
turn_forced def (last r) = λ T r'. settled_choice def r r'
turn_forced def (pass r w) = ((λ T r'. settled_choice def r r'), turn_forced def w)
