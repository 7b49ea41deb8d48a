-- What 002's rules leave open to a thread in the first place: the name of a new channel, and which commitment of its neighbour it meets. All else is settled:
-- the branches are tried in their order (002: the local priority). `proofs/Choices.antt` shows it.
use Rattle.std.specs.Prelude.{ℕ, ◌≡◌, ◌⊎◌, Bool, Some}
use Rattle.std.proofs.Math.Bool.{true, false}
use mathlib.Core.List.{List, [], ◌∷◌, ◌++◌, map}
use Rattle.published.specs.Syntax.{Guard, Process, end, choice, invoke, Sum, nothing, branch, wait, Prefix, tau, output, input, new_channel, new_thread, assign, and_wait}
use Rattle.published.specs.Agents.{◌∈◌, Value, channel, Env, look, bind, holds, Commitment, gives, takes, Thread, thread, Channels, adding, Agent, agent}
use Rattle.published.specs.Rules.{Acts, step, new, spawn, next, call, inert, send, out, recv, inn, more, Nothing, Run, last, pass}

-- ---- what a reduction of the first thread, with Γ and δ, comes to

-- whether it is (out) or (in), behind branches whose guards are false (next) or not: then the thread has one commitment more, and goes on to the branches
-- behind. Every other reduction is an action
unfoldable pub commits : (def : ℕ → Process) {A T : Agent} → Acts def Nothing A T → Bool
commits def (step g) = false
commits def (new ĉ g f) = false
commits def (spawn g) = false
commits def (next g r) = commits def r
commits def (call ws e) = false
commits def inert = false
commits def (send ĉ x w g c i v) = false
commits def (out ĉ g c f) = true
commits def (recv ĉ v w g c i e) = false
commits def (inn ĉ g c f) = true
commits def (more m) = false

module _ (Δ : Channels) (δ : Env) where
  -- (send): with the neighbour, by one of its commitments
  unfoldable pub Sends : List Thread → ℕ → ℕ → Process → Agent → Type 0
  Sends [] c v P T = ⊥
  Sends (u ∷ C) c v P T =
      (ĉ : ℕ) × (x : ℕ) × (R : Process) × (w : Value) × (look δ c ≡ Some (channel ĉ)) × (takes ĉ x R ∈ u.commitments) × (look δ v ≡ Some w)
      × (T ≡ agent Δ (thread [] δ P ∷ thread [] (bind u.env x w) R ∷ C))

  -- (recv)
  unfoldable pub Receives : List Thread → ℕ → ℕ → Process → Agent → Type 0
  Receives [] c x P T = ⊥
  Receives (u ∷ C) c x P T =
      (ĉ : ℕ) × (v : ℕ) × (R : Process) × (w : Value) × (look δ c ≡ Some (channel ĉ)) × (gives ĉ v R ∈ u.commitments) × (look u.env v ≡ Some w)
      × (T ≡ agent Δ (thread [] (bind δ x w) P ∷ thread [] u.env R ∷ C))

  -- the action of a prefix whose guard is true
  unfoldable pub ByAction : List Thread → Prefix → Process → Agent → Type 0
  ByAction B tau P T = T ≡ agent Δ (thread [] δ P ∷ B)
  ByAction B (output c v) P T = Sends B c v P T
  ByAction B (input c x) P T = Receives B c x P T
  ByAction B (new_channel c) P T = (ĉ : ℕ) × (Δ ĉ ≡ false) × (T ≡ agent (adding Δ ĉ) (thread [] (bind δ c (channel ĉ)) P ∷ B))
  ByAction B (new_thread R) P T = T ≡ agent Δ (thread [] δ R ∷ thread [] δ P ∷ B)
  ByAction B (assign x e) P T = ⊥

module _ (Δ : Channels) (Γ : List Commitment) (δ : Env) (B : List Thread) where
  -- (out) and (in), where the branches Q are behind the prefix
  unfoldable pub ByCommitment : Prefix → Process → Sum → Agent → Type 0
  ByCommitment tau P Q T = ⊥
  ByCommitment (output c v) P Q T =
      (ĉ : ℕ) × (look δ c ≡ Some (channel ĉ)) × ((t : Thread) → t ∈ B → (x : ℕ) (S : Process) → takes ĉ x S ∈ t.commitments → ⊥)
      × (T ≡ agent Δ (thread (Γ ++ (gives ĉ v P ∷ [])) δ (choice (and_wait Q)) ∷ B))
  ByCommitment (input c x) P Q T =
      (ĉ : ℕ) × (look δ c ≡ Some (channel ĉ)) × ((t : Thread) → t ∈ B → (v : ℕ) (S : Process) → gives ĉ v S ∈ t.commitments → ⊥)
      × (T ≡ agent Δ (thread (Γ ++ (takes ĉ x P ∷ [])) δ (choice (and_wait Q)) ∷ B))
  ByCommitment (new_channel c) P Q T = ⊥
  ByCommitment (new_thread R) P Q T = ⊥
  ByCommitment (assign x e) P Q T = ⊥

  -- by a prefix whose guard is true: its action or, where k is true, its commitment
  unfoldable pub ByPrefix : Bool → Prefix → Process → Sum → Agent → Type 0
  ByPrefix false α P Q T = ByAction Δ δ B α P T
  ByPrefix true α P Q T = ByCommitment α P Q T

  -- by a sum: its first branch if the guard is true, else one behind it; a wait does nothing
  unfoldable pub BySum : Bool → Sum → Agent → Type 0
  BySum k nothing T = ⊥
  BySum k (branch g α P Q) T = ((holds δ g ≡ false) × BySum k Q T) ⊎ ((holds δ g ≡ true) × ByPrefix k α P Q T)
  BySum k (wait Q) T = ⊥

  unfoldable pub ByProcess : (ℕ → Process) → Bool → Process → Agent → Type 0
  ByProcess def k (choice Q) T = BySum k Q T
  ByProcess def false end T = T ≡ agent Δ B
  ByProcess def true end T = ⊥
  ByProcess def false (invoke D vs) T = (ws : List Value) × (map (look δ) vs ≡ map Some ws) × (T ≡ agent Δ (thread [] (map Some ws) (def D) ∷ B))
  ByProcess def true (invoke D vs) T = ⊥

-- of an agent: of its first thread
unfoldable pub Of : (ℕ → Process) → Channels → List Thread → Bool → Agent → Type 0
Of def Δ [] k T = ⊥
Of def Δ (t ∷ B) k T = ByProcess Δ t.commitments t.env B def k t.process T

-- ---- two of them

-- [g] α, P is a branch of a sum with a true guard, and what Over says holds of the guard and the prefix of each branch in front of it
module _ (δ : Env) (Over : Guard → Prefix → Type 0) where
  unfoldable pub InSum : Sum → Prefix → Process → Type 0
  InSum nothing α P = ⊥
  InSum (branch g β R Q) α P = ((holds δ g ≡ true) × (β ≡ α) × (R ≡ P)) ⊎ (Over g β × InSum Q α P)
  InSum (wait Q) α P = ⊥

  unfoldable pub InProcess : Process → Prefix → Process → Type 0
  InProcess end α P = ⊥
  InProcess (choice Q) α P = InSum Q α P
  InProcess (invoke D vs) α P = ⊥

-- α, P is the first branch of t whose guard is true, which is the one that (next) leads to
abbrev pub FirstTrue : Thread → Prefix → Process → Type 0
FirstTrue t α P = InProcess t.env (λ g β. holds t.env g ≡ false) t.process α P

-- what two reductions of the first thread from the agent A may differ in
pub data Alike (A T T' : Agent) : Type 0 where
  -- nothing
  same_end : T ≡ T' → Alike A T T'
  -- what the action of one branch leaves open: (new) the name of the channel, (send) and (recv) which commitment of the neighbour on the channel is met
  same_branch : (t : Thread) (B : List Thread) (α : Prefix) (P : Process) → A.threads ≡ t ∷ B → FirstTrue t α P
      → ByAction A.channels t.env B α P T → ByAction A.channels t.env B α P T' → Alike A T T'

-- ---- along a turn

-- at each point of it every reduction of the first thread by 002's rules is like the one that is made
unfoldable pub Forced : (def : ℕ → Process) {A B : Agent} → Run def Nothing A B → Type 0
Forced def (last {A} {B} r) = (T : Agent) → Acts def Nothing A T → Alike A B T
Forced def (pass {Δ} {t} {t'} {B} {C} r w) =
    ((T : Agent) → Acts def Nothing (agent Δ (t ∷ B)) T → Alike (agent Δ (t ∷ B)) (agent Δ (t' ∷ B)) T) × Forced def w
