-- The rules of 002 as its Tables 2, 3 and 5 print them, each under its printed name (`inn` for (in), which is no name here).
--
-- Where the print leaves something open, this is how it is read:
--  - (inert) is printed for a thread alone, where nothing could bring it to a thread among others; here others may stand beside it, as in every other rule.
--  - (new): the identity is a new one, so it is not in Δ.
--  - What a rule evaluates has a value; (call): x₁ to xₙ are the first n variables.
--  - In the premise of (next), as in all rules but (par), the redex is the leftmost thread (002, section 3.1).
--  - A product has no order. (par) turns a product around, and two threads that meet need not be neighbours then; `exchange` says that the order does not count.
use Rattle.std.specs.Prelude.{ℕ, ◌≡◌, Bool, true, false, List, [], ◌∷◌, ◌++◌, map, ℤ, Option, Some, None}
use Rattle.std.specs.Int.{w32}
use Rattle.std.proofs.Common.{of_z}
use Rattle.published.specs.Syntax.{Guard, Expression, Process, end, choice, invoke, Sum, branch, Prefix, tau, output, input, new_channel, new_thread, assign, and_wait, waiting}
use Rattle.published.specs.Agents.{◌∈◌, Value, channel, number, Env, look, bind, holds, value_of, Commitment, gives, takes, Thread, thread, Channels, adding, Agent, agent, globalrc, Commits}

-- the same threads in another order
pub data Rearranged : List Thread → List Thread → Type 0 where
  none_left : Rearranged [] []
  same_first : {t : Thread} {A B : List Thread} → Rearranged A B → Rearranged (t ∷ A) (t ∷ B)
  swapped : {t u : Thread} {A : List Thread} → Rearranged (t ∷ u ∷ A) (u ∷ t ∷ A)
  twice : {A B C : List Thread} → Rearranged A B → Rearranged B C → Rearranged A C

-- ---- Tables 2 and 3 but for (par): the redex is the first thread. def gives the process of each definition; More is a set of further rules of this kind,
-- which is empty where only 002's count
module _ (def : ℕ → Process) (More : Agent → Agent → Type 0) where
  pub data Acts : Agent → Agent → Type 0 where
    -- ḡ = true: Δ ⊢ [Γ; δ] : [g] tau, P + Σ Qᵢ ∥ B → Δ ⊢ [∅; δ] : P ∥ B
    step : {Δ : Channels} {Γ : List Commitment} {δ : Env} {g : Guard} {P : Process} {Q : Sum} {B : List Thread}
        → holds δ g ≡ true
        → Acts (agent Δ (thread Γ δ (choice (branch g tau P Q)) ∷ B)) (agent Δ (thread [] δ P ∷ B))
    -- ḡ = true: Δ ⊢ [Γ; δ] : [g] new(c), P + Σ Qᵢ ∥ B → Δ, ĉ ⊢ [∅; δ, c ▷ ĉ] : P ∥ B
    new : {Δ : Channels} {Γ : List Commitment} {δ : Env} {g : Guard} {c : ℕ} {P : Process} {Q : Sum} {B : List Thread} (ĉ : ℕ)
        → holds δ g ≡ true
        → Δ ĉ ≡ false
        → Acts (agent Δ (thread Γ δ (choice (branch g (new_channel c) P Q)) ∷ B)) (agent (adding Δ ĉ) (thread [] (bind δ c (channel ĉ)) P ∷ B))
    -- ḡ = true: Δ ⊢ [Γ; δ] : [g] spawn{P}, Q + Σ Rᵢ ∥ B → Δ ⊢ [∅; δ] : P ∥ [∅; δ] : Q ∥ B
    spawn : {Δ : Channels} {Γ : List Commitment} {δ : Env} {g : Guard} {P Q : Process} {R : Sum} {B : List Thread}
        → holds δ g ≡ true
        → Acts (agent Δ (thread Γ δ (choice (branch g (new_thread P) Q R)) ∷ B)) (agent Δ (thread [] δ P ∷ thread [] δ Q ∷ B))
    -- ḡ = false, Δ ⊢ [Γ; δ] : Σ Qᵢ ∥ B → Δ' ⊢ [Γ'; δ'] : R ∥ B': Δ ⊢ [Γ; δ] : [g] P + Σ Qᵢ ∥ B → Δ' ⊢ [Γ'; δ'] : R ∥ B'
    next : {Δ Δ' : Channels} {Γ Γ' : List Commitment} {δ δ' : Env} {g : Guard} {α : Prefix} {P R : Process} {Q : Sum} {B B' : List Thread}
        → holds δ g ≡ false
        → Acts (agent Δ (thread Γ δ (choice Q) ∷ B)) (agent Δ' (thread Γ' δ' R ∷ B'))
        → Acts (agent Δ (thread Γ δ (choice (branch g α P Q)) ∷ B)) (agent Δ' (thread Γ' δ' R ∷ B'))
    -- def D(x₁, .., xₙ) = P: Δ ⊢ [Γ; δ] : D(v₁, .., vₙ) ∥ B → Δ ⊢ [∅; x₁ ▷ v̄₁, .., xₙ ▷ v̄ₙ] : P ∥ B
    call : {Δ : Channels} {Γ : List Commitment} {δ : Env} {D : ℕ} {vs : List ℕ} {B : List Thread} (ws : List Value)
        → map (look δ) vs ≡ map Some ws
        → Acts (agent Δ (thread Γ δ (invoke D vs) ∷ B)) (agent Δ (thread [] (map Some ws) (def D) ∷ B))
    -- Δ ⊢ [Γ; δ] : end → Δ ⊢ ∅
    inert : {Δ : Channels} {Γ : List Commitment} {δ : Env} {B : List Thread}
        → Acts (agent Δ (thread Γ δ end ∷ B)) (agent Δ B)
    -- ḡ = true, δ(c) = ĉ: Δ ⊢ [Γ; δ] : [g] c!v, P + Σ Qᵢ ∥ [Γ', ĉ ⇒ x: R; δ'] : S ∥ B → Δ ⊢ [∅; δ] : P ∥ [∅; δ', x ▷ v̄] : R ∥ B
    send : {Δ : Channels} {Γ Γ' : List Commitment} {δ δ' : Env} {g : Guard} {c v : ℕ} {P R S : Process} {Q : Sum} {B : List Thread} (ĉ x : ℕ) (w : Value)
        → holds δ g ≡ true
        → look δ c ≡ Some (channel ĉ)
        → takes ĉ x R ∈ Γ'
        → look δ v ≡ Some w
        → Acts (agent Δ (thread Γ δ (choice (branch g (output c v) P Q)) ∷ thread Γ' δ' S ∷ B))
        (agent Δ (thread [] δ P ∷ thread [] (bind δ' x w) R ∷ B))
    -- ḡ = true, δ(c) = ĉ, no ĉ ⇒ x: S in any Γⱼ: Δ ⊢ [Γ; δ] : [g] c!v, P + Σ Qᵢ ∥ ∏ⱼ .. → Δ ⊢ [Γ, ĉ ⇐ v: P; δ] : Σ Qᵢ + wait ∥ ∏ⱼ ..
    out : {Δ : Channels} {Γ : List Commitment} {δ : Env} {g : Guard} {c v : ℕ} {P : Process} {Q : Sum} {B : List Thread} (ĉ : ℕ)
        → holds δ g ≡ true
        → look δ c ≡ Some (channel ĉ)
        → ((t : Thread) → t ∈ B → (x : ℕ) (S : Process) → takes ĉ x S ∈ t.commitments → ⊥)
        → Acts (agent Δ (thread Γ δ (choice (branch g (output c v) P Q)) ∷ B)) (agent Δ (thread (Γ ++ (gives ĉ v P ∷ [])) δ (choice (and_wait Q)) ∷ B))
    -- ḡ = true, δ(c) = ĉ: Δ ⊢ [Γ; δ] : [g] c?(x), P + Σ Qᵢ ∥ [Γ', ĉ ⇐ v: R; δ'] : S ∥ B → Δ ⊢ [∅; δ, x ▷ v̄] : P ∥ [∅; δ'] : R ∥ B
    recv : {Δ : Channels} {Γ Γ' : List Commitment} {δ δ' : Env} {g : Guard} {c x : ℕ} {P R S : Process} {Q : Sum} {B : List Thread} (ĉ v : ℕ) (w : Value)
        → holds δ g ≡ true
        → look δ c ≡ Some (channel ĉ)
        → gives ĉ v R ∈ Γ'
        → look δ' v ≡ Some w
        → Acts (agent Δ (thread Γ δ (choice (branch g (input c x) P Q)) ∷ thread Γ' δ' S ∷ B))
        (agent Δ (thread [] (bind δ x w) P ∷ thread [] δ' R ∷ B))
    -- ḡ = true, δ(c) = ĉ, no ĉ ⇐ v: S in any Γⱼ: Δ ⊢ [Γ; δ] : [g] c?(x), P + Σ Qᵢ ∥ ∏ⱼ .. → Δ ⊢ [Γ, ĉ ⇒ x: P; δ] : Σ Qᵢ + wait ∥ ∏ⱼ ..
    inn : {Δ : Channels} {Γ : List Commitment} {δ : Env} {g : Guard} {c x : ℕ} {P : Process} {Q : Sum} {B : List Thread} (ĉ : ℕ)
        → holds δ g ≡ true
        → look δ c ≡ Some (channel ĉ)
        → ((t : Thread) → t ∈ B → (v : ℕ) (S : Process) → gives ĉ v S ∈ t.commitments → ⊥)
        → Acts (agent Δ (thread Γ δ (choice (branch g (input c x) P Q)) ∷ B)) (agent Δ (thread (Γ ++ (takes ĉ x P ∷ [])) δ (choice (and_wait Q)) ∷ B))
    more : {A B : Agent} → More A B → Acts A B

-- ---- Table 5

pub data Reclaims : Agent → Agent → Type 0 where
  -- globalrc(ĉ, A) = 0: Δ, ĉ ⊢ A → Δ ⊢ A
  reclaim : {Δ : Channels} {A : List Thread} (ĉ : ℕ)
      → Δ ĉ ≡ false
      → globalrc ĉ A ≡ 0
      → Reclaims (agent (adding Δ ĉ) A) (agent Δ A)

pub data Sticks : Agent → Agent → Type 0 where
  -- globalrc(ĉ, B) = 0 for each ĉ in the Γᵢ: Δ ⊢ ∏ᵢ [Γᵢ; δᵢ] : Σ wait ∥ B → Δ ⊢ B
  stuck : {Δ : Channels} (A B : List Thread)
      → ((t : Thread) → t ∈ A → waiting t.process ≡ true)
      → ((t : Thread) → t ∈ A → (ĉ : ℕ) → Commits t.commitments ĉ → globalrc ĉ B ≡ 0)
      → Sticks (agent Δ (A ++ B)) (agent Δ B)

-- ---- all reductions: (par) of Table 2, the rules above, and that the order of threads does not count
module _ (def : ℕ → Process) (More : Agent → Agent → Type 0) where
  pub data Reduces : Agent → Agent → Type 0 where
    -- Δ ⊢ A ∥ B → Δ' ⊢ A' ∥ B: Δ ⊢ B ∥ A → Δ' ⊢ B ∥ A'
    par : {Δ Δ' : Channels} (A A' B : List Thread)
        → Reduces (agent Δ (A ++ B)) (agent Δ' (A' ++ B))
        → Reduces (agent Δ (B ++ A)) (agent Δ' (B ++ A'))
    acts : {A B : Agent} → Acts def More A B → Reduces A B
    reclaims : {A B : Agent} → Reclaims A B → Reduces A B
    sticks : {A B : Agent} → Sticks A B → Reduces A B
    exchange : {Δ Δ' : Channels} {A A' B B' : List Thread} → Rearranged A A'
        → Reduces (agent Δ A') (agent Δ' B')
        → Rearranged B' B → Reduces (agent Δ A) (agent Δ' B)

-- no further rules
unfoldable pub Nothing : Agent → Agent → Type 0
Nothing A B = ⊥

-- any number of them, one after the other
pub data Many (R : Agent → Agent → Type 0) : Agent → Agent → Type 0 where
  stays : {A : Agent} → Many R A A
  goes : {A B C : Agent} → R A B → Many R B C → Many R A C

abbrev pub Reaches : (ℕ → Process) → (Agent → Agent → Type 0) → Agent → Agent → Type 0
Reaches def More = Many (Reduces def More)

-- reductions of the first thread, at least one: each before the last changes that thread and nothing else
module _ (def : ℕ → Process) (More : Agent → Agent → Type 0) where
  pub data Run : Agent → Agent → Type 0 where
    last : {A B : Agent} → Acts def More A B → Run A B
    pass : {Δ : Channels} {t t' : Thread} {B : List Thread} {C : Agent} → Acts def More (agent Δ (t ∷ B)) (agent Δ (t' ∷ B)) → Run (agent Δ (t' ∷ B)) C
        → Run (agent Δ (t ∷ B)) C

-- a turn of thread t, which takes the agent A to the agent B: t is brought to the first place, and the reductions are of it. So besides t only the threads take
-- part that it meets or makes in the last of them
pub record Turn (def : ℕ → Process) (More : Agent → Agent → Type 0) (A : Agent) (t : Thread) (B : Agent) : Type 0 where
  pub others : List Thread
  pub brought : Rearranged A.threads (t ∷ others)
  pub product : List Thread
  pub run : Run def More (agent A.channels (t ∷ others)) (agent B.channels product)
  pub put_back : Rearranged product B.threads

-- a turn, and then any number of uses of (reclaim)
pub record Stepped (def : ℕ → Process) (More : Agent → Agent → Type 0) (A : Agent) (t : Thread) (B : Agent) : Type 0 where
  pub between : Agent
  pub turn : Turn def More A t between
  pub reclaimed : Many Reclaims between B

-- ---- document 01's own rules. They act on one thread alone
--  - skip: a branch with a false guard is passed over, and a wait left in its place as by (out) and (in). By 002 alone a branch with a false guard goes
--    only together with a reduction of the branches behind it (next). So a thread whose last guards are false, or all of them, never comes to Σ wait and
--    counts as active for ever; in document 01 it waits.
--  - assign: an assignment that has a value goes ahead as a tau does, and binds its variable to it.
--  - zeros: where a definition begins, its variables for numbers that have no value yet are 0, and no other variable changes. (An environment is a list;
--    variables behind its end are unbound too.)

-- what a variable is bound to once it is 0 if it is for numbers and has no value
unfoldable pub zeroed : Bool → Option Value → Option Value
zeroed true None = Some (number 0)
zeroed true (Some v) = Some v
zeroed false o = o

-- `for_numbers` says which variables of each definition are for numbers
module _ (def : ℕ → Process) (for_numbers : ℕ → ℕ → Bool) where
  pub data Ours : Agent → Agent → Type 0 where
    -- ḡ = false: Δ ⊢ [Γ; δ] : [g] P + Σ Qᵢ ∥ B → Δ ⊢ [Γ; δ] : Σ Qᵢ + wait ∥ B
    skip : {Δ : Channels} {Γ : List Commitment} {δ : Env} {g : Guard} {α : Prefix} {P : Process} {Q : Sum} {B : List Thread}
        → holds δ g ≡ false
        → Ours (agent Δ (thread Γ δ (choice (branch g α P Q)) ∷ B)) (agent Δ (thread Γ δ (choice (and_wait Q)) ∷ B))
    -- ḡ = true, ē = z: Δ ⊢ [Γ; δ] : [g] x := e, P + Σ Qᵢ ∥ B → Δ ⊢ [∅; δ, x ▷ z] : P ∥ B
    assigns : {Δ : Channels} {Γ : List Commitment} {δ : Env} {g : Guard} {x : ℕ} {e : Expression} {P : Process} {Q : Sum} {B : List Thread} (z : ℤ)
        → holds δ g ≡ true
        → value_of δ e ≡ Some z
        → Ours (agent Δ (thread Γ δ (choice (branch g (assign x e) P Q)) ∷ B)) (agent Δ (thread [] (bind δ x (number (of_z w32 z))) P ∷ B))
    -- def D(..) = P: Δ ⊢ [∅; δ] : P ∥ B → Δ ⊢ [∅; δ, x ▷ 0, ..] : P ∥ B for each x that is for numbers in D and that δ does not bind
    zeros : {Δ : Channels} {δ δ' : Env} {B : List Thread} (D : ℕ)
        → ((x : ℕ) → look δ' x ≡ zeroed (for_numbers D x) (look δ x))
        → Ours (agent Δ (thread [] δ (def D) ∷ B)) (agent Δ (thread [] δ' (def D) ∷ B))
