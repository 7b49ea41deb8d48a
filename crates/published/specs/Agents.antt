-- The agents of 002 (section 3): a set of channels Δ, and threads [Γ; δ] : P with a set of commitments, an environment and a process.
use Rattle.std.specs.Prelude.{ℕ, zero, suc, ◌≡◌, ◌⊎◌, Bool, true, false, ◌&&◌, ◌||◌, List, [], ◌∷◌, eqb, get_or, ◌+ℤ◌, ◌-ℤ◌, Option, Some, ℤ, None}
use Rattle.std.specs.Int.{w32}
use Rattle.std.proofs.Common.{to_z}
use Rattle.numbers.specs.Count.{count}
use Rattle.numbers.specs.Signed.{narrowed, is_exact, lower}
use Rattle.published.specs.Syntax.{Expression, constant, plus, minus, Guard, always, equals, below, same, less, and_fits, Process, end}

infix 4 ◌∈◌
-- a is one of a list
abbrev pub ◌∈◌ : {A : Type 0} → A → List A → Type 0
◌∈◌ a [] = ⊥
◌∈◌ a (b ∷ l) = (a ≡ b) ⊎ (a ∈ l)

-- ---- environments

-- a channel, or a number by its pattern of 32 bits
pub data Value : Type 0 where
  channel number : ℕ → Value

-- δ: what each variable, by its number, is bound to. Two variables may be bound to one channel (002 speaks of aliasing)
abbrev pub Env : Type 0
Env = List (Option Value)

-- δ(x), which is also the evaluation of the variable x
abbrev pub look : Env → ℕ → Option Value
look δ x = get_or δ x None

-- δ, x ▷ v: an earlier binding of x is discarded
unfoldable pub bind : Env → ℕ → Value → Env
bind [] zero v = Some v ∷ []
bind [] (suc x) v = None ∷ bind [] x v
bind (o ∷ δ) zero v = Some v ∷ δ
bind (o ∷ δ) (suc x) v = o ∷ bind δ x v

-- the number that a variable is bound to; document 01: 0 where it is not written
unfoldable pub numeric : Option Value → ℕ
numeric None = 0
numeric (Some (channel c)) = 0
numeric (Some (number n)) = n

abbrev pub number_of : Env → ℕ → ℕ
number_of δ x = numeric (look δ x)

-- what an assignment's expression evaluates to: sums and differences of whole numbers, if they fit into 32 signed bits
unfoldable pub value_of : Env → Expression → Option ℤ
value_of δ (constant n) = Some (to_z w32 n)
value_of δ (plus x y) = narrowed (to_z w32 (number_of δ x) +ℤ to_z w32 (number_of δ y))
value_of δ (minus x y) = narrowed (to_z w32 (number_of δ x) -ℤ to_z w32 (number_of δ y))

-- whether a guard evaluates to true
unfoldable pub holds : Env → Guard → Bool
holds δ always = true
holds δ (equals x n) = eqb (number_of δ x) n
holds δ (below x n) = lower (number_of δ x) n
holds δ (same x y) = eqb (number_of δ x) (number_of δ y)
holds δ (less x y) = lower (number_of δ x) (number_of δ y)
holds δ (and_fits g e) = holds δ g && is_exact (value_of δ e)

-- ---- threads and agents

-- ĉ ⇐ v : Q, an output commitment, with the variable v as its expression; ĉ ⇒ x : Q, an input commitment
pub data Commitment : Type 0 where
  gives takes : ℕ → ℕ → Process → Commitment

-- the channel of a commitment
unfoldable pub channel_of : Commitment → ℕ
channel_of (gives c v Q) = c
channel_of (takes c x Q) = c

-- [Γ; δ] : P. The commitments are kept in the order in which they were made
pub record Thread : Type 0 where
  pub commitments : List Commitment
  pub env : Env
  pub process : Process

abbrev pub thread : List Commitment → Env → Process → Thread
thread Γ δ P = record { commitments = Γ; env = δ; process = P }

-- Δ
abbrev pub Channels : Type 0
Channels = ℕ → Bool

-- Δ, ĉ
unfoldable pub adding : Channels → ℕ → Channels
adding Δ c e = eqb e c || Δ e

-- Δ ⊢ Π₁ ∥ .. ∥ Πₙ
pub record Agent : Type 0 where
  pub channels : Channels
  pub threads : List Thread

abbrev pub agent : Channels → List Thread → Agent
agent Δ A = record { channels = Δ; threads = A }

-- thread j of a product, counted from 0; past the last there is none, for which a thread at its end stands
abbrev pub nth : List Thread → ℕ → Thread
nth A j = get_or A j (thread [] [] end)

-- ---- Table 5: who knows a channel

-- a variable is bound to channel c
unfoldable pub refers : ℕ → Option Value → Bool
refers c None = false
refers c (Some (channel e)) = eqb e c
refers c (Some (number n)) = false

-- some variable of the environment is bound to it
unfoldable pub mentions : ℕ → Env → Bool
mentions c [] = false
mentions c (o ∷ δ) = refers c o || mentions c δ

unfoldable pub knows : ℕ → Thread → Bool
knows c t = mentions c t.env

-- how many threads know it, each counted once
unfoldable pub globalrc : ℕ → List Thread → ℕ
globalrc c A = count (knows c) A

-- ĉ ∈ Γ: a commitment is on channel c
abbrev pub Commits : List Commitment → ℕ → Type 0
Commits Γ c = (k : Commitment) × (k ∈ Γ) × (channel_of k ≡ c)
