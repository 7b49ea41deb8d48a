-- Proposition 2 of 002: all commitments to a channel are of one polarity. `proofs/Polarity.antt` proves it.
use Rattle.std.specs.Prelude.{ℕ, ◌<◌, ◌≡◌, ◌≢◌, List, [], ◌∷◌, length}
use Rattle.published.specs.Syntax.{Process}
use Rattle.published.specs.Agents.{◌∈◌, Commitment, gives, takes, Thread, nth}

-- no output commitment of the one thread is on a channel of an input commitment of the other
abbrev pub Meetless : List Commitment → List Commitment → Type 0
Meetless Γ Γ' = (ĉ v x : ℕ) (Q R : Process) → gives ĉ v Q ∈ Γ → takes ĉ x R ∈ Γ' → ⊥

-- the proposition, thread by thread: each and all those behind it
abbrev pub Polar : List Thread → Type 0
Polar [] = Unit {0}
Polar (t ∷ A) = ((u : Thread) → u ∈ A → Meetless t.commitments u.commitments × Meetless u.commitments t.commitments) × Polar A

-- the proposition as it is printed: no channel has an output commitment of a thread j and an input commitment of another, k
abbrev pub OnePolarity : List Thread → Type 0
OnePolarity A = (j k : ℕ) → j < length A → k < length A → j ≢ k → Meetless (nth A j).commitments (nth A k).commitments

-- threads without commitments
abbrev pub Bare : List Thread → Type 0
Bare A = (t : Thread) → t ∈ A → t.commitments ≡ []
