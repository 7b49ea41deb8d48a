-- Where one commitment alone can be met. Then 002 leaves nothing open to a thread that sends or receives, as `proofs/Sole.antt` shows.
use Rattle.std.specs.Prelude.{ℕ, ◌≡◌}
use mathlib.Core.List.{List}
use Rattle.published.specs.Agents.{◌∈◌, Commitment, channel_of, Thread}

-- no two commitments on channel ĉ, unless they are the same and of threads that are the same
abbrev pub Sole : List Thread → ℕ → Type 0
Sole A ĉ =
    (u u' : Thread) (k k' : Commitment) → u ∈ A → u' ∈ A → k ∈ u.commitments → k' ∈ u'.commitments → channel_of k ≡ ĉ → channel_of k' ≡ ĉ
    → (u ≡ u') × (k ≡ k')
