-- The place that a row's thread has in 002's agent. `proofs/Taking.antt` says which threads a collection takes.
use Rattle.std.specs.Prelude.{ℕ, suc}
use Rattle.state.specs.State.{State}
use Rattle.published_laws.specs.Places.{rank}

-- the place of row t's thread among those of the agent: the bench comes first, and then the rows in use in their order
abbrev pub place_in : State → ℕ → ℕ
place_in s t = suc (rank s.threads t)
