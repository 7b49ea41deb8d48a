-- The steps by which the code lays the lines of a listing into its buffer. These definitions serve the proofs alone.
pub mod Laws
use Rattle.std.specs.Prelude.{ℕ, not, ◌&&◌, cond, List, [], ◌∷◌, map, take}
use Rattle.numbers.specs.Bytes.{joined}
use Rattle.numbers.specs.Count.{bit}
use Rattle.numbers.specs.Search.{sum_to, tabulate}
use Rattle.state.specs.State.{State, thread, stands_at, in_use}
use Rattle.rules.specs.Moves.{is_free_channel}
use Rattle.listing_lines.specs.Lines.{column, line}

-- the columns of the first i numbers of a line
unfoldable pub columns_to : List ℕ → ℕ → List ℕ
columns_to vs i = joined (map column (take i vs))

-- how many of the channels below n are in use
unfoldable pub in_use_to : State → ℕ → ℕ
in_use_to s n = sum_to (λ c. bit (not (is_free_channel s c))) n

-- of states before and after a collection: the line of thread t, if its row was in use before and is free after; those of the threads below n
module _ (s s₁ : State) where
  unfoldable pub gone_line : ℕ → List ℕ
  gone_line t = cond (in_use (thread s t) && not (in_use (thread s₁ t))) (line (t ∷ stands_at (thread s t) ∷ [])) []

  unfoldable pub gone_lines : ℕ → List ℕ
  gone_lines n = joined (tabulate n gone_line)
