-- Waiting threads of which no two could meet.
use Rattle.std.specs.Prelude.{ℕ, ◌<◌, ◌≡◌, true, List, [], ◌≢◌, get_or}
use Rattle.table.specs.Table.{Table}
use Rattle.state.specs.State.{max_threads}
use Rattle.rules.specs.Program.{opposite}
use Rattle.rules.specs.Offers.{offers}
use Rattle.rules.specs.declared.Direction.{Direction}

-- no two threads that wait offer to meet one another (002, Proposition 2: the polarity of a channel's commitments)
unfoldable pub Apart : Table → List (List ℕ) → Type 0
Apart tb ths =
    (t u : ℕ) → t < max_threads → u < max_threads → t ≢ u → (d : Direction) (c : ℕ)
    → offers tb (get_or ths t []) d c ≡ true → offers tb (get_or ths u []) (opposite d) c ≡ true → ⊥
