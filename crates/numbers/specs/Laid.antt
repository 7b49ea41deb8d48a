-- A list that is being laid from the front: the first p entries are there, the rest is 0 still.
pub mod Laws
use Rattle.std.specs.Prelude.{ℕ, ◌-◌, List, ◌++◌, replicate}
use Rattle.numbers.specs.Search.{tabulate}

unfoldable pub laid : (ℕ → ℕ) → ℕ → ℕ → List ℕ
laid f p n = tabulate p f ++ replicate (n - p) 0
