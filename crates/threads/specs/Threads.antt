-- What the engine answers of one thread to a layer above it, in the words of the rules.
pub mod Laws
use Rattle.std.specs.Prelude.{ℕ, Bool, false, ◌&&◌, ◌||◌, List, get_or}
use Rattle.numbers.specs.Search.{some, tabulate}
use Rattle.table.specs.Table.{Table}
use Rattle.state.specs.State.{max_channels}
use Rattle.rules.specs.Holding.{holds}
use Rattle.rules.specs.Offers.{offers}
use Rattle.rules.specs.declared.Direction.TheVariants.{Out, In}

-- of the row of a thread, and marks of channels
module _ (tb : Table) (row : List ℕ) (marks : List Bool) where
  -- it offers, in one direction or the other, on a channel that is marked
  unfoldable pub offers_marked : Bool
  offers_marked = some (λ c. get_or marks c false && (offers tb row Out c || offers tb row In c)) max_channels

  -- the marks, with those of the channels that it holds
  unfoldable pub with_held : List Bool
  with_held = tabulate max_channels (λ c. get_or marks c false || holds tb row c)
