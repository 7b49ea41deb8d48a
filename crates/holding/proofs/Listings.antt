-- What the list of a row's channels comes to. Assumes nothing.
use Prim.Native.Nat.{ℕ, ◌+◌, ◌≤◌}
use native.Mathlib.Omega.{arith}
use native.Mathlib.Numerals.{add-one}
use mathlib.Core.Path.{◌≡◌, refl, ◌∙◌}
use mathlib.Core.Bool.{true}
use mathlib.Core.List.{List}
use lib.ListN.{set, replicate}
use Rattle.table.specs.Table.{Table}
use Rattle.state.specs.State.{in_use, max_channels, row_slots}
use Rattle.holding.specs.Own.{own_list, own_room, types_of}
use Rattle.holding.specs.Own.Listing.{own_by, listed_to}
use Rattle.holding.specs.Own.Listing.Laws.{listed_own}

-- list_own
module _ (tb : Table) (from : ℕ) (row l : List ℕ) where
  pub list_none : l ≡ listed_to tb from row l 0
  unfolding listed_to
  list_none = refl

  pub list_more : (m : List ℕ) (k c : ℕ) → m ≡ listed_to tb from row l k → c ≡ own_by tb from row m k → set m k c ≡ listed_to tb from row l (k + 1)
  unfolding listed_to
  list_more m k c e f = rw (f, e, add-one k)

  pub list_all : (m : List ℕ) (k n : ℕ) → m ≡ listed_to tb from row l k → k ≤ n → n ≤ k → m ≡ listed_to tb from row l n
  list_all m k n e h i = let q : k ≡ n = omega arith in rw q at e

-- own_channels: n and from are the number of the row's slots and the place of their types
pub own_list_is : (tb : Table) (row m : List ℕ) (n from : ℕ) → m ≡ listed_to tb from row (replicate row_slots max_channels) n → n ≡ own_room tb row
    → (in_use row ≡ true → from ≡ types_of tb row) → m ≡ own_list tb row
own_list_is tb row m n from f g e = f ∙ rw g (listed_own tb row from e)
