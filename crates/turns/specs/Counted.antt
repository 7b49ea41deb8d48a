-- A state in the midst of a run: the types of its channel rows and their counts of holders are right, but their counts of waiting holders are left as
-- they were. What it stands for is what it is once settled.
pub mod Laws
use Rattle.std.specs.Prelude.{ℕ, zero, suc, ◌<◌, ◌≡◌, List, [], length, get_or, set, take}
use Rattle.table.specs.Table.{Table}
use Rattle.state.specs.State.{State, max_channels, with_channels}
use Rattle.rules.specs.Holding.{settled}

-- channel rows with the same types and the same counts of holders
unfoldable pub Alike : List (List ℕ) → List (List ℕ) → Type 0
Alike a b = (length a ≡ max_channels) × (length b ≡ max_channels) × ((c : ℕ) → c < max_channels → take 2 (get_or a c []) ≡ take 2 (get_or b c []))

-- the types of a state's channels and their counts of holders are right
unfoldable pub Counted : Table → State → Type 0
Counted tb s = Alike s.channels (settled tb s).channels

-- the first k channel rows with their counts of waiting holders from a list
unfoldable pub weighed_to : List ℕ → List (List ℕ) → ℕ → List (List ℕ)
weighed_to l chs zero = chs
weighed_to l chs (suc k) = set (weighed_to l chs k) k (set (get_or (weighed_to l chs k) k []) 2 (get_or l k 0))

-- a state whose first k channel rows have their counts of waiting holders from a list
unfoldable pub weighed : List ℕ → State → ℕ → State
weighed l s k = with_channels s (weighed_to l s.channels k)
