-- The steps by which the code looks at a thread. These definitions serve the proofs alone: `Looking/Laws.antt` shows that they come to those of
-- `Threads.antt`.
pub mod Laws
use Rattle.std.specs.Prelude.{ℕ, zero, suc, Bool, true, false, ◌&&◌, ◌||◌, List, ltb, get_or, set}
use Rattle.table.specs.Table.{Table}
use Rattle.state.specs.State.{max_channels, stands_at, slot_of}
use Rattle.rules.specs.Program.{branch_at, field_a}
use Rattle.rules.specs.Offers.{offers_in}
use Rattle.rules.specs.declared.Direction.TheVariants.{Out, In}

-- marks of channels, those of the first n entries of a list set too
unfoldable pub raised_to : List Bool → List ℕ → ℕ → List Bool
raised_to k l zero = k
raised_to k l (suc n) = set (raised_to k l n) (get_or l n 0) true

-- c is a channel, and marked
unfoldable pub is_marked : List Bool → ℕ → Bool
is_marked k c = ltb c max_channels && get_or k c false

module _ (tb : Table) (row : List ℕ) (k : List Bool) where
  -- the branch in row r, of a thread's row, offers on its channel, in one direction or the other, and that channel is marked
  unfoldable pub reaches_by : ℕ → Bool
  reaches_by r =
      is_marked k (slot_of row (field_a tb r))
      && (offers_in tb row Out (slot_of row (field_a tb r)) r || offers_in tb row In (slot_of row (field_a tb r)) r)

  -- branch i of the node at which the thread stands does so
  unfoldable pub reaches_at : ℕ → Bool
  reaches_at i = reaches_by (branch_at tb (stands_at row) i)
