-- The steps by which the code lists the channels of a row. These definitions serve the proofs alone: `Listing/Laws.antt` shows that they come to `own_list`.
pub mod Laws
use Rattle.std.specs.Prelude.{ℕ, zero, suc, ◌+◌, Bool, cond, List, ltb, eqb, get_or, set}
use Rattle.numbers.specs.Rows.{at}
use Rattle.numbers.specs.Search.{some}
use Rattle.table.specs.Fields as Field
use Rattle.table.specs.Table.{Table}
use Rattle.state.specs.State.{max_channels, slot_of}

-- whether one of the first n entries of a list is c
unfoldable pub listed : List ℕ → ℕ → ℕ → Bool
listed l n c = some (λ i. eqb (get_or l i 0) c) n

module _ (tb : Table) (from : ℕ) (row : List ℕ) where
  -- the channel in slot k of a row, the types of whose slots stand from a row of the table on; 128 where it has a number or no channel
  unfoldable pub channel_by : ℕ → ℕ
  channel_by k =
      cond (ltb (slot_of row k) max_channels) (cond (eqb (at tb (from + k) Field.type) 0) max_channels (slot_of row k)) max_channels

  -- the same where the list does not have it from the slots before
  unfoldable pub own_by : List ℕ → ℕ → ℕ
  own_by l k = cond (listed l k (channel_by k)) max_channels (channel_by k)

  -- a list with the first k of its entries written so
  unfoldable pub listed_to : List ℕ → ℕ → List ℕ
  listed_to l zero = l
  listed_to l (suc k) = set (listed_to l k) k (own_by (listed_to l k) k)
