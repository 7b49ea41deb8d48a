-- The channels that a thread's row holds, each once. `Own/Laws.antt` says what they have to do with `holds`.
pub mod Laws
pub mod Listing
use Rattle.std.specs.Prelude.{ℕ, ◌+◌, Bool, ◌&&◌, cond, List, ltb, eqb}
use Rattle.numbers.specs.Search.{some, tabulate}
use Rattle.table.specs.Table.{Table, slot_row, slot_count}
use Rattle.table.specs.Layout.{start, definition_of}
use Rattle.table.specs.declared.Part.TheVariants.{Slots}
use Rattle.state.specs.State.{max_channels, row_slots, status, stands_at, slot_of, in_use}
use Rattle.rules.specs.Program.{channel_slot}
use Rattle.rules.specs.Holding.{has_at}

-- how many slots a row of this status and definition has: none where it is free
unfoldable pub room : Table → ℕ → ℕ → ℕ
room tb status d = cond (eqb status 0) 0 (cond (ltb (slot_count tb d) row_slots) (slot_count tb d) row_slots)

module _ (tb : Table) (row : List ℕ) where
  -- the channel that slot k is the first of the row's slots to hold; 128, which is no channel, where there is none
  unfoldable pub own_of : ℕ → ℕ
  own_of k =
      cond (in_use row && channel_slot tb (definition_of tb (stands_at row)) k)
      (cond (ltb (slot_of row k) max_channels) (cond (some (has_at tb row (slot_of row k)) k) max_channels (slot_of row k)) max_channels) max_channels

  unfoldable pub own_list : List ℕ
  own_list = tabulate row_slots own_of

  -- how many entries of this list the row's slots fill: past them there is no channel
  unfoldable pub own_room : ℕ
  own_room = room tb (status row) (definition_of tb (stands_at row))

  -- the row of the table from which on the types of the slots stand
  unfoldable pub types_of : ℕ
  types_of = slot_row tb + start tb Slots (definition_of tb (stands_at row))

  -- whether the row holds c by one of its first k slots
  unfoldable pub holds_to : ℕ → ℕ → Bool
  holds_to c k = in_use row && some (has_at tb row c) k
