-- Who holds a channel, and the channel rows that follow from it.
use Rattle.std.specs.Prelude.{ℕ, zero, suc, ◌+◌, Bool, ◌&&◌, List, [], ◌∷◌, ltb, eqb}
use Rattle.numbers.specs.Count.{bit, count}
use Rattle.numbers.specs.Search.{some, tabulate}
use Rattle.table.specs.Table.{Table, ports}
use Rattle.table.specs.Layout.{definition_of}
use Rattle.state.specs.State.{State, max_channels, row_slots, stands_at, slot_of, in_use, is_waiting, type_in, with_channels}
use Rattle.rules.specs.Program.{channel_slot}

module _ (tb : Table) where
  -- slot k of a thread's row is a channel slot that has the number c
  unfoldable pub has_at : List ℕ → ℕ → ℕ → Bool
  has_at row c k = channel_slot tb (definition_of tb (stands_at row)) k && eqb (slot_of row k) c

  -- a thread holds (document 01 also says: knows) each channel whose number stands in a channel slot of it. The number of no channel, as -1 is, is not held
  unfoldable pub holds : List ℕ → ℕ → Bool
  holds row c = in_use row && (ltb c max_channels && some (has_at row c) row_slots)

  module _ (ths : List (List ℕ)) (c : ℕ) where
    -- how many threads hold a channel, and how many of those wait
    unfoldable pub holders : ℕ
    holders = count (λ row. holds row c) ths

    unfoldable pub waiters : ℕ
    waiters = count (λ row. is_waiting row && holds row c) ths

    -- the bench is one holder more of each port, always
    unfoldable pub count_of : ℕ
    count_of = bit (ltb c (ports tb)) + holders

-- the row of a channel of type ty with n holders, w of them waiting: it is free where there are none
unfoldable pub channel_row : ℕ → ℕ → ℕ → List ℕ
channel_row ty zero w = 0 ∷ 0 ∷ 0 ∷ []
channel_row ty (suc n) w = ty ∷ suc n ∷ w ∷ []

module _ (tb : Table) where
  -- all channel rows, counted over the thread rows, with these types
  unfoldable pub recount : List (List ℕ) → (ℕ → ℕ) → List (List ℕ)
  recount ths ty = tabulate max_channels (λ c. channel_row (ty c) (count_of tb ths c) (waiters tb ths c))

  -- what the channel rows become after a move's writes: counted anew, and freed where nobody holds them
  unfoldable pub settled : State → State
  settled s = with_channels s (recount s.threads (type_in s))
