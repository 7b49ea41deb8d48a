-- The tests of a sound state, joined as the code makes them: each thread row is passed once and put to all its tests. `SoundRows/Laws.antt` proves
-- that they are the tests of `sound`.
pub mod Laws
use Rattle.std.specs.Prelude.{ℕ, Bool, ◌&&◌, cond, List, ltb, eqb, get_or}
use Rattle.numbers.specs.Search.{every}
use Rattle.table.specs.Table.{Table}
use Rattle.state.specs.State.{State, max_threads, thread, slot_of}
use Rattle.rules.specs.Sound.{free_zero, row_in_range, spare_zero, slot_typed, slots_typed, slot_filled, slots_filled}

-- word k of a row is 0
unfoldable pub word_zero : List ℕ → ℕ → Bool
word_zero row k = eqb (get_or row k 0) 0

-- what stands in slot k of a row that has n slots of its own, if k is a spare one; 0 for its own
unfoldable pub spare_of : List ℕ → ℕ → ℕ → ℕ
spare_of row n k = cond (ltb k n) 0 (slot_of row k)

unfoldable pub spare_zero_at : List ℕ → ℕ → ℕ → Bool
spare_zero_at row n k = eqb (spare_of row n k) 0

module _ (tb : Table) (s : State) where
  -- slot k passes its tests, and a row does
  unfoldable pub slot_sound : List ℕ → ℕ → Bool
  slot_sound row k = slot_typed tb s row k && slot_filled tb row k

  unfoldable pub row_sound : List ℕ → Bool
  row_sound row = row_in_range tb row && (free_zero row && (spare_zero tb row && (slots_typed tb s row && slots_filled tb row)))

  -- every thread's row does
  abbrev pub rows_sound : Bool
  rows_sound = every (λ t. row_sound (thread s t)) max_threads
