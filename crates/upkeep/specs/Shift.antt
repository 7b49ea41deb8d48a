-- The channel rows kept in step with one thread row at a time.
pub mod Laws
use Rattle.std.specs.Prelude.{ℕ, zero, suc, List, get_or, set}
use Rattle.numbers.specs.Count.{bit}
use Rattle.numbers.specs.Rows.{at}
use Rattle.numbers.specs.Signed.{sum, difference}
use Rattle.table.specs.Table.{Table}
use Rattle.state.specs.State.{State, minus_one, row_slots, thread, is_waiting, with_channels}
use Rattle.rules.specs.Holding.{channel_row}
use Rattle.holding.specs.Own.{own_list, own_room}

-- channel c with n holders, w of them waiting: it is freed where there are none
unfoldable pub row_counted : State → ℕ → ℕ → ℕ → State
row_counted s c n w = with_channels s (set s.channels c (channel_row (at s.channels c 0) n w))

-- the row of channel c with its counts moved up by dn and dw, around the end of the 32-bit numbers: down by 1 is up by 4294967295
unfoldable pub shift_row : List (List ℕ) → ℕ → ℕ → ℕ → List (List ℕ)
shift_row chs c dn dw = set chs c (channel_row (at chs c 0) (sum (at chs c 1) dn) (sum (at chs c 2) dw))

-- the channel rows so moved for each of the first k channels of a list
unfoldable pub shift_to : List ℕ → ℕ → ℕ → List (List ℕ) → ℕ → List (List ℕ)
shift_to l dn dw chs zero = chs
shift_to l dn dw chs (suc k) = shift_row (shift_to l dn dw chs k) (get_or l k 0) dn dw

-- a state with one channel so moved, and with the first k channels of a list
unfoldable pub channel_shifted : State → ℕ → ℕ → ℕ → State
channel_shifted s c dn dw = with_channels s (shift_row s.channels c dn dw)

unfoldable pub shifted_to : State → List ℕ → ℕ → ℕ → ℕ → State
shifted_to s l dn dw k = with_channels s (shift_to l dn dw s.channels k)

-- a row that held the channels of a list, and added w to their counts of waiting holders, is left
unfoldable pub row_left : State → List ℕ → ℕ → State
row_left s l w = shifted_to s l minus_one (difference 0 w) row_slots

module _ (tb : Table) (s : State) (t : ℕ) where
  -- thread t's row is entered
  unfoldable pub row_entered : State
  row_entered = shifted_to s (own_list tb (thread s t)) 1 (bit (is_waiting (thread s t))) (own_room tb (thread s t))

  -- thread t's row holds what it held, and adds dw more to the counts of waiting holders of its channels
  unfoldable pub row_weighed : ℕ → State
  row_weighed dw = shifted_to s (own_list tb (thread s t)) 0 dw (own_room tb (thread s t))

  -- thread t's row was written: the new row is entered, then the old one, which held the channels of l with w, is left
  unfoldable pub settled_one : List ℕ → ℕ → State
  settled_one l w = row_left row_entered l w

  -- the type of channel c was written too: where the new row does not hold c, it is freed. Moved by 0, the counts stay
  unfoldable pub settled_new : ℕ → List ℕ → ℕ → State
  settled_new c l w = row_left (channel_shifted row_entered c 0 0) l w

-- the rows of t and u were written: both new rows are entered before an old one is left
unfoldable pub settled_two : Table → State → ℕ → ℕ → List ℕ → ℕ → List ℕ → ℕ → State
settled_two tb s t u l w l' w' = row_left (row_left (row_entered tb (row_entered tb s t) u) l w) l' w'
