-- The counts of holders as one pass over the rows makes them. `Tally/Laws.antt` proves that they are the numbers of holders, and `Tally/Stamps.antt` that the stamps
-- which the pass keeps tell whether a thread has been counted at a channel.
pub mod Laws
pub mod Stamps
pub mod Pass
use Rattle.std.specs.Prelude.{ℕ, zero, suc, ◌+◌, ◌%◌, ◌<◌, ◌≤◌, ◌≡◌, Bool, cond, List, [], ltb, eqb, length, get_or, set}
use Rattle.numbers.specs.Count.{bit}
use Rattle.table.specs.Table.{Table}
use Rattle.state.specs.State.{max_channels}
use Rattle.holding.specs.Own.{own_of, own_room, holds_to}

-- entry c made larger by w; the entries are bytes
unfoldable pub added : List ℕ → ℕ → ℕ → List ℕ
added l c w = set l c ((get_or l c 0 + w) % 256)

-- the entries of the first n of some channels made larger by w
unfoldable pub added_to : (ℕ → ℕ) → ℕ → List ℕ → ℕ → List ℕ
added_to own w l zero = l
added_to own w l (suc n) = added (added_to own w l n) (own n) w

module _ (tb : Table) where
  -- the entries of the channels that a row holds made larger by w
  unfoldable pub row_added : List ℕ → ℕ → List ℕ → List ℕ
  row_added row w l = added_to (own_of tb row) w l (own_room tb row)

  -- the entries of the channels of the first n rows made larger by 1 for each row that passes a test
  unfoldable pub added_below : (List ℕ → Bool) → List (List ℕ) → List ℕ → ℕ → List ℕ
  added_below p ths l zero = l
  added_below p ths l (suc n) = row_added (get_or ths n []) (bit (p (get_or ths n []))) (added_below p ths l n)

-- ---- stamps, one for each channel: thread t leaves t + 1 where it is counted, and 0 is the stamp of nobody

-- channel c given a stamp; there is no channel 128
unfoldable pub stamped_at : List ℕ → ℕ → ℕ → List ℕ
stamped_at stamps stamp c = cond (ltb c max_channels) (set stamps c stamp) stamps

-- entry c made larger by w, unless channel c has the stamp
unfoldable pub added_unless : List ℕ → ℕ → ℕ → ℕ → List ℕ → List ℕ
added_unless stamps stamp c w l = cond (ltb c max_channels) (cond (eqb (get_or stamps c 0) stamp) l (added l c w)) l

-- no channel has the stamp of thread t or of a later one
unfoldable pub Fresh : ℕ → List ℕ → Type 0
Fresh t stamps = (length stamps ≡ max_channels) × ((c : ℕ) → get_or stamps c 0 ≤ t)

-- the first k slots of thread t's row have been gone through: a channel has the thread's stamp just where one of them holds it, and none has a later thread's
unfoldable pub Passed : Table → List ℕ → ℕ → ℕ → List ℕ → Type 0
Passed tb row t k stamps = Fresh (t + 1) stamps × ((c : ℕ) → c < max_channels → eqb (get_or stamps c 0) (t + 1) ≡ holds_to tb row c k)
