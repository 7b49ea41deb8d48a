-- Who waits to send and who waits to receive on each channel, noted by one pass over the waiting threads and their branches. `Waits/Laws.antt`
-- proves that the states in which no two notes are in conflict are those in which every waiting thread waits rightly.
pub mod Laws
pub mod Pass
use Rattle.std.specs.Prelude.{ℕ, zero, suc, Bool, true, false, not, ◌&&◌, ◌||◌, cond, List, eqb, get_or, set}
use Rattle.numbers.specs.Search.{every, some, tabulate}
use Rattle.table.specs.Table.{Table}
use Rattle.table.specs.Layout.{branch_count}
use Rattle.state.specs.State.{State, max_channels, thread, stands_at, slot_of, is_waiting}
use Rattle.rules.specs.Program.{kind_of, branch_at, field_a, act_of, guard_holds}
use Rattle.rules.specs.Offers.{offers_in, offers_at, offers}
use Rattle.rules.specs.declared.Direction.{Direction}
use Rattle.rules.specs.declared.Act.{Act}
use Rattle.rules.specs.declared.Act.TheVariants.{Tau, Meeting, New, Spawn, Assignment}

-- ---- notes: 0 for nobody, t + 1 for thread t alone, 65 for several

abbrev pub several : ℕ
several = 65

-- the note m with thread t besides
unfoldable pub noted : ℕ → ℕ → ℕ
noted m t = cond (eqb m 0) (suc t) (cond (eqb m (suc t)) m several)

-- the note of the threads below n that pass a test
unfoldable pub note_of : (ℕ → Bool) → ℕ → ℕ
note_of p zero = 0
note_of p (suc n) = cond (p n) (noted (note_of p n) n) (note_of p n)

-- a channel's note of senders and its note of receivers: not two threads that could meet
unfoldable pub apart : ℕ → ℕ → Bool
apart a b = eqb a 0 || (eqb b 0 || (eqb a b && not (eqb a several)))

unfoldable pub all_apart : List ℕ → List ℕ → Bool
all_apart l m = every (λ c. apart (get_or l c 0) (get_or m c 0)) max_channels

-- ---- acts that need no partner

unfoldable pub needs_partner : Act → Bool
needs_partner Tau = false
needs_partner (Meeting d) = true
needs_partner New = false
needs_partner Spawn = false
needs_partner Assignment = false

module _ (tb : Table) where
  -- the branch in row r holds a thread's row back: its guard is false, or it needs a partner
  unfoldable pub held_back : List ℕ → ℕ → Bool
  held_back row r = not (guard_holds tb r row) || needs_partner (act_of tb r)

  -- the notes l of direction d, with thread t, whose row is given, at the channel on which the branch in row r offers d
  unfoldable pub offer_noted : List ℕ → Direction → ℕ → ℕ → List ℕ → List ℕ
  offer_noted row d r t l =
      cond (offers_in tb row d (slot_of row (field_a tb r)) r)
      (set l (slot_of row (field_a tb r)) (noted (get_or l (slot_of row (field_a tb r)) 0) t)) l

  module _ (s : State) where
    -- branch i of thread t holds it back
    unfoldable pub branch_held : ℕ → ℕ → Bool
    branch_held t i = held_back (thread s t) (branch_at tb (stands_at (thread s t)) i)

    -- all branches of thread t hold it back
    abbrev pub all_held : ℕ → Bool
    all_held t = every (branch_held t) (branch_count tb (stands_at (thread s t)))

    -- a waiting thread stands at a choice of which no branch could go ahead alone
    unfoldable pub waits_alone : ℕ → Bool
    waits_alone t =
        not (is_waiting (thread s t))
        || (eqb (kind_of tb (stands_at (thread s t))) 1 && all_held t)

    module _ (d : Direction) where
      -- who of the threads below n offers d on c
      unfoldable pub who : ℕ → ℕ → ℕ
      who n c = note_of (λ u. offers tb (thread s u) d c) n

      -- the notes of the threads below n, channel by channel
      abbrev pub notes : ℕ → List ℕ
      notes n = tabulate max_channels (who n)

      -- who of the threads below t offers d on c, with the first i branches of thread t, which waits
      unfoldable pub who_to : ℕ → ℕ → ℕ → ℕ
      who_to t i c = cond (some (offers_at tb (thread s t) d c) i) (noted (who t c) t) (who t c)
