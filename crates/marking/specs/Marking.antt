-- The steps by which the code marks the enabled threads. These definitions serve the proofs alone: `proofs/Marking/Laws.antt` shows that the marks come to
-- `enabled_set`.
use Rattle.std.specs.Prelude.{ℕ, ◌<◌, ◌≡◌, Bool, true, false, not, ◌&&◌, ◌||◌, cond, List, ltb, length, get_or, set}
use Rattle.numbers.specs.Count.{count}
use Rattle.numbers.specs.Search.{some, tabulate}
use Rattle.table.specs.Table.{Table, ports}
use Rattle.state.specs.State.{State, max_threads, max_channels, thread, is_ready}
use Rattle.rules.specs.Holding.{holds}
use Rattle.threads.specs.Threads.{offers_marked, with_held}
use Rattle.marking.specs.Rounds.{marked}
use Rattle.marking.specs.Enabled.{nobody, Enabled}

-- marks of channels: those below n
unfoldable pub ports_to : ℕ → List Bool
ports_to n = tabulate max_channels (λ c. ltb c n)

-- how many are not marked
unfoldable pub unmarked : List Bool → ℕ
unmarked m = count not m

-- the marks and the known channels after a visit to thread t, which came or not: m and k are those before, and `row` is the row of t
unfoldable pub marked_if : Bool → List Bool → ℕ → List Bool
marked_if came m t = cond came (set m t true) m

unfoldable pub known_if : Bool → Table → List ℕ → List Bool → List Bool
known_if came tb row k = cond came (with_held tb row k) k

module _ (tb : Table) (s : State) (m k : List Bool) where
  -- thread t is to be marked, where the threads of m are marked and the channels of k known
  unfoldable pub comes : ℕ → Bool
  comes t = not (get_or m t false) && (is_ready (thread s t) || offers_marked tb (thread s t) k)

  -- none of the threads below n is to be marked
  unfoldable pub Still : ℕ → Type 0
  Still n = (t : ℕ) → t < n → comes t ≡ false

-- only enabled threads are marked, and the known channels are the ports and those that marked threads hold
pub record Marking (tb : Table) (s : State) (m k : List Bool) : Type 0 where
  pub all_threads : length m ≡ max_threads
  pub only_enabled : (u : ℕ) → marked m u ≡ true → Enabled tb s nobody u
  pub held : (c : ℕ) → c < max_channels → get_or k c false ≡ (ltb c (ports tb) || some (λ u. marked m u && holds tb (thread s u) c) max_threads)
