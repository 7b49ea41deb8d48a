-- Which threads are enabled, as Definition 1 of 002 has it, and the computed set of them.
use Rattle.std.specs.Prelude.{ℕ, zero, suc, ◌<◌, ◌≡◌, ◌≢◌, Bool, true, false, not, ◌&&◌, ◌||◌, List, ltb, eqb, get_or}
use Rattle.numbers.specs.Search.{some, tabulate}
use Rattle.table.specs.Table.{Table, ports}
use Rattle.table.specs.Layout.{branch_count}
use Rattle.state.specs.State.{State, max_threads, max_channels, thread, stands_at, slot_of, in_use, is_ready, is_waiting}
use Rattle.rules.specs.Program.{branch_at, field_a, act_of, guard_holds}
use Rattle.rules.specs.Holding.{holds}
use Rattle.rules.specs.Offers.{meets?, offers}
use Rattle.rules.specs.declared.Direction.{Direction}
use Rattle.rules.specs.declared.Direction.TheVariants.{Out, In}

-- where all threads are looked at, nobody counts as enabled from the start
unfoldable pub nobody : ℕ → Bool
nobody t = false

-- of a table, a state, and the threads that count as enabled from the start, whatever they do
module _ (tb : Table) (s : State) (given : ℕ → Bool) where
  -- the least set that has the ready threads, and each waiting thread one of whose offers is on a channel of another thread of the set, or of the bench, which holds the ports
  pub data Enabled : ℕ → Type 0 where
    from_start : {t : ℕ} → t < max_threads → in_use (thread s t) ≡ true → given t ≡ true → Enabled t
    is_ready_lem : {t : ℕ} → t < max_threads → is_ready (thread s t) ≡ true → Enabled t
    by_bench : {t : ℕ} → t < max_threads → (d : Direction) (c : ℕ) → offers tb (thread s t) d c ≡ true → c < ports tb → Enabled t
    by_thread : {t : ℕ} → t < max_threads → (d : Direction) (c : ℕ) → offers tb (thread s t) d c ≡ true
        → (u : ℕ) → u ≢ t → holds tb (thread s u) c ≡ true → Enabled u → Enabled t

  -- ---- computed: rounds over a list of marks, one for each thread

  -- the bench holds channel c, or a marked thread does, t itself left aside
  unfoldable pub known : List Bool → ℕ → ℕ → Bool
  known marked t c =
      ltb c max_channels
      && (ltb c (ports tb) || some (λ u. not (eqb u t) && (get_or marked u false && holds tb (thread s u) c)) max_threads)

  -- branch i of thread t is a meeting with a true guard on a channel that is known
  unfoldable pub reaches : List Bool → ℕ → ℕ → Bool
  reaches marked t i =
      guard_holds tb (branch_at tb (stands_at (thread s t)) i) (thread s t)
      && ((meets? (act_of tb (branch_at tb (stands_at (thread s t)) i)) Out || meets? (act_of tb (branch_at tb (stands_at (thread s t)) i)) In)
      && known marked t (slot_of (thread s t) (field_a tb (branch_at tb (stands_at (thread s t)) i))))

  unfoldable pub joins : List Bool → ℕ → Bool
  joins marked t =
      get_or marked t false || (is_waiting (thread s t) && some (reaches marked t) (branch_count tb (stands_at (thread s t))))

  unfoldable pub begins : ℕ → Bool
  begins t = is_ready (thread s t) || (in_use (thread s t) && given t)

  -- the marks after k rounds
  unfoldable pub rounds : ℕ → List Bool
  rounds zero = tabulate max_threads begins
  rounds (suc k) = tabulate max_threads (joins (rounds k))

  -- as many rounds as there are threads are enough
  unfoldable pub enabled_set : List Bool
  enabled_set = rounds max_threads
