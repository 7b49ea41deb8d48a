-- The steps by which the code frees the threads that are not marked. These definitions serve the proofs alone: `Freeing/Laws.antt` shows that they come
-- to `collected`.
pub mod Laws
use Rattle.std.specs.Prelude.{ℕ, Bool, false, not, ◌&&◌, cond, List, ltb, get_or}
use Rattle.numbers.specs.Count.{bit}
use Rattle.numbers.specs.Search.{sum_to, tabulate}
use Rattle.table.specs.Table.{Table}
use Rattle.state.specs.State.{State, max_threads, thread, in_use, with_thread, with_threads}
use Rattle.rules.specs.Holding.{settled}
use Rattle.rules.specs.Start.{free_row}
use Rattle.collector.specs.Collect.{taken}

-- thread t is in use and not marked
unfoldable pub leaves : State → List Bool → ℕ → Bool
leaves s m t = in_use (thread s t) && not (get_or m t false)

-- the state after it was freed, if it leaves
unfoldable pub freed_by : Table → State → List Bool → ℕ → State
freed_by tb s m t = cond (leaves s m t) (settled tb (with_thread s t free_row)) s

module _ (tb : Table) (s : State) where
  -- the row of thread t after the threads below n were seen to, all rows, and the state: the channel rows are settled
  unfoldable pub row_to : ℕ → ℕ → List ℕ
  row_to n t = cond (ltb t n && taken tb s t) free_row (thread s t)

  unfoldable pub rows_to : ℕ → State
  rows_to n = with_threads s (tabulate max_threads (row_to n))

  unfoldable pub collected_to : ℕ → State
  collected_to n = settled tb (rows_to n)

  -- how many of them were freed
  unfoldable pub taken_to : ℕ → ℕ
  taken_to n = sum_to (λ t. bit (taken tb s t)) n
