-- What a collection does: the threads that are not enabled are freed, and the channel rows settled.
pub mod Laws
use Rattle.collector.specs.Answers.{Collected}
use Rattle.std.specs.Prelude.{ℕ, Bool, false, not, ◌&&◌, cond, List, get_or, Err, Ok}
use Rattle.numbers.specs.Count.{bit}
use Rattle.numbers.specs.Search.{sum_to, tabulate}
use Rattle.table.specs.Table.{Table, table_of}
use Rattle.state.specs.State.{State, max_threads, thread, in_use, view, with_threads}
use Rattle.rules.specs.Holding.{settled}
use Rattle.rules.specs.Start.{free_row}
use Rattle.rules.specs.Calls.{Outcome, After, afterwards, on_buffers}
use Rattle.rules.specs.Seats.{at_seat}
use Rattle.rules.specs.declared.Right.TheVariants as Right
use Rattle.marking.specs.Enabled.{nobody, enabled_set}

module _ (tb : Table) (s : State) where
  -- a thread is taken if it is not enabled (002: disabled)
  unfoldable pub taken : ℕ → Bool
  taken t = in_use (thread s t) && not (get_or (enabled_set tb s nobody) t false)

  unfoldable pub remaining : ℕ → List ℕ
  remaining t = cond (taken t) free_row (thread s t)

  -- the state after a collection: marks and turn stay
  unfoldable pub collected : State
  collected = settled tb (with_threads s (tabulate max_threads remaining))

  -- how many threads it takes
  unfoldable pub taken_count : ℕ
  taken_count = sum_to (λ t. bit (taken t)) max_threads

-- ---- the call: grounds 8, 9 and 10; a collection has none of its own
unfoldable pub collect_on : Table → State → After Collected
collect_on tb s = afterwards (Ok (taken_count tb s)) (collected tb s)

unfoldable pub collect_call : List ℕ → List ℕ → Outcome Collected
collect_call table state = on_buffers Err table state (collect_on (table_of table) (view state))

-- made at a seat, which has to have the right to collect (document 02, S-6)
unfoldable pub seated_collect : List ℕ → List ℕ → List ℕ → ℕ → Outcome Collected
seated_collect table state rights seat = at_seat table state rights seat Err Right.Collect (collect_call table state)
