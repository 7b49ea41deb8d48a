-- The threads of the rows that a test takes, and of those that are freed from one state to a later one; and the two parts into which a collection parts the
-- threads. `proofs/Collecting.antt` has the theorems.
use Rattle.std.specs.Prelude.{ℕ, suc, Bool, ◌&&◌}
use Rattle.std.proofs.Math.Bool.{not, cond}
use mathlib.Core.List.{List, [], ◌∷◌}
use Rattle.numbers.specs.Search.{tabulate}
use Rattle.table.specs.Table.{Table}
use Rattle.state.specs.State.{State, max_threads, thread, in_use}
use Rattle.collector.specs.Collect.{taken, remaining}
use Rattle.published.specs.Agents.{Thread}
use Rattle.published_laws.specs.Standing.{thread_of, threads_of}

module _ (tb : Table) where
  -- a row in use that the test takes, in front of threads
  unfoldable pub taken_then : Bool → List ℕ → List Thread → List Thread
  taken_then y row A = cond (in_use row && y) (thread_of tb row ∷ A) A

  unfoldable pub taken_of : (ℕ → Bool) → List (List ℕ) → List Thread
  taken_of q [] = []
  taken_of q (row ∷ rows) = taken_then (q 0) row (taken_of (λ t. q (suc t)) rows)

  -- the threads of the rows in use in a state that are free in a later one
  unfoldable pub freed_threads : State → State → List Thread
  freed_threads s later = taken_of (λ t. not (in_use (thread later t))) s.threads

  -- the threads that a collection of a state takes
  abbrev pub clique : State → List Thread
  clique s = taken_of (taken tb s) s.threads

  -- the bench and the threads that it leaves
  abbrev pub left_threads : State → Thread → List Thread
  left_threads s b = b ∷ threads_of tb (tabulate max_threads (remaining tb s))
