-- The start of the freeing, and what a thread that is freed has. Assumes nothing.
use Rattle.std.specs.Prelude.{◌≡◌, ◌<◌, ℕ, List}
use borrow.Author.Tests.{ne_eqb}
use Rattle.table.specs.Table.{Table}
use Rattle.state.specs.State.{state_of, thread, status, max_threads}
use Rattle.state.specs.State.Laws.{length_threads, used_below}
use Rattle.rules.specs.Holding.{settled}
use Rattle.collector.specs.Freeing.{collected_to}
use Rattle.collector.specs.Freeing.Laws.{freed_none}

-- take_unmarked
pub none_freed : (tb : Table) (b : List ℕ) → settled tb (state_of b) ≡ state_of b → state_of b ≡ collected_to tb (state_of b) 0
none_freed tb b e = freed_none tb (state_of b) (length_threads b) e

-- take_thread: x is the status of the thread. One that is in use has a row
pub row_there : (b : List ℕ) (t x : ℕ) → x ≡ status (thread (state_of b) t) → (x ≡ 0 → ⊥) → t < max_threads
row_there b t x e f = used_below b t (rw (← e, ne_eqb x 0 f))
