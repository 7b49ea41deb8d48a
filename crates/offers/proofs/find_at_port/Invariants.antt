-- `offers::find_at_port` meets its contract. The loops: no thread passed answers, and of this thread no branch passed offers. Assumes nothing.
use Rattle.std.specs.Prelude.{None}
use Prim.Native.Nat.{◌≤◌}
use mathlib.Core.Path.{◌≡◌}
use Rattle.numbers.specs.Search.{first}
use Rattle.state.specs.State.{state_of, thread, max_threads}
use Rattle.rules.specs.Offers.{offers_at, answers}
use Rattle.offers.proofs.find_at_port.Given as goal

abbrev pub invariant-loop-i : goal.invariant-loop-i
invariant-loop-i l =
    (l.i ≤ l.n) × (first (offers_at l.table (thread (state_of l.state) l.u) l.d l.p) l.i ≡ l.i) × (l.found ≡ None)

abbrev pub invariant-threads : goal.invariant-threads
invariant-threads l =
    (l.u ≤ max_threads) × (first (answers l.table (state_of l.state) max_threads l.d l.p) l.u ≡ l.u) × (l.found ≡ None)
