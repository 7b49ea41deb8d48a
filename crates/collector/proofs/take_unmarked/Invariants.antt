-- `collector::take_unmarked` meets its contract. The loop: the threads before the t-th have been seen to, those that were freed are counted, and the channel
-- rows are settled. Assumes nothing.
use Prim.Native.Nat.{◌≤◌}
use mathlib.Core.Path.{◌≡◌}
use Rattle.state.specs.State.{max_threads, state_of}
use Rattle.rules.specs.Holding.{settled}
use Rattle.collector.specs.Freeing.{collected_to, taken_to}
use Rattle.collector.proofs.take_unmarked.Given as goal

abbrev pub invariant-loop-t : goal.invariant-loop-t
invariant-loop-t l =
    (l.t ≤ max_threads) × (state_of l.state ≡ collected_to l.table (state_of l.initial.state) l.t) × (l.count ≡ taken_to l.table (state_of l.initial.state) l.t)
    × (settled l.table (state_of l.state) ≡ state_of l.state)
