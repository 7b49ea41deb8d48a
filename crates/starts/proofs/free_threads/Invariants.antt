-- `starts::free_threads` meets its contract. The loop: the thread rows before the t-th are free. Assumes nothing.
use Prim.Native.Nat.{◌≤◌}
use mathlib.Core.Path.{◌≡◌}
use Rattle.state.specs.State.{max_threads, state_of}
use Rattle.starts.specs.Opening.{freed_to}
use Rattle.starts.proofs.free_threads.Given as goal

abbrev pub invariant-loop-t : goal.invariant-loop-t
invariant-loop-t l =
    (l.t ≤ max_threads) × (state_of l.state ≡ freed_to (state_of l.initial.state) l.t)
