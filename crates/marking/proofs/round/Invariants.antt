-- `marking::round` meets its contract. The loop: the marks are right, fewer threads are left to be marked where one was, and where none was no thread
-- before the t-th is to be. Assumes nothing.
use Prim.Native.Nat.{◌+◌, ◌≤◌}
use mathlib.Core.Path.{◌≡◌}
use mathlib.Core.Bool.{false}
use Rattle.numbers.specs.Count.{bit}
use Rattle.state.specs.State.{max_threads, state_of}
use Rattle.marking.specs.Marking.{Marking, Still, unmarked}
use Rattle.marking.proofs.round.Given as goal

abbrev pub invariant-loop-t : goal.invariant-loop-t
invariant-loop-t l =
    (l.t ≤ max_threads) × Marking l.table (state_of l.state) l.marks l.known × (unmarked l.marks + bit l.changed ≤ unmarked l.initial.marks)
    × (l.changed ≡ false → Still l.table (state_of l.state) l.marks l.known l.t)
