-- `turns::put_waiting` meets its contract. The loop: the first c channels have their counts. Assumes nothing.
use Prim.Native.Nat.{◌≤◌}
use mathlib.Core.Path.{◌≡◌}
use Rattle.state.specs.State.{max_channels, state_of}
use Rattle.turns.specs.Counted.{weighed}
use Rattle.turns.proofs.put_waiting.Given as goal

abbrev pub invariant-loop-c : goal.invariant-loop-c
invariant-loop-c l =
    (l.c ≤ max_channels) × (state_of l.state ≡ weighed l.waiting (state_of l.initial.state) l.c)
