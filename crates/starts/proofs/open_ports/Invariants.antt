-- `starts::open_ports` meets its contract. The loop: the channels before the c-th are open. Assumes nothing.
use Prim.Native.Nat.{◌≤◌}
use mathlib.Core.Path.{◌≡◌}
use Rattle.state.specs.State.{max_channels, state_of}
use Rattle.starts.specs.Opening.{opened_to}
use Rattle.starts.proofs.open_ports.Given as goal

abbrev pub invariant-loop-c : goal.invariant-loop-c
invariant-loop-c l =
    (l.c ≤ max_channels) × (state_of l.state ≡ opened_to (state_of l.initial.state) l.ports l.c)
