-- `starts::port_slots` meets its contract. The loop: the first k slots are laid. Assumes nothing.
use Prim.Native.Nat.{◌≤◌}
use mathlib.Core.Path.{◌≡◌}
use Rattle.numbers.specs.Laid.{laid}
use Rattle.state.specs.State.{row_slots}
use Rattle.starts.specs.Opening.{port_at}
use Rattle.starts.proofs.port_slots.Given as goal

abbrev pub invariant-loop-k : goal.invariant-loop-k
invariant-loop-k l =
    (l.k ≤ row_slots) × (l.slots ≡ laid (port_at l.table) l.k row_slots)
