-- `marking::known_ports` meets its contract. The loop: the channels below c are marked. Assumes nothing.
use Prim.Native.Nat.{◌≤◌}
use mathlib.Core.Path.{◌≡◌}
use Rattle.marking.specs.Marking.{ports_to}
use Rattle.marking.proofs.known_ports.Given as goal

abbrev pub invariant-loop-c : goal.invariant-loop-c
invariant-loop-c l = (l.c ≤ l.n) × (l.known ≡ ports_to l.c)
