-- `state::read` meets its contract. The loop: the words below i have been read. Assumes nothing.
use Prim.Native.Nat.{◌≤◌}
use mathlib.Core.Path.{◌≡◌}
use lib.ListN.{length}
use Rattle.numbers.specs.Bytes.{words}
use Rattle.state.proofs.Filling.{Agree}
use Rattle.state.proofs.read.Given as goal

abbrev pub invariant-loop-i : goal.invariant-loop-i
invariant-loop-i l = (l.i ≤ 1539) × (length l.state ≡ length l.initial.state) × Agree l.state (words l.buffer) l.i
