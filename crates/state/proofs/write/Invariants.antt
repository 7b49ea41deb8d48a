-- `state::write` meets its contract. The loop: the words below i have been written. Assumes nothing.
use Prim.Native.Nat.{ℕ, ◌≤◌}
use mathlib.Core.Path.{◌≡◌}
use lib.ListN.{length, get_or}
use mir.Syntax.{w8}
use mir.Val.{Fits}
use Rattle.numbers.specs.Bytes.{words}
use Rattle.state.proofs.Filling.{Agree}
use Rattle.state.proofs.write.Given as goal

abbrev pub invariant-loop-i : goal.invariant-loop-i
invariant-loop-i l =
    (l.i ≤ 1539) × (length l.buffer ≡ length l.initial.buffer) × ((j : ℕ) → Fits w8 (get_or l.buffer j 0)) × Agree (words l.buffer) l.state l.i
