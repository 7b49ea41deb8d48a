-- `listing_lines::channels_in_use` meets its contract. The loop: the channels below c are counted. Assumes nothing.
use Prim.Native.Nat.{◌≤◌}
use mathlib.Core.Path.{◌≡◌}
use Rattle.state.specs.State.{state_of}
use Rattle.listing_lines.specs.Laid.{in_use_to}
use Rattle.listing_lines.proofs.channels_in_use.Given as goal

abbrev pub invariant-loop-c : goal.invariant-loop-c
invariant-loop-c l = (l.c ≤ 128) × (l.n ≡ in_use_to (state_of l.state) l.c)
