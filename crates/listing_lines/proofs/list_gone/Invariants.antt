-- `listing_lines::list_gone` meets its contract. The loop: the lines of the threads before the t-th are laid. Assumes nothing.
use Prim.Native.Nat.{◌+◌, ◌≤◌}
use mathlib.Core.Path.{◌≡◌}
use lib.ListN.{length}
use lib.Seq.{sets}
use Rattle.state.specs.State.{state_of}
use Rattle.listing_lines.specs.Laid.{gone_lines}
use Rattle.listing_lines.proofs.list_gone.Given as goal

abbrev pub invariant-loop-t : goal.invariant-loop-t
invariant-loop-t l =
    (l.t ≤ 64) × (length l.out ≡ length l.initial.out) × (l.end ≡ l.at + length (gone_lines (state_of l.before) (state_of l.after) l.t))
    × (l.out ≡ sets l.initial.out l.at (gone_lines (state_of l.before) (state_of l.after) l.t))
