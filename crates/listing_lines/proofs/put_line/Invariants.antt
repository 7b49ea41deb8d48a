-- `listing_lines::put_line` meets its contract. The loop: the columns of the first i numbers are laid. Assumes nothing.
use Prim.Native.Nat.{◌≤◌}
use mathlib.Core.Path.{◌≡◌}
use lib.ListN.{length}
use lib.Seq.{sets}
use Rattle.listing_lines.specs.Laid.{columns_to}
use Rattle.listing_lines.proofs.put_line.Given as goal

abbrev pub invariant-loop-i : goal.invariant-loop-i
invariant-loop-i l =
    (l.i ≤ l.i-end) × (l.i-end ≡ length l.row) × (length l.out ≡ length l.initial.out) × (l.out ≡ sets l.initial.out l.at (columns_to l.row l.i))
