-- `listing_text::list_steps` meets its contract. The loop: the run has come to the state after i steps, and their lines are laid. Assumes nothing.
use Prim.Native.Nat.{◌*◌, ◌≤◌}
use mathlib.Core.Path.{◌≡◌}
use lib.ListN.{length}
use lib.Seq.{sets}
use Rattle.state.specs.State.{state_of}
use Rattle.rules_laws.specs.Soundness.{Sound}
use Rattle.listing_text.specs.Listing.{max_steps}
use Rattle.listing_text.specs.Laying.{longest, Come, lines_to}
use Rattle.listing_text.proofs.list_steps.Given as goal

abbrev pub invariant-loop-i : goal.invariant-loop-i
invariant-loop-i l =
    (l.i ≤ max_steps) × Sound l.table (state_of l.state) × (length l.out ≡ longest) × Come l.table (state_of l.initial.state) l.i (state_of l.state)
    × (length (lines_to l.table (state_of l.initial.state) l.i) ≡ l.i * 37) × (l.out ≡ sets l.initial.out 37 (lines_to l.table (state_of l.initial.state) l.i))
