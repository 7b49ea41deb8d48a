-- `holding::list_own` meets its contract. The loop: the own channels of the slots before the k-th are listed. Assumes nothing.
use Prim.Native.Nat.{◌≤◌}
use mathlib.Core.Path.{◌≡◌}
use lib.ListN.{replicate}
use Rattle.state.specs.State.{state_of, thread, row_slots, max_channels}
use Rattle.holding.specs.Own.Listing.{listed_to}
use Rattle.holding.proofs.list_own.Given as goal

abbrev pub invariant-loop-k : goal.invariant-loop-k
invariant-loop-k l =
    (l.k ≤ l.n) × (l.list ≡ listed_to l.table l.from (thread (state_of l.state) l.t) (replicate row_slots max_channels) l.k)
