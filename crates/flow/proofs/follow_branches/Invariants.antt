-- `flow::follow_branches` meets its contract. The loop: the branches before the i-th have led on. Assumes nothing.
use Prim.Native.Nat.{◌≤◌}
use mathlib.Core.Path.{◌≡◌}
use lib.ListN.{length}
use Rattle.flow.specs.Flow.{branches_followed}
use Rattle.flow.specs.Gaps.{bits, gaps_of}
use Rattle.flow.proofs.follow_branches.Given as goal

abbrev pub invariant-loop-i : goal.invariant-loop-i
invariant-loop-i l =
    (l.i ≤ l.count) × (length l.gaps ≡ length l.initial.gaps) × (gaps_of l.gaps ≡ branches_followed l.table l.n (bits l.m) (gaps_of l.initial.gaps) l.i)
