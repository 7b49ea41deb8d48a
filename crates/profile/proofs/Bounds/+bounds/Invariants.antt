-- The cycle of calls of the four methods that find bounds. From a node to those on which its bound rests the definitions that are left become fewer or,
-- in one definition, the nodes that are left: that is `rank`, and a node comes before its choice and that before its branches. In the loop over the branches:
-- those passed have this for the largest bound. Assumes nothing.
use Rattle.std.proofs.Common.{◌≡◌, ◌+◌, ◌≤◌}
use Rattle.profile.specs.Profile.{largest, branch_bound}
use Rattle.profile.specs.Finding.{capped, rank, definition_rank}
use Rattle.profile.proofs.Bounds.+bounds.Given as goal

abbrev pub decreases-branch_bound : goal.decreases-branch_bound
decreases-branch_bound l = rank l.self.now l.n

abbrev pub decreases-choice_bound : goal.decreases-choice_bound
decreases-choice_bound l = rank l.self.now l.n + 1

abbrev pub decreases-definition_bound : goal.decreases-definition_bound
decreases-definition_bound l = definition_rank l.self.now l.d

abbrev pub decreases-node_bound : goal.decreases-node_bound
decreases-node_bound l = rank l.self.now l.n + 2

abbrev pub invariant-choice_bound-loop-i : goal.invariant-choice_bound-loop-i
invariant-choice_bound-loop-i l = (l.i ≤ l.count) × (l.self ≡ l.initial.self) × (l.most ≡ capped (largest (branch_bound l.self l.n) l.i))
