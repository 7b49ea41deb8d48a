-- `profile::mark_spawns` meets its contract. The loop: the definitions in which a node before the n-th has a spawn are marked. Assumes nothing.
use Prim.Native.Nat.{◌≤◌}
use Rattle.profile.specs.Finding.{Spawning}
use Rattle.profile.proofs.mark_spawns.Given as goal

abbrev pub invariant-loop-n : goal.invariant-loop-n
invariant-loop-n l = (l.n ≤ l.count) × Spawning l.table l.n l.spawning
