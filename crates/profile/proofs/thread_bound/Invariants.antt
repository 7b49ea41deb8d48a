-- `profile::thread_bound` meets its contract. The loop goes through nodes of the table. Assumes nothing.
use Prim.Native.Nat.{◌≤◌}
use mathlib.Core.Path.{◌≡◌}
use Rattle.table.specs.Table.{nodes}
use Rattle.profile.proofs.thread_bound.Given as goal

abbrev pub invariant-loop-n : goal.invariant-loop-n
invariant-loop-n l = (l.n ≤ nodes l.fn.table) × (l.bounds ≡ l.fn.table)
