-- The moves that the theorems on steps speak of: those for which no row is lacking, and those by 002's rules alone.
use Rattle.std.specs.Prelude.{ℕ, ◌<◌, ◌≤◌, ◌≡◌, true, false, List}
use Rattle.table.specs.Table.{Table, parameters}
use Rattle.table.specs.Layout.{branch_count}
use Rattle.state.specs.State.{stands_at}
use Rattle.rules.specs.Program.{callee, branch_at, act_of, guard_holds}
use Rattle.rules.specs.declared.Act.TheVariants.{Tau}
use Rattle.rules.specs.declared.Move.{Move}
use Rattle.rules.specs.declared.Move.TheVariants.{Ends, Calls, Waits, Goes, Creates, Spawns, Meets, LacksThread, LacksChannel}
use Rattle.published_laws.specs.Standing.{for_numbers}

-- a move for which no row is lacking
unfoldable pub Allowed : Move → Type 0
Allowed Ends = Unit {0}
Allowed Calls = Unit {0}
Allowed Waits = Unit {0}
Allowed (Goes i) = Unit {0}
Allowed (Creates i c) = Unit {0}
Allowed (Spawns i u) = Unit {0}
Allowed (Meets i u j) = Unit {0}
Allowed LacksThread = ⊥
Allowed LacksChannel = ⊥

-- a move by 002's rules alone: all but calls of a definition that has numbers besides its parameters, which need zeros, waits with a guard that is false,
-- which need skip, and assignments
unfoldable pub Plain : Table → List ℕ → Move → Type 0
Plain tb row Ends = Unit {0}
Plain tb row Calls = (k : ℕ) → parameters tb (callee tb (stands_at row)) ≤ k → for_numbers tb (callee tb (stands_at row)) k ≡ false
Plain tb row Waits = (i : ℕ) → i < branch_count tb (stands_at row) → guard_holds tb (branch_at tb (stands_at row) i) row ≡ true
Plain tb row (Goes i) = act_of tb (branch_at tb (stands_at row) i) ≡ Tau
Plain tb row (Creates i c) = Unit {0}
Plain tb row (Spawns i u) = Unit {0}
Plain tb row (Meets i u j) = Unit {0}
Plain tb row LacksThread = ⊥
Plain tb row LacksChannel = ⊥
