-- What one step in a settled state leaves to be settled: the counts of waiting holders of one thread's channels at most.
pub mod Laws
use Rattle.std.specs.Prelude.{ℕ, Bool, cond, eqb}
use Rattle.table.specs.Table.{Table}
use Rattle.state.specs.State.{State, minus_one}
use Rattle.rules.specs.Program.{type_at, branch_at, field_b}
use Rattle.rules.specs.declared.Move.{Move}
use Rattle.rules.specs.declared.Move.TheVariants.{Ends, Calls, Waits, Goes, Creates, Spawns, Meets, LacksThread, LacksChannel}
use Rattle.upkeep.specs.Shift.{row_weighed}

-- the slot with which branch i of node n gives or receives is of type 0: a number
unfoldable pub number_by : Table → ℕ → ℕ → Bool
number_by tb n i = eqb (type_at tb n (field_b tb (branch_at tb n i))) 0

-- Thread t stood at node n and made a move, which left a state. Two moves change who waits without upkeep: thread t begins to wait, or its partner at a
-- meeting by which a number is given ceases to.
unfoldable pub weighed_after : Table → ℕ → ℕ → Move → State → State
weighed_after tb n t Ends s = s
weighed_after tb n t Calls s = s
weighed_after tb n t Waits s = row_weighed tb s t 1
weighed_after tb n t (Goes i) s = s
weighed_after tb n t (Creates i c) s = s
weighed_after tb n t (Spawns i u) s = s
weighed_after tb n t (Meets i u j) s = cond (number_by tb n i) (row_weighed tb s u minus_one) s
weighed_after tb n t LacksThread s = s
weighed_after tb n t LacksChannel s = s
