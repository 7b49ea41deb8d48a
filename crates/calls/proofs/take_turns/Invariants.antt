-- `calls::take_turns` meets its contract. The loop: all of it is i turns, and then what is left from the state now, the first turn that of the thread
-- kept, which is ready; no row is in use from the number kept on. Assumes nothing.
use Prim.Native.Nat.{◌≤◌, ◌-◌, ◌<◌}
use mathlib.Core.Path.{◌≡◌}
use mathlib.Core.Bool.{true}
use Rattle.state.specs.State.{state_of, thread, is_ready}
use Rattle.rules.specs.Holding.{settled}
use Rattle.next_rows.specs.UsedBelow.{UsedBelow}
use Rattle.turns.specs.Running.{Running}
use Rattle.calls.specs.Course.{after, course_by}
use Rattle.calls.proofs.Laws.{Followed}
use Rattle.calls.proofs.take_turns.Given as goal

abbrev pub invariant-loop-i : goal.invariant-loop-i
invariant-loop-i l =
    (l.i ≤ l.n) × Running l.table (state_of l.state) × UsedBelow (state_of l.state) l.top × (l.next < 64 → is_ready (thread (state_of l.state) l.next) ≡ true)
    × (course_by l.table l.n (state_of l.initial.state) l.t ≡ after l.i (course_by l.table (l.n - l.i) (settled l.table (state_of l.state)) l.next))
    × Followed l.table (state_of l.initial.state) l.t l.i (state_of l.state) l.next l.last
