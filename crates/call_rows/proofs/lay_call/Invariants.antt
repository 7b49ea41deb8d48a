-- `call_rows::lay_call` meets its contract. The loop: the first k slots are laid, and `keeps` says whether they get what they have. Assumes nothing.
use Prim.Native.Nat.{◌≤◌}
use mathlib.Core.Path.{◌≡◌}
use Rattle.numbers.specs.Laid.{laid}
use Rattle.numbers.specs.Search.{every}
use Rattle.state.specs.State.{state_of, thread, row_slots}
use Rattle.call_rows.specs.CalledRow.{call_by, kept_by}
use Rattle.call_rows.proofs.lay_call.Given as goal

abbrev pub invariant-loop-k : goal.invariant-loop-k
invariant-loop-k l =
    (l.k ≤ l.last) × (l.slots ≡ laid (call_by l.table l.row l.from l.p l.n (thread (state_of l.state) l.t)) l.k row_slots)
    × (l.keeps ≡ every (kept_by l.table l.row l.from l.p l.n (thread (state_of l.state) l.t)) l.k)
