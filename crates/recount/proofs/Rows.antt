-- A thread that has slots of its own has a row. Assumes nothing.
use Rattle.std.specs.Prelude.{ℕ, ◌<◌, List}
use Rattle.table.specs.Table.{Table}
use Rattle.state.specs.State.{max_threads, state_of, thread}
use Rattle.state.specs.State.Laws.{used_below}
use Rattle.holding.specs.Own.{own_room}
use Rattle.holding.specs.Own.Laws.{room_used}

pub slot_below : (tb : Table) (b : List ℕ) (t k : ℕ) → k < own_room tb (thread (state_of b) t) → t < max_threads
slot_below tb b t k h = used_below b t (room_used tb (thread (state_of b) t) k h).0
