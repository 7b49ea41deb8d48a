-- What a clause sees of a moment at which a move is decided: the table and the state.
use Rattle.table.specs.Table.{Table}
use Rattle.state.specs.State.{State}

pub record Moment : Type 0 where
  pub table : Table
  pub state : State
