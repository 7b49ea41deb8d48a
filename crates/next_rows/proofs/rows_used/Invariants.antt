-- `next_rows::rows_used` meets its contract. The loop: no row from there on is in use. Assumes nothing.
use Rattle.state.specs.State.{state_of}
use Rattle.next_rows.specs.UsedBelow.{UsedBelow}
use Rattle.next_rows.proofs.rows_used.Given as goal

abbrev pub invariant-loop-u : goal.invariant-loop-u
invariant-loop-u l = UsedBelow (state_of l.state) l.u
