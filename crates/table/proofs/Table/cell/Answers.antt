use Rattle.table.proofs.Places.{cell_inside, cell_inside_next, cell_known}
use Rattle.table.proofs.Table.cell.Goals as goal

pub bounds-self-inside-place : goal.bounds-self-inside-place
bounds-self-inside-place c = search cell_inside

pub bounds-self-inside-place-then-k-lt-ROW_NUMBERS : goal.bounds-self-inside-place-then-k-lt-ROW_NUMBERS
bounds-self-inside-place-then-k-lt-ROW_NUMBERS c = search cell_inside_next

pub returns-then-k-lt-ROW_NUMBERS-clause-value : goal.returns-then-k-lt-ROW_NUMBERS-clause-value
returns-then-k-lt-ROW_NUMBERS-clause-value c = rw (← c.self.view_is) (search cell_known)
