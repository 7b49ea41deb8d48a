-- What a move is, spelled out: the attribute of a function cannot name it, since its name is a word of Rattle's. Assumes nothing.
use Prim.Native.Nat.{ℕ}
use mathlib.Core.Path.{◌≡◌, refl}
use mathlib.Core.Bool.{cond}
use lib.Dec.{eqb}
use Rattle.table.specs.Table.{Table}
use Rattle.state.specs.State.{State, thread, stands_at}
use Rattle.rules.specs.Program.{kind_of}
use Rattle.rules.specs.Moves.{choice, move}
use Rattle.rules.specs.declared.Move.TheVariants.{Ends, Calls}

module _ (tb : Table) (s : State) (t : ℕ) where
  pub move_is : move tb s t
      ≡ cond (eqb (kind_of tb (stands_at (thread s t))) 1) (choice tb s t) (cond (eqb (kind_of tb (stands_at (thread s t))) 2) Calls Ends)
  unfolding move
  move_is = refl
