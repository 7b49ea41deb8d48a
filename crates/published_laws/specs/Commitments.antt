-- A commitment of either direction, and that of a branch of a waiting thread.
use Prim.Native.Nat.{ℕ}
use mathlib.Core.List.{List}
use Rattle.table.specs.Table.{Table}
use Rattle.state.specs.State.{stands_at, slot_of}
use Rattle.rules.specs.Program.{next_of, field_a, field_b}
use Rattle.rules.specs.declared.Direction.{Direction}
use Rattle.rules.specs.declared.Direction.TheVariants.{Out, In}
use Rattle.published.specs.Syntax.{Process}
use Rattle.published.specs.Agents.{Commitment, gives, takes}
use Rattle.published_laws.specs.Standing.{process_at}

-- a commitment of direction d: an output or an input
unfoldable pub pledge : Direction → ℕ → ℕ → Process → Commitment
pledge Out c v Q = gives c v Q
pledge In c x Q = takes c x Q

module _ (tb : Table) (row : List ℕ) where
  -- the commitment by the branch in row r
  abbrev pub pledged : Direction → ℕ → Commitment
  pledged d r = pledge d (slot_of row (field_a tb r)) (field_b tb r) (process_at tb (next_of tb (stands_at row) r))
