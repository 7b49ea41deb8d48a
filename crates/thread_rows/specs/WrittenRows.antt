-- The row of a thread, written one word at a time.
pub mod Laws
use Rattle.std.specs.Prelude.{ℕ, zero, suc, List, ◌∷◌, get_or}
use Rattle.state.specs.State.{State, thread, status, stands_at, with_thread}
use Rattle.rules.specs.Moves.{stored}

-- the state in which thread t's row is what f makes of it
abbrev pub rewritten : State → ℕ → (List ℕ → List ℕ) → State
rewritten s t f = with_thread s t (f (thread s t))

-- a row with other slots
abbrev pub reslotted : List ℕ → List ℕ → List ℕ
reslotted row l = status row ∷ stands_at row ∷ l

-- a row with the first k of its slots replaced by those of a list
unfoldable pub refilled : List ℕ → List ℕ → ℕ → List ℕ
refilled l row zero = row
refilled l row (suc k) = stored (refilled l row k) k (get_or l k 0)
