-- The two sides of a meeting: who sends, who receives, and the state after it.
use Rattle.std.specs.Prelude.{ℕ, ◌≡◌}
use Rattle.table.specs.Table.{Table}
use Rattle.state.specs.State.{State, thread, stands_at, slot_of, with_thread}
use Rattle.rules.specs.Program.{next_of, field_b, act_of, opposite}
use Rattle.rules.specs.Moves.{resumed, met, row_of}
use Rattle.rules.specs.declared.Direction.{Direction}
use Rattle.rules.specs.declared.Direction.TheVariants.{In}
use Rattle.rules.specs.declared.Act.TheVariants.{Meeting}

-- of branches i and j of threads t and u one sends and the other receives
unfoldable pub Facing : Table → State → ℕ → ℕ → ℕ → ℕ → Type 0
Facing tb s t i u j = (d : Direction) × (act_of tb (row_of tb (thread s t) i) ≡ Meeting d) × (act_of tb (row_of tb (thread s u) j) ≡ Meeting (opposite d))

-- thread t sends by the branch in row a, and thread u receives by the branch in row b
unfoldable pub passed : Table → State → ℕ → ℕ → ℕ → ℕ → State
passed tb s t a u b =
    with_thread (with_thread s t (resumed (thread s t) (next_of tb (stands_at (thread s t)) a)))
    u (met In (thread s u) (next_of tb (stands_at (thread s u)) b) (field_b tb b) (slot_of (thread s t) (field_b tb a)))
