-- What C sees of sums (document 02, S-4): what a branch that is a sum or a difference comes to, and a step that is answered with a branch.
-- `proofs/SumsInNumbers.antt` has the theorem.
use Rattle.std.specs.Prelude.{ℕ, ◌≡◌, ◌⊎◌, ℤ, pos, ◌+ℤ◌, ◌-ℤ◌}
use Rattle.std.proofs.Common.{to_z}
use mathlib.Core.List.{List}
use Rattle.std.specs.Int.{w32}
use Rattle.numbers.specs.Rows.{at}
use Rattle.table.specs.Fields as Field
use Rattle.table.specs.Table.{Table}
use Rattle.state.specs.State.{slot_of}
use Rattle.rules.specs.Program.{field_b, field_c}
use Rattle.interface.specs.Interface.{step_result}

-- the branch in row r of a table is a sum, action 6, or a difference, action 7, and comes to the whole number z of the slots of a thread's row
abbrev pub ComesTo : Table → ℕ → List ℕ → ℤ → Type 0
ComesTo tb r row z =
    ((at tb r Field.action ≡ 6) × (z ≡ to_z w32 (slot_of row (field_b tb r)) +ℤ to_z w32 (slot_of row (field_c tb r))))
    ⊎ ((at tb r Field.action ≡ 7) × (z ≡ to_z w32 (slot_of row (field_b tb r)) -ℤ to_z w32 (slot_of row (field_c tb r))))

module _ (table state rights : List ℕ) (seat t : ℕ) where
  -- the step of thread t is answered with branch i of node n: refusal 0, and act 3
  pub record Answered (n i : ℕ) : Type 0 where
    pub done : (step_result table state rights seat t).answer.refusal ≡ pos 0
    pub took : (step_result table state rights seat t).answer.act ≡ pos 3
    pub node : (step_result table state rights seat t).answer.node ≡ pos n
    pub branch : (step_result table state rights seat t).answer.branch ≡ pos i
