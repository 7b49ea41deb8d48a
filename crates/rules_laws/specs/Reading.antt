-- What it says that a thread holds a channel, and that it offers to meet on one.
pub mod Laws
use Rattle.std.specs.Prelude.{ℕ, ◌<◌, ◌≡◌, true, List, ◌≢◌}
use Rattle.table.specs.Table.{Table, slot_count}
use Rattle.table.specs.Layout.{branch_count, definition_of, slot_type}
use Rattle.state.specs.State.{max_channels, row_slots, stands_at, slot_of, in_use, is_waiting}
use Rattle.rules.specs.Program.{branch_at, field_a, act_of, guard_holds}
use Rattle.rules.specs.declared.Direction.{Direction}
use Rattle.rules.specs.declared.Act.TheVariants.{Meeting}

module _ (tb : Table) (row : List ℕ) where
  -- a slot of it that has channel c
  pub record Holding (c : ℕ) : Type 0 where
    pub used : in_use row ≡ true
    pub channel_in : c < max_channels
    pub slot : ℕ
    pub slot_in : slot < row_slots
    pub slot_own : slot < slot_count tb (definition_of tb (stands_at row))
    pub typed : slot_type tb (definition_of tb (stands_at row)) slot ≢ 0
    pub is : slot_of row slot ≡ c

  -- a branch of it that offers d on channel c
  pub record Offering (d : Direction) (c : ℕ) : Type 0 where
    pub waits : is_waiting row ≡ true
    pub channel_in : c < max_channels
    pub branch : ℕ
    pub branch_in : branch < branch_count tb (stands_at row)
    pub passes : guard_holds tb (branch_at tb (stands_at row) branch) row ≡ true
    pub does : act_of tb (branch_at tb (stands_at row) branch) ≡ Meeting d
    pub is : slot_of row (field_a tb (branch_at tb (stands_at row) branch)) ≡ c
