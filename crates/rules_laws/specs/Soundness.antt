-- What it says that a state is sound, in the form in which the moves are shown to keep it.
pub mod Slots
pub mod Waiting
pub mod Counted
pub mod Laws
use Rattle.std.specs.Prelude.{ℕ, ◌<◌, ◌≤◌, ◌≡◌, true, false, List, ◌⊎◌, ◌≢◌, length, get_or}
use Rattle.table.specs.Table.{Table, nodes, ports, slot_count}
use Rattle.table.specs.Layout.{branch_count, definition_of, slot_type}
use Rattle.flow.specs.Flow.{may_lack}
use Rattle.state.specs.State.{State, max_threads, max_channels, thread_words, row_slots, minus_one, thread_mark, channel_mark, turn, thread, stands_at, slot_of, in_use, is_ready, is_waiting, type_in}
use Rattle.rules.specs.Program.{kind_of, branch_at, act_of, guard_holds}
use Rattle.rules.specs.Holding.{settled}
use Rattle.rules.specs.Start.{free_row}
use Rattle.rules.specs.declared.Direction.{Direction}
use Rattle.rules.specs.declared.Act.TheVariants.{Meeting}
use Rattle.offers.specs.Apart.{Apart}
use Rattle.rules_laws.specs.Shape.{Shaped}

module _ (tb : Table) where
  -- the number v in slot k at node n, where ty gives the types of the channels: a slot past the definition's, a number, a channel slot that some
  -- path leaves unwritten and that has no channel, or a channel of the slot's type that is in use
  pub data SlotSound (ty : ℕ → ℕ) (n k v : ℕ) : Type 0 where
    spare : slot_count tb (definition_of tb n) ≤ k → v ≡ 0 → SlotSound ty n k v
    number : k < slot_count tb (definition_of tb n) → slot_type tb (definition_of tb n) k ≡ 0 → SlotSound ty n k v
    unfilled : k < slot_count tb (definition_of tb n) → slot_type tb (definition_of tb n) k ≢ 0 → may_lack tb n k ≡ true → v ≡ minus_one → SlotSound ty n k v
    filled : k < slot_count tb (definition_of tb n) → slot_type tb (definition_of tb n) k ≢ 0 → v < max_channels → ty v ≡ slot_type tb (definition_of tb n) k
        → SlotSound ty n k v

  pub record RowSound (ty : ℕ → ℕ) (row : List ℕ) : Type 0 where
    pub long : length row ≡ thread_words
    pub small : (k : ℕ) → get_or row k 0 < 4294967296
    pub free : in_use row ≡ false → row ≡ free_row
    pub ready_or_waits : in_use row ≡ true → (is_ready row ≡ true) ⊎ (is_waiting row ≡ true)
    pub node_in : in_use row ≡ true → stands_at row < nodes tb
    pub slots : in_use row ≡ true → (k : ℕ) → k < row_slots → SlotSound ty (stands_at row) k (slot_of row k)
    pub waits_at : is_waiting row ≡ true → kind_of tb (stands_at row) ≡ 1
    pub waits_for : is_waiting row ≡ true → (i : ℕ) → i < branch_count tb (stands_at row) → guard_holds tb (branch_at tb (stands_at row) i) row ≡ true
        → (d : Direction) × (act_of tb (branch_at tb (stands_at row) i) ≡ Meeting d)

  -- all that a sound state has besides true counts
  pub record Orderly (s : State) : Type 0 where
    pub shaped : Shaped s
    pub thread_mark_lem : thread_mark s < max_threads
    pub channel_mark_lem : channel_mark s < max_channels
    pub turn_in : turn s < max_threads
    pub row : (t : ℕ) → t < max_threads → RowSound (type_in s) (thread s t)
    pub port : (c : ℕ) → c < ports tb → type_in s c ≡ 1
    pub apart : Apart tb s.threads

  -- a sound state is orderly, and its channel rows are those that a count over the threads gives
  pub record Sound (s : State) : Type 0 where
    pub orderly : Orderly s
    pub counts : settled tb s ≡ s
