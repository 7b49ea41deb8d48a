-- The slots with which a call enters a definition, from what was looked up beforehand, and calls after which a thread's row holds what it held. `call_by`,
-- `kept_at`, `kept_by` and `last_slot` serve the proofs alone: `CalledRow/Laws.antt` shows what they come to.
pub mod Laws
use Rattle.std.specs.Prelude.{ℕ, ◌+◌, Bool, true, not, ◌&&◌, ◌||◌, cond, List, ltb, leb, eqb}
use Rattle.numbers.specs.Rows.{at}
use Rattle.numbers.specs.Search.{every, tabulate}
use Rattle.table.specs.Fields as Field
use Rattle.table.specs.Table.{Table, parameters}
use Rattle.table.specs.Layout.{start, definition_of}
use Rattle.table.specs.declared.Part.TheVariants.{Nodes}
use Rattle.state.specs.State.{row_slots, minus_one, stands_at, slot_of}
use Rattle.rules.specs.Program.{channel_slot, blank, callee, argument}

-- from this slot on all are 0: p of the n slots are parameters
unfoldable pub last_slot : ℕ → ℕ → ℕ
last_slot p n = cond (leb p n) (cond (ltb n row_slots) n row_slots) row_slots

module _ (tb : Table) where
  -- slot k, where the call stands in row r of the table and the types of the slots from a row on
  unfoldable pub call_by : ℕ → ℕ → ℕ → ℕ → List ℕ → ℕ → ℕ
  call_by r from p n row k =
      cond (ltb k p) (slot_of row (at tb r (Field.arguments + k))) (cond (ltb k n) (cond (eqb (at tb (from + k) Field.type) 0) 0 minus_one) 0)

  -- slot k, which gets v by the call, gets what it has, if it is a channel slot
  unfoldable pub kept_at : ℕ → ℕ → List ℕ → ℕ → ℕ → Bool
  kept_at from n row k v = cond (ltb k n) (cond (eqb (at tb (from + k) Field.type) 0) true (eqb v (slot_of row k))) true

  -- slot k gets what it has by the call in row r, if it is a channel slot
  unfoldable pub kept_by : ℕ → ℕ → ℕ → ℕ → List ℕ → ℕ → Bool
  kept_by r from p n row k = kept_at from n row k (call_by r from p n row k)

  -- slot k as the call at a thread's node enters definition d: a parameter is given, any other slot is blank
  unfoldable pub call_at : List ℕ → ℕ → ℕ → ℕ
  call_at row d k = cond (ltb k (parameters tb d)) (slot_of row (argument tb (stands_at row) k)) (blank tb d k)

  -- slot k gets what it has as the call at a thread's node enters definition d, if it is a channel slot
  unfoldable pub slot_kept : List ℕ → ℕ → ℕ → Bool
  slot_kept row d k = not (channel_slot tb d k) || eqb (call_at row d k) (slot_of row k)

  -- all slots with which a thread makes the call at its node
  unfoldable pub call_slots : List ℕ → List ℕ
  call_slots row = tabulate row_slots (call_at row (callee tb (stands_at row)))

  -- the call at a thread's node is to the thread's own definition, d, and every channel slot gets what it has
  unfoldable pub call_keeps : List ℕ → Bool
  call_keeps row =
      eqb (definition_of tb (stands_at row)) (callee tb (stands_at row))
      && (eqb (definition_of tb (start tb Nodes (callee tb (stands_at row)))) (callee tb (stands_at row))
      && every (slot_kept row (callee tb (stands_at row))) row_slots)
