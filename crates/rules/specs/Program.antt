-- What a table says of the nodes at which threads stand. Nodes are counted over the whole file, slots and branches within their definition and
-- their choice.
use Rattle.std.specs.Prelude.{ℕ, ◌+◌, Bool, true, false, not, ◌&&◌, cond, List, ltb, eqb, ◌+ℤ◌, ◌-ℤ◌, Option, Some, ℤ}
use Rattle.std.specs.Int.{w32}
use Rattle.std.proofs.Common.{to_z}
use Rattle.numbers.specs.Rows.{at}
use Rattle.numbers.specs.Signed.{narrowed, is_exact, lower, widened}
use Rattle.table.specs.Fields as Field
use Rattle.table.specs.Table.{Table, node_row, branch_row, slot_count}
use Rattle.table.specs.Layout.{start, definition_of, slot_type}
use Rattle.table.specs.declared.Part.TheVariants.{Nodes, Branches}
use Rattle.state.specs.State.{slot_of, minus_one}
use Rattle.rules.specs.declared.Direction.{Direction}
use Rattle.rules.specs.declared.Direction.TheVariants.{Out, In}
use Rattle.rules.specs.declared.Act.{Act}
use Rattle.rules.specs.declared.Act.TheVariants.{Tau, Meeting, New, Spawn, Assignment}

-- ---- numbers in slots, each by its pattern: the sum of two whole numbers, if it fits a slot, and their difference (document 02, S-4)

unfoldable pub checked_sum : ℕ → ℕ → Option ℤ
checked_sum x y = narrowed (to_z w32 x +ℤ to_z w32 y)

unfoldable pub checked_difference : ℕ → ℕ → Option ℤ
checked_difference x y = narrowed (to_z w32 x -ℤ to_z w32 y)

-- whether what a branch assigns fits: an assignment that comes to v; other acts assign nothing
unfoldable pub fitting : Act → Option ℤ → Bool
fitting Tau v = true
fitting (Meeting d) v = true
fitting New v = true
fitting Spawn v = true
fitting Assignment v = is_exact v

module _ (tb : Table) where
  -- ---- slots

  -- the type of slot k at node n
  unfoldable pub type_at : ℕ → ℕ → ℕ
  type_at n k = slot_type tb (definition_of tb n) k

  -- slot k of definition d is a channel slot: one of its slots, of a type other than 0
  unfoldable pub channel_slot : ℕ → ℕ → Bool
  channel_slot d k = ltb k (slot_count tb d) && not (eqb (slot_type tb d k) 0)

  -- what an unwritten slot has: -1 for a channel, 0 for a number and past the definition's slots
  unfoldable pub blank : ℕ → ℕ → ℕ
  blank d k = cond (channel_slot d k) minus_one 0

  -- ---- nodes: 0 end, 1 choice, 2 call

  abbrev pub kind_of : ℕ → ℕ
  kind_of n = at tb (node_row tb + n) Field.node_kind

  -- of a call: the definition that is called, and the slot that gives parameter k
  abbrev pub callee : ℕ → ℕ
  callee n = at tb (node_row tb + n) Field.callee

  abbrev pub argument : ℕ → ℕ → ℕ
  argument n k = at tb (node_row tb + n) (Field.arguments + k)

  -- ---- branches

  -- the row of branch i of node n
  unfoldable pub branch_at : ℕ → ℕ → ℕ
  branch_at n i = branch_row tb + (start tb Branches n + i)

  -- the node to which the branch in row r, of node n, leads on, and that of its child
  unfoldable pub next_of : ℕ → ℕ → ℕ
  next_of n r = start tb Nodes (definition_of tb n) + at tb r Field.next

  unfoldable pub child_of : ℕ → ℕ → ℕ
  child_of n r = start tb Nodes (definition_of tb n) + at tb r Field.child

  module _ (r : ℕ) where
    -- the fields a, b and c of the branch in row r
    abbrev pub field_a : ℕ
    field_a = at tb r Field.a

    abbrev pub field_b : ℕ
    field_b = at tb r Field.b

    abbrev pub field_c : ℕ
    field_c = at tb r Field.c

    unfoldable pub act_of : Act
    act_of =
        cond (eqb (at tb r Field.action) 1) (Meeting Out)
        (cond (eqb (at tb r Field.action) 2) (Meeting In)
        (cond (eqb (at tb r Field.action) 3) New
        (cond (eqb (at tb r Field.action) 4) Spawn
        (cond (eqb (at tb r Field.action) 0) Tau Assignment))))

    -- whether its guard, as the file has it, is true of a thread's row: always; slot equals constant; slot below constant; two slots equal; first
    -- slot below second
    unfoldable pub printed_guard : List ℕ → Bool
    printed_guard row =
        cond (eqb (at tb r Field.guard) 0) true
        (cond (eqb (at tb r Field.guard) 1) (eqb (slot_of row (at tb r Field.first)) (widened (at tb r Field.second)))
        (cond (eqb (at tb r Field.guard) 2) (lower (slot_of row (at tb r Field.first)) (widened (at tb r Field.second)))
        (cond (eqb (at tb r Field.guard) 3) (eqb (slot_of row (at tb r Field.first)) (slot_of row (at tb r Field.second)))
        (lower (slot_of row (at tb r Field.first)) (slot_of row (at tb r Field.second))))))

    -- what an assignment comes to: the constant b, the sum of slots b and c, or their difference
    unfoldable pub assigned : List ℕ → Option ℤ
    assigned row =
        cond (eqb (at tb r Field.action) 5) (Some (to_z w32 (widened field_b)))
        (cond (eqb (at tb r Field.action) 6) (checked_sum (slot_of row field_b) (slot_of row field_c))
        (checked_difference (slot_of row field_b) (slot_of row field_c)))

    -- whether its guard counts as true, for whoever goes by guards: the file's is true, and what the branch assigns, if anything, fits. So a sum or
    -- difference that does not fit makes its branch one with a false guard (document 02, S-4)
    unfoldable pub guard_holds : List ℕ → Bool
    guard_holds row = printed_guard row && fitting act_of (assigned row)

-- the side that answers a direction
unfoldable pub opposite : Direction → Direction
opposite Out = In
opposite In = Out

unfoldable pub same : Direction → Direction → Bool
same Out Out = true
same Out In = false
same In Out = false
same In In = true
