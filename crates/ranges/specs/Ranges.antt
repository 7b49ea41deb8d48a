-- Ground 4: a field out of its range. Each kind of line has its own ranges, and a field that the line does not use must be 0. The test of a line rests on the
-- lines before it, which have been found in range when it counts.
use Rattle.std.specs.Prelude.{ℕ, ◌+◌, ◌-◌, Bool, true, false, not, ◌&&◌, ◌||◌, cond, ltb, eqb}
use Rattle.numbers.specs.Rows.{at}
use Rattle.numbers.specs.Search.{every}
use Rattle.table.specs.Fields as Field
use Rattle.table.specs.Table.{Table, row_numbers, max_parameters, max_own_slots, max_own_nodes, max_own_branches, types, definitions, node_row, branch_row, parameters, slot_count, node_count}
use Rattle.table.specs.Layout.{start, definition_of, node_of}
use Rattle.table.specs.Form.{within}
use Rattle.table.specs.Roles.{operand_count, operand, operand_role}
use Rattle.table.specs.declared.Part.TheVariants.{Nodes}
use Rattle.table.specs.declared.Role.{Role}
use Rattle.table.specs.declared.Role.TheVariants.{Unused, Constant, ReadNumber, ReadChannel, ReadCarried, WriteNumber, WriteChannel, WriteCarried}

-- a value in the range of its role, in a definition of s slots
unfoldable pub role_in_range : Role → ℕ → ℕ → Bool
role_in_range Unused s v = eqb v 0
role_in_range Constant s v = true
role_in_range ReadNumber s v = ltb v s
role_in_range ReadChannel s v = ltb v s
role_in_range ReadCarried s v = ltb v s
role_in_range WriteNumber s v = ltb v s
role_in_range WriteChannel s v = ltb v s
role_in_range WriteCarried s v = ltb v s

-- a node above the branch's own and inside the definition of n nodes, all numbered inside the definition
unfoldable pub ahead : ℕ → ℕ → ℕ → Bool
ahead own n v = ltb own v && ltb v n

module _ (tb : Table) (r : ℕ) where
  -- the fields after the first k are 0: number i is 0 unless it is one of the first k
  unfoldable pub unused_from : ℕ → ℕ → Bool
  unused_from k i = ltb i k || eqb (at tb r i) 0

  unfoldable pub rest_unused : ℕ → Bool
  rest_unused k = every (unused_from k) row_numbers

  -- a type's line, and a slot's: one type
  unfoldable pub type_in_range : Bool
  type_in_range = within 0 (types tb) (at tb r Field.type) && rest_unused 2

  unfoldable pub definition_in_range : Bool
  definition_in_range =
      within 0 max_parameters (at tb r Field.parameters)
      && (within (at tb r Field.parameters) max_own_slots (at tb r Field.own_slots)
      && (within 1 max_own_nodes (at tb r Field.own_nodes) && rest_unused 4))

  -- a call: the definition called, and for each of its parameters a slot of the calling one, which has s slots
  unfoldable pub argument_in_range : ℕ → ℕ → Bool
  argument_in_range s i = ltb (at tb r (Field.arguments + i)) s

  unfoldable pub call_in_range : ℕ → Bool
  call_in_range s =
      ltb (at tb r Field.callee) (definitions tb)
      && (every (argument_in_range s) (parameters tb (at tb r Field.callee))
      && rest_unused (Field.arguments + parameters tb (at tb r Field.callee)))

  unfoldable pub node_in_range : Bool
  node_in_range =
      cond (eqb (at tb r Field.node_kind) 0) (rest_unused 2)
      (cond (eqb (at tb r Field.node_kind) 1) (within 1 max_own_branches (at tb r Field.own_branches) && rest_unused 3)
      (cond (eqb (at tb r Field.node_kind) 2) (call_in_range (slot_count tb (definition_of tb (r - node_row tb)))) false))

  unfoldable pub operand_in_range : ℕ → ℕ → Bool
  operand_in_range s k = role_in_range (operand_role tb r k) s (operand tb r k)

  -- next, and for a spawn the child, which is 0 for every other action
  unfoldable pub targets_in_range : ℕ → ℕ → Bool
  targets_in_range own n = ahead own n (at tb r Field.next) && cond (eqb (at tb r Field.action) 4) (ahead own n (at tb r Field.child)) (eqb (at tb r Field.child) 0)

  -- a branch of node n, in definition d
  unfoldable pub branch_in_range : ℕ → ℕ → Bool
  branch_in_range n d =
      within 0 4 (at tb r Field.guard)
      && (within 0 7 (at tb r Field.action)
      && (every (operand_in_range (slot_count tb d)) operand_count
      && (targets_in_range (n - start tb Nodes d) (node_count tb d) && rest_unused 10)))

  -- by the line's kind
  unfoldable pub row_in_range : Bool
  row_in_range =
      cond (eqb (at tb r Field.kind) 1) (rest_unused 7)
      (cond (eqb (at tb r Field.kind) 2) type_in_range
      (cond (eqb (at tb r Field.kind) 3) definition_in_range
      (cond (eqb (at tb r Field.kind) 4) type_in_range
      (cond (eqb (at tb r Field.kind) 5) node_in_range
      (branch_in_range (node_of tb (r - branch_row tb)) (definition_of tb (node_of tb (r - branch_row tb))))))))

unfoldable pub out_of_range : Table → ℕ → Bool
out_of_range tb r = not (row_in_range tb r)
