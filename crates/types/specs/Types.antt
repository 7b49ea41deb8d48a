-- Ground 5: types disagree. Type 0 is a number, every other type a channel.
use Rattle.std.specs.Prelude.{ℕ, ◌+◌, ◌-◌, Bool, true, not, ◌&&◌, ◌||◌, cond, leb, eqb}
use Rattle.numbers.specs.Rows.{at}
use Rattle.numbers.specs.Search.{every}
use Rattle.table.specs.Fields as Field
use Rattle.table.specs.Table.{Table, types, ports, definition_row, node_row, branch_row, parameters, carried}
use Rattle.table.specs.Layout.{definition_of, node_of, slot_type}
use Rattle.table.specs.Roles.{operand_count, operand, operand_role}
use Rattle.table.specs.declared.Role.{Role}
use Rattle.table.specs.declared.Role.TheVariants.{Unused, Constant, ReadNumber, ReadChannel, ReadCarried, WriteNumber, WriteChannel, WriteCarried}

-- a slot's type t in a role, where the action's channel has a type that carries u
unfoldable pub role_typed : Role → ℕ → ℕ → Bool
role_typed Unused t u = true
role_typed Constant t u = true
role_typed ReadNumber t u = eqb t 0
role_typed ReadChannel t u = not (eqb t 0)
role_typed ReadCarried t u = eqb t u
role_typed WriteNumber t u = eqb t 0
role_typed WriteChannel t u = not (eqb t 0)
role_typed WriteCarried t u = eqb t u

module _ (tb : Table) where
  -- the ports' rule: definition 0 has the ports as its parameters, all of type 1, which carries numbers
  unfoldable pub port_typed : ℕ → Bool
  port_typed k = eqb (slot_type tb 0 k) 1

  unfoldable pub ports_typed : Bool
  ports_typed =
      eqb (parameters tb 0) (ports tb)
      && (every port_typed (ports tb)
      && (eqb (ports tb) 0 || (leb 1 (types tb) && eqb (carried tb 1) 0)))

  module _ (r : ℕ) where
    -- an argument has the type of its parameter; the call stands in definition d
    unfoldable pub argument_typed : ℕ → ℕ → Bool
    argument_typed d i = eqb (slot_type tb d (at tb r (Field.arguments + i))) (slot_type tb (at tb r Field.callee) i)

    unfoldable pub node_typed : ℕ → Bool
    node_typed d = cond (eqb (at tb r Field.node_kind) 2) (every (argument_typed d) (parameters tb (at tb r Field.callee))) true

    -- the operands of a branch in definition d; the action's channel is its operand a
    unfoldable pub operand_typed : ℕ → ℕ → Bool
    operand_typed d k = role_typed (operand_role tb r k) (slot_type tb d (operand tb r k)) (carried tb (slot_type tb d (operand tb r 2)))

    unfoldable pub branch_typed : ℕ → Bool
    branch_typed d = every (operand_typed d) operand_count

    -- by the line's kind; definition 0's line answers for the ports
    unfoldable pub row_typed : Bool
    row_typed =
        cond (eqb r (definition_row tb)) ports_typed
        (cond (eqb (at tb r Field.kind) 5) (node_typed (definition_of tb (r - node_row tb)))
        (cond (eqb (at tb r Field.kind) 6) (branch_typed (definition_of tb (node_of tb (r - branch_row tb)))) true))

unfoldable pub types_disagree : Table → ℕ → Bool
types_disagree tb r = not (row_typed tb r)
