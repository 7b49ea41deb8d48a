-- What the operands of a branch are: for each guard and each action the role of each of its fields. From the roles follow a field's range
-- (ground 4), its type (ground 5), what is read (ground 6) and what is written.
use Rattle.std.specs.Prelude.{ℕ, ◌+◌, ◌-◌, Bool, true, false, cond, ltb, eqb}
use Rattle.numbers.specs.Rows.{at}
use Rattle.table.specs.Fields as Field
use Rattle.table.specs.Table.{Table}
use Rattle.table.specs.declared.Role.{Role}
use Rattle.table.specs.declared.Role.TheVariants.{Unused, Constant, ReadNumber, ReadChannel, ReadCarried, WriteNumber, WriteChannel, WriteCarried}

-- the operands k of guard g: always; slot equals or is below a constant; slot equals or is below a slot
unfoldable pub guard_role : ℕ → ℕ → Role
guard_role g k =
    cond (eqb g 0) Unused
    (cond (ltb g 3) (cond (eqb k 0) ReadNumber Constant)
    ReadNumber)

-- the operands k of action a, k being 0, 1, 2 for its fields a, b, c
unfoldable pub action_role : ℕ → ℕ → Role
action_role a k =
    cond (eqb a 1) (cond (eqb k 0) ReadChannel (cond (eqb k 1) ReadCarried Unused))
    (cond (eqb a 2) (cond (eqb k 0) ReadChannel (cond (eqb k 1) WriteCarried Unused))
    (cond (eqb a 3) (cond (eqb k 0) WriteChannel Unused)
    (cond (eqb a 5) (cond (eqb k 0) WriteNumber (cond (eqb k 1) Constant Unused))
    (cond (ltb 5 a) (cond (eqb k 0) WriteNumber ReadNumber)
    Unused))))

-- the five operands of a branch: operands 0 and 1 are the first and the second of its guard, operands 2, 3 and 4 are the a, b and c of its action
abbrev pub operand_count : ℕ
operand_count = 5

unfoldable pub operand_place : ℕ → ℕ
operand_place k = cond (ltb k 2) (Field.first + k) (3 + k)

module _ (tb : Table) (r : ℕ) where
  unfoldable pub operand : ℕ → ℕ
  operand k = at tb r (operand_place k)

  unfoldable pub operand_role : ℕ → Role
  operand_role k = cond (ltb k 2) (guard_role (at tb r Field.guard) k) (action_role (at tb r Field.action) (k - 2))

-- whether a role reads its slot, and whether it writes it
unfoldable pub reads : Role → Bool
reads Unused = false
reads Constant = false
reads ReadNumber = true
reads ReadChannel = true
reads ReadCarried = true
reads WriteNumber = false
reads WriteChannel = false
reads WriteCarried = false

unfoldable pub writes : Role → Bool
writes Unused = false
writes Constant = false
writes ReadNumber = false
writes ReadChannel = false
writes ReadCarried = false
writes WriteNumber = true
writes WriteChannel = true
writes WriteCarried = true
