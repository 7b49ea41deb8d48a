-- Ground 3, in its own order of tests: the header's ranges, the total of lines, the kinds, the sums.
pub mod Laws
use Rattle.std.specs.Prelude.{ℕ, ◌+◌, ◌-◌, Bool, not, ◌&&◌, cond, ltb, leb, eqb}
use Rattle.numbers.specs.Rows.{at}
use Rattle.numbers.specs.Search.{sum_to}
use Rattle.table.specs.Fields as Field
use Rattle.table.specs.Table.{Table, max_types, max_definitions, max_slots, max_nodes, max_branches, max_ports, types, definitions, slots, nodes, branches, ports, definition_row, slot_row, node_row, branch_row}
use Rattle.table.specs.Layout.{blocks, lines, size}
use Rattle.table.specs.declared.Part.{Part}
use Rattle.table.specs.declared.Part.TheVariants.{Slots, Nodes, Branches}

-- what a signed field adds to a sum, and what it takes away: one of the two is 0
unfoldable pub gain : ℕ → ℕ
gain v = cond (ltb v 32768) v 0

unfoldable pub loss : ℕ → ℕ
loss v = cond (ltb v 32768) 0 (65536 - v)

-- a number in its range
unfoldable pub within : ℕ → ℕ → ℕ → Bool
within least most v = leb least v && leb v most

module _ (tb : Table) where
  unfoldable pub header_in_range : Bool
  header_in_range =
      within 0 max_types (types tb)
      && (within 1 max_definitions (definitions tb)
      && (within 0 max_slots (slots tb)
      && (within 1 max_nodes (nodes tb)
      && (within 0 max_branches (branches tb)
      && within 0 max_ports (ports tb)))))

  -- the kind that the header's counts give row r
  unfoldable pub kind_due : ℕ → ℕ
  kind_due r =
      cond (ltb r 1) 1
      (cond (ltb r (definition_row tb)) 2
      (cond (ltb r (slot_row tb)) 3
      (cond (ltb r (node_row tb)) 4
      (cond (ltb r (branch_row tb)) 5 6))))

  unfoldable pub kind_wrong : ℕ → Bool
  kind_wrong r = not (eqb (at tb r Field.kind) (kind_due r))

  unfoldable pub gain_of : Part → ℕ → ℕ
  gain_of p i = gain (size tb p i)

  unfoldable pub loss_of : Part → ℕ → ℕ
  loss_of p i = loss (size tb p i)

  -- the sizes of a part's blocks, taken as signed numbers, add up to the header's count
  unfoldable pub sum_agrees : Part → Bool
  sum_agrees p = eqb (sum_to (gain_of p) (blocks tb p)) (lines tb p + sum_to (loss_of p) (blocks tb p))

  unfoldable pub sums_agree : Bool
  sums_agree = sum_agrees Slots && (sum_agrees Nodes && sum_agrees Branches)
