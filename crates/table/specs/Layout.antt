-- Blocks of lines: one block of slots and one of nodes for each definition, one of branches for each choice, each block behind the one before it.
pub mod Laws
use Rattle.std.specs.Prelude.{ℕ, suc, ◌+◌, Bool, cond, ltb, leb, eqb}
use Rattle.numbers.specs.Rows.{at}
use Rattle.numbers.specs.Search.{first, sum_to}
use Rattle.table.specs.Fields as Field
use Rattle.table.specs.Table.{Table, definitions, slots, nodes, branches, node_row, slot_row, slot_count, node_count}
use Rattle.table.specs.declared.Part.{Part}
use Rattle.table.specs.declared.Part.TheVariants.{Slots, Nodes, Branches}

module _ (tb : Table) where
  -- how many blocks a part has, and how many lines the header gives to it
  unfoldable pub blocks : Part → ℕ
  blocks Slots = definitions tb
  blocks Nodes = definitions tb
  blocks Branches = nodes tb

  unfoldable pub lines : Part → ℕ
  lines Slots = slots tb
  lines Nodes = nodes tb
  lines Branches = branches tb

  -- the branches of a node: a choice says how many
  unfoldable pub branch_count : ℕ → ℕ
  branch_count n = cond (eqb (at tb (node_row tb + n) Field.node_kind) 1) (at tb (node_row tb + n) Field.own_branches) 0

  -- the size of block i, as its line says it
  unfoldable pub size : Part → ℕ → ℕ
  size Slots d = slot_count tb d
  size Nodes d = node_count tb d
  size Branches n = branch_count n

  -- where block i starts in its part; one past the last block ends it, and what lies further has no place
  unfoldable pub start : Part → ℕ → ℕ
  start p i = cond (leb i (blocks p)) (sum_to (size p) i) 0

  -- the block that x stands in: the first that ends past x
  unfoldable pub ends_past : Part → ℕ → ℕ → Bool
  ends_past p x i = ltb x (start p (suc i))

  unfoldable pub owner : Part → ℕ → ℕ
  owner p x = cond (ltb x (lines p)) (first (ends_past p x) (blocks p)) 0

  -- the definition of a node, and the node of a branch, both over the whole file
  abbrev pub definition_of : ℕ → ℕ
  definition_of n = owner Nodes n

  abbrev pub node_of : ℕ → ℕ
  node_of b = owner Branches b

  -- the type of slot k of definition d
  abbrev pub slot_type : ℕ → ℕ → ℕ
  slot_type d k = at tb (slot_row tb + (start Slots d + k)) Field.type
