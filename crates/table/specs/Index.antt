-- The index of a table: where each block starts, the definition of each node, the node of each branch and the first row of each kind, in one list, so that
-- a look-up is one read.
pub mod Laws
use Rattle.std.specs.Prelude.{ℕ, ◌+◌, ◌-◌, ◌<◌, true, cond, List, [], ◌≡◌, length, get_or, ltb, eqb}
use Rattle.numbers.specs.Search.{tabulate}
use Rattle.std.proofs.Common.{Fits, w8}
use Rattle.table.specs.Table.{Table, table_of, last_row, row_numbers, max_nodes, max_branches, definition_row, slot_row, node_row, branch_row}
use Rattle.table.specs.Layout.{start, owner}
use Rattle.table.specs.Form.{header_in_range}
use Rattle.table.specs.declared.Part.{Part}
use Rattle.table.specs.declared.Part.TheVariants.{Slots, Nodes, Branches}

abbrev pub index_length : ℕ
index_length = 807

-- the places of a part's starts: one for each block, and one for the end of the last
abbrev pub starts_from : Part → ℕ
starts_from Slots = 0
starts_from Nodes = 17
starts_from Branches = 34

abbrev pub starts_room : Part → ℕ
starts_room Slots = 17
starts_room Nodes = 17
starts_room Branches = 193

-- the places of a part's owners: of slots there are none
abbrev pub owners_from : Part → ℕ
owners_from Slots = 227
owners_from Nodes = 227
owners_from Branches = 419

abbrev pub owners_room : Part → ℕ
owners_room Slots = 0
owners_room Nodes = max_nodes
owners_room Branches = max_branches

-- the place of the first definition's row; the rows of the first slot, node and branch follow
abbrev pub rows_from : ℕ
rows_from = 803

module _ (tb : Table) where
  unfoldable pub entry : ℕ → ℕ
  entry x =
      cond (ltb x (starts_from Nodes)) (start tb Slots x)
      (cond (ltb x (starts_from Branches)) (start tb Nodes (x - starts_from Nodes))
      (cond (ltb x (owners_from Nodes)) (start tb Branches (x - starts_from Branches))
      (cond (ltb x (owners_from Branches)) (owner tb Nodes (x - owners_from Nodes))
      (cond (ltb x rows_from) (owner tb Branches (x - owners_from Branches))
      (cond (eqb x rows_from) (definition_row tb)
      (cond (eqb x (rows_from + 1)) (slot_row tb)
      (cond (eqb x (rows_from + 2)) (node_row tb) (branch_row tb))))))))

  unfoldable pub index_of : List ℕ
  index_of = tabulate index_length entry

  -- a list that has the starts of a part in their places
  abbrev pub Starts : Part → List ℕ → Type 0
  Starts p l = (i : ℕ) → i < starts_room p → get_or l (starts_from p + i) 0 ≡ start tb p i

  -- what a function that takes the index asks of it; the last row is whole in a buffer that has a table's length
  pub record Indexed (l : List ℕ) : Type 0 where
    pub counts : header_in_range tb ≡ true
    pub entries : l ≡ index_of
    pub whole : length (get_or tb last_row []) ≡ row_numbers

-- a table's bytes b with their index l. That each byte is one is known of a slice by its type, but not of a slice in a field
pub record Held (b l : List ℕ) : Type 0 where
  pub indexed : Indexed (table_of b) l
  pub bytes : (i : ℕ) → Fits w8 (get_or b i 0)
