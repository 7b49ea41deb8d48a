-- What stands in the places of an index. Assumes nothing.
use Rattle.std.specs.Prelude.{ℕ, ◌+◌, ◌-◌, ◌≤◌, ◌<◌, ◌≡◌, List, [], length, get_or, take, drop}
use native.Mathlib.Omega.{arith}
use Rattle.std.proofs.Math.Nat.{min-le_right}
use Rattle.std.proofs.Math.Path.{refl}
use Rattle.std.proofs.Common.{sym, ◌∙◌, length-take, length-drop}
use borrow.Author.Tests.{lt-ltb, le-ltb}
use Rattle.numbers.specs.Bytes.{shorts}
use Rattle.numbers.specs.Bytes.Laws.{length_numbers}
use Rattle.numbers.specs.Rows.Laws.{row_in, length_row}
use Rattle.numbers.specs.Search.Laws.{get_d_tabulate, length_tabulate}
use Rattle.table.specs.Table.{Table, table_of, table_length, max_rows, last_row, row_numbers, definition_row, slot_row, node_row, branch_row}
use Rattle.table.specs.Layout.{blocks, lines, start, owner}
use Rattle.table.specs.Form.Laws.{Counts}
use Rattle.table.specs.Index.{index_length, starts_from, starts_room, owners_from, owners_room, entry, index_of, Indexed}
use Rattle.table.specs.declared.Part.{Part}
use Rattle.table.specs.declared.Part.TheVariants.{Slots, Nodes, Branches}

module _ (tb : Table) where
  pub entry_start : (p : Part) (i : ℕ) → i < starts_room p → entry tb (starts_from p + i) ≡ start tb p i
  unfolding entry
  entry_start Slots i h =
      let z : 0 + i ≡ i = omega arith in
      rw (z, lt-ltb i 17 h)
  entry_start Nodes i h =
      let d : 17 + i - 17 ≡ i = omega arith in
      rw (le-ltb (17 + i) 17 (omega arith), lt-ltb (17 + i) 34 (omega arith), d)
  entry_start Branches i h =
      let d : 34 + i - 34 ≡ i = omega arith in
      rw (le-ltb (34 + i) 17 (omega arith), le-ltb (34 + i) 34 (omega arith), lt-ltb (34 + i) 227 (omega arith), d)

  pub entry_owner : (p : Part) (x : ℕ) → x < owners_room p → entry tb (owners_from p + x) ≡ owner tb p x
  unfolding entry
  entry_owner Slots x h = absurd (omega arith)
  entry_owner Nodes x h =
      let d : 227 + x - 227 ≡ x = omega arith in
      rw (le-ltb (227 + x) 17 (omega arith), le-ltb (227 + x) 34 (omega arith), le-ltb (227 + x) 227 (omega arith), lt-ltb (227 + x) 419 (omega arith), d)
  entry_owner Branches x h =
      let d : 419 + x - 419 ≡ x = omega arith in
      rw (le-ltb (419 + x) 17 (omega arith), le-ltb (419 + x) 34 (omega arith), le-ltb (419 + x) 227 (omega arith), le-ltb (419 + x) 419 (omega arith), lt-ltb (419 + x) 803 (omega arith), d)

  pub entry_definition_row : entry tb 803 ≡ definition_row tb
  unfolding entry
  entry_definition_row = refl

  pub entry_slot_row : entry tb 804 ≡ slot_row tb
  unfolding entry
  entry_slot_row = refl

  pub entry_node_row : entry tb 805 ≡ node_row tb
  unfolding entry
  entry_node_row = refl

  pub entry_branch_row : entry tb 806 ≡ branch_row tb
  unfolding entry
  entry_branch_row = refl

  -- the header's counts keep every place inside its room
  pub starts_fit : Counts tb → (p : Part) → blocks tb p + 1 ≤ starts_room p
  unfolding blocks
  starts_fit c Slots = omega arith
  starts_fit c Nodes = omega arith
  starts_fit c Branches = omega arith

  pub lines_fit : Counts tb → (p : Part) → 0 < owners_room p → lines tb p ≤ owners_room p
  unfolding lines
  lines_fit c Slots h = absurd (omega arith)
  lines_fit c Nodes h = omega arith
  lines_fit c Branches h = omega arith

  pub starts_inside : (p : Part) → starts_from p + starts_room p ≤ index_length
  starts_inside Slots = omega arith
  starts_inside Nodes = omega arith
  starts_inside Branches = omega arith

  pub owners_inside : (p : Part) → owners_from p + owners_room p ≤ index_length
  owners_inside Slots = omega arith
  owners_inside Nodes = omega arith
  owners_inside Branches = omega arith

  module _ (l : List ℕ) (g : Indexed tb l) where
    pub length_index : length l ≡ index_length
    unfolding index_of
    length_index = rw g.entries (length_tabulate index_length (entry tb))

    pub at_entry_lem : (k : ℕ) → k < index_length → get_or l k 0 ≡ entry tb k
    unfolding index_of
    at_entry_lem k h = rw g.entries (get_d_tabulate index_length k (entry tb) 0 h)

    pub index_start : (p : Part) (i : ℕ) → i < starts_room p → get_or l (starts_from p + i) 0 ≡ start tb p i
    index_start p i h = at_entry_lem (starts_from p + i) (omega (arith, starts_inside p)) ∙ entry_start p i h

    pub index_owner : (p : Part) (x : ℕ) → x < owners_room p → get_or l (owners_from p + x) 0 ≡ owner tb p x
    index_owner p x h = at_entry_lem (owners_from p + x) (omega (arith, owners_inside p)) ∙ entry_owner p x h

-- a buffer of a table's length has a whole last row, and no shorter one has
pub long_whole : (b : List ℕ) → length b ≡ table_length → length (get_or (table_of b) last_row []) ≡ row_numbers
long_whole b h = length_row max_rows row_numbers (shorts b) last_row (omega arith) (omega (arith, length_numbers 2 b))

pub whole_long : (b l : List ℕ) → Indexed (table_of b) l → table_length ≤ length b
whole_long b l g =
    let e : take 12 (drop 10368 (shorts b)) ≡ get_or (table_of b) 864 [] = sym (row_in 865 12 (shorts b) 864 (omega arith)) in
    let f : length (take 12 (drop 10368 (shorts b))) ≡ 12 = rw e g.whole in
    let m : 12 ≤ length (drop 10368 (shorts b)) = rw (← f) (rw (length-take 12 (drop 10368 (shorts b))) (min-le_right 12 (length (drop 10368 (shorts b))))) in
    omega (arith, length-drop 10368 (shorts b), length_numbers 2 b)
