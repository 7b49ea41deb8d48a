-- What is read in the places of an index. Assumes nothing.
use Prim.Native.Nat.{ℕ, ◌+◌, ◌*◌, ◌≤◌, ◌<◌}
use native.Mathlib.Omega.{arith}
use mathlib.Core.Path.{◌≡◌, refl, sym, ◌∙◌}
use mathlib.Core.List.{List, [], ◌∷◌}
use lib.ListN.{length, get_or}
use mir.Syntax.{w8, w32, w64}
use mir.Val.{Fits}
use Rattle.numbers.specs.Bytes.{little}
use Rattle.numbers.specs.Bytes.Laws.{short_is}
use Rattle.numbers.specs.Rows.{at}
use Rattle.table.proofs.Cells.{cell_in}
use Rattle.table.specs.Table.{Table, max_rows, row_numbers, table_of, definition_row, slot_row, node_row, branch_row}
use Rattle.table.specs.Bounds.{start_few}
use Rattle.table.specs.Layout.{blocks, start, owner}
use Rattle.table.specs.Form.Laws.{header_counts}
use Rattle.table.specs.Index.{starts_from, starts_room, owners_from, owners_room, Indexed}
use Rattle.table.specs.Layout.Laws.{start_out, owner_past, owner_le}
use Rattle.table.specs.Index.Laws.{length_index, at_entry_lem, index_start, index_owner, entry_definition_row, entry_slot_row, entry_node_row, entry_branch_row, starts_fit, lines_fit, starts_inside, owners_inside, whole_long}
use Rattle.table.specs.declared.Part.{Part}

module _ (tb : Table) (l : List ℕ) (g : Indexed tb l) (p : Part) (f n : ℕ) where
  -- f is where the part's starts begin, and n their room
  module _ (a : f ≡ starts_from p) (b : n ≡ starts_room p) (i : ℕ) (h : i < n) where
    pub start_inside : f + i < length l
    start_inside = omega (arith, length_index tb l g, starts_inside tb p)

    pub start_is : get_or l (f + i) 0 ≡ start tb p i
    start_is = rw a (index_start tb l g p i (omega arith))

  pub start_past : n ≡ starts_room p → (i : ℕ) → n ≤ i → 0 ≡ start tb p i
  start_past b i h = sym (start_out tb p i (omega (arith, starts_fit tb (header_counts tb g.counts) p)))

  module _ (a : f ≡ owners_from p) (b : n ≡ owners_room p) (x : ℕ) (h : x < n) where
    pub owner_inside : f + x < length l
    owner_inside = omega (arith, length_index tb l g, owners_inside tb p)

    pub owner_is : get_or l (f + x) 0 ≡ owner tb p x
    owner_is = rw a (index_owner tb l g p x (omega arith))

    pub owner_small : get_or l (f + x) 0 ≤ blocks tb p
    owner_small = rw owner_is (owner_le tb p x)

  pub owner_none : n ≡ owners_room p → 0 < owners_room p → (x : ℕ) → n ≤ x → 0 ≡ owner tb p x
  owner_none b r x h = sym (owner_past tb p x (omega (arith, lines_fit tb (header_counts tb g.counts) p r)))

-- block i is there, or it is one past the last
module _ (tb : Table) (l : List ℕ) (g : Indexed tb l) (p : Part) (f : ℕ) (a : f ≡ starts_from p) (i : ℕ) (h : i ≤ blocks tb p) where
  block_fits : i < starts_room p
  block_fits = omega (arith, starts_fit tb (header_counts tb g.counts) p)

  pub within_inside : f + i < length l
  within_inside = start_inside tb l g p f (starts_room p) a refl i block_fits

  pub within_is : get_or l (f + i) 0 ≡ start tb p i
  within_is = start_is tb l g p f (starts_room p) a refl i block_fits

-- the first rows
module _ (tb : Table) (l : List ℕ) (g : Indexed tb l) where
  pub definition_row_inside : 803 < length l
  definition_row_inside = omega (arith, length_index tb l g)

  pub slot_row_inside : 804 < length l
  slot_row_inside = omega (arith, length_index tb l g)

  pub node_row_inside : 805 < length l
  node_row_inside = omega (arith, length_index tb l g)

  pub branch_row_inside : 806 < length l
  branch_row_inside = omega (arith, length_index tb l g)

  pub definition_row_is : get_or l 803 0 ≡ definition_row tb
  definition_row_is = at_entry_lem tb l g 803 (omega arith) ∙ entry_definition_row tb

  pub slot_row_is : get_or l 804 0 ≡ slot_row tb
  slot_row_is = at_entry_lem tb l g 804 (omega arith) ∙ entry_slot_row tb

  pub node_row_is : get_or l 805 0 ≡ node_row tb
  node_row_is = at_entry_lem tb l g 805 (omega arith) ∙ entry_node_row tb

  pub branch_row_is : get_or l 806 0 ≡ branch_row tb
  branch_row_is = at_entry_lem tb l g 806 (omega arith) ∙ entry_branch_row tb

  pub definition_row_low : get_or l 803 0 ≤ 17
  definition_row_low = let c = header_counts tb g.counts in rw definition_row_is (omega arith)

  pub slot_row_low : get_or l 804 0 ≤ 33
  slot_row_low = let c = header_counts tb g.counts in rw slot_row_is (omega arith)

  pub node_row_low : get_or l 805 0 ≤ 289
  node_row_low = let c = header_counts tb g.counts in rw node_row_is (omega arith)

  pub branch_row_low : get_or l 806 0 ≤ 481
  branch_row_low = let c = header_counts tb g.counts in rw branch_row_is (omega arith)

-- a start is small
module _ (b l : List ℕ) (g : Indexed (table_of b) l) (v : (i : ℕ) → Fits w8 (get_or b i 0)) where
  pub start_low : (p : Part) (f n : ℕ) → f ≡ starts_from p → n ≡ starts_room p → (i : ℕ) → i < n → get_or l (f + i) 0 ≤ 12582720
  start_low p f n a e i h = rw (start_is (table_of b) l g p f n a e i h) (start_few b v l g p i)

  pub within_low : (p : Part) (f : ℕ) → f ≡ starts_from p → (i : ℕ) → i ≤ blocks (table_of b) p → get_or l (f + i) 0 ≤ 12582720
  within_low p f a i h = rw (within_is (table_of b) l g p f a i h) (start_few b v l g p i)

-- a number of an index as a wider one
pub wider : (l : List ℕ) → ((i : ℕ) → Fits w32 (get_or l i 0)) → (k : ℕ) → Fits w64 (get_or l k 0)
wider l f k = record { fits = omega (arith, (f k).fits) }

-- a table that has an index is whole
module _ (b l : List ℕ) (g : Indexed (table_of b) l) (t k : ℕ) (h : t < max_rows) (j : k < row_numbers) where
  pub cell_inside : (t * row_numbers + k) * 2 < length b
  cell_inside = omega (arith, whole_long b l g)

  pub cell_inside_next : (t * row_numbers + k) * 2 + 1 < length b
  cell_inside_next = omega (arith, whole_long b l g)

  pub cell_known : (r : ℕ) → r ≡ little (get_or b ((t * row_numbers + k) * 2) 0 ∷ get_or b ((t * row_numbers + k) * 2 + 1) 0 ∷ []) → r ≡ at (table_of b) t k
  cell_known r e = cell_in b t k r (short_is b (t * row_numbers + k) r e (omega (arith, whole_long b l g))) h j

pub ruleset starts_read = (start_is, start_past)

pub ruleset starts_read_within = (within_inside, within_is, within_low)

pub ruleset owners_read = (owner_is, owner_small, owner_none)

pub ruleset first_rows = (
  wider,
  definition_row_inside,
  definition_row_is,
  definition_row_low,
  slot_row_inside,
  slot_row_is,
  slot_row_low,
  node_row_inside,
  node_row_is,
  node_row_low,
  branch_row_inside,
  branch_row_is,
  branch_row_low,
)
