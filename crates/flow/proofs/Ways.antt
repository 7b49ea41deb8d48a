-- What the functions that follow branches and nodes answer. Assumes nothing.
use Prim.Native.Nat.{ℕ, zero, suc, ◌+◌, ◌≤◌, ◌<◌}
use native.Mathlib.Omega.{arith}
use native.Mathlib.Numerals.{add-one}
use native.Mathlib.Nat.{add_assoc}
use mathlib.Core.Path.{◌≡◌, refl, ◌∙◌, ap}
use mathlib.Core.Bool.{Bool}
use mathlib.Core.List.{List, [], ◌∷◌}
use lib.ListN.{length, get_or, length-map}
use Rattle.table.specs.Table.{Table, max_nodes, nodes, branch_row}
use Rattle.table.specs.Layout.{start, branch_count, definition_of}
use Rattle.table.specs.declared.Part.TheVariants.{Nodes, Branches}
use Rattle.flow.specs.Flow.Laws.{length_flow}
use Rattle.flow.specs.Flow.{Gaps, beginning, branch_followed, branches_followed, flow_to, flow}
use Rattle.flow.specs.Gaps.{bits, gaps_of}

-- ---- the branches of a node

module _ (tb : Table) (n : ℕ) (m : List Bool) (ms : Gaps) where
  pub branches_none : ms ≡ branches_followed tb n m ms 0
  unfolding branches_followed
  branches_none = refl

  pub branches_more : (i f row : ℕ) (ms₁ ms₂ : Gaps) → f ≡ start tb Nodes (definition_of tb n) → row ≡ branch_row tb + start tb Branches n
      → ms₁ ≡ branches_followed tb n m ms i → ms₂ ≡ branch_followed tb f m (row + i) ms₁ → ms₂ ≡ branches_followed tb n m ms (i + 1)
  unfolding branches_followed
  branches_more i f row ms₁ ms₂ e g h j = j ∙ rw (h, e, g, add-one i, add_assoc (branch_row tb) (start tb Branches n) i)

  pub branches_all : (i c : ℕ) (ms₁ : Gaps) → ms₁ ≡ branches_followed tb n m ms i → c ≡ branch_count tb n → i ≤ c → c ≤ i
      → ms₁ ≡ branches_followed tb n m ms (branch_count tb n)
  branches_all i c ms₁ e g h j = let q : branch_count tb n ≡ i = omega arith in rw q e

-- ---- the nodes

row_bits : (l : List ℕ) (n : ℕ) → n < length l → get_or (gaps_of l) n [] ≡ bits (get_or l n 0)
unfolding gaps_of
row_bits [] n h = absurd (omega arith)
row_bits (m ∷ l) zero h = refl
row_bits (m ∷ l) (suc n) h = row_bits l n (omega arith)

length_gaps : (l : List ℕ) → length (gaps_of l) ≡ length l
unfolding gaps_of
length_gaps l = length-map l bits

module _ (tb : Table) where
  pub flow_none : (ms : Gaps) → ms ≡ beginning tb → ms ≡ flow_to tb 0
  unfolding flow_to
  flow_none ms e = e

  pub flow_more : (l l' : List ℕ) (n m : ℕ) → n < max_nodes → gaps_of l ≡ flow_to tb n → m ≡ get_or l n 0
      → gaps_of l' ≡ branches_followed tb n (bits m) (gaps_of l) (branch_count tb n) → gaps_of l' ≡ flow_to tb (n + 1)
  unfolding flow_to
  flow_more l l' n m h e f k =
      let b : get_or (gaps_of l) n [] ≡ bits (get_or l n 0) = row_bits l n (omega (arith, length_gaps l, ap length e, length_flow tb n)) in
      k ∙ rw (f, ← b, e, add-one n)

  pub flow_all : (ms : Gaps) (n c : ℕ) → ms ≡ flow_to tb n → c ≡ nodes tb → n ≤ c → c ≤ n → ms ≡ flow tb
  unfolding flow
  flow_all ms n c e f h k = let q : nodes tb ≡ n = omega arith in rw q e
