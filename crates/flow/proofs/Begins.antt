-- The gaps that the nodes begin with, laid one by one. Assumes nothing.
use Prim.Native.Nat.{ℕ, zero, suc, ◌+◌, ◌≤◌, ◌<◌}
use native.Mathlib.Omega.{arith}
use native.Mathlib.Numerals.{add-one}
use mathlib.Core.Path.{◌≡◌, sym, ◌∙◌}
use mathlib.Core.List.{List, [], ◌∷◌, map, map-append}
use lib.Dec.{eqb, leb}
use lib.ListN.{set, replicate}
use borrow.Author.Tests.{ne_eqb, le-leb}
use Rattle.numbers.specs.Search.{tabulate}
use Rattle.numbers.specs.Search.Laws.{case_b, sum_none, tabulate_none, tabulate_suc, tabulate_cong}
use Rattle.table.specs.Table.{Table, max_nodes, nodes, parameters}
use Rattle.table.specs.Layout.{blocks, lines, size, start, definition_of}
use Rattle.table.specs.Layout.Laws.{owner_past}
use Rattle.table.specs.Form.Laws.{Counts}
use Rattle.numbers.specs.Laid.{laid}
use Rattle.numbers.specs.Laid.Laws.{laid_none, laid_put, laid_skip, laid_all}
use Rattle.table.specs.declared.Part.{Part}
use Rattle.table.specs.declared.Part.TheVariants.{Nodes}
use Rattle.flow.specs.Flow.{gap_count, begins, beginning}
use Rattle.flow.specs.Gaps.{bit, bits, gaps_of, seed}
use Rattle.flow.specs.Gaps.Laws.{bit_none, bits_from}

map_tabulate {ℓ} : {A B : Type ℓ} (f : A → B) (n : ℕ) (g : ℕ → A) → map f (tabulate n g) ≡ tabulate n (λ k. f (g k))
map_tabulate f zero g = rw (tabulate_none g, tabulate_none (λ k. f (g k)))
map_tabulate f (suc n) g =
    rw (tabulate_suc n g, tabulate_suc n (λ k. f (g k)), map-append f (tabulate n g) (g n ∷ []), map_tabulate f n g)

module _ (tb : Table) where
  start_zero : (p : Part) → start tb p 0 ≡ 0
  unfolding start
  start_zero p = rw (le-leb 0 (blocks tb p) (omega arith)) (sum_none (size tb p))

  -- past the last node there is nothing to begin with
  seed_past : (n : ℕ) → 1 ≤ nodes tb → nodes tb ≤ n → seed tb n ≡ 0
  unfolding seed lines
  seed_past n h k = rw (owner_past tb Nodes n k, start_zero Nodes, ne_eqb n 0 (λ e. omega arith))

  bits_seed : (n : ℕ) → bits (seed tb n) ≡ tabulate gap_count (begins tb n)
  unfolding seed begins bits
  bits_seed n = case_b (eqb n (start tb Nodes (definition_of tb n)))
      (λ t. rw t (bits_from (parameters tb (definition_of tb n)) ∙ tabulate_cong gap_count (leb (parameters tb (definition_of tb n))) (begins tb n) (λ k l. rw t)))
      (λ f. rw f (tabulate_cong gap_count (bit 0) (begins tb n) (λ k l. bit_none k ∙ rw f)))

  pub begin_none : (l : List ℕ) → l ≡ replicate max_nodes 0 → l ≡ laid (seed tb) 0 max_nodes
  begin_none l e = e ∙ sym (laid_none (seed tb) max_nodes)

  pub begin_more : (l l' : List ℕ) (n s : ℕ) → l' ≡ set l n s → l ≡ laid (seed tb) n max_nodes → s ≡ seed tb n → n < max_nodes
      → l' ≡ laid (seed tb) (n + 1) max_nodes
  begin_more l l' n s f e i h = rw (add-one n, f, e, i) (laid_put (seed tb) max_nodes n h)

  pub begin_all : (l : List ℕ) (n c : ℕ) → l ≡ laid (seed tb) n max_nodes → c ≡ nodes tb → Counts tb → n ≤ c → c ≤ n → gaps_of l ≡ beginning tb
  unfolding gaps_of beginning
  begin_all l n c e q o h k =
      let s : laid (seed tb) n max_nodes ≡ laid (seed tb) max_nodes max_nodes = laid_skip (seed tb) max_nodes n max_nodes (omega arith) (omega arith) (λ i j m. seed_past i (omega arith) (omega arith)) in
      rw (e, s, laid_all (seed tb) max_nodes, map_tabulate bits max_nodes (seed tb))
      (tabulate_cong max_nodes (λ i. bits (seed tb i)) (λ i. tabulate gap_count (begins tb i)) (λ i j. bits_seed i))
