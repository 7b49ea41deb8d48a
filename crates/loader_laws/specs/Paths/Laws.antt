-- What the forward pass gaps is what paths leave unwritten. Assumes nothing.
use Prim.Native.Nat.{ℕ, zero, suc, ◌≤◌, ◌<◌}
use Rattle.std.proofs.Common.{arith, ◌∙◌}
use Rattle.std.specs.Prelude.{◌≡◌, ◌⊎◌, ◌≢◌, ◌↔◌, false, eqb, leb}
use Rattle.std.proofs.Math.Path.{sym}
use Rattle.std.proofs.Math.Logic.{inl, inr, ⊎_elim}
use Rattle.std.proofs.Math.Bool.{true}
use borrow.Author.Tests.{eqb-true, eqb-false, eq-eqb, ne_eqb, leb-true, leb-false, le-leb}
use Rattle.numbers.specs.Search.Laws.{case_b, contra}
use Rattle.numbers.specs.Tests.{and_left, and_right}
use Rattle.table.specs.Table.{Table, max_nodes, nodes, parameters}
use Rattle.table.specs.Layout.{branch_count, definition_of}
use Rattle.flow.specs.Flow.{gap_count, path_gap, slot_written, begins, flow_to, flow, may_lack, has_gap as is_marked}
use Rattle.loader_laws.specs.Paths.{first_node, row_of, Edge, Path, BranchWrites, Wrote, Reachable, SurelyWritten}
use Rattle.loader_laws.specs.Paths.Path.{begin, follow}
use Rattle.loader_laws.specs.Paths.Writes.{writes_iff}
use Rattle.loader_laws.specs.Paths.Pass.{gap, begin_gap, flow_iff, flow_stays}

-- what the law asks of a table
pub record Edges (tb : Table) : Type 0 where
  pub few_nodes : nodes tb ≤ max_nodes
  -- an edge goes up and stays in its definition
  pub up : (n i t : ℕ) → n < nodes tb → Edge tb n i t → n < t
  pub inside : (n i t : ℕ) → n < nodes tb → Edge tb n i t → t < nodes tb
  pub same : (n i t : ℕ) → n < nodes tb → Edge tb n i t → definition_of tb t ≡ definition_of tb n
  -- the gap of a path is no slot's number
  pub no_slot : (n i : ℕ) → n < nodes tb → i < branch_count tb n → slot_written tb (row_of tb n i) ≢ path_gap
  pub few_parameters : (n : ℕ) → n < nodes tb → parameters tb (definition_of tb n) ≤ path_gap

-- a path to node n that leaves slot k, which is no parameter, unwritten
abbrev pub Lacking : Table → ℕ → ℕ → Type 0
Lacking tb n k = (p : Path tb n) × (¬ Wrote tb k p) × (parameters tb (definition_of tb n) ≤ k)

module _ (tb : Table) (g : Edges tb) where
  pub path_inside : {n : ℕ} → Path tb n → n < nodes tb
  path_inside (begin b e) = b
  path_inside (follow {n} {t} p i e) = g.inside n i t (path_inside p) e

  -- the branch in row r does not write slot k, nor did those before it, A
  unwritten : {A : Type 0} (r k : ℕ) → k < gap_count → ¬ A → eqb k (slot_written tb r) ≡ false → ¬ (A ⊎ BranchWrites tb r k)
  unwritten r k l u z w = ⊎_elim u (λ s. eqb-false k (slot_written tb r) z ((writes_iff tb r k l).1 s)) w

  wrote_or : (k : ℕ) → k < gap_count → {n : ℕ} (p : Path tb n) → Wrote tb k p ⊎ (¬ Wrote tb k p)
  unfolding Wrote
  wrote_or k l (begin b e) = inr (λ w. w)
  wrote_or k l (follow {n} p i e) =
      let r = row_of tb n i in
      ⊎_elim (λ a. inl (inl a))
      (λ a. case_b (eqb k (slot_written tb r))
      (λ y. inl (inr ((writes_iff tb r k l).0 (eqb-true k (slot_written tb r) y))))
      (λ y. inr (unwritten r k l a y))) (wrote_or k l p)

  -- a gap comes by a path
  has_gap : (n t k : ℕ) → n ≤ nodes tb → t < nodes tb → k < gap_count → gap (flow_to tb n) t k ≡ true → Lacking tb t k
  unfolding Wrote begins
  has_gap zero t k z b l e =
      let h : t < max_nodes = omega (arith, g.few_nodes) in
      let s : begins tb t k ≡ true = sym (begin_gap tb t k h l) ∙ e in
      (begin b (eqb-true t (first_node tb t) (and_left _ _ s)), (λ w. w), leb-true (parameters tb (definition_of tb t)) k (and_right (eqb t (first_node tb t)) _ s))
  has_gap (suc n) t k z b l e =
      let h : t < max_nodes = omega (arith, g.few_nodes) in
      ⊎_elim (λ s. has_gap n t k (omega arith) b l s)
      (λ s. let (i, d, y) = s in
      let (p, u, q) = has_gap n n k (omega arith) (omega arith) l y.0 in
      let o = g.same n i t (omega arith) d in
      (follow p i d, unwritten (row_of tb n i) k l u y.1, rw o q)) ((flow_iff tb t k h l n).0 e)

  -- a path brings its gap, when the nodes below its end have been passed
  brought : {t : ℕ} (p : Path tb t) (k m : ℕ) → k < gap_count → t ≤ m → ¬ Wrote tb k p → parameters tb (definition_of tb t) ≤ k → gap (flow_to tb m) t k ≡ true
  unfolding Wrote begins
  brought {t} (begin b e) k m l z w q =
      let h : t < max_nodes = omega (arith, g.few_nodes) in
      flow_stays tb t k h l 0 m (omega arith) (begin_gap tb t k h l ∙ rw (eq-eqb t (first_node tb t) e, le-leb (parameters tb (definition_of tb t)) k q))
  brought {t} (follow {n} p i e) k m l z w q =
      let b = path_inside p in
      let h : t < max_nodes = omega (arith, g.few_nodes, g.inside n i t b e) in
      let o = g.same n i t b e in
      let v = ne_eqb k (slot_written tb (row_of tb n i)) (λ x. w (inr ((writes_iff tb (row_of tb n i) k l).0 x))) in
      let y : gap (flow_to tb n) n k ≡ true = brought p k n l (omega arith) (λ x. w (inl x)) (rw o at q) in
      flow_stays tb t k h l (suc n) m (omega (arith, g.up n i t b e)) ((flow_iff tb t k h l n).1 (inr (i, e, (y, v))))

  -- the pass gaps what some path lacks
  pub lacks_iff : (n k : ℕ) → n < nodes tb → k < gap_count → (may_lack tb n k ≡ true) ↔ Lacking tb n k
  unfolding may_lack is_marked flow
  lacks_iff n k b l = (λ e. has_gap (nodes tb) n k (omega arith) b l e, λ s. brought s.0 k (nodes tb) l (omega arith) s.1 s.2)

  -- nothing writes the gap of a path
  path_unwritten : {n : ℕ} (p : Path tb n) → ¬ Wrote tb path_gap p
  unfolding Wrote
  path_unwritten (begin b e) w = w
  path_unwritten (follow {n} p i e) w =
      ⊎_elim (λ x. path_unwritten p x)
      (λ s. g.no_slot n i (path_inside p) e.branch (sym ((writes_iff tb (row_of tb n i) path_gap (omega arith)).1 s))) w

  -- ground 7: the gap of a path is there just when the node is reachable
  pub reachable_iff : (n : ℕ) → n < nodes tb → (may_lack tb n path_gap ≡ true) ↔ Reachable tb n
  reachable_iff n b =
      let lacks = lacks_iff n path_gap b (omega arith) in
      (λ e. (lacks.0 e).0, λ p. lacks.1 (p, path_unwritten p, g.few_parameters n b))

  -- ground 6: what the pass does not gap is surely written, and the other way round
  pub written_iff : (n k : ℕ) → n < nodes tb → k < path_gap → (may_lack tb n k ≡ false) ↔ SurelyWritten tb n k
  written_iff n k b l =
      let lacks = lacks_iff n k b (omega arith) in (
        λ e. case_b (leb (parameters tb (definition_of tb n)) k)
            (λ y. inr (λ p. ⊎_elim (λ w. w) (λ w. contra (lacks.1 (p, w, leb-true _ k y)) e) (wrote_or k (omega arith) p)))
            (λ y. inl (leb-false _ k y)),
        λ s. case_b (may_lack tb n k)
            (λ y. let (p, w, q) = lacks.0 y in ⊎_elim (λ z. absurd (let h : ⊥ = omega arith in h)) (λ f. absurd (w (f p))) s)
            (λ y. y),
      )

  -- what is surely written at the first node of a definition is a parameter
  pub written_first : (n k : ℕ) → n < nodes tb → k < path_gap → n ≡ first_node tb n → may_lack tb n k ≡ false → k < parameters tb (definition_of tb n)
  unfolding Wrote
  written_first n k b l f e = ⊎_elim (λ z. z) (λ w. absurd (w (begin b f))) ((written_iff n k b l).0 e)

  -- what is surely written where an edge leads was so where it comes from, or its branch writes it
  pub written_after : (n i t k : ℕ) → n < nodes tb → k < path_gap → Edge tb n i t → may_lack tb t k ≡ false → (may_lack tb n k ≡ false) ⊎ (k ≡ slot_written tb (row_of tb n i))
  unfolding Wrote
  written_after n i t k b l d e =
      let w = slot_written tb (row_of tb n i) in
      let o = g.same n i t b d in
      case_b (may_lack tb n k)
      (λ y. let (p, u, q) = (lacks_iff n k b (omega arith)).0 y in
      case_b (eqb k w) (λ z. inr (eqb-true k w z))
      (λ z. contra ((lacks_iff t k (g.inside n i t b d) (omega arith)).1 (follow p i d, unwritten (row_of tb n i) k (omega arith) u z, rw o q)) e))
      (λ y. inl y)
