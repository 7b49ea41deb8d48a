-- One gap through the forward pass: gap k of node t is there at the beginning, or an edge has brought it. Assumes nothing.
use Prim.Native.Nat.{ℕ, zero, suc, ◌+◌, ◌≤◌, ◌<◌}
use native.Mathlib.Omega.{arith}
use Rattle.std.proofs.Math.Decide.{le_ind}
use Rattle.std.specs.Prelude.{◌≡◌, ◌⊎◌, ◌↔◌, Bool, true, ◌&&◌, ◌||◌, eqb, length}
use Rattle.std.proofs.Math.Path.{refl, sym}
use Rattle.std.proofs.Common.{◌∙◌}
use Rattle.std.proofs.Math.Logic.{inl, inr, ⊎_elim, ⊎_map}
use Rattle.std.proofs.Math.Bool.{false, not}
use mathlib.Core.List.{List, []}
use Rattle.std.proofs.Math.ListN.{get_or}
use Rattle.std.proofs.Math.Seq.{get_or-set_same, get_or-set_other}
use borrow.Author.Tests.{eqb-true, eqb-false, eq-eqb, not-true}
use Rattle.numbers.specs.Rows.{at}
use Rattle.numbers.specs.Search.{tabulate}
use Rattle.numbers.specs.Search.Laws.{case_b, contra, get_d_tabulate}
use Rattle.numbers.specs.Tests.{and_left, and_right}
use Rattle.table.specs.Fields as Field
use Rattle.table.specs.Table.{Table, max_nodes}
use Rattle.table.specs.Layout.{branch_count}
use Rattle.flow.specs.Flow.{Gaps, gap_count, slot_written, past_write, either, arrive, begins, beginning, branch_followed, branches_followed, flow_to}
use Rattle.flow.specs.Flow.Laws.{length_arrive, length_branches, length_flow}
use Rattle.loader_laws.specs.Paths.{first_node, row_of, Leads, Edge}

pub or_true : (a b : Bool) → ((a || b) ≡ true) ↔ ((a ≡ true) ⊎ (b ≡ true))
or_true true b = (λ e. inl refl, λ s. refl)
or_true false b = (λ e. inr e, λ s. ⊎_elim (λ f. contra f refl) (λ f. f) s)

-- gap k of node t
abbrev pub gap : Gaps → ℕ → ℕ → Bool
gap ms t k = get_or (get_or ms t []) k false

-- ---- the gaps are those of 192 nodes throughout

module _ (tb : Table) where
  -- the branch in row r, of a node with the gaps m, lets gap k go on
  abbrev pub LetsOn : ℕ → List Bool → ℕ → Type 0
  LetsOn k m r = (get_or m k false ≡ true) × (eqb k (slot_written tb r) ≡ false)

  -- branch i of node n, which has the gaps m, brings gap k to node t
  pub record Brings (n : ℕ) (m : List Bool) (t k i : ℕ) : Type 0 where
    pub leads : Leads tb (first_node tb n) (row_of tb n i) t
    pub lets : LetsOn k m (row_of tb n i)

  module _ (t k : ℕ) (h : t < max_nodes) (l : k < gap_count) where
    pub begin_gap : gap (flow_to tb 0) t k ≡ begins tb t k
    unfolding flow_to beginning
    begin_gap = rw (get_d_tabulate max_nodes t (λ n. tabulate gap_count (begins tb n)) [] h) (get_d_tabulate gap_count k (begins tb t) false l)

    past_iff : (m : List Bool) (r : ℕ) → (get_or (past_write (slot_written tb r) m) k false ≡ true) ↔ LetsOn k m r
    unfolding past_write
    past_iff m r =
        let w = slot_written tb r in
        rw (get_d_tabulate gap_count k (λ j. get_or m j false && not (eqb j w)) false l)
        (λ e. (and_left _ _ e, not-true _ (and_right (get_or m k false) _ e)), λ s. rw (s.0, s.1))

    arrive_gap : (ms : Gaps) (u : ℕ) (m : List Bool) → length ms ≡ max_nodes → gap (arrive ms u m) t k ≡ (gap ms t k || (eqb t u && get_or m k false))
    unfolding arrive either
    arrive_gap ms u m e = case_b (eqb t u)
        (λ y. let q : u ≡ t = sym (eqb-true t u y) in
        rw (q, eq-eqb t t refl, get_or-set_same ms t (either (get_or ms t []) m) [] (omega arith))
        (get_d_tabulate gap_count k (λ j. get_or (get_or ms t []) j false || get_or m j false) false l))
        (λ y. rw (y, get_or-set_other ms u t (either (get_or ms u []) m) [] (eqb-false t u y)) (case_b (gap ms t k) (λ z. rw z) (λ z. rw z)))

    arrive_iff : (ms : Gaps) (u : ℕ) (m : List Bool) → length ms ≡ max_nodes → (gap (arrive ms u m) t k ≡ true) ↔ ((gap ms t k ≡ true) ⊎ ((t ≡ u) × (get_or m k false ≡ true)))
    arrive_iff ms u m e =
        let either_way = or_true (gap ms t k) (eqb t u && get_or m k false) in
        rw (arrive_gap ms u m e) (
          λ y. ⊎_map (λ a. a) (λ b. (eqb-true t u (and_left _ _ b), and_right (eqb t u) _ b)) (either_way.0 y),
          λ s. either_way.1 (⊎_map (λ a. a) (λ b. rw (eq-eqb t u b.0, b.1)) s),
        )

    branch_iff : (f : ℕ) (m : List Bool) (r : ℕ) (ms : Gaps) → length ms ≡ max_nodes → (gap (branch_followed tb f m r ms) t k ≡ true) ↔ ((gap ms t k ≡ true) ⊎ (Leads tb f r t × LetsOn k m r))
    unfolding branch_followed
    branch_iff f m r ms e =
        let w = past_write (slot_written tb r) m in
        let next = arrive_iff ms (f + at tb r Field.next) w e in
        let child = arrive_iff (arrive ms (f + at tb r Field.next) w) (f + at tb r Field.child) w (length_arrive ms (f + at tb r Field.next) w ∙ e) in
        let past = past_iff m r in
        case_b (eqb (at tb r Field.action) 4)
        (λ y. let spawn : at tb r Field.action ≡ 4 = eqb-true (at tb r Field.action) 4 y in
        rw y (
          λ x. ⊎_elim (λ a. ⊎_map (λ b. b) (λ b. (inl b.0, past.0 b.1)) (next.0 a)) (λ b. inr (inr (spawn, b.0), past.0 b.1)) (child.0 x),
          λ s. child.1 (⊎_elim (λ a. inl (next.1 (inl a)))
              (λ b. ⊎_map (λ q. next.1 (inr (q, past.1 b.1))) (λ c. (c.1, past.1 b.1)) b.0) s),
        ))
        (λ y. rw y (
          λ x. ⊎_map (λ a. a) (λ b. (inl b.0, past.0 b.1)) (next.0 x),
          λ s. next.1 (⊎_map (λ a. a) (λ b. (⊎_elim (λ q. q) (λ c. absurd (eqb-false (at tb r Field.action) 4 y c.0)) b.0, past.1 b.1)) s),
        ))

    branches_iff : (n : ℕ) (m : List Bool) (ms : Gaps) → length ms ≡ max_nodes → (i : ℕ) → (gap (branches_followed tb n m ms i) t k ≡ true) ↔ ((gap ms t k ≡ true) ⊎ ((j : ℕ) × (j < i) × Brings n m t k j))
    unfolding branches_followed
    branches_iff n m ms e zero = (λ x. inl x, λ s. ⊎_elim (λ a. a) (λ b. absurd (let z = b.1 in omega arith)) s)
    branches_iff n m ms e (suc i) =
        let before = branches_iff n m ms e i in
        let last = branch_iff (first_node tb n) m (row_of tb n i) (branches_followed tb n m ms i) (length_branches tb n m ms i ∙ e) in (
          λ x. ⊎_elim (λ a. ⊎_map (λ b. b) (λ b. let (j, z, d) = b in (j, omega arith, d)) (before.0 a))
              (λ b. inr (i, omega arith, record { leads = b.0; lets = b.1 })) (last.0 x),
          λ s. last.1 (⊎_elim (λ a. inl (before.1 (inl a)))
              (λ b. let (j, z, d) = b in
              case_b (eqb j i)
              (λ y. let q : j ≡ i = eqb-true j i y in let c : Brings n m t k i = rw q at d in inr (c.leads, c.lets))
              (λ y. let q = eqb-false j i y in inl (before.1 (inr (j, omega arith, d))))) s),
        )

    -- node n is passed: gap k was there before, or an edge from n brings it
    pub flow_iff : (n : ℕ) → (gap (flow_to tb (suc n)) t k ≡ true) ↔ ((gap (flow_to tb n) t k ≡ true) ⊎ ((i : ℕ) × Edge tb n i t × LetsOn k (get_or (flow_to tb n) n []) (row_of tb n i)))
    unfolding flow_to
    flow_iff n =
        let all = branches_iff n (get_or (flow_to tb n) n []) (flow_to tb n) (length_flow tb n) (branch_count tb n) in (
          λ x. ⊎_map (λ a. a) (λ b. let (i, z, d) = b in (i, record { branch = z; leads = d.leads }, d.lets)) (all.0 x),
          λ s. all.1 (⊎_map (λ a. a) (λ b. let (i, d, c) = b in (i, d.branch, record { leads = d.leads; lets = c })) s),
        )

    pub flow_stays : (m n : ℕ) → m ≤ n → gap (flow_to tb m) t k ≡ true → gap (flow_to tb n) t k ≡ true
    flow_stays m n z e = le_ind (λ (j : ℕ). gap (flow_to tb j) t k ≡ true) e (λ j y x. (flow_iff j).1 (inl x)) n z
