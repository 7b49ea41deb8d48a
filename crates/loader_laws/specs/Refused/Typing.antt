-- Ground 5: the test of a line finds just that its types disagree, in a table that grounds 3 and 4 do not refuse. Assumes nothing.
use Rattle.std.specs.Prelude.{ℕ, zero, suc, ◌+◌, ◌-◌, ◌≤◌, ◌<◌, ◌≡◌, ◌⊎◌, ◌&&◌, ◌||◌, ltb, leb}
use native.Mathlib.Omega.{arith}
use Rattle.std.proofs.Math.Path.{sym}
use Rattle.std.proofs.Common.{◌∙◌}
use Rattle.std.proofs.Math.Logic.{inl, inr, ⊎_elim}
use Rattle.std.proofs.Math.Bool.{true, false}
use Rattle.std.proofs.Math.Dec.{eqb}
use borrow.Author.Tests.{ltb-true, ltb-false, leb-true, le-leb, eqb-true, eqb-false, eq-eqb, ne_eqb, not-true}
use Rattle.numbers.specs.Rows.{at}
use Rattle.numbers.specs.Search.{every}
use Rattle.numbers.specs.Search.Laws.{case_b, contra, every_elim, every_intro}
use Rattle.numbers.specs.Tests.{and_left, and_right, parts}
use Rattle.table.specs.Fields as Field
use Rattle.table.specs.Table.{Table, types, nodes, ports, definition_row, node_row, branch_row, line_total, carried, parameters}
use Rattle.table.specs.Layout.{start, branch_count, definition_of, slot_type}
use Rattle.table.specs.Form.Laws.{within_most, header_counts}
use Rattle.table.specs.Roles.{guard_role, action_role, operand_place, operand, operand_role}
use Rattle.table.specs.declared.Part.TheVariants.{Branches}
use Rattle.ranges.specs.Ranges.{branch_in_range}
use Rattle.types.specs.Types.{role_typed, port_typed, ports_typed, argument_typed, node_typed, operand_typed, branch_typed, row_typed, types_disagree}
use Rattle.loader_laws.specs.Paths.{row_of}
use Rattle.loader_laws.specs.Grounds.{Formed, node_kind_lem, branch_kind, node_row_lem, branch_row_of, node_of_lem, branch_below, own_branch_in_range}
use Rattle.loader_laws.specs.Refused.{PortsAgree, CallAgrees, BranchAgrees, TypesDisagree}
use Rattle.loader_laws.specs.Refused.Form.{Says}

module _ (tb : Table) where
  -- ---- ports

  ports_say : Says (ports_typed tb) (PortsAgree tb)
  unfolding ports_typed port_typed
  ports_say = (
    λ e. let a : every (port_typed tb) (ports tb) ≡ true = search parts in
        let b : (eqb (ports tb) 0 || (leb 1 (types tb) && eqb (carried tb 1) 0)) ≡ true = search parts in
        record {
          as_many = eqb-true (parameters tb 0) (ports tb) (and_left _ _ e);
          of_type = λ k h. eqb-true (slot_type tb 0 k) 1 (every_elim (port_typed tb) (ports tb) k a h);
          numbers = λ h. let c : (leb 1 (types tb) && eqb (carried tb 1) 0) ≡ true = rw (ne_eqb (ports tb) 0 (λ q. omega arith)) at b in
              (leb-true 1 (types tb) (and_left _ _ c), eqb-true (carried tb 1) 0 (and_right (leb 1 (types tb)) _ c));
        },
    λ p. let a = eq-eqb (parameters tb 0) (ports tb) p.as_many in
        let b = every_intro (port_typed tb) (ports tb) (λ k h. eq-eqb (slot_type tb 0 k) 1 (p.of_type k h)) in
        case_b (eqb (ports tb) 0) (λ y. rw (a, b, y))
        (λ y. let (c, d) = p.numbers (positive (eqb-false (ports tb) 0 y)) in rw (a, b, y, le-leb 1 (types tb) c, eq-eqb (carried tb 1) 0 d)),
  )
    where
      positive : {n : ℕ} → (n ≡ 0 → ⊥) → 0 < n
      positive f = omega arith

  -- ---- calls

  call_says : (r d : ℕ) → at tb r Field.node_kind ≡ 2 → Says (node_typed tb r d) (CallAgrees tb r d)
  unfolding node_typed argument_typed
  call_says r d c = rw c (
    λ e i h. eqb-true _ _ (every_elim (argument_typed tb r d) (parameters tb (at tb r Field.callee)) i e h),
    λ f. every_intro (argument_typed tb r d) (parameters tb (at tb r Field.callee)) (λ i h. eq-eqb _ _ (f i h)),
  )

  -- ---- branches

  module _ (r d : ℕ) (guards : at tb r Field.guard ≤ 4) (acts : at tb r Field.action ≤ 7) where
    -- what each operand asks, by the code of its guard or action
    typed : (k : ℕ) → branch_typed tb r d ≡ true → k < 5 → operand_typed tb r d k ≡ true
    unfolding branch_typed
    typed k e h = every_elim (operand_typed tb r d) 5 k e h

    agrees : branch_typed tb r d ≡ true → BranchAgrees tb r d
    unfolding operand_typed operand_role guard_role action_role operand operand_place role_typed
    agrees e = record {
      constant_guard = λ c. ⊎_elim (λ q. eqb-true _ 0 (rw q at (typed 0 e (omega arith)))) (λ q. eqb-true _ 0 (rw q at (typed 0 e (omega arith)))) c;
      slot_guard = λ c. ⊎_elim (λ q. (eqb-true _ 0 (rw q at (typed 0 e (omega arith))), eqb-true _ 0 (rw q at (typed 1 e (omega arith)))))
          (λ q. (eqb-true _ 0 (rw q at (typed 0 e (omega arith))), eqb-true _ 0 (rw q at (typed 1 e (omega arith))))) c;
      send_receive = λ c. ⊎_elim (λ q. (eqb-false _ 0 (not-true _ (rw q at (typed 2 e (omega arith)))), eqb-true _ _ (rw q at (typed 3 e (omega arith)))))
          (λ q. (eqb-false _ 0 (not-true _ (rw q at (typed 2 e (omega arith)))), eqb-true _ _ (rw q at (typed 3 e (omega arith))))) c;
      new_channel_lem = λ q. eqb-false _ 0 (not-true _ (rw q at (typed 2 e (omega arith))));
      set_number = λ q. eqb-true _ 0 (rw q at (typed 2 e (omega arith)));
      sums = λ c. ⊎_elim (λ q. (eqb-true _ 0 (rw q at (typed 2 e (omega arith))), eqb-true _ 0 (rw q at (typed 3 e (omega arith))), eqb-true _ 0 (rw q at (typed 4 e (omega arith)))))
          (λ q. (eqb-true _ 0 (rw q at (typed 2 e (omega arith))), eqb-true _ 0 (rw q at (typed 3 e (omega arith))), eqb-true _ 0 (rw q at (typed 4 e (omega arith))))) c;
    }

    one_of : (g m : ℕ) → m ≤ g → g ≤ suc m → (g ≡ m) ⊎ (g ≡ suc m)
    one_of g m h l = case_b (eqb g m) (λ y. inl (eqb-true g m y)) (λ y. let q = eqb-false g m y in inr (omega arith))

    module _ (b : BranchAgrees tb r d) where
      guard_low : eqb (at tb r Field.guard) 0 ≡ false → ltb (at tb r Field.guard) 3 ≡ true → (at tb r Field.guard ≡ 1) ⊎ (at tb r Field.guard ≡ 2)
      guard_low y z = let q = eqb-false (at tb r Field.guard) 0 y in one_of (at tb r Field.guard) 1 (omega arith) (omega (arith, ltb-true (at tb r Field.guard) 3 z))

      guard_high : ltb (at tb r Field.guard) 3 ≡ false → (at tb r Field.guard ≡ 3) ⊎ (at tb r Field.guard ≡ 4)
      guard_high z = one_of (at tb r Field.guard) 3 (ltb-false (at tb r Field.guard) 3 z) guards

      act_high : ltb 5 (at tb r Field.action) ≡ true → (at tb r Field.action ≡ 6) ⊎ (at tb r Field.action ≡ 7)
      act_high z = one_of (at tb r Field.action) 6 (ltb-true 5 (at tb r Field.action) z) acts

      first_typed : operand_typed tb r d 0 ≡ true
      unfolding operand_typed operand_role guard_role operand operand_place role_typed
      first_typed = case_b (eqb (at tb r Field.guard) 0) (λ y. rw y)
          (λ y. case_b (ltb (at tb r Field.guard) 3) (λ z. rw (y, z) (eq-eqb _ 0 (b.constant_guard (guard_low y z)))) (λ z. rw (y, z) (eq-eqb _ 0 (b.slot_guard (guard_high z)).0)))

      second_typed : operand_typed tb r d 1 ≡ true
      unfolding operand_typed operand_role guard_role operand operand_place role_typed
      second_typed = case_b (eqb (at tb r Field.guard) 0) (λ y. rw y)
          (λ y. case_b (ltb (at tb r Field.guard) 3) (λ z. rw (y, z)) (λ z. rw (y, z) (eq-eqb _ 0 (b.slot_guard (guard_high z)).1)))

      a_typed : operand_typed tb r d 2 ≡ true
      unfolding operand_typed operand_role action_role operand operand_place role_typed
      a_typed = let a = at tb r Field.action in
          case_b (eqb a 1) (λ y. rw (y, ne_eqb _ 0 (b.send_receive (inl (eqb-true a 1 y))).0))
          (λ y. case_b (eqb a 2) (λ z. rw (y, z, ne_eqb _ 0 (b.send_receive (inr (eqb-true a 2 z))).0))
          (λ z. case_b (eqb a 3) (λ x. rw (y, z, x, ne_eqb _ 0 (b.new_channel_lem (eqb-true a 3 x))))
          (λ x. case_b (eqb a 5) (λ w. rw (y, z, x, w) (eq-eqb _ 0 (b.set_number (eqb-true a 5 w))))
          (λ w. case_b (ltb 5 a) (λ v. rw (y, z, x, w, v) (eq-eqb _ 0 (b.sums (act_high v)).0)) (λ v. rw (y, z, x, w, v))))))

      b_typed : operand_typed tb r d 3 ≡ true
      unfolding operand_typed operand_role action_role operand operand_place role_typed
      b_typed = let a = at tb r Field.action in
          case_b (eqb a 1) (λ y. rw y (eq-eqb _ _ (b.send_receive (inl (eqb-true a 1 y))).1))
          (λ y. case_b (eqb a 2) (λ z. rw (y, z) (eq-eqb _ _ (b.send_receive (inr (eqb-true a 2 z))).1))
          (λ z. case_b (eqb a 3) (λ x. rw (y, z, x))
          (λ x. case_b (eqb a 5) (λ w. rw (y, z, x, w))
          (λ w. case_b (ltb 5 a) (λ v. rw (y, z, x, w, v) (eq-eqb _ 0 (b.sums (act_high v)).1)) (λ v. rw (y, z, x, w, v))))))

      c_typed : operand_typed tb r d 4 ≡ true
      unfolding operand_typed operand_role action_role operand operand_place role_typed
      c_typed = let a = at tb r Field.action in
          case_b (eqb a 1) (λ y. rw y)
          (λ y. case_b (eqb a 2) (λ z. rw (y, z))
          (λ z. case_b (eqb a 3) (λ x. rw (y, z, x))
          (λ x. case_b (eqb a 5) (λ w. rw (y, z, x, w))
          (λ w. case_b (ltb 5 a) (λ v. rw (y, z, x, w, v) (eq-eqb _ 0 (b.sums (act_high v)).2)) (λ v. rw (y, z, x, w, v))))))

      all_typed : (k : ℕ) → k < 5 → operand_typed tb r d k ≡ true
      all_typed zero h = first_typed
      all_typed (suc zero) h = second_typed
      all_typed (suc (suc zero)) h = a_typed
      all_typed (suc (suc (suc zero))) h = b_typed
      all_typed (suc (suc (suc (suc zero)))) h = c_typed
      all_typed (suc (suc (suc (suc (suc k))))) h = absurd (let z : ⊥ = omega arith in z)

    branch_says : Says (branch_typed tb r d) (BranchAgrees tb r d)
    unfolding branch_typed
    branch_says = (agrees, λ b. every_intro (operand_typed tb r d) 5 (all_typed b))

-- ---- the line

module _ (tb : Table) (g : Formed tb) where
  own_codes : (n i : ℕ) → n < nodes tb → i < branch_count tb n → (at tb (row_of tb n i) Field.guard ≤ 4) × (at tb (row_of tb n i) Field.action ≤ 7)
  unfolding branch_in_range
  own_codes n i h l =
      let p = own_branch_in_range tb g n i h l in
      (within_most 0 4 (at tb (row_of tb n i) Field.guard) (search parts depth 9), within_most 0 7 (at tb (row_of tb n i) Field.action) (search parts depth 9))

  own_says : (n i : ℕ) → n < nodes tb → i < branch_count tb n → Says (branch_typed tb (row_of tb n i) (definition_of tb n)) (BranchAgrees tb (row_of tb n i) (definition_of tb n))
  own_says n i h l = let (a, b) = own_codes n i h l in branch_says tb (row_of tb n i) (definition_of tb n) a b

  -- a node's line and a branch's, by their row
  at_node : (n : ℕ) → n < nodes tb → row_typed tb (node_row tb + n) ≡ node_typed tb (node_row tb + n) (definition_of tb n)
  unfolding row_typed
  at_node n h =
      let c = header_counts tb g.header in
      let q : node_row tb + n - node_row tb ≡ n = omega arith in
      rw (ne_eqb (node_row tb + n) (definition_row tb) (λ e. omega (arith, c.some_definitions)), node_kind_lem tb g n h, q)

  at_branch : (n i : ℕ) → n < nodes tb → i < branch_count tb n → row_typed tb (row_of tb n i) ≡ branch_typed tb (row_of tb n i) (definition_of tb n)
  unfolding row_typed
  at_branch n i h l =
      let c = header_counts tb g.header in
      let x = start tb Branches n + i in
      let q : row_of tb n i - branch_row tb ≡ x = omega arith in
      rw (ne_eqb (row_of tb n i) (definition_row tb) (λ e. omega (arith, c.some_definitions)), branch_kind tb g x (branch_below tb g n i h l), q, node_of_lem tb g n i h l)

  -- the test fails where the types disagree
  fails : (r : ℕ) → TypesDisagree tb r → row_typed tb r ≡ true → ⊥
  unfolding row_typed
  fails r w e = ⊎_elim (λ a. let (q, f) = a in f ((ports_say tb).0 (rw (eq-eqb r (definition_row tb) q) at e)))
      (λ s. ⊎_elim (λ a. let (n, h, q, f) = a in at_call n h q f.0 f.1) (λ a. let (n, i, h, l, q, f) = a in at_own n i h l q f) s) w
    where
      at_call : (n : ℕ) → n < nodes tb → r ≡ node_row tb + n → at tb r Field.node_kind ≡ 2 → ¬ CallAgrees tb r (definition_of tb n) → ⊥
      at_call n h q c f = f ((call_says tb r (definition_of tb n) c).0 (let t : row_typed tb r ≡ node_typed tb r (definition_of tb n) = rw q (at_node n h) in sym t ∙ e))

      at_own : (n i : ℕ) → n < nodes tb → i < branch_count tb n → r ≡ row_of tb n i → ¬ BranchAgrees tb r (definition_of tb n) → ⊥
      at_own n i h l q f = let t : row_typed tb (row_of tb n i) ≡ true = rw q at e in
          let u : ¬ BranchAgrees tb (row_of tb n i) (definition_of tb n) = rw q at f in u ((own_says n i h l).0 (sym (at_branch n i h l) ∙ t))

  pub types_say : (r : ℕ) → r < line_total tb → Says (types_disagree tb r) (TypesDisagree tb r)
  unfolding types_disagree row_typed node_typed
  types_say r h = (
    λ e. let f = not-true (row_typed tb r) e in
        case_b (eqb r (definition_row tb)) (λ y. inl (eqb-true r (definition_row tb) y, λ p. contra ((ports_say tb).1 p) (rw y at f)))
        (λ y. case_b (eqb (at tb r Field.kind) 5)
        (λ z. let (n, b, q) = node_row_lem tb g r h (eqb-true (at tb r Field.kind) 5 z) in
        case_b (eqb (at tb r Field.node_kind) 2)
        (λ x. let c = eqb-true (at tb r Field.node_kind) 2 x in
        inr (inl (n, b, q, (c, λ p. contra ((call_says tb r (definition_of tb n) c).1 p) (node_fails n b q f)))))
        (λ x. contra (let t : node_typed tb r (definition_of tb n) ≡ true = rw x in t) (node_fails n b q f)))
        (λ z. case_b (eqb (at tb r Field.kind) 6)
        (λ x. let (n, i, b, l, q) = branch_row_of tb g r h (eqb-true (at tb r Field.kind) 6 x) in inr (inr (n, i, b, l, q, branch_fails n i b l q f)))
        (λ x. contra (let t : row_typed tb r ≡ true = rw (y, z, x) in t) f))),
    λ w. case_b (row_typed tb r) (λ y. absurd (fails r w y)) (λ y. rw y),
  )
    where
      node_fails : (n : ℕ) → n < nodes tb → r ≡ node_row tb + n → row_typed tb r ≡ false → node_typed tb r (definition_of tb n) ≡ false
      node_fails n b q f = let t : row_typed tb r ≡ node_typed tb r (definition_of tb n) = rw q (at_node n b) in sym t ∙ f

      branch_fails : (n i : ℕ) → n < nodes tb → i < branch_count tb n → r ≡ row_of tb n i → row_typed tb r ≡ false → ¬ BranchAgrees tb r (definition_of tb n)
      branch_fails n i b l q f p =
          let t : row_typed tb (row_of tb n i) ≡ false = rw q at f in
          let u : BranchAgrees tb (row_of tb n i) (definition_of tb n) = rw q at p in contra (at_branch n i b l ∙ (own_says n i b l).1 u) t
