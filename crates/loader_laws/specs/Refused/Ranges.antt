-- Ground 4: the test of a line finds just a field out of its limits, where ground 3 and the lines before it are in order. Assumes nothing.
use Prim.Native.Nat.{ℕ, zero, suc, ◌+◌, ◌-◌, ◌≤◌, ◌<◌}
use native.Mathlib.Omega.{arith}
use Rattle.std.specs.Prelude.{◌≡◌, Bool, ◌&&◌, cond, ltb, eqb, pos, length, get_or, replicate}
use Rattle.std.proofs.Math.Path.{refl}
use Rattle.std.proofs.Common.{sym, ◌∙◌, to_z}
use Rattle.std.proofs.Math.Bool.{true}
use mathlib.Core.List.{List, [], ◌∷◌}
use Rattle.std.proofs.Math.ListN.{length-replicate}
use Rattle.std.specs.Int.{w16}
use borrow.Author.Tests.{ltb-true, ltb-false, lt-ltb, le-ltb, eqb-true, eqb-false, eq-eqb}
use Rattle.numbers.specs.Rows.{at}
use Rattle.numbers.specs.Search.{every}
use Rattle.numbers.specs.Search.Laws.{case_b, contra, every_elim, every_intro}
use Rattle.numbers.specs.Tests.{and_left, and_right, parts}
use Rattle.table.specs.Fields as Field
use Rattle.table.specs.Table.{Table, max_rows, max_parameters, max_own_slots, max_own_nodes, max_own_branches, types, definitions, nodes, definition_row, slot_row, node_row, branch_row, line_total, parameters, slot_count, node_count}
use Rattle.table.specs.Layout.{blocks, lines, start, definition_of, node_of}
use Rattle.table.specs.Form.{within, header_in_range, kind_due}
use Rattle.table.specs.Form.Laws.{header_counts}
use Rattle.table.specs.Roles.{operand_place, operand, operand_role}
use Rattle.table.specs.declared.Part.TheVariants.{Nodes, Branches}
use Rattle.table.specs.declared.Role.{Role}
use Rattle.table.specs.declared.Role.TheVariants.{Unused, Constant, ReadNumber, ReadChannel, ReadCarried, WriteNumber, WriteChannel, WriteCarried}
use Rattle.ranges.specs.Ranges.{role_in_range, ahead, unused_from, rest_unused, type_in_range, definition_in_range, argument_in_range, call_in_range, node_in_range, operand_in_range, targets_in_range, branch_in_range, row_in_range, out_of_range}
use Rattle.loader_laws.specs.Blocks.{owner_stands}
use Rattle.loader_laws.specs.FormedRows.{FormedTo, kind_is, node_row_lem, branch_row_lem, parameters_few, slots_few, nodes_few, definition_of_lem, branches_filled}
use Rattle.loader_laws.specs.Yields.{Shaped}
use Rattle.loader_laws.specs.Refused.{Limits, from, unused, numbered, Within, number, header_limits, role_limits, type_limits, definition_limits, call_limits, node_limits, onward, operand_limits, branch_limits, line_limits, OutOfRange}
use Rattle.loader_laws.specs.Refused.Numbers.{low_number, in_field, from_iff, below_iff, numbered_iff, zero_iff, within_or}
use Rattle.loader_laws.specs.Refused.Form.{Says, says_and, says_some, within_says, header_fields, due_few}

same : (t : Bool) → Says t (t ≡ true)
same t = (λ e. e, λ e. e)

numbered_says : (v s : ℕ) → s < 32768 → Says (ltb v s) (Within (numbered (pos s)) (to_z w16 v))
numbered_says v s f = let b = numbered_iff v s f in (λ e. b.1 (ltb-true v s e), λ w. lt-ltb v s (b.0 w))

role_says : (q : Role) (s v : ℕ) → v < 65536 → s < 32768 → Says (role_in_range q s v) (Within (role_limits q (pos s)) (to_z w16 v))
unfolding role_in_range role_limits
role_says Unused s v h f = let b = zero_iff v in (λ e. b.1 (eqb-true v 0 e), λ w. eq-eqb v 0 (b.0 w))
role_says Constant s v h f = (λ e. in_field v h, λ w. refl)
role_says ReadNumber s v h f = numbered_says v s f
role_says ReadChannel s v h f = numbered_says v s f
role_says ReadCarried s v h f = numbered_says v s f
role_says WriteNumber s v h f = numbered_says v s f
role_says WriteChannel s v h f = numbered_says v s f
role_says WriteCarried s v h f = numbered_says v s f

module _ (tb : Table) (r : ℕ) where
  -- ---- the fields from place i on, with their limits one by one

  unfoldable AllIn : ℕ → List Limits → Type 0
  AllIn i [] = rest_unused tb r i ≡ true
  AllIn i (x ∷ l) = Within x (number tb r i) × AllIn (suc i) l

  Fields : ℕ → List Limits → Type 0
  Fields i l = (k : ℕ) → i + k < 12 → Within (get_or l k unused) (number tb r (i + k))

  rest_in : (i : ℕ) → rest_unused tb r i ≡ true → (k : ℕ) → i + k < 12 → Within unused (number tb r (i + k))
  unfolding rest_unused unused_from
  rest_in i e k z = (zero_iff (at tb r (i + k))).1 (eqb-true (at tb r (i + k)) 0 (rw (le-ltb (i + k) i (omega arith)) at (every_elim (unused_from tb r i) 12 (i + k) e z)))

  in_rest : (i : ℕ) → ((k : ℕ) → i + k < 12 → Within unused (number tb r (i + k))) → rest_unused tb r i ≡ true
  unfolding rest_unused unused_from
  in_rest i f = every_intro (unused_from tb r i) 12 (λ j h. case_b (ltb j i) (λ y. rw y)
      (λ y. let q : i + (j - i) ≡ j = omega (arith, ltb-false j i y) in
      rw (y, eq-eqb (at tb r j) 0 ((zero_iff (at tb r j)).0 (rw q at (f (j - i) (omega arith)))))))

  all_fields : (i : ℕ) (l : List Limits) → AllIn i l → Fields i l
  unfolding AllIn Fields
  all_fields i [] e k z = rest_in i e k z
  all_fields i (x ∷ l) w zero z = let q : i + 0 ≡ i = omega arith in rw q w.0
  all_fields i (x ∷ l) w (suc k) z = let q : i + suc k ≡ suc i + k = omega arith in rw q (all_fields (suc i) l w.1 k (omega arith))

  fields_all : (i : ℕ) (l : List Limits) → i + length l ≤ 12 → Fields i l → AllIn i l
  unfolding AllIn Fields
  fields_all i [] h f = in_rest i f
  fields_all i (x ∷ l) h f =
      let q : i + 0 ≡ i = omega arith in
      (rw q at (f 0 (omega arith)), fields_all (suc i) l (omega arith) (λ k z. let e : i + suc k ≡ suc i + k = omega arith in rw e at (f (suc k) (omega arith))))

  -- fields with the same limits
  alike_all : (x : Limits) (p i : ℕ) → ((j : ℕ) → j < p → Within x (number tb r (i + j))) → rest_unused tb r (i + p) ≡ true → AllIn i (replicate p x)
  unfolding AllIn
  alike_all x zero i f e = let q : i + 0 ≡ i = omega arith in rw q at e
  alike_all x (suc p) i f e =
      let q : i + 0 ≡ i = omega arith in
      let o : i + suc p ≡ suc i + p = omega arith in
      (rw q at (f 0 (omega arith)), alike_all x p (suc i) (λ j h. let w : i + suc j ≡ suc i + j = omega arith in rw w at (f (suc j) (omega arith))) (rw o at e))

  all_alike : (x : Limits) (p i : ℕ) → AllIn i (replicate p x) → ((j : ℕ) → j < p → Within x (number tb r (i + j))) × (rest_unused tb r (i + p) ≡ true)
  unfolding AllIn
  all_alike x zero i a = let q : i + 0 ≡ i = omega arith in (λ j h. absurd (let z : ⊥ = omega arith in z), rw q a)
  all_alike x (suc p) i a =
      let o : i + suc p ≡ suc i + p = omega arith in
      let (f, e) = all_alike x p (suc i) a.1 in
      (λ j h. each f j h, rw o e)
    where
      each : ((j : ℕ) → j < p → Within x (number tb r (suc i + j))) → (j : ℕ) → j < suc p → Within x (number tb r (i + j))
      each f zero h = let q : i + 0 ≡ i = omega arith in rw q a.0
      each f (suc j) h = let w : i + suc j ≡ suc i + j = omega arith in rw w (f j (omega arith))

-- ---- each kind of line

module _ (tb : Table) (s : Shaped tb) where
  header_line : header_in_range tb ≡ true → Says (rest_unused tb 0 7) (AllIn tb 0 1 header_limits)
  unfolding AllIn
  header_line e =
      let f = (header_fields tb s).0 e in (
        λ u. (f 0 (omega arith), (f 1 (omega arith), (f 2 (omega arith), (f 3 (omega arith), (f 4 (omega arith), (f 5 (omega arith), u)))))),
        λ w. w.1.1.1.1.1.1,
      )

  module _ (r : ℕ) (few : r < max_rows) where
    type_line : types tb < 32768 → Says (type_in_range tb r) (AllIn tb r 1 (type_limits tb))
    unfolding AllIn type_in_range type_limits from
    type_line h = rw (low_number (types tb) h) (says_and _ _ _ _ (within_says (at tb r Field.type) 0 (types tb) h) (λ _. same _))

    slots_within : at tb r Field.parameters ≤ max_parameters → Says (within (at tb r Field.parameters) max_own_slots (at tb r Field.own_slots)) (Within (record { least = number tb r Field.parameters; most = pos max_own_slots }) (number tb r Field.own_slots))
    unfolding from
    slots_within h = rw (low_number (at tb r Field.parameters) (omega arith)) (within_says (at tb r Field.own_slots) (at tb r Field.parameters) max_own_slots (omega arith))

    definition_line : Says (definition_in_range tb r) (AllIn tb r 1 (definition_limits tb r))
    unfolding AllIn definition_in_range definition_limits
    definition_line = says_and _ _ _ _ (within_says (at tb r Field.parameters) 0 max_parameters (omega arith))
        (λ w. says_and _ _ _ _ (slots_within ((from_iff (at tb r Field.parameters) 0 max_parameters (omega arith)).0 w).1)
        (λ _. says_and _ _ _ _ (within_says (at tb r Field.own_nodes) 1 max_own_nodes (omega arith)) (λ _. same _)))

    -- a call, in a definition of m slots
    arguments_all : (m p : ℕ) → m < 32768 → p ≤ max_parameters → Says (every (argument_in_range tb r m) p && rest_unused tb r (3 + p)) (AllIn tb r 3 (replicate p (numbered (pos m))))
    unfolding argument_in_range
    arguments_all m p h l = (
      λ e. alike_all tb r (numbered (pos m)) p 3
          (λ j z. (numbered_says (at tb r (Field.arguments + j)) m h).0 (every_elim (argument_in_range tb r m) p j (and_left _ _ e) z))
          (and_right (every (argument_in_range tb r m) p) _ e),
      λ w. let (f, u) = all_alike tb r (numbered (pos m)) p 3 w in
          let a = every_intro (argument_in_range tb r m) p (λ j z. (numbered_says (at tb r (Field.arguments + j)) m h).1 (f j z)) in rw (a, u),
    )

    module _ (d : ℕ) (called : at tb r Field.callee < definitions tb → parameters tb (at tb r Field.callee) ≤ max_parameters) (known : definitions tb < 32768) (own : slot_count tb d < 32768) where
      call_line : Says (call_in_range tb r (slot_count tb d)) (AllIn tb r 2 (call_limits tb r d))
      unfolding AllIn call_in_range call_limits
      call_line = rw (low_number (definitions tb) known, low_number (slot_count tb d) own)
          (says_and _ _ _ _ (numbered_says (at tb r Field.callee) (definitions tb) known)
          (λ w. arguments_all (slot_count tb d) (parameters tb (at tb r Field.callee)) own (called ((numbered_iff (at tb r Field.callee) (definitions tb) known).0 w))))

      -- the limits of a call's line are no more than its fields
      call_few : Within (numbered (number tb 0 Field.definitions)) (number tb r Field.callee) → 2 + length (call_limits tb r d) ≤ 12
      unfolding call_limits
      call_few w =
          let u : Within (numbered (pos (definitions tb))) (number tb r Field.callee) = rw (low_number (definitions tb) known) at w in
          omega (arith, called ((numbered_iff (at tb r Field.callee) (definitions tb) known).0 u), length-replicate {A = Limits} (parameters tb (at tb r Field.callee)) (numbered (number tb (definition_row tb + d) Field.own_slots)))

    -- a node, in definition d
    first_field : (c : ℕ) (t : Bool) (A : Type 0) → c ≤ 2 → Says t A → Says t (Within (from 0 2) (to_z w16 c) × A)
    first_field c t A h a = (λ e. ((from_iff c 0 2 (omega arith)).1 (omega arith, h), a.0 e), λ w. a.1 w.1)

    node_line : (at tb r Field.callee < definitions tb → parameters tb (at tb r Field.callee) ≤ max_parameters) → definitions tb < 32768 → slot_count tb (definition_of tb (r - node_row tb)) < 32768
        → Says (node_in_range tb r) (AllIn tb r 1 (node_limits tb r (definition_of tb (r - node_row tb))))
    unfolding AllIn node_in_range node_limits
    node_line called known own =
        let c = at tb r Field.node_kind in
        case_b (eqb c 0) (λ y. rw (eqb-true c 0 y) (first_field 0 _ _ (omega arith) (same _)))
        (λ y. case_b (eqb c 1)
        (λ z. rw (eqb-true c 1 z) (first_field 1 _ _ (omega arith) (says_and _ _ _ _ (within_says (at tb r Field.own_branches) 1 max_own_branches (omega arith)) (λ _. same _))))
        (λ z. case_b (eqb c 2)
        (λ x. rw (eqb-true c 2 x) (first_field 2 _ _ (omega arith) (call_line (definition_of tb (r - node_row tb)) called known own)))
        (λ x. rw (y, z, x) (λ e. contra e refl, λ w. absurd (none ((from_iff c 0 2 (omega arith)).0 w.0).1 (eqb-false c 0 y) (eqb-false c 1 z) (eqb-false c 2 x))))))
      where
        none : at tb r Field.node_kind ≤ 2 → (at tb r Field.node_kind ≡ 0 → ⊥) → (at tb r Field.node_kind ≡ 1 → ⊥) → (at tb r Field.node_kind ≡ 2 → ⊥) → ⊥
        none h y z x = omega arith

    -- a branch of node n, in definition d
    module _ (n d : ℕ) (own : slot_count tb d < 32768) (inside : node_count tb d < 32768) where
      operand_line : (k : ℕ) → operand_place k < 12 → Says (operand_in_range tb r (slot_count tb d) k) (Within (operand_limits tb r d k) (number tb r (operand_place k)))
      unfolding operand_in_range operand_limits operand
      operand_line k h = rw (low_number (slot_count tb d) own) (role_says (operand_role tb r k) (slot_count tb d) (at tb r (operand_place k)) (s.small r (operand_place k) few h) own)

      target_line : (v : ℕ) → Says (ahead (n - start tb Nodes d) (node_count tb d) v) (Within (onward tb n d) (to_z w16 v))
      unfolding ahead onward
      target_line v =
          let m = n - start tb Nodes d in
          let b = below_iff v (suc m) (node_count tb d) inside in
          rw (low_number (node_count tb d) inside) (
            λ e. b.1 (ltb-true m v (and_left _ _ e), ltb-true v (node_count tb d) (and_right (ltb m v) _ e)),
            λ w. let (a, c) = b.0 w in rw (lt-ltb m v a, lt-ltb v (node_count tb d) c),
          )

      child_line : Says (cond (eqb (at tb r Field.action) 4) (ahead (n - start tb Nodes d) (node_count tb d) (at tb r Field.child)) (eqb (at tb r Field.child) 0)) (Within (cond (eqb (at tb r Field.action) 4) (onward tb n d) unused) (number tb r Field.child))
      child_line = let b = zero_iff (at tb r Field.child) in
          case_b (eqb (at tb r Field.action) 4) (λ y. rw y (target_line (at tb r Field.child))) (λ y. rw y (λ e. b.1 (eqb-true (at tb r Field.child) 0 e), λ w. eq-eqb (at tb r Field.child) 0 (b.0 w)))

      branch_line : Says (branch_in_range tb r n d) (AllIn tb r 1 (branch_limits tb r n d))
      unfolding AllIn branch_in_range targets_in_range branch_limits operand_place
      branch_line = (
        λ e. let all : every (operand_in_range tb r (slot_count tb d)) 5 ≡ true = search parts depth 9 in
            let each : (k : ℕ) → k < 5 → operand_in_range tb r (slot_count tb d) k ≡ true = λ k h. every_elim (operand_in_range tb r (slot_count tb d)) 5 k all h in (
              guard.0 (search parts depth 9),
              (
                (operand_line 0 (omega arith)).0 (each 0 (omega arith)),
                (
                  (operand_line 1 (omega arith)).0 (each 1 (omega arith)),
                  (
                    act.0 (search parts depth 9),
                    (
                      (operand_line 2 (omega arith)).0 (each 2 (omega arith)),
                      (
                        (operand_line 3 (omega arith)).0 (each 3 (omega arith)),
                        (
                          (operand_line 4 (omega arith)).0 (each 4 (omega arith)),
                          (
                            (target_line (at tb r Field.next)).0 (search parts depth 9),
                            (child_line.0 (search parts depth 9), search parts depth 9),
                          ),
                        ),
                      ),
                    ),
                  ),
                ),
              ),
            ),
        λ w. let a = guard.1 w.0 in
            let b = act.1 w.1.1.1.0 in
            let c = every_intro (operand_in_range tb r (slot_count tb d)) 5 (five ((operand_line 0 (omega arith)).1 w.1.0) ((operand_line 1 (omega arith)).1 w.1.1.0) ((operand_line 2 (omega arith)).1 w.1.1.1.1.0) ((operand_line 3 (omega arith)).1 w.1.1.1.1.1.0) ((operand_line 4 (omega arith)).1 w.1.1.1.1.1.1.0)) in
            let x = (target_line (at tb r Field.next)).1 w.1.1.1.1.1.1.1.0 in
            let y = child_line.1 w.1.1.1.1.1.1.1.1.0 in
            rw (a, b, c, x, y, w.1.1.1.1.1.1.1.1.1),
      )
        where
          guard : Says (within 0 4 (at tb r Field.guard)) (Within (from 0 4) (number tb r Field.guard))
          guard = within_says (at tb r Field.guard) 0 4 (omega arith)

          act : Says (within 0 7 (at tb r Field.action)) (Within (from 0 7) (number tb r Field.action))
          act = within_says (at tb r Field.action) 0 7 (omega arith)

          In : ℕ → Type 0
          In k = operand_in_range tb r (slot_count tb d) k ≡ true

          five : In 0 → In 1 → In 2 → In 3 → In 4 → (k : ℕ) → k < 5 → In k
          five a b c d e zero h = a
          five a b c d e (suc zero) h = b
          five a b c d e (suc (suc zero)) h = c
          five a b c d e (suc (suc (suc zero))) h = d
          five a b c d e (suc (suc (suc (suc zero)))) h = e
          five a b c d e (suc (suc (suc (suc (suc k))))) h = absurd (let z : ⊥ = omega arith in z)

-- ---- the line

-- only the header is due kind 1
due_header : (tb : Table) (r : ℕ) → kind_due tb r ≡ 1 → r ≡ 0
unfolding kind_due
due_header tb r e =
    case_b (ltb r 1) (λ y. omega (arith, ltb-true r 1 y))
    (λ y. absurd (case_b (ltb r (definition_row tb)) (λ z. two (rw (y, z) at e))
    (λ z. case_b (ltb r (slot_row tb)) (λ x. two (rw (y, z, x) at e))
    (λ x. case_b (ltb r (node_row tb)) (λ w. two (rw (y, z, x, w) at e))
    (λ w. case_b (ltb r (branch_row tb)) (λ v. two (rw (y, z, x, w, v) at e)) (λ v. two (rw (y, z, x, w, v) at e)))))))
  where
    two : {n : ℕ} → suc (suc n) ≡ 1 → ⊥
    two q = omega arith

module _ (tb : Table) (s : Shaped tb) (r : ℕ) (g : FormedTo tb r) (h : r < line_total tb) where
  few_rows : r < max_rows
  few_rows = let c = header_counts tb g.header in omega arith

  fields_says : (t : Bool) (l : List Limits) → (Fields tb r 1 l → 1 + length l ≤ 12) → Says t (AllIn tb r 1 l) → Says t (Fields tb r 1 l)
  fields_says t l b a = (λ e. all_fields tb r 1 l (a.0 e), λ f. a.1 (fields_all tb r 1 l (b f) f))

  call_field : (d : ℕ) → Within (get_or (call_limits tb r d) 0 unused) (number tb r Field.callee) → Within (numbered (number tb 0 Field.definitions)) (number tb r Field.callee)
  unfolding call_limits
  call_field d w = w

  -- the limits of a node's line are no more than its fields
  node_few : (d : ℕ) → (at tb r Field.callee < definitions tb → parameters tb (at tb r Field.callee) ≤ max_parameters) → definitions tb < 32768 → slot_count tb d < 32768
      → Fields tb r 1 (node_limits tb r d) → 1 + length (node_limits tb r d) ≤ 12
  unfolding node_limits Fields
  node_few d called known own f =
      case_b (eqb (at tb r Field.node_kind) 1) (λ y. rw y (omega arith))
      (λ y. case_b (eqb (at tb r Field.node_kind) 2)
      (λ z. rw (y, z) (omega (arith, call_few tb s r few_rows d called known own (call_field d (rw (y, z) at (f 1 (omega arith)))))))
      (λ z. rw (y, z) (omega arith)))

  node_says : at tb r Field.kind ≡ 5 → Says (node_in_range tb r) (Fields tb r 1 (node_limits tb r (definition_of tb (r - node_row tb))))
  node_says k =
      let c = header_counts tb g.header in
      let (n, b, q) = node_row_lem tb g r h k in
      let o : r - node_row tb ≡ n = omega arith in
      let l : slot_row tb ≤ r = omega arith in
      let d : definition_of tb (r - node_row tb) < definitions tb = rw o (definition_of_lem tb g l n b) in
      let called : at tb r Field.callee < definitions tb → parameters tb (at tb r Field.callee) ≤ max_parameters = parameters_few tb g l (at tb r Field.callee) in
      let own : slot_count tb (definition_of tb (r - node_row tb)) < 32768 = omega (arith, slots_few tb g l (definition_of tb (r - node_row tb)) d) in
      fields_says _ _ (node_few (definition_of tb (r - node_row tb)) called (omega (arith, c.few_definitions)) own) (node_line tb s r few_rows called (omega (arith, c.few_definitions)) own)

  branch_says : at tb r Field.kind ≡ 6 → Says (branch_in_range tb r (node_of tb (r - branch_row tb)) (definition_of tb (node_of tb (r - branch_row tb)))) (Fields tb r 1 (branch_limits tb r (node_of tb (r - branch_row tb)) (definition_of tb (node_of tb (r - branch_row tb)))))
  unfolding lines blocks branch_limits
  branch_says k =
      let (b, z, q) = branch_row_lem tb g r h k in
      let o : r - branch_row tb ≡ b = omega arith in
      let l : branch_row tb ≤ r = omega arith in
      let n : node_of tb b < nodes tb = (owner_stands tb Branches (branches_filled tb g l) b z).block in
      let d : definition_of tb (node_of tb b) < definitions tb = definition_of_lem tb g (omega arith) (node_of tb b) n in
      rw o (fields_says _ _ (λ _. omega arith)
      (branch_line tb s r few_rows (node_of tb b) (definition_of tb (node_of tb b)) (omega (arith, slots_few tb g (omega arith) _ d)) (omega (arith, nodes_few tb g (omega arith) _ d))))

  line_says : Says (row_in_range tb r) (Fields tb r 1 (line_limits tb r))
  unfolding row_in_range line_limits type_limits definition_limits
  line_says =
      let c = header_counts tb g.header in
      let k = at tb r Field.kind in
      let due = kind_is tb g r h in
      let few = due_few tb r in
      case_b (eqb k 1) (λ y. rw y (fields_says _ _ (λ _. omega arith) (header_at (due_header tb r (sym due ∙ eqb-true k 1 y)))))
      (λ y. case_b (eqb k 2) (λ z. rw (y, z) (fields_says _ _ (λ _. omega arith) (type_line tb s r few_rows (omega (arith, c.few_types)))))
      (λ z. case_b (eqb k 3) (λ x. rw (y, z, x) (fields_says _ _ (λ _. omega arith) (definition_line tb s r few_rows)))
      (λ x. case_b (eqb k 4) (λ w. rw (y, z, x, w) (fields_says _ _ (λ _. omega arith) (type_line tb s r few_rows (omega (arith, c.few_types)))))
      (λ w. case_b (eqb k 5) (λ v. rw (y, z, x, w, v) (node_says (eqb-true k 5 v)))
      (λ v. rw (y, z, x, w, v) (branch_says (omega (arith, due, few, eqb-false k 1 y, eqb-false k 2 z, eqb-false k 3 x, eqb-false k 4 w, eqb-false k 5 v))))))))
    where
      header_at : r ≡ 0 → Says (rest_unused tb r 7) (AllIn tb r 1 header_limits)
      header_at q = rw q (header_line tb s g.header)

  pub range_says : Says (out_of_range tb r) (OutOfRange tb r)
  unfolding out_of_range Fields
  range_says = says_some (row_in_range tb r) 11 (λ k. Within (get_or (line_limits tb r) k unused) (number tb r (suc k))) (λ k. within_or _ _) (
    λ e k z. let q : 1 + k ≡ suc k = omega arith in rw q at (line_says.0 e k (omega arith)),
    λ f. line_says.1 (λ k z. let q : 1 + k ≡ suc k = omega arith in rw q (f k (omega arith))),
  )
