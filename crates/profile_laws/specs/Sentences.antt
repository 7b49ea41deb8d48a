-- What document 02 says of thread bounds, sentence by sentence, of a table that loading yields and whose calls are allowed: the bounds of the definition fit these
-- sentences, and no others do. Nodes are counted over the whole file. Assumes nothing.
use Rattle.std.specs.Prelude.{ℕ, ◌+◌, ◌≤◌, ◌<◌, ◌≡◌, false, ◌≢◌, eqb}
use Rattle.std.proofs.Common.{arith, ◌∙◌}
use Rattle.std.proofs.Math.Path.{sym}
use borrow.Author.Tests.{eqb-true, eqb-false, eq-eqb, ne_eqb}
use Rattle.numbers.specs.Rows.{at}
use Rattle.numbers.specs.Search.Laws.{case_b, contra}
use Rattle.table.specs.Fields as Field
use Rattle.table.specs.Table.{Table, definitions, nodes}
use Rattle.table.specs.Layout.{start, branch_count, definition_of}
use Rattle.table.specs.declared.Part.TheVariants.{Nodes}
use Rattle.ranges.specs.Ranges.{node_in_range}
use Rattle.loader_laws.specs.Grounds.{node_in_range_lem}
use Rattle.rules.specs.Program.{kind_of, callee, branch_at, next_of, child_of}
use Rattle.profile.specs.Profile.{largest, is_spawn, branch_bound_by, call_bound_by, node_bound_by, node_bound, branch_bound, definition_bound}
use Rattle.profile.specs.Equations.{largest_same, end_bound, own_call_bound, call_bound, choice_bound, spawn_bound, plain_bound, definition_bound_lem}
use Rattle.profile_laws.specs.Bounds.{Allowed, largest_above, largest_one, only_bounds, branches_some}

-- m is the largest of f 0 to f (n - 1)
pub record Largest (f : ℕ → ℕ) (n m : ℕ) : Type 0 where
  pub above : (i : ℕ) → i < n → f i ≤ m
  pub one : (i : ℕ) × (i < n) × (m ≡ f i)

-- of bounds for definitions, for nodes and for the branches of nodes
module _ (tb : Table) (definition node : ℕ → ℕ) (branch : ℕ → ℕ → ℕ) where
  -- of node n: an end, a call of a definition by itself, another call, a choice
  pub record NodeSaid (n : ℕ) : Type 0 where
    pub end : kind_of tb n ≡ 0 → node n ≡ 1
    pub own_call : kind_of tb n ≡ 2 → callee tb n ≡ definition_of tb n → node n ≡ 1
    pub other_call : kind_of tb n ≡ 2 → callee tb n ≢ definition_of tb n → node n ≡ definition (callee tb n)
    pub choice : kind_of tb n ≡ 1 → Largest (branch n) (branch_count tb n) (node n)

  -- of branch i of node n: a spawn, which is action 4, and any other
  pub record BranchSaid (n i : ℕ) : Type 0 where
    pub spawn : at tb (branch_at tb n i) Field.action ≡ 4
        → branch n i ≡ node (next_of tb n (branch_at tb n i)) + node (child_of tb n (branch_at tb n i))
    pub other : at tb (branch_at tb n i) Field.action ≢ 4 → branch n i ≡ node (next_of tb n (branch_at tb n i))

  -- of all of them; a definition has the bound of its first node
  pub record Said : Type 0 where
    pub first_node_lem : (d : ℕ) → d < definitions tb → definition d ≡ node (start tb Nodes d)
    pub nodes_said : (n : ℕ) → n < nodes tb → NodeSaid n
    pub branches_said : (n i : ℕ) → n < nodes tb → i < branch_count tb n → BranchSaid n i

-- ---- the bounds fit

module _ (tb : Table) (a : Allowed tb) where
  node_said : (n : ℕ) → n < nodes tb → NodeSaid tb (definition_bound tb) (node_bound tb) (branch_bound tb) n
  node_said n h = let g = a.rises in record {
    end = λ k. end_bound tb g n h (λ q. omega arith) (λ q. omega arith);
    own_call = own_call_bound tb g n h;
    other_call = call_bound tb g n h;
    choice = λ k. rw (choice_bound tb g n h k) (record {
      above = largest_above (branch_bound tb n) (branch_count tb n);
      one = largest_one (branch_bound tb n) (branch_count tb n) (branches_some tb a n h k);
    });
  }

  branch_said : (n i : ℕ) → BranchSaid tb (definition_bound tb) (node_bound tb) (branch_bound tb) n i
  unfolding is_spawn
  branch_said n i = record {
    spawn = λ k. spawn_bound tb n i (eq-eqb (at tb (branch_at tb n i) Field.action) 4 k);
    other = λ k. plain_bound tb n i (ne_eqb (at tb (branch_at tb n i) Field.action) 4 k);
  }

  pub bounds_said : Said tb (definition_bound tb) (node_bound tb) (branch_bound tb)
  bounds_said = record { first_node_lem = λ d h. definition_bound_lem tb d; nodes_said = node_said; branches_said = λ n i h l. branch_said n i }

-- ---- and no others do

-- a node that is no choice and no call is an end
end_kind : (tb : Table) → Allowed tb → (n : ℕ) → n < nodes tb → eqb (kind_of tb n) 1 ≡ false → eqb (kind_of tb n) 2 ≡ false → kind_of tb n ≡ 0
unfolding node_in_range
end_kind tb a n h y z = case_b (eqb (kind_of tb n) 0)
    (λ w. eqb-true (kind_of tb n) 0 w)
    (λ w. contra (node_in_range_lem tb a.passed.formed n h) (rw (w, y, z)))

-- there is one largest number
largest_is : (f : ℕ → ℕ) (n m : ℕ) → Largest f n m → m ≡ largest f n
largest_is f n m l =
    let (i, h, e) = l.one in
    let (j, k, q) = largest_one f n (omega arith) in
    omega (arith, l.above j k, largest_above f n i h)

module _ (tb : Table) (a : Allowed tb) (definition node : ℕ → ℕ) (branch : ℕ → ℕ → ℕ) (s : Said tb definition node branch) where
  branch_is : (n i : ℕ) → n < nodes tb → i < branch_count tb n → branch n i ≡ branch_bound_by tb node n i
  unfolding branch_bound_by is_spawn
  branch_is n i h l =
      let b = s.branches_said n i h l in
      case_b (eqb (at tb (branch_at tb n i) Field.action) 4)
      (λ y. rw y (b.spawn (eqb-true (at tb (branch_at tb n i) Field.action) 4 y)))
      (λ y. rw y (b.other (eqb-false (at tb (branch_at tb n i) Field.action) 4 y)))

  node_is : (n : ℕ) → n < nodes tb → node n ≡ node_bound_by tb node n
  unfolding node_bound_by call_bound_by
  node_is n h =
      let k = kind_of tb n in
      let b = s.nodes_said n h in
      case_b (eqb k 1)
      (λ y. rw y (largest_is (branch n) (branch_count tb n) (node n) (b.choice (eqb-true k 1 y))
      ∙ largest_same (branch n) (branch_bound_by tb node n) (branch_count tb n) (λ i l. branch_is n i h l)))
      (λ y. rw y (case_b (eqb k 2)
      (λ z. let c = eqb-true k 2 z in
      rw z (case_b (eqb (callee tb n) (definition_of tb n))
      (λ w. rw w (b.own_call c (eqb-true (callee tb n) (definition_of tb n) w)))
      (λ w. let o = eqb-false (callee tb n) (definition_of tb n) w in
      rw w (b.other_call c o ∙ s.first_node_lem (callee tb n) (a.rises.call n h c o).1))))
      (λ z. rw z (b.end (end_kind tb a n h y z)))))

  pub bounds_only : (n : ℕ) → n < nodes tb → node n ≡ node_bound tb n
  bounds_only = only_bounds tb a.rises node node_is

  pub definitions_only : (d : ℕ) → d < definitions tb → definition d ≡ definition_bound tb d
  definitions_only d h = s.first_node_lem d h ∙ bounds_only (start tb Nodes d) (a.rises.first d h).0 ∙ sym (definition_bound_lem tb d)

  pub branches_only : (n i : ℕ) → n < nodes tb → i < branch_count tb n → branch n i ≡ branch_bound tb n i
  unfolding is_spawn
  branches_only n i h l =
      let r = branch_at tb n i in
      let b = s.branches_said n i h l in
      let x = bounds_only (next_of tb n r) (a.rises.next n i h l).inside in
      case_b (is_spawn tb n i)
      (λ y. let z = bounds_only (child_of tb n r) (a.rises.child n i h l y).inside in
      b.spawn (eqb-true (at tb r Field.action) 4 y) ∙ rw (x, z) (sym (spawn_bound tb n i y)))
      (λ y. b.other (eqb-false (at tb r Field.action) 4 y) ∙ x ∙ sym (plain_bound tb n i y))
