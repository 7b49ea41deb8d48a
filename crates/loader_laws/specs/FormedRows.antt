-- What ground 3 says of a table that passes it, and ground 4 of one that passes it in the rows below m: of rows by their kind, and of blocks.
-- Assumes nothing.
use Rattle.std.specs.Prelude.{ℕ, ◌+◌, ◌-◌, ◌≤◌, ◌<◌, ◌≡◌, ◌&&◌, ltb, eqb}
use Rattle.std.proofs.Common.{arith, ◌∙◌}
use Rattle.std.proofs.Math.Bool.{true}
use borrow.Author.Tests.{ltb-true, ltb-false, lt-ltb, le-ltb, eqb-true, not-false}
use Rattle.numbers.specs.Rows.{at}
use Rattle.numbers.specs.Search.{first}
use Rattle.numbers.specs.Search.Laws.{case_b, first_below}
use Rattle.numbers.specs.Tests.{and_left, parts}
use Rattle.table.specs.Fields as Field
use Rattle.table.specs.Table.{Table, max_parameters, max_own_slots, max_own_nodes, max_own_branches, definitions, nodes, branches, definition_row, slot_row, node_row, branch_row, line_total, parameters, slot_count, node_count}
use Rattle.table.specs.Layout.{blocks, lines, size, branch_count, definition_of}
use Rattle.table.specs.Form.{within, header_in_range, kind_due, kind_wrong, sums_agree}
use Rattle.table.specs.Form.Laws.{within_most}
use Rattle.table.specs.declared.Part.TheVariants.{Slots, Nodes, Branches}
use Rattle.ranges.specs.Ranges.{rest_unused, definition_in_range, node_in_range, row_in_range, out_of_range}
use Rattle.loader_laws.specs.Blocks.{Filled, Stands, owner_stands}
use Rattle.loader_laws.specs.Sums.{sums_fill}

-- a table that ground 3 does not refuse, nor ground 4 in a row below m
pub record FormedTo (tb : Table) (m : ℕ) : Type 0 where
  pub header : header_in_range tb ≡ true
  pub kinds : first (kind_wrong tb) (line_total tb) ≡ line_total tb
  pub sums : sums_agree tb ≡ true
  pub ranges : first (out_of_range tb) m ≡ m

module _ (tb : Table) {m : ℕ} (g : FormedTo tb m) where
  -- ---- rows

  pub kind_is : (r : ℕ) → r < line_total tb → at tb r Field.kind ≡ kind_due tb r
  unfolding kind_wrong
  kind_is r h = eqb-true (at tb r Field.kind) (kind_due tb r) (not-false _ (first_below (kind_wrong tb) (line_total tb) r (rw g.kinds h)))

  pub row_in_range_lem : (r : ℕ) → r < m → row_in_range tb r ≡ true
  unfolding out_of_range
  row_in_range_lem r h = not-false _ (first_below (out_of_range tb) m r (rw g.ranges h))

  -- the kinds due: of a row before the nodes', of a node's and of a branch's
  low_due : (r : ℕ) → r < node_row tb → kind_due tb r ≤ 4
  unfolding kind_due
  low_due r h =
      case_b (ltb r 1) (λ y. rw y (omega arith))
      (λ y. case_b (ltb r (definition_row tb)) (λ z. rw (y, z) (omega arith))
      (λ z. case_b (ltb r (slot_row tb)) (λ w. rw (y, z, w) (omega arith)) (λ w. rw (y, z, w, lt-ltb r (node_row tb) h) (omega arith))))

  node_due : (r : ℕ) → node_row tb ≤ r → r < branch_row tb → kind_due tb r ≡ 5
  unfolding kind_due
  node_due r h l =
      rw (le-ltb r 1 (omega arith), le-ltb r (definition_row tb) (omega arith), le-ltb r (slot_row tb) (omega arith), le-ltb r (node_row tb) h, lt-ltb r (branch_row tb) l)

  branch_due : (r : ℕ) → branch_row tb ≤ r → kind_due tb r ≡ 6
  unfolding kind_due
  branch_due r h =
      rw (le-ltb r 1 (omega arith), le-ltb r (definition_row tb) (omega arith), le-ltb r (slot_row tb) (omega arith), le-ltb r (node_row tb) (omega arith), le-ltb r (branch_row tb) h)

  pub definition_kind : (d : ℕ) → d < definitions tb → at tb (definition_row tb + d) Field.kind ≡ 3
  unfolding kind_due
  definition_kind d h =
      let r = definition_row tb + d in
      kind_is r (omega arith) ∙ rw (le-ltb r 1 (omega arith), le-ltb r (definition_row tb) (omega arith), lt-ltb r (slot_row tb) (omega arith))

  pub node_kind_lem : (n : ℕ) → n < nodes tb → at tb (node_row tb + n) Field.kind ≡ 5
  node_kind_lem n h = kind_is (node_row tb + n) (omega arith) ∙ node_due (node_row tb + n) (omega arith) (omega arith)

  pub branch_kind : (b : ℕ) → b < branches tb → at tb (branch_row tb + b) Field.kind ≡ 6
  branch_kind b h = kind_is (branch_row tb + b) (omega arith) ∙ branch_due (branch_row tb + b) (omega arith)

  -- a row of kind 5 is a node's, and one of kind 6 a branch's
  pub node_row_lem : (r : ℕ) → r < line_total tb → at tb r Field.kind ≡ 5 → (n : ℕ) × (n < nodes tb) × (r ≡ node_row tb + n)
  node_row_lem r h e =
      let k = kind_is r h in
      case_b (ltb r (node_row tb)) (λ y. absurd (omega (arith, low_due r (ltb-true r (node_row tb) y))))
      (λ y. case_b (ltb r (branch_row tb))
      (λ z. (r - node_row tb, omega (arith, ltb-true r (branch_row tb) z, ltb-false r (node_row tb) y), omega (arith, ltb-false r (node_row tb) y)))
      (λ z. absurd (omega (arith, branch_due r (ltb-false r (branch_row tb) z)))))

  pub branch_row_lem : (r : ℕ) → r < line_total tb → at tb r Field.kind ≡ 6 → (b : ℕ) × (b < branches tb) × (r ≡ branch_row tb + b)
  branch_row_lem r h e =
      let k = kind_is r h in
      case_b (ltb r (branch_row tb))
      (λ y. let u = ltb-true r (branch_row tb) y in
      case_b (ltb r (node_row tb)) (λ z. absurd (omega (arith, low_due r (ltb-true r (node_row tb) z))))
      (λ z. absurd (omega (arith, node_due r (ltb-false r (node_row tb) z) u))))
      (λ y. let u = ltb-false r (branch_row tb) y in (r - branch_row tb, omega arith, omega arith))

  -- ---- where the definitions' rows are below m

  module _ (l : slot_row tb ≤ m) where
    pub definition_in_range_lem : (d : ℕ) → d < definitions tb → definition_in_range tb (definition_row tb + d) ≡ true
    unfolding row_in_range
    definition_in_range_lem d h = rw (definition_kind d h) at (row_in_range_lem (definition_row tb + d) (omega arith))

    module _ (d : ℕ) (h : d < definitions tb) where
      pub parameters_few : parameters tb d ≤ max_parameters
      unfolding definition_in_range
      parameters_few = let q = definition_in_range_lem d h in within_most 0 max_parameters (parameters tb d) (search parts depth 9)

      pub slots_few : slot_count tb d ≤ max_own_slots
      unfolding definition_in_range
      slots_few = let q = definition_in_range_lem d h in within_most (parameters tb d) max_own_slots (slot_count tb d) (search parts depth 9)

      pub nodes_few : node_count tb d ≤ max_own_nodes
      unfolding definition_in_range
      nodes_few = let q = definition_in_range_lem d h in within_most 1 max_own_nodes (node_count tb d) (search parts depth 9)

    definition_sizes : Filled tb Slots × Filled tb Nodes
    unfolding sums_agree size blocks
    definition_sizes = let q = g.sums in (
      sums_fill tb Slots (λ i h. omega (arith, slots_few i h)) (search parts),
      sums_fill tb Nodes (λ i h. omega (arith, nodes_few i h)) (search parts),
    )

    pub slots_filled_lem : Filled tb Slots
    slots_filled_lem = definition_sizes.0

    pub nodes_filled : Filled tb Nodes
    nodes_filled = definition_sizes.1

    pub node_stands : (n : ℕ) → n < nodes tb → Stands tb Nodes n (definition_of tb n)
    unfolding lines
    node_stands n h = owner_stands tb Nodes nodes_filled n h

    pub definition_of_lem : (n : ℕ) → n < nodes tb → definition_of tb n < definitions tb
    unfolding blocks
    definition_of_lem n h = (node_stands n h).block

  -- ---- where the nodes' rows are, too

  module _ (l : branch_row tb ≤ m) where
    pub node_in_range_lem : (n : ℕ) → n < nodes tb → node_in_range tb (node_row tb + n) ≡ true
    unfolding row_in_range
    node_in_range_lem n h = rw (node_kind_lem n h) at (row_in_range_lem (node_row tb + n) (omega arith))

    pub branches_few : (n : ℕ) → n < nodes tb → branch_count tb n ≤ max_own_branches
    unfolding branch_count node_in_range
    branches_few n h = case_b (eqb (at tb (node_row tb + n) Field.node_kind) 1)
        (λ y. let q : (within 1 max_own_branches (at tb (node_row tb + n) Field.own_branches) && rest_unused tb (node_row tb + n) 3) ≡ true = rw (eqb-true (at tb (node_row tb + n) Field.node_kind) 1 y) at (node_in_range_lem n h) in
        rw y (within_most 1 max_own_branches (at tb (node_row tb + n) Field.own_branches) (and_left _ _ q)))
        (λ y. rw y (omega arith))

    pub branches_filled : Filled tb Branches
    unfolding sums_agree size blocks
    branches_filled = let q = g.sums in sums_fill tb Branches (λ i h. omega (arith, branches_few i h)) (search parts depth 9)
