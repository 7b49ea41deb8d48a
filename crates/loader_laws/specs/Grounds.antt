-- What grounds 3 and 4 say of a table that passes them: of its rows by their kind, of its blocks, and of the edges between its nodes.
-- Assumes nothing.
use Rattle.std.specs.Prelude.{ℕ, ◌+◌, ◌-◌, ◌≤◌, ◌<◌, refl, ◌≢◌, Bool, ◌||◌, ltb}
use native.Mathlib.Omega.{arith}
use Rattle.std.proofs.Math.Path.{◌≡◌}
use Rattle.std.proofs.Common.{inr}
use Rattle.std.proofs.Math.Logic.{⊎_elim}
use Rattle.std.proofs.Math.Bool.{true}
use borrow.Author.Tests.{ltb-true}
use Rattle.numbers.specs.Rows.{at}
use Rattle.numbers.specs.Search.Laws.{case_b, contra, every_elim}
use Rattle.numbers.specs.Tests.{and_left, and_right, parts}
use Rattle.table.specs.Fields as Field
use Rattle.table.specs.Table.{Table, max_parameters, max_own_slots, max_own_branches, definitions, nodes, branches, definition_row, node_row, branch_row, line_total, parameters, slot_count, node_count}
use Rattle.table.specs.Layout.{blocks, lines, size, start, branch_count, definition_of, node_of}
use Rattle.table.specs.Form.Laws.{header_counts}
use Rattle.table.specs.Roles.{operand, operand_role, reads, writes}
use Rattle.table.specs.declared.Part.{Part}
use Rattle.table.specs.declared.Part.TheVariants.{Slots, Nodes, Branches}
use Rattle.table.specs.declared.Role.{Role}
use Rattle.table.specs.declared.Role.TheVariants.{Unused, Constant, ReadNumber, ReadChannel, ReadCarried, WriteNumber, WriteChannel, WriteCarried}
use Rattle.ranges.specs.Ranges.{role_in_range, ahead, definition_in_range, node_in_range, operand_in_range, targets_in_range, branch_in_range, row_in_range}
use Rattle.flow.specs.Flow.{path_gap, slot_written}
use Rattle.loader_laws.specs.Blocks.{Filled, Stands, start_suc, stands_line, owner_is, owner_stands}
use Rattle.loader_laws.specs.FormedRows as R
use Rattle.loader_laws.specs.FormedRows.{FormedTo}
pub use Rattle.loader_laws.specs.FormedRows.{kind_is, row_in_range_lem, definition_kind, node_kind_lem, branch_kind, node_row_lem, branch_row_lem}
use Rattle.loader_laws.specs.Paths.{first_node, row_of, Leads}
use Rattle.loader_laws.specs.Paths.Pass.{or_true}
use Rattle.loader_laws.specs.Paths.Laws.{Edges}

-- a table that grounds 3 and 4 do not refuse
abbrev pub Formed : Table → Type 0
Formed tb = FormedTo tb (line_total tb)

-- whether a role names a slot
unfoldable pub named : Role → Bool
named q = reads q || writes q

pub reads_named : (q : Role) → reads q ≡ true → named q ≡ true
unfolding named
reads_named q e = rw e

pub writes_named : (q : Role) → writes q ≡ true → named q ≡ true
unfolding named
writes_named q e = (or_true (reads q) (writes q)).1 (inr e)

pub named_below : (q : Role) (s v : ℕ) → role_in_range q s v ≡ true → named q ≡ true → v < s
unfolding named reads writes role_in_range
named_below Unused s v e w = contra w refl
named_below Constant s v e w = contra w refl
named_below ReadNumber s v e w = ltb-true v s e
named_below ReadChannel s v e w = ltb-true v s e
named_below ReadCarried s v e w = ltb-true v s e
named_below WriteNumber s v e w = ltb-true v s e
named_below WriteChannel s v e w = ltb-true v s e
named_below WriteCarried s v e w = ltb-true v s e

module _ (tb : Table) (g : Formed tb) where
  -- ---- rows and sizes

  pub definition_in_range_lem : (d : ℕ) → d < definitions tb → definition_in_range tb (definition_row tb + d) ≡ true
  definition_in_range_lem = R.definition_in_range_lem tb g (omega arith)

  pub parameters_few : (d : ℕ) → d < definitions tb → parameters tb d ≤ max_parameters
  parameters_few = R.parameters_few tb g (omega arith)

  pub slots_few : (d : ℕ) → d < definitions tb → slot_count tb d ≤ max_own_slots
  slots_few = R.slots_few tb g (omega arith)

  pub node_in_range_lem : (n : ℕ) → n < nodes tb → node_in_range tb (node_row tb + n) ≡ true
  node_in_range_lem = R.node_in_range_lem tb g (omega arith)

  pub branches_few : (n : ℕ) → n < nodes tb → branch_count tb n ≤ max_own_branches
  branches_few = R.branches_few tb g (omega arith)

  pub branch_in_range_lem : (b : ℕ) → b < branches tb → branch_in_range tb (branch_row tb + b) (node_of tb b) (definition_of tb (node_of tb b)) ≡ true
  unfolding row_in_range
  branch_in_range_lem b h =
      let e : branch_row tb + b - branch_row tb ≡ b = omega arith in
      rw (branch_kind tb g b h, e) at (row_in_range_lem tb g (branch_row tb + b) (omega arith))

  pub filled : (p : Part) → Filled tb p
  filled Slots = R.slots_filled_lem tb g (omega arith)
  filled Nodes = R.nodes_filled tb g (omega arith)
  filled Branches = R.branches_filled tb g (omega arith)

  pub node_stands : (n : ℕ) → n < nodes tb → Stands tb Nodes n (definition_of tb n)
  node_stands = R.node_stands tb g (omega arith)

  pub definition_of_lem : (n : ℕ) → n < nodes tb → definition_of tb n < definitions tb
  definition_of_lem = R.definition_of_lem tb g (omega arith)

  -- ---- edges

  -- a node of the same definition, above node n
  Above : ℕ → ℕ → Type 0
  Above n t = (n < t) × Stands tb Nodes t (definition_of tb n)

  target : (n v : ℕ) → n < nodes tb → ahead (n - first_node tb n) (node_count tb (definition_of tb n)) v ≡ true → Above n (first_node tb n + v)
  unfolding ahead Above blocks size
  target n v h e =
      let d = definition_of tb n in
      let s = node_stands n h in
      let lo = ltb-true (n - first_node tb n) v (and_left _ _ e) in
      let hi = ltb-true v (node_count tb d) (and_right (ltb (n - first_node tb n) v) _ e) in
      (omega (arith, s.from), record { block = s.block; from = omega arith; before = omega (arith, start_suc tb Nodes d s.block) })

  module _ (n i : ℕ) (h : n < nodes tb) (l : i < branch_count tb n) where
    pub branch_stands : Stands tb Branches (start tb Branches n + i) n
    unfolding blocks size
    branch_stands = record { block = h; from = omega arith; before = omega (arith, start_suc tb Branches n h) }

    pub node_of_lem : node_of tb (start tb Branches n + i) ≡ n
    node_of_lem = owner_is tb Branches (filled Branches) (start tb Branches n + i) n branch_stands

    pub branch_below : start tb Branches n + i < branches tb
    unfolding lines
    branch_below = stands_line tb Branches (filled Branches) (start tb Branches n + i) n branch_stands

    pub own_branch_in_range : branch_in_range tb (row_of tb n i) n (definition_of tb n) ≡ true
    own_branch_in_range = rw node_of_lem at (branch_in_range_lem (start tb Branches n + i) branch_below)

    edge_above : (t : ℕ) → Leads tb (first_node tb n) (row_of tb n i) t → Above n t
    unfolding branch_in_range targets_in_range
    edge_above t e =
        let d = definition_of tb n in
        let r = row_of tb n i in
        let q : targets_in_range tb r (n - first_node tb n) (node_count tb d) ≡ true = let p = own_branch_in_range in search parts depth 9 in
        ⊎_elim (λ a. rw a (target n (at tb r Field.next) h (and_left _ _ q)))
        (λ b. let k = and_right (ahead (n - first_node tb n) (node_count tb d) (at tb r Field.next)) _ q in
        rw b.1 (target n (at tb r Field.child) h (rw b.0 at k))) e

    -- a slot that the branch names is one of its definition's, of which there are at most 16
    pub operand_slot : (k : ℕ) → k < 5 → named (operand_role tb (row_of tb n i) k) ≡ true → operand tb (row_of tb n i) k < 16
    unfolding branch_in_range operand_in_range
    operand_slot k z w =
        let d = definition_of tb n in
        let r = row_of tb n i in
        let p = own_branch_in_range in
        let q : operand_in_range tb r (slot_count tb d) k ≡ true = every_elim (operand_in_range tb r (slot_count tb d)) 5 k (search parts depth 9) z in
        omega (arith, named_below (operand_role tb r k) (slot_count tb d) (operand tb r k) q w, slots_few d (definition_of_lem n h))

    no_mark : slot_written tb (row_of tb n i) ≢ path_gap
    unfolding slot_written
    no_mark e =
        let r = row_of tb n i in
        case_b (writes (operand_role tb r 2))
        (λ y. let q : operand tb r 2 ≡ 16 = rw y at e in omega (arith, operand_slot 2 (omega arith) (writes_named _ y)))
        (λ y. case_b (writes (operand_role tb r 3))
        (λ z. let q : operand tb r 3 ≡ 16 = rw (y, z) at e in omega (arith, operand_slot 3 (omega arith) (writes_named _ z)))
        (λ z. let q : ◌≡◌ {A = ℕ} 17 16 = rw (y, z) at e in omega arith))

  -- a branch's row is that of a branch of some node
  pub branch_row_of : (r : ℕ) → r < line_total tb → at tb r Field.kind ≡ 6 → (n : ℕ) × (i : ℕ) × (n < nodes tb) × (i < branch_count tb n) × (r ≡ row_of tb n i)
  unfolding lines blocks size
  branch_row_of r h e =
      let (b, l, q) = branch_row_lem tb g r h e in
      let n = node_of tb b in
      let s = owner_stands tb Branches (filled Branches) b l in
      let f = s.from in
      (n, b - start tb Branches n, s.block, omega (arith, s.before, start_suc tb Branches n s.block), omega arith)

  -- the theorem on paths asks no more of a table
  pub edges : Edges tb
  unfolding Above lines
  edges = record {
    few_nodes = (header_counts tb g.header).few_nodes;
    up = λ n i t h e. (edge_above n i h e.branch t e.leads).0;
    inside = λ n i t h e. stands_line tb Nodes (filled Nodes) t (definition_of tb n) (edge_above n i h e.branch t e.leads).1;
    same = λ n i t h e. owner_is tb Nodes (filled Nodes) t (definition_of tb n) (edge_above n i h e.branch t e.leads).1;
    no_slot = no_mark;
    few_parameters = λ n h. omega (arith, parameters_few (definition_of tb n) (definition_of_lem n h));
  }
