-- An accepted table grants what the engine's theorems use. Assumes nothing.
use Rattle.std.specs.Prelude.{ℕ, ◌+◌, ◌-◌, ◌≤◌, ◌<◌, ◌≡◌, ◌⊎◌, ◌≢◌, false, ◌&&◌, ◌||◌, List, leb, get_or}
use native.Mathlib.Omega.{arith}
use Rattle.std.proofs.Math.Path.{refl}
use Rattle.std.proofs.Math.Logic.{inl, inr, ⊎_elim}
use Rattle.std.proofs.Math.Bool.{true}
use Rattle.std.proofs.Math.Dec.{eqb}
use borrow.Author.Tests.{ltb-true, eqb-true, eqb-false, eq-eqb, ne_eqb, not-true, not-false}
use Rattle.numbers.specs.Search.{every}
use Rattle.numbers.specs.Search.Laws.{first_below, every_elim}
use Rattle.numbers.specs.Tests.{and_right, parts}
use Rattle.table.specs.Table.{Table, table_of, types, definitions, nodes, ports, definition_row, node_row, branch_row, line_total, carried, parameters, slot_count, node_count}
use Rattle.table.specs.Layout.{blocks, lines, size, start, branch_count, definition_of, slot_type}
use Rattle.table.specs.Form.Laws.{within_least, header_counts}
use Rattle.table.specs.Roles.{operand_place, operand, operand_role, reads, writes}
use Rattle.table.specs.declared.Part.TheVariants.{Nodes, Branches}
use Rattle.table.specs.declared.Role.{Role}
use Rattle.table.specs.declared.Role.TheVariants.{ReadChannel, WriteNumber, WriteChannel}
use Rattle.ranges.specs.Ranges.{role_in_range, argument_in_range, call_in_range, definition_in_range, node_in_range, operand_in_range, branch_in_range}
use Rattle.types.specs.Types.{role_typed, port_typed, ports_typed, argument_typed, node_typed, operand_typed, branch_typed, row_typed, types_disagree}
use Rattle.flow.specs.Flow.{may_lack, reads_unwritten}
use Rattle.loader.specs.Load.{accepted}
use Rattle.loader_laws.specs.Blocks.{Stands, start_suc, stands_line, owner_is}
use Rattle.loader_laws.specs.Grounds.{named, named_below, node_kind_lem, branch_kind, definition_in_range_lem, node_in_range_lem, slots_few, filled, definition_of_lem, node_of_lem, branch_below, own_branch_in_range, operand_slot, reads_named, edges}
use Rattle.loader_laws.specs.Paths.{row_of, Edge}
use Rattle.loader_laws.specs.Paths.Laws.{written_iff, written_first, written_after}
use Rattle.loader_laws.specs.Written.{call_iff, branch_iff}
use Rattle.state.specs.State.{row_slots}
use Rattle.rules.specs.Program.{kind_of, callee, argument, branch_at, next_of, child_of, field_a, act_of}
use Rattle.rules.specs.declared.Direction.{Direction}
use Rattle.rules.specs.declared.Direction.TheVariants.{Out, In}
use Rattle.rules.specs.declared.Act.TheVariants.{Meeting, New, Spawn, Assignment}
use Rattle.rules_laws.specs.Granted.{Writes, Beside, MeetsBy, Branching, Definition, Calling, Granted}
use Rattle.rules_laws.specs.Passed.{Passed, accepted_passed, cells_small}
use Rattle.rules_laws.specs.Codes.{with_role, meets_on, meets_with, creates_in, assigns_in, spawns_by, slot_writes}

-- the slot with which a meeting gives or receives: a slot, of the type that the channel carries, and read where it gives
with_named : (e : Direction) → named (with_role e) ≡ true
unfolding named reads writes with_role
with_named Out = refl
with_named In = refl

with_typed : (e : Direction) (t u : ℕ) → role_typed (with_role e) t u ≡ true → t ≡ u
unfolding role_typed with_role
with_typed Out t u q = eqb-true t u q
with_typed In t u q = eqb-true t u q

out_reads : (e : Direction) → e ≡ Out → reads (with_role e) ≡ true
unfolding reads with_role
out_reads e q = rw q

module _ (tb : Table) (a : Passed tb) where
  row_typed_lem : (r : ℕ) → r < line_total tb → row_typed tb r ≡ true
  unfolding types_disagree
  row_typed_lem r h = not-false (row_typed tb r) (first_below (types_disagree tb) (line_total tb) r (rw a.typed h))

  row_reads : (r : ℕ) → r < line_total tb → reads_unwritten tb r ≡ false
  row_reads r h = first_below (reads_unwritten tb) (line_total tb) r (rw a.written h)

  -- ---- the branch i of node n
  module _ (n i : ℕ) (h : n < nodes tb) (l : i < branch_count tb n) where
    row_in : row_of tb n i < line_total tb
    row_in = let b = branch_below tb a.formed n i h l in omega arith

    own_typed : branch_typed tb (row_of tb n i) (definition_of tb n) ≡ true
    unfolding row_typed
    own_typed =
        let c = header_counts tb a.formed.header in
        let x = start tb Branches n + i in
        let m : row_of tb n i - branch_row tb ≡ x = omega arith in
        let o = ne_eqb (row_of tb n i) (definition_row tb) (λ e. omega (arith, c.some_definitions)) in
        rw (o, branch_kind tb a.formed x (branch_below tb a.formed n i h l), m, node_of_lem tb a.formed n i h l) at (row_typed_lem (row_of tb n i) row_in)

    -- an operand of a role is in the role's range, of its type and, if it is read, filled
    operand_in : (k : ℕ) (q : Role) → k < 5 → operand_role tb (row_of tb n i) k ≡ q
        → role_in_range q (slot_count tb (definition_of tb n)) (operand tb (row_of tb n i) k) ≡ true
    unfolding branch_in_range operand_in_range
    operand_in k q z e =
        let p = own_branch_in_range tb a.formed n i h l in
        rw e at (every_elim (operand_in_range tb (row_of tb n i) (slot_count tb (definition_of tb n))) 5 k (search parts depth 9) z)

    operand_typed_lem : (k : ℕ) (q : Role) → k < 5 → operand_role tb (row_of tb n i) k ≡ q
        → role_typed q (slot_type tb (definition_of tb n) (operand tb (row_of tb n i) k))
        (carried tb (slot_type tb (definition_of tb n) (operand tb (row_of tb n i) 2))) ≡ true
    unfolding branch_typed operand_typed
    operand_typed_lem k q z e = rw e at (every_elim (operand_typed tb (row_of tb n i) (definition_of tb n)) 5 k own_typed z)

    operand_filled : (k : ℕ) → k < 5 → reads (operand_role tb (row_of tb n i) k) ≡ true → may_lack tb n (operand tb (row_of tb n i) k) ≡ false
    operand_filled k z e =
        let s = (branch_iff tb a.formed n i h l).0 (row_reads (row_of tb n i) row_in) (operand tb (row_of tb n i) k) (k, z, e, refl) in
        (written_iff tb (edges tb a.formed) n (operand tb (row_of tb n i) k) h (operand_slot tb a.formed n i h l k z (reads_named _ e))).1 s

    -- ---- where it leads
    module _ (t : ℕ) (e : Edge tb n i t) where
      beside : Beside tb n t
      beside = record { inside = (edges tb a.formed).inside n i t h e; same = (edges tb a.formed).same n i t h e }

      filled_there : (k : ℕ) → k < row_slots → may_lack tb t k ≡ false → (may_lack tb n k ≡ false) ⊎ Writes tb (row_of tb n i) (act_of tb (row_of tb n i)) k
      filled_there k z w = ⊎_elim (λ y. inl y) (λ y. inr (slot_writes tb (row_of tb n i) k z y)) (written_after tb (edges tb a.formed) n i t k h z e w)

    to_next : Edge tb n i (next_of tb n (row_of tb n i))
    unfolding next_of
    to_next = record { branch = l; leads = inl refl }

    to_child : act_of tb (row_of tb n i) ≡ Spawn → Edge tb n i (child_of tb n (row_of tb n i))
    unfolding child_of
    to_child m = record { branch = l; leads = inr (spawns_by tb (row_of tb n i) m, refl) }

    -- a spawn writes nothing
    child_filled : act_of tb (row_of tb n i) ≡ Spawn → (k : ℕ) → k < row_slots → may_lack tb (child_of tb n (row_of tb n i)) k ≡ false → may_lack tb n k ≡ false
    unfolding Writes
    child_filled m k z w = ⊎_elim (λ y. y) (λ y. absurd (let f : Writes tb (row_of tb n i) Spawn k = rw m at y in f)) (filled_there _ (to_child m) k z w)

    -- ---- its operands
    slot_role : (q : Role) → named q ≡ true → (k : ℕ) → k < 5 → operand_role tb (row_of tb n i) k ≡ q
        → operand tb (row_of tb n i) k < slot_count tb (definition_of tb n)
    slot_role q w k z e = named_below q (slot_count tb (definition_of tb n)) (operand tb (row_of tb n i) k) (operand_in k q z e) w

    meets_by : (e : Direction) → act_of tb (row_of tb n i) ≡ Meeting e → MeetsBy tb n (row_of tb n i) e
    unfolding named reads writes role_typed operand operand_place
    meets_by e m =
        let r = row_of tb n i in
        let q : operand_role tb r 2 ≡ ReadChannel = meets_on tb r e m in
        let w : operand_role tb r 3 ≡ with_role e = meets_with tb r e m in
        record {
          on_slot = slot_role ReadChannel refl 2 (omega arith) q;
          with_slot_lem = slot_role (with_role e) (with_named e) 3 (omega arith) w;
          on_channel = eqb-false _ 0 (not-true _ (operand_typed_lem 2 ReadChannel (omega arith) q));
          with_carried = with_typed e _ _ (operand_typed_lem 3 (with_role e) (omega arith) w);
          on_filled = operand_filled 2 (omega arith) (rw q);
          with_filled = λ o. operand_filled 3 (omega arith) (rw w (out_reads e o));
        }

    creates_of : act_of tb (row_of tb n i) ≡ New
        → (field_a tb (row_of tb n i) < slot_count tb (definition_of tb n)) × (slot_type tb (definition_of tb n) (field_a tb (row_of tb n i)) ≢ 0)
    unfolding named reads writes role_typed operand operand_place
    creates_of m =
        let q = creates_in tb (row_of tb n i) m in
        (slot_role WriteChannel refl 2 (omega arith) q, eqb-false _ 0 (not-true _ (operand_typed_lem 2 WriteChannel (omega arith) q)))

    assigns_of : act_of tb (row_of tb n i) ≡ Assignment
        → (field_a tb (row_of tb n i) < slot_count tb (definition_of tb n)) × (slot_type tb (definition_of tb n) (field_a tb (row_of tb n i)) ≡ 0)
    unfolding named reads writes role_typed operand operand_place
    assigns_of m =
        let q = assigns_in tb (row_of tb n i) m in
        (slot_role WriteNumber refl 2 (omega arith) q, eqb-true _ 0 (operand_typed_lem 2 WriteNumber (omega arith) q))

    branching : Branching tb n (branch_at tb n i)
    unfolding branch_at
    branching = record {
      next = beside (next_of tb n (row_of tb n i)) to_next;
      next_filled = filled_there (next_of tb n (row_of tb n i)) to_next;
      meets = meets_by;
      creates = creates_of;
      assigns = assigns_of;
      child = λ m. beside (child_of tb n (row_of tb n i)) (to_child m);
      child_filled = child_filled;
    }

  -- ---- definition d
  module _ (d : ℕ) (h : d < definitions tb) where
    parameters_in : parameters tb d ≤ slot_count tb d
    unfolding definition_in_range
    parameters_in = let q = definition_in_range_lem tb a.formed d h in within_least (parameters tb d) 16 (slot_count tb d) (search parts depth 9)

    some_node : 1 ≤ node_count tb d
    unfolding definition_in_range
    some_node = let q = definition_in_range_lem tb a.formed d h in within_least 1 192 (node_count tb d) (search parts depth 9)

    first_stands : Stands tb Nodes (start tb Nodes d) d
    unfolding blocks size
    first_stands = record { block = h; from = omega arith; before = omega (arith, start_suc tb Nodes d h, some_node) }

    first_in : start tb Nodes d < nodes tb
    unfolding lines
    first_in = stands_line tb Nodes (filled tb a.formed Nodes) (start tb Nodes d) d first_stands

    first_of : definition_of tb (start tb Nodes d) ≡ d
    first_of = owner_is tb Nodes (filled tb a.formed Nodes) (start tb Nodes d) d first_stands

    first_filled : (k : ℕ) → k < row_slots → may_lack tb (start tb Nodes d) k ≡ false → k < parameters tb d
    first_filled k z w = rw first_of at (written_first tb (edges tb a.formed) (start tb Nodes d) k first_in z (rw first_of) w)

    defined : Definition tb d
    defined = record {
      few_slots = slots_few tb a.formed d h;
      few_parameters = parameters_in;
      first_inside = first_in;
      first_same = first_of;
      first_filled = first_filled;
    }

  -- ---- node n, a call
  module _ (n : ℕ) (h : n < nodes tb) (c : kind_of tb n ≡ 2) where
    call_in_range_lem : call_in_range tb (node_row tb + n) (slot_count tb (definition_of tb n)) ≡ true
    unfolding node_in_range
    call_in_range_lem = let m : node_row tb + n - node_row tb ≡ n = omega arith in rw (c, m) at (node_in_range_lem tb a.formed n h)

    callee_below : callee tb n < definitions tb
    unfolding call_in_range
    callee_below = let p = call_in_range_lem in ltb-true (callee tb n) (definitions tb) (search parts)

    argument_below : (k : ℕ) → k < parameters tb (callee tb n) → argument tb n k < slot_count tb (definition_of tb n)
    unfolding call_in_range argument_in_range
    argument_below k z =
        let p = call_in_range_lem in
        let s = slot_count tb (definition_of tb n) in
        ltb-true (argument tb n k) s (every_elim (argument_in_range tb (node_row tb + n) s) (parameters tb (callee tb n)) k (search parts) z)

    call_typed : every (argument_typed tb (node_row tb + n) (definition_of tb n)) (parameters tb (callee tb n)) ≡ true
    unfolding row_typed node_typed
    call_typed =
        let o = header_counts tb a.formed.header in
        let m : node_row tb + n - node_row tb ≡ n = omega arith in
        rw (ne_eqb (node_row tb + n) (definition_row tb) (λ e. omega (arith, o.some_definitions)), node_kind_lem tb a.formed n h, m, c)
        at (row_typed_lem (node_row tb + n) (omega arith))

    argument_of : (k : ℕ) → k < parameters tb (callee tb n) → slot_type tb (definition_of tb n) (argument tb n k) ≡ slot_type tb (callee tb n) k
    unfolding argument_typed
    argument_of k z = eqb-true _ _ (every_elim (argument_typed tb (node_row tb + n) (definition_of tb n)) (parameters tb (callee tb n)) k call_typed z)

    argument_written_lem : (k : ℕ) → k < parameters tb (callee tb n) → may_lack tb n (argument tb n k) ≡ false
    argument_written_lem k z =
        let s = (call_iff tb a.formed n h).0 (row_reads (node_row tb + n) (omega arith)) (argument tb n k) (k, c, z, refl) in
        let few = slots_few tb a.formed (definition_of tb n) (definition_of_lem tb a.formed n h) in
        (written_iff tb (edges tb a.formed) n (argument tb n k) h (omega (arith, argument_below k z, few))).1 s

    calling : Calling tb n
    calling = record { callee_in = callee_below; argument_slot = argument_below; argument_typed_lem = argument_of; argument_filled = argument_written_lem }

  -- ---- the ports
  ports_typed_lem : ports_typed tb ≡ true
  unfolding row_typed
  ports_typed_lem =
      let o = header_counts tb a.formed.header in
      rw (eq-eqb (definition_row tb) (definition_row tb) refl) at (row_typed_lem (definition_row tb) (omega (arith, o.some_definitions)))

  ports_are : parameters tb 0 ≡ ports tb
  unfolding ports_typed
  ports_are = let p = ports_typed_lem in eqb-true (parameters tb 0) (ports tb) (search parts)

  port_is : (k : ℕ) → k < ports tb → slot_type tb 0 k ≡ 1
  unfolding ports_typed port_typed
  port_is k z = let p = ports_typed_lem in eqb-true (slot_type tb 0 k) 1 (every_elim (port_typed tb) (ports tb) k (search parts) z)

  port_number : 0 < ports tb → carried tb 1 ≡ 0
  unfolding ports_typed
  port_number z =
      let p = ports_typed_lem in
      let q : (eqb (ports tb) 0 || (leb 1 (types tb) && eqb (carried tb 1) 0)) ≡ true = search parts in
      let w : (leb 1 (types tb) && eqb (carried tb 1) 0) ≡ true = rw (ne_eqb (ports tb) 0 (λ e. omega arith)) at q in
      eqb-true (carried tb 1) 0 (and_right (leb 1 (types tb)) _ w)

-- an accepted table grants all that the engine's theorems use
pub granted : (table : List ℕ) → accepted table ≡ true → ((i : ℕ) → get_or table i 0 < 256) → Granted (table_of table)
granted table e fit =
    let tb = table_of table in
    let a : Passed tb = accepted_passed table e fit in
    let o = header_counts tb a.formed.header in
    record {
      few_nodes = o.few_nodes;
      definition_in = definition_of_lem tb a.formed;
      branch = branching tb a;
      definition = defined tb a;
      call = calling tb a;
      some_definition = o.some_definitions;
      few_ports = o.few_ports;
      port_parameters = ports_are tb a;
      port_typed_lem = port_is tb a;
      port_carries = port_number tb a;
      small = cells_small table fit;
    }
