-- What an accepted table has besides what `rules_laws/specs/Granted.antt` says: branches lead to later nodes, a choice has a branch, and guards and sums read
-- slots for numbers. Assumes nothing.
use Rattle.std.specs.Prelude.{ℕ, ◌+◌, ◌-◌, ◌<◌, ◌≤◌, ◌≡◌, true, ◌≢◌, List, ltb, get_or}
use native.Mathlib.Omega.{arith}
use Rattle.std.proofs.Math.Path.{refl}
use Rattle.std.proofs.Math.Logic.{inl, inr}
use borrow.Author.Tests.{lt-ltb, le-ltb, eqb-true, ne_eqb, not-false}
use Rattle.numbers.specs.Rows.{at}
use Rattle.numbers.specs.Search.Laws.{case_b, first_below, every_elim}
use Rattle.numbers.specs.Tests.{parts}
use Rattle.table.specs.Fields as Field
use Rattle.table.specs.Table.{Table, max_own_branches, table_of, nodes, definition_row, node_row, branch_row, line_total, slot_count}
use Rattle.table.specs.Layout.{start, branch_count, definition_of, slot_type}
use Rattle.table.specs.Form.Laws.{within_least, header_counts}
use Rattle.table.specs.Roles.{guard_role, action_role, operand_place, operand, operand_role, reads}
use Rattle.table.specs.declared.Part.TheVariants.{Branches}
use Rattle.table.specs.declared.Role.TheVariants.{ReadNumber}
use Rattle.ranges.specs.Ranges.{node_in_range, operand_in_range, branch_in_range}
use Rattle.types.specs.Types.{role_typed, operand_typed, branch_typed, row_typed, types_disagree}
use Rattle.loader.specs.Load.{accepted}
use Rattle.loader_laws.specs.Grounds.{named, named_below, branch_kind, node_in_range_lem, node_of_lem, branch_below, own_branch_in_range, edges}
use Rattle.loader_laws.specs.Paths.{row_of}
use Rattle.rules.specs.Program.{kind_of, branch_at, next_of, child_of, field_b, field_c, act_of}
use Rattle.rules.specs.declared.Act.TheVariants.{Spawn}
use Rattle.rules_laws.specs.Passed.{Passed, accepted_passed}
use Rattle.rules_laws.specs.Codes.{spawns_by}

module _ (tb : Table) where
  -- slot k at node n is one for numbers
  abbrev pub NumberSlot : ℕ → ℕ → Type 0
  NumberSlot n k = (k < slot_count tb (definition_of tb n)) × (slot_type tb (definition_of tb n) k ≡ 0)

  -- of branch i of node n
  pub record Reading (n r : ℕ) : Type 0 where
    pub next_later : n < next_of tb n r
    pub child_later : act_of tb r ≡ Spawn → n < child_of tb n r
    pub guard_first : at tb r Field.guard ≢ 0 → NumberSlot n (at tb r Field.first)
    pub guard_second : 3 ≤ at tb r Field.guard → NumberSlot n (at tb r Field.second)
    pub sum_first : 5 < at tb r Field.action → NumberSlot n (field_b tb r)
    pub sum_second : 5 < at tb r Field.action → NumberSlot n (field_c tb r)

  pub record Readable : Type 0 where
    pub some_branch : (n : ℕ) → n < nodes tb → kind_of tb n ≡ 1 → 0 < branch_count tb n
    pub reading : (n i : ℕ) → n < nodes tb → i < branch_count tb n → Reading n (branch_at tb n i)

first_role : (code : ℕ) → code ≢ 0 → guard_role code 0 ≡ ReadNumber
unfolding guard_role
first_role code f = rw (ne_eqb code 0 f) (case_b (ltb code 3) (λ y. rw y) (λ y. rw y))

sum_role : (code : ℕ) → 5 < code → (k : ℕ) → 0 < k → action_role code k ≡ ReadNumber
unfolding action_role
sum_role code f k z = rw (
  ne_eqb code 1 (λ q. omega arith),
  ne_eqb code 2 (λ q. omega arith),
  ne_eqb code 3 (λ q. omega arith),
  ne_eqb code 5 (λ q. omega arith),
  lt-ltb 5 code f,
  ne_eqb k 0 (λ q. omega arith),
)

module _ (tb : Table) (a : Passed tb) where
  some_branches : (n : ℕ) → n < nodes tb → kind_of tb n ≡ 1 → 0 < branch_count tb n
  unfolding branch_count node_in_range
  some_branches n h k =
      let p = node_in_range_lem tb a.formed n h in
      let q = rw k at p in
      rw k (within_least 1 max_own_branches (at tb (node_row tb + n) Field.own_branches) (search parts))

  module _ (n i : ℕ) (h : n < nodes tb) (l : i < branch_count tb n) where
    abbrev r : ℕ
    r = row_of tb n i

    own_typed : branch_typed tb r (definition_of tb n) ≡ true
    unfolding row_typed types_disagree
    own_typed =
        let c = header_counts tb a.formed.header in
        let b = branch_below tb a.formed n i h l in
        let x = start tb Branches n + i in
        let m : r - branch_row tb ≡ x = omega arith in
        let low : r < line_total tb = omega arith in
        let y = not-false (row_typed tb r) (first_below (types_disagree tb) (line_total tb) r (rw a.typed low)) in
        rw (ne_eqb r (definition_row tb) (λ e. omega (arith, c.some_definitions)), branch_kind tb a.formed x b, m, node_of_lem tb a.formed n i h l) at y

    -- an operand that is read as a number
    reads_number : (k : ℕ) → k < 5 → operand_role tb r k ≡ ReadNumber → NumberSlot tb n (operand tb r k)
    unfolding branch_in_range operand_in_range branch_typed operand_typed named reads role_typed
    reads_number k z e =
        let p = own_branch_in_range tb a.formed n i h l in
        let x = rw e at (every_elim (operand_in_range tb r (slot_count tb (definition_of tb n))) 5 k (search parts depth 9) z) in
        let y = rw e at (every_elim (operand_typed tb r (definition_of tb n)) 5 k own_typed z) in (
          named_below ReadNumber (slot_count tb (definition_of tb n)) (operand tb r k) x refl,
          eqb-true (slot_type tb (definition_of tb n) (operand tb r k)) 0 y,
        )

    reading_of : Reading tb n (branch_at tb n i)
    unfolding branch_at next_of child_of operand_role guard_role action_role operand operand_place
    reading_of = record {
      next_later = (edges tb a.formed).up n i (next_of tb n r) h (record { branch = l; leads = inl refl });
      child_later = λ m. (edges tb a.formed).up n i (child_of tb n r) h (record { branch = l; leads = inr (spawns_by tb r m, refl) });
      guard_first = λ f. reads_number 0 (omega arith) (first_role (at tb r Field.guard) f);
      guard_second = λ f. reads_number 1 (omega arith) (rw (ne_eqb (at tb r Field.guard) 0 (λ q. omega arith), le-ltb (at tb r Field.guard) 3 f));
      sum_first = λ f. reads_number 3 (omega arith) (sum_role (at tb r Field.action) f 1 (omega arith));
      sum_second = λ f. reads_number 4 (omega arith) (sum_role (at tb r Field.action) f 2 (omega arith));
    }

-- every accepted table is so
pub readable : (table : List ℕ) → accepted table ≡ true → ((i : ℕ) → get_or table i 0 < 256) → Readable (table_of table)
readable table e fit =
    let a : Passed (table_of table) = accepted_passed table e fit in
    record { some_branch = some_branches (table_of table) a; reading = reading_of (table_of table) a }
