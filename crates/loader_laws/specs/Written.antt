-- Grounds 6 and 7 of a table that passes grounds 3 and 4, said over paths, line by line. Assumes nothing.
use Rattle.std.specs.Prelude.{ℕ, ◌+◌, ◌-◌, ◌<◌, ◌≡◌, refl, ◌↔◌, false, eqb}
use native.Mathlib.Omega.{arith}
use Rattle.std.proofs.Math.Bool.{true, not}
use borrow.Author.Tests.{ltb-true, eqb-true, not-true, not-false}
use Rattle.numbers.specs.Rows.{at}
use Rattle.numbers.specs.Search.{every}
use Rattle.numbers.specs.Search.Laws.{case_b, every_elim, every_intro}
use Rattle.numbers.specs.Tests.{parts}
use Rattle.table.specs.Fields as Field
use Rattle.table.specs.Table.{Table, nodes, node_row, branch_row, parameters, slot_count}
use Rattle.table.specs.Layout.{branch_count, definition_of, start}
use Rattle.table.specs.Roles.{operand, operand_role, reads}
use Rattle.table.specs.declared.Part.TheVariants.{Branches}
use Rattle.ranges.specs.Ranges.{argument_in_range, call_in_range, node_in_range}
use Rattle.flow.specs.Flow.{path_gap, may_lack, argument_written, call_written, operand_written, row_written, reads_unwritten, unreachable}
use Rattle.loader_laws.specs.Paths.{row_of, CallReads, BranchReads, Reachable, SurelyWritten}
use Rattle.loader_laws.specs.Paths.Laws.{reachable_iff, written_iff}
use Rattle.loader_laws.specs.Grounds.{Formed, node_kind_lem, branch_kind, node_in_range_lem, slots_few, definition_of_lem, node_of_lem, branch_below, operand_slot, reads_named, edges}

module _ (tb : Table) (g : Formed tb) where
  -- ---- ground 7

  pub unreachable_iff : (n : ℕ) → n < nodes tb → (unreachable tb (node_row tb + n) ≡ false) ↔ Reachable tb n
  unfolding unreachable
  unreachable_iff n h =
      let reach = reachable_iff tb (edges tb g) n h in
      let q : node_row tb + n - node_row tb ≡ n = omega arith in
      rw (node_kind_lem tb g n h, q)
      (λ e. reach.0 (not-false (may_lack tb n path_gap) e), λ p. rw (reach.1 p))

  -- ---- ground 6

  sure : (n k : ℕ) → n < nodes tb → k < path_gap → (not (may_lack tb n k) ≡ true) ↔ SurelyWritten tb n k
  sure n k h l = let w = written_iff tb (edges tb g) n k h l in
      (λ e. w.0 (not-true (may_lack tb n k) e), λ s. rw (w.1 s))

  pub argument_slot : (n j : ℕ) → n < nodes tb → at tb (node_row tb + n) Field.node_kind ≡ 2 → j < parameters tb (at tb (node_row tb + n) Field.callee) → at tb (node_row tb + n) (Field.arguments + j) < 16
  unfolding node_in_range call_in_range argument_in_range
  argument_slot n j h c z =
      let r = node_row tb + n in
      let m : r - node_row tb ≡ n = omega arith in
      let s = slot_count tb (definition_of tb n) in
      let p : call_in_range tb r s ≡ true = rw (c, m) at (node_in_range_lem tb g n h) in
      let q : argument_in_range tb r s j ≡ true = every_elim (argument_in_range tb r s) (parameters tb (at tb r Field.callee)) j (search parts) z in
      omega (arith, ltb-true (at tb r (Field.arguments + j)) s q, slots_few tb g (definition_of tb n) (definition_of_lem tb g n h))

  pub call_iff : (n : ℕ) → n < nodes tb → (reads_unwritten tb (node_row tb + n) ≡ false) ↔ ((k : ℕ) → CallReads tb n k → SurelyWritten tb n k)
  unfolding reads_unwritten row_written call_written argument_written
  call_iff n h =
      let r = node_row tb + n in
      let m : r - node_row tb ≡ n = omega arith in
      rw (node_kind_lem tb g n h, m) (
        λ e k s. let (j, c, z, q) = s in
            let w : every (argument_written tb r n) (parameters tb (at tb r Field.callee)) ≡ true = rw c at (not-false (call_written tb r n) e) in
            rw q ((sure n (at tb r (Field.arguments + j)) h (argument_slot n j h c z)).0 (every_elim (argument_written tb r n) (parameters tb (at tb r Field.callee)) j w z)),
        λ f. case_b (eqb (at tb r Field.node_kind) 2)
            (λ y. let c = eqb-true (at tb r Field.node_kind) 2 y in
            rw (y, every_intro (argument_written tb r n) (parameters tb (at tb r Field.callee)) (λ j z. (sure n (at tb r (Field.arguments + j)) h (argument_slot n j h c z)).1 (f (at tb r (Field.arguments + j)) (j, c, z, refl)))))
            (λ y. rw y),
      )

  operand_sure : (n i j : ℕ) → n < nodes tb → i < branch_count tb n → j < 5 → reads (operand_role tb (row_of tb n i) j) ≡ true → (not (may_lack tb n (operand tb (row_of tb n i) j)) ≡ true) ↔ SurelyWritten tb n (operand tb (row_of tb n i) j)
  operand_sure n i j h l z w = sure n (operand tb (row_of tb n i) j) h (operand_slot tb g n i h l j z (reads_named (operand_role tb (row_of tb n i) j) w))

  pub branch_iff : (n i : ℕ) → n < nodes tb → i < branch_count tb n → (reads_unwritten tb (row_of tb n i) ≡ false) ↔ ((k : ℕ) → BranchReads tb (row_of tb n i) k → SurelyWritten tb n k)
  unfolding reads_unwritten row_written operand_written
  branch_iff n i h l =
      let r = row_of tb n i in
      let x = start tb Branches n + i in
      let m : r - branch_row tb ≡ x = omega arith in
      rw (branch_kind tb g x (branch_below tb g n i h l), m, node_of_lem tb g n i h l) (
        λ e k s. let (j, z, w, q) = s in
            let y : not (may_lack tb n (operand tb r j)) ≡ true = rw w at (every_elim (operand_written tb r n) 5 j (not-false (every (operand_written tb r n) 5) e) z) in
            rw q ((operand_sure n i j h l z w).0 y),
        λ f. let a = every_intro (operand_written tb r n) 5 (λ j z. case_b (reads (operand_role tb r j))
            (λ w. rw w ((operand_sure n i j h l z w).1 (f (operand tb r j) (j, z, w, refl)))) (λ w. rw w)) in rw a,
      )
