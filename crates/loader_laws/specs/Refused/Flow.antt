-- Grounds 6 and 7: the tests find just what the grounds say over paths, in a table that grounds 3 and 4 do not refuse. Assumes nothing.
use Rattle.std.specs.Prelude.{ℕ, ◌+◌, ◌-◌, ◌<◌, ◌≡◌, eqb}
use native.Mathlib.Omega.{arith}
use Rattle.std.proofs.Math.Path.{refl}
use Rattle.std.proofs.Math.Logic.{inl, inr}
use Rattle.std.proofs.Common.{⊎_elim}
use Rattle.std.proofs.Math.Bool.{true, false}
use borrow.Author.Tests.{eqb-true, not-true, not-false}
use Rattle.numbers.specs.Rows.{at}
use Rattle.numbers.specs.Search.{every}
use Rattle.numbers.specs.Search.Laws.{case_b, contra, every_fails}
use Rattle.numbers.specs.Tests.{and_left, and_right}
use Rattle.table.specs.Fields as Field
use Rattle.table.specs.Table.{Table, nodes, node_row, branch_row, line_total, parameters}
use Rattle.table.specs.Layout.{start, branch_count}
use Rattle.table.specs.Roles.{operand, operand_role, reads}
use Rattle.table.specs.declared.Part.TheVariants.{Branches}
use Rattle.flow.specs.Flow.{may_lack, argument_written, call_written, operand_written, row_written, reads_unwritten, unreachable}
use Rattle.loader_laws.specs.Paths.{row_of, CallReads, BranchReads, Reachable, SurelyWritten}
use Rattle.loader_laws.specs.Paths.Laws.{written_iff}
use Rattle.loader_laws.specs.Grounds.{Formed, node_kind_lem, branch_kind, node_row_lem, branch_row_of, node_of_lem, branch_below, operand_slot, reads_named, edges}
use Rattle.loader_laws.specs.Written.{argument_slot, unreachable_iff, call_iff, branch_iff}
use Rattle.loader_laws.specs.Refused.{ReadsUnwritten, NotReached}
use Rattle.loader_laws.specs.Refused.Form.{Says}

module _ (tb : Table) (g : Formed tb) where
  -- ---- ground 7

  pub reached_says : (r : ℕ) → r < line_total tb → Says (unreachable tb r) (NotReached tb r)
  unfolding unreachable
  reached_says r h = (
    λ e. case_b (eqb (at tb r Field.kind) 5)
        (λ y. let (n, b, q) = node_row_lem tb g r h (eqb-true (at tb r Field.kind) 5 y) in (n, b, q, λ p. contra e (fine n b q p)))
        (λ y. contra (rw y at e) refl),
    λ w. let (n, b, q, f) = w in case_b (unreachable tb r) (λ y. y)
        (λ y. absurd (f ((unreachable_iff tb g n b).0 (rw q at y)))),
  )
    where
      fine : (n : ℕ) → n < nodes tb → r ≡ node_row tb + n → Reachable tb n → unreachable tb r ≡ false
      fine n b q p = rw q ((unreachable_iff tb g n b).1 p)

  -- ---- ground 6

  lacks : (n k : ℕ) → n < nodes tb → k < 16 → may_lack tb n k ≡ true → ¬ SurelyWritten tb n k
  lacks n k h l e s = contra e ((written_iff tb (edges tb g) n k h l).1 s)

  call_reads : (n : ℕ) → n < nodes tb → reads_unwritten tb (node_row tb + n) ≡ true → (k : ℕ) × CallReads tb n k × (¬ SurelyWritten tb n k)
  unfolding reads_unwritten row_written call_written argument_written
  call_reads n h e =
      let r = node_row tb + n in
      let m : r - node_row tb ≡ n = omega arith in
      let f : call_written tb r n ≡ false = not-true (call_written tb r n) (rw (node_kind_lem tb g n h, m) at e) in
      case_b (eqb (at tb r Field.node_kind) 2)
      (λ y. let c = eqb-true (at tb r Field.node_kind) 2 y in
      let (j, z, w) = every_fails (argument_written tb r n) (parameters tb (at tb r Field.callee)) (rw y at f) in
      (at tb r (Field.arguments + j), (j, c, z, refl), lacks n (at tb r (Field.arguments + j)) h (argument_slot tb g n j h c z) (not-false _ w)))
      (λ y. contra refl (rw y at f))

  branch_reads : (n i : ℕ) → n < nodes tb → i < branch_count tb n → reads_unwritten tb (row_of tb n i) ≡ true
      → (k : ℕ) × BranchReads tb (row_of tb n i) k × (¬ SurelyWritten tb n k)
  unfolding reads_unwritten row_written operand_written
  branch_reads n i h l e =
      let r = row_of tb n i in
      let x = start tb Branches n + i in
      let m : r - branch_row tb ≡ x = omega arith in
      let f : every (operand_written tb r n) 5 ≡ false = not-true _ (rw (branch_kind tb g x (branch_below tb g n i h l), m, node_of_lem tb g n i h l) at e) in
      let (j, z, w) = every_fails (operand_written tb r n) 5 f in
      let b = not-false _ w in
      let u : reads (operand_role tb r j) ≡ true = and_left _ _ b in
      (operand tb r j, (j, z, u, refl), lacks n (operand tb r j) h (operand_slot tb g n i h l j z (reads_named _ u)) (and_right (reads (operand_role tb r j)) _ b))

  pub unwritten_says : (r : ℕ) → r < line_total tb → Says (reads_unwritten tb r) (ReadsUnwritten tb r)
  unfolding reads_unwritten row_written
  unwritten_says r h = (
    λ e. case_b (eqb (at tb r Field.kind) 5)
        (λ y. let (n, b, q) = node_row_lem tb g r h (eqb-true (at tb r Field.kind) 5 y) in inl (n, b, q, call_reads n b (rw q at e)))
        (λ y. case_b (eqb (at tb r Field.kind) 6)
        (λ z. let (n, i, b, l, q) = branch_row_of tb g r h (eqb-true (at tb r Field.kind) 6 z) in inr (n, i, b, l, q, own n i b l q e))
        (λ z. contra (rw (y, z) at e) refl)),
    λ w. case_b (reads_unwritten tb r) (λ y. y) (λ y. absurd (⊎_elim
        (λ a. let (n, b, q, s) = a in s.2 ((call_iff tb g n b).0 (rw q at y) s.0 s.1))
        (λ a. let (n, i, b, l, q, s) = a in other n i b l q s.0 s.1 s.2 y) w)),
  )
    where
      own : (n i : ℕ) → n < nodes tb → i < branch_count tb n → r ≡ row_of tb n i → reads_unwritten tb r ≡ true → (k : ℕ) × BranchReads tb r k × (¬ SurelyWritten tb n k)
      own n i b l q e = rw q (branch_reads n i b l (rw q at e))

      other : (n i : ℕ) → n < nodes tb → i < branch_count tb n → r ≡ row_of tb n i → (k : ℕ) → BranchReads tb r k → ¬ SurelyWritten tb n k → reads_unwritten tb r ≡ false → ⊥
      other n i b l q k s f y = f ((branch_iff tb g n i b l).0 (rw q at y) k (rw q at s))
