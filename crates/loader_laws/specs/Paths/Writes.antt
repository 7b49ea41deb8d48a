-- The slot that the forward pass takes for written by a branch is just the one that the roles of its operands say is written. Assumes nothing.
use Prim.Native.Nat.{ℕ, zero, suc, ◌<◌}
use native.Mathlib.Omega.{arith}
use Rattle.std.specs.Prelude.{◌≡◌, refl, ◌⊎◌, ◌↔◌, true, ltb, eqb}
use Rattle.std.proofs.Common.{inl, inr}
use Rattle.std.proofs.Math.Logic.{⊎_elim}
use Rattle.std.proofs.Math.Bool.{false}
use Rattle.numbers.specs.Search.Laws.{case_b, contra}
use Rattle.table.specs.Table.{Table}
use Rattle.table.specs.Roles.{guard_role, action_role, operand, operand_role, writes}
use Rattle.flow.specs.Flow.{gap_count, slot_written}
use Rattle.loader_laws.specs.Paths.{BranchWrites}

-- a guard writes nothing
guard_writes : (g k : ℕ) → writes (guard_role g k) ≡ false
unfolding guard_role writes
guard_writes g k =
    case_b (eqb g 0) (λ y. rw y)
    (λ y. case_b (ltb g 3) (λ z. case_b (eqb k 0) (λ x. rw (y, z, x)) (λ x. rw (y, z, x))) (λ z. rw (y, z)))

-- an action does not write both a and b
one_written : (a : ℕ) → (writes (action_role a 0) ≡ false) ⊎ (writes (action_role a 1) ≡ false)
unfolding action_role writes
one_written a =
    case_b (eqb a 1) (λ y. rw y (inl refl))
    (λ y. case_b (eqb a 2) (λ z. rw (y, z) (inl refl))
    (λ z. case_b (eqb a 3) (λ x. rw (y, z, x) (inr refl))
    (λ x. case_b (eqb a 5) (λ w. rw (y, z, x, w) (inr refl))
    (λ w. case_b (ltb 5 a) (λ v. rw (y, z, x, w, v) (inr refl)) (λ v. rw (y, z, x, w, v) (inl refl))))))

-- an action never writes c
third_unwritten : (a : ℕ) → writes (action_role a 2) ≡ false
unfolding action_role writes
third_unwritten a =
    case_b (eqb a 1) (λ y. rw y)
    (λ y. case_b (eqb a 2) (λ z. rw (y, z))
    (λ z. case_b (eqb a 3) (λ x. rw (y, z, x))
    (λ x. case_b (eqb a 5) (λ w. rw (y, z, x, w))
    (λ w. case_b (ltb 5 a) (λ v. rw (y, z, x, w, v)) (λ v. rw (y, z, x, w, v))))))

module _ (tb : Table) (r k : ℕ) where
  written_slot : (j : ℕ) → j < 5 → writes (operand_role tb r j) ≡ true → k ≡ operand tb r j → k ≡ slot_written tb r
  unfolding operand_role slot_written
  written_slot zero h w q = contra w (guard_writes _ 0)
  written_slot (suc zero) h w q = contra w (guard_writes _ 1)
  written_slot (suc (suc zero)) h w q = rw w q
  written_slot (suc (suc (suc zero))) h w q = ⊎_elim (λ z. let a : writes (operand_role tb r 2) ≡ false = z in rw (a, w) q) (λ z. contra w z) (one_written _)
  written_slot (suc (suc (suc (suc zero)))) h w q = contra w (third_unwritten _)
  written_slot (suc (suc (suc (suc (suc j))))) h w q = absurd (let z : ⊥ = omega arith in z)

  -- below 17, which stands for no slot
  pub writes_iff : k < gap_count → (k ≡ slot_written tb r) ↔ BranchWrites tb r k
  unfolding slot_written
  writes_iff h = (
    λ e. case_b (writes (operand_role tb r 2))
        (λ y. (2, omega arith, y, rw y at e))
        (λ y. case_b (writes (operand_role tb r 3))
        (λ z. (3, omega arith, z, rw (y, z) at e))
        (λ z. absurd (let q : k ≡ 17 = rw (y, z) at e in let x : ⊥ = omega arith in x))),
    λ s. let (j, l, w, q) = s in written_slot j l w q,
  )
