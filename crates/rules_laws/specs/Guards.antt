-- The guards of branches from inside: what counts as true is the guard as the file has it, and that what the branch assigns fits. Assumes nothing.
use Rattle.std.specs.Prelude.{ℕ, ◌<◌, ◌≡◌, true, List, ltb, eqb, ℤ, ◌+ℤ◌, ◌-ℤ◌, None, Option, Some}
use Rattle.std.proofs.Common.{arith}
use mir.Syntax.{w32}
use mir.Val.{Fits, SFits, to_z, of_z}
use Rattle.std.proofs.Math.Facts.{sfits_to_z}
use Rattle.numbers.specs.Rows.{at}
use Rattle.numbers.specs.Search.Laws.{case_b}
use Rattle.numbers.specs.Signed.{narrowed, widened}
use Rattle.numbers.specs.Signed.Laws.{narrowed_exact, exact_is, sum_below}
use Rattle.numbers.specs.Tests.{and_right}
use Rattle.table.specs.Fields as Field
use Rattle.table.specs.Table.{Table}
use Rattle.state.specs.State.{stands_at, slot_of}
use Rattle.rules.specs.Program.{checked_sum, checked_difference, fitting, branch_at, next_of, field_a, field_b, field_c, act_of, printed_guard, assigned, guard_holds}
use Rattle.rules.specs.Moves.{resumed, stored, stored_number, gone, gone_by}
use Rattle.rules.specs.declared.Act.{Act}
use Rattle.rules.specs.declared.Act.TheVariants.{Tau, Meeting, New, Spawn, Assignment}

-- a constant of a table is a number of 32 bits
widened_fits : (v : ℕ) → v < 65536 → Fits w32 (widened v)
unfolding widened
widened_fits v h = record { fits = case_b (ltb v 32768) (λ e. rw e (omega arith)) (λ e. rw e (sum_below v 4294901760)) }

narrowed_fit : (z w : ℤ) → narrowed z ≡ Some w → SFits w32 w
narrowed_fit z w e = let (q, f) = narrowed_exact z w e in rw q f

module _ (tb : Table) (r : ℕ) (row : List ℕ) where
  -- a branch whose guard counts as true, and which assigns, comes to a number
  number_assigned : guard_holds tb r row ≡ true → act_of tb r ≡ Assignment → (z : ℤ) × (assigned tb r row ≡ Some z)
  unfolding guard_holds fitting
  number_assigned e a = exact_is (assigned tb r row) (rw a at (and_right (printed_guard tb r row) (fitting (act_of tb r) (assigned tb r row)) e))

  -- and that number is one of 32 signed bits
  pub assigned_fits : field_b tb r < 65536 → (z : ℤ) → assigned tb r row ≡ Some z → SFits w32 z
  unfolding assigned checked_sum checked_difference
  assigned_fits h z e =
      case_b (eqb (at tb r Field.action) 5)
      (λ f. let q : Some (to_z w32 (widened (field_b tb r))) ≡ Some z = rw f at e in
      let p : to_z w32 (widened (field_b tb r)) ≡ z = cc in rw (← p) (sfits_to_z (widened_fits (field_b tb r) h)))
      (λ f. case_b (eqb (at tb r Field.action) 6)
      (λ j. narrowed_fit (to_z w32 (slot_of row (field_b tb r)) +ℤ to_z w32 (slot_of row (field_c tb r))) z (rw (f, j) at e))
      (λ j. narrowed_fit (to_z w32 (slot_of row (field_b tb r)) -ℤ to_z w32 (slot_of row (field_c tb r))) z (rw (f, j) at e)))

-- what holds of a thread's row that goes on, with any number stored in slot k or without, holds of the row after a tau or an assignment
module _ (P : List ℕ → Type 0) (row : List ℕ) (n k : ℕ) (went : P (resumed row n)) (wrote : (v : ℕ) → P (stored (resumed row n) k v)) where
  number_rows : (v : Option ℤ) → P (stored_number (resumed row n) k v)
  unfolding stored_number
  number_rows (Some z) = wrote (of_z w32 z)
  number_rows None = went

  pub gone_rows : (v : Option ℤ) (a : Act) → P (gone a row n k v)
  unfolding gone
  gone_rows v Tau = went
  gone_rows v (Meeting d) = went
  gone_rows v New = went
  gone_rows v Spawn = went
  gone_rows v Assignment = number_rows v

-- a thread's row after its branch i, an assignment that is taken: the number z stands in the slot
pub record Assigning (tb : Table) (row : List ℕ) (i : ℕ) : Type 0 where
  pub z : ℤ
  pub comes_to : assigned tb (branch_at tb (stands_at row) i) row ≡ Some z
  pub goes : gone_by tb row i ≡ stored (resumed row (next_of tb (stands_at row) (branch_at tb (stands_at row) i))) (field_a tb (branch_at tb (stands_at row) i)) (of_z w32 z)

pub assigning : (tb : Table) (row : List ℕ) (i : ℕ) → guard_holds tb (branch_at tb (stands_at row) i) row ≡ true
    → act_of tb (branch_at tb (stands_at row) i) ≡ Assignment → Assigning tb row i
unfolding gone_by gone stored_number
assigning tb row i p e =
    let (z, f) = number_assigned tb (branch_at tb (stands_at row) i) row p e in record {
      z = z;
      comes_to = f;
      goes = rw (e, f);
    }
