-- Where the blocks of a part start, and which block a line stands in. Assumes nothing.
use Prim.Native.Nat.{ℕ, zero, suc, ◌≤◌, ◌<◌}
use Rattle.std.proofs.Common.{arith, ◌∙◌}
use Rattle.std.specs.Prelude.{◌≡◌, false, ltb}
use borrow.Author.Tests.{le-ltb, le-leb, lt-leb, ltb-false}
use Rattle.numbers.specs.Search.{first, sum_to}
use Rattle.numbers.specs.Search.Laws.{case_b, first_below, first_le, sum_none}
use Rattle.table.specs.Table.{Table}
use Rattle.table.specs.Layout.{blocks, lines, size, start, owner, ends_past}
use Rattle.table.specs.declared.Part.{Part}

module _ (tb : Table) (p : Part) where
  pub start_sum : (i : ℕ) → i ≤ blocks tb p → start tb p i ≡ sum_to (size tb p) i
  unfolding start
  start_sum i h = rw (le-leb i (blocks tb p) h)

  pub start_none : start tb p 0 ≡ 0
  start_none = start_sum 0 (omega arith) ∙ sum_none (size tb p)

  pub start_out : (i : ℕ) → blocks tb p < i → start tb p i ≡ 0
  unfolding start
  start_out i h = rw (lt-leb i (blocks tb p) h)

  pub owner_past : (x : ℕ) → lines tb p ≤ x → owner tb p x ≡ 0
  unfolding owner
  owner_past x h = rw (le-ltb x (lines tb p) h)

  pub owner_le : (x : ℕ) → owner tb p x ≤ blocks tb p
  unfolding owner
  owner_le x = case_b (ltb x (lines tb p)) (λ t. rw t (first_le (ends_past tb p x) (blocks tb p))) (λ f. rw f (omega arith))

  -- a block whose forerunners have all ended by x starts no later than x
  pub starts_by : (x d : ℕ) → ((i : ℕ) → i < d → ends_past tb p x i ≡ false) → start tb p d ≤ x
  unfolding ends_past
  starts_by x zero h = omega (arith, start_none)
  starts_by x (suc d) h = ltb-false x (start tb p (suc d)) (h d (omega arith))

  pub start_owner : (x d : ℕ) → d ≡ owner tb p x → start tb p d ≤ x
  unfolding owner
  start_owner x d e = rw e
      (case_b (ltb x (lines tb p))
      (λ t. rw t (starts_by x (first (ends_past tb p x) (blocks tb p)) (first_below (ends_past tb p x) (blocks tb p))))
      (λ f. rw f (starts_by x 0 (λ i h. absurd (omega arith)))))
