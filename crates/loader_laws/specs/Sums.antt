-- The sums of ground 3. Over whole numbers they say that the sizes add up to the header's count; where the sizes are small, that the blocks of
-- a part hold just its lines. Assumes nothing.
use Rattle.std.specs.Prelude.{ℕ, zero, suc, ◌+◌, ◌-◌, ◌<◌, ◌≡◌, ◌↔◌, true, ltb, ℤ, ◌+ℤ◌, ◌-ℤ◌}
use native.Mathlib.Omega.{arith}
use Rattle.std.proofs.Math.Path.{sym, ap}
use Rattle.std.proofs.Common.{◌∙◌}
use Rattle.std.proofs.Math.IntN.{pos, nat_abs, +ℤ_assoc, +ℤ_comm, +ℤ-neg_ℤ_cancel}
use mir.Syntax.{w16}
use mir.Val.{to_z}
use borrow.Author.Tests.{ltb-false, lt-ltb, le-ltb, eqb-true, eq-eqb}
use Rattle.numbers.specs.Search.{sum_to}
use Rattle.numbers.specs.Search.Laws.{case_b, sum_none, sum_suc}
use Rattle.table.specs.Table.{Table}
use Rattle.table.specs.Layout.{blocks, lines, size}
use Rattle.table.specs.Form.{gain, loss, gain_of, loss_of, sum_agrees}
use Rattle.table.specs.declared.Part.{Part}
use Rattle.loader_laws.specs.Blocks.{Filled}
use Rattle.table.specs.Layout.Laws.{start_sum}

-- the sum of f over the numbers below n, as whole numbers
unfoldable pub sum_z : (ℕ → ℤ) → ℕ → ℤ
sum_z f zero = pos 0
sum_z f (suc n) = sum_z f n +ℤ f n

pub sum_cong : (f g : ℕ → ℕ) (n : ℕ) → ((i : ℕ) → i < n → f i ≡ g i) → sum_to f n ≡ sum_to g n
sum_cong f g zero h = sum_none f ∙ sym (sum_none g)
sum_cong f g (suc n) h = omega (arith, sum_suc f n, sum_suc g n, sum_cong f g n (λ i l. h i (omega arith)), h n (omega arith))

pub sum_zero : (f : ℕ → ℕ) (n : ℕ) → ((i : ℕ) → i < n → f i ≡ 0) → sum_to f n ≡ 0
sum_zero f zero h = sum_none f
sum_zero f (suc n) h = omega (arith, sum_suc f n, sum_zero f n (λ i l. h i (omega arith)), h n (omega arith))

-- ---- a size is what it gains, less what it loses

pub gain_small : (v : ℕ) → v < 32768 → gain v ≡ v
unfolding gain
gain_small v h = rw (lt-ltb v 32768 h)

pub loss_small : (v : ℕ) → v < 32768 → loss v ≡ 0
unfolding loss
loss_small v h = rw (lt-ltb v 32768 h)

pub signed_parts : (v : ℕ) → v < 65536 → to_z w16 v +ℤ pos (loss v) ≡ pos (gain v)
unfolding gain loss
signed_parts v h = case_b (ltb v 32768)
    (λ y. rw y (ap pos (let e : v + 0 ≡ v = omega arith in e)))
    (λ y. rw (y, le-ltb (65536 - v) (suc (65536 - suc v)) (omega (arith, ltb-false v 32768 y))) (ap pos (omega (arith, ltb-false v 32768 y))))

-- ---- sums of them

swapped : (a b c d : ℤ) → (a +ℤ b) +ℤ (c +ℤ d) ≡ (a +ℤ c) +ℤ (b +ℤ d)
swapped a b c d =
    +ℤ_assoc a b (c +ℤ d) ∙ ap (λ z. a +ℤ z) (sym (+ℤ_assoc b c d) ∙ ap (λ z. z +ℤ d) (+ℤ_comm b c) ∙ +ℤ_assoc c b d) ∙ sym (+ℤ_assoc a c (b +ℤ d))

pub sum_parts : (f : ℕ → ℕ) (n : ℕ) → ((i : ℕ) → i < n → f i < 65536) → sum_z (λ i. to_z w16 (f i)) n +ℤ pos (sum_to (λ i. loss (f i)) n) ≡ pos (sum_to (λ i. gain (f i)) n)
unfolding sum_z
sum_parts f zero h = rw (sum_none (λ i. loss (f i)), sum_none (λ i. gain (f i)))
sum_parts f (suc n) h =
    rw (sum_suc (λ i. loss (f i)) n, sum_suc (λ i. gain (f i)) n)
    (swapped (sum_z (λ i. to_z w16 (f i)) n) (to_z w16 (f n)) (pos (sum_to (λ i. loss (f i)) n)) (pos (loss (f n)))
    ∙ rw (sum_parts f n (λ i l. h i (omega arith)), signed_parts (f n) (h n (omega arith))))

module _ (tb : Table) (p : Part) where
  -- the test of the sums is the whole-number sum
  pub sum_iff : ((i : ℕ) → i < blocks tb p → size tb p i < 65536) → (sum_agrees tb p ≡ true) ↔ (sum_z (λ i. to_z w16 (size tb p i)) (blocks tb p) ≡ pos (lines tb p))
  unfolding sum_agrees gain_of loss_of
  sum_iff h =
      let n = blocks tb p in
      let s = sum_z (λ i. to_z w16 (size tb p i)) n in
      let gains = sum_to (gain_of tb p) n in
      let losses = sum_to (loss_of tb p) n in
      let e : s +ℤ pos losses ≡ pos gains = sum_parts (size tb p) n h in (
        λ t. sym (+ℤ-neg_ℤ_cancel s (pos losses)) ∙ ap (λ z. z -ℤ pos losses) (e ∙ ap pos (eqb-true gains (lines tb p + losses) t)) ∙ +ℤ-neg_ℤ_cancel (pos (lines tb p)) (pos losses),
        λ q. eq-eqb gains (lines tb p + losses) (ap nat_abs (sym e ∙ ap (λ z. z +ℤ pos losses) q)),
      )

  -- small sizes that agree with the header fill their part
  pub sums_fill : ((i : ℕ) → i < blocks tb p → size tb p i < 32768) → sum_agrees tb p ≡ true → Filled tb p
  unfolding sum_agrees gain_of loss_of
  sums_fill h t =
      let n = blocks tb p in
      omega (
        arith,
        start_sum tb p n (omega arith),
        eqb-true (sum_to (gain_of tb p) n) (lines tb p + sum_to (loss_of tb p) n) t,
        sum_cong (gain_of tb p) (size tb p) n (λ i l. gain_small (size tb p i) (h i l)),
        sum_zero (loss_of tb p) n (λ i l. loss_small (size tb p i) (h i l)),
      )
