-- The laws of `count`. Assumes nothing.
use Rattle.std.specs.Prelude.{◌≡◌, ℕ, zero, suc, ◌+◌, ◌<◌, ◌≤◌, Bool, true, false, ◌&&◌, List, [], ◌∷◌, length, get_or, set}
use native.Mathlib.Omega.{arith}
use Rattle.std.proofs.Math.Path.{sym, ap}
use Rattle.std.proofs.Common.{◌∙◌}
use Rattle.numbers.specs.Search.{sum_to}
use Rattle.numbers.specs.Search.Laws.{sum_none, sum_suc, case_b}
use Rattle.numbers.specs.Count.{bit, count}

pub bit_le : (b : Bool) → bit b ≤ 1
unfolding bit
bit_le true = omega arith
bit_le false = omega arith

pub bit_and_le : (a b : Bool) → bit (a && b) ≤ bit b
unfolding bit
bit_and_le true b = omega arith
bit_and_le false b = omega arith

module _ {ℓ} {A : Type ℓ} (p : A → Bool) where
  pub count_le : (xs : List A) → count p xs ≤ length xs
  unfolding count
  count_le [] = omega arith
  count_le (x ∷ xs) = omega (arith, count_le xs, bit_le (p x))

  -- what a count becomes when one element is replaced
  pub replaced : (xs : List A) (t : ℕ) (x d : A) → t < length xs → count p (set xs t x) + bit (p (get_or xs t d)) ≡ count p xs + bit (p x)
  unfolding count
  replaced [] t x d h = absurd (omega arith)
  replaced (y ∷ xs) zero x d h = omega arith
  replaced (y ∷ xs) (suc t) x d h = omega (arith, replaced xs t x d (omega arith))

  -- a count as a sum over the places
  sum_front : (f : ℕ → ℕ) (n : ℕ) → sum_to f (suc n) ≡ f 0 + sum_to (λ i. f (suc i)) n
  sum_front f zero = omega (arith, sum_suc f 0, sum_none f, sum_none (λ i. f (suc i)))
  sum_front f (suc n) = omega (arith, sum_front f n, sum_suc f (suc n), sum_suc (λ i. f (suc i)) n)

  pub count_index : (xs : List A) (d : A) → count p xs ≡ sum_to (λ i. bit (p (get_or xs i d))) (length xs)
  unfolding count
  count_index [] d = sym (sum_none (λ i. bit (p (get_or [] i d))))
  count_index (x ∷ xs) d =
      ap (λ n. bit (p x) + n) (count_index xs d) ∙ sym (sum_front (λ i. bit (p (get_or (x ∷ xs) i d))) (length xs))

  -- a count above 0 has an element that passes, and an element that passes makes the count
  pub count_some : (xs : List A) (d : A) → 0 < count p xs → (i : ℕ) × (i < length xs) × (p (get_or xs i d) ≡ true)
  unfolding count bit
  count_some [] d h = absurd (omega arith)
  count_some (x ∷ xs) d h = case_b (p x)
      (λ t. (0, omega arith, t))
      (λ f. let k : 0 < count p xs = omega (arith, rw f at h) in let (i, l, e) = count_some xs d k in (suc i, omega arith, e))

  pub count_pos : (xs : List A) (d : A) (i : ℕ) → i < length xs → p (get_or xs i d) ≡ true → 0 < count p xs
  unfolding count bit
  count_pos [] d i h e = absurd (omega arith)
  count_pos (x ∷ xs) d zero h e = rw e (omega arith)
  count_pos (x ∷ xs) d (suc i) h e = omega (arith, count_pos xs d i (omega arith) e)
