-- Numbers joined bit by bit: they are 0 exactly when each is. Assumes nothing.
use Rattle.std.specs.Prelude.{◌≡◌, ℕ, zero, suc, ◌+◌, ◌<◌, ◌≤◌, ◌==◌, bit_or, nat_eq, nat_lt}
use Rattle.std.proofs.Common.{arith}
use Rattle.std.proofs.Math.Numerals.{add-one}
use Rattle.std.proofs.Math.Path.{refl}
use Rattle.std.specs.Int.Bits.{or_add_and, or_zero_l}
use Rattle.std.proofs.lemmas.Nat.{and_le_l, and_le_r}
use borrow.Author.Tests.{ltb-true, ltb-false, eq-eqb, eqb-true}
use Rattle.numbers.specs.Search.{every}
use Rattle.numbers.specs.Search.Laws.{case_b, same_truth, every_elim, every_intro}

-- the bits that one of f 0, .., f (n - 1) has
unfoldable pub bits_of : (ℕ → ℕ) → ℕ → ℕ
bits_of f zero = 0
bits_of f (suc n) = bit_or (bits_of f n) (f n)

-- two numbers joined are 0 exactly when both are
or_left : (x y : ℕ) → bit_or x y ≡ 0 → x ≡ 0
or_left x y e = omega (arith, or_add_and x y, and_le_r x y)

or_right : (x y : ℕ) → bit_or x y ≡ 0 → y ≡ 0
or_right x y e = omega (arith, or_add_and x y, and_le_l x y)

module _ (f : ℕ → ℕ) where
  pub no_bits : (n i : ℕ) → bits_of f n ≡ 0 → i < n → f i ≡ 0
  unfolding bits_of
  no_bits zero i e h = absurd (omega arith)
  no_bits (suc n) i e h = case_b (nat_lt i n)
      (λ t. no_bits n i (or_left (bits_of f n) (f n) e) (ltb-true i n t))
      (λ g. let q : i ≡ n = omega (arith, ltb-false i n g) in rw q (or_right (bits_of f n) (f n) e))

  pub bits_none : (n : ℕ) → ((i : ℕ) → i < n → f i ≡ 0) → bits_of f n ≡ 0
  unfolding bits_of
  bits_none zero h = refl
  bits_none (suc n) h = rw (bits_none n (λ i l. h i (omega arith)), h n (omega arith)) (or_zero_l 0)

  -- ---- a loop that joins them

  pub joined_none : 0 ≡ bits_of f 0
  unfolding bits_of
  joined_none = refl

  pub joined_more : (i s v : ℕ) → s ≡ bits_of f i → v ≡ f i → bit_or s v ≡ bits_of f (i + 1)
  unfolding bits_of
  joined_more i s v e g = rw (e, g, add-one i)

  pub joined_all : (i n s : ℕ) → s ≡ bits_of f i → i ≤ n → n ≤ i → (s == 0) ≡ every (λ k. nat_eq (f k) 0) n
  joined_all i n s e h l =
      let q : i ≡ n = omega arith in
      rw (e, q)
      (same_truth (bits_of f n == 0) (every (λ k. nat_eq (f k) 0) n)
      (λ t. every_intro (λ k. nat_eq (f k) 0) n (λ k j. eq-eqb (f k) 0 (no_bits n k (eqb-true (bits_of f n) 0 t) j)))
      (λ t. eq-eqb (bits_of f n) 0 (bits_none n (λ k j. eqb-true (f k) 0 (every_elim (λ k. nat_eq (f k) 0) n k t j)))))
