-- The laws of numbers and their patterns. Assumes nothing.
use Rattle.std.specs.Prelude.{◌≡◌, ℕ, ◌+◌, ◌-◌, ◌%◌, ◌<◌, ◌≤◌, true, ℤ, pos, negsuc, FitsSigned, nat_le, refl, None, Option, Some}
use Rattle.std.proofs.Common.{arith, sym, ◌∙◌, ap, Fits, to_z, le-ltb, lt-ltb, le-leb, leb-true}
use Rattle.std.proofs.Math.Decide.{dec_lt}
use Rattle.std.specs.Int.{w16, w32}
use Rattle.numbers.specs.Search.Laws.{case_b}
use Rattle.numbers.specs.Signed.{in_range, narrowed, is_exact, sum, difference, widened}
use Rattle.numbers.specs.Tests.{clash, and_left}

-- a pattern whose highest bit is set is that of a negative number
pub to_z_high : (x : ℕ) → 2147483648 ≤ x → x < 4294967296 → to_z w32 x ≡ negsuc (4294967295 - x)
to_z_high x h f = rw (le-ltb x 2147483648 h) (ap negsuc (omega arith))

-- ---- numbers of 32 signed bits

range_fits : (z : ℤ) → in_range z ≡ true → FitsSigned w32 z
unfolding in_range
range_fits (pos n) e = record { sfits = omega (arith, leb-true n 2147483647 e) }
range_fits (negsuc n) e = record { sfits = omega (arith, leb-true n 2147483647 (and_left (nat_le n 2147483647) true e)) }

fits_range : (z : ℤ) → FitsSigned w32 z → in_range z ≡ true
unfolding in_range
fits_range (pos n) f = le-leb n 2147483647 (omega arith)
fits_range (negsuc n) f = rw (le-leb n 2147483647 (omega arith))

-- what fits is exact
pub narrowed_fits : (z : ℤ) → FitsSigned w32 z → narrowed z ≡ Some z
unfolding narrowed
narrowed_fits z f = rw (fits_range z f)

-- what is exact is the number itself, and fits
pub narrowed_exact : (z w : ℤ) → narrowed z ≡ Some w → (w ≡ z) × FitsSigned w32 z
unfolding narrowed
narrowed_exact z w e =
    case_b (in_range z)
    (λ y. (let q : Some z ≡ Some w = rw y at e in cc, range_fits z y))
    (λ n. clash (let q : None ≡ Some w = rw n at e in cc))

-- what overflows does not fit
pub narrowed_overflow : (z : ℤ) → narrowed z ≡ None → FitsSigned w32 z → ⊥
narrowed_overflow z e f = clash (let q : None ≡ Some z = sym e ∙ narrowed_fits z f in cc)

-- ---- what a sum or difference comes to

pub exact_is : (v : Option ℤ) → is_exact v ≡ true → (z : ℤ) × (v ≡ Some z)
unfolding is_exact
exact_is (Some z) e = (z, refl)
exact_is None e = clash cc

-- ---- patterns

pub sum_below : (x y : ℕ) → sum x y < 4294967296
unfolding sum
sum_below x y = omega arith

-- what is subtracted and added again changes nothing
pub difference_is : (x y r : ℕ) → Fits w32 y → Fits w32 r → (r + y) % 4294967296 ≡ x → r ≡ difference x y
unfolding difference
difference_is x y r f g e = omega arith

-- widening keeps the number
pub widened_number : (v : ℕ) → v < 65536 → to_z w32 (widened v) ≡ to_z w16 v
unfolding widened sum
widened_number v f = go (dec_lt v 32768)
  where
    go : Dec (v < 32768) → to_z w32 (widened v) ≡ to_z w16 v
    go (yes h) = rw (lt-ltb v 32768 h, lt-ltb v 2147483648 (omega arith))
    go (no h) = rw (le-ltb v 32768 (omega arith), le-ltb ((v + 4294901760) % 4294967296) 2147483648 (omega arith)) (ap negsuc (omega arith))
