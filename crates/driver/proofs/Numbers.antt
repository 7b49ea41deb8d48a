-- Numbers of an answer, which come back by way of their patterns. Assumes nothing.
use Rattle.std.specs.Prelude.{◌≡◌, refl, ℤ, pos, negsuc, eqb}
use Rattle.std.proofs.Common.{SFits, to_z, of_z, arith, ne_eqb, sym}
use Rattle.std.specs.Int.{w32}
use Rattle.std.proofs.Math.Facts.{to_z-of_z}
use Rattle.guarantee.specs.InNumbers.{is_zero}

pub number_back : (z : ℤ) → SFits w32 z → to_z w32 (of_z w32 z) ≡ z
number_back z f = to_z-of_z f

-- 0 is the one number whose pattern is 0
pub zero_back : (z : ℤ) → SFits w32 z → is_zero z ≡ eqb (of_z w32 z) 0
unfolding is_zero
zero_back (pos n) f = refl
zero_back (negsuc n) f = sym (ne_eqb (of_z w32 (negsuc n)) 0 (λ e. omega (arith, f.sfits)))
