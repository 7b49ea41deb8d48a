-- Signed numbers. Tables and states keep a number as its pattern of 16 or 32 bits in two's complement, which is a natural number; `to_z` turns the
-- pattern into the whole number. A test that a pattern lies between 0 and a small limit also keeps out every negative number: those have large patterns.
pub mod Laws
use Rattle.std.specs.Prelude.{ℕ, ◌+◌, ◌-◌, ◌%◌, Bool, true, false, cond, ◌&&◌, ℤ, pos, negsuc, int_le, int_lt, nat_lt, None, Option, Some}
use Rattle.std.specs.Int.{w32}
use Rattle.std.proofs.Common.{to_z}

-- z lies from -2147483648 to 2147483647, the numbers of 32 signed bits (`negsuc n` is -(n + 1))
unfoldable pub in_range : ℤ → Bool
in_range z = int_le (negsuc 2147483647) z && int_le z (pos 2147483647)

-- the whole number z, if it fits into 32 signed bits
unfoldable pub narrowed : ℤ → Option ℤ
narrowed z = cond (in_range z) (Some z) None

unfoldable pub is_exact : Option ℤ → Bool
is_exact (Some z) = true
is_exact None = false

-- of patterns of 32 bits: whether the number of x is below that of y
unfoldable pub lower : ℕ → ℕ → Bool
lower x y = int_lt (to_z w32 x) (to_z w32 y)

-- the patterns of the sum and of the difference, taken back into range
unfoldable pub sum : ℕ → ℕ → ℕ
sum x y = (x + y) % 4294967296

unfoldable pub difference : ℕ → ℕ → ℕ
difference x y = (x + (4294967296 - y)) % 4294967296

-- the 32-bit pattern of the number whose 16-bit pattern is v
unfoldable pub widened : ℕ → ℕ
widened v = cond (nat_lt v 32768) v (sum v 4294901760)
