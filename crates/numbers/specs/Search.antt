-- Over the numbers below n: whether all pass a test, the first that does, a sum, a list. Their laws are in `Search/Laws.antt`; they stay shut
-- elsewhere, since they are long where they are written out, and `computing` opens them where an example is to compute.
pub mod Laws
pub mod Chains
use Rattle.std.specs.Prelude.{ℕ, zero, suc, ◌+◌, Bool, true, false, cond, List, [], ◌∷◌, nat_lt}

-- whether p holds of each number below n
pub every : (ℕ → Bool) → ℕ → Bool
every p zero = true
every p (suc n) = cond (every p n) (p n) false

-- the least k below n with p k, and n where there is none
pub first : (ℕ → Bool) → ℕ → ℕ
first p zero = zero
first p (suc n) = cond (nat_lt (first p n) n) (first p n) (cond (p n) n (suc n))

-- whether p holds of some number below n
unfoldable pub some : (ℕ → Bool) → ℕ → Bool
some p n = nat_lt (first p n) n

-- the sum of f over the numbers below n
pub sum_to : (ℕ → ℕ) → ℕ → ℕ
sum_to f zero = 0
sum_to f (suc n) = sum_to f n + f n

-- f i, f (i + 1), .., n of them
pub list_from {ℓ} : {A : Type ℓ} → ℕ → ℕ → (ℕ → A) → List A
list_from i zero f = []
list_from i (suc n) f = f i ∷ list_from (suc i) n f

-- f 0, f 1, .., n of them
pub tabulate {ℓ} : {A : Type ℓ} → ℕ → (ℕ → A) → List A
tabulate n f = list_from 0 n f

unfoldable pub computing : Unit {0}
unfolding every first sum_to list_from tabulate
computing = tt
