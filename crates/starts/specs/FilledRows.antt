-- A list that is filled from the front.
pub mod Laws
use Rattle.std.specs.Prelude.{ℕ, zero, suc, List, set}

-- a list with its first n entries replaced by the values of f
unfoldable pub filled_to {ℓ} : {A : Type ℓ} → (ℕ → A) → List A → ℕ → List A
filled_to f l zero = l
filled_to f l (suc n) = set (filled_to f l n) n (f n)
