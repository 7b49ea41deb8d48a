-- How many elements of a list pass a test. The laws are in `Count/Laws.antt`.
pub mod Laws
use Rattle.std.specs.Prelude.{ℕ, ◌+◌, Bool, true, false, List, [], ◌∷◌}

-- 1 for a test that holds
unfoldable pub bit : Bool → ℕ
bit true = 1
bit false = 0

unfoldable pub count {ℓ} : {A : Type ℓ} → (A → Bool) → List A → ℕ
count p [] = 0
count p (x ∷ xs) = bit (p x) + count p xs
