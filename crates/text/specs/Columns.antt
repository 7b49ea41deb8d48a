-- The columns of a field, as the reader compares them one by one.
use Rattle.std.specs.Prelude.{ℕ, ◌+◌, ◌/◌, ◌%◌, Bool, false, cond, List, [], ◌∷◌, ltb, eqb}

-- six characters
abbrev pub six : ℕ → ℕ → ℕ → ℕ → ℕ → ℕ → List ℕ
six a b c d e f = a ∷ b ∷ c ∷ d ∷ e ∷ f ∷ []

-- a column: `here` is the size without the figures to the right of this column, and `right` the size without those to the right of the next column.
-- A figure where the size reaches the column, the minus just before the first figure, else a blank
unfoldable pub letter_of : Bool → ℕ → ℕ → ℕ
letter_of n here right = cond (ltb 0 here) (48 + here % 10) (cond n (cond (ltb 0 right) 45 32) 32)

-- the six columns of a size below 100000 and its sign
unfoldable pub columns : Bool → ℕ → List ℕ
columns n m = six (letter_of n (m / 100000) (m / 10000)) (letter_of n (m / 10000) (m / 1000)) (letter_of n (m / 1000) (m / 100)) (letter_of n (m / 100) (m / 10)) (letter_of n (m / 10) 1) (48 + m % 10)

-- whether there are only blanks before the last column
unfoldable pub blank_of : ℕ → ℕ → ℕ → ℕ → ℕ → Bool
blank_of a b c d e = cond (eqb e 32) (cond (eqb d 32) (cond (eqb c 32) (cond (eqb b 32) (eqb a 32) false) false) false) false
