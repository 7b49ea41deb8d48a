-- What is printed is bytes. Assumes nothing.
use Rattle.std.specs.Prelude.{ℕ, zero, suc, ◌+◌, ◌-◌, ◌/◌, ◌%◌, ◌<◌, ◌≤◌, Bool, true, false, List, [], ◌∷◌, ◌++◌, map, ltb, length, get_or, replicate}
use Rattle.std.proofs.Common.{arith, ltb-true, ltb-false}
use Rattle.numbers.specs.Bytes.{joined}
use Rattle.numbers.specs.Search.Laws.{case_b}
use Rattle.text.specs.Text.{figures_by, figures, negative, size, signed, numeral, right_justified, text, line_text, file_text}

-- a list of numbers below 256, as the bytes of a slice stand in a proof
abbrev pub Characters : List ℕ → Type 0
Characters l = (i : ℕ) → get_or l i 0 < 256

one : (c : ℕ) → c < 256 → Characters (c ∷ [])
one c h zero = h
one c h (suc i) = omega arith

both : (a b : List ℕ) → Characters a → Characters b → Characters (a ++ b)
both [] b f g i = g i
both (x ∷ a) b f g zero = f 0
both (x ∷ a) b f g (suc i) = both a b (λ k. f (suc k)) g i

blanks : (n : ℕ) → Characters (replicate n 32)
blanks zero i = omega arith
blanks (suc n) zero = omega arith
blanks (suc n) (suc i) = blanks n i

pieces : {A : Type 0} (f : A → List ℕ) → ((a : A) → Characters (f a)) → (l : List A) → Characters (joined (map f l))
unfolding joined
pieces f h [] i = omega arith
pieces f h (a ∷ l) i = both (f a) (joined (map f l)) (h a) (pieces f h l) i

figures_fit : (k n : ℕ) → n ≤ k → Characters (figures_by k n)
unfolding figures_by
figures_fit zero n h i = one (48 + n) (omega arith) i
figures_fit (suc k) n h i = case_b (ltb n 10)
    (λ t. rw t (one (48 + n) (omega (arith, ltb-true n 10 t)) i))
    (λ f. rw f (both (figures_by k (n / 10)) ((48 + n % 10) ∷ []) (figures_fit k (n / 10) (omega (arith, ltb-false n 10 f))) (one (48 + n % 10) (omega arith)) i))

signed_fit : (n : Bool) (s : List ℕ) → Characters s → Characters (signed n s)
signed_fit true s h i = both (45 ∷ []) s (one 45 (omega arith)) h i
signed_fit false s h i = h i

text_fits : (v : ℕ) → Characters (text v)
unfolding text right_justified numeral figures
text_fits v =
    both (replicate (6 - length (numeral v)) 32) (numeral v) (blanks (6 - length (numeral v)))
    (signed_fit (negative v) (figures (size v)) (figures_fit (size v) (size v) (omega arith)))

line_fits : (row : List ℕ) → Characters (line_text row)
unfolding line_text
line_fits row = both (joined (map text row)) (10 ∷ []) (pieces text text_fits row) (one 10 (omega arith))

pub file_fits : (rs : List (List ℕ)) → Characters (file_text rs)
unfolding file_text
file_fits rs = pieces line_text line_fits rs
