-- The columns that the reader compares are the printed form; so what it accepts is a text, and what it refuses is none. Assumes nothing.
use Rattle.std.specs.Prelude.{None, Option, Some}
use Prim.Native.Nat.{ℕ, ◌+◌, ◌-◌, ◌*◌, ◌/◌, ◌%◌, ◌<◌, ◌≤◌}
use native.Mathlib.Omega.{arith}
use native.Mathlib.Decide.{dec_lt}
use native.Mathlib.Nat.{div-eq_of_lt}
use mathlib.Core.Path.{◌≡◌, refl, sym, ◌∙◌, ap}
use mathlib.Core.Bool.{Bool, true, false, cond}
use mathlib.Core.List.{List, [], ◌∷◌}
use lib.Dec.{ltb, eqb}
use lib.ListN.{length, get_or}
use lib.Seq.{sets, sets-eq, drop-drop}
use borrow.Rule.Slice.PartMut.{put_mid}
use Rattle.std.proofs.Common.{nat_eq, append_assoc}
use Rattle.std.specs.List.{list_any}
use lib.Pointwise.{pointwise}
use Rattle.std.specs.Cmp.Lexicographic.{same_text, other_text}
use borrow.Author.Tests.{lt-ltb, le-ltb, ltb-true, ltb-false, eqb-true}
use Rattle.numbers.specs.Search.Laws.{case_b, contra}
use Rattle.text.specs.Text.{figures, negative, size, signed, numeral, right_justified, text, figure_of, size_from, has_minus, read_number}
use Rattle.text.specs.Columns.{six, letter_of, columns, blank_of}
use Rattle.text.specs.Text.Laws.{figures_one, figures_more, size_text, minus_text, text_reads, wrong_reads}

-- ---- the columns of a number

figures_two : (m : ℕ) → 10 ≤ m → m < 100 → figures m ≡ (48 + m / 10 % 10) ∷ (48 + m % 10) ∷ []
figures_two m h l = rw (figures_more m h, figures_one (m / 10) (omega arith))

figures_three : (m : ℕ) → 100 ≤ m → m < 1000 → figures m ≡ (48 + m / 100 % 10) ∷ (48 + m / 10 % 10) ∷ (48 + m % 10) ∷ []
figures_three m h l =
    let e : m / 10 / 10 ≡ m / 100 = omega arith in
    rw (figures_more m (omega arith), figures_two (m / 10) (omega arith) (omega arith), e)

figures_four : (m : ℕ) → 1000 ≤ m → m < 10000 → figures m ≡ (48 + m / 1000 % 10) ∷ (48 + m / 100 % 10) ∷ (48 + m / 10 % 10) ∷ (48 + m % 10) ∷ []
figures_four m h l =
    let e : m / 10 / 10 ≡ m / 100 = omega arith in
    let f : m / 10 / 100 ≡ m / 1000 = omega arith in
    rw (figures_more m (omega arith), figures_three (m / 10) (omega arith) (omega arith), e, f)

figures_five : (m : ℕ) → 10000 ≤ m → m < 100000
    → figures m ≡ (48 + m / 10000 % 10) ∷ (48 + m / 1000 % 10) ∷ (48 + m / 100 % 10) ∷ (48 + m / 10 % 10) ∷ (48 + m % 10) ∷ []
figures_five m h l =
    let e : m / 10 / 10 ≡ m / 100 = omega arith in
    let f : m / 10 / 100 ≡ m / 1000 = omega arith in
    let g : m / 10 / 1000 ≡ m / 10000 = omega arith in
    rw (figures_more m (omega arith), figures_four (m / 10) (omega arith) (omega arith), e, f, g)

-- from one to five characters, with a minus before them or none
one_justified : (n : Bool) (a : ℕ) → right_justified 6 (signed n (a ∷ [])) ≡ six (cond n 32 32) (cond n 32 32) (cond n 32 32) (cond n 32 32) (cond n 45 32) a
unfolding right_justified
one_justified true a = refl
one_justified false a = refl

two_justified : (n : Bool) (a b : ℕ) → right_justified 6 (signed n (a ∷ b ∷ [])) ≡ six (cond n 32 32) (cond n 32 32) (cond n 32 32) (cond n 45 32) a b
unfolding right_justified
two_justified true a b = refl
two_justified false a b = refl

three_justified : (n : Bool) (a b c : ℕ) → right_justified 6 (signed n (a ∷ b ∷ c ∷ [])) ≡ six (cond n 32 32) (cond n 32 32) (cond n 45 32) a b c
unfolding right_justified
three_justified true a b c = refl
three_justified false a b c = refl

four_justified : (n : Bool) (a b c d : ℕ) → right_justified 6 (signed n (a ∷ b ∷ c ∷ d ∷ [])) ≡ six (cond n 32 32) (cond n 45 32) a b c d
unfolding right_justified
four_justified true a b c d = refl
four_justified false a b c d = refl

five_justified : (n : Bool) (a b c d e : ℕ) → right_justified 6 (signed n (a ∷ b ∷ c ∷ d ∷ e ∷ [])) ≡ six (cond n 45 32) a b c d e
unfolding right_justified
five_justified true a b c d e = refl
five_justified false a b c d e = refl

-- both forms, by the count of figures
columns_are : (n : Bool) (m : ℕ) → m < 100000 → right_justified 6 (signed n (figures m)) ≡ columns n m
unfolding columns letter_of
columns_are n m h = go (dec_lt m 10) (dec_lt m 100) (dec_lt m 1000) (dec_lt m 10000)
  where
    ends : (p : ℕ) → m < p → m / p ≡ 0
    ends p l = div-eq_of_lt l

    reaches : (p : ℕ) → 0 < m / p → ltb 0 (m / p) ≡ true
    reaches p l = lt-ltb 0 (m / p) l

    go : Dec (m < 10) → Dec (m < 100) → Dec (m < 1000) → Dec (m < 10000) → right_justified 6 (signed n (figures m)) ≡ columns n m
    go (yes i) j k l = rw (figures_one m i, ends 10 (omega arith), ends 100 (omega arith), ends 1000 (omega arith), ends 10000 (omega arith), ends 100000 (omega arith)) (one_justified n _)
    go (no i) (yes j) k l = rw (figures_two m (omega arith) j, reaches 10 (omega arith), ends 100 (omega arith), ends 1000 (omega arith), ends 10000 (omega arith), ends 100000 (omega arith)) (two_justified n _ _)
    go (no i) (no j) (yes k) l = rw (figures_three m (omega arith) k, reaches 10 (omega arith), reaches 100 (omega arith), ends 1000 (omega arith), ends 10000 (omega arith), ends 100000 (omega arith)) (three_justified n _ _ _)
    go (no i) (no j) (no k) (yes l) = rw (figures_four m (omega arith) l, reaches 10 (omega arith), reaches 100 (omega arith), reaches 1000 (omega arith), ends 10000 (omega arith), ends 100000 (omega arith)) (four_justified n _ _ _ _)
    go (no i) (no j) (no k) (no l) = rw (figures_five m (omega arith) h, reaches 10 (omega arith), reaches 100 (omega arith), reaches 1000 (omega arith), reaches 10000 (omega arith), ends 100000 (omega arith)) (five_justified n _ _ _ _ _)

text_neg : (v : ℕ) → 32767 < v → text v ≡ columns true (65536 - v)
unfolding text numeral
text_neg v h = rw (lt-ltb 32767 v h) (columns_are true (65536 - v) (omega arith))

text_pos : (v : ℕ) → v ≤ 32767 → text v ≡ columns false v
unfolding text numeral
text_pos v h = rw (le-ltb 32767 v h) (columns_are false v (omega arith))

-- ---- the tests of columns

-- whether a minus is among the columns
abbrev minus_in : List ℕ → Bool
minus_in s = list_any (λ y. nat_eq y 45) s

minus_is : (s : List ℕ) → minus_in s ≡ has_minus s
unfolding has_minus
minus_is [] = refl
minus_is (c ∷ s) = case_b (eqb c 45) (λ t. rw (minus_is s, t)) (λ f. rw (minus_is s, f))

-- ---- what the reader answers

-- six columns, by their places
six_is : (l : List ℕ) → length l ≡ 6 → l ≡ six (get_or l 0 0) (get_or l 1 0) (get_or l 2 0) (get_or l 3 0) (get_or l 4 0) (get_or l 5 0)
six_is [] h = absurd (omega arith)
six_is (a ∷ []) h = absurd (omega arith)
six_is (a ∷ b ∷ []) h = absurd (omega arith)
six_is (a ∷ b ∷ c ∷ []) h = absurd (omega arith)
six_is (a ∷ b ∷ c ∷ d ∷ []) h = absurd (omega arith)
six_is (a ∷ b ∷ c ∷ d ∷ e ∷ []) h = absurd (omega arith)
six_is (a ∷ b ∷ c ∷ d ∷ e ∷ f ∷ []) h = refl
six_is (a ∷ b ∷ c ∷ d ∷ e ∷ f ∷ g ∷ l) h = absurd (omega arith)

-- the figures of six columns, each read
pub value_is : (l : List ℕ) (p q r s t u : ℕ) → length l ≡ 6 → p ≡ figure_of (get_or l 0 0) → q ≡ figure_of (get_or l 1 0) → r ≡ figure_of (get_or l 2 0)
    → s ≡ figure_of (get_or l 3 0) → t ≡ figure_of (get_or l 4 0) → u ≡ figure_of (get_or l 5 0)
    → ((((p * 10 + q) * 10 + r) * 10 + s) * 10 + t) * 10 + u ≡ size_from 0 l
unfolding size_from
value_is l p q r s t u six_long h i j k m n = rw (six_is l six_long, h, i, j, k, m, n) (omega arith)

-- six columns and their size n, which were compared with the columns k
module _ (l k : List ℕ) (n : ℕ) (p : Bool) where
  -- accepted
  pub neg_reads : 1 ≤ n → n < 32769 → k ≡ columns true n → p ≡ pointwise nat_eq l k → p ≡ true → Some (65536 - n) ≡ read_number l
  neg_reads g h e f t =
      let m : 65536 - (65536 - n) ≡ n = omega arith in
      sym (text_reads l (65536 - n) (omega arith) (same_text l k (sym t ∙ f) ∙ e ∙ sym (text_neg (65536 - n) (omega arith) ∙ rw m)))

  pub pos_reads : n < 32768 → k ≡ columns false n → p ≡ pointwise nat_eq l k → p ≡ true → Some n ≡ read_number l
  pos_reads g e f t = sym (text_reads l n (omega arith) (same_text l k (sym t ∙ f) ∙ e ∙ sym (text_pos n (omega arith))))

  -- refused
  module _ (q : Bool) (sized : n ≡ size_from 0 l) (minused : q ≡ minus_in l) where
    -- what the text of v would have been read as
    of_text : (v : ℕ) → l ≡ text v → (n ≡ size v) × (q ≡ negative v)
    of_text v e = (sized ∙ rw e (size_text v), minused ∙ minus_is l ∙ rw e (minus_text v))

    if_neg : q ≡ true → (v : ℕ) → l ≡ text v → (n ≡ 65536 - v) × (32767 < v) × (l ≡ columns true n)
    if_neg t v e =
        let k = of_text v e in
        let s : negative v ≡ true = sym k.1 ∙ t in
        let m : n ≡ 65536 - v = rw s at k.0 in
        let g : 32767 < v = ltb-true 32767 v s in
        (m, g, rw m (e ∙ text_neg v g))

    if_pos : q ≡ false → (v : ℕ) → l ≡ text v → (n ≡ v) × (v ≤ 32767) × (l ≡ columns false n)
    if_pos t v e =
        let k = of_text v e in
        let s : negative v ≡ false = sym k.1 ∙ t in
        let m : n ≡ v = rw s at k.0 in
        let g : v ≤ 32767 = ltb-false 32767 v s in
        (m, g, rw m (e ∙ text_pos v g))

    pub zero_refused : q ≡ true → n < 1 → None ≡ read_number l
    zero_refused t g = sym (wrong_reads l (λ v h e. let k = if_neg t v e in omega arith))

    pub far_refused : q ≡ true → 32769 ≤ n → None ≡ read_number l
    far_refused t g = sym (wrong_reads l (λ v h e. let k = if_neg t v e in omega arith))

    pub neg_refused : q ≡ true → k ≡ columns true n → p ≡ pointwise nat_eq l k → p ≡ false → None ≡ read_number l
    neg_refused t e f g = sym (wrong_reads l (λ v h i. other_text l k (sym g ∙ f) ((if_neg t v i).2 ∙ sym e)))

    pub high_refused : q ≡ false → 32768 ≤ n → None ≡ read_number l
    high_refused t g = sym (wrong_reads l (λ v h e. let k = if_pos t v e in omega arith))

    pub pos_refused : q ≡ false → k ≡ columns false n → p ≡ pointwise nat_eq l k → p ≡ false → None ≡ read_number l
    pos_refused t e f g = sym (wrong_reads l (λ v h i. other_text l k (sym g ∙ f) ((if_pos t v i).2 ∙ sym e)))

pub ruleset refusals = (zero_refused, far_refused, neg_refused, high_refused, pos_refused)

-- ---- one figure after five blanks

text_one : (v : ℕ) → v < 10 → text v ≡ six 32 32 32 32 32 (48 + v)
unfolding text numeral right_justified
text_one v h = let e : v % 10 ≡ v = omega arith in rw (le-ltb 32767 v (omega arith), figures_one v h, e)

both : (s t : Bool) → cond s t false ≡ true → (s ≡ true) × (t ≡ true)
both true t h = (refl, h)
both false t h = contra h refl

one_reads : (a b c d e f : ℕ) (p : Bool) → p ≡ blank_of a b c d e → p ≡ true → 48 ≤ f → f < 58 → Some (f - 48) ≡ read_number (six a b c d e f)
unfolding blank_of
one_reads a b c d e f p h t i j =
    let w = both (eqb e 32) _ (sym h ∙ t) in
    let x = both (eqb d 32) _ w.1 in
    let y = both (eqb c 32) _ x.1 in
    let z = both (eqb b 32) _ y.1 in
    let o : 48 + (f - 48) ≡ f = omega arith in
    sym (text_reads (six a b c d e f) (f - 48) (omega arith)
    (rw (eqb-true a 32 z.1, eqb-true b 32 z.0, eqb-true c 32 y.0, eqb-true d 32 x.0, eqb-true e 32 w.0) (sym (text_one (f - 48) (omega arith) ∙ rw o))))

module _ (l : List ℕ) (six_long : length l ≡ 6) where
  pub figure_reads : (p : Bool) → p ≡ blank_of (get_or l 0 0) (get_or l 1 0) (get_or l 2 0) (get_or l 3 0) (get_or l 4 0) → p ≡ true → 48 ≤ get_or l 5 0 → get_or l 5 0 < 58
      → Some (get_or l 5 0 - 48) ≡ read_number l
  figure_reads p h t i j = one_reads _ _ _ _ _ _ p h t i j ∙ ap read_number (sym (six_is l six_long))

  pub columns_read : (r : Option ℕ) → r ≡ read_number (six (get_or l 0 0) (get_or l 1 0) (get_or l 2 0) (get_or l 3 0) (get_or l 4 0) (get_or l 5 0)) → r ≡ read_number l
  columns_read r e = e ∙ ap read_number (sym (six_is l six_long))

-- ---- a field that is laid into a buffer

-- six bytes of the buffer become those of a field
module _ (l ys zs : List ℕ) (at : ℕ) (inside : at + 6 ≤ length l) where
  six_laid : length zs ≡ 6 → ys ≡ zs → put_mid at (at + 6 - at) l ys ≡ sets l at zs
  six_laid n e =
      let k : at + 6 - at ≡ 6 = omega arith in
      rw (e, k, sets-eq zs l at (omega arith), n, drop-drop 6 at l, append_assoc)

  pub field_laid : (v : ℕ) → zs ≡ text v → length zs ≡ 6 → ys ≡ zs → put_mid at (at + 6 - at) l ys ≡ sets l at (text v)
  field_laid v e n h = six_laid n h ∙ ap (sets l at) e

-- a field of one figure: five blanks, and the figure at the end
pub figure_laid : (l ys : List ℕ) (at v : ℕ) → at + 6 ≤ length l → v < 10 → ys ≡ six 32 32 32 32 32 (48 + v)
    → put_mid at (at + 6 - at) l ys ≡ sets l at (text v)
figure_laid l ys at v inside h e =
    six_laid l ys (six 32 32 32 32 32 (48 + v)) at inside refl e ∙ ap (sets l at) (sym (text_one v h))

-- the six columns of the number with the pattern v
module _ (zs : List ℕ) (v : ℕ) where
  pub text_printed : v ≤ 32767 → zs ≡ columns false v → zs ≡ text v
  text_printed h e = e ∙ sym (text_pos v h)

  pub minus_printed : 32767 < v → zs ≡ columns true (65536 - v) → zs ≡ text v
  minus_printed h e = e ∙ sym (text_neg v h)
