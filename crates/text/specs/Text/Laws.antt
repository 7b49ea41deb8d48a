-- The laws of the printed form: a field that is read as a number is its text, and a text is read as its number; and the text of a line or a file is what is
-- read as its numbers, field by field.
-- Assumes nothing.
use Prim.Native.Nat.{ℕ, zero, suc, ◌+◌, ◌-◌, ◌*◌, ◌/◌, ◌%◌, ◌<◌, ◌≤◌}
use native.Mathlib.Omega.{arith}
use Rattle.std.proofs.Common.{zero-mul, add-one, ◌∙◌, drop_of_length-le, length-take, take-append-drop, length-take-le, take-suc, take_all, take_at, drop-drop, take-take, get_or-drop, get_or-take}
use Rattle.std.proofs.Math.Path.{◌≡◌, refl, sym, ap}
use Rattle.std.specs.Prelude.{Bool, ltb, eqb, get_or, set, replicate, None, Option, Some}
use Rattle.std.proofs.Math.Bool.{true, false}
use mathlib.Core.List.{List, [], ◌∷◌, ◌++◌, map, map-append}
use Rattle.std.proofs.Math.ListN.{length, take, drop, length-append, length-replicate, length-drop}
use Rattle.std.proofs.lemmas.List.Edits.{sets}
use Rattle.std.proofs.Math.Seq.{drop-append-add, take-append-le, drop-append-le, get_or_at, drop-cons}
use borrow.Author.Tests.{lt-ltb, le-ltb, ltb-true, ltb-false, le-leb, eq-eqb, ne_eqb, eqb-true}
use Rattle.numbers.specs.Search.Laws.{case_b, contra}
use Rattle.numbers.specs.Tests.{clash}
use Rattle.numbers.specs.Bytes.{joined}
use Rattle.numbers.specs.Bytes.Laws.{sets_append, joined_snoc}
use Rattle.numbers.specs.Rows.{at}
use Rattle.text.specs.Text.{figures_by, figures, negative, size, signed, numeral, right_justified, text, line_text, file_text, line_length, field_of, figure_of, size_from, has_minus, pattern_in, same, read_number}

-- ---- figures

module _ (k n : ℕ) where
  by_one : n < 10 → figures_by k n ≡ (48 + n) ∷ []
  unfolding figures_by
  by_one h = go k
    where
      go : (k : ℕ) → figures_by k n ≡ (48 + n) ∷ []
      go zero = refl
      go (suc k) = rw (lt-ltb n 10 h)

  by_more : 10 ≤ n → figures_by (suc k) n ≡ figures_by k (n / 10) ++ ((48 + n % 10) ∷ [])
  unfolding figures_by
  by_more h = rw (le-ltb n 10 h)

-- a larger bound gives the same figures
by_any : (j k n : ℕ) → n ≤ j → n ≤ k → figures_by j n ≡ figures_by k n
by_any zero k n h l = by_one zero n (omega arith) ∙ sym (by_one k n (omega arith))
by_any (suc j) zero n h l = by_one (suc j) n (omega arith) ∙ sym (by_one zero n (omega arith))
by_any (suc j) (suc k) n h l =
    case_b (ltb n 10)
    (λ t. by_one (suc j) n (ltb-true n 10 t) ∙ sym (by_one (suc k) n (ltb-true n 10 t)))
    (λ f. let g : 10 ≤ n = ltb-false n 10 f in rw (by_more j n g, by_more k n g, by_any j k (n / 10) (omega arith) (omega arith)))

pub figures_one : (n : ℕ) → n < 10 → figures n ≡ (48 + n % 10) ∷ []
unfolding figures
figures_one n h = let e : n % 10 ≡ n = omega arith in rw e (by_one n n h)

pub figures_more : (n : ℕ) → 10 ≤ n → figures n ≡ figures (n / 10) ++ ((48 + n % 10) ∷ [])
unfolding figures
figures_more zero h = absurd (omega arith)
figures_more (suc n) h = rw (by_more n (suc n) h, by_any n (suc n / 10) (suc n / 10) (omega arith) (omega arith))

-- ten to the power k + 1: a number below it has at most k + 1 figures
abbrev power : ℕ → ℕ
power zero = 10
power (suc k) = power k * 10

length_by : (k j n : ℕ) → n < power k → length (figures_by j n) ≤ suc k
unfolding figures_by
length_by zero j n h = rw (by_one j n h) (omega arith)
length_by (suc k) zero n h = omega arith
length_by (suc k) (suc j) n h =
    case_b (ltb n 10)
    (λ t. rw t (omega arith))
    (λ f. rw (f, length-append (figures_by j (n / 10)) ((48 + n % 10) ∷ [])) (omega (arith, length_by k j (n / 10) (omega arith))))

-- ---- what figures read as

figure_of_lem : (d : ℕ) → d < 10 → figure_of (48 + d) ≡ d
unfolding figure_of
figure_of_lem d h = rw (le-leb 48 (48 + d) (omega arith), le-leb (48 + d) 57 (omega arith)) (omega arith)

size_append : (n : ℕ) (s t : List ℕ) → size_from n (s ++ t) ≡ size_from (size_from n s) t
unfolding size_from
size_append n [] t = refl
size_append n (c ∷ s) t = size_append (n * 10 + figure_of c) s t

size_one : (n d : ℕ) → d < 10 → size_from n ((48 + d) ∷ []) ≡ n * 10 + d
unfolding size_from
size_one n d h = rw (figure_of_lem d h)

size_by : (k n : ℕ) → n ≤ k → size_from 0 (figures_by k n) ≡ n
size_by zero n h = rw (by_one zero n (omega arith), size_one 0 n (omega arith)) (omega arith)
size_by (suc k) n h =
    case_b (ltb n 10)
    (λ t. let l : n < 10 = ltb-true n 10 t in rw (by_one (suc k) n l, size_one 0 n l) (omega arith))
    (λ f. let g : 10 ≤ n = ltb-false n 10 f in
    rw (by_more k n g, size_append 0 (figures_by k (n / 10)) ((48 + n % 10) ∷ []), size_by k (n / 10) (omega arith), size_one (n / 10) (n % 10) (omega arith)) (omega arith))

minus_append : (s t : List ℕ) → has_minus s ≡ false → has_minus (s ++ t) ≡ has_minus t
unfolding has_minus
minus_append [] t h = refl
minus_append (c ∷ s) t h =
    case_b (eqb c 45)
    (λ y. contra {b = true} refl (rw y at h))
    (λ n. let k : has_minus s ≡ false = rw n at h in rw (n, minus_append s t k))

minus_one_lem : (d : ℕ) → has_minus ((48 + d) ∷ []) ≡ false
unfolding has_minus
minus_one_lem d = rw (ne_eqb (48 + d) 45 (λ e. omega arith))

minus_by : (k n : ℕ) → has_minus (figures_by k n) ≡ false
unfolding figures_by
minus_by zero n = minus_one_lem n
minus_by (suc k) n =
    case_b (ltb n 10)
    (λ t. rw t (minus_one_lem n))
    (λ f. rw f (minus_append (figures_by k (n / 10)) ((48 + n % 10) ∷ []) (minus_by k (n / 10)) ∙ minus_one_lem (n % 10)))

-- ---- a field

module _ (s : List ℕ) where
  size_blanks : (k : ℕ) → size_from 0 (replicate k 32 ++ s) ≡ size_from 0 s
  unfolding size_from figure_of
  size_blanks zero = refl
  size_blanks (suc k) = size_blanks k

  size_signed : (n : Bool) → size_from 0 (signed n s) ≡ size_from 0 s
  unfolding size_from figure_of
  size_signed true = refl
  size_signed false = refl

  minus_blanks : (k : ℕ) → has_minus (replicate k 32 ++ s) ≡ has_minus s
  unfolding has_minus
  minus_blanks zero = refl
  minus_blanks (suc k) = minus_blanks k

  minus_signed : (n : Bool) → has_minus s ≡ false → has_minus (signed n s) ≡ n
  unfolding has_minus
  minus_signed true h = refl
  minus_signed false h = h

  length_signed : (n : Bool) → length (signed n s) ≤ suc (length s)
  length_signed true = omega arith
  length_signed false = omega arith

  pub length_justified : (w : ℕ) → length s ≤ w → length (right_justified w s) ≡ w
  unfolding right_justified
  length_justified w h = length-append (replicate (w - length s) 32) s ∙ omega (arith, length-replicate {A = ℕ} (w - length s) 32)

module _ (v : ℕ) where
  pub size_text : size_from 0 (text v) ≡ size v
  unfolding text right_justified numeral figures
  size_text = size_blanks (numeral v) (6 - length (numeral v)) ∙ size_signed (figures (size v)) (negative v) ∙ size_by (size v) (size v) (omega arith)

  pub minus_text : has_minus (text v) ≡ negative v
  unfolding text right_justified numeral figures
  minus_text = minus_blanks (numeral v) (6 - length (numeral v)) ∙ minus_signed (figures (size v)) (negative v) (minus_by (size v) (size v))

  size_small : size v < 100000
  size_small = case_b (ltb 32767 v) (λ t. rw t (omega arith)) (λ f. rw f (omega (arith, ltb-false 32767 v f)))

  pub length_text : length (text v) ≡ 6
  unfolding text numeral figures
  length_text =
      length_justified (numeral v) 6
      (omega (arith, length_signed (figures (size v)) (negative v), length_by 4 (size v) (size v) size_small))

  pattern_text : v < 65536 → pattern_in (text v) ≡ v
  unfolding pattern_in
  pattern_text h =
      rw (minus_text, size_text)
      (case_b (ltb 32767 v) (λ t. rw t (omega (arith, ltb-true 32767 v t))) (λ f. rw f (omega arith)))

-- ---- what is read

pub same_true : (xs ys : List ℕ) → same xs ys ≡ true → xs ≡ ys
unfolding same
same_true [] [] h = refl
same_true [] (y ∷ ys) h = contra h refl
same_true (x ∷ xs) [] h = contra h refl
same_true (x ∷ xs) (y ∷ ys) h =
    case_b (eqb x y)
    (λ t. let p : x ≡ y = eqb-true x y t in let q : xs ≡ ys = same_true xs ys (rw t at h) in cc)
    (λ f. contra {b = false} (rw f at h) refl)

pub same_self : (xs : List ℕ) → same xs xs ≡ true
unfolding same
same_self [] = refl
same_self (x ∷ xs) = rw (eq-eqb x x refl) (same_self xs)

pattern_fits : (f : List ℕ) → pattern_in f < 65536
unfolding pattern_in
pattern_fits f = omega arith

-- the text of a number is read as it
pub reads_text : (v : ℕ) → v < 65536 → read_number (text v) ≡ Some v
unfolding read_number
reads_text v h = rw (pattern_text v h, same_self (text v))

module _ (f : List ℕ) (v : ℕ) where
  -- what is read as a number is its text
  pub reads_value : read_number f ≡ Some v → (v < 65536) × (f ≡ text v)
  unfolding read_number
  reads_value h =
      case_b (same f (text (pattern_in f)))
      (λ t. let e : ◌≡◌ {A = Option ℕ} (Some (pattern_in f)) (Some v) = rw t at h in
      let p : pattern_in f ≡ v = cc in
      (rw p at (pattern_fits f), rw p at (same_true f (text (pattern_in f)) t)))
      (λ n. let e : ◌≡◌ {A = Option ℕ} None (Some v) = rw n at h in clash cc)

  pub text_reads : v < 65536 → f ≡ text v → read_number f ≡ Some v
  text_reads h e = rw e (reads_text v h)

module _ (f : List ℕ) where
  -- what is wrong is the text of no number
  pub reads_wrong : read_number f ≡ None → (v : ℕ) → v < 65536 → f ≡ text v → ⊥
  reads_wrong h v l e = let k = text_reads f v l e in clash cc

  -- a field that is the text of no number is read as wrong
  pub wrong_reads : ((v : ℕ) → v < 65536 → f ≡ text v → ⊥) → read_number f ≡ None
  unfolding read_number
  wrong_reads h =
      case_b (same f (text (pattern_in f)))
      (λ t. absurd (h (pattern_in f) (pattern_fits f) (same_true f (text (pattern_in f)) t)))
      (λ n. rw n)

pub text_injective : (v u : ℕ) → v < 65536 → u < 65536 → text v ≡ text u → v ≡ u
text_injective v u h l e = let p = text_reads (text v) u l e in let q = text_reads (text v) v h refl in cc

-- ---- pieces of one width, one after the other

module _ {A : Type 0} (f : A → List ℕ) (w : ℕ) (d : A) where
  pub length_joined : (l : List A) → ((i : ℕ) → i < length l → length (f (get_or l i d)) ≡ w) → length (joined (map f l)) ≡ length l * w
  unfolding joined
  length_joined [] h = omega arith
  length_joined (a ∷ l) h =
      length-append (f a) (joined (map f l))
      ∙ omega (arith, h 0 (omega arith), length_joined l (λ i k. h (suc i) (omega arith)))

  -- each piece is found again
  pub joined_piece : (l : List A) → ((i : ℕ) → i < length l → length (f (get_or l i d)) ≡ w) → (i : ℕ) → i < length l
      → take w (drop (i * w) (joined (map f l))) ≡ f (get_or l i d)
  unfolding joined
  joined_piece [] h i k = absurd (omega arith)
  joined_piece (a ∷ l) h zero k = rw (zero-mul w) (take_at (f a) (joined (map f l)) w (h 0 (omega arith)))
  joined_piece (a ∷ l) h (suc i) k =
      let e : suc i * w ≡ length (f a) + i * w = omega (arith, h 0 (omega arith)) in
      rw (e, drop-append-add (f a) (joined (map f l)) (i * w)) (joined_piece l (λ j m. h (suc j) (omega arith)) i (omega arith))

  -- a list whose pieces are those of the parts is the parts, joined
  pub joined_whole : (l : List A) (b : List ℕ) → length b ≡ length l * w → ((i : ℕ) → i < length l → take w (drop (i * w) b) ≡ f (get_or l i d))
      → b ≡ joined (map f l)
  unfolding joined
  joined_whole [] [] e h = refl
  joined_whole [] (x ∷ b) e h = absurd (omega arith)
  joined_whole (a ∷ l) b e h =
      let p : take w b ≡ f a = rw (zero-mul w) at (h 0 (omega arith)) in
      let q : drop w b ≡ joined (map f l) = joined_whole l (drop w b) (length-drop w b ∙ omega arith) (λ i k. rest i k) in
      sym (take-append-drop w b) ∙ rw (p, q)
    where
      rest : (i : ℕ) → i < length l → take w (drop (i * w) (drop w b)) ≡ f (get_or l i d)
      rest i k = let s : suc i * w ≡ w + i * w = omega arith in rw (drop-drop (i * w) w b, ← s) (h (suc i) (omega arith))

-- pieces of one width, laid into a buffer from a place on: one more, and all with an end behind them
module _ {A : Type 0} (f : A → List ℕ) (w : ℕ) (d : A) (l : List A) (even : (i : ℕ) → i < length l → length (f (get_or l i d)) ≡ w) (b : List ℕ) (at : ℕ) where
  length_front : (i : ℕ) → i ≤ length l → length (joined (map f (take i l))) ≡ i * w
  length_front i h =
      let n : length (take i l) ≡ i = length-take-le i l h in
      length_joined f w d (take i l) (λ j k. let k' : j < i = omega arith in rw (get_or-take i l j d k') (even j (omega arith))) ∙ rw n

  module _ (i : ℕ) (b₁ : List ℕ) (e : b₁ ≡ sets b at (joined (map f (take i l)))) where
    pub pieces_more : (b₂ : List ℕ) → b₂ ≡ sets b₁ (at + i * w) (f (get_or l i d)) → i < length l → b₂ ≡ sets b at (joined (map f (take (i + 1) l)))
    pieces_more b₂ g h =
        g ∙ rw (
          e,
          add-one i,
          take-suc l i d h,
          map-append f (take i l) (get_or l i d ∷ []),
          joined_snoc (map f (take i l)) (f (get_or l i d)),
          sets_append b at (joined (map f (take i l))) (f (get_or l i d)),
          length_front i (omega arith),
        )

    pub pieces_closed : length l ≤ i → (x : ℕ) → set b₁ (at + length l * w) x ≡ sets b at (joined (map f l) ++ (x ∷ []))
    pieces_closed h x = rw (e, take_all i l h, sets_append b at (joined (map f l)) (x ∷ []), length_joined f w d l even)

-- a part of the first n is a part of the whole
part_of_front : (i m n : ℕ) (l : List ℕ) → i + m ≤ n → take m (drop i (take n l)) ≡ take m (drop i l)
part_of_front zero m n l h = take-take m n l (omega arith)
part_of_front (suc i) m zero l h = absurd (omega arith)
part_of_front (suc i) m (suc n) [] h = refl
part_of_front (suc i) m (suc n) (x ∷ l) h = part_of_front i m n l (omega arith)

-- ---- a line

module _ (row : List ℕ) (twelve : length row ≡ 12) where
  length_fields : length (joined (map text row)) ≡ 72
  length_fields = length_joined text 6 0 row (λ i h. length_text (get_or row i 0)) ∙ omega arith

  pub length_line : length (line_text row) ≡ line_length
  unfolding line_text
  length_line = length-append (joined (map text row)) (10 ∷ []) ∙ omega (arith, length_fields)

  -- the fields of a line are its numbers' texts
  pub line_field : (j : ℕ) → j < 12 → take 6 (drop (j * 6) (line_text row)) ≡ text (get_or row j 0)
  unfolding line_text
  line_field j h =
      rw (
        drop-append-le (j * 6) (joined (map text row)) (10 ∷ []) (omega (arith, length_fields)),
        take-append-le 6 (drop (j * 6) (joined (map text row))) (10 ∷ []) (omega (arith, length-drop (j * 6) (joined (map text row)), length_fields)),
      )
      (joined_piece text 6 0 row (λ i k. length_text (get_or row i 0)) j (omega arith))

  -- a line ends with a newline
  pub line_end : get_or (line_text row) 72 0 ≡ 10
  unfolding line_text
  line_end = get_or_at (joined (map text row)) 10 [] 0 72 length_fields

  -- a line with these fields and a newline is the row's
  pub line_is : (b : List ℕ) → length b ≡ line_length → ((j : ℕ) → j < 12 → take 6 (drop (j * 6) b) ≡ text (get_or row j 0)) → get_or b 72 0 ≡ 10 → b ≡ line_text row
  unfolding line_text
  line_is b e h n =
      let p : take 72 b ≡ joined (map text row) = joined_whole text 6 0 row (take 72 b) (length-take 72 b ∙ omega arith) front in
      let q : drop 72 b ≡ 10 ∷ [] = drop-cons b 72 0 (omega arith) ∙ ap (λ (x : ℕ). x ∷ drop line_length b) n ∙ ap (λ (l : List ℕ). 10 ∷ l) (drop_of_length-le b {i = line_length} (omega arith)) in
      sym (take-append-drop 72 b) ∙ rw (p, q)
    where
      front : (j : ℕ) → j < length row → take 6 (drop (j * 6) (take 72 b)) ≡ text (get_or row j 0)
      front j k = rw (part_of_front (j * 6) 6 72 b (omega arith)) (h j (omega arith))

  -- a line whose fields are read as the numbers of a row is the text of the row
  pub line_reads : (b : List ℕ) → length b ≡ line_length → ((j : ℕ) → j < 12 → read_number (take 6 (drop (j * 6) b)) ≡ Some (get_or row j 0)) → get_or b 72 0 ≡ 10
      → b ≡ line_text row
  line_reads b e h n = line_is b e (λ j k. (reads_value (take 6 (drop (j * 6) b)) (get_or row j 0) (h j k)).1) n

-- ---- a file

-- a field inside the file has six characters
pub length_field : (b r : List ℕ) (line column : ℕ) → r ≡ field_of b line column → line * line_length + column * 6 + 6 ≤ length b → length r ≡ 6
length_field b r line column e h =
    ap length e
    ∙ length-take-le 6 (drop (line * line_length + column * 6) b) (omega (arith, length-drop (line * line_length + column * 6) b))

module _ (b : List ℕ) (i : ℕ) where
  -- the fields of a line of the file are the file's
  pub field_in_line : (j : ℕ) → j < 12 → take 6 (drop (j * 6) (take line_length (drop (i * line_length) b))) ≡ field_of b i j
  field_in_line j h = rw (part_of_front (j * 6) 6 line_length (drop (i * line_length) b) (omega arith), drop-drop (j * 6) (i * line_length) b)

  pub end_in_line : get_or (take line_length (drop (i * line_length) b)) 72 0 ≡ get_or b (i * line_length + 72) 0
  end_in_line = rw (get_or-take line_length (drop (i * line_length) b) 72 0 (omega arith), get_or-drop (i * line_length) b 72 0)

-- a file with these lines is that of the rows
pub file_is : (rs : List (List ℕ)) (b : List ℕ) → length b ≡ length rs * line_length
    → ((i : ℕ) → i < length rs → take line_length (drop (i * line_length) b) ≡ line_text (get_or rs i [])) → b ≡ file_text rs
unfolding file_text
file_is rs b e h = joined_whole line_text line_length [] rs b e h

module _ (rs : List (List ℕ)) (twelve : (i : ℕ) → i < length rs → length (get_or rs i []) ≡ 12) where
  pub length_file : length (file_text rs) ≡ length rs * line_length
  unfolding file_text
  length_file = length_joined line_text line_length [] rs (λ i h. length_line (get_or rs i []) (twelve i h))

  -- the lines of a file are its rows'
  pub file_line : (i : ℕ) → i < length rs → take line_length (drop (i * line_length) (file_text rs)) ≡ line_text (get_or rs i [])
  unfolding file_text
  file_line i h = joined_piece line_text line_length [] rs (λ k l. length_line (get_or rs k []) (twelve k l)) i h

  -- the fields of a file are the texts of its numbers
  pub file_field : (i j : ℕ) → i < length rs → j < 12 → field_of (file_text rs) i j ≡ text (at rs i j)
  file_field i j h k = sym (field_in_line (file_text rs) i j k) ∙ rw (file_line i h) (line_field (get_or rs i []) (twelve i h) j k)

  -- the fields of a file are read as its numbers
  pub prints_read : (i j : ℕ) → i < length rs → j < 12 → at rs i j < 65536 → read_number (field_of (file_text rs) i j) ≡ Some (at rs i j)
  prints_read i j h k l = rw (file_field i j h k) (reads_text (at rs i j) l)

  pub prints_end : (i : ℕ) → i < length rs → get_or (file_text rs) (i * line_length + 72) 0 ≡ 10
  prints_end i h = sym (end_in_line (file_text rs) i) ∙ rw (file_line i h) (line_end (get_or rs i []) (twelve i h))

  -- a file whose fields are read as the rows' numbers is the rows' print
  pub read_prints : (b : List ℕ) → length b ≡ length rs * line_length → ((i j : ℕ) → i < length rs → j < 12 → read_number (field_of b i j) ≡ Some (at rs i j))
      → ((i : ℕ) → i < length rs → get_or b (i * line_length + 72) 0 ≡ 10) → b ≡ file_text rs
  read_prints b e h n = file_is rs b e line
    where
      line : (i : ℕ) → i < length rs → take line_length (drop (i * line_length) b) ≡ line_text (get_or rs i [])
      line i k =
          line_reads (get_or rs i []) (twelve i k) (take line_length (drop (i * line_length) b))
          (length-take line_length (drop (i * line_length) b) ∙ omega (arith, length-drop (i * line_length) b))
          (λ j l. rw (field_in_line b i j l) (h i j k l))
          (end_in_line b i ∙ n i k)
