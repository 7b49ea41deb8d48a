-- The laws of numbers in a byte buffer, over the width; the last ones are their forms at the widths 2 and 4, byte by byte. Assumes nothing.
use Rattle.std.specs.Prelude.{◌≡◌, ℕ, zero, suc, ◌+◌, ◌*◌, ◌/◌, ◌%◌, ◌^◌, ◌<◌, ◌≤◌, List, [], ◌∷◌, ◌++◌, map, length, take, drop, slice_index, slice_index_or, slice_set, refl}
use Rattle.std.proofs.Common.{arith, zero-mul, mul-le-mul_right, pow-suc, div-mul-le_self, mul-div_cancel, add-one, sym, ◌∙◌, ap, append-nil, append_assoc, length-append, length-drop, get_or-drop, length-take-le, take_at, drop_at, take-add, take_all, drop-cons, Fits}
use Rattle.std.proofs.Math.Nat.{one-le-pow, mod-add-div'}
use Rattle.std.proofs.Math.Numerals.{add-two, add-three}
use Rattle.std.proofs.Math.Decide.{dec_lt}
use Rattle.std.proofs.lemmas.List.{length-map}
use Rattle.std.proofs.Math.ListN.{get_or-eq_default, get_or-map}
use Rattle.std.proofs.lemmas.List.Edits.{sets}
use Rattle.std.proofs.Math.Seq.{length-sets, set_out}
use Rattle.std.specs.Int.{w8}
use Rattle.numbers.specs.Rows.{rows}
use Rattle.numbers.specs.Rows.Laws.{rows_none, rows_more, length_rows, row_in, sets_front, rows_sets}
use Rattle.numbers.specs.Bytes.{little, numbers_of, shorts, words, bytes_of, encode, joined}

-- what is known of each byte of a slice, as a bound
pub bytes_fit : (b : List ℕ) → ((i : ℕ) → Fits w8 (slice_index b i)) → (i : ℕ) → slice_index b i < 256
bytes_fit b f i = (f i).fits

-- ---- a number and its bytes

pub length_bytes : (w v : ℕ) → length (bytes_of w v) ≡ w
unfolding bytes_of
length_bytes zero v = refl
length_bytes (suc w) v = ap suc (length_bytes w (v / 256))

pub bytes_below : (w v i : ℕ) → slice_index (bytes_of w v) i < 256
unfolding bytes_of
bytes_below zero v i = omega arith
bytes_below (suc w) v zero = omega arith
bytes_below (suc w) v (suc i) = bytes_below w (v / 256) i

pub little_bytes : (w v : ℕ) → v < 256 ^ w → little (bytes_of w v) ≡ v
unfolding little bytes_of
little_bytes zero v h = omega arith
little_bytes (suc w) v h = rw (little_bytes w (v / 256) (omega (arith, pow-suc 256 w))) (omega arith)

pub bytes_little : (l : List ℕ) → ((i : ℕ) → slice_index l i < 256) → bytes_of (length l) (little l) ≡ l
unfolding little bytes_of
bytes_little [] f = refl
bytes_little (a ∷ l) f =
    let e : (a + 256 * little l) % 256 ≡ a = omega (arith, f 0) in
    let g : (a + 256 * little l) / 256 ≡ little l = omega (arith, f 0) in
    rw (e, g, bytes_little l (λ i. f (suc i)))

pub little_below : (l : List ℕ) → ((i : ℕ) → slice_index l i < 256) → little l < 256 ^ length l
unfolding little
little_below [] f = omega arith
little_below (a ∷ l) f = omega (arith, f 0, little_below l (λ i. f (suc i)), pow-suc 256 (length l))

-- ---- the numbers of a buffer

map_set : {A B : Type 0} (f : A → B) (l : List A) (i : ℕ) (a : A) → map f (slice_set l i a) ≡ slice_set (map f l) i (f a)
map_set f [] i a = refl
map_set f (x ∷ l) zero a = refl
map_set f (x ∷ l) (suc i) a = ap (λ r. f x ∷ r) (map_set f l i a)

pub length_numbers : (w : ℕ) (b : List ℕ) → length (numbers_of w b) ≡ length b / w
unfolding numbers_of
length_numbers w b = length-map (rows (length b / w) w b) little ∙ length_rows (length b / w) w b

-- the bytes of number i lie within the buffer
room : (w n i : ℕ) → i < n / w → i * w + w ≤ n
room w n i h = omega (arith, mul-le-mul_right w h, div-mul-le_self n w)

pub number_in_lem : (w : ℕ) (b : List ℕ) (i : ℕ) → i < length b / w → slice_index (numbers_of w b) i ≡ little (take w (drop (i * w) b))
unfolding numbers_of little
number_in_lem w b i h = get_or-map little (rows (length b / w) w b) i [] ∙ ap little (row_in (length b / w) w b i h)

pub number_past : (w : ℕ) (b : List ℕ) (i : ℕ) → length b / w ≤ i → 0 ≡ slice_index (numbers_of w b) i
number_past w b i h = sym (get_or-eq_default (numbers_of w b) 0 (omega (arith, length_numbers w b)))

-- w stores make a number
pub numbers_put : (w : ℕ) (b : List ℕ) (i : ℕ) (vs : List ℕ) (v : ℕ) → length vs ≡ w → little vs ≡ v → i < length b / w
    → numbers_of w (sets b (i * w) vs) ≡ slice_set (numbers_of w b) i v
unfolding numbers_of
numbers_put w b i vs v e g h =
    rw (length-sets b (i * w) vs, rows_sets (length b / w) w b i vs e h (div-mul-le_self (length b) w), ← g) (map_set little (rows (length b / w) w b) i vs)

pub numbers_kept : (w : ℕ) (b : List ℕ) (i v : ℕ) → length b / w ≤ i → numbers_of w b ≡ slice_set (numbers_of w b) i v
numbers_kept w b i v h = sym (set_out (numbers_of w b) i v (omega (arith, length_numbers w b)))

-- a part of a buffer holds bytes, as the buffer does
take_below : (n : ℕ) (l : List ℕ) → ((i : ℕ) → slice_index l i < 256) → (i : ℕ) → slice_index (take n l) i < 256
take_below zero l f i = omega arith
take_below (suc n) [] f i = omega arith
take_below (suc n) (a ∷ l) f zero = f 0
take_below (suc n) (a ∷ l) f (suc i) = take_below n l (λ k. f (suc k)) i

drop_below : (n : ℕ) (l : List ℕ) → ((i : ℕ) → slice_index l i < 256) → (i : ℕ) → slice_index (drop n l) i < 256
drop_below n l f i = rw (get_or-drop n l i 0) (f (n + i))

pub numbers_fit : (w : ℕ) (b : List ℕ) → ((i : ℕ) → slice_index b i < 256) → (i : ℕ) → slice_index (numbers_of w b) i < 256 ^ w
numbers_fit w b f i = go (dec_lt i (length b / w))
  where
    go : Dec (i < length b / w) → slice_index (numbers_of w b) i < 256 ^ w
    go (yes h) =
        let l : length (take w (drop (i * w) b)) ≡ w = length-take-le w (drop (i * w) b) (omega (arith, length-drop (i * w) b, room w (length b) i h)) in
        let k = little_below (take w (drop (i * w) b)) (take_below w (drop (i * w) b) (drop_below (i * w) b f)) in
        rw (number_in_lem w b i h) (rw l at k)
    go (no h) = rw (← number_past w b i (omega arith)) (one-le-pow w 256 (omega arith))

-- ---- the bytes of numbers

pub length_encode : (w : ℕ) (l : List ℕ) → length (encode w l) ≡ length l * w
unfolding encode
length_encode w [] = sym (zero-mul w)
length_encode w (v ∷ l) = omega (arith, length-append (bytes_of w v) (encode w l), length_bytes w v, length_encode w l)

append_below : (l m : List ℕ) → ((i : ℕ) → slice_index l i < 256) → ((i : ℕ) → slice_index m i < 256) → (i : ℕ) → slice_index (l ++ m) i < 256
append_below [] m f g i = g i
append_below (a ∷ l) m f g zero = f 0
append_below (a ∷ l) m f g (suc i) = append_below l m (λ k. f (suc k)) g i

pub encode_below : (w : ℕ) (l : List ℕ) (i : ℕ) → slice_index (encode w l) i < 256
unfolding encode
encode_below w [] i = omega arith
encode_below w (v ∷ l) i = append_below (bytes_of w v) (encode w l) (bytes_below w v) (encode_below w l) i

encode_rows : (n w : ℕ) (b : List ℕ) → n * w ≤ length b → ((i : ℕ) → slice_index b i < 256) → encode w (map little (rows n w b)) ≡ take (n * w) b
unfolding encode
encode_rows zero w b h f = rw (zero-mul w, rows_none w b)
encode_rows (suc n) w b h f =
    let e : suc n * w ≡ w + n * w = omega arith in
    let l : length (take w b) ≡ w = length-take-le w b (omega arith) in
    let k : bytes_of w (little (take w b)) ≡ take w b = rw l at (bytes_little (take w b) (take_below w b f)) in
    rw (e, rows_more n w b, take-add w (n * w) b, k, encode_rows n w (drop w b) (omega (arith, length-drop w b)) (drop_below w b f))

-- a buffer is the bytes of its numbers
pub encode_numbers : (w : ℕ) (b : List ℕ) → length b % w ≡ 0 → ((i : ℕ) → slice_index b i < 256) → encode w (numbers_of w b) ≡ b
unfolding numbers_of
encode_numbers w b h f =
    encode_rows (length b / w) w b (div-mul-le_self (length b) w) f ∙ take_all (length b / w * w) b (omega (arith, mod-add-div' (length b) w))

rows_encode : (w : ℕ) (l : List ℕ) → ((i : ℕ) → slice_index l i < 256 ^ w) → map little (rows (length l) w (encode w l)) ≡ l
unfolding encode
rows_encode w [] f = rw (rows_none w [])
rows_encode w (v ∷ l) f =
    let e = length_bytes w v in
    rw (rows_more (length l) w (bytes_of w v ++ encode w l), take_at (bytes_of w v) (encode w l) w e, drop_at (bytes_of w v) (encode w l) w e, little_bytes w v (f 0), rows_encode w l (λ i. f (suc i)))

-- the bytes of numbers that fit hold these numbers
pub numbers_encode : (w : ℕ) (l : List ℕ) → 0 < w → ((i : ℕ) → slice_index l i < 256 ^ w) → numbers_of w (encode w l) ≡ l
unfolding numbers_of
numbers_encode w l h f = rw (length_encode w l, mul-div_cancel (length l) h) (rows_encode w l f)

-- ---- rows, one after the other

pub joined_rows : (n w : ℕ) (l : List ℕ) → joined (rows n w l) ≡ take (n * w) l
unfolding joined
joined_rows zero w l = rw (zero-mul w, rows_none w l)
joined_rows (suc n) w l =
    let e : suc n * w ≡ w + n * w = omega arith in
    rw (e, rows_more n w l, take-add w (n * w) l, joined_rows n w (drop w l))

pub rows_joined : (w : ℕ) (r : List (List ℕ)) → ((t : ℕ) → t < length r → length (slice_index_or r t []) ≡ w) → rows (length r) w (joined r) ≡ r
unfolding joined
rows_joined w [] f = rows_none w []
rows_joined w (r ∷ rs) f =
    let e : length r ≡ w = f 0 (omega arith) in
    rw (rows_more (length rs) w (r ++ joined rs), take_at r (joined rs) w e, drop_at r (joined rs) w e, rows_joined w rs (λ t h. f (suc t) (omega arith)))

-- ---- rows and stores, one after the other

pub sets_append : (l : List ℕ) (i : ℕ) (xs ys : List ℕ) → sets l i (xs ++ ys) ≡ sets (sets l i xs) (i + length xs) ys
sets_append l i [] ys = let e : i + 0 ≡ i = omega arith in rw e
sets_append l i (x ∷ xs) ys =
    let e : suc i + length xs ≡ i + suc (length xs) = omega arith in
    sets_append (slice_set l i x) (suc i) xs ys ∙ rw e

joined_append : (rs qs : List (List ℕ)) → joined (rs ++ qs) ≡ joined rs ++ joined qs
unfolding joined
joined_append [] qs = refl
joined_append (r ∷ rs) qs = rw (joined_append rs qs) (sym (append_assoc r (joined rs) (joined qs)))

pub joined_snoc : (rs : List (List ℕ)) (r : List ℕ) → joined (rs ++ (r ∷ [])) ≡ joined rs ++ r
unfolding joined
joined_snoc rs r = joined_append rs (r ∷ []) ∙ rw (append-nil r)

-- what lies at the front is what was laid there
pub take_sets : (l vs : List ℕ) → length vs ≤ length l → take (length vs) (sets l 0 vs) ≡ vs
take_sets l vs h = rw (sets_front l vs h) (take_at vs (drop (length vs) l) (length vs) refl)

pub drop_sets : (l vs : List ℕ) → length vs ≤ length l → drop (length vs) (sets l 0 vs) ≡ drop (length vs) l
drop_sets l vs h = rw (sets_front l vs h) (drop_at vs (drop (length vs) l) (length vs) refl)

-- ---- widths 2 and 4, byte by byte

pub short_is : (b : List ℕ) (i r : ℕ) → r ≡ little (slice_index b (i * 2) ∷ slice_index b (i * 2 + 1) ∷ []) → i < length b / 2 → r ≡ slice_index (shorts b) i
short_is b i r e h =
    rw (number_in_lem 2 b i h, drop-cons b (i * 2) 0 (omega arith), drop-cons b (suc (i * 2)) 0 (omega arith), ← add-one (i * 2)) e

pub word_is : (b : List ℕ) (i r : ℕ) → r ≡ little (slice_index b (i * 4) ∷ slice_index b (i * 4 + 1) ∷ slice_index b (i * 4 + 2) ∷ slice_index b (i * 4 + 3) ∷ [])
    → i < length b / 4 → r ≡ slice_index (words b) i
word_is b i r e h =
    let e' = rw (add-one (i * 4), add-two (i * 4), add-three (i * 4)) at e in
    rw (number_in_lem 4 b i h, drop-cons b (i * 4) 0 (omega arith), drop-cons b (suc (i * 4)) 0 (omega arith), drop-cons b (suc (suc (i * 4))) 0 (omega arith), drop-cons b (suc (suc (suc (i * 4)))) 0 (omega arith)) e'

pub short_put : (b : List ℕ) (i p q v : ℕ) → little (p ∷ q ∷ []) ≡ v → i < length b / 2 → shorts (slice_set (slice_set b (i * 2) p) (i * 2 + 1) q) ≡ slice_set (shorts b) i v
short_put b i p q v e h = rw (add-one (i * 2)) (numbers_put 2 b i (p ∷ q ∷ []) v refl e h)

pub word_put : (b : List ℕ) (i p q r s v : ℕ) → little (p ∷ q ∷ r ∷ s ∷ []) ≡ v → i < length b / 4
    → words (slice_set (slice_set (slice_set (slice_set b (i * 4) p) (i * 4 + 1) q) (i * 4 + 2) r) (i * 4 + 3) s) ≡ slice_set (words b) i v
word_put b i p q r s v e h = rw (add-one (i * 4), add-two (i * 4), add-three (i * 4)) (numbers_put 4 b i (p ∷ q ∷ r ∷ s ∷ []) v refl e h)

pub short_bytes : (v : ℕ) → v < 65536 → little (v % 256 ∷ v / 256 ∷ []) ≡ v
unfolding little
short_bytes v h = omega arith

pub word_bytes : (v : ℕ) → v < 4294967296 → little (v % 256 ∷ v / 256 % 256 ∷ v / 65536 % 256 ∷ v / 16777216 ∷ []) ≡ v
unfolding little
word_bytes v h = omega arith
