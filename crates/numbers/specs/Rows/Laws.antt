-- The laws of `rows`. Assumes nothing.
use Rattle.std.specs.Prelude.{◌≡◌, ℕ, zero, suc, ◌+◌, ◌-◌, ◌*◌, ◌<◌, ◌≤◌, ◌≢◌, List, [], ◌∷◌, ◌++◌, length, take, drop, slice_index, slice_index_or, slice_set, refl}
use Rattle.std.proofs.Common.{arith, zero-mul, zero-add, mul-le-mul_right, ◌∙◌, ap, length-take, length-drop, get_or-take, get_or-drop, drop-drop, take_at, drop_at, drop-set-lt, set-set, get_or-set_same, get_or-set_other}
use Rattle.std.proofs.Math.Nat.{min-eq_left}
use Rattle.std.proofs.Math.ListN.{get_or-eq_default}
use Rattle.std.proofs.Math.Seq.{take-set-lt, set_out}
use Rattle.std.proofs.lemmas.List.{take-set-le, drop-set-add, set-get_or}
use Rattle.std.proofs.lemmas.List.Edits.{sets, sets-eq}
use Rattle.numbers.specs.Rows.{rows, at, put}

pub rows_none : (w : ℕ) (l : List ℕ) → rows 0 w l ≡ []
unfolding rows
rows_none w l = refl

pub rows_more : (n w : ℕ) (l : List ℕ) → rows (suc n) w l ≡ take w l ∷ rows n w (drop w l)
unfolding rows
rows_more n w l = refl

pub length_rows : (n w : ℕ) (l : List ℕ) → length (rows n w l) ≡ n
unfolding rows
length_rows zero w l = refl
length_rows (suc n) w l = ap suc (length_rows n w (drop w l))

pub row_in : (n w : ℕ) (l : List ℕ) (t : ℕ) → t < n → slice_index_or (rows n w l) t [] ≡ take w (drop (t * w) l)
unfolding rows
row_in zero w l t h = absurd (omega arith)
row_in (suc n) w l zero h = rw (zero-mul w)
row_in (suc n) w l (suc t) h =
    let e : suc t * w ≡ w + t * w = omega arith in
    rw (e, ← drop-drop (t * w) w l) (row_in n w (drop w l) t (omega arith))

-- a place inside
pub at_in : (n w : ℕ) (l : List ℕ) (t k : ℕ) → t < n → k < w → at (rows n w l) t k ≡ slice_index l (t * w + k)
at_in n w l t k h j = rw (row_in n w l t h, get_or-take w (drop (t * w) l) k 0 j) (get_or-drop (t * w) l k 0)

-- a place outside
pub at_row_out : (n w : ℕ) (l : List ℕ) (t k : ℕ) → n ≤ t → at (rows n w l) t k ≡ 0
at_row_out n w l t k h = rw (get_or-eq_default (rows n w l) [] {n = t} (omega (arith, length_rows n w l)))

pub at_out : (n w : ℕ) (l : List ℕ) (t k : ℕ) → t < n → w ≤ k → at (rows n w l) t k ≡ 0
at_out n w l t k h j =
    rw (row_in n w l t h) (get_or-eq_default (take w (drop (t * w) l)) 0 (omega (arith, length-take w (drop (t * w) l))))

-- a store inside
pub rows_put : (n w : ℕ) (l : List ℕ) (t k v : ℕ) → t < n → k < w → rows n w (slice_set l (t * w + k) v) ≡ put (rows n w l) t k v
unfolding rows
rows_put zero w l t k v h j = absurd (omega arith)
rows_put (suc n) w l zero k v h j =
    rw (zero-mul w, zero-add k, take-set-lt w l k v j, drop-set-lt w l k v j)
rows_put (suc n) w l (suc t) k v h j =
    let e : suc t * w + k ≡ w + (t * w + k) = omega arith in
    let o : w ≤ w + (t * w + k) = omega arith in
    rw (e, take-set-le w l (w + (t * w + k)) v o, drop-set-add w l (t * w + k) v)
    (ap (λ (r : List (List ℕ)). take w l ∷ r) (rows_put n w (drop w l) t k v (omega arith) j))

-- stores one after the other
take_sets_le : (n : ℕ) (l : List ℕ) (i : ℕ) (vs : List ℕ) → n ≤ i → take n (sets l i vs) ≡ take n l
take_sets_le n l i [] h = refl
take_sets_le n l i (v ∷ vs) h = take_sets_le n (slice_set l i v) (suc i) vs (omega arith) ∙ take-set-le n l i v h

drop_sets_add : (n : ℕ) (l : List ℕ) (i : ℕ) (vs : List ℕ) → drop n (sets l (n + i) vs) ≡ sets (drop n l) i vs
drop_sets_add n l i [] = refl
drop_sets_add n l i (v ∷ vs) =
    let e : suc (n + i) ≡ n + suc i = omega arith in
    rw (e, drop_sets_add n (slice_set l (n + i) v) (suc i) vs, drop-set-add n l i v)

-- stores at the front: what is stored, and the rest
pub sets_front : (l vs : List ℕ) → length vs ≤ length l → sets l 0 vs ≡ vs ++ drop (length vs) l
sets_front l vs h = rw (sets-eq vs l 0 (rw (zero-add (length vs)) h), zero-add (length vs))

-- w stores make a row
pub rows_sets : (n w : ℕ) (l : List ℕ) (t : ℕ) (vs : List ℕ) → length vs ≡ w → t < n → n * w ≤ length l → rows n w (sets l (t * w) vs) ≡ slice_set (rows n w l) t vs
unfolding rows
rows_sets zero w l t vs e h j = absurd (omega arith)
rows_sets (suc n) w l zero vs e h j =
    let q : sets l 0 vs ≡ vs ++ drop w l = sets_front l vs (omega arith) ∙ rw e in
    rw (zero-mul w, q, take_at vs (drop w l) w e, drop_at vs (drop w l) w e)
rows_sets (suc n) w l (suc t) vs e h j =
    let g : suc t * w ≡ w + t * w = omega arith in
    let o : w ≤ w + t * w = omega arith in
    rw (g, take_sets_le w l (w + t * w) vs o, drop_sets_add w l (t * w) vs)
    (ap (λ (r : List (List ℕ)). take w l ∷ r) (rows_sets n w (drop w l) t vs e (omega arith) (omega (arith, length-drop w l))))

-- a store past them
pub rows_past : (n w : ℕ) (l : List ℕ) (i v : ℕ) → n * w ≤ i → rows n w (slice_set l i v) ≡ rows n w l
unfolding rows
rows_past zero w l i v h = refl
rows_past (suc n) w l i v h =
    let o : w ≤ i = omega arith in
    let e : i ≡ w + (i - w) = omega arith in
    rw (take-set-le w l i v o) (ap (λ (r : List (List ℕ)). take w l ∷ r)
    (rw e (rw (drop-set-add w l (i - w) v) (rows_past n w (drop w l) (i - w) v (omega arith)))))

-- a store outside
pub put_row_out : (n w : ℕ) (l : List ℕ) (t k v : ℕ) → n ≤ t → put (rows n w l) t k v ≡ rows n w l
put_row_out n w l t k v h = set_out (rows n w l) t (slice_set (slice_index_or (rows n w l) t []) k v) (omega (arith, length_rows n w l))

pub put_out : (n w : ℕ) (l : List ℕ) (t k v : ℕ) → t < n → w ≤ k → put (rows n w l) t k v ≡ rows n w l
put_out n w l t k v h j =
    let e : length (slice_index_or (rows n w l) t []) ≤ k = rw (row_in n w l t h) (omega (arith, length-take w (drop (t * w) l))) in
    rw (set_out (slice_index_or (rows n w l) t []) k v e) (set-get_or (rows n w l) t [])

-- a store into a row that was stored whole
pub put_put : (r : List (List ℕ)) (t k v : ℕ) (row : List ℕ) → t < length r → put (slice_set r t row) t k v ≡ slice_set r t (slice_set row k v)
put_put r t k v row h = rw (get_or-set_same r t row [] h, set-set r t row (slice_set row k v))

-- ---- reads after a store

pub at_put_same : (r : List (List ℕ)) (t k v : ℕ) → t < length r → k < length (slice_index_or r t []) → at (put r t k v) t k ≡ v
at_put_same r t k v h j =
    rw (get_or-set_same r t (slice_set (slice_index_or r t []) k v) [] h) (get_or-set_same (slice_index_or r t []) k v 0 j)

pub at_put_row : (r : List (List ℕ)) (t k v u j : ℕ) → u ≢ t → at (put r t k v) u j ≡ at r u j
at_put_row r t k v u j n = rw (get_or-set_other r t u (slice_set (slice_index_or r t []) k v) [] n)

pub length_row : (n w : ℕ) (l : List ℕ) (t : ℕ) → t < n → n * w ≤ length l → length (slice_index_or (rows n w l) t []) ≡ w
length_row n w l t h j =
    let k : suc t * w ≤ n * w = mul-le-mul_right w h in
    rw (row_in n w l t h) (length-take w (drop (t * w) l) ∙ min-eq_left (omega (arith, length-drop (t * w) l)))
