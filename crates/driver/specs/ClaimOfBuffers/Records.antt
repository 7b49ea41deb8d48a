-- The records of a buffer: the first of them, the call of each, and the words of each answer. Assumes nothing.
use Prim.Native.Nat.{ℕ, zero, suc, ◌+◌, ◌*◌, ◌/◌, ◌<◌, ◌≤◌}
use native.Mathlib.Omega.{arith}
use Rattle.std.proofs.Common.{zero-add, ◌∙◌, length-append, length-set, length-take-le, take-take, get_or-take, get_or-set_same, get_or-set_other, ext_get_or}
use Rattle.std.specs.Prelude.{◌≡◌, get_or, set, take, drop}
use Rattle.std.proofs.Math.Path.{refl, sym, ap}
use mathlib.Core.List.{List, [], ◌∷◌, ◌++◌}
use Rattle.std.proofs.Math.ListN.{length}
use Rattle.std.proofs.Math.Seq.{append_snoc}
use Rattle.numbers.specs.Bytes.{little, words}
use Rattle.numbers.specs.Bytes.Laws.{length_numbers, number_in_lem}
use Rattle.guarantee.specs.Claim.{Any}
use Rattle.guarantee.specs.SeatedClaim.{AtSeat, after_seat, after_seats}
use Rattle.driver.specs.Encoding.{seated_by, called_by, record_at, calls_of, answer_at, words_of, answers_to, written_from}
use Rattle.driver.specs.Encoding.Laws.{called_next}
use Rattle.driver.specs.ClaimOfBuffers.{call_count, word_at}

-- ---- the first words of a buffer

part_within : (n k m : ℕ) (l : List ℕ) → k + n ≤ m → take n (drop k (take m l)) ≡ take n (drop k l)
part_within n zero m l h = take-take n m l (omega arith)
part_within n (suc k) zero l h = absurd (omega arith)
part_within n (suc k) (suc m) [] h = refl
part_within n (suc k) (suc m) (x ∷ l) h = part_within n k m l (omega arith)

words_first : (n : ℕ) (b : List ℕ) → n * 4 ≤ length b → words (take (n * 4) b) ≡ take n (words b)
words_first n b l =
    let m : length (take (n * 4) b) ≡ n * 4 = length-take-le (n * 4) b l in
    let p : length (words (take (n * 4) b)) ≡ n = length_numbers 4 (take (n * 4) b) ∙ omega (arith, m) in
    let q : length (take n (words b)) ≡ n = length-take-le n (words b) (omega (arith, length_numbers 4 b)) in
    ext_get_or 0 (words (take (n * 4) b)) (take n (words b)) (p ∙ sym q)
    (λ i h. number_in_lem 4 (take (n * 4) b) i (omega (arith, m, p))
    ∙ ap little (part_within 4 (i * 4) (n * 4) b (omega (arith, p)))
    ∙ sym (number_in_lem 4 b i (omega (arith, p)))
    ∙ sym (get_or-take n (words b) i 0 (omega (arith, p))))

-- ---- the first calls of a list of words

module _ (lists : List ℕ) where
  called_last : (ws : List ℕ) (i : ℕ) → i < length ws / 6 → called_by lists (take (suc i * 6) ws) ≡ called_by lists (take (i * 6) ws) ++ (record_at lists ws i ∷ [])
  unfolding called_by record_at
  called_last [] i h = absurd (omega arith)
  called_last (c ∷ []) i h = absurd (omega arith)
  called_last (c ∷ a ∷ []) i h = absurd (omega arith)
  called_last (c ∷ a ∷ v ∷ []) i h = absurd (omega arith)
  called_last (c ∷ a ∷ v ∷ s ∷ []) i h = absurd (omega arith)
  called_last (c ∷ a ∷ v ∷ s ∷ f ∷ []) i h = absurd (omega arith)
  called_last (c ∷ a ∷ v ∷ s ∷ f ∷ n ∷ ws) zero h = refl
  called_last (c ∷ a ∷ v ∷ s ∷ f ∷ n ∷ ws) (suc i) h =
      let q : (k : ℕ) → suc i * 6 + k ≡ suc (suc (suc (suc (suc (suc (i * 6 + k)))))) = λ k. omega arith in
      let q₀ : suc i * 6 ≡ suc (suc (suc (suc (suc (suc (i * 6)))))) = omega arith in
      let q₁ : suc (suc i) * 6 ≡ suc (suc (suc (suc (suc (suc (suc i * 6)))))) = omega arith in
      rw (q 1, q 2, q 3, q 4, q 5, q₀, q₁) (ap (λ (r : List (AtSeat Any)). seated_by lists c a v s f n ∷ r) (called_last ws i (omega arith)))

  first_length : (ws : List ℕ) (i : ℕ) → i * 6 ≤ length ws → length (called_by lists (take (i * 6) ws)) ≡ i
  unfolding called_by
  first_length ws zero h = refl
  first_length ws (suc i) h =
      rw (called_last ws i (omega arith))
      (length-append (called_by lists (take (i * 6) ws)) (record_at lists ws i ∷ []) ∙ omega (arith, first_length ws i (omega arith)))

  -- the first i calls, and then the others
  first_rest : (ws : List ℕ) (i : ℕ) → i * 6 ≤ length ws → called_by lists ws ≡ called_by lists (take (i * 6) ws) ++ called_by lists (drop (i * 6) ws)
  unfolding called_by
  first_rest ws zero h = refl
  first_rest ws (suc i) h =
      let q : i * 6 + 6 ≡ suc i * 6 = omega arith in
      let l : i < length ws / 6 = omega arith in
      first_rest ws i (omega arith)
      ∙ ap (λ (r : List (AtSeat Any)). called_by lists (take (i * 6) ws) ++ r) (called_next lists ws i l)
      ∙ sym (append_snoc (called_by lists (take (i * 6) ws)) (record_at lists ws i) (called_by lists (drop (i * 6 + 6) ws)))
      ∙ rw (called_last ws i l, q)

  -- of a buffer
  module _ (calls : List ℕ) where
    first_is : (i : ℕ) → i ≤ call_count calls → calls_of lists (take (i * 24) calls) ≡ called_by lists (take (i * 6) (words calls))
    first_is i h =
        let q : i * 24 ≡ i * 6 * 4 = omega arith in
        rw q (ap (called_by lists) (words_first (i * 6) calls (omega arith)))

    pub whole_is : (i : ℕ) → i < call_count calls
        → calls_of lists calls ≡ calls_of lists (take (i * 24) calls) ++ (record_at lists (words calls) i ∷ called_by lists (drop (i * 6 + 6) (words calls)))
    whole_is i h =
        first_rest (words calls) i (omega (arith, length_numbers 4 calls))
        ∙ rw (first_is i (omega arith), called_next lists (words calls) i (omega (arith, length_numbers 4 calls)))

    first_next : (i : ℕ) → i < call_count calls → calls_of lists (take (suc i * 24) calls) ≡ calls_of lists (take (i * 24) calls) ++ (record_at lists (words calls) i ∷ [])
    first_next i h =
        first_is (suc i) (omega arith) ∙ called_last (words calls) i (omega (arith, length_numbers 4 calls))
        ∙ ap (λ (r : List (AtSeat Any)). r ++ (record_at lists (words calls) i ∷ [])) (sym (first_is i (omega arith)))

    first_long : (i : ℕ) → i ≤ call_count calls → length (calls_of lists (take (i * 24) calls)) ≡ i
    first_long i h = rw (first_is i h) (first_length (words calls) i (omega (arith, length_numbers 4 calls)))

-- ---- the answers to a list of calls

seats_append : (table s : List ℕ) (p q : List (AtSeat Any)) → after_seats table s (p ++ q) ≡ after_seats table (after_seats table s p) q
unfolding after_seats
seats_append table s [] q = refl
seats_append table s (k ∷ p) q = seats_append table (after_seat table s k) p q

answers_long : (table s : List ℕ) (ks : List (AtSeat Any)) → length (answers_to table s ks) ≡ length ks * 5
unfolding answers_to words_of
answers_long table s [] = refl
answers_long table s (k ∷ ks) = omega (arith, answers_long table (after_seat table s k) ks)

answers_at : (table s : List ℕ) (p : List (AtSeat Any)) (k : AtSeat Any) (q : List (AtSeat Any)) (c : ℕ) → c < 5
    → get_or (answers_to table s (p ++ (k ∷ q))) (length p * 5 + c) 0 ≡ get_or (words_of (answer_at table (after_seats table s p) k)) c 0
unfolding answers_to after_seats words_of
answers_at table s [] k q zero h = refl
answers_at table s [] k q (suc zero) h = refl
answers_at table s [] k q (suc (suc zero)) h = refl
answers_at table s [] k q (suc (suc (suc zero))) h = refl
answers_at table s [] k q (suc (suc (suc (suc zero)))) h = refl
answers_at table s [] k q (suc (suc (suc (suc (suc c))))) h = absurd (omega arith)
answers_at table s (m ∷ p) k q c h =
    let e : suc (length p) * 5 + c ≡ suc (suc (suc (suc (suc (length p * 5 + c))))) = omega arith in
    rw e (answers_at table (after_seat table s m) p k q c h)

-- ---- what was written is read back

written_below : (ws b : List ℕ) (i k : ℕ) → k < i → get_or (written_from b i ws) k 0 ≡ get_or b k 0
unfolding written_from
written_below [] b i k h = refl
written_below (w ∷ ws) b i k h = written_below ws (set b i w) (suc i) k (omega arith) ∙ get_or-set_other b i k w 0 (λ e. omega arith)

written_from_lem : (ws b : List ℕ) (i j : ℕ) → j < length ws → i + j < length b → get_or (written_from b i ws) (i + j) 0 ≡ get_or ws j 0
unfolding written_from
written_from_lem [] b i j h l = absurd (omega arith)
written_from_lem (w ∷ ws) b i zero h l =
    let e : i + 0 ≡ i = omega arith in
    rw e (written_below ws (set b i w) (suc i) i (omega arith) ∙ get_or-set_same b i w 0 (omega arith))
written_from_lem (w ∷ ws) b i (suc j) h l =
    let e : i + suc j ≡ suc i + j = omega arith in
    rw e (written_from_lem ws (set b i w) (suc i) j (omega arith) (omega (arith, length-set b i w)))

written_at : (ws b : List ℕ) (j : ℕ) → j < length ws → j < length b → get_or (written_from b 0 ws) j 0 ≡ get_or ws j 0
written_at ws b j h l = ap (λ x. get_or (written_from b 0 ws) x 0) (sym (zero-add j)) ∙ written_from_lem ws b 0 j h (omega arith)

-- ---- the state between, and the words of the answer to call i

module _ (table begun lists calls : List ℕ) where
  abbrev pub reached : ℕ → List ℕ
  reached i = after_seats table begun (calls_of lists (take (i * 24) calls))

  module _ (i : ℕ) (l : i < call_count calls) where
    pub reached_next : reached (suc i) ≡ after_seat table (reached i) (record_at lists (words calls) i)
    unfolding after_seats
    reached_next =
        ap (after_seats table begun) (first_next lists calls i l)
        ∙ seats_append table begun (calls_of lists (take (i * 24) calls)) (record_at lists (words calls) i ∷ [])

    pub word_is : (a : List ℕ) (c : ℕ) → i * 5 + 5 ≤ length a → c < 5
        → word_at (written_from a 0 (answers_to table begun (calls_of lists calls))) i c ≡ get_or (words_of (answer_at table (reached i) (record_at lists (words calls) i))) c 0
    word_is a c m h =
        let p = calls_of lists (take (i * 24) calls) in
        let k = record_at lists (words calls) i in
        let q = called_by lists (drop (i * 6 + 6) (words calls)) in
        let n : length p ≡ i = first_long lists calls i (omega arith) in
        let z : length (p ++ (k ∷ q)) ≡ length p + suc (length q) = length-append p (k ∷ q) in
        let ws = answers_to table begun (p ++ (k ∷ q)) in
        let long : i * 5 + c < length ws = omega (arith, answers_long table begun (p ++ (k ∷ q)), z, n) in
        ap (λ ks. word_at (written_from a 0 (answers_to table begun ks)) i c) (whole_is lists calls i l)
        ∙ written_at ws a (i * 5 + c) long (omega arith)
        ∙ ap (λ x. get_or ws (x * 5 + c) 0) (sym n) ∙ answers_at table begun p k q c h
