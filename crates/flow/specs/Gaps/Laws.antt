-- The bits of the numbers that the code makes. Assumes nothing.
use Rattle.std.specs.Prelude.{ℕ, zero, suc, ◌-◌, ◌*◌, ◌/◌, ◌%◌, ◌^◌, ◌≤◌, ◌<◌, ◌≡◌, Bool, not, ◌&&◌, ◌||◌, cond, List, [], ◌∷◌, map, eqb, ltb, leb, get_or, set}
use Rattle.std.proofs.Common.{arith, one-mul, ◌∙◌, ap, pow_mono, shl_exact}
use Rattle.std.proofs.Math.Nat.{zero-div}
use Rattle.std.proofs.Math.Path.{refl, sym}
use Rattle.std.proofs.Math.Bool.{true, false}
use Rattle.std.specs.Int.Bits.{bit_and, bit_or, and_mod, or_mod}
use Rattle.std.proofs.lemmas.Nat.{and_shr, or_shr}
use Rattle.std.proofs.Math.ListN.{get_or-eq_default}
use borrow.Author.Tests.{lt-ltb, le-ltb, ltb-true, ltb-false, ne_eqb, lt-leb}
use Rattle.numbers.specs.Search.{every, tabulate}
use Rattle.numbers.specs.Search.Laws.{case_b, every_elim, get_d_tabulate, length_tabulate, tabulate_cong}
use Rattle.flow.specs.Flow.{Gaps, gap_count, past_write, either, arrive, has_gap}
use Rattle.flow.specs.Gaps.{bit, bits, gaps_of, gaps_from}

-- ---- one bit

or_digit : (x y : ℕ) → x < 2 → y < 2 → eqb (bit_or x y) 1 ≡ (eqb x 1 || eqb y 1)
or_digit zero zero h l = refl
or_digit zero (suc zero) h l = refl
or_digit (suc zero) zero h l = refl
or_digit (suc zero) (suc zero) h l = refl
or_digit (suc (suc x)) y h l = absurd (omega arith)
or_digit zero (suc (suc y)) h l = absurd (omega arith)
or_digit (suc zero) (suc (suc y)) h l = absurd (omega arith)

and_digit : (x y : ℕ) → x < 2 → y < 2 → eqb (bit_and x y) 1 ≡ (eqb x 1 && eqb y 1)
and_digit zero zero h l = refl
and_digit zero (suc zero) h l = refl
and_digit (suc zero) zero h l = refl
and_digit (suc zero) (suc zero) h l = refl
and_digit (suc (suc x)) y h l = absurd (omega arith)
and_digit zero (suc (suc y)) h l = absurd (omega arith)
and_digit (suc zero) (suc (suc y)) h l = absurd (omega arith)

module _ (a b k : ℕ) where
  pub bit_or_lem : bit (bit_or a b) k ≡ (bit a k || bit b k)
  unfolding bit
  bit_or_lem =
      rw (or_shr a b k, or_mod (a / 2 ^ k) (b / 2 ^ k) 1)
      (or_digit (a / 2 ^ k % 2) (b / 2 ^ k % 2) (omega arith) (omega arith))

  pub bit_and_lem : bit (bit_and a b) k ≡ (bit a k && bit b k)
  unfolding bit
  bit_and_lem =
      rw (and_shr a b k, and_mod (a / 2 ^ k) (b / 2 ^ k) 1)
      (and_digit (a / 2 ^ k % 2) (b / 2 ^ k % 2) (omega arith) (omega arith))

pub bit_none : (k : ℕ) → bit 0 k ≡ false
unfolding bit
bit_none k = rw (zero-div (2 ^ k))

-- ---- masks, by a test of each

agree : Bool → Bool → Bool
agree a b = cond a b (not b)

agree_is : (a b : Bool) → agree a b ≡ true → a ≡ b
unfolding agree
agree_is true true e = refl
agree_is true false e = sym e
agree_is false true e = e
agree_is false false e = refl

keeps : ℕ → ℕ → Bool
keeps w k = agree (bit (131071 - 2 ^ w) k) (not (eqb k w))

all_keep : every (λ w. every (keeps w) gap_count) gap_count ≡ true
unfolding keeps agree bit Rattle.numbers.specs.Search.computing
all_keep = refl

starts : ℕ → ℕ → Bool
starts p k = agree (bit (131072 - 2 ^ p) k) (leb p k)

all_start : every (λ p. every (starts p) gap_count) gap_count ≡ true
unfolding starts agree bit Rattle.numbers.specs.Search.computing
all_start = refl

module _ (w k : ℕ) (h : w < gap_count) (l : k < gap_count) where
  bit_keep : bit (131071 - 2 ^ w) k ≡ not (eqb k w)
  unfolding keeps
  bit_keep =
      agree_is (bit (131071 - 2 ^ w) k) (not (eqb k w)) (every_elim (keeps w) gap_count k (every_elim (λ x. every (keeps x) gap_count) gap_count w all_keep h) l)

  bit_start : bit (131072 - 2 ^ w) k ≡ leb w k
  unfolding starts
  bit_start =
      agree_is (bit (131072 - 2 ^ w) k) (leb w k) (every_elim (starts w) gap_count k (every_elim (λ x. every (starts x) gap_count) gap_count w all_start h) l)

-- ---- all bits

module _ (m k : ℕ) where
  get_d_bits : k < gap_count → get_or (bits m) k false ≡ bit m k
  unfolding bits
  get_d_bits h = get_d_tabulate gap_count k (bit m) false h

  get_d_beyond : gap_count ≤ k → get_or (bits m) k false ≡ false
  unfolding bits
  get_d_beyond h = get_or-eq_default (bits m) false {n = k} (omega (arith, length_tabulate gap_count (bit m)))

pub bits_or : (a b : ℕ) → bits (bit_or a b) ≡ either (bits a) (bits b)
unfolding bits either
bits_or a b = tabulate_cong gap_count (bit (bit_or a b)) (λ k. get_or (bits a) k false || get_or (bits b) k false)
    (λ k h. bit_or_lem a b k ∙ rw (get_d_bits a k h, get_d_bits b k h))

module _ (m w : ℕ) where
  past_mark : ℕ → Bool
  past_mark k = get_or (bits m) k false && not (eqb k w)

  one_bit : w < gap_count → 1 * 2 ^ w % 4294967296 ≡ 2 ^ w
  one_bit h = shl_exact 1 w 32 (omega arith) (omega arith) ∙ one-mul (2 ^ w)

  pub bit_room : w < gap_count → 65536 ≤ m → 1 * 2 ^ w % 4294967296 ≤ m
  bit_room h l =
      let p : 2 ^ w ≤ 2 ^ 16 = pow_mono {i = w} {j = 16} (omega arith) in
      rw (one_bit h) (omega arith)

  pub past_within : w < gap_count → bits (bit_and m (131071 - 1 * 2 ^ w % 4294967296)) ≡ past_write w (bits m)
  unfolding bits past_write past_mark
  past_within h = rw (one_bit h)
      (tabulate_cong gap_count (bit (bit_and m (131071 - 2 ^ w))) past_mark
      (λ k l. bit_and_lem m (131071 - 2 ^ w) k ∙ rw (bit_keep w k h l, get_d_bits m k l)))

  pub past_beyond : gap_count ≤ w → bits m ≡ past_write w (bits m)
  unfolding bits past_write past_mark
  past_beyond h = tabulate_cong gap_count (bit m) past_mark (λ k l. rw (get_d_bits m k l, ne_eqb k w (λ e. omega arith)) (kept (bit m k)))
    where
      kept : (b : Bool) → b ≡ (b && true)
      kept true = refl
      kept false = refl

module _ (p : ℕ) where
  pub from_within : p < gap_count → 131072 - 1 * 2 ^ p % 4294967296 ≡ gaps_from p
  unfolding gaps_from
  from_within h = rw (one_bit 0 p h, lt-ltb p gap_count h)

  pub from_beyond : gap_count ≤ p → 0 ≡ gaps_from p
  unfolding gaps_from
  from_beyond h = rw (le-ltb p gap_count h)

  -- gap p and those above it
  pub bits_from : bits (gaps_from p) ≡ tabulate gap_count (leb p)
  unfolding bits gaps_from
  bits_from = case_b (ltb p gap_count)
      (λ t. rw t (tabulate_cong gap_count (bit (131072 - 2 ^ p)) (leb p) (λ k l. bit_start p k (ltb-true p gap_count t) l)))
      (λ f. rw f (tabulate_cong gap_count (bit 0) (leb p) (λ k l. bit_none k ∙ sym (lt-leb p k (omega (arith, ltb-false p gap_count f))))))

-- ---- rows of gaps

gap_bit : (l : List ℕ) (n k : ℕ) → k < gap_count → bit (get_or l n 0) k ≡ has_gap (gaps_of l) n k
unfolding has_gap gaps_of
gap_bit [] n k h = bit_none k
gap_bit (m ∷ l) zero k h = sym (get_d_bits m k h)
gap_bit (m ∷ l) (suc n) k h = gap_bit l n k h

pub gap_beyond : (l : List ℕ) (n k : ℕ) → gap_count ≤ k → false ≡ has_gap (gaps_of l) n k
unfolding has_gap gaps_of
gap_beyond [] n k h = refl
gap_beyond (m ∷ l) zero k h = sym (get_d_beyond m k h)
gap_beyond (m ∷ l) (suc n) k h = gap_beyond l n k h

pub gap_within : (l : List ℕ) (n k m : ℕ) → m ≡ get_or l n 0 → k < gap_count → eqb (m / 2 ^ k % 2) 1 ≡ has_gap (gaps_of l) n k
unfolding bit
gap_within l n k m e h = rw e (gap_bit l n k h)

arrived : (l : List ℕ) (t m : ℕ) → gaps_of (set l t (bit_or (get_or l t 0) m)) ≡ arrive (gaps_of l) t (bits m)
unfolding gaps_of arrive
arrived [] t m = refl
arrived (x ∷ l) zero m = ap (λ (r : List Bool). r ∷ map bits l) (bits_or x m)
arrived (x ∷ l) (suc t) m = ap (λ (r : Gaps). bits x ∷ r) (arrived l t m)

pub arrives : (l l' : List ℕ) (t m had : ℕ) → had ≡ get_or l t 0 → l' ≡ set l t (bit_or had m) → gaps_of l' ≡ arrive (gaps_of l) t (bits m)
arrives l l' t m had e f = rw (f, e) (arrived l t m)
