-- The tests of `specs/Seats.antt` are true exactly where a seat is entitled to what it asks for, in the words of `specs/Seats/Entitled.antt`. Assumes nothing.
use Rattle.std.specs.Prelude.{ℕ, ◌+◌, ◌*◌, ◌<◌, ◌≤◌, ◌≡◌, ◌⊎◌, ◌↔◌, Bool, true, false, ◌&&◌, ◌||◌, List, ltb, eqb, pos}
use Rattle.std.proofs.Common.{arith, sym, ◌∙◌, inl, inr, ⊎_elim, to_z, of_z, eqb-true, eq-eqb, ltb-true, lt-ltb, le-ltb}
use Rattle.std.proofs.Math.Path.{ap}
use Rattle.std.proofs.Math.ListN.{get_or}
use Rattle.std.specs.Int.{w32}
use Rattle.std.proofs.Math.Facts.{to_z_pos, of_z-to_z}
use Rattle.numbers.specs.Bytes.{words}
use Rattle.numbers.specs.Bytes.Laws.{numbers_fit}
use Rattle.numbers.specs.Search.Laws.{case_b, contra}
use Rattle.numbers.specs.Tests.{and_left, and_right}
use Rattle.rules.specs.Seats.{right_at, grants_first, grants_second, grants, has_right}
use Rattle.rules.specs.declared.Right.{Right}
use Rattle.rules.specs.declared.Right.TheVariants.{Take, Give, StepAndRun, Collect}
use Rattle.rules.specs.Seats.Entitled.{number_at, OneOrThree, TwoOrThree, Entitled}

-- ---- tests and what they say

-- a number that is not negative has itself as its pattern
pub number_is : (v n : ℕ) → v < 4294967296 → n < 2147483648 → to_z w32 v ≡ pos n → v ≡ n
number_is v n l h e =
    sym (of_z-to_z {w = w32} {n = v} (record { fits = l })) ∙ ap (of_z w32) (e ∙ sym (to_z_pos w32 {n = n} h)) ∙ of_z-to_z {w = w32} {n = n} (record { fits = omega arith })

is_number : (v n : ℕ) → n < 2147483648 → v ≡ n → to_z w32 v ≡ pos n
is_number v n h q = ap (to_z w32) q ∙ to_z_pos w32 {n = n} h

-- of a number of 32 bits: it is a or 3
or_three : (v a : ℕ) → v < 4294967296 → a < 2147483648 → ((eqb v a || eqb v 3) ≡ true) ↔ ((to_z w32 v ≡ pos a) ⊎ (to_z w32 v ≡ pos 3))
or_three v a l h = (
  λ e. case_b (eqb v a)
      (λ y. inl (is_number v a h (eqb-true v a y)))
      (λ n. inr (is_number v 3 (omega arith) (eqb-true v 3 (rw n at e)))),
  ⊎_elim
      (λ z. rw (eq-eqb v a (number_is v a l h z)))
      (λ z. case_b (eqb v a) (λ y. rw y) (λ n. rw (n, eq-eqb v 3 (number_is v 3 l (omega arith) z)))),
)

-- a number is at most 7, and a test is true; and the same of two numbers
both_iff : (n : ℕ) (b : Bool) {B : Type 0} → (b ≡ true) ↔ B → ((ltb n 8 && b) ≡ true) ↔ ((n ≤ 7) × B)
both_iff n b i = (
  λ e. (omega (arith, ltb-true n 8 (and_left (ltb n 8) b e)), i.0 (and_right (ltb n 8) b e)),
  λ (l, x). rw (lt-ltb n 8 (omega arith), i.1 x),
)

all_iff : (m n : ℕ) (b : Bool) {B : Type 0} → (b ≡ true) ↔ B → ((ltb m 8 && (ltb n 8 && b)) ≡ true) ↔ ((m ≤ 7) × (n ≤ 7) × B)
all_iff m n b i = let j = both_iff m (ltb n 8 && b) (both_iff n b i) in (
  λ e. let (l, (h, x)) = j.0 e in (l, h, x),
  λ (l, h, x). j.1 (l, (h, x)),
)

module _ (rights : List ℕ) (fit : (i : ℕ) → get_or rights i 0 < 256) (seat : ℕ) where
  -- the number of a seat at place k
  right_at_lem : (k : ℕ) → right_at rights seat k ≡ get_or (words rights) (9 * seat + k) 0
  unfolding right_at
  right_at_lem k = ap (λ (i : ℕ). get_or (words rights) i 0) (omega arith)

  first_iff : (k : ℕ) → (grants_first (right_at rights seat k) ≡ true) ↔ OneOrThree (number_at rights (9 * seat + k))
  unfolding grants_first
  first_iff k = rw (right_at_lem k) (or_three (get_or (words rights) (9 * seat + k) 0) 1 (numbers_fit 4 rights fit (9 * seat + k)) (omega arith))

  second_iff : (k : ℕ) → (grants_second (right_at rights seat k) ≡ true) ↔ TwoOrThree (number_at rights (9 * seat + k))
  unfolding grants_second
  second_iff k = rw (right_at_lem k) (or_three (get_or (words rights) (9 * seat + k) 0) 2 (numbers_fit 4 rights fit (9 * seat + k)) (omega arith))

  -- ---- the theorems

  -- a seat has a right exactly when it is entitled to it
  pub has_right_iff : (right : Right) → (has_right rights seat right ≡ true) ↔ Entitled rights seat right
  unfolding has_right grants Entitled
  has_right_iff (Take p) = all_iff seat p _ (first_iff p)
  has_right_iff (Give p) = all_iff seat p _ (second_iff p)
  has_right_iff StepAndRun = both_iff seat _ (first_iff 8)
  has_right_iff Collect = both_iff seat _ (second_iff 8)

  -- and has it not exactly when it is not
  pub lacks_right_iff : (right : Right) → (has_right rights seat right ≡ false) ↔ (¬ Entitled rights seat right)
  lacks_right_iff right = (
    λ e w. contra ((has_right_iff right).1 w) e,
    λ n. case_b (has_right rights seat right) (λ e. absurd (n ((has_right_iff right).0 e))) (λ e. e),
  )

-- no list gives any seat a right on a port above 7
pub no_right_above : (rights : List ℕ) (seat p : ℕ) → 8 ≤ p → (has_right rights seat (Take p) ≡ false) × (has_right rights seat (Give p) ≡ false)
unfolding has_right grants
no_right_above rights seat p l = case_b (ltb seat 8)
    (λ y. (rw (y, le-ltb p 8 l), rw (y, le-ltb p 8 l)))
    (λ n. (rw n, rw n))
