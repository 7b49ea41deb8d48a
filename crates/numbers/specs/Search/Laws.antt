-- The laws of `every`, `first`, `some`, `sum_to` and `tabulate`. Assumes nothing.
use Rattle.std.specs.Prelude.{◌≡◌, ℕ, zero, suc, ◌+◌, ◌<◌, ◌≤◌, Bool, true, false, cond, not, ◌&&◌, ◌≢◌, List, [], ◌∷◌, ◌++◌, length, get_or, ◌==◌, nat_lt}
use native.Mathlib.Omega.{arith}
use Rattle.std.proofs.Common.{add-one, ◌∙◌, ap, ext_get_or}
use Rattle.std.proofs.Math.Decide.{le_ind}
use Rattle.std.proofs.Math.Path.{refl, sym}
use borrow.Author.Tests.{lt-ltb, le-ltb, ltb-true, ltb-false, eqb-true, eqb-false, not-true, not-false}
use Rattle.numbers.specs.Tests.{clash, and_left, and_right}
use Rattle.numbers.specs.Search.{every, first, some, sum_to, list_from, tabulate}

-- a goal by the two values of a test, each with its equation
pub case_b {ℓ} : {A : Type ℓ} (b : Bool) → (b ≡ true → A) → (b ≡ false → A) → A
case_b true t f = t refl
case_b false t f = f refl

-- a test that is both true and false
pub contra {ℓ} : {A : Type ℓ} {b : Bool} → b ≡ true → b ≡ false → A
contra t f = clash cc

-- two tests that follow from each other
pub same_truth : (a b : Bool) → (a ≡ true → b ≡ true) → (b ≡ true → a ≡ true) → a ≡ b
same_truth true b f g = sym (f refl)
same_truth false b f g = case_b b (λ t. g t ∙ sym t) (λ e. sym e)

-- ---- all

module _ (p : ℕ → Bool) where
  pub every_none : every p 0 ≡ true
  unfolding every
  every_none = refl

  pub every_more : (i : ℕ) (r : Bool) → every p i ≡ true → r ≡ p i → r ≡ true → every p (i + 1) ≡ true
  unfolding every
  every_more i r e f g = rw (add-one i, e, ← f, g)

  -- all were passed
  pub every_all : (i n : ℕ) → every p i ≡ true → i ≤ n → n ≤ i → true ≡ every p n
  every_all i n e h l = let q : i ≡ n = omega arith in sym (rw q at e)

  -- one fails
  pub every_not : (i n : ℕ) (r : Bool) → r ≡ p i → r ≡ false → i < n → false ≡ every p n
  unfolding every
  every_not i n r f g h = sym (le_ind (λ (m : ℕ). every p m ≡ false) (step (every p i)) (λ m j e. rw e) n h)
    where
      step : (t : Bool) → cond t (p i) false ≡ false
      step true = sym f ∙ g
      step false = refl

  -- a call answered for one of them, and its answer was turned
  module _ (i : ℕ) (r : Bool) (f : r ≡ p i) where
    pub every_passed : every p i ≡ true → not r ≡ false → every p (i + 1) ≡ true
    every_passed e g = every_more i r e f (not-false r g)

    pub every_failed : (n : ℕ) → not r ≡ true → i < n → false ≡ every p n
    every_failed n g h = every_not i n r f (not-true r g) h

  pub every_elim : (n i : ℕ) → every p n ≡ true → i < n → p i ≡ true
  every_elim n i e h = case_b (p i) (λ t. t) (λ f. contra e (sym (every_not i n (p i) refl f h)))

  pub every_intro : (n : ℕ) → ((i : ℕ) → i < n → p i ≡ true) → every p n ≡ true
  unfolding every
  every_intro zero h = refl
  every_intro (suc n) h = rw (every_intro n (λ i l. h i (omega arith)), h n (omega arith))

-- where a test holds of all that come, it is enough to have tried the first
pub every_rest : (p : ℕ → Bool) (m n : ℕ) → m ≤ n → ((k : ℕ) → m ≤ k → k < n → p k ≡ true) → every p m ≡ every p n
every_rest p m n h f =
    same_truth (every p m) (every p n)
    (λ t. every_intro p n (λ i l. case_b (nat_lt i m) (λ y. every_elim p m i t (ltb-true i m y)) (λ z. f i (ltb-false i m z) l)))
    (λ t. every_intro p m (λ i l. every_elim p n i t (omega arith)))

-- all tests are made, whether those before them passed or not: a says whether they did
module _ (p : ℕ → Bool) where
  pub tests_none : true ≡ every p 0
  unfolding every
  tests_none = refl

  pub tests_more : (i : ℕ) (a r : Bool) → a ≡ every p i → r ≡ p i → (a && r) ≡ every p (i + 1)
  unfolding every
  tests_more i a r e f = rw (add-one i, ← e, ← f) (both a)
    where
      both : (a : Bool) → (a && r) ≡ cond a r false
      both true = refl
      both false = refl

  pub tests_all : (i n : ℕ) (a : Bool) → a ≡ every p i → i ≤ n → n ≤ i → a ≡ every p n
  tests_all i n a e h l = let q : i ≡ n = omega arith in rw q at e

pub every_cong : (p q : ℕ → Bool) (n : ℕ) → ((i : ℕ) → i < n → p i ≡ q i) → every p n ≡ every q n
unfolding every
every_cong p q zero h = refl
every_cong p q (suc n) h = rw (every_cong p q n (λ i l. h i (omega arith)), h n (omega arith))

-- two tests of each number are one
pub every_and : (p q : ℕ → Bool) (n : ℕ) → every (λ i. p i && q i) n ≡ (every p n && every q n)
every_and p q n = same_truth (every (λ i. p i && q i) n) (every p n && every q n)
    (λ t. rw (every_intro p n (λ i h. and_left (p i) (q i) (every_elim (λ i. p i && q i) n i t h)), every_intro q n (λ i h. and_right (p i) (q i) (every_elim (λ i. p i && q i) n i t h))))
    (λ t. every_intro (λ i. p i && q i) n
    (λ i h. rw (every_elim p n i (and_left (every p n) (every q n) t) h, every_elim q n i (and_right (every p n) (every q n) t) h)))

pub ruleset every_laws = (every_none, every_more, every_all, every_not)

-- ---- the first

module _ (p : ℕ → Bool) where
  -- none below 0
  pub first_none : first p 0 ≡ 0
  unfolding first
  first_none = refl

  -- none below i, and not i
  pub first_more : (i : ℕ) (r : Bool) → first p i ≡ i → r ≡ p i → r ≡ false → first p (i + 1) ≡ i + 1
  unfolding first
  first_more i r e f g = rw (add-one i, e, le-ltb i i (omega arith), ← f, g)

  -- none below i, and i
  pub first_hit : (i n : ℕ) (r : Bool) → first p i ≡ i → r ≡ p i → r ≡ true → i < n → i ≡ first p n
  unfolding first
  first_hit i n r e f g h =
      let t : p i ≡ true = sym f ∙ g in
      sym (le_ind (λ (m : ℕ). first p m ≡ i) (rw (e, le-ltb i i (omega arith), t)) (λ m j q. rw (q, lt-ltb i m (omega arith))) n h)

  -- none at all
  pub first_all : (i n : ℕ) → first p i ≡ i → i ≤ n → n ≤ i → n ≡ first p n
  first_all i n e h l = let q : n ≡ i = omega arith in rw q (sym e)

  pub first_le : (n : ℕ) → first p n ≤ n
  unfolding first
  first_le zero = omega arith
  first_le (suc n) =
      let h = first_le n in
      case_b (nat_lt (first p n) n) (λ t. rw t (omega arith)) (λ f. rw f (case_b (p n) (λ t. rw t (omega arith)) (λ g. rw g (omega arith))))

  -- where there is one, it passes, and none before it does
  pub first_passes : (n : ℕ) → first p n < n → p (first p n) ≡ true
  unfolding first
  first_passes zero h = absurd (omega arith)
  first_passes (suc n) h =
      case_b (nat_lt (first p n) n)
      (λ t. rw t (first_passes n (ltb-true (first p n) n t)))
      (λ f. rw f (case_b (p n) (λ t. rw t t) (λ g. absurd (let k : suc n < suc n = rw (f, g) at h in omega arith))))

  pub first_below : (n i : ℕ) → i < first p n → p i ≡ false
  unfolding first
  first_below zero i h = absurd (omega arith)
  first_below (suc n) i h =
      case_b (nat_lt (first p n) n)
      (λ t. first_below n i (rw t at h))
      (λ f. case_b (p n)
      (λ t. let k : i < n = rw (f, t) at h in first_below n i (omega (arith, ltb-false (first p n) n f)))
      (λ g. let k : i < suc n = rw (f, g) at h in
      case_b (nat_lt i n) (λ y. first_below n i (omega (arith, ltb-true i n y, ltb-false (first p n) n f))) (λ y. let q : i ≡ n = omega (arith, ltb-false i n y) in rw q g)))

  -- none of those below n passes
  pub first_void : (n : ℕ) → ((i : ℕ) → i < n → p i ≡ false) → first p n ≡ n
  first_void n h =
      case_b (nat_lt (first p n) n)
      (λ t. contra (first_passes n (ltb-true (first p n) n t)) (h (first p n) (ltb-true (first p n) n t)))
      (λ f. omega (arith, ltb-false (first p n) n f, first_le n))

  -- none below i passes, and none from i on
  pub first_rest : (i n : ℕ) → first p i ≡ i → ((k : ℕ) → i ≤ k → p k ≡ false) → first p n ≡ n
  first_rest i n e h =
      first_void n (λ k l. case_b (nat_lt k i)
      (λ y. first_below i k (let q : k < i = ltb-true k i y in rw e q))
      (λ y. h k (ltb-false k i y)))

  -- the first is the one that passes with none before it
  pub first_is : (n i : ℕ) → i < n → p i ≡ true → ((j : ℕ) → j < i → p j ≡ false) → first p n ≡ i
  first_is n i l t h = sym (first_hit i n (p i) (first_void i h) refl t l)

module _ (p : ℕ → Bool) where
  -- some number passes, or all fail
  pub some_elim : (n : ℕ) → some p n ≡ true → (i : ℕ) × (i < n) × (p i ≡ true)
  unfolding some
  some_elim n e = let l : first p n < n = ltb-true (first p n) n e in (first p n, l, first_passes p n l)

  pub some_intro : (n i : ℕ) → i < n → p i ≡ true → some p n ≡ true
  unfolding some
  some_intro n i l t =
      case_b (nat_lt (first p n) n) (λ e. e) (λ f. contra t (first_below p n i (omega (arith, ltb-false (first p n) n f))))

  pub some_void : (n : ℕ) → ((i : ℕ) → i < n → p i ≡ false) → some p n ≡ false
  some_void n h = case_b (some p n) (λ t. let (i, l, e) = some_elim n t in contra e (h i l)) (λ f. f)

  pub some_none : (n i : ℕ) → some p n ≡ false → i < n → p i ≡ false
  some_none n i e l = case_b (p i) (λ t. contra (some_intro n i l t) e) (λ f. f)

  -- by a pass upward
  pub some_zero : some p 0 ≡ false
  some_zero = some_void 0 (λ i h. absurd (omega arith))

  -- one more that passes, and one more that does not
  some_kept : (n : ℕ) → some p n ≡ true → some p (suc n) ≡ true
  some_kept n e = let (i, l, h) = some_elim n e in some_intro (suc n) i (omega arith) h

  some_here : (n : ℕ) → p n ≡ true → some p (suc n) ≡ true
  some_here n e = some_intro (suc n) n (omega arith) e

  pub some_still : (n : ℕ) → some p n ≡ false → p n ≡ false → some p (suc n) ≡ false
  some_still n e f = some_void (suc n)
      (λ i l. case_b (nat_lt i n) (λ y. some_none n i e (ltb-true i n y)) (λ y. let q : i ≡ n = omega (arith, ltb-false i n y) in rw q f))

  pub some_suc : (n : ℕ) → some p (suc n) ≡ cond (some p n) true (p n)
  some_suc n = case_b (some p n)
      (λ t. rw (t, some_kept n t))
      (λ f. rw f (case_b (p n) (λ y. rw (y, some_here n y)) (λ y. rw (y, some_still n f y))))

  -- numbers that all fail add nothing
  pub some_more : (m n : ℕ) → m ≤ n → ((i : ℕ) → m ≤ i → i < n → p i ≡ false) → some p n ≡ some p m
  some_more m n h f = case_b (some p m)
      (λ t. let (i, l, e) = some_elim m t in rw (t, some_intro n i (omega arith) e))
      (λ y. rw (y, some_void n (λ i l. case_b (nat_lt i m) (λ z. some_none m i y (ltb-true i m z)) (λ z. f i (ltb-false i m z) l))))

-- one of those below n fails a test that not all pass
pub every_fails : (p : ℕ → Bool) (n : ℕ) → every p n ≡ false → (i : ℕ) × (i < n) × (p i ≡ false)
every_fails p n e = case_b (some (λ i. not (p i)) n)
    (λ y. let (i, l, f) = some_elim (λ i. not (p i)) n y in (i, l, not-true (p i) f))
    (λ y. contra (every_intro p n (λ i l. not-false (p i) (some_none (λ i. not (p i)) n i y l))) e)

pub first_cong : (p q : ℕ → Bool) (n : ℕ) → ((i : ℕ) → i < n → p i ≡ q i) → first p n ≡ first q n
unfolding first
first_cong p q zero h = refl
first_cong p q (suc n) h = rw (first_cong p q n (λ i l. h i (omega arith)), h n (omega arith))

pub some_cong : (p q : ℕ → Bool) (n : ℕ) → ((i : ℕ) → i < n → p i ≡ q i) → some p n ≡ some q n
unfolding some
some_cong p q n h = rw (first_cong p q n h)

-- ---- sums

module _ (f : ℕ → ℕ) where
  pub sum_none : sum_to f 0 ≡ 0
  unfolding sum_to
  sum_none = refl

  pub sum_suc : (i : ℕ) → sum_to f (suc i) ≡ sum_to f i + f i
  unfolding sum_to
  sum_suc i = refl

  pub sum_more : (i s v : ℕ) → s ≡ sum_to f i → v ≡ f i → s + v ≡ sum_to f (i + 1)
  sum_more i s v e g = rw (add-one i, sum_suc i, e, g)

  pub sum_mono : (m n : ℕ) → m ≤ n → sum_to f m ≤ sum_to f n
  sum_mono m n h = le_ind (λ (k : ℕ). sum_to f m ≤ sum_to f k) (omega arith) (λ k j e. omega (arith, sum_suc k)) n h

-- ---- lists

-- ---- sums, place by place

module _ (f g : ℕ → ℕ) where
  pub sum_below : (n : ℕ) → ((i : ℕ) → i < n → f i ≤ g i) → sum_to f n ≤ sum_to g n
  sum_below zero h = omega (arith, sum_none f)
  sum_below (suc n) h = omega (arith, sum_suc f n, sum_suc g n, sum_below n (λ i l. h i (omega arith)), h n (omega arith))

  -- where f may be above g at place k alone, the sum is above by no more than f is there
  pub sum_but_one : (n k : ℕ) → k < n → ((i : ℕ) → i < n → i ≢ k → f i ≤ g i) → sum_to f n + g k ≤ sum_to g n + f k
  sum_but_one zero k l h = absurd (omega arith)
  sum_but_one (suc n) k l h = case_b (k == n)
      (λ y. let q : k ≡ n = eqb-true k n y in
      rw q (omega (arith, sum_suc f n, sum_suc g n, sum_below n (λ i m. h i (omega arith) (λ e. omega arith)))))
      (λ y. let o : k ≢ n = eqb-false k n y in
      omega (arith, sum_suc f n, sum_suc g n, sum_but_one n k (omega arith) (λ i m e. h i (omega arith) e), h n (omega arith) (λ e. omega arith)))

pub sum_ones : (n : ℕ) → sum_to (λ i. 1) n ≡ n
sum_ones zero = sum_none (λ i. 1)
sum_ones (suc n) = omega (arith, sum_suc (λ i. 1) n, sum_ones n)

pub get_d_list_from {ℓ} : {A : Type ℓ} (i n k : ℕ) (f : ℕ → A) (d : A) → k < n → get_or (list_from i n f) k d ≡ f (i + k)
unfolding list_from
get_d_list_from i zero k f d l = absurd (omega arith)
get_d_list_from i (suc n) zero f d l = ap f (let h : i ≡ i + 0 = omega arith in h)
get_d_list_from i (suc n) (suc k) f d l = get_d_list_from (suc i) n k f d (omega arith) ∙ ap f (let h : suc i + k ≡ i + suc k = omega arith in h)

pub get_d_tabulate {ℓ} : {A : Type ℓ} (n k : ℕ) (f : ℕ → A) (d : A) → k < n → get_or (tabulate n f) k d ≡ f k
unfolding tabulate
get_d_tabulate n k f d l = get_d_list_from 0 n k f d l ∙ ap f (let h : 0 + k ≡ k = omega arith in h)

pub length_list_from {ℓ} : {A : Type ℓ} (i n : ℕ) (f : ℕ → A) → length (list_from i n f) ≡ n
unfolding list_from
length_list_from i zero f = refl
length_list_from i (suc n) f = ap suc (length_list_from (suc i) n f)

pub length_tabulate {ℓ} : {A : Type ℓ} (n : ℕ) (f : ℕ → A) → length (tabulate n f) ≡ n
unfolding tabulate
length_tabulate n f = length_list_from 0 n f

-- a list that has the values of f is the list of the values of f
pub is_tabulate {ℓ} : {A : Type ℓ} (l : List A) (n : ℕ) (f : ℕ → A) (d : A) → length l ≡ n → ((k : ℕ) → k < n → get_or l k d ≡ f k) → l ≡ tabulate n f
is_tabulate l n f d e h =
    ext_get_or d l (tabulate n f) (e ∙ sym (length_tabulate n f))
    (λ k j. let i : k < n = rw e at j in h k i ∙ sym (get_d_tabulate n k f d i))

list_from_snoc {ℓ} : {A : Type ℓ} (i n : ℕ) (f : ℕ → A) → list_from i (suc n) f ≡ list_from i n f ++ (f (i + n) ∷ [])
unfolding list_from
list_from_snoc i zero f = ap (λ k. f k ∷ []) (let h : i ≡ i + 0 = omega arith in h)
list_from_snoc i (suc n) f = let h : suc i + n ≡ i + suc n = omega arith in ap (λ l. f i ∷ l) (list_from_snoc (suc i) n f ∙ rw h)

pub tabulate_none {ℓ} : {A : Type ℓ} (f : ℕ → A) → tabulate 0 f ≡ []
unfolding tabulate list_from
tabulate_none f = refl

pub tabulate_suc {ℓ} : {A : Type ℓ} (n : ℕ) (f : ℕ → A) → tabulate (suc n) f ≡ tabulate n f ++ (f n ∷ [])
unfolding tabulate
tabulate_suc n f = let h : 0 + n ≡ n = omega arith in list_from_snoc 0 n f ∙ rw h

list_from_cong {ℓ} : {A : Type ℓ} (i n : ℕ) (f g : ℕ → A) → ((k : ℕ) → i ≤ k → k < i + n → f k ≡ g k) → list_from i n f ≡ list_from i n g
unfolding list_from
list_from_cong i zero f g h = refl
list_from_cong i (suc n) f g h = rw (h i (omega arith) (omega arith), list_from_cong (suc i) n f g (λ k a b. h k (omega arith) (omega arith)))

pub tabulate_cong {ℓ} : {A : Type ℓ} (n : ℕ) (f g : ℕ → A) → ((k : ℕ) → k < n → f k ≡ g k) → tabulate n f ≡ tabulate n g
unfolding tabulate
tabulate_cong n f g h = list_from_cong 0 n f g (λ k a b. h k (omega arith))
