-- Rounds of marks over the numbers below n: the first round marks the roots, and each later one what a test finds from the marks before it. Where the
-- test keeps what is marked and finds no less from more marks, n rounds find all that there is to find. Assumes nothing.
use Rattle.std.specs.Prelude.{ℕ, zero, suc, ◌+◌, ◌≤◌, ◌<◌, ◌≡◌, refl, Bool, true, false, List, ◌⊎◌, ltb, eqb, leb, get_or}
use Rattle.std.proofs.Common.{arith, sym, ◌∙◌, ltb-true, ltb-false, leb-true, leb-false, eqb-true}
use Rattle.std.proofs.Math.Logic.{inl, inr, ⊎_elim}
use Rattle.std.proofs.Math.ListN.{get_or-eq_default}
use Rattle.std.proofs.lemmas.Bool.{eqb-false}
use Rattle.numbers.specs.Count.{bit}
use Rattle.numbers.specs.Count.Laws.{bit_le}
use Rattle.numbers.specs.Search.{sum_to, tabulate}
use Rattle.numbers.specs.Search.Laws.{case_b, contra, sum_none, sum_suc, get_d_tabulate, length_tabulate}

-- a set of numbers, by its marks
abbrev pub marked : List Bool → ℕ → Bool
marked m t = get_or m t false

pub marked_in : (n : ℕ) (f : ℕ → Bool) (t : ℕ) → marked (tabulate n f) t ≡ true → t < n
marked_in n f t e =
    case_b (ltb t n)
    (λ h. ltb-true t n h)
    (λ h. contra e (get_or-eq_default (tabulate n f) false {n = t} (omega (arith, ltb-false t n h, length_tabulate n f))))

-- ---- how many pass a test

-- how many of the numbers below n pass
size : (ℕ → Bool) → ℕ → ℕ
size p n = sum_to (λ i. bit (p i)) n

size_none : (p : ℕ → Bool) → size p 0 ≡ 0
unfolding size
size_none p = sum_none (λ i. bit (p i))

size_suc : (p : ℕ → Bool) (n : ℕ) → size p (suc n) ≡ size p n + bit (p n)
unfolding size
size_suc p n = sum_suc (λ i. bit (p i)) n

size_le : (p : ℕ → Bool) (n : ℕ) → size p n ≤ n
size_le p zero = omega (arith, size_none p)
size_le p (suc n) = omega (arith, size_suc p n, size_le p n, bit_le (p n))

bit_mono : (a b : Bool) → (a ≡ true → b ≡ true) → bit a ≤ bit b
unfolding bit
bit_mono true b h = rw (h refl) (omega arith)
bit_mono false b h = omega arith

bit_same : (a b : Bool) → b ≡ true → bit b ≤ bit a → a ≡ true
unfolding bit
bit_same true b e h = refl
bit_same false b e h = absurd (let k : 1 ≤ 0 = rw e at h in omega arith)

module _ (p q : ℕ → Bool) where
  size_mono : (n : ℕ) → ((i : ℕ) → i < n → p i ≡ true → q i ≡ true) → size p n ≤ size q n
  size_mono zero h = omega (arith, size_none p, size_none q)
  size_mono (suc n) h =
      omega (arith, size_suc p n, size_suc q n, size_mono n (λ i l. h i (omega arith)), bit_mono (p n) (q n) (h n (omega arith)))

  -- where no fewer pass the stronger test, it passes the same numbers
  size_same : (n : ℕ) → ((i : ℕ) → i < n → p i ≡ true → q i ≡ true) → size q n ≤ size p n → (i : ℕ) → i < n → q i ≡ true → p i ≡ true
  size_same zero h k i l e = absurd (omega arith)
  size_same (suc n) h k i l e =
      let a = size_suc p n in
      let b = size_suc q n in
      let c = size_mono n (λ j x. h j (omega arith)) in
      let d = bit_mono (p n) (q n) (h n (omega arith)) in
      case_b (eqb i n)
      (λ y. let z : i ≡ n = eqb-true i n y in rw z (bit_same (p n) (q n) (rw z at e) (omega (arith, a, b, c, d))))
      (λ y. size_same n (λ j x. h j (omega arith)) (omega (arith, a, b, c, d)) i (omega (arith, eqb-false i n y)) e)

-- ---- rounds

module _ (n : ℕ) (root : ℕ → Bool) (f : List Bool → ℕ → Bool) (round : ℕ → List Bool) (zeroth : round 0 ≡ tabulate n root)
    (later : (k : ℕ) → round (suc k) ≡ tabulate n (f (round k))) where
  at_first : (t : ℕ) → t < n → marked (round 0) t ≡ root t
  at_first t l = rw zeroth (get_d_tabulate n t root false l)

  at_next : (k t : ℕ) → t < n → marked (round (suc k)) t ≡ f (round k) t
  at_next k t l = rw (later k) (get_d_tabulate n t (f (round k)) false l)

  pub round_in : (k t : ℕ) → marked (round k) t ≡ true → t < n
  round_in zero t e = marked_in n root t (rw zeroth at e)
  round_in (suc k) t e = marked_in n (f (round k)) t (rw (later k) at e)

  -- what holds of the roots, and of all that the test finds from marks of which it holds, holds of all that is marked
  pub round_all : (P : ℕ → Type 0) → ((t : ℕ) → t < n → root t ≡ true → P t)
      → ((m : List Bool) → ((u : ℕ) → marked m u ≡ true → P u) → (t : ℕ) → t < n → f m t ≡ true → P t)
      → (k t : ℕ) → marked (round k) t ≡ true → P t
  round_all P r h zero t e = let l = round_in zero t e in r t l (sym (at_first t l) ∙ e)
  round_all P r h (suc k) t e = let l = round_in (suc k) t e in h (round k) (round_all P r h k) t l (sym (at_next k t l) ∙ e)

  module _ (keeps : (m : List Bool) (t : ℕ) → marked m t ≡ true → f m t ≡ true)
      (more : (m m' : List Bool) → ((u : ℕ) → marked m u ≡ true → marked m' u ≡ true) → (t : ℕ) → f m t ≡ true → f m' t ≡ true) where
    grown : (k t : ℕ) → marked (round k) t ≡ true → marked (round (suc k)) t ≡ true
    grown k t e = at_next k t (round_in k t e) ∙ keeps (round k) t e

    pub round_root : (k t : ℕ) → t < n → root t ≡ true → marked (round k) t ≡ true
    round_root zero t l e = at_first t l ∙ e
    round_root (suc k) t l e = grown k t (round_root k t l e)

    -- the round after k marks nothing more
    Stable : ℕ → Type 0
    Stable k = (t : ℕ) → marked (round (suc k)) t ≡ true → marked (round k) t ≡ true

    stays : (k : ℕ) → Stable k → Stable (suc k)
    unfolding Stable
    stays k st t e =
        let l = round_in (suc (suc k)) t e in
        at_next k t l ∙ more (round (suc k)) (round k) st t (sym (at_next (suc k) t l) ∙ e)

    many : ℕ → ℕ
    many k = size (marked (round k)) n

    grows : (k : ℕ) → Stable k ⊎ (many k < many (suc k))
    unfolding Stable many
    grows k =
        let p = marked (round k) in
        let q = marked (round (suc k)) in
        case_b (leb (size q n) (size p n))
        (λ h. inl (λ t e. size_same p q n (λ i l. grown k i) (leb-true (size q n) (size p n) h) t (round_in (suc k) t e) e))
        (λ h. inr (leb-false (size q n) (size p n) h))

    progress : (k : ℕ) → Stable k ⊎ (k < many (suc k))
    progress zero = ⊎_elim (λ st. inl st) (λ h. inr (omega arith)) (grows zero)
    progress (suc k) =
        ⊎_elim (λ st. inl (stays k st)) (λ h. ⊎_elim (λ st. inl st) (λ g. inr (omega arith)) (grows (suc k))) (progress k)

    -- after n rounds the test finds nothing more
    pub round_closed : (t : ℕ) → t < n → f (round n) t ≡ true → marked (round n) t ≡ true
    unfolding Stable many
    round_closed t l e =
        ⊎_elim (λ st. st t (at_next n t l ∙ e)) (λ h. absurd (omega (arith, size_le (marked (round (suc n))) n))) (progress n)
