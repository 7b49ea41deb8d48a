-- Rules for a definition that goes by nested tests and code that goes by the same tests: `unfolding F` and `search` with one of the sets below.
-- Assumes nothing.
use Rattle.std.specs.Prelude.{◌≡◌, ℕ, ◌<◌, ◌≤◌, Bool, true, false, cond, ◌&&◌, ◌==◌, ◌≢◌, nat_lt, refl}
use Rattle.std.proofs.Common.{arith, sym, ◌∙◌, lt-ltb, le-ltb, le-leb, eq-eqb, ne_eqb}
use Rattle.std.proofs.lemmas.Bool.{lt-leb, not-true, not-false}

module _ {A : Type 0} (t : Bool) (r a b : A) where
  pub cond_yes : t ≡ true → r ≡ a → r ≡ cond t a b
  cond_yes e f = rw e f

  pub cond_no : t ≡ false → r ≡ b → r ≡ cond t a b
  cond_no e f = rw e f

-- two constructors that differ are not equal: an equation of them gives one of 0 and 1
pub clash {ℓ} : {A : Type ℓ} → ◌≡◌ {A = ℕ} 0 1 → A
clash e = absurd (let h : ⊥ = omega arith in h)

-- the parts of a conjunction
pub and_left : (a b : Bool) → (a && b) ≡ true → a ≡ true
and_left true b e = refl
and_left false b e = e

pub and_right : (a b : Bool) → (a && b) ≡ true → b ≡ true
and_right true b e = e
and_right false b e = clash cc

pub ruleset parts = (and_left, and_right)

-- a conjunction of tests
module _ (t b r : Bool) where
  pub and_yes : t ≡ true → r ≡ b → r ≡ (t && b)
  and_yes e f = rw e f

  pub and_no : t ≡ false → r ≡ false → r ≡ (t && b)
  and_no e f = rw (e, f)

pub and_true : (t : Bool) → t ≡ (t && true)
and_true true = refl
and_true false = refl

pub cond_self : (t : Bool) → t ≡ cond t true false
cond_self true = refl
cond_self false = refl

-- what a call answered, x, was tested against y
module _ (r x y : ℕ) (e : r ≡ x) where
  pub eq_read : r ≡ y → (x == y) ≡ true
  eq_read h = eq-eqb x y (sym e ∙ h)

  pub ne_read : (r ≢ y) → (x == y) ≡ false
  ne_read h = ne_eqb x y (λ q. h (e ∙ q))

-- what a call answered is the number m, as in an arm of a `match`: it is not y
pub key_read : (r x y m : ℕ) → r ≡ x → r ≡ m → (m == y) ≡ false → (x == y) ≡ false
key_read r x y m e f h = let q : x ≡ m = sym e ∙ f in rw q h

-- a call's answer was itself the test
module _ (r t : Bool) (e : r ≡ t) where
  pub flag_yes : r ≡ true → t ≡ true
  flag_yes h = sym e ∙ h

  pub flag_no : r ≡ false → t ≡ false
  flag_no h = sym e ∙ h

-- x was tested against what a call answered, y
module _ (r x y : ℕ) (e : r ≡ y) where
  pub lt_via : x < r → nat_lt x y ≡ true
  lt_via h = lt-ltb x y (rw e at h)

  pub ge_via : r ≤ x → nat_lt x y ≡ false
  ge_via h = le-ltb x y (rw e at h)

-- The sets are small, since a search tries each entry at each fact.

-- a `match` or `==` on what a call answered
pub ruleset arms = (cond_yes, cond_no, eq_read, ne_read, key_read)

-- tests of the function's own numbers
pub ruleset tests = (cond_yes, cond_no, cond_self, eq-eqb, ne_eqb, lt-ltb, le-ltb, le-leb, lt-leb)

-- answers that are tests
pub ruleset flags = (cond_yes, cond_no, flag_yes, flag_no, not-true, not-false)

-- conjunctions
pub ruleset ands = (and_yes, and_no)
