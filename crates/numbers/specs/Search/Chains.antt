-- Chains over the numbers below n: what `all`, `any` and `find` of a range answer where the closure computes a test. Assumes nothing.
use Rattle.std.specs.Prelude.{◌≡◌, ℕ, ◌<◌, ◌≤◌, Bool, true, false, List, Option, Some, None, length}
use native.Mathlib.Omega.{arith}
use Rattle.std.proofs.Common.{sym, refl}
use Rattle.std.proofs.Math.Nat.{zero-add}
use Rattle.std.proofs.iter.Yields.{nat_range_steps}
use Rattle.std.proofs.lemmas.Iterator.{YieldsList-from_range, cases_from_all, cases_from_any, first_from_Range}
use Rattle.std.proofs.lemmas.List.FromFn.{length-range_with_len, get_or-range_with_len}
use Rattle.std.specs.Bool.{MatchBool, ⊤}
use Rattle.std.specs.Fn.{Called, CalledAt}
use Rattle.std.specs.Iterator.{YieldsThen}
use Rattle.std.specs.List.{range_with_len, FoldsTo, AllWithin, HoldsAt}
use Rattle.std.specs.Option.{MatchOption, unwrap_or}
use Rattle.std.specs.declared.ops.Range.{Range}
use denote.Param.Members.{Mut}
use denote.Ref.{Bor}
use Rattle.numbers.specs.Search.{every, first, some}
use Rattle.numbers.specs.Search.Laws.{every_intro, every_not, some_intro, some_void, first_void, first_is}

module _ (p : ℕ → Bool) (n : ℕ) where
  -- number k of the range is k
  numbered : (b : Bool) (k : ℕ) → k < length (range_with_len 0 n) → HoldsAt (λ x. p x ≡ b) (range_with_len 0 n) k → p k ≡ b
  numbered b k l h = rw (get_or-range_with_len 0 n k 0 (rw length-range_with_len at l), zero-add) at (h 0)

  every_cases : (r : Bool)
      → MatchBool r (AllWithin (λ x. p x ≡ true) (range_with_len 0 n) 0 (length (range_with_len 0 n)))
      ((k : ℕ) × (k < length (range_with_len 0 n)) × HoldsAt (λ x. p x ≡ false) (range_with_len 0 n) k)
      → r ≡ every p n
  every_cases true h =
      sym (every_intro p n (λ i l. let m : i < length (range_with_len 0 n) = rw length-range_with_len l in numbered true i m (λ d. h i d (omega arith) m)))
  every_cases false (k, l, h) = every_not p k n (p k) refl (numbered false k l h) (rw length-range_with_len at l)

  some_cases : (r : Bool)
      → MatchBool r ((k : ℕ) × (k < length (range_with_len 0 n)) × HoldsAt (λ x. p x ≡ true) (range_with_len 0 n) k)
      (AllWithin (λ x. p x ≡ false) (range_with_len 0 n) 0 (length (range_with_len 0 n)))
      → r ≡ some p n
  some_cases true (k, l, h) = sym (some_intro p n k (rw length-range_with_len at l) (numbered true k l h))
  some_cases false h =
      sym (some_void p n (λ i l. let m : i < length (range_with_len 0 n) = rw length-range_with_len l in numbered false i m (λ d. h i d (omega arith) m)))

  module _ {F : Type 0} {g : Mut F (ℕ × Unit {0}) Bool} {s : Range ℕ} (e : s ≡ record { start = 0; end = n }) (u : Range ℕ) (f : F) (r : Bool) where
    pub every_all : (xs : List ℕ) × (o : Option ℕ) × (j : F) × YieldsThen nat_range_steps s xs o u × FoldsTo (λ p x q. Called g p (x, tt) true q) f xs j
        × MatchOption o (r ≡ true) (λ x. (r ≡ false) × ((h : F) × Called g j (x, tt) false h))
        → ((x : ℕ) (b : Bool) (q : F) → Called g f (x, tt) b q → (q ≡ f) × (b ≡ p x)) → r ≡ every p n
    every_all ran h =
        every_cases r
        (cases_from_all u f r (λ x. p x ≡ true) (λ x. p x ≡ false) ran (YieldsList-from_range 0 n n e (omega arith))
        (λ x q k. ((h x true q k).0, sym (h x true q k).1))
        (λ x q k. sym (h x false q k).1))

    pub some_any : (xs : List ℕ) × (o : Option ℕ) × (j : F) × YieldsThen nat_range_steps s xs o u × FoldsTo (λ p x q. Called g p (x, tt) false q) f xs j
        × MatchOption o (r ≡ false) (λ x. (r ≡ true) × ((h : F) × Called g j (x, tt) true h))
        → ((x : ℕ) (b : Bool) (q : F) → Called g f (x, tt) b q → (q ≡ f) × (b ≡ p x)) → r ≡ some p n
    some_any ran h =
        some_cases r
        (cases_from_any u f r (λ x. p x ≡ true) (λ x. p x ≡ false) ran (YieldsList-from_range 0 n n e (omega arith))
        (λ x q k. sym (h x true q k).1)
        (λ x q k. ((h x false q k).0, sym (h x false q k).1)))

-- what `find` answers, with n for `None`
first_found : (p : ℕ → Bool) (n : ℕ) (r : Option ℕ)
    → MatchOption r ((k : ℕ) → 0 ≤ k → k < n → p k ≡ false) (λ i. (0 ≤ i) × (i < n) × (p i ≡ true) × ((k : ℕ) → 0 ≤ k → k < i → p k ≡ false))
    → unwrap_or r n ≡ first p n
first_found p n None h = sym (first_void p n (λ i l. h i (omega arith) l))
first_found p n (Some i) (z, l, t, h) = sym (first_is p n i l t (λ j m. h j (omega arith) m))

pub first_find : {F : Type 0} {g : Mut F (Bor ℕ × Unit {0}) Bool} (p : ℕ → Bool) (n : ℕ) {s : Range ℕ} (e : s ≡ record { start = 0; end = n }) (u : Range ℕ) (f : F)
    (r : Option ℕ)
    → (xs : List ℕ) × (j : F) × YieldsThen nat_range_steps s xs r u × FoldsTo (λ p x q. CalledAt g p x false q) f xs j × MatchOption r ⊤ (λ x. (h : F) × CalledAt g j x true h)
    → ((x : ℕ) (b : Bool) (q : F) → CalledAt g f x b q → (q ≡ f) × (b ≡ p x)) → unwrap_or r n ≡ first p n
first_find p n {s = s} e u f r ran h =
    first_found p n r
    (rw e at (first_from_Range s u f r (λ x. p x ≡ true) (λ x. p x ≡ false) ran (λ x q k. sym (h x true q k).1) (λ x q k. ((h x false q k).0, sym (h x false q k).1))))
