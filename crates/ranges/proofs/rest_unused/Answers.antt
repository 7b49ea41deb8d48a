-- `ranges::rest_unused` meets its contract: what `all` answers over the numbers from k on, by the test of all numbers of the row. Assumes nothing.
use Rattle.std.specs.Prelude.{◌≡◌, ℕ, ◌+◌, ◌-◌, ◌<◌, ◌≤◌, Bool, true, false, ◌||◌, ltb, eqb, length, get_or}
use native.Mathlib.Omega.{arith}
use Rattle.std.proofs.Common.{rules, refl, sym}
use Rattle.std.proofs.lemmas.Iterator.{YieldsList-from_range, cases_from_all}
use Rattle.std.proofs.lemmas.List.FromFn.{length-range_with_len, get_or-range_with_len}
use Rattle.std.specs.Bool.{MatchBool}
use Rattle.std.specs.List.{range_with_len, AllWithin, HoldsAt}
use borrow.Author.Tests.{le-ltb, ltb-false}
use Rattle.numbers.specs.Rows.{at}
use Rattle.numbers.specs.Search.{every}
use Rattle.numbers.specs.Search.Laws.{case_b, every_intro, every_not}
use Rattle.table.specs.Table.{row_numbers}
use Rattle.ranges.specs.Ranges.{unused_from, rest_unused}
use Rattle.ranges.proofs.rest_unused.Goals as goal

module _ (p : ℕ → Bool) (a n : ℕ) where
  -- number k of the range is a + k
  numbered : (b : Bool) (i k : ℕ) → a ≤ i → i < n → k ≡ i - a → HoldsAt (λ x. p x ≡ b) (range_with_len a (n - a)) k → p i ≡ b
  numbered b i k h l e t =
      let q : get_or (range_with_len a (n - a)) k 0 ≡ i = omega (arith, get_or-range_with_len a (n - a) k 0 (omega arith)) in
      rw q at (t 0)

  every_from : (r : Bool)
      → MatchBool r (AllWithin (λ x. p x ≡ true) (range_with_len a (n - a)) 0 (length (range_with_len a (n - a))))
      ((k : ℕ) × (k < length (range_with_len a (n - a))) × HoldsAt (λ x. p x ≡ false) (range_with_len a (n - a)) k)
      → r ≡ every (λ i. ltb i a || p i) n
  every_from true h =
      let long = length-range_with_len a (n - a) in
      sym (every_intro (λ i. ltb i a || p i) n
      (λ i l. case_b (ltb i a)
      (λ y. rw y)
      (λ y. let m : a ≤ i = ltb-false i a y in rw (y, numbered true i (i - a) m l refl (λ d. h (i - a) d (omega arith) (omega (arith, long)))))))
  every_from false (k, l, h) =
      let m : k < n - a = omega (arith, length-range_with_len a (n - a)) in
      every_not (λ i. ltb i a || p i) (a + k) n (ltb (a + k) a || p (a + k)) refl
      (rw (le-ltb (a + k) a (omega arith), numbered false (a + k) k (omega arith) (omega arith) (omega arith) h)) (omega arith)

pub returns : goal.returns
unfolding rest_unused unused_from
returns c =
    let tb = c.args.table.now in
    every_from (λ i. eqb (at tb c.args.row i) 0) c.args.k row_numbers c.all.result
    (cases_from_all _ _ c.all.result (λ i. eqb (at tb c.args.row i) 0 ≡ true) (λ i. eqb (at tb c.args.row i) 0 ≡ false) c.all.ensures.ran
    (YieldsList-from_range c.args.k row_numbers (row_numbers - c.args.k) refl refl)
    (λ x q k. search rules)
    (λ x q k. search rules))
