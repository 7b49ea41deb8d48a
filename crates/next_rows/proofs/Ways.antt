-- What the searches come to. Assumes nothing.
use Rattle.std.specs.Prelude.{◌≡◌, ℕ, ◌<◌, ◌≤◌, Bool, true, false, ◌&&◌, List, Option, None, Some}
use Rattle.std.specs.Bool.{⊤}
use Rattle.std.specs.Fn.{CalledAt}
use Rattle.std.specs.Iterator.{YieldsThen}
use Rattle.std.specs.List.{FoldsTo}
use Rattle.std.specs.Option.{MatchOption, unwrap_or}
use Rattle.std.specs.declared.ops.Range.{Range}
use Rattle.std.proofs.iter.Yields.{nat_range_steps}
use Rattle.std.proofs.lemmas.Iterator.{first_from_Range}
use Rattle.std.proofs.Math.Path.{sym}
use Rattle.std.proofs.Math.Dec.{leb}
use native.Mathlib.Omega.{arith}
use lib.Dec.{ltb}
use denote.Param.Members.{Mut}
use denote.Ref.{Bor}
use borrow.Author.Tests.{le-leb, leb-true, lt-ltb, le-ltb, ltb-true, ltb-false}
use Rattle.numbers.specs.Search.{first}
use Rattle.numbers.specs.Search.Laws.{case_b, first_is, first_void, first_passes, first_below}
use Rattle.state.specs.State.{State, max_threads, turn}
use Rattle.rules.specs.Moves.{first_from, around}
use Rattle.rules.specs.Calls.{is_ready_thread, next_ready}
use Rattle.next_rows.specs.UsedBelow.{UsedBelow, top_le, free_from}

module _ (p : ℕ → Bool) (m n : ℕ) where
  -- none from m upward and below i passes
  void : (i : ℕ) → i ≤ n → ((k : ℕ) → m ≤ k → k < i → k < n → false ≡ p k) → (k : ℕ) → k < i → (leb m k && p k) ≡ false
  void i b h k l = case_b (leb m k) (λ y. rw (y, ← h k (leb-true m k y) l (omega arith))) (λ y. rw y)

  -- what `find` answers over m..n, and the number that it stands for
  found_from : (r : Option ℕ) → MatchOption r ((k : ℕ) → m ≤ k → k < n → k < n → false ≡ p k) (λ i. (m ≤ i) × (i < n) × (i < n → true ≡ p i) × ((k : ℕ) → m ≤ k → k < i → k < n → false ≡ p k)) → unwrap_or r n ≡ first_from n m p
  unfolding first_from
  found_from None h = sym (first_void (λ k. leb m k && p k) n (void n (omega arith) h))
  found_from (Some i) h = sym (first_is (λ k. leb m k && p k) n i h.1 (rw (le-leb m i h.0, ← h.2 h.1)) (void i (omega arith) h.3))

-- `find` over a range, by a test that says p
pub find_from : {F : Type 0} {g : Mut F (Bor ℕ × Unit {0}) Bool} (s u : Range ℕ) (f : F) (r : Option ℕ) (p : ℕ → Bool)
    → (xs : List ℕ) × (j : F) × YieldsThen nat_range_steps s xs r u × FoldsTo (λ p x q. CalledAt g p x false q) f xs j × MatchOption r ⊤ (λ x. (h : F) × CalledAt g j x true h)
    → ((x : ℕ) (b : Bool) (q : F) → CalledAt g f x b q → (q ≡ f) × (x < s.end → b ≡ p x))
    → unwrap_or r s.end ≡ first_from s.end s.start p
find_from s u f r p ran says =
    found_from p s.start s.end r
    (first_from_Range s u f r (λ x. x < s.end → true ≡ p x) (λ x. x < s.end → false ≡ p x) ran (λ x q k. (says x true q k).1) (λ x q k. says x false q k))

-- ---- a search that stops early, since none from there on passes

module _ (p : ℕ → Bool) (top n : ℕ) (h : top ≤ n) (none : (k : ℕ) → top ≤ k → p k ≡ false) where
  sooner : first p top < top → first p n ≡ first p top
  sooner l = first_is p n (first p top) (omega arith) (first_passes p top l) (first_below p top)

  never : top ≤ first p top → first p n ≡ n
  never l = first_void p n (λ k j. case_b (ltb k top) (λ y. first_below p top k (omega (arith, ltb-true k top y))) (λ y. none k (ltb-false k top y)))

module _ (p : ℕ → Bool) (m top n : ℕ) (h : top ≤ n) (none : (k : ℕ) → top ≤ k → p k ≡ false) (u : ℕ) (e : u ≡ around top m p) where
  none_up : (k : ℕ) → top ≤ k → (leb m k && p k) ≡ false
  none_up k l = case_b (leb m k) (λ y. rw y (none k l)) (λ y. rw y)

  around_sooner : u < top → u ≡ around n m p
  unfolding around first_from
  around_sooner l = case_b (ltb (first (λ i. leb m i && p i) top) top)
      (λ y. let q : u ≡ first (λ i. leb m i && p i) top = rw y at e in
      rw (sooner (λ i. leb m i && p i) top n h none_up (ltb-true _ top y), ← q, lt-ltb u n (omega arith)))
      (λ y. let q : u ≡ first p top = rw y at e in
      rw (never (λ i. leb m i && p i) top n h none_up (ltb-false _ top y), le-ltb n n (omega arith), sooner p top n h none (omega arith)) q)

  around_never : top ≤ u → n ≡ around n m p
  unfolding around first_from
  around_never l = case_b (ltb (first (λ i. leb m i && p i) top) top)
      (λ y. let q : u ≡ first (λ i. leb m i && p i) top = rw y at e in absurd (omega (arith, ltb-true (first (λ i. leb m i && p i) top) top y)))
      (λ y. let q : u ≡ first p top = rw y at e in
      rw (never (λ i. leb m i && p i) top n h none_up (ltb-false _ top y), le-ltb n n (omega arith)) (sym (never p top n h none (omega arith))))

-- u is the ready thread that is found below top, from the turn on and around the end
module _ (s : State) (top : ℕ) (used : UsedBelow s top) where
  not_ready : (k : ℕ) → top ≤ k → is_ready_thread s k ≡ false
  unfolding is_ready_thread
  not_ready k l = rw (free_from s top used k l)

  module _ (u k : ℕ) (e : u ≡ around top k (is_ready_thread s)) (f : k ≡ turn s) where
    pub ready_found : u < top → u ≡ next_ready s
    unfolding next_ready
    ready_found l = rw (← f) (around_sooner (is_ready_thread s) k top max_threads (top_le s top used) not_ready u e l)

    pub ready_none : top ≤ u → max_threads ≡ next_ready s
    unfolding next_ready
    ready_none l = rw (← f) (around_never (is_ready_thread s) k top max_threads (top_le s top used) not_ready u e l)
