-- A search that goes up from a mark and around the end: what its loop keeps true, and what it finds. Assumes nothing.
use Rattle.std.specs.Prelude.{ℕ, ◌+◌, ◌≤◌, ◌<◌, ◌≡◌, Bool, ◌&&◌, ltb}
use native.Mathlib.Omega.{arith}
use Rattle.std.proofs.Math.Path.{sym}
use Rattle.std.proofs.Math.Bool.{true, false}
use Rattle.std.proofs.Math.Dec.{leb}
use borrow.Author.Tests.{lt-ltb, le-ltb, le-leb, lt-leb, ltb-true, ltb-false}
use Rattle.numbers.specs.Search.{first}
use Rattle.numbers.specs.Search.Laws.{case_b, contra, first_more, first_hit, first_passes, first_below, first_void, first_cong}
use Rattle.numbers.specs.Tests.{and_left, and_right, and_yes}
use Rattle.state.specs.State.{State, max_threads, thread, is_ready}
use Rattle.rules.specs.Moves.{first_from, around}
use Rattle.rules.specs.Calls.{is_ready_thread, next_ready}

-- ---- the loop: none from m upward and below i passes

module _ (p : ℕ → Bool) (m : ℕ) where
  pub from_none : first_from m m p ≡ m
  unfolding first_from
  from_none = first_void (λ i. leb m i && p i) m (λ i l. rw (lt-leb m i l))

  module _ (i : ℕ) (e : first_from i m p ≡ i) where
    module _ (r : Bool) (f : r ≡ p i) (l : m ≤ i) where
      pub from_more : r ≡ false → first_from (i + 1) m p ≡ i + 1
      unfolding first_from
      from_more g = first_more (λ k. leb m k && p k) i r e (and_yes (leb m i) (p i) r (le-leb m i l) f) g

      pub from_hit : (n : ℕ) → r ≡ true → i < n → i ≡ first_from n m p
      unfolding first_from
      from_hit n g h = first_hit (λ k. leb m k && p k) i n r e (and_yes (leb m i) (p i) r (le-leb m i l) f) g h

    pub from_all : (n : ℕ) → n ≤ i → n ≡ first_from n m p
    unfolding first_from
    from_all n h =
        sym (first_void (λ k. leb m k && p k) n (λ k l. first_below (λ j. leb m j && p j) i k (let q : k < i = omega arith in rw e q)))

  -- what is found is not below m, it passes, and none before it from m upward does
  module _ (n r : ℕ) (e : r ≡ first_from n m p) where
    pub from_ge : m ≤ n → m ≤ r
    unfolding first_from
    from_ge h =
        case_b (ltb r m)
        (λ y. absurd (let l : r < m = ltb-true r m y in
        let k : first (λ i. leb m i && p i) n < n = rw (← e) (omega arith) in
        let w : (leb m r && p r) ≡ true = rw e (first_passes (λ i. leb m i && p i) n k) in
        contra (and_left (leb m r) (p r) w) (lt-leb m r l)))
        (λ y. ltb-false r m y)

    pub from_passes : r < n → p r ≡ true
    unfolding first_from
    from_passes h =
        let k : first (λ i. leb m i && p i) n < n = rw (← e) h in
        let w : (leb m r && p r) ≡ true = rw e (first_passes (λ i. leb m i && p i) n k) in
        and_right (leb m r) (p r) w

    pub from_before : (k : ℕ) → m ≤ k → k < r → p k ≡ false
    unfolding first_from
    from_before k h l =
        let f : (leb m k && p k) ≡ false = first_below (λ i. leb m i && p i) n k (rw (← e) l) in
        rw (le-leb m k h) at f

pub ruleset from_laws = (from_none, from_more, from_hit, from_all)

-- ---- the two loops, one behind the other

module _ (n m : ℕ) (p : ℕ → Bool) where
  pub from_zero : first_from n 0 p ≡ first p n
  unfolding first_from
  from_zero = first_cong (λ i. leb 0 i && p i) p n (λ i l. rw (le-leb 0 i (omega arith)))

  -- the mark was read as k
  module _ (r k : ℕ) (e : r ≡ first_from n k p) (f : k ≡ m) where
    pub around_near : r < n → r ≡ around n m p
    unfolding around
    around_near h = rw (← f, ← e, lt-ltb r n h)

    pub around_far : (x : ℕ) → x ≡ first_from n 0 p → n ≤ r → x ≡ around n m p
    unfolding around
    around_far x g h = rw (← f, ← e, le-ltb r n h, g) from_zero

  -- ---- what is found

  -- a number below n that is found passes
  pub around_in : around n m p < n → p (around n m p) ≡ true
  unfolding around first_from
  around_in h =
      case_b (ltb (first (λ i. leb m i && p i) n) n)
      (λ t. rw t (and_right (leb m (first (λ i. leb m i && p i) n)) (p (first (λ i. leb m i && p i) n)) (first_passes (λ i. leb m i && p i) n (ltb-true (first (λ i. leb m i && p i) n) n t))))
      (λ f. rw f (first_passes p n (rw f at h)))

  -- where none is found, none passes
  pub around_none : n ≤ around n m p → (i : ℕ) → i < n → p i ≡ false
  unfolding around
  around_none h i l =
      case_b (ltb (first_from n m p) n)
      (λ t. absurd (let k : n ≤ first_from n m p = rw t at h in omega (arith, ltb-true (first_from n m p) n t)))
      (λ f. first_below p n i (let k : n ≤ first p n = rw f at h in omega arith))

-- the thread whose turn it is is ready
pub next_ready_in : (s : State) → next_ready s < max_threads → is_ready (thread s (next_ready s)) ≡ true
unfolding next_ready is_ready_thread
next_ready_in s h = around_in max_threads _ (is_ready_thread s) h
