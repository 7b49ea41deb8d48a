-- A number from which on no thread row is in use, so that a search through the threads may stop there. Assumes nothing.
use Rattle.std.specs.Prelude.{ℕ, ◌-◌, ◌<◌, ◌≤◌, ◌≡◌, Bool, false, not, ◌&&◌, List, ltb}
use Rattle.std.proofs.Common.{arith, ◌∙◌}
use Rattle.std.proofs.Math.Path.{sym}
use Rattle.std.proofs.Math.Bool.{true}
use Rattle.std.proofs.Math.Dec.{leb, eqb}
use borrow.Author.Tests.{ltb-true, ltb-false, eqb-true, not-true, not-false}
use Rattle.numbers.specs.Search.Laws.{case_b, first_rest}
use Rattle.state.specs.State.{State, max_threads, state_of, thread, status, is_ready, is_waiting}
use Rattle.state.specs.State.Laws.{thread_row_out}
use Rattle.rules.specs.Moves.{first_from, is_free_thread}
use Rattle.rules.specs.Calls.{is_ready_thread}
use Rattle.next_rows.specs.Around.{from_hit}

unfoldable pub UsedBelow : State → ℕ → Type 0
UsedBelow s top = (top ≤ max_threads) × ((u : ℕ) → top ≤ u → status (thread s u) ≡ 0)

module _ (s : State) (top : ℕ) (used : UsedBelow s top) where
  pub top_le : top ≤ max_threads
  unfolding UsedBelow
  top_le = used.0

  pub free_from : (u : ℕ) → top ≤ u → status (thread s u) ≡ 0
  unfolding UsedBelow
  free_from = used.1

  -- a thread that is ready, and one that waits, is below
  pub ready_below : (u : ℕ) → is_ready (thread s u) ≡ true → u < top
  ready_below u r =
      case_b (ltb u top) (λ y. ltb-true u top y)
      (λ y. absurd (let one : status (thread s u) ≡ 1 = eqb-true (status (thread s u)) 1 r in omega (arith, free_from u (ltb-false u top y))))

  pub waiting_below : (u : ℕ) → is_waiting (thread s u) ≡ true → u < top
  waiting_below u r =
      case_b (ltb u top) (λ y. ltb-true u top y)
      (λ y. absurd (let two : status (thread s u) ≡ 2 = eqb-true (status (thread s u)) 2 r in omega (arith, free_from u (ltb-false u top y))))

  -- the searches that stop there
  module _ (i : ℕ) (h : i < top) where
    pub below_le : i ≤ max_threads
    below_le = omega (arith, top_le)

    pub from_found : (m : ℕ) (r : Bool) → first_from i m (is_ready_thread s) ≡ i → r ≡ is_ready_thread s i → m ≤ i → r ≡ true
        → i ≡ first_from max_threads m (is_ready_thread s)
    from_found m r e f l g = from_hit (is_ready_thread s) m i e r f l 64 g (omega (arith, top_le))

  pub from_rest : (m i : ℕ) → first_from i m (is_ready_thread s) ≡ i → top ≤ i → max_threads ≡ first_from max_threads m (is_ready_thread s)
  unfolding first_from is_ready_thread
  from_rest m i e l =
      sym (first_rest (λ k. leb m k && is_ready (thread s k)) i 64 e
      (λ k j. rw (free_from k (omega arith)) (case_b (leb m k) (λ y. rw y) (λ y. rw y))))

  -- one row less
  pub used_less : (r : Bool) → r ≡ is_free_thread s (top - 1) → not r ≡ false → UsedBelow s (top - 1)
  unfolding UsedBelow is_free_thread
  used_less r e f =
      let free : eqb (status (thread s (top - 1))) 0 ≡ true =
      not-false (eqb (status (thread s (top - 1))) 0) (not-true (not (eqb (status (thread s (top - 1))) 0)) (sym e ∙ not-false r f)) in (
        omega (arith, top_le),
        λ u l. case_b (ltb u top)
            (λ y. let q : u ≡ top - 1 = omega (arith, ltb-true u top y) in rw q (eqb-true (status (thread s (top - 1))) 0 free))
            (λ y. free_from u (ltb-false u top y)),
      )

  -- none is left
  pub used_none : top ≤ 0 → UsedBelow s 0
  used_none l = let q : top ≡ 0 = omega arith in rw q at used

-- there are no more rows
pub used_all : (b : List ℕ) → UsedBelow (state_of b) max_threads
unfolding UsedBelow
used_all b = (omega arith, λ u l. sym (thread_row_out b u 0 l))
