-- Freeing the threads that are not marked, one after the other, and settling the channel rows each time comes to the collection. Assumes nothing.
use Prim.Native.Nat.{ℕ, zero, suc, ◌+◌, ◌≤◌, ◌<◌}
use native.Mathlib.Omega.{arith}
use Rattle.std.proofs.Math.Numerals.{add-one}
use Rattle.std.specs.Prelude.{◌≡◌, refl, Bool, true, false, cond, ltb, eqb, get_or}
use Rattle.std.proofs.Math.Path.{sym, ap}
use Rattle.std.proofs.Common.{◌∙◌, length-set, get_or-set_same, get_or-set_other, Fits}
use mathlib.Core.List.{List, []}
use Rattle.std.proofs.Math.ListN.{length, set}
use Rattle.std.specs.Int.{w32}
use borrow.Author.Tests.{lt-ltb, le-ltb, ltb-true, ltb-false, eqb-true, eqb-false}
use Rattle.numbers.specs.Count.{bit}
use Rattle.numbers.specs.Count.Laws.{bit_le, replaced}
use Rattle.numbers.specs.Rows.{at}
use Rattle.numbers.specs.Search.{tabulate}
use Rattle.numbers.specs.Search.Laws.{case_b, sum_none, sum_suc, sum_more, get_d_tabulate, length_tabulate, is_tabulate, tabulate_cong}
use Rattle.table.specs.Table.{Table}
use Rattle.state.specs.State.{max_threads, State, thread, type_in, with_thread, with_channels, with_threads}
use Rattle.rules.specs.Holding.{holds, holders, waiters, count_of, channel_row, recount, settled}
use Rattle.rules.specs.Start.{free_row}
use Rattle.marking.specs.Enabled.{nobody, enabled_set}
use Rattle.collector.specs.Collect.{taken, remaining, collected, taken_count}
use Rattle.collector.specs.Freeing.{leaves, freed_by, row_to, rows_to, collected_to, taken_to}

-- ---- a row freed where the channel rows were settled before

-- a row that was settled, counted anew with no more holders
row_again : (ty n w n' w' : ℕ) → n' ≤ n → channel_row (get_or (channel_row ty n w) 0 0) n' w' ≡ channel_row ty n' w'
unfolding channel_row
row_again ty zero w zero w' h = refl
row_again ty zero w (suc n') w' h = absurd (omega arith)
row_again ty (suc n) w n' w' h = refl

free_holds : (tb : Table) (c : ℕ) → bit (holds tb free_row c) ≡ 0
unfolding holds bit
free_holds tb c = refl

module _ (tb : Table) (s : State) (long : length s.threads ≡ max_threads) (t : ℕ) (l : t < max_threads) where
  fewer_holders : (c : ℕ) → count_of tb (set s.threads t free_row) c ≤ count_of tb s.threads c
  unfolding count_of holders
  fewer_holders c =
      let h : t < length s.threads = omega arith in
      omega (arith, replaced (λ row. holds tb row c) s.threads t free_row [] h, free_holds tb c)

  settled_freed : settled tb (with_thread (settled tb s) t free_row) ≡ settled tb (with_thread s t free_row)
  unfolding settled with_thread with_channels recount
  settled_freed =
      let ths = s.threads in
      let ths' = set ths t free_row in
      let f : ℕ → List ℕ = λ c. channel_row (type_in s c) (count_of tb ths c) (waiters tb ths c) in
      ap (with_channels (with_thread s t free_row))
      (tabulate_cong 128 (λ c. channel_row (at (tabulate 128 f) c 0) (count_of tb ths' c) (waiters tb ths' c)) (λ c. channel_row (type_in s c) (count_of tb ths' c) (waiters tb ths' c))
      (λ c h. rw (get_d_tabulate 128 c f [] h)
      (row_again (type_in s c) (count_of tb ths c) (waiters tb ths c) (count_of tb ths' c) (waiters tb ths' c) (fewer_holders c))))

-- ---- one thread after the other

-- a list of values with one of them replaced
set_tabulate : (f g : ℕ → List ℕ) (n : ℕ) (x : List ℕ) → n < max_threads → g n ≡ x → ((k : ℕ) → k < max_threads → (k ≡ n → ⊥) → f k ≡ g k)
    → set (tabulate max_threads f) n x ≡ tabulate max_threads g
set_tabulate f g n x l e h =
    is_tabulate (set (tabulate 64 f) n x) 64 g [] (length-set (tabulate 64 f) n x ∙ length_tabulate 64 f)
    (λ k i. case_b (eqb k n)
    (λ y. let q : k ≡ n = eqb-true k n y in rw (q, e) (get_or-set_same (tabulate 64 f) n x [] (omega (arith, length_tabulate 64 f))))
    (λ y. get_or-set_other (tabulate 64 f) n k x [] (eqb-false k n y) ∙ (get_d_tabulate 64 k f [] i ∙ h k i (eqb-false k n y))))

module _ (tb : Table) (s : State) where
  rows_long : (n : ℕ) → length (rows_to tb s n).threads ≡ max_threads
  unfolding rows_to
  rows_long n = length_tabulate 64 (row_to tb s n)

  row_here : (n : ℕ) → n < max_threads → thread (collected_to tb s n) n ≡ thread s n
  unfolding collected_to rows_to row_to settled with_channels
  row_here n l = get_d_tabulate 64 n (row_to tb s n) [] l ∙ rw (le-ltb n n (omega arith))

  -- a row other than n is the same after n
  row_same : (n k : ℕ) → (k ≡ n → ⊥) → row_to tb s n k ≡ row_to tb s (suc n) k
  unfolding row_to
  row_same n k d = case_b (ltb k n)
      (λ y. rw (y, lt-ltb k (suc n) (omega (arith, ltb-true k n y))))
      (λ y. rw (y, le-ltb k (suc n) (omega (arith, ltb-false k n y, d))))

  row_next : (n : ℕ) → row_to tb s (suc n) n ≡ cond (taken tb s n) free_row (thread s n)
  unfolding row_to
  row_next n = rw (lt-ltb n (suc n) (omega arith))

  row_left_lem : (n : ℕ) → taken tb s n ≡ false → row_to tb s n n ≡ row_to tb s (suc n) n
  unfolding row_to
  row_left_lem n e = rw (e, le-ltb n n (omega arith), lt-ltb n (suc n) (omega arith))

  module _ (n : ℕ) (l : n < max_threads) where
    rows_taken : taken tb s n ≡ true → with_thread (rows_to tb s n) n free_row ≡ rows_to tb s (suc n)
    unfolding with_thread rows_to
    rows_taken e =
        ap (λ (y : List (List ℕ)). with_threads s y)
        (set_tabulate (row_to tb s n) (row_to tb s (suc n)) n free_row l (row_next n ∙ rw e) (λ k i d. row_same n k d))

    rows_left : taken tb s n ≡ false → rows_to tb s n ≡ rows_to tb s (suc n)
    unfolding rows_to
    rows_left e =
        ap (λ (y : List (List ℕ)). with_threads s y)
        (tabulate_cong 64 (row_to tb s n) (row_to tb s (suc n))
        (λ k i. case_b (eqb k n)
        (λ y. let q : k ≡ n = eqb-true k n y in rw q (row_left_lem n e))
        (λ y. row_same n k (eqb-false k n y))))

    rows_next : settled tb (rows_to tb s (suc n)) ≡ cond (taken tb s n) (settled tb (with_thread (settled tb (rows_to tb s n)) n free_row)) (settled tb (rows_to tb s n))
    rows_next = case_b (taken tb s n)
        (λ e. rw (e, settled_freed tb (rows_to tb s n) (rows_long n) n l, rows_taken e))
        (λ e. rw (e, rows_left e))

    leaves_taken : (m : List Bool) → m ≡ enabled_set tb s nobody → leaves (collected_to tb s n) m n ≡ taken tb s n
    unfolding leaves taken
    leaves_taken m e = rw (row_here n l, e)

-- ---- the laws of the loop

module _ (tb : Table) (s : State) where
  pub freed_none : length s.threads ≡ max_threads → settled tb s ≡ s → s ≡ collected_to tb s 0
  unfolding collected_to rows_to row_to
  freed_none long e =
      sym e ∙ ap (λ (y : List (List ℕ)). settled tb (with_threads s y))
      (is_tabulate s.threads 64 (row_to tb s 0) [] long (λ k h. rw (le-ltb k 0 (omega arith))))

  pub freed_all : (s₁ : State) (n : ℕ) → s₁ ≡ collected_to tb s n → n ≤ max_threads → max_threads ≤ n → s₁ ≡ collected tb s
  unfolding collected_to rows_to row_to collected remaining
  freed_all s₁ n e h i =
      e ∙ ap (λ (y : List (List ℕ)). settled tb (with_threads s y))
      (tabulate_cong 64 (row_to tb s n) (remaining tb s) (λ k l. rw (lt-ltb k n (omega arith))))

  pub counted_none : 0 ≡ taken_to tb s 0
  unfolding taken_to
  counted_none = sym (sum_none (λ t. bit (taken tb s t)))

  pub counted_all : (x n : ℕ) → x ≡ taken_to tb s n → n ≤ max_threads → max_threads ≤ n → x ≡ taken_count tb s
  unfolding taken_to taken_count
  counted_all x n e h i = let q : n ≡ 64 = omega arith in rw q at e

  taken_le : (n : ℕ) → taken_to tb s n ≤ n
  unfolding taken_to
  taken_le zero = omega (arith, sum_none (λ t. bit (taken tb s t)))
  taken_le (suc n) = omega (arith, sum_suc (λ t. bit (taken tb s t)) n, bit_le (taken tb s n), taken_le n)

  -- m: the marks, s₁: the state after the threads below n, and s₂ after n too
  module _ (s₁ : State) (m : List Bool) (n : ℕ) where
    pub freed_more : (s₂ : State) → s₁ ≡ collected_to tb s n → s₂ ≡ freed_by tb s₁ m n → m ≡ enabled_set tb s nobody → n < max_threads
        → s₂ ≡ collected_to tb s (n + 1)
    unfolding freed_by collected_to
    freed_more s₂ e f g l = rw (f, e, leaves_taken tb s n l m g, add-one n) (sym (rows_next tb s n l))

    module _ (x r : ℕ) (a : x ≡ taken_to tb s n) (b : r ≡ bit (leaves s₁ m n)) where
      pub counted_more : s₁ ≡ collected_to tb s n → m ≡ enabled_set tb s nobody → n < max_threads → x + r ≡ taken_to tb s (n + 1)
      unfolding taken_to
      counted_more e g l = sum_more (λ t. bit (taken tb s t)) n x r a (b ∙ rw (e, leaves_taken tb s n l m g))

      pub counted_fits : n < max_threads → Fits w32 (x + r)
      counted_fits l = record { fits = omega (arith, a, b, taken_le n, bit_le (leaves s₁ m n)) }
