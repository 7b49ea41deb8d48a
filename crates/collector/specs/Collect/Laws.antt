-- What a collection takes, what it leaves and what it counts. Assumes nothing.
use Rattle.std.specs.Prelude.{ℕ, zero, suc, ◌<◌, ◌≡◌, true, ◌&&◌, cond, ◌↔◌}
use Rattle.std.proofs.Common.{arith, sym, ◌∙◌}
use Rattle.std.proofs.Math.Path.{refl, ap}
use Rattle.std.proofs.Math.Bool.{false, not}
use mathlib.Core.List.{[]}
use Rattle.std.proofs.Math.ListN.{get_or}
use Rattle.std.proofs.lemmas.Bool.{not-true}
use Rattle.numbers.specs.Count.{bit}
use Rattle.numbers.specs.Search.{sum_to}
use Rattle.numbers.specs.Search.Laws.{case_b, contra, sum_none, sum_suc, get_d_tabulate}
use Rattle.numbers.specs.Tests.{parts}
use Rattle.table.specs.Table.{Table}
use Rattle.state.specs.State.{State, max_threads, thread, in_use, with_channels}
use Rattle.rules.specs.Holding.{settled}
use Rattle.rules.specs.Start.{free_row}
use Rattle.marking.specs.Enabled.{nobody, Enabled, enabled_set}
use Rattle.marking.proofs.Enabled.Laws.{enabled_in, enabled_iff}
use Rattle.collector.specs.Collect.{taken, remaining, collected, taken_count}

sum_cong : (f g : ℕ → ℕ) (n : ℕ) → ((i : ℕ) → i < n → f i ≡ g i) → sum_to f n ≡ sum_to g n
sum_cong f g zero h = sum_none f ∙ sym (sum_none g)
sum_cong f g (suc n) h = omega (arith, sum_suc f n, sum_suc g n, sum_cong f g n (λ i l. h i (omega arith)), h n (omega arith))

module _ (tb : Table) (s : State) where
  -- ---- which threads

  -- a collection takes exactly the threads that are not enabled
  pub taken_iff : (t : ℕ) → (taken tb s t ≡ true) ↔ ((in_use (thread s t) ≡ true) × (Enabled tb s nobody t → ⊥))
  unfolding taken
  taken_iff t =
      let m = get_or (enabled_set tb s nobody) t false in (
        (λ e. (search parts, λ n. contra ((enabled_iff tb s nobody t).1 n) (not-true m (search parts)))),
        (λ (u, n). rw u (case_b m (λ k. absurd (n ((enabled_iff tb s nobody t).0 k))) (λ k. rw k))),
      )

  pub enabled_stays : (t : ℕ) → Enabled tb s nobody t → taken tb s t ≡ false
  enabled_stays t e = case_b (taken tb s t) (λ k. absurd (((taken_iff t).0 k).1 e)) (λ k. k)

  -- what is in use and not taken is enabled
  pub stays_enabled : (t : ℕ) → in_use (thread s t) ≡ true → taken tb s t ≡ false → Enabled tb s nobody t
  unfolding taken
  stays_enabled t u k =
      let m = get_or (enabled_set tb s nobody) t false in
      (enabled_iff tb s nobody t).0 (case_b m (λ y. y) (λ n. contra (rw (u, n)) k))

  -- ---- the rows

  pub collected_row : (t : ℕ) → t < max_threads → thread (collected tb s) t ≡ cond (taken tb s t) free_row (thread s t)
  unfolding collected settled with_channels remaining
  collected_row t l = get_d_tabulate max_threads t (remaining tb s) [] l

  pub taken_freed : (t : ℕ) → t < max_threads → taken tb s t ≡ true → thread (collected tb s) t ≡ free_row
  taken_freed t l e = rw (collected_row t l, e)

  pub left_same : (t : ℕ) → t < max_threads → taken tb s t ≡ false → thread (collected tb s) t ≡ thread s t
  left_same t l e = rw (collected_row t l, e)

  pub enabled_same : (t : ℕ) → Enabled tb s nobody t → thread (collected tb s) t ≡ thread s t
  enabled_same t e = left_same t (enabled_in tb s nobody e) (enabled_stays t e)

  -- the marks and the turn stay
  pub collected_marks : (collected tb s).marks ≡ s.marks
  unfolding collected settled with_channels
  collected_marks = refl

  -- ---- the count

  taken_used : (t : ℕ) → taken tb s t ≡ true → in_use (thread s t) ≡ true
  taken_used t e = ((taken_iff t).0 e).0

  pub taken_shows : (t : ℕ) → t < max_threads → taken tb s t ≡ in_use (thread s t) && not (in_use (thread (collected tb s) t))
  taken_shows t l =
      case_b (taken tb s t)
      (λ e. rw (taken_freed t l e, e, taken_used t e))
      (λ e. rw (left_same t l e, e) (case_b (in_use (thread s t)) (λ u. rw u) (λ u. rw u)))

  -- a collection's number is that of the rows that were in use before it and are free after it
  pub count_says : taken_count tb s ≡ sum_to (λ t. bit (in_use (thread s t) && not (in_use (thread (collected tb s) t)))) max_threads
  unfolding taken_count
  count_says = sum_cong (λ t. bit (taken tb s t)) (λ t. bit (in_use (thread s t) && not (in_use (thread (collected tb s) t)))) max_threads
      (λ t l. ap bit (taken_shows t l))
