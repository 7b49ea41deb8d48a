-- Channel rows that are as a count over the threads gives them, and counts that are true, are the same. Assumes nothing.
use Rattle.std.specs.Prelude.{ℕ, zero, suc, ◌+◌, ◌<◌, ◌≤◌, ◌≡◌, true, cond, ◌≢◌, ◌↔◌, eqb, ltb, length, get_or}
use Rattle.std.proofs.Common.{arith, ◌∙◌}
use Rattle.std.proofs.Math.Path.{refl, sym, ap}
use mathlib.Core.List.{List, [], ◌∷◌}
use borrow.Author.Tests.{eqb-true, ltb-true, ltb-false, eq-eqb, ne_eqb}
use Rattle.numbers.specs.Count.{bit}
use Rattle.numbers.specs.Count.Laws.{count_some}
use Rattle.numbers.specs.Search.{every}
use Rattle.numbers.specs.Search.Laws.{case_b, every_elim, is_tabulate}
use Rattle.numbers.specs.Tests.{parts}
use Rattle.table.specs.Table.{Table, ports}
use Rattle.state.specs.State.{State, max_channels, thread, channel, type_in, count_in, waiters_in, with_channels}
use Rattle.rules.specs.Holding.{holds, holders, waiters, count_of, channel_row, recount, settled}
use Rattle.rules.specs.Sound.{count_true}
use Rattle.upkeep.specs.Upkeep.{waiters_le}
use Rattle.rules_laws.specs.Shape.{Shaped}
use Rattle.rules_laws.specs.Reading.Laws.{holds_elim}
use Rattle.rules_laws.specs.Soundness.{Orderly, Sound}
use Rattle.rules_laws.specs.ThreadRow.{held_used}
use Rattle.rules_laws.specs.Settle.{settled_row}

-- ---- true counts make the row that a count gives

-- three words that say what a channel's row should
three : (a b c n w : ℕ) → b ≡ n → c ≡ w → w ≤ n → cond (eqb a 0) (eqb b 0) (ltb 0 b) ≡ true → channel_row a n w ≡ a ∷ b ∷ c ∷ []
unfolding channel_row
three a b c zero w e f z u =
    let y : w ≡ 0 = omega arith in
    case_b (eqb a 0)
    (λ t. let q : a ≡ 0 = eqb-true a 0 t in rw (q, e, f, y))
    (λ g. let k : ltb 0 b ≡ true = rw g at u in let l : 0 < b = ltb-true 0 b k in absurd (omega arith))
three a b c (suc n) w e f z u = rw (e, f)

row_is : (row : List ℕ) (n w : ℕ) → length row ≡ 3 → get_or row 1 0 ≡ n → get_or row 2 0 ≡ w → w ≤ n
    → cond (eqb (get_or row 0 0) 0) (eqb (get_or row 1 0) 0) (ltb 0 (get_or row 1 0)) ≡ true → channel_row (get_or row 0 0) n w ≡ row
row_is [] n w l e f z u = absurd (omega arith)
row_is (a ∷ []) n w l e f z u = absurd (omega arith)
row_is (a ∷ b ∷ []) n w l e f z u = absurd (omega arith)
row_is (a ∷ b ∷ c ∷ []) n w l e f z u = three a b c n w e f z u
row_is (a ∷ b ∷ c ∷ d ∷ row) n w l e f z u = absurd (omega arith)

module _ (tb : Table) (s : State) (h : Shaped s) where
  true_row : (c : ℕ) → c < max_channels → count_true tb s c ≡ true
      → channel s c ≡ channel_row (type_in s c) (count_of tb s.threads c) (waiters tb s.threads c)
  unfolding count_true
  true_row c l e =
      let n = count_of tb s.threads c in
      let w = waiters tb s.threads c in
      sym (row_is (channel s c) n w (h.channel_long c l) (eqb-true (count_in s c) n (search parts)) (eqb-true (waiters_in s c) w (search parts))
      (waiters_le tb s.threads c) (search parts))

  -- channel rows with true counts are settled
  pub true_settled : every (count_true tb s) max_channels ≡ true → settled tb s ≡ s
  unfolding settled recount with_channels
  true_settled e =
      ap (with_channels s)
      (sym (is_tabulate s.channels max_channels (λ c. channel_row (type_in s c) (count_of tb s.threads c) (waiters tb s.threads c)) [] h.all_channels
      (λ c l. true_row c l (every_elim (count_true tb s) max_channels c e l))))

-- ---- and such rows say true counts

-- the words of the row that a count gives
count_word : (ty n w : ℕ) → get_or (channel_row ty n w) 1 0 ≡ n
unfolding channel_row
count_word ty zero w = refl
count_word ty (suc n) w = refl

waiters_word : (ty n w : ℕ) → w ≤ n → get_or (channel_row ty n w) 2 0 ≡ w
unfolding channel_row
waiters_word ty zero w h = omega arith
waiters_word ty (suc n) w h = refl

free_word : (ty n w : ℕ) → n ≡ 0 → get_or (channel_row ty n w) 0 0 ≡ 0
unfolding channel_row
free_word ty n w e = rw e

-- a channel with a count above 0 is a port, or some thread holds it: either way it has a type
counted_typed : (tb : Table) (s : State) → Orderly tb s → (c : ℕ) → 0 < count_of tb s.threads c → type_in s c ≢ 0
unfolding count_of holders bit
counted_typed tb s o c h = case_b (ltb c (ports tb))
    (λ p z. absurd (omega (arith, z, o.port c (ltb-true c (ports tb) p))))
    (λ p. let k : 0 < 0 + holders tb s.threads c = rw p at h in
    let (t, l, e) = count_some (λ row. holds tb row c) s.threads [] (omega arith) in
    held_used tb (type_in s) (thread s t) (o.row t (omega (arith, l, o.shaped.all_threads))) c (holds_elim tb (thread s t) c e))

module _ (tb : Table) (s : State) (h : Sound tb s) (c : ℕ) (l : c < max_channels) where
  counted_row : channel s c ≡ channel_row (type_in s c) (count_of tb s.threads c) (waiters tb s.threads c)
  counted_row = sym (ap (λ (x : State). channel x c) h.counts) ∙ settled_row tb s c l

  -- in a sound state the counts of each channel are true: how many hold it, the bench being one more for a port, and how many of them wait
  pub count_is : count_in s c ≡ count_of tb s.threads c
  count_is = ap (λ (r : List ℕ). get_or r 1 0) counted_row ∙ count_word (type_in s c) (count_of tb s.threads c) (waiters tb s.threads c)

  pub waiters_is : waiters_in s c ≡ waiters tb s.threads c
  waiters_is =
      ap (λ (r : List ℕ). get_or r 2 0) counted_row
      ∙ waiters_word (type_in s c) (count_of tb s.threads c) (waiters tb s.threads c) (waiters_le tb s.threads c)

  uncounted_free : count_of tb s.threads c ≡ 0 → type_in s c ≡ 0
  uncounted_free e = ap (λ (r : List ℕ). get_or r 0 0) counted_row ∙ free_word (type_in s c) (count_of tb s.threads c) (waiters tb s.threads c) e

  -- a channel is in use exactly if its count is above 0
  pub used_exactly : (type_in s c ≢ 0) ↔ (0 < count_of tb s.threads c)
  used_exactly =
      let n = count_of tb s.threads c in
      (λ z. case_b (ltb 0 n) (λ t. ltb-true 0 n t) (λ f. absurd (z (uncounted_free (omega (arith, ltb-false 0 n f))))), counted_typed tb s h.orderly c)

  used_tested : cond (eqb (type_in s c) 0) (eqb (count_of tb s.threads c) 0) (ltb 0 (count_of tb s.threads c)) ≡ true
  used_tested =
      let n = count_of tb s.threads c in
      case_b (ltb 0 n)
      (λ t. rw (ne_eqb (type_in s c) 0 (counted_typed tb s h.orderly c (ltb-true 0 n t)), t))
      (λ f. let z : n ≡ 0 = omega (arith, ltb-false 0 n f) in rw (uncounted_free z, z))

  -- which is what the test asks
  pub sound_true : count_true tb s c ≡ true
  unfolding count_true
  sound_true =
      let n = count_of tb s.threads c in
      let w = waiters tb s.threads c in
      rw (waiters_is, count_is, eq-eqb n n refl, eq-eqb w w refl) used_tested
