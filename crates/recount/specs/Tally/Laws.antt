-- One pass over the rows counts the holders of each channel. Assumes nothing.
use Prim.Native.Nat.{ℕ, zero, suc, ◌+◌, ◌*◌, ◌%◌, ◌<◌}
use Rattle.std.proofs.Common.{arith, add-mul, sym, ◌∙◌, length-set, get_or-set_same, get_or-set_other, eqb-true}
use Rattle.std.specs.Prelude.{◌≡◌, Bool, ◌&&◌, List, [], eqb, replicate}
use Rattle.std.proofs.Math.Path.{refl}
use Rattle.std.proofs.Math.Bool.{true, false}
use Rattle.std.proofs.Math.ListN.{length, get_or}
use Rattle.std.proofs.lemmas.List.{length-replicate}
use Rattle.std.proofs.lemmas.Bool.{eqb-false}
use Rattle.numbers.specs.Count.{bit, count}
use Rattle.numbers.specs.Count.Laws.{count_le, count_index}
use Rattle.numbers.specs.Laid.Laws.{zeros_at}
use Rattle.numbers.specs.Search.{sum_to, tabulate}
use Rattle.numbers.specs.Search.Laws.{case_b, sum_none, sum_suc, is_tabulate}
use Rattle.table.specs.Table.{Table}
use Rattle.state.specs.State.{is_waiting, max_channels, max_threads}
use Rattle.rules.specs.Holding.{holds, holders, waiters}
use Rattle.holding.specs.Own.{own_of, own_room, holds_to}
use Rattle.holding.specs.Own.Laws.{holds_none, own_counts, holds_room}
use Rattle.recount.specs.Tally.{added, added_to, row_added, added_below}

-- ---- entries

pub length_added : (l : List ℕ) (c w : ℕ) → length (added l c w) ≡ length l
unfolding added
length_added l c w = length-set l c ((get_or l c 0 + w) % 256)

added_law : (l : List ℕ) (v w c : ℕ) → c < length l → get_or l c 0 < 256 → get_or (added l v w) c 0 ≡ (get_or l c 0 + bit (eqb v c) * w) % 256
unfolding added bit
added_law l v w c h b = case_b (eqb v c)
    (λ y. let q : v ≡ c = eqb-true v c y in rw (y, q, get_or-set_same l c ((get_or l c 0 + w) % 256) 0 h) (omega arith))
    (λ n. rw (n, get_or-set_other l v c ((get_or l v 0 + w) % 256) 0 (λ q. eqb-false v c n (sym q))) (omega arith))

sums : (x a b w : ℕ) → ((x + a * w) % 256 + b * w) % 256 ≡ (x + (a + b) * w) % 256
sums x a b w = let q : (a + b) * w ≡ a * w + b * w = add-mul a b w in rw q (omega arith)

module _ (tb : Table) where
  -- ---- the channels of a row

  module _ (row : List ℕ) (w : ℕ) (l : List ℕ) where
    pub length_added_to : (n : ℕ) → length (added_to (own_of tb row) w l n) ≡ length l
    unfolding added_to
    length_added_to zero = refl
    length_added_to (suc n) = length_added (added_to (own_of tb row) w l n) (own_of tb row n) w ∙ length_added_to n

    added_to_law : (c n : ℕ) → length l ≡ max_channels → c < max_channels → get_or l c 0 < 256
        → get_or (added_to (own_of tb row) w l n) c 0 ≡ (get_or l c 0 + bit (holds_to tb row c n) * w) % 256
    unfolding added_to bit
    added_to_law c zero e h b = rw (holds_none tb row c h) (omega arith)
    added_to_law c (suc n) e h b =
        let prev = added_to (own_of tb row) w l n in
        let m = added_to_law c n e h b in
        let long : length prev ≡ 128 = length_added_to n ∙ e in
        let byte : get_or prev c 0 < 256 = rw m (omega arith) in
        rw (added_law prev (own_of tb row n) w c (omega arith) byte, m, own_counts tb row c h n)
        (sums (get_or l c 0) (bit (holds_to tb row c n)) (bit (eqb (own_of tb row n) c)) w)

  -- ---- rows

  module _ (row : List ℕ) (b : Bool) (l : List ℕ) where
    length_row_added : length (row_added tb row (bit b) l) ≡ length l
    unfolding row_added
    length_row_added = length_added_to row (bit b) l (own_room tb row)

    bit_and_lem : (x y : Bool) → bit x * bit y ≡ bit (y && x)
    unfolding bit
    bit_and_lem true true = refl
    bit_and_lem true false = refl
    bit_and_lem false true = refl
    bit_and_lem false false = refl

    row_added_law : (c : ℕ) → length l ≡ max_channels → c < max_channels → get_or l c 0 < 256
        → get_or (row_added tb row (bit b) l) c 0 ≡ (get_or l c 0 + bit (b && holds tb row c)) % 256
    unfolding row_added
    row_added_law c e h y =
        rw (← bit_and_lem (holds tb row c) b, ← holds_room tb row c h) (added_to_law row (bit b) l c (own_room tb row) e h y)

  module _ (p : List ℕ → Bool) (ths : List (List ℕ)) where
    abbrev passed : ℕ → ℕ → ℕ
    passed c i = bit (p (get_or ths i []) && holds tb (get_or ths i []) c)

    abbrev passers : ℕ → ℕ
    passers c = count (λ row. p row && holds tb row c) ths

    module _ (l : List ℕ) where
      length_below : (n : ℕ) → length (added_below tb p ths l n) ≡ length l
      unfolding added_below
      length_below zero = refl
      length_below (suc n) = length_row_added (get_or ths n []) (p (get_or ths n [])) (added_below tb p ths l n) ∙ length_below n

      below_law : (c n : ℕ) → length l ≡ max_channels → c < max_channels → get_or l c 0 < 256
          → get_or (added_below tb p ths l n) c 0 ≡ (get_or l c 0 + sum_to (passed c) n) % 256
      unfolding added_below
      below_law c zero e h b = rw (sum_none (passed c)) (omega arith)
      below_law c (suc n) e h b =
          let m = below_law c n e h b in
          let byte : get_or (added_below tb p ths l n) c 0 < 256 = rw m (omega arith) in
          rw (row_added_law (get_or ths n []) (p (get_or ths n [])) (added_below tb p ths l n) c (length_below n ∙ e) h byte, m, sum_suc (passed c) n) (omega arith)

    -- all 64 rows, from a list of zeros
    counted : length ths ≡ max_threads → added_below tb p ths (replicate max_channels 0) max_threads ≡ tabulate max_channels passers
    counted long = is_tabulate (added_below tb p ths (replicate 128 0) 64) 128 passers 0 (length_below (replicate 128 0) 64 ∙ length-replicate {A = ℕ} 128 0)
        (λ c h. let le = count_le (λ row. p row && holds tb row c) ths in
        let i : passers c ≡ sum_to (passed c) 64 = rw long at (count_index (λ row. p row && holds tb row c) ths []) in
        below_law (replicate 128 0) c 64 (length-replicate {A = ℕ} 128 0) h (omega (arith, zeros_at 128 c))
        ∙ omega (arith, zeros_at 128 c))

  -- the rows that hold a channel, and the waiting ones among them
  pub holders_counted : (ths : List (List ℕ)) → length ths ≡ max_threads
      → added_below tb (λ row. true) ths (replicate max_channels 0) max_threads ≡ tabulate max_channels (holders tb ths)
  unfolding holders
  holders_counted ths long = counted (λ row. true) ths long

  pub waiters_counted : (ths : List (List ℕ)) → length ths ≡ max_threads
      → added_below tb (λ row. is_waiting row) ths (replicate max_channels 0) max_threads ≡ tabulate max_channels (waiters tb ths)
  unfolding waiters
  waiters_counted ths long = counted (λ row. is_waiting row) ths long
