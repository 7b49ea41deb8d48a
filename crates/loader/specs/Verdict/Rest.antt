-- The rest of a table is 0 exactly when its bytes, joined bit by bit, are 0. Assumes nothing.
use Prim.Native.Nat.{ℕ, suc, ◌+◌, ◌-◌, ◌*◌, ◌/◌, ◌%◌, ◌≤◌, ◌<◌}
use native.Mathlib.Omega.{arith}
use Rattle.std.specs.Prelude.{◌≡◌, List, ltb, length}
use Rattle.std.proofs.Math.Path.{sym}
use Rattle.std.proofs.Common.{◌∙◌, ap}
use Rattle.std.proofs.Math.Bool.{true}
use Rattle.std.proofs.Math.Dec.{eqb}
use Rattle.std.proofs.Math.ListN.{get_or}
use borrow.Author.Tests.{le-ltb, ltb-false, eq-eqb, ne_eqb, eqb-true, eqb-false}
use Rattle.numbers.specs.Bits.{bits_of, no_bits, bits_none}
use Rattle.numbers.specs.Bytes.{shorts, little}
use Rattle.numbers.specs.Bytes.Laws.{short_is}
use Rattle.numbers.specs.Rows.{at}
use Rattle.numbers.specs.Rows.Laws.{at_in}
use Rattle.std.specs.Int.Bits.{bit_or}
use Rattle.numbers.specs.Search.{every}
use Rattle.numbers.specs.Search.Laws.{case_b, contra, every_elim, every_intro}
use Rattle.table.specs.Table.{max_rows, row_numbers, table_length, table_of, line_total}
use Rattle.ranges.specs.Ranges.{unused_from, rest_unused}
use Rattle.loader.specs.Verdict.{rest_zero}

-- the bytes of b from place p on
unfoldable pub bytes_past : List ℕ → ℕ → ℕ → ℕ
bytes_past b p j = get_or b (p + j) 0

module _ (b : List ℕ) (p : ℕ) where
  pub past_none : 0 ≡ bits_of (bytes_past b p) (p - p)
  unfolding bits_of
  past_none = let q : p - p ≡ 0 = omega arith in rw q

  pub past_more : (i s : ℕ) → p ≤ i → s ≡ bits_of (bytes_past b p) (i - p) → bit_or s (get_or b i 0) ≡ bits_of (bytes_past b p) (i + 1 - p)
  unfolding bits_of bytes_past
  past_more i s h e =
      let q : i + 1 - p ≡ suc (i - p) = omega arith in
      let w : p + (i - p) ≡ i = omega arith in
      rw (q, w, e)

module _ (b : List ℕ) (long : length b ≡ table_length) (n : ℕ) (few : n ≤ max_rows) (e : n ≡ line_total (table_of b)) where
  -- number k of row r, by its two bytes
  cell_bytes : (r k : ℕ) → r < max_rows → k < row_numbers
      → at (table_of b) r k ≡ get_or b ((r * row_numbers + k) * 2) 0 + 256 * get_or b ((r * row_numbers + k) * 2 + 1) 0
  unfolding little
  cell_bytes r k h l =
      at_in max_rows row_numbers (shorts b) r k h l
      ∙ sym (short_is b (r * row_numbers + k) (get_or b ((r * row_numbers + k) * 2) 0 + 256 * get_or b ((r * row_numbers + k) * 2 + 1) 0) (ap (λ (m : ℕ). get_or b ((r * row_numbers + k) * 2) 0 + 256 * m) (omega arith)) (omega arith))

  zero_rest : bits_of (bytes_past b (n * 24)) (table_length - n * 24) ≡ 0 → every (rest_zero (table_of b)) max_rows ≡ true
  unfolding rest_zero rest_unused unused_from bytes_past
  zero_rest z = every_intro (rest_zero (table_of b)) max_rows (λ r h. case_b (ltb r (line_total (table_of b)))
      (λ t. rw t)
      (λ f. rw f (every_intro (unused_from (table_of b) r 0) row_numbers (λ k l.
      let o : n ≤ r = omega (arith, ltb-false r (line_total (table_of b)) f) in
      rw (le-ltb k 0 (omega arith)) (eq-eqb (at (table_of b) r k) 0 (cell_bytes r k h l ∙ pair_zero ((r * row_numbers + k) * 2) (omega arith) (omega arith)))))))
    where
      byte_zero : (x : ℕ) → n * 24 ≤ x → x < table_length → get_or b x 0 ≡ 0
      byte_zero x h l =
          let w : n * 24 + (x - n * 24) ≡ x = omega arith in
          rw w at (no_bits (bytes_past b (n * 24)) (table_length - n * 24) (x - n * 24) z (omega arith))

      pair_zero : (x : ℕ) → n * 24 ≤ x → x + 1 < table_length → get_or b x 0 + 256 * get_or b (x + 1) 0 ≡ 0
      pair_zero x h l = omega (arith, byte_zero x h (omega arith), byte_zero (x + 1) (omega arith) l)

  rest_zero_lem : every (rest_zero (table_of b)) max_rows ≡ true → bits_of (bytes_past b (n * 24)) (table_length - n * 24) ≡ 0
  unfolding rest_zero rest_unused unused_from bytes_past
  rest_zero_lem z = bits_none (bytes_past b (n * 24)) (table_length - n * 24) (λ j h. byte_zero (n * 24 + j) (omega arith) (omega arith))
    where
      number_zero : (r k : ℕ) → n ≤ r → r < max_rows → k < row_numbers → at (table_of b) r k ≡ 0
      number_zero r k o h l =
          let f : rest_unused (table_of b) r 0 ≡ true = rw (le-ltb r (line_total (table_of b)) (omega arith)) at (every_elim (rest_zero (table_of b)) max_rows r z h) in
          let g : eqb (at (table_of b) r k) 0 ≡ true = rw (le-ltb k 0 (omega arith)) at (every_elim (unused_from (table_of b) r 0) row_numbers k f l) in
          eqb-true (at (table_of b) r k) 0 g

      byte_zero : (x : ℕ) → n * 24 ≤ x → x < table_length → get_or b x 0 ≡ 0
      byte_zero x h l =
          let r = x / 2 / row_numbers in
          let k = x / 2 % row_numbers in
          let c : get_or b ((r * row_numbers + k) * 2) 0 + 256 * get_or b ((r * row_numbers + k) * 2 + 1) 0 ≡ 0 =
          sym (cell_bytes r k (omega arith) (omega arith)) ∙ number_zero r k (omega arith) (omega arith) (omega arith) in
          case_b (eqb (x % 2) 0)
          (λ t. let q : x ≡ (r * row_numbers + k) * 2 = omega (arith, eqb-true (x % 2) 0 t) in rw q (omega arith))
          (λ f. let q : x ≡ (r * row_numbers + k) * 2 + 1 = omega (arith, eqb-false (x % 2) 0 f) in rw q (omega arith))

  pub rest_is : (s i : ℕ) → i ≤ table_length → table_length ≤ i → s ≡ bits_of (bytes_past b (n * 24)) (i - n * 24) → eqb s 0 ≡ every (rest_zero (table_of b)) max_rows
  rest_is s i h k f =
      let q : i ≡ table_length = omega arith in
      let g : s ≡ bits_of (bytes_past b (n * 24)) (table_length - n * 24) = rw q at f in
      case_b (every (rest_zero (table_of b)) max_rows)
      (λ t. rw (t, g, rest_zero_lem t))
      (λ y. rw y (ne_eqb s 0 (λ z. contra (zero_rest (sym g ∙ z)) y)))
