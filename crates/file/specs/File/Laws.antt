-- The reading of a file, line by line and field by field. Assumes nothing.
use Prim.Native.Nat.{ℕ, suc, ◌+◌, ◌*◌, ◌/◌, ◌%◌, ◌≤◌, ◌<◌}
use native.Mathlib.Omega.{arith}
use Rattle.std.proofs.Math.Nat.{min-eq_left}
use Rattle.std.specs.Prelude.{◌≡◌, Bool, not, ltb, eqb, get_or, set, drop, None, Option, Some}
use Rattle.std.proofs.Math.Path.{refl, sym}
use Rattle.std.proofs.Common.{◌∙◌, length-take, length-drop}
use Rattle.std.proofs.Math.Bool.{true, false}
use mathlib.Core.List.{List, []}
use Rattle.std.proofs.Math.ListN.{length, take}
use Rattle.std.proofs.lemmas.List.{length-replicate, get_or-replicate}
use Rattle.std.proofs.Math.Seq.{ext_get_or, get_or-take, get_or-drop}
use borrow.Author.Tests.{ltb-true, ltb-false, le-leb, lt-leb, not-false}
use Rattle.numbers.specs.Rows.{rows}
use Rattle.numbers.specs.Rows.Laws.{length_rows, row_in}
use Rattle.numbers.specs.Search.{every, first, tabulate}
use Rattle.numbers.specs.Search.Laws.{case_b, every_more, every_not, every_all, first_hit, first_more, length_tabulate, get_d_tabulate}
use Rattle.numbers.specs.Laid.{laid}
use Rattle.numbers.specs.Laid.Laws.{laid_put, get_d_laid, length_laid, get_d_unlaid}
use Rattle.text.specs.Text.{field_of, read_number}
use Rattle.table.specs.Table.{max_rows, row_numbers, table_numbers}
use Rattle.file.specs.File.{line_length, is_value, value_of, line_count, not_lines, field_is_number, well_formed, malformed, number_at, row_at, file_table, number_in}

module _ (file : List ℕ) (line : ℕ) where
  number_in_lem : (column : ℕ) → column < row_numbers → number_in file (line * row_numbers + column) ≡ number_at file line column
  unfolding number_in
  number_in_lem column h =
      let d : (line * row_numbers + column) / row_numbers ≡ line = omega arith in
      let m : (line * row_numbers + column) % row_numbers ≡ column = omega arith in
      rw (d, m)

  -- what a field was read as
  module _ (column : ℕ) (f : List ℕ) (q : Option ℕ) (a : f ≡ field_of file line column) (e : q ≡ read_number f) where
    pub field_wrong : q ≡ None → column < row_numbers → false ≡ well_formed file line
    unfolding well_formed field_is_number is_value
    field_wrong g h =
        let w : false ≡ field_is_number file line column = rw (← a, ← e, g) in
        rw (← every_not (field_is_number file line) column row_numbers false w refl h)

    pub field_more : (v : ℕ) → q ≡ Some v → every (field_is_number file line) column ≡ true → every (field_is_number file line) (column + 1) ≡ true
    unfolding field_is_number is_value
    field_more v g h = every_more (field_is_number file line) column true h (rw (← a, ← e, g)) refl

    pub number_more : (v : ℕ) (l l' : List ℕ) → l' ≡ set l (line * row_numbers + column) v → q ≡ Some v
        → l ≡ laid (number_in file) (line * row_numbers + column) table_numbers
        → line < max_rows → column < row_numbers → l' ≡ laid (number_in file) (line * row_numbers + (column + 1)) table_numbers
    unfolding number_at value_of
    number_more v l l' d g b h k =
        let w : line * row_numbers + (column + 1) ≡ suc (line * row_numbers + column) = omega arith in
        let m : v ≡ number_in file (line * row_numbers + column) = sym (number_in_lem column k ∙ rw (← a, ← e, g)) in
        d ∙ rw (w, b, m) (laid_put (number_in file) table_numbers (line * row_numbers + column) (omega arith))

  pub line_begins : (l : List ℕ) → l ≡ laid (number_in file) (line * row_numbers) table_numbers → l ≡ laid (number_in file) (line * row_numbers + 0) table_numbers
  line_begins l e = let q : line * row_numbers + 0 ≡ line * row_numbers = omega arith in rw q e

  module _ (column : ℕ) (h : column ≤ row_numbers) (k : row_numbers ≤ column) where
    pub line_ends : every (field_is_number file line) column ≡ true → eqb (get_or file (line * line_length + 72) 0) 10 ≡ well_formed file line
    unfolding well_formed
    line_ends e = rw (← every_all (field_is_number file line) column row_numbers e h k)

    pub line_whole : (l : List ℕ) → l ≡ laid (number_in file) (line * row_numbers + column) table_numbers
        → l ≡ laid (number_in file) (line * row_numbers + row_numbers) table_numbers
    line_whole l e = let q : line * row_numbers + row_numbers ≡ line * row_numbers + column = omega arith in rw q e

-- ---- the lines

module _ (file : List ℕ) where
  module _ (line : ℕ) (w : Bool) (e : w ≡ well_formed file line) where
    pub lines_hit : (n : ℕ) → not w ≡ true → first (malformed file) line ≡ line → line < n → line ≡ first (malformed file) n
    unfolding malformed
    lines_hit n g f h = first_hit (malformed file) line n (not w) f (rw e) g h

    pub lines_more : not w ≡ false → first (malformed file) line ≡ line → first (malformed file) (line + 1) ≡ line + 1
    unfolding malformed
    lines_more g f = first_more (malformed file) line (not w) f (rw e) g

    pub laid_more : (l : List ℕ) → not w ≡ false → (w ≡ true → l ≡ laid (number_in file) (line * row_numbers + row_numbers) table_numbers)
        → l ≡ laid (number_in file) ((line + 1) * row_numbers) table_numbers
    laid_more l g f = let q : (line + 1) * row_numbers ≡ line * row_numbers + row_numbers = omega arith in rw q (f (not-false w g))

  pub laid_begins : (l : List ℕ) → l ≡ laid (number_in file) 0 table_numbers → l ≡ laid (number_in file) (0 * row_numbers) table_numbers
  laid_begins l e = e

  pub laid_lines : (l : List ℕ) (line n : ℕ) → line ≤ n → n ≤ line → l ≡ laid (number_in file) (line * row_numbers) table_numbers
      → l ≡ laid (number_in file) (n * row_numbers) table_numbers
  laid_lines l line n h k e = let q : n ≡ line = omega arith in rw q e

-- ---- ground 1

module _ (file : List ℕ) where
  pub none_lines : length file / line_length < 1 → true ≡ not_lines file
  unfolding not_lines
  none_lines h = rw (lt-leb 1 (length file / line_length) h)

  module _ (h : 1 ≤ length file / line_length) where
    pub many_lines : max_rows < length file / line_length → true ≡ not_lines file
    unfolding not_lines
    many_lines k = rw (le-leb 1 (length file / line_length) h, lt-leb (length file / line_length) max_rows k)

    pub whole_lines : length file / line_length ≤ max_rows → not (eqb (length file % line_length) 0) ≡ not_lines file
    unfolding not_lines
    whole_lines k = rw (le-leb 1 (length file / line_length) h, le-leb (length file / line_length) max_rows k)

-- ---- the table

take_part : (l : List ℕ) (w p : ℕ) → p + w ≤ length l → length (take w (drop p l)) ≡ w
take_part l w p h = length-take w (drop p l) ∙ min-eq_left (omega (arith, length-drop p l))

length_row : (file : List ℕ) (i : ℕ) → length (row_at file i) ≡ row_numbers
unfolding row_at
length_row file i = case_b (ltb i (line_count file))
    (λ t. rw t (length_tabulate row_numbers (number_at file i)))
    (λ f. rw f (length-replicate {A = ℕ} row_numbers 0))

module _ (file : List ℕ) (few : line_count file ≤ max_rows) where
  row_number : (i k : ℕ) → k < row_numbers
      → get_or (row_at file i) k 0 ≡ get_or (laid (number_in file) (line_count file * row_numbers) table_numbers) (i * row_numbers + k) 0
  unfolding row_at
  row_number i k h = case_b (ltb i (line_count file))
      (λ t. rw t (get_d_tabulate row_numbers k (number_at file i) 0 h
      ∙ sym (get_d_laid (number_in file) table_numbers (line_count file * row_numbers) (i * row_numbers + k) (omega (arith, ltb-true i (line_count file) t)) ∙ number_in_lem file i k h)))
      (λ f. rw f (get_or-replicate {A = ℕ} row_numbers k 0 0 h
      ∙ sym (get_d_unlaid (number_in file) table_numbers (line_count file * row_numbers) (i * row_numbers + k) (omega (arith, ltb-false i (line_count file) f)))))

  pub rows_file : rows max_rows row_numbers (laid (number_in file) (line_count file * row_numbers) table_numbers) ≡ file_table file
  unfolding file_table
  rows_file =
      let l = laid (number_in file) (line_count file * row_numbers) table_numbers in
      let long : length l ≡ table_numbers = length_laid (number_in file) table_numbers (line_count file * row_numbers) (omega arith) in
      ext_get_or [] (rows max_rows row_numbers l) (tabulate max_rows (row_at file)) (length_rows max_rows row_numbers l ∙ sym (length_tabulate max_rows (row_at file)))
      (λ i h. let h' : i < max_rows = omega (arith, length_rows max_rows row_numbers l) in
      row_in max_rows row_numbers l i h' ∙ same_row i h' long ∙ sym (get_d_tabulate max_rows i (row_at file) [] h'))
    where
      same_row : (i : ℕ) → i < max_rows → length (laid (number_in file) (line_count file * row_numbers) table_numbers) ≡ table_numbers
          → take row_numbers (drop (i * row_numbers) (laid (number_in file) (line_count file * row_numbers) table_numbers)) ≡ row_at file i
      same_row i h long =
          let l = laid (number_in file) (line_count file * row_numbers) table_numbers in
          let w : length (take row_numbers (drop (i * row_numbers) l)) ≡ row_numbers = take_part l row_numbers (i * row_numbers) (omega arith) in
          ext_get_or 0 (take row_numbers (drop (i * row_numbers) l)) (row_at file i) (w ∙ sym (length_row file i))
          (λ k b. let b' : k < row_numbers = omega arith in
          get_or-take row_numbers (drop (i * row_numbers) l) k 0 b' ∙ get_or-drop (i * row_numbers) l k 0 ∙ sym (row_number i k b'))
