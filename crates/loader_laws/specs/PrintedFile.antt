-- A file that loads is the print of its table, and the print of rows is read back as them. Assumes nothing.
use Rattle.loader.specs.Answers.{Verdict}
use Rattle.std.specs.Prelude.{ℕ, suc, ◌+◌, ◌*◌, ◌-◌, ◌%◌, ◌≤◌, ◌<◌, ◌≡◌, refl, Bool, true, false, ltb, leb, get_or, take, replicate, None, Ok, Option, Some}
use Rattle.std.proofs.Common.{arith, sym, ◌∙◌, length-append, length-take-le, get_or-take, get_or-append-add, ext_get_or}
use mathlib.Core.List.{List, [], ◌++◌}
use Rattle.std.proofs.Math.ListN.{length, get_or-append}
use Rattle.std.proofs.lemmas.List.{length-replicate, get_or-replicate}
use borrow.Author.Tests.{lt-ltb, le-ltb, ltb-true, ltb-false, le-leb, leb-true, eqb-true, not-false}
use Rattle.numbers.specs.Rows.{at}
use Rattle.numbers.specs.Search.{every, first, tabulate}
use Rattle.numbers.specs.Search.Laws.{case_b, contra, every_elim, every_intro, first_le, first_below, first_void, length_tabulate, get_d_tabulate}
use Rattle.numbers.specs.Tests.{and_left, and_right}
use Rattle.text.specs.Text.{file_text, field_of, read_number}
use Rattle.text.specs.Text.Laws.{length_file, prints_read, prints_end, read_prints}
use Rattle.text.specs.Text.Characters.{Characters, file_fits}
use Rattle.table.specs.Table.{Table, max_rows, row_numbers}
use Rattle.file.specs.File.{is_value, value_of, line_count, not_lines, field_is_number, well_formed, malformed, number_at, row_at, file_table}
use Rattle.file.specs.EmptyFile.{procedure_text}
use Rattle.file.specs.EmptyFile.Laws.{text_own}
use Rattle.loader.specs.Verdict.{at_fault, judged, verdict}
use Rattle.loader.specs.Verdict.Laws.{no_sound}
use Rattle.loader.specs.declared.Ground.{Ground}
use Rattle.loader.specs.declared.Ground.TheVariants.{Lines, Field}

-- ---- what a file in order has passed

-- a test that finds no line at fault, and the verdict that follows it
pub fault_sound : (g : Ground) (p : ℕ → Bool) (n : ℕ) (v : Verdict) → at_fault g p n v ≡ Ok tt → (first p n ≡ n) × (v ≡ Ok tt)
unfolding at_fault
fault_sound g p n v e = case_b (ltb (first p n) n)
    (λ y. no_sound g (suc (first p n)) (rw y at e))
    (λ y. (omega (arith, ltb-false (first p n) n y, first_le p n), rw y at e))

pub sound_fault : (g : Ground) (p : ℕ → Bool) (n : ℕ) (v : Verdict) → first p n ≡ n → at_fault g p n v ≡ v
unfolding at_fault
sound_fault g p n v e = rw (le-ltb (first p n) n (omega arith))

-- a reading that is a number is the reading of that number
value_read : (q : Option ℕ) → is_value q ≡ true → q ≡ Some (value_of q)
unfolding is_value value_of
value_read (Some v) e = refl
value_read None e = contra e refl

-- what ground 1 asks
pub record Lined (file : List ℕ) : Type 0 where
  pub some : 1 ≤ line_count file
  pub few : line_count file ≤ max_rows
  pub whole : length file ≡ line_count file * 73

pub lines_lined : (file : List ℕ) → not_lines file ≡ false → Lined file
unfolding not_lines
lines_lined file e =
    let q = not-false _ e in
    let r = and_right (leb 1 (line_count file)) _ q in
    let z = eqb-true (length file % 73) 0 (and_right (leb (line_count file) max_rows) _ r) in
    record { some = leb-true 1 (line_count file) (and_left _ _ q); few = leb-true (line_count file) max_rows (and_left _ _ r); whole = omega arith }

-- a file that grounds 1 and 2 do not refuse
pub record Read (file : List ℕ) : Type 0 where
  pub lined : Lined file
  pub formed : (i : ℕ) → i < line_count file → malformed file i ≡ false

pub sound_read : (file : List ℕ) → verdict file ≡ Ok tt → Read file × (judged (file_table file) (line_count file) ≡ Ok tt)
unfolding verdict
sound_read file e = case_b (not_lines file)
    (λ y. no_sound Lines 0 (rw y at e))
    (λ y. let n = line_count file in
    let (f, s) = fault_sound Field (malformed file) n (judged (file_table file) n) (rw y at e) in
    (record { lined = lines_lined file y; formed = λ i h. first_below (malformed file) n i (omega arith) }, s))

-- a file in order has lines, and stands for itself
pub sound_own : (file : List ℕ) → verdict file ≡ Ok tt → procedure_text file ≡ file
sound_own file e = text_own file (λ z. let s = (sound_read file e).0.lined.some in absurd (omega arith))

-- ---- the rows of a file's table

module _ (file : List ℕ) where
  pub row_read : (i : ℕ) → i < line_count file → i < max_rows → get_or (file_table file) i [] ≡ tabulate row_numbers (number_at file i)
  unfolding file_table row_at
  row_read i h l = get_d_tabulate max_rows i (row_at file) [] l ∙ rw (lt-ltb i (line_count file) h)

  pub row_rest : (i : ℕ) → line_count file ≤ i → i < max_rows → get_or (file_table file) i [] ≡ replicate row_numbers 0
  unfolding file_table row_at
  row_rest i h l = get_d_tabulate max_rows i (row_at file) [] l ∙ rw (le-ltb i (line_count file) h)

  pub length_table : length (file_table file) ≡ max_rows
  unfolding file_table
  length_table = length_tabulate max_rows (row_at file)

  -- a field of a line in order is read as its number
  pub field_read : (i k : ℕ) → malformed file i ≡ false → k < 12 → read_number (field_of file i k) ≡ Some (number_at file i k)
  unfolding malformed well_formed field_is_number number_at
  field_read i k e h = value_read (read_number (field_of file i k)) (every_elim (field_is_number file i) row_numbers k (and_left _ _ (not-false _ e)) h)

  pub end_read : (i : ℕ) → malformed file i ≡ false → get_or file (i * 73 + 72) 0 ≡ 10
  unfolding malformed well_formed
  end_read i e = eqb-true (get_or file (i * 73 + 72) 0) 10 (and_right (every (field_is_number file i) row_numbers) _ (not-false _ e))

-- ---- a file that loads

module _ (file : List ℕ) (g : Read file) where
  abbrev line_rows : Table
  line_rows = take (line_count file) (file_table file)

  length_rows : length line_rows ≡ line_count file
  length_rows = length-take-le (line_count file) (file_table file) (omega (arith, length_table file, g.lined.few))

  line_row : (i : ℕ) → i < line_count file → get_or line_rows i [] ≡ tabulate row_numbers (number_at file i)
  line_row i h = get_or-take (line_count file) (file_table file) i [] h ∙ row_read file i h (omega (arith, g.lined.few))

  -- it is the print of its table
  pub read_printed : file ≡ file_text (take (line_count file) (file_table file))
  read_printed =
      read_prints line_rows
      (λ i h. let h' : i < line_count file = omega (arith, length_rows) in rw (line_row i h') (length_tabulate row_numbers (number_at file i)))
      file (g.lined.whole ∙ omega (arith, length_rows))
      (λ i j h l. let h' : i < line_count file = omega (arith, length_rows) in
      rw (line_row i h', get_d_tabulate row_numbers j (number_at file i) 0 l) (field_read file i j (g.formed i h') l))
      (λ i h. end_read file i (g.formed i (omega (arith, length_rows))))

pub sound_printed : (file : List ℕ) → verdict file ≡ Ok tt → file ≡ file_text (take (line_count file) (file_table file))
sound_printed file e = read_printed file (sound_read file e).0

-- a file that loads is bytes
pub sound_bytes : (file : List ℕ) → verdict file ≡ Ok tt → Characters file
sound_bytes file e = rw (sound_printed file e) (file_fits (take (line_count file) (file_table file)))

-- ---- the print of rows

-- rows that fit a file: 1 to 865 of them, each of 12 numbers of 16 bits
pub record Printable (rs : Table) : Type 0 where
  pub some : 1 ≤ length rs
  pub few : length rs ≤ max_rows
  pub twelve : (i : ℕ) → i < length rs → length (get_or rs i []) ≡ row_numbers
  pub small : (i k : ℕ) → i < length rs → k < row_numbers → at rs i k < 65536

-- rows, and rows of 0 after them, 865 in all
abbrev pub filled_up : Table → Table
filled_up rs = rs ++ replicate (max_rows - length rs) (replicate row_numbers 0)

module _ (rs : Table) (g : Printable rs) where
  pub print_lines : line_count (file_text rs) ≡ length rs
  print_lines = omega (arith, length_file rs g.twelve)

  -- ground 1 does not refuse the print of rows
  pub print_whole : not_lines (file_text rs) ≡ false
  unfolding not_lines
  print_whole =
      let z : length (file_text rs) % 73 ≡ 0 = omega (arith, length_file rs g.twelve) in
      rw (print_lines, z, le-leb 1 (length rs) g.some, le-leb (length rs) max_rows g.few)

  -- ground 2 does not refuse it
  pub print_formed : (i : ℕ) → i < length rs → malformed (file_text rs) i ≡ false
  unfolding malformed well_formed field_is_number is_value
  print_formed i h =
      let e = every_intro (field_is_number (file_text rs) i) row_numbers (λ k l. rw (prints_read rs g.twelve i k h l (g.small i k h l))) in
      rw (e, prints_end rs g.twelve i h)

  print_number : (i k : ℕ) → i < length rs → k < row_numbers → number_at (file_text rs) i k ≡ at rs i k
  unfolding number_at value_of
  print_number i k h l = rw (prints_read rs g.twelve i k h l (g.small i k h l))

  print_row : (i : ℕ) → i < length rs → get_or (file_table (file_text rs)) i [] ≡ get_or rs i []
  print_row i h =
      row_read (file_text rs) i (omega (arith, print_lines)) (omega (arith, g.few))
      ∙ ext_get_or 0 (tabulate row_numbers (number_at (file_text rs) i)) (get_or rs i [])
      (length_tabulate row_numbers (number_at (file_text rs) i) ∙ sym (g.twelve i h))
      (λ k l. let l' : k < 12 = omega (arith, length_tabulate row_numbers (number_at (file_text rs) i)) in
      get_d_tabulate row_numbers k (number_at (file_text rs) i) 0 l' ∙ print_number i k h l')

  -- the table that is read from the print is the rows again
  pub print_table : file_table (file_text rs) ≡ filled_up rs
  print_table =
      ext_get_or [] (file_table (file_text rs)) (filled_up rs)
      (omega (arith, length_table (file_text rs), length-append rs rest, length-replicate {A = List ℕ} (max_rows - length rs) (replicate row_numbers 0), g.few))
      (λ i h. let h' : i < max_rows = omega (arith, length_table (file_text rs)) in
      case_b (ltb i (length rs))
      (λ y. print_row i (ltb-true i (length rs) y) ∙ sym (get_or-append rs rest [] i (ltb-true i (length rs) y)))
      (λ y. past i h' (ltb-false i (length rs) y)))
    where
      rest : Table
      rest = replicate (max_rows - length rs) (replicate row_numbers 0)

      past : (i : ℕ) → i < max_rows → length rs ≤ i → get_or (file_table (file_text rs)) i [] ≡ get_or (filled_up rs) i []
      past i h l =
          let e : i ≡ length rs + (i - length rs) = omega arith in
          row_rest (file_text rs) i (omega (arith, print_lines)) h
          ∙ sym (rw e (get_or-append-add rs rest (i - length rs) [] ∙ get_or-replicate {A = List ℕ} (max_rows - length rs) (i - length rs) (replicate row_numbers 0) [] (omega arith)))

  pub print_read : Read (file_text rs)
  print_read = record { lined = lines_lined (file_text rs) print_whole; formed = λ i h. print_formed i (omega (arith, print_lines)) }

  -- the verdict on the print is that on the rows
  pub print_judged : verdict (file_text rs) ≡ judged (filled_up rs) (length rs)
  unfolding verdict
  print_judged =
      let n = line_count (file_text rs) in
      rw (print_whole, sound_fault Field (malformed (file_text rs)) n (judged (file_table (file_text rs)) n) (first_void (malformed (file_text rs)) n print_read.formed), print_table, print_lines)
