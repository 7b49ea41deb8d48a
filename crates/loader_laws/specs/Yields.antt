-- A table that loading yields. Ground 9 accepts just these, as tables and as bytes. Assumes nothing.
use Rattle.loader.specs.declared.LoadRefusal.TheVariants as LoadRefusal
use Rattle.loader.specs.Answers.{Loaded, Verdict}
use Rattle.std.specs.Prelude.{ℕ, suc, ◌+◌, ◌*◌, ◌-◌, ◌≤◌, ◌<◌, ◌≡◌, refl, ◌↔◌, true, List, [], ◌∷◌, ◌++◌, ltb, eqb, length, get_or, take, drop, replicate, Err, None, Ok, Option, Some}
use Rattle.std.proofs.Common.{arith, sym, ◌∙◌, ap, map-id, length-drop, take-append-drop, length-take-le, get_or-take, get_or-drop, get_or-append-add, ext_get_or}
use Rattle.std.proofs.lemmas.List.{length-replicate, get_or-replicate}
use Rattle.std.proofs.Math.ListN.{get_or-append}
use Rattle.std.proofs.Math.Seq.{take_all}
use borrow.Author.Tests.{le-ltb, ltb-true, ltb-false, eq-eqb, eqb-true}
use Rattle.numbers.specs.Rows.{at}
use Rattle.numbers.specs.Rows.Laws.{length_rows, length_row, at_in}
use Rattle.numbers.specs.Bytes.{shorts, joined}
use Rattle.numbers.specs.Bytes.Laws.{length_numbers, length_encode, encode_below, encode_numbers, numbers_encode, numbers_fit, joined_rows, rows_joined}
use Rattle.numbers.specs.Search.Laws.{case_b, every_elim, every_intro, length_tabulate, get_d_tabulate}
use Rattle.numbers.specs.Tests.{and_left, and_right, clash}
use Rattle.table.specs.Table.{Table, max_rows, row_numbers, table_of, line_total}
use Rattle.ranges.specs.Ranges.{unused_from, rest_unused}
use Rattle.text.specs.Text.{file_text, field_of, read_number}
use Rattle.text.specs.Text.Laws.{reads_value, length_joined}
use Rattle.text.specs.Text.Characters.{Characters}
use Rattle.file.specs.File.{line_count, value_of, number_at, file_table}
use Rattle.file.specs.EmptyFile.{procedure_text}
use Rattle.loader.specs.Verdict.{judged, verdict, is_sound, rest_zero, acceptable}
use Rattle.loader.specs.Verdict.Laws.{no_sound, is_sound_lem, judged_header, lines_few}
use Rattle.loader.specs.Load.{table_length, table_bytes, Outcome, outcome, after_verdict, loaded, accepted}
use Rattle.loader.specs.declared.Ground.TheVariants.{Total}
use Rattle.loader_laws.specs.PrintedFile.{Printable, filled_up, sound_bytes, sound_read, sound_own, row_read, row_rest, length_table, print_judged, print_table}

-- some file in order has this table
abbrev pub Yields : Table → Type 0
Yields tb = (file : List ℕ) × (verdict file ≡ Ok tt) × (file_table file ≡ tb)

-- a table as a buffer holds it: 865 rows of 12 numbers of 16 bits
pub record Shaped (tb : Table) : Type 0 where
  pub long : length tb ≡ max_rows
  pub twelve : (i : ℕ) → i < max_rows → length (get_or tb i []) ≡ row_numbers
  pub small : (i k : ℕ) → i < max_rows → k < row_numbers → at tb i k < 65536

-- ---- what the verdict on a table says of its lines

module _ (tb : Table) (n : ℕ) where
  pub judged_total : judged tb n ≡ Ok tt → n ≡ line_total tb
  unfolding judged
  judged_total e = case_b (eqb n (line_total tb)) (λ y. eqb-true n (line_total tb) y)
      (λ y. no_sound Total 1 (rw (judged_header tb n e, y) at e))

-- ---- rows of 0

row_zero : (tb : Table) (r : ℕ) → get_or tb r [] ≡ replicate row_numbers 0 → rest_unused tb r 0 ≡ true
unfolding rest_unused unused_from
row_zero tb r e = every_intro (unused_from tb r 0) row_numbers (λ k l. rw (le-ltb k 0 (omega arith), e, get_or-replicate {A = ℕ} row_numbers k 0 0 l))

zero_row : (tb : Table) (r : ℕ) → length (get_or tb r []) ≡ row_numbers → rest_unused tb r 0 ≡ true → get_or tb r [] ≡ replicate row_numbers 0
unfolding rest_unused unused_from
zero_row tb r w e =
    ext_get_or 0 (get_or tb r []) (replicate row_numbers 0) (w ∙ sym (length-replicate {A = ℕ} row_numbers 0))
    (λ k l. let l' : k < 12 = omega arith in
    eqb-true (at tb r k) 0 (rw (le-ltb k 0 (omega arith)) at (every_elim (unused_from tb r 0) row_numbers k e l')) ∙ sym (get_or-replicate {A = ℕ} row_numbers k 0 0 l'))

-- ---- tables

module _ (tb : Table) (s : Shaped tb) (n : ℕ) (some : 1 ≤ n) (few : n ≤ max_rows) where
  length_lines : length (take n tb) ≡ n
  length_lines = length-take-le n tb (omega (arith, s.long))

  lines_printable : Printable (take n tb)
  lines_printable = record {
    some = omega (arith, length_lines);
    few = omega (arith, length_lines);
    twelve = λ i h. let h' : i < n = omega (arith, length_lines) in rw (get_or-take n tb i [] h') (s.twelve i (omega arith));
    small = λ i k h l. let h' : i < n = omega (arith, length_lines) in rw (get_or-take n tb i [] h') (s.small i k (omega arith) l);
  }

  -- a table whose rows past the lines are 0 is its lines, filled up
  lines_filled : ((r : ℕ) → n ≤ r → r < max_rows → rest_unused tb r 0 ≡ true) → filled_up (take n tb) ≡ tb
  lines_filled z = rw (length_lines) (ap (λ (l : Table). take n tb ++ l) (sym rest) ∙ take-append-drop n tb)
    where
      rest : drop n tb ≡ replicate (max_rows - n) (replicate row_numbers 0)
      rest =
          ext_get_or [] (drop n tb) (replicate (max_rows - n) (replicate row_numbers 0))
          (omega (arith, length-drop n tb, s.long, length-replicate {A = List ℕ} (max_rows - n) (replicate row_numbers 0)))
          (λ i h. let h' : n + i < max_rows = omega (arith, length-drop n tb, s.long) in
          get_or-drop n tb i [] ∙ zero_row tb (n + i) (s.twelve (n + i) h') (z (n + i) (omega arith) h')
          ∙ sym (get_or-replicate {A = List ℕ} (max_rows - n) i (replicate row_numbers 0) [] (omega arith)))

module _ (tb : Table) where
  acceptable_yields : Shaped tb → acceptable tb ≡ true → Yields tb
  unfolding acceptable rest_zero
  acceptable_yields s e =
      let n = line_total tb in
      let j : judged tb n ≡ Ok tt = is_sound_lem (judged tb n) (and_left _ _ e) in
      let z = and_right (is_sound (judged tb n)) _ e in
      let few : n ≤ max_rows = lines_few tb (judged_header tb n j) in
      let p = lines_printable tb s n (omega arith) few in
      let f : filled_up (take n tb) ≡ tb = lines_filled tb s n (omega arith) few (λ r h l. rw (le-ltb r n h) at (every_elim (rest_zero tb) max_rows r z l)) in
      (file_text (take n tb), print_judged (take n tb) p ∙ rw (f, length_lines tb s n (omega arith) few) j, print_table (take n tb) p ∙ f)

  yields_acceptable : Yields tb → acceptable tb ≡ true
  unfolding acceptable rest_zero is_sound
  yields_acceptable y =
      let (file, v, t) = y in
      let j : judged tb (line_count file) ≡ Ok tt = rw t at (sound_read file v).1 in
      let n : line_count file ≡ line_total tb = judged_total tb (line_count file) j in
      let z = every_intro (rest_zero tb) max_rows (λ r h. case_b (ltb r (line_total tb)) (λ y. rw y)
      (λ y. rw y (row_zero tb r (rw t at (row_rest file r (omega (arith, ltb-false r (line_total tb) y)) h))))) in
      rw (rw n at j, z)

  -- ground 9 accepts just the tables that loading yields
  pub acceptable_iff : Shaped tb → (acceptable tb ≡ true) ↔ Yields tb
  acceptable_iff s = (acceptable_yields s, yields_acceptable)

-- ---- rows, one after the other

pub length_even : (w : ℕ) (rs : Table) → ((i : ℕ) → i < length rs → length (get_or rs i []) ≡ w) → length (joined rs) ≡ length rs * w
length_even w rs h = rw (map-id rs) at (length_joined (λ (r : List ℕ). r) w [] rs h)

pub joined_small : (m : ℕ) (rs : Table) → 0 < m → ((i k : ℕ) → i < length rs → k < length (get_or rs i []) → at rs i k < m) → (x : ℕ) → get_or (joined rs) x 0 < m
unfolding joined
joined_small m [] z h x = z
joined_small m (r ∷ rs) z h x =
    case_b (ltb x (length r))
    (λ y. let l = ltb-true x (length r) y in rw (get_or-append r (joined rs) 0 x l) (h 0 x (omega arith) l))
    (λ y. let e : x ≡ length r + (x - length r) = omega (arith, ltb-false x (length r) y) in
    rw (e, get_or-append-add r (joined rs) (x - length r) 0) (joined_small m rs z (λ i k l j. h (suc i) k (omega arith) j) (x - length r)))

-- ---- a table and its bytes

module _ (tb : Table) (s : Shaped tb) where
  pub length_bytes : length (table_bytes tb) ≡ table_length
  unfolding table_bytes
  length_bytes = omega (arith, length_encode 2 (joined tb), length_even row_numbers tb (λ i h. s.twelve i (omega (arith, s.long))), s.long)

  -- the bytes of a table hold it
  pub bytes_hold : table_of (table_bytes tb) ≡ tb
  unfolding table_bytes
  bytes_hold =
      let n = numbers_encode 2 (joined tb) (omega arith) (joined_small 65536 tb (omega arith)
      (λ i k h l. let h' : i < max_rows = omega (arith, s.long) in s.small i k h' (omega (arith, s.twelve i h')))) in
      rw n (rw s.long at (rows_joined row_numbers tb (λ i h. s.twelve i (omega (arith, s.long)))))

module _ (b : List ℕ) (long : length b ≡ table_length) (fit : (i : ℕ) → get_or b i 0 < 256) where
  length_shorts : length (shorts b) ≡ 10380
  length_shorts = omega (arith, length_numbers 2 b)

  -- a buffer holds the bytes of its table
  pub hold_bytes : table_bytes (table_of b) ≡ b
  unfolding table_bytes
  hold_bytes = rw (joined_rows max_rows row_numbers (shorts b), take_all 10380 (shorts b) (omega (arith, length_shorts))) (encode_numbers 2 b (omega arith) fit)

  pub buffer_shaped : Shaped (table_of b)
  buffer_shaped = record {
    long = length_rows max_rows row_numbers (shorts b);
    twelve = λ i h. length_row max_rows row_numbers (shorts b) i h (omega (arith, length_shorts));
    small = λ i k h l. rw (at_in max_rows row_numbers (shorts b) i k h l) (numbers_fit 2 b fit (i * row_numbers + k));
  }

value_small : (f : List ℕ) (q : Option ℕ) → read_number f ≡ q → value_of q < 65536
unfolding value_of
value_small f (Some v) e = (reads_value f v e).0
value_small f None e = omega arith

pub file_shaped : (file : List ℕ) → Shaped (file_table file)
unfolding number_at
file_shaped file = record {
  long = length_table file;
  twelve = λ i h. case_b (ltb i (line_count file))
      (λ y. rw (row_read file i (ltb-true i (line_count file) y) h) (length_tabulate row_numbers (number_at file i)))
      (λ y. rw (row_rest file i (ltb-false i (line_count file) y) h) (length-replicate {A = ℕ} row_numbers 0));
  small = λ i k h l. case_b (ltb i (line_count file))
      (λ y. rw (row_read file i (ltb-true i (line_count file) y) h, get_d_tabulate row_numbers k (number_at file i) 0 l) (value_small (field_of file i k) (read_number (field_of file i k)) refl))
      (λ y. rw (row_rest file i (ltb-false i (line_count file) y) h, get_or-replicate {A = ℕ} row_numbers k 0 0 l) (omega arith));
}

-- ---- bytes

-- some file of bytes, loaded into some buffer, leaves these bytes in it
abbrev pub YieldsBytes : List ℕ → Type 0
YieldsBytes b = (file : List ℕ) × (t : List ℕ) × Characters file × (loaded file t ≡ outcome (Ok tt) b)

after_done : (v : Verdict) (file t b : List ℕ) → after_verdict v file t ≡ outcome (Ok tt) b → (v ≡ Ok tt) × (table_bytes (file_table file) ≡ b)
unfolding after_verdict
after_done (Err (g, l)) file t b e = let a : ◌≡◌ {A = Loaded} (Err (LoadRefusal.FileRefused g l)) (Ok tt) = ap (λ (o : Outcome). o.answer) e in clash cc
after_done (Ok tt) file t b e = case_b (eqb (length t) table_length)
    (λ y. let q : outcome (Ok tt) (table_bytes (file_table file)) ≡ outcome (Ok tt) b = rw y at e in (refl, ap (λ (o : Outcome). o.table) q))
    (λ y. let q : outcome (Err LoadRefusal.WrongLength) t ≡ outcome (Ok tt) b = rw y at e in let a : ◌≡◌ {A = Loaded} (Err LoadRefusal.WrongLength) (Ok tt) = ap (λ (o : Outcome). o.answer) q in clash cc)

-- a file that stands for a text in order loads into every buffer of the table's length, whatever it held
pub text_loads : (file t : List ℕ) → verdict (procedure_text file) ≡ Ok tt → length t ≡ table_length → loaded file t ≡ outcome (Ok tt) (table_bytes (file_table (procedure_text file)))
unfolding loaded after_verdict
text_loads file t e l = rw (e, eq-eqb (length t) table_length l)

-- so does a file in order
pub sound_loads : (file t : List ℕ) → verdict file ≡ Ok tt → length t ≡ table_length → loaded file t ≡ outcome (Ok tt) (table_bytes (file_table file))
sound_loads file t e l = let q = sound_own file e in rw q at (text_loads file t (rw q e) l)

-- a load that is done is of a file that stands for a text in order, and leaves its table
pub done_sound : (file t b : List ℕ) → loaded file t ≡ outcome (Ok tt) b → (verdict (procedure_text file) ≡ Ok tt) × (table_bytes (file_table (procedure_text file)) ≡ b)
unfolding loaded
done_sound file t b e = after_done (verdict (procedure_text file)) (procedure_text file) t b e

-- such a file is bytes
pub text_bytes : (file : List ℕ) → verdict (procedure_text file) ≡ Ok tt → Characters file
unfolding procedure_text
text_bytes [] e = λ i. omega arith
text_bytes (c ∷ s) e = sound_bytes (c ∷ s) e

-- ground 9 accepts just the bytes that loading yields
pub accepted_iff : (b : List ℕ) → ((i : ℕ) → get_or b i 0 < 256) → (accepted b ≡ true) ↔ YieldsBytes b
unfolding accepted
accepted_iff b fit = (
  λ e. let long : length b ≡ table_length = eqb-true (length b) table_length (and_left _ _ e) in
      let (file, v, t) = acceptable_yields (table_of b) (buffer_shaped b long fit) (and_right (eqb (length b) table_length) _ e) in
      (file, b, sound_bytes file v, sound_loads file b v long ∙ rw (t, hold_bytes b long fit)),
  λ y. let (file, t, c, e) = y in
      let (v, q) = done_sound file t b e in
      let text = procedure_text file in
      let s = file_shaped text in
      let long : length b ≡ table_length = sym (ap length q) ∙ length_bytes (file_table text) s in
      let h : file_table text ≡ table_of b = sym (bytes_hold (file_table text) s) ∙ ap table_of q in
      rw (eq-eqb (length b) table_length long, yields_acceptable (table_of b) (text, v, h)),
)

-- ---- the bytes of a file's table

pub file_small : (file : List ℕ) (i : ℕ) → get_or (table_bytes (file_table file)) i 0 < 256
unfolding table_bytes
file_small file = encode_below 2 (joined (file_table file))

-- ground 9 accepts them, if the file is in order
pub file_accepted : (file : List ℕ) → verdict file ≡ Ok tt → accepted (table_bytes (file_table file)) ≡ true
file_accepted file e =
    let b = table_bytes (file_table file) in
    (accepted_iff b (file_small file)).1 (file, b, sound_bytes file e, sound_loads file b e (length_bytes (file_table file) (file_shaped file)))

-- what a load that is done leaves in the table's buffer is such bytes
module _ (file t : List ℕ) (e : (loaded file t).answer ≡ Ok tt) where
  left : (verdict (procedure_text file) ≡ Ok tt) × (table_bytes (file_table (procedure_text file)) ≡ (loaded file t).table)
  left = done_sound file t (loaded file t).table (ap (λ (a : Loaded). outcome a (loaded file t).table) e)

  pub loaded_small : (i : ℕ) → get_or (loaded file t).table i 0 < 256
  loaded_small i = rw (← left.1) (file_small (procedure_text file) i)

  pub loaded_accepted : accepted (loaded file t).table ≡ true
  loaded_accepted = rw (← left.1) (file_accepted (procedure_text file) left.0)
