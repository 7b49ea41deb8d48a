-- The rows of a table, laid into a buffer as lines, and the ways out of a write. Assumes nothing.
use Rattle.writer.specs.declared.WriteRefusal.TheVariants as WriteRefusal
use Rattle.std.specs.Prelude.{ℕ, ◌+◌, ◌*◌, ◌≤◌, ◌<◌, ◌≡◌, Bool, true, false, not, leb, eqb, get_or, set, take, Err, Ok}
use native.Mathlib.Omega.{arith}
use Rattle.std.proofs.Math.Path.{refl}
use Rattle.std.proofs.Common.{sym, ◌∙◌, length-take-le, get_or-take, Fits}
use mathlib.Core.List.{List, [], map}
use Rattle.std.proofs.Math.ListN.{length}
use Rattle.std.proofs.lemmas.List.Edits.{sets}
use Rattle.std.specs.Int.{w64}
use borrow.Author.Tests.{le-leb, lt-leb, eq-eqb, ne_eqb, eqb-true, not-false}
use Rattle.numbers.specs.Rows.{at}
use Rattle.numbers.specs.Rows.Laws.{length_rows, length_row, sets_front}
use Rattle.numbers.specs.Search.Laws.{case_b}
use Rattle.numbers.specs.Tests.{and_left, and_right}
use Rattle.numbers.specs.Bytes.{shorts, joined}
use Rattle.numbers.specs.Bytes.Laws.{length_numbers}
use Rattle.text.specs.Text.{line_length, text, line_text, file_text}
use Rattle.text.specs.Text.Laws.{length_text, length_line, length_file, pieces_more, pieces_closed}
use Rattle.table.specs.Table.{Table, max_rows, row_numbers, table_length, table_of, line_total}
use Rattle.table.specs.Index.{Indexed}
use Rattle.table.specs.Index.Laws.{whole_long}
use Rattle.loader.specs.Verdict.Laws.{acceptable_few}
use Rattle.loader.specs.Load.{accepted}
use Rattle.writer.specs.Write.{Whole, printed_form, outcome, laid_into, write_call, bytes_number}

-- every row of a whole table has its twelve numbers
row_twelve : (t : List ℕ) → table_length ≤ length t → (i : ℕ) → i < max_rows → length (get_or (table_of t) i []) ≡ row_numbers
row_twelve t long i h = length_row max_rows row_numbers (shorts t) i h (omega (arith, length_numbers 2 t))

-- an accepted table has the bytes of a table, and no more lines than a file may have
pub accepted_long : (t : List ℕ) → accepted t ≡ true → length t ≡ table_length
unfolding accepted
accepted_long t a = eqb-true (length t) table_length (and_left _ _ a)

accepted_few : (t : List ℕ) → accepted t ≡ true → line_total (table_of t) ≤ max_rows
unfolding accepted
accepted_few t a = acceptable_few (table_of t) (and_right (eqb (length t) table_length) _ a)

-- its printed form has 73 characters for each line
pub length_printed : (t : List ℕ) → accepted t ≡ true → length (printed_form (table_of t)) ≡ line_total (table_of t) * line_length
unfolding printed_form
length_printed t a =
    let n = line_total (table_of t) in
    let few : n ≤ max_rows = accepted_few t a in
    let front : length (take n (table_of t)) ≡ n = length-take-le n (table_of t) (omega (arith, length_rows max_rows row_numbers (shorts t))) in
    length_file (take n (table_of t))
    (λ i h. let h' : i < n = omega arith in rw (get_or-take n (table_of t) i [] h') (row_twelve t (omega (arith, accepted_long t a)) i (omega arith))) ∙ rw front

pub whole : (t : List ℕ) → table_length ≤ length t → Whole (table_of t)
whole t long = record { rows = length_rows max_rows row_numbers (shorts t); numbers = row_twelve t long }

-- so that a table with its index is whole, and what follows is said of each
module _ (t l : List ℕ) (g : Indexed (table_of t) l) where
  twelve : (i : ℕ) → i < max_rows → length (get_or (table_of t) i []) ≡ row_numbers
  twelve = row_twelve t (whole_long t l g)

  pub indexed_whole : Whole (table_of t)
  indexed_whole = whole t (whole_long t l g)

module _ (tb : Table) (g : Whole tb) where
  -- ---- the fields of a row, and its newline

  module _ (i : ℕ) (h : i < max_rows) (b : List ℕ) (p : ℕ) where
    pub fields_none : b ≡ sets b p (joined (map text (take 0 (get_or tb i []))))
    unfolding joined
    fields_none = refl

    module _ (k : ℕ) (b₁ : List ℕ) (e : b₁ ≡ sets b p (joined (map text (take k (get_or tb i []))))) where
      pub fields_more : (v : ℕ) (b₂ : List ℕ) → v ≡ at tb i k → b₂ ≡ sets b₁ (p + k * 6) (text v) → k < row_numbers
          → b₂ ≡ sets b p (joined (map text (take (k + 1) (get_or tb i []))))
      fields_more v b₂ f q j =
          pieces_more text 6 0 (get_or tb i []) (λ k j. length_text (at tb i k)) b p k b₁ e b₂ (rw f at q) (omega (arith, g.numbers i h))

      pub fields_all : k ≤ row_numbers → row_numbers ≤ k → set b₁ (p + 72) 10 ≡ sets b p (line_text (get_or tb i []))
      unfolding line_text
      fields_all j m =
          let q : p + length (get_or tb i []) * 6 ≡ p + 72 = omega (arith, g.numbers i h) in
          rw q at (pieces_closed text 6 0 (get_or tb i []) (λ k j. length_text (at tb i k)) b p k b₁ e (omega (arith, g.numbers i h)) 10)

  -- ---- the rows, one after the other

  module _ (b : List ℕ) where
    pub lines_none : b ≡ sets b 0 (file_text (take 0 tb))
    unfolding file_text joined
    lines_none = refl

    pub lines_more : (i n : ℕ) (b₁ b₂ : List ℕ) → b₁ ≡ sets b 0 (file_text (take i tb)) → b₂ ≡ sets b₁ (i * line_length) (line_text (get_or tb i [])) → i < n → n ≤ max_rows
        → b₂ ≡ sets b 0 (file_text (take (i + 1) tb))
    unfolding file_text
    lines_more i n b₁ b₂ e f h k =
        let z : i * line_length ≡ 0 + i * line_length = omega arith in
        pieces_more line_text line_length [] tb (λ j m. length_line (get_or tb j []) (g.numbers j (omega (arith, g.rows)))) b 0 i b₁ e b₂ (rw z at f) (omega (arith, g.rows))

    pub lines_all : (i n : ℕ) (b₁ : List ℕ) → b₁ ≡ sets b 0 (file_text (take i tb)) → i ≤ n → n ≤ i → b₁ ≡ sets b 0 (file_text (take n tb))
    lines_all i n b₁ e h k = let q : n ≡ i = omega arith in rw q e

-- ---- the answers, and the buffer b' that b has become, which is b itself where the write is refused

module _ (t b : List ℕ) where
  pub length_wrong : (b' : List ℕ) → (length t ≡ table_length → ⊥) → b' ≡ b → outcome (Err WriteRefusal.WrongLength) b' ≡ write_call t b
  unfolding write_call
  length_wrong b' h e = rw (ne_eqb (length t) table_length h, e)

  module _ (long : length t ≡ table_length) where
    pub table_wrong : (b' : List ℕ) → accepted t ≡ false → b' ≡ b → outcome (Err WriteRefusal.WrongTable) b' ≡ write_call t b
    unfolding write_call
    table_wrong b' h e = rw (eq-eqb (length t) table_length long, h, e)

    -- where the table has been told to be accepted: what its index is promised to be, it is
    module _ (a : Bool) (x : a ≡ accepted t) (h : not a ≡ false) where
      told : accepted t ≡ true
      told = sym x ∙ not-false a h

      pub indexed : (l : List ℕ) → (a ≡ true → Indexed (table_of t) l) → Indexed (table_of t) l
      indexed l f = f (not-false a h)

    module _ (told : accepted t ≡ true) (n : ℕ) (m : n ≡ line_total (table_of t)) where
      pub few : n ≤ max_rows
      few = rw m (accepted_few t told)

      pub length_fits : Fits w64 (n * line_length)
      length_fits = record { fits = omega (arith, few) }

      long_file : length (printed_form (table_of t)) ≡ n * line_length
      long_file = length_printed t told ∙ rw m

      pub buffer_short : (b' : List ℕ) → length b < n * line_length → b' ≡ b → outcome (Err WriteRefusal.ShortBuffer) b' ≡ write_call t b
      unfolding write_call laid_into
      buffer_short b' k e =
          rw (eq-eqb (length t) table_length long, told, lt-leb (length (printed_form (table_of t))) (length b) (omega (arith, long_file)), e)

      pub file_laid : (b₁ : List ℕ) → n * line_length ≤ length b → b₁ ≡ sets b 0 (file_text (take n (table_of t))) → outcome (Ok (n * line_length)) b₁ ≡ write_call t b
      unfolding write_call laid_into printed_form
      file_laid b₁ k e =
          let f : file_text (take n (table_of t)) ≡ printed_form (table_of t) = rw m in
          let fits : length (printed_form (table_of t)) ≤ length b = omega (arith, long_file) in
          rw (eq-eqb (length t) table_length long, told, le-leb (length (printed_form (table_of t))) (length b) fits, e, f, sets_front b (printed_form (table_of t)) fits, long_file)

-- no file is longer than 865 lines
pub bytes_few : (t b : List ℕ) → bytes_number (write_call t b).answer ≤ 63145
unfolding write_call laid_into bytes_number
bytes_few t b =
    case_b (eqb (length t) table_length)
    (λ y. case_b (accepted t)
    (λ z. case_b (leb (length (printed_form (table_of t))) (length b))
    (λ w. rw (y, z, w) (omega (arith, length_printed t z, accepted_few t z)))
    (λ w. rw (y, z, w) (omega arith)))
    (λ z. rw (y, z) (omega arith)))
    (λ y. rw y (omega arith))
