-- What a write answers, and what it leaves in the buffer for the file (document 02, S-1).
pub mod Laws
use Rattle.writer.specs.declared.WriteRefusal.TheVariants as WriteRefusal
use Rattle.writer.specs.Answers.{Written}
use Rattle.std.specs.Prelude.{ℕ, ◌<◌, ◌≡◌, cond, List, [], ◌++◌, leb, eqb, length, get_or, take, drop, Err, Ok}
use Rattle.text.specs.Text.{file_text}
use Rattle.table.specs.Table.{Table, max_rows, row_numbers, table_length, table_of, line_total}
use Rattle.loader.specs.Load.{accepted}

-- the printed form of a table: the lines that its header promises
unfoldable pub printed_form : Table → List ℕ
printed_form tb = file_text (take (line_total tb) tb)

-- a table with all its rows, each of them with all its numbers: what the code that prints it asks of it
pub record Whole (tb : Table) : Type 0 where
  pub rows : length tb ≡ max_rows
  pub numbers : (i : ℕ) → i < max_rows → length (get_or tb i []) ≡ row_numbers

-- the answer, and the bytes of the buffer for the file
pub record Outcome : Type 0 where
  pub answer : Written
  pub file : List ℕ

abbrev pub outcome : Written → List ℕ → Outcome
outcome a b = record { answer = a; file = b }

-- the file f, laid into the front of the buffer b where it has room; the bytes behind it stay
unfoldable pub laid_into : List ℕ → List ℕ → Outcome
laid_into b f = cond (leb (length f) (length b)) (outcome (Ok (length f)) (f ++ drop (length f) b)) (outcome (Err WriteRefusal.ShortBuffer) b)

-- the call, of the table's bytes t and the buffer b: grounds 8, 9 and 15 in this order
unfoldable pub write_call : List ℕ → List ℕ → Outcome
write_call t b =
    cond (eqb (length t) table_length)
    (cond (accepted t) (laid_into b (printed_form (table_of t))) (outcome (Err WriteRefusal.WrongTable) b))
    (outcome (Err WriteRefusal.WrongLength) b)

-- the numbers of document 02 for each answer: the refusal, 0 where there is none, and the bytes, 0 where the call is refused
unfoldable pub refusal_number : Written → ℕ
refusal_number (Ok n) = 0
refusal_number (Err WriteRefusal.WrongLength) = 8
refusal_number (Err WriteRefusal.WrongTable) = 9
refusal_number (Err WriteRefusal.ShortBuffer) = 15

unfoldable pub bytes_number : Written → ℕ
bytes_number (Ok n) = n
bytes_number (Err WriteRefusal.WrongLength) = 0
bytes_number (Err WriteRefusal.WrongTable) = 0
bytes_number (Err WriteRefusal.ShortBuffer) = 0
