-- What loading answers, and what it leaves in the table's buffer.
pub mod Laws
use Rattle.loader.specs.declared.LoadRefusal.TheVariants as LoadRefusal
use Rattle.loader.specs.Answers.{Loaded, Verdict}
use Rattle.std.specs.Prelude.{ℕ, Bool, ◌&&◌, cond, List, eqb, length, Err, Ok}
use Rattle.numbers.specs.Bytes.{encode, joined}
pub use Rattle.table.specs.Table.{table_length}
use Rattle.table.specs.Table.{Table, table_of}
use Rattle.file.specs.File.{file_table}
use Rattle.file.specs.EmptyFile.{procedure_text}
use Rattle.loader.specs.Verdict.{ground_number, verdict, acceptable}

-- the bytes of a table: its numbers of 16 bits, row by row
unfoldable pub table_bytes : Table → List ℕ
table_bytes tb = encode 2 (joined tb)

-- the answer, and the bytes of the table's buffer
pub record Outcome : Type 0 where
  pub answer : Loaded
  pub table : List ℕ

abbrev pub outcome : Loaded → List ℕ → Outcome
outcome a t = record { answer = a; table = t }

-- a file in order is written if the buffer has the table's length; nothing else changes the buffer
unfoldable pub after_verdict : Verdict → List ℕ → List ℕ → Outcome
after_verdict (Err (g, l)) file t = outcome (Err (LoadRefusal.FileRefused g l)) t
after_verdict (Ok tt) file t = cond (eqb (length t) table_length) (outcome (Ok tt) (table_bytes (file_table file))) (outcome (Err LoadRefusal.WrongLength) t)

-- a file is judged and read by the text for which it stands
unfoldable pub loaded : List ℕ → List ℕ → Outcome
loaded file t = after_verdict (verdict (procedure_text file)) (procedure_text file) t

-- the numbers of document 01 for each answer: the refusal, 0 where there is none, and the line at fault
unfoldable pub refusal_number : Loaded → ℕ
refusal_number (Ok tt) = 0
refusal_number (Err (LoadRefusal.FileRefused g l)) = ground_number g
refusal_number (Err LoadRefusal.WrongLength) = 8

unfoldable pub line_number : Loaded → ℕ
line_number (Ok tt) = 0
line_number (Err (LoadRefusal.FileRefused g l)) = l
line_number (Err LoadRefusal.WrongLength) = 0

-- ground 9, of a buffer
unfoldable pub accepted : List ℕ → Bool
accepted b = eqb (length b) table_length && acceptable (table_of b)
