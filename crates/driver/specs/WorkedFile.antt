-- A file that is loaded, started and worked through a list of calls, in the numbers that C sees: what it comes to, and what is left in the buffers of the table,
-- the state and the answers. What is claimed of them is in `ClaimOfBuffers.antt`.
pub mod Laws
use Rattle.std.specs.Prelude.{ℕ, cond, List, eqb, length, pos}
use Rattle.state.specs.State.{state_length}
use Rattle.interface.specs.Interface.{load_result, start_result}
use Rattle.interface.specs.declared.LoadAnswer.{LoadAnswer}
use Rattle.interface.specs.declared.StartAnswer.{StartAnswer}
use Rattle.guarantee.specs.SeatedClaim.{after_seats}
use Rattle.guarantee.specs.InNumbers.{is_zero}
use Rattle.driver.specs.Encoding.{calls_of, answers_to, written_from}
use Rattle.driver.specs.declared.Opening.{Opening}

-- the refusal, and the line at fault. A start names no line
unfoldable pub load_opening : LoadAnswer → Opening
load_opening a = record { refusal = a.refusal; line = a.line }

unfoldable pub start_opening : StartAnswer → Opening
start_opening a = record { refusal = a.refusal; line = pos 0 }

-- how it began, the bytes of the buffers of the table and the state, and the words of the buffer for the answers
pub record Worked : Type 0 where
  pub opening : Opening
  pub table : List ℕ
  pub state : List ℕ
  pub answers : List ℕ

abbrev pub worked_to : Opening → List ℕ → List ℕ → List ℕ → Worked
worked_to o t b a = record { opening = o; table = t; state = b; answers = a }

-- of a file, buffers t and b for the table and the state, the lists of rights, the calls, and the words a of the buffer for the answers. A file that is refused
-- leaves every buffer; a file that loads leaves its table, and where the other buffer has not a state's length that is all; else the calls are worked in turn
-- from the start, and their answers laid down
unfoldable pub worked_file : List ℕ → List ℕ → List ℕ → List ℕ → List ℕ → List ℕ → Worked
worked_file file t b lists calls a =
    let table = (load_result file t).table in
    let begun = (start_result table b).state in
    cond (is_zero (load_result file t).answer.refusal)
    (cond (eqb (length b) state_length)
    (worked_to (record { refusal = pos 0; line = pos 0 }) table (after_seats table begun (calls_of lists calls)) (written_from a 0 (answers_to table begun (calls_of lists calls))))
    (worked_to (record { refusal = pos 8; line = pos 0 }) table b a))
    (worked_to (load_opening (load_result file t).answer) t b a)
