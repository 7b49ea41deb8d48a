-- What is answered: `Ok` with what was done, or `Err` with the ground on which the call is refused.
use Rattle.std.specs.Prelude.{ℕ, Option, Result}
use Rattle.std.specs.declared.ops.ControlFlow.{ControlFlow}
use Rattle.rules.specs.declared.Refusal.{Refusal}
use Rattle.rules.specs.declared.Deed.{Deed}
use Rattle.rules.specs.declared.Reason.{Reason}

-- the waiting thread and the branch of it that offer what was looked for, if there is one
abbrev pub Partner : Type 0
Partner = Option (ℕ × ℕ)

-- whether a call may go on to its own grounds
abbrev pub Admission : Type 0
Admission = Result (Unit {0}) Refusal

abbrev pub Started : Type 0
Started = Result (Unit {0}) Refusal

-- the node from which the step was made, and what it did
abbrev pub Stepped : Type 0
Stepped = Result (ℕ × Deed) Refusal

-- the thread that was met; none where nobody was
abbrev pub Given : Type 0
Given = Result (Option ℕ) Refusal

-- the thread that was met and its number; none where nobody was
abbrev pub Taken : Type 0
Taken = Result (Option (ℕ × ℕ)) Refusal

-- how many steps were made, and why they ended
abbrev pub Ran : Type 0
Ran = Result (ℕ × Reason) Refusal

-- what one turn of a run came to: it goes on, or it stops for a reason
abbrev pub Turn : Type 0
Turn = ControlFlow Reason (Unit {0})
