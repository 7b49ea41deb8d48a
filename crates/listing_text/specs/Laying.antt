-- The steps by which the code lays a listing into its buffer. These definitions serve the proofs alone: the files in `Laying` show that they come to
-- `listing`.
pub mod Turns
pub mod Steps
pub mod Ends
pub mod Whole
use Rattle.std.specs.declared.ops.ControlFlow.TheVariants.{Break, Continue}
use Rattle.rules.specs.Answers.{Turn}
use Rattle.std.specs.Prelude.{ℕ, suc, ◌+◌, ◌*◌, ◌-◌, ◌≤◌, ◌≡◌, List, [], ◌++◌}
use Rattle.numbers.specs.Bytes.{joined}
use Rattle.numbers.specs.Search.{tabulate}
use Rattle.table.specs.Table.{Table}
use Rattle.state.specs.State.{State}
use Rattle.rules.specs.Calls.{Course, course, course_of}
use Rattle.calls.specs.Course.{after}
use Rattle.listing_text.specs.Listing.{turn_line, closing_line, taken_lines}
use Rattle.listing_text.specs.declared.Run.{Run}

-- the characters of the longest listing
abbrev pub longest : ℕ
longest = 37900

-- the place past the heading and the lines of n steps
abbrev pub past : ℕ → ℕ
past n = 37 + n * 37

-- the line of a turn, if it was a step
unfoldable pub shown : Turn → List ℕ → List ℕ
shown (Continue tt) l = l
shown (Break r) l = []

-- the line of the turn that follows i steps, in state s, if it was a step
abbrev pub shown_turn : Turn → Table → ℕ → State → List ℕ
shown_turn w tb i s = shown w (turn_line tb (suc i) s)

module _ (tb : Table) (s : State) where
  -- after i steps the run from s, of any length from i on, has come to s₁
  unfoldable pub Come : ℕ → State → Type 0
  Come i s₁ = (n : ℕ) → i ≤ n → course_of tb n s ≡ after i (course_of tb (n - i) s₁)

  -- the lines of the first n steps
  unfoldable pub lines_to : ℕ → List ℕ
  lines_to n = joined (tabulate n (λ i. turn_line tb (suc i) (course_of tb i s).state))

-- what follows the steps of a run
unfoldable pub end_lines : Table → Course → List ℕ
end_lines tb k = closing_line tb k ++ taken_lines tb k.state

-- a run that ended as r says, in state s, and what follows its steps
abbrev pub ended : Run → State → Course
ended r s = course r.steps r.reason s

abbrev pub end_of : Table → Run → State → List ℕ
end_of tb r s = end_lines tb (ended r s)
