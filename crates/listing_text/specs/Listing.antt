-- The listing of a procedure file: from the bytes of the file to the bytes that are printed.
use Rattle.loader.specs.Answers.{Verdict}
use Rattle.std.specs.Prelude.{ℕ, suc, cond, List, [], ◌∷◌, ◌++◌, Err, Ok}
use Rattle.numbers.specs.Bytes.{joined}
use Rattle.numbers.specs.Search.{tabulate}
use Rattle.table.specs.Table.{Table}
use Rattle.file.specs.File.{file_table}
use Rattle.file.specs.EmptyFile.{procedure_text}
use Rattle.loader.specs.Verdict.{ground_number, verdict}
use Rattle.state.specs.State.{State, max_threads, thread, stands_at}
use Rattle.rules.specs.Start.{started}
use Rattle.rules.specs.Moves.{move}
use Rattle.rules.specs.Calls.{step_answer, next_ready, Course, course_of}
use Rattle.engine.specs.Numbers.{reason_number, held_up_number}
use Rattle.collector.specs.Collect.{taken, collected, taken_count}
use Rattle.listing_lines.specs.Lines.{line, heading, step_line, channels_in_use}

-- ---- a run, and a collection after it

abbrev pub max_steps : ℕ
max_steps = 1000

module _ (tb : Table) where
  -- the line of step k, which the next ready thread of state s makes
  unfoldable pub turn_line : ℕ → State → List ℕ
  turn_line k s = step_line k (next_ready s) (step_answer (stands_at (thread s (next_ready s))) (move tb s (next_ready s)))

  -- the lines of the steps of the run from state s: i of them lead to the state in which a run of i steps ends, and there the next one is made
  unfoldable pub step_lines : State → List ℕ
  step_lines s = joined (tabulate (course_of tb max_steps s).steps (λ i. turn_line (suc i) (course_of tb i s).state))

  -- the closing line: how the run ended, and what a collection then takes and leaves
  unfoldable pub closing_line : Course → List ℕ
  closing_line k =
      line (k.steps ∷ reason_number k.reason ∷ held_up_number k.reason ∷ taken_count tb k.state ∷ channels_in_use (collected tb k.state) ∷ [])

  -- the lines of the threads that a collection in state s takes, lowest first: the thread and the node at which it waited
  unfoldable pub taken_line : State → ℕ → List ℕ
  taken_line s t = cond (taken tb s t) (line (t ∷ stands_at (thread s t) ∷ [])) []

  unfoldable pub taken_lines : State → List ℕ
  taken_lines s = joined (tabulate max_threads (taken_line s))

  -- all of it, from the start of a table
  unfoldable pub run_lines : List ℕ
  run_lines =
      heading
      ++ (step_lines (started tb)
      ++ (closing_line (course_of tb max_steps (started tb))
      ++ taken_lines (course_of tb max_steps (started tb)).state))

-- ---- a file

-- a refused one has one line alone: the ground and the line at fault
unfoldable pub listing_by : Verdict → List ℕ → List ℕ
listing_by (Err (g, l)) file = line (ground_number g ∷ l ∷ [])
listing_by (Ok tt) file = run_lines (file_table file)

-- a file is listed by the text for which it stands
unfoldable pub listing : List ℕ → List ℕ
listing file = listing_by (verdict (procedure_text file)) (procedure_text file)
