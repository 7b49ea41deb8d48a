-- The calls of the engine, each on a state and then on buffers: their grounds in order, their answers, and what they leave. `Seats.antt` has them as they are
-- made at a seat.
pub mod Laws
use Rattle.std.specs.declared.ops.ControlFlow.TheVariants.{Break, Continue}
use Rattle.rules.specs.Answers.{Admission, Given, Partner, Ran, Started, Stepped, Taken, Turn}
use Rattle.std.specs.Prelude.{ℕ, zero, suc, Bool, ◌&&◌, cond, List, ltb, eqb, length, Err, None, Ok, Some}
use Rattle.table.specs.Table.{Table, table_of, ports}
use Rattle.loader.specs.Load.{table_length, accepted}
use Rattle.state.specs.Words as Word
use Rattle.state.specs.State.{State, max_threads, state_length, view, state_bytes, turn, thread, stands_at, is_ready, with_mark}
use Rattle.rules.specs.Start.{started}
use Rattle.rules.specs.Offers.{partner_of}
use Rattle.rules.specs.Moves.{around, one_up, move, perform, value_by, met_by_bench}
use Rattle.rules.specs.Sound.{sound}
use Rattle.rules.specs.declared.Direction.TheVariants.{Out, In}
use Rattle.rules.specs.declared.Move.{Move}
use Rattle.rules.specs.declared.Move.TheVariants.{Ends, Calls, Waits, Goes, Creates, Spawns, Meets, LacksThread, LacksChannel}
use Rattle.rules.specs.declared.Refusal.{Refusal}
use Rattle.rules.specs.declared.Refusal.TheVariants as Ground
use Rattle.rules.specs.declared.Deed.TheVariants.{Ended, Called, Waited, Took, TookWith}
use Rattle.rules.specs.declared.Reason.{Reason}
use Rattle.rules.specs.declared.Reason.TheVariants.{AllDone, NoneReady, LackedThread, LackedChannel}

-- an answer, and the bytes of the state's buffer
pub record Outcome (A : Type 0) : Type 0 where
  pub answer : A
  pub state : List ℕ

abbrev pub outcome : {A : Type 0} → A → List ℕ → Outcome A
outcome a b = record { answer = a; state = b }

-- an answer, and the state after a call on a state
pub record After (A : Type 0) : Type 0 where
  pub answer : A
  pub state : State

abbrev pub afterwards : {A : Type 0} → A → State → After A
afterwards a s = record { answer = a; state = s }

-- ---- grounds 8, 9 and 10, in this order, of a table's buffer and a state's buffer

-- further grounds are asked where none before them refuses
unfoldable pub and_then : Admission → Admission → Admission
and_then (Err r) further = Err r
and_then (Ok tt) further = further

module _ (table state : List ℕ) where
  unfoldable pub lengths_right : Bool
  lengths_right = eqb (length table) table_length && eqb (length state) state_length

  -- start has no ground 10
  unfoldable pub start_admission : Admission
  start_admission = cond lengths_right (cond (accepted table) (Ok tt) (Err Ground.Table)) (Err Ground.Length)

  unfoldable pub admission : Admission
  admission = and_then start_admission (cond (sound (table_of table) (view state)) (Ok tt) (Err Ground.State))

-- ---- a call on buffers: its admission, and then the call on the state that the state's buffer holds

-- a call that its admission refuses leaves every byte as it was; else the buffer gets the bytes of the state after the call
unfoldable pub by_admission : {A : Type 0} → (Refusal → A) → Admission → List ℕ → After A → Outcome A
by_admission refused (Err r) state k = outcome (refused r) state
by_admission refused (Ok tt) state k = outcome k.answer (state_bytes k.state)

-- every call but start is asked all three grounds
unfoldable pub on_buffers : {A : Type 0} → (Refusal → A) → List ℕ → List ℕ → After A → Outcome A
on_buffers refused table state k = by_admission refused (admission table state) state k

-- ---- start
unfoldable pub start_on : Table → After Started
start_on tb = afterwards (Ok tt) (started tb)

unfoldable pub start_call : List ℕ → List ℕ → Outcome Started
start_call table state = by_admission Err (start_admission table state) state (start_on (table_of table))

-- ---- step

-- what a move from node n is answered with
unfoldable pub step_answer : ℕ → Move → Stepped
step_answer n Ends = Ok (n, Ended)
step_answer n Calls = Ok (n, Called)
step_answer n Waits = Ok (n, Waited)
step_answer n (Goes i) = Ok (n, Took i)
step_answer n (Creates i c) = Ok (n, Took i)
step_answer n (Spawns i u) = Ok (n, TookWith i u)
step_answer n (Meets i u j) = Ok (n, TookWith i u)
step_answer n LacksThread = Err Ground.ThreadRow
step_answer n LacksChannel = Err Ground.ChannelRow

-- a step that is refused leaves the state s as it was, and one that is done leaves s'
unfoldable pub step_end : Stepped → State → State → After Stepped
step_end (Ok (n, d)) s s' = afterwards (Ok (n, d)) s'
step_end (Err r) s s' = afterwards (Err r) s

-- ground 11: the thread number is above 63, or the thread is not ready
unfoldable pub can_step : State → ℕ → Bool
can_step s t = ltb t max_threads && is_ready (thread s t)

unfoldable pub step_on : Table → State → ℕ → After Stepped
step_on tb s t =
    cond (can_step s t)
    (step_end (step_answer (stands_at (thread s t)) (move tb s t)) s (perform tb s t (move tb s t)))
    (afterwards (Err Ground.Thread) s)

unfoldable pub step_call : List ℕ → List ℕ → ℕ → Outcome Stepped
step_call table state t = on_buffers Err table state (step_on (table_of table) (view state) t)

-- ---- give and take: meetings with the bench, which is no thread and so has the number past the last
abbrev pub bench : ℕ
bench = max_threads

-- nothing changes where nobody is met
unfoldable pub given_to : Table → State → Partner → ℕ → After Given
given_to tb s None v = afterwards (Ok None) s
given_to tb s (Some (u, j)) v = afterwards (Ok (Some u)) (met_by_bench tb s u j v)

-- ground 12: the port is not below P. v is the number's 32-bit pattern
unfoldable pub give_on : Table → State → ℕ → ℕ → After Given
give_on tb s p v = cond (ltb p (ports tb)) (given_to tb s (partner_of tb s bench In p) v) (afterwards (Err Ground.Port) s)

unfoldable pub give_call : List ℕ → List ℕ → ℕ → ℕ → Outcome Given
give_call table state p v = on_buffers Err table state (give_on (table_of table) (view state) p v)

unfoldable pub taken_from : Table → State → Partner → After Taken
taken_from tb s None = afterwards (Ok None) s
taken_from tb s (Some (u, j)) = afterwards (Ok (Some (u, value_by tb (thread s u) j))) (met_by_bench tb s u j 0)

unfoldable pub take_on : Table → State → ℕ → After Taken
take_on tb s p = cond (ltb p (ports tb)) (taken_from tb s (partner_of tb s bench Out p)) (afterwards (Err Ground.Port) s)

unfoldable pub take_call : List ℕ → List ℕ → ℕ → Outcome Taken
take_call table state p = on_buffers Err table state (take_on (table_of table) (view state) p)

-- ---- run

-- the first ready thread from the turn upward and around
unfoldable pub is_ready_thread : State → ℕ → Bool
is_ready_thread s t = is_ready (thread s t)

unfoldable pub next_ready : State → ℕ
next_ready s = around max_threads (turn s) (is_ready_thread s)

-- the turn moves one past thread t
unfoldable pub past_turn : State → ℕ → State
past_turn s t = with_mark s Word.turn (one_up max_threads t)

-- why a run ends where the step of thread t is refused: on ground 13 or 14 a row is lacking. On another ground there was no thread to step; a run
-- does not come to that, since it steps a ready thread of a sound state
unfoldable pub reason_for : ℕ → Refusal → Reason
reason_for t Ground.Length = NoneReady
reason_for t Ground.Table = NoneReady
reason_for t Ground.Rights = NoneReady
reason_for t Ground.Seat = NoneReady
reason_for t Ground.State = NoneReady
reason_for t Ground.Thread = NoneReady
reason_for t Ground.Port = NoneReady
reason_for t Ground.ThreadRow = LackedThread t
reason_for t Ground.ChannelRow = LackedChannel t

-- what a turn of thread t comes to, by the answer that its step gets
unfoldable pub turn_for : ℕ → Stepped → Turn
turn_for t (Ok (n, d)) = Continue tt
turn_for t (Err r) = Break (reason_for t r)

-- what a turn of thread t comes to, by its move; from which node the move is made does not matter
unfoldable pub turn_by : ℕ → Move → Turn
turn_by t m = turn_for t (step_answer 0 m)

-- how far a run came: its steps, why it ended, and the state
pub record Course : Type 0 where
  pub steps : ℕ
  pub reason : Reason
  pub state : State

abbrev pub course : ℕ → Reason → State → Course
course n r s = record { steps = n; reason = r; state = s }

-- one step more, before all of it
unfoldable pub one_more : Course → Course
one_more k = course (suc k.steps) k.reason k.state

-- what one turn came to, and the state after it
pub record Turned : Type 0 where
  pub turn : Turn
  pub state : State

abbrev pub turned : Turn → State → Turned
turned w s = record { turn = w; state = s }

-- a turn that went is a step, and the run goes on; else it ends there
unfoldable pub onward : Turn → State → (State → Course) → Course
onward (Continue tt) s rest = one_more (rest s)
onward (Break r) s rest = course 0 r s

module _ (tb : Table) where
  -- thread t's turn: its step and, where a row is lacking, none
  unfoldable pub turn_end : State → ℕ → Turn → Turned
  turn_end s t (Continue tt) = turned (Continue tt) (past_turn (perform tb s t (move tb s t)) t)
  turn_end s t (Break r) = turned (Break r) (past_turn s t)

  unfoldable pub take_turn : State → Turned
  take_turn s =
      cond (ltb (next_ready s) max_threads)
      (turn_end s (next_ready s) (turn_by (next_ready s) (move tb s (next_ready s))))
      (turned (Break NoneReady) s)

  -- at most n steps
  unfoldable pub course_of : ℕ → State → Course
  course_of zero s = course 0 AllDone s
  course_of (suc n) s = onward (take_turn s).turn (take_turn s).state (course_of n)

unfoldable pub run_on : Table → State → ℕ → After Ran
run_on tb s n = afterwards (Ok ((course_of tb n s).steps, (course_of tb n s).reason)) (course_of tb n s).state

unfoldable pub run_call : List ℕ → List ℕ → ℕ → Outcome Ran
run_call table state n = on_buffers Err table state (run_on (table_of table) (view state) n)
