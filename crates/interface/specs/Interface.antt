-- What the exported calls answer, in the numbers that C sees, and what they leave in the buffers.
use Rattle.collector.specs.Answers.{Collected}
use Rattle.rules.specs.Answers.{Given, Ran, Started, Stepped, Taken}
use Rattle.profile.specs.Answers.{Profiled}
use Rattle.std.specs.Prelude.{List, ℕ, ℤ, pos, Err, None, Ok, Some}
use Rattle.std.specs.Int.{w32}
use Rattle.std.proofs.Common.{to_z, of_z}
use Rattle.loader.specs.Load as Load
use Rattle.loader.specs.Load.{loaded, refusal_number, line_number}
use Rattle.writer.specs.Write as Write
use Rattle.writer.specs.Write.{write_call}
use Rattle.profile.specs.Profile as Profile
use Rattle.profile.specs.Profile.{profile_call}
use Rattle.state.specs.State.{minus_one}
use Rattle.rules.specs.Calls.{Outcome, start_call}
use Rattle.rules.specs.Seats.{seated_step, seated_give, seated_take, seated_run}
use Rattle.engine.specs.Numbers as Numbers
use Rattle.collector.specs.Collect.{seated_collect}
use Rattle.interface.specs.declared.LoadAnswer.{LoadAnswer}
use Rattle.interface.specs.declared.WriteAnswer.{WriteAnswer}
use Rattle.interface.specs.declared.ProfileAnswer.{ProfileAnswer}
use Rattle.interface.specs.declared.StartAnswer.{StartAnswer}
use Rattle.interface.specs.declared.StepAnswer.{StepAnswer}
use Rattle.interface.specs.declared.GiveAnswer.{GiveAnswer}
use Rattle.interface.specs.declared.TakeAnswer.{TakeAnswer}
use Rattle.interface.specs.declared.RunAnswer.{RunAnswer}
use Rattle.interface.specs.declared.CollectAnswer.{CollectAnswer}

-- the answer of a load, and the bytes of the table's buffer
pub record LoadResult : Type 0 where
  pub answer : LoadAnswer
  pub table : List ℕ

abbrev pub loaded_to : LoadAnswer → List ℕ → LoadResult
loaded_to r t = record { answer = r; table = t }

unfoldable pub numbered : Load.Outcome → LoadResult
numbered o = loaded_to (record { refusal = pos (refusal_number o.answer); line = pos (line_number o.answer) }) o.table

unfoldable pub load_result : List ℕ → List ℕ → LoadResult
load_result file t = numbered (loaded file t)

-- the answer of a write, and the bytes of the buffer for the file
pub record WriteResult : Type 0 where
  pub answer : WriteAnswer
  pub file : List ℕ

abbrev pub written_to : WriteAnswer → List ℕ → WriteResult
written_to r b = record { answer = r; file = b }

unfoldable pub written_numbers : Write.Outcome → WriteResult
written_numbers o = written_to (record { refusal = pos (Write.refusal_number o.answer); bytes = pos (Write.bytes_number o.answer) }) o.file

unfoldable pub write_result : List ℕ → List ℕ → WriteResult
write_result table b = written_numbers (write_call table b)

-- the answer of the check of a table, which leaves every buffer as it is
unfoldable pub profile_fields : ℕ → ℕ → ProfileAnswer
profile_fields refusal threads = record { refusal = to_z w32 refusal; threads = to_z w32 threads }

unfoldable pub profile_numbers : Profiled → ProfileAnswer
profile_numbers a = profile_fields (Profile.refusal_number a) (Profile.threads_number a)

unfoldable pub profile_result : List ℕ → ProfileAnswer
profile_result table = profile_numbers (profile_call table)

-- ---- the calls on a state: the answer, and the bytes of the state's buffer
pub record StateResult (A : Type 0) : Type 0 where
  pub answer : A
  pub state : List ℕ

abbrev pub result : {A : Type 0} → A → List ℕ → StateResult A
result r b = record { answer = r; state = b }

-- the numbers of an answer, from their patterns
unfoldable pub start_fields : ℕ → StartAnswer
start_fields refusal = record { refusal = to_z w32 refusal }

unfoldable pub step_fields : ℕ → ℕ → ℕ → ℕ → ℕ → StepAnswer
step_fields refusal node act branch partner = record {
  refusal = to_z w32 refusal;
  node = to_z w32 node;
  act = to_z w32 act;
  branch = to_z w32 branch;
  partner = to_z w32 partner;
}

unfoldable pub give_fields : ℕ → ℕ → GiveAnswer
give_fields refusal thread = record { refusal = to_z w32 refusal; thread = to_z w32 thread }

unfoldable pub take_fields : ℕ → ℕ → ℕ → TakeAnswer
take_fields refusal thread number = record { refusal = to_z w32 refusal; thread = to_z w32 thread; number = to_z w32 number }

unfoldable pub run_fields : ℕ → ℕ → ℕ → ℕ → RunAnswer
run_fields refusal steps reason thread = record {
  refusal = to_z w32 refusal;
  steps = to_z w32 steps;
  reason = to_z w32 reason;
  thread = to_z w32 thread;
}

unfoldable pub collect_fields : ℕ → ℕ → CollectAnswer
collect_fields refusal threads = record { refusal = to_z w32 refusal; threads = to_z w32 threads }

-- the numbers of each answer: all others are 0 where a call is refused, and "nobody" is thread -1, number 0
unfoldable pub start_numbers : Started → StartAnswer
start_numbers (Ok tt) = start_fields 0
start_numbers (Err g) = start_fields (Numbers.refusal_number g)

unfoldable pub step_numbers : Stepped → StepAnswer
step_numbers (Ok (n, d)) = step_fields 0 n (Numbers.act_number d) (Numbers.branch_number d) (Numbers.partner_number d)
step_numbers (Err g) = step_fields (Numbers.refusal_number g) 0 0 0 0

unfoldable pub give_numbers : Given → GiveAnswer
give_numbers (Ok (Some u)) = give_fields 0 u
give_numbers (Ok None) = give_fields 0 minus_one
give_numbers (Err g) = give_fields (Numbers.refusal_number g) 0

unfoldable pub take_numbers : Taken → TakeAnswer
take_numbers (Ok (Some (u, v))) = take_fields 0 u v
take_numbers (Ok None) = take_fields 0 minus_one 0
take_numbers (Err g) = take_fields (Numbers.refusal_number g) 0 0

unfoldable pub run_numbers : Ran → RunAnswer
run_numbers (Ok (n, r)) = run_fields 0 n (Numbers.reason_number r) (Numbers.held_up_number r)
run_numbers (Err g) = run_fields (Numbers.refusal_number g) 0 0 0

unfoldable pub collect_numbers : Collected → CollectAnswer
collect_numbers (Ok n) = collect_fields 0 n
collect_numbers (Err g) = collect_fields (Numbers.refusal_number g) 0

unfoldable pub in_numbers : {A B : Type 0} → (A → B) → Outcome A → StateResult B
in_numbers f o = result (f o.answer) o.state

-- what each call answers and leaves, from the bytes of its buffers and its numbers
unfoldable pub start_result : List ℕ → List ℕ → StateResult StartAnswer
start_result table state = in_numbers start_numbers (start_call table state)

-- the others are made at a seat, by a list of rights
module _ (table state rights : List ℕ) (seat : ℕ) where
  unfoldable pub step_result : ℕ → StateResult StepAnswer
  step_result t = in_numbers step_numbers (seated_step table state rights seat t)

  unfoldable pub give_result : ℕ → ℤ → StateResult GiveAnswer
  give_result p v = in_numbers give_numbers (seated_give table state rights seat p (of_z w32 v))

  unfoldable pub take_result : ℕ → StateResult TakeAnswer
  take_result p = in_numbers take_numbers (seated_take table state rights seat p)

  unfoldable pub run_result : ℕ → StateResult RunAnswer
  run_result n = in_numbers run_numbers (seated_run table state rights seat n)

  unfoldable pub collect_result : StateResult CollectAnswer
  collect_result = in_numbers collect_numbers (seated_collect table state rights seat)
