-- What C is answered by start and by each call at a seat (documents 01 and 02): each refusal exactly when it is due, 0 exactly when none is, and no other
-- number; and that a refused call answers 0 besides and leaves every byte. Of buffers of bytes, whatever they hold and however long they are, and of all
-- numbers. This file says it and `RefusalsInNumbers/Proof.antt` shows it. `LoadInNumbers.antt`, `WriteInNumbers.antt` and `profile_laws/specs/InNumbers.antt`
-- have the other three calls. Assumes nothing.
pub mod Asked
pub mod Proof
use Rattle.std.specs.Prelude.{ℕ, ◌<◌, ◌≤◌, ◌≡◌, true, false, List, [], ◌∷◌, ◌≢◌, ◌↔◌, ℤ, pos, negsuc, get_or}
use Rattle.numbers.specs.Bytes.{words}
use Rattle.table.specs.Table.{table_of, ports}
use Rattle.state.specs.State.{max_threads, view, thread, is_ready}
use Rattle.rules.specs.Sound.{sound}
use Rattle.rules.specs.Seats.{rights_numbers}
use Rattle.rules.specs.Seats.Entitled.{Entitled}
use Rattle.rules.specs.declared.Direction.TheVariants.{Out, In}
use Rattle.rules.specs.declared.Act.TheVariants.{New, Spawn}
use Rattle.rules.specs.declared.Right.{Right}
use Rattle.rules.specs.declared.Right.TheVariants as Right
use Rattle.rules_laws.specs.Frames.{elem}
use Rattle.engine_laws.specs.Entry.{RightLengths}
use Rattle.engine_laws.specs.Seats.{AllLengths, ZeroToThree}
use Rattle.engine_laws.specs.Bench.{NobodyOffers}
use Rattle.engine_laws.specs.Lacking.{Takes, NoThreadRow, NoChannelRow}
use Rattle.interface.specs.Interface.{StateResult, result, start_result, step_result, give_result, take_result, run_result, collect_result}
use Rattle.interface.specs.declared.StartAnswer.{StartAnswer}
use Rattle.interface.specs.declared.StepAnswer.{StepAnswer}
use Rattle.interface.specs.declared.GiveAnswer.{GiveAnswer}
use Rattle.interface.specs.declared.TakeAnswer.{TakeAnswer}
use Rattle.interface.specs.declared.RunAnswer.{RunAnswer}
use Rattle.interface.specs.declared.CollectAnswer.{CollectAnswer}
use Rattle.guarantee.specs.WriteInNumbers.{LoadsTo, IsLoaded}
use Rattle.guarantee.specs.ReasonsInLists.{RunAnswers}

-- ---- what is asked of every call at a seat, in this order: 8, 9, 18, 19, 10

-- each of the 72 signed numbers of a list is 0, 1, 2 or 3
abbrev pub ListInOrder : List ℕ → Type 0
ListInOrder rights = (i : ℕ) → i < rights_numbers → ZeroToThree (get_or (words rights) i 0)

-- some number of it is not
abbrev pub Stray : List ℕ → Type 0
Stray rights = (i : ℕ) × (i < rights_numbers) × (¬ ZeroToThree (get_or (words rights) i 0))

-- a call comes past a ground if neither it nor one before it refuses the call. Here for a call that asks `right` of its seat
module _ (table state rights : List ℕ) (seat : ℕ) (right : Right) where
  -- the table has 20760 bytes, the state 6156, the list of rights 288
  abbrev pub Past8 : Type 0
  Past8 = AllLengths table state rights

  -- some file loads to the table
  abbrev pub Past9 : Type 0
  Past9 = Past8 × IsLoaded table

  -- the list is in order
  abbrev pub Past18 : Type 0
  Past18 = Past9 × ListInOrder rights

  -- the seat is entitled to the call, by document 02's numbers
  abbrev pub Past19 : Type 0
  Past19 = Past18 × Entitled rights seat right

  -- the state is sound for the table
  abbrev pub Past10 : Type 0
  Past10 = Past19 × (sound (table_of table) (view state) ≡ true)

  -- of the first number that a call answers: each of the five grounds is answered exactly when the call comes past those before it, and not past this one
  pub record Entered (refusal : ℤ) : Type 0 where
    pub eight : (refusal ≡ pos 8) ↔ (¬ Past8)
    pub nine : (refusal ≡ pos 9) ↔ (Past8 × ((file : List ℕ) → ¬ LoadsTo table file))
    pub eighteen : (refusal ≡ pos 18) ↔ (Past9 × Stray rights)
    pub nineteen : (refusal ≡ pos 19) ↔ (Past18 × (¬ Entitled rights seat right))
    pub ten : (refusal ≡ pos 10) ↔ (Past19 × (sound (table_of table) (view state) ≡ false))

-- ---- start: 8 and 9. It has no seat, and does not look at the state

module _ (table state : List ℕ) where
  abbrev pub started : StateResult StartAnswer
  started = start_result table state

  pub record StartInNumbers : Type 0 where
    pub eight : (started.answer.refusal ≡ pos 8) ↔ (¬ RightLengths table state)
    pub nine : (started.answer.refusal ≡ pos 9) ↔ (RightLengths table state × ((file : List ℕ) → ¬ LoadsTo table file))
    pub zero : (started.answer.refusal ≡ pos 0) ↔ (RightLengths table state × IsLoaded table)
    pub only : (n : ℕ) × (started.answer.refusal ≡ pos n) × (elem n (0 ∷ 8 ∷ 9 ∷ []) ≡ true)
    pub kept : started.answer.refusal ≢ pos 0 → started.state ≡ state

-- ---- a step of thread t: 8, 9, 18, 19, 10, and then 11, 13 or 14

-- the thread is one of the 64, and ready
abbrev pub Ready : List ℕ → ℕ → Type 0
Ready state t = (t < max_threads) × (is_ready (thread (view state) t) ≡ true)

-- the first branch of its choice that goes ahead starts a thread, and every thread row is in use
abbrev pub LacksThreadRow : List ℕ → List ℕ → ℕ → Type 0
LacksThreadRow table state t = Takes (table_of table) (view state) t Spawn × NoThreadRow (view state)

-- it makes a channel, and every channel row is in use
abbrev pub LacksChannelRow : List ℕ → List ℕ → ℕ → Type 0
LacksChannelRow table state t = Takes (table_of table) (view state) t New × NoChannelRow (view state)

module _ (table state rights : List ℕ) (seat t : ℕ) where
  abbrev pub stepped : StateResult StepAnswer
  stepped = step_result table state rights seat t

  abbrev pub Past11 : Type 0
  Past11 = Past10 table state rights seat Right.StepAndRun × Ready state t

  pub record StepInNumbers : Type 0 where
    pub entered : Entered table state rights seat Right.StepAndRun stepped.answer.refusal
    pub eleven : (stepped.answer.refusal ≡ pos 11) ↔ (Past10 table state rights seat Right.StepAndRun × (¬ Ready state t))
    pub thirteen : (stepped.answer.refusal ≡ pos 13) ↔ (Past11 × LacksThreadRow table state t)
    pub fourteen : (stepped.answer.refusal ≡ pos 14) ↔ (Past11 × LacksChannelRow table state t)
    pub zero : (stepped.answer.refusal ≡ pos 0) ↔ (Past11 × (¬ LacksThreadRow table state t) × (¬ LacksChannelRow table state t))
    pub only : (n : ℕ) × (stepped.answer.refusal ≡ pos n) × (elem n (0 ∷ 8 ∷ 9 ∷ 18 ∷ 19 ∷ 10 ∷ 11 ∷ 13 ∷ 14 ∷ []) ≡ true)
    pub kept : stepped.answer.refusal ≢ pos 0
        → stepped ≡ result (record { refusal = stepped.answer.refusal; node = pos 0; act = pos 0; branch = pos 0; partner = pos 0 }) state

-- ---- a give of the number v on port p, and a take there: 8, 9, 18, 19, 10, and then 12

module _ (table state rights : List ℕ) (seat p : ℕ) (v : ℤ) where
  abbrev pub given : StateResult GiveAnswer
  given = give_result table state rights seat p v

  abbrev pub PastGive : Type 0
  PastGive = Past10 table state rights seat (Right.Give p)

  pub record GiveInNumbers : Type 0 where
    pub entered : Entered table state rights seat (Right.Give p) given.answer.refusal
    pub twelve : (given.answer.refusal ≡ pos 12) ↔ (PastGive × (ports (table_of table) ≤ p))
    pub zero : (given.answer.refusal ≡ pos 0) ↔ (PastGive × (p < ports (table_of table)))
    pub only : (n : ℕ) × (given.answer.refusal ≡ pos n) × (elem n (0 ∷ 8 ∷ 9 ∷ 18 ∷ 19 ∷ 10 ∷ 12 ∷ []) ≡ true)
    pub kept : given.answer.refusal ≢ pos 0 → given ≡ result (record { refusal = given.answer.refusal; thread = pos 0 }) state
    -- nobody, which is -1, exactly when no waiting thread has the offer; the bytes stay then too
    pub nobody : (given.answer.thread ≡ negsuc 0) ↔ (PastGive × (p < ports (table_of table)) × NobodyOffers (table_of table) (view state) In p)
    pub nobody_kept : given.answer.thread ≡ negsuc 0 → given ≡ result (record { refusal = pos 0; thread = negsuc 0 }) state

module _ (table state rights : List ℕ) (seat p : ℕ) where
  abbrev pub taken : StateResult TakeAnswer
  taken = take_result table state rights seat p

  abbrev pub PastTake : Type 0
  PastTake = Past10 table state rights seat (Right.Take p)

  pub record TakeInNumbers : Type 0 where
    pub entered : Entered table state rights seat (Right.Take p) taken.answer.refusal
    pub twelve : (taken.answer.refusal ≡ pos 12) ↔ (PastTake × (ports (table_of table) ≤ p))
    pub zero : (taken.answer.refusal ≡ pos 0) ↔ (PastTake × (p < ports (table_of table)))
    pub only : (n : ℕ) × (taken.answer.refusal ≡ pos n) × (elem n (0 ∷ 8 ∷ 9 ∷ 18 ∷ 19 ∷ 10 ∷ 12 ∷ []) ≡ true)
    pub kept : taken.answer.refusal ≢ pos 0
        → taken ≡ result (record { refusal = taken.answer.refusal; thread = pos 0; number = pos 0 }) state
    pub nobody : (taken.answer.thread ≡ negsuc 0) ↔ (PastTake × (p < ports (table_of table)) × NobodyOffers (table_of table) (view state) Out p)
    pub nobody_kept : taken.answer.thread ≡ negsuc 0 → taken ≡ result (record { refusal = pos 0; thread = negsuc 0; number = pos 0 }) state

-- ---- a run of at most n steps, and a collection: 8, 9, 18, 19, 10, and no other

module _ (table state rights : List ℕ) (seat n : ℕ) where
  abbrev pub ran : StateResult RunAnswer
  ran = run_result table state rights seat n

  pub record RunInNumbers : Type 0 where
    pub entered : Entered table state rights seat Right.StepAndRun ran.answer.refusal
    pub zero : (ran.answer.refusal ≡ pos 0) ↔ Past10 table state rights seat Right.StepAndRun
    pub only : (n : ℕ) × (ran.answer.refusal ≡ pos n) × (elem n (0 ∷ 8 ∷ 9 ∷ 18 ∷ 19 ∷ 10 ∷ []) ≡ true)
    pub kept : ran.answer.refusal ≢ pos 0
        → ran ≡ result (record { refusal = ran.answer.refusal; steps = pos 0; reason = pos 0; thread = pos 0 }) state
    -- each reason exactly when it is due, by what a step is answered at this seat
    pub reasons : ran.answer.refusal ≡ pos 0 → (k : ℕ) × RunAnswers table state rights seat n k ran.answer ran.state

module _ (table state rights : List ℕ) (seat : ℕ) where
  abbrev pub collected : StateResult CollectAnswer
  collected = collect_result table state rights seat

  pub record CollectInNumbers : Type 0 where
    pub entered : Entered table state rights seat Right.Collect collected.answer.refusal
    pub zero : (collected.answer.refusal ≡ pos 0) ↔ Past10 table state rights seat Right.Collect
    pub only : (n : ℕ) × (collected.answer.refusal ≡ pos n) × (elem n (0 ∷ 8 ∷ 9 ∷ 18 ∷ 19 ∷ 10 ∷ []) ≡ true)
    pub kept : collected.answer.refusal ≢ pos 0 → collected ≡ result (record { refusal = collected.answer.refusal; threads = pos 0 }) state
