-- Seats and their rights (document 02, S-6): what a list of rights is, what a seat may do by it, and the calls of the engine as they are made at a seat. Such
-- a call is refused if its list is not in order or its seat may not make it, and that is said before the state is looked at; else it is the call as
-- `Calls.antt` has it.
pub mod Laws
pub mod Entitled
use Rattle.rules.specs.Answers.{Admission, Given, Ran, Stepped, Taken}
use Rattle.std.specs.Prelude.{ℕ, ◌+◌, ◌*◌, Bool, ◌&&◌, ◌||◌, cond, List, ltb, leb, eqb, length, get_or, Err, Ok}
use Rattle.numbers.specs.Bytes.{words}
use Rattle.numbers.specs.Search.{every}
use Rattle.table.specs.Table.{max_ports}
use Rattle.rules.specs.Calls.{Outcome, outcome, and_then, start_admission, step_call, give_call, take_call, run_call}
use Rattle.rules.specs.declared.Right.{Right}
use Rattle.rules.specs.declared.Right.TheVariants.{Take, Give, StepAndRun, Collect}
use Rattle.rules.specs.declared.Refusal.{Refusal}
use Rattle.rules.specs.declared.Refusal.TheVariants as Ground

-- ---- a list of rights: nine numbers for each of eight seats, as their 32-bit patterns, so that what is at most 3 is not negative

abbrev pub seats : ℕ
seats = 8

abbrev pub seat_numbers : ℕ
seat_numbers = 9

-- of a seat's numbers the first eight are for the ports, as many as a file may have; this is the place of the ninth
abbrev pub ninth : ℕ
ninth = 8

-- all numbers of a list, and the bytes of its buffer
abbrev pub rights_numbers : ℕ
rights_numbers = 72

abbrev pub rights_length : ℕ
rights_length = 288

-- the number at place k, counted from 0, of those of a seat
unfoldable pub right_at : List ℕ → ℕ → ℕ → ℕ
right_at rights seat k = get_or (words rights) (seat * seat_numbers + k) 0

-- ground 18 asks of every number, whoever's seat it is for, that it is from 0 to 3
unfoldable pub right_in_range : List ℕ → ℕ → Bool
right_in_range rights i = leb (get_or (words rights) i 0) 3

unfoldable pub rights_in_range : List ℕ → Bool
rights_in_range rights = every (right_in_range rights) rights_numbers

-- ---- what a seat may do

-- a number grants two things: the first if it is 1 or 3, the second if it is 2 or 3
unfoldable pub grants_first : ℕ → Bool
grants_first v = eqb v 1 || eqb v 3

unfoldable pub grants_second : ℕ → Bool
grants_second v = eqb v 2 || eqb v 3

-- the number of a port grants takes and gives there, and nothing is granted on a port above 7; the ninth grants steps and runs, and collections
unfoldable pub grants : List ℕ → ℕ → Right → Bool
grants rights seat (Take p) = ltb p max_ports && grants_first (right_at rights seat p)
grants rights seat (Give p) = ltb p max_ports && grants_second (right_at rights seat p)
grants rights seat StepAndRun = grants_first (right_at rights seat ninth)
grants rights seat Collect = grants_second (right_at rights seat ninth)

-- a seat above 7 has no right
unfoldable pub has_right : List ℕ → ℕ → Right → Bool
has_right rights seat right = ltb seat seats && grants rights seat right

-- ---- grounds 8, 9, 18 and 19, in this order. Of the state they ask its length alone

unfoldable pub rights_admission : List ℕ → ℕ → Right → Admission
rights_admission rights seat right =
    cond (rights_in_range rights) (cond (has_right rights seat right) (Ok tt) (Err Ground.Seat)) (Err Ground.Rights)

unfoldable pub seat_admission : List ℕ → List ℕ → List ℕ → ℕ → Right → Admission
seat_admission table state rights seat right =
    cond (eqb (length rights) rights_length) (and_then (start_admission table state) (rights_admission rights seat right)) (Err Ground.Length)

-- ---- a call at a seat: its refusal, or the call as it is without seats, which asks grounds 8 and 9 again, 10, and its own

unfoldable pub by_seat : {A : Type 0} → (Refusal → A) → Admission → List ℕ → Outcome A → Outcome A
by_seat refused (Err r) state call = outcome (refused r) state
by_seat refused (Ok tt) state call = call

module _ (table state rights : List ℕ) (seat : ℕ) where
  unfoldable pub at_seat : {A : Type 0} → (Refusal → A) → Right → Outcome A → Outcome A
  at_seat refused right call = by_seat refused (seat_admission table state rights seat right) state call

  unfoldable pub seated_step : ℕ → Outcome Stepped
  seated_step t = at_seat Err StepAndRun (step_call table state t)

  unfoldable pub seated_give : ℕ → ℕ → Outcome Given
  seated_give p v = at_seat Err (Give p) (give_call table state p v)

  unfoldable pub seated_take : ℕ → Outcome Taken
  seated_take p = at_seat Err (Take p) (take_call table state p)

  unfoldable pub seated_run : ℕ → Outcome Ran
  seated_run n = at_seat Err StepAndRun (run_call table state n)
