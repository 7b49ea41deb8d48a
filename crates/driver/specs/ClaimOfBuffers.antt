-- Demand 3 of document 01, as somebody can read it who has nothing but the buffers: the file, the calls and their lists of rights that went in, and the table, the
-- state and the answers that `driver_work_file` left. "Refused with 10", "met" and "took n" are words of the buffer for the answers here, and a state between two
-- calls is what the same function leaves with the first records of the list. This file says it and `Guaranteed.antt` shows it. Assumes nothing.
pub mod Records
pub mod Answered
use Rattle.std.specs.Prelude.{ℕ, suc, ◌+◌, ◌*◌, ◌/◌, ◌<◌, ◌≤◌, ◌≡◌, Bool, true, false, not, ◌&&◌, cond, List, [], ◌∷◌, ◌⊎◌, ◌≢◌, eqb, length, get_or, take}
use Rattle.numbers.specs.Bytes.{words}
use Rattle.numbers.specs.Count.{bit}
use Rattle.numbers.specs.Search.{sum_to}
use Rattle.state.specs.State.{max_threads, minus_one, view, thread, in_use, is_ready, is_waiting}
use Rattle.rules_laws.specs.Frames.{elem}
use Rattle.engine_laws.specs.Lists as Lists
use Rattle.engine_laws.specs.Lists.{Call, step, give, run}
use Rattle.guarantee.specs.Claim.{Any, on, collect, Counted, Linked}
use Rattle.guarantee.specs.SeatedClaim.{AtSeat}
use Rattle.guarantee.specs.InNumbers.{moved}
use Rattle.driver.specs.Encoding.{record_at}
use Rattle.driver.specs.WorkedFile.{Worked, worked_file}

-- ---- reading the buffers

-- how many calls a buffer has; and which call record i is: 0 a step, 1 a give, 2 a take, 3 a run, any other a collection
abbrev pub call_count : List ℕ → ℕ
call_count calls = length calls / 24

abbrev pub code_at : List ℕ → ℕ → ℕ
code_at calls i = get_or (words calls) (i * 6) 0

-- word k of answer i, in the words of a buffer: word 0 is the refusal
abbrev pub word_at : List ℕ → ℕ → ℕ → ℕ
word_at answers i k = get_or answers (i * 5 + k) 0

-- call i has been answered in the buffer
abbrev pub Told : List ℕ → List ℕ → ℕ → Type 0
Told calls answers i = (i < call_count calls) × (i * 5 + 5 ≤ length answers)

-- a word names a thread, unless it is the pattern of -1
unfoldable pub row_named : ℕ → List ℕ
row_named w = cond (eqb w minus_one) [] (w ∷ [])

-- the threads that an answer with the words w 0 to w 4 names, if it has the refusal 0: the thread of a step and the one that it met or started, and the one that a
-- give or a take met. A run tells how many steps it made and not whose, and a collection how many threads it took
unfoldable pub named_by : Any → (ℕ → ℕ) → List ℕ
named_by (on (step t)) w = cond (eqb (w 0) 0) (t ∷ row_named (w 4)) []
named_by (on (give p v h)) w = cond (eqb (w 0) 0) (row_named (w 1)) []
named_by (on (Lists.take p)) w = cond (eqb (w 0) 0) (row_named (w 1)) []
named_by (on (run n)) w = []
named_by collect w = []

-- thread t's row is in use in the first of two states and free in the second
unfoldable pub freed : List ℕ → List ℕ → ℕ → Bool
freed before after t = in_use (thread (view before) t) && not (in_use (thread (view after) t))

-- ---- what is left, from a file, buffers t and b for the table and the state, the lists of rights, the calls and the words a of the buffer for the answers

module _ (file t b lists calls a : List ℕ) where
  -- the whole list worked, and the state with its first i calls worked
  abbrev pub whole : Worked
  whole = worked_file file t b lists calls a

  abbrev pub state_at : ℕ → List ℕ
  state_at i = (worked_file file t b lists (take (i * 24) calls) a).state

  -- record i as a call with its seat and its list of rights, and the words of its answer
  abbrev pub called : ℕ → AtSeat Any
  called i = record_at lists (words calls) i

  abbrev pub told : ℕ → ℕ → ℕ
  told i k = word_at whole.answers i k

  -- call i is a collection, and was done
  abbrev pub Collects : ℕ → Type 0
  Collects i = Told calls a i × (3 < code_at calls i) × (told i 0 ≡ 0)

-- ---- the claim, of what is left where the function answered 0
pub record ClaimOfBuffers (file t b lists calls a : List ℕ) : Type 0 where
  -- a. the counts are true
  pub counted : Counted (whole file t b lists calls a).table (whole file t b lists calls a).state
  -- who is named: a step is that of a ready thread, and the other that it names was waiting and is met, or had a free row and is started; a give or a take names
  -- a thread that was waiting, which is the one met
  pub stepped : (i : ℕ) → Told calls a i → (u : ℕ) → (called file t b lists calls a i).call ≡ on (step u) → told file t b lists calls a i 0 ≡ 0
      → (u < max_threads) × (is_ready (thread (view (state_at file t b lists calls a i)) u) ≡ true)
      × ((v : ℕ) → elem v (row_named (told file t b lists calls a i 4)) ≡ true
      → (v < max_threads) × ((is_waiting (thread (view (state_at file t b lists calls a i)) v) ≡ true) ⊎ (in_use (thread (view (state_at file t b lists calls a i)) v) ≡ false)))
  pub met : (i : ℕ) → Told calls a i → (code_at calls i ≡ 1) ⊎ (code_at calls i ≡ 2) → told file t b lists calls a i 0 ≡ 0
      → (v : ℕ) → elem v (row_named (told file t b lists calls a i 1)) ≡ true
      → (v < max_threads) × (is_waiting (thread (view (state_at file t b lists calls a i)) v) ≡ true)
  -- b. word 1 of a collection is how many rows were in use before it and are free after it
  pub took : (i : ℕ) → Collects file t b lists calls a i
      → told file t b lists calls a i 1 ≡ sum_to (λ u. bit (freed (state_at file t b lists calls a i) (state_at file t b lists calls a (suc i)) u)) max_threads
  -- such a thread neither steps nor is met where another list of calls is worked which begins with the same i calls and has no collection from there on: no answer
  -- of that list names it, in no run is a turn its own or is it met (`MoversInNumbers.antt` has the turns by step calls), and its row stays word for word
  pub untouched : (i : ℕ) → Collects file t b lists calls a i
      → (u : ℕ) → freed (state_at file t b lists calls a i) (state_at file t b lists calls a (suc i)) u ≡ true
      → (other a' : List ℕ) → take (i * 24) other ≡ take (i * 24) calls → ((j : ℕ) → i ≤ j → j < call_count other → code_at other j < 4)
      → (j : ℕ) → i ≤ j → j < call_count other
      → (thread (view (state_at file t b lists other a' (suc j))) u ≡ thread (view (state_at file t b lists calls a i)) u)
      × ((k : Call) → (called file t b lists other a' j).call ≡ on k
      → elem u (moved (whole file t b lists other a').table (state_at file t b lists other a' j) (called file t b lists other a' j).rights (called file t b lists other a' j).seat k) ≡ false)
      × (j * 5 + 5 ≤ length a' → elem u (named_by (called file t b lists other a' j).call (told file t b lists other a' j)) ≡ false)
  -- c. after a collection the waiting threads are linked
  pub linked : (i : ℕ) → Collects file t b lists calls a i → Linked (whole file t b lists calls a).table (state_at file t b lists calls a (suc i))
  -- d. no answer has the refusal 10
  pub never_ten : (i : ℕ) → Told calls a i → told file t b lists calls a i 0 ≢ 10
