-- A case: the rows of a file, what is done from its start, and what then holds.
use Rattle.rules.specs.Answers.{Partner, Stepped}
use Rattle.std.specs.Prelude.{ℕ, Bool, true, false, not, ◌&&◌, List, [], ◌∷◌, eqb, Err, None, Ok, Some}
use Rattle.table.specs.Table.{Table}
use Rattle.loader_laws.specs.PrintedFile.{filled_up}
use Rattle.state.specs.State.{State, thread, status, slot_of, in_use, is_ready, is_waiting, type_in, count_in}
use Rattle.rules.specs.Holding.{holds}
use Rattle.rules.specs.Start.{started}
use Rattle.rules.specs.Offers.{offers, partner_of}
use Rattle.rules.specs.Moves.{met_by_bench}
use Rattle.rules.specs.Calls.{bench, step_end, can_step, step_on, course_of}
use Rattle.rules.specs.declared.Direction.TheVariants.{Out, In}
use Rattle.engine.specs.Numbers.{act_number, branch_number, reason_number}
use Rattle.collector.specs.Collect.{collected, taken_count}
use Rattle.examples.specs.Computing.{collecting}

-- ---- what is done: a run of at most n steps, or a give, on port p, of the number whose pattern is v
pub data Doing : Type 0 where
  steps : ℕ → Doing
  gives : ℕ → ℕ → Doing

module _ (tb : Table) where
  -- the state after a give, by the thread that was found to take it; nothing changes where there is none
  unfoldable pub after_give : State → ℕ → Partner → State
  after_give s v None = s
  after_give s v (Some (u, j)) = met_by_bench tb s u j v

  unfoldable pub after_doing : State → Doing → State
  after_doing s (steps n) = (course_of tb n s).state
  after_doing s (gives p v) = after_give s v (partner_of tb s bench In p)

  unfoldable pub after_all : State → List Doing → State
  after_all s [] = s
  after_all s (x ∷ xs) = after_all (after_doing s x) xs

-- ---- what holds in a state, of threads t, channels c, slots k and numbers v
pub data Fact : Type 0 where
  -- thread t is ready; it waits; it waits with a send on channel c, with a receive on it; it knows channel c; its slot k has v
  ready : ℕ → Fact
  waits : ℕ → Fact
  sends : ℕ → ℕ → Fact
  receives : ℕ → ℕ → Fact
  knows : ℕ → ℕ → Fact
  slot : ℕ → ℕ → ℕ → Fact
  -- a step of thread t is answered with act a and branch i
  answers : ℕ → ℕ → ℕ → Fact
  -- the count of channel c is n
  counted : ℕ → ℕ → Fact
  -- a run of at most n steps makes k of them and ends for the reason of this number
  runs : ℕ → ℕ → ℕ → Fact
  -- a collection takes n threads; thread t is one of them; it is none of them, and is ready or waits as before; channel c, in use before it, is free after it
  collects : ℕ → Fact
  takes : ℕ → Fact
  keeps : ℕ → Fact
  frees : ℕ → Fact

unfoldable pub answered : Stepped → ℕ → ℕ → Bool
answered (Ok (n, d)) a i = eqb (act_number d) a && eqb (branch_number d) i
answered (Err r) a i = false

module _ (tb : Table) (s : State) where
  unfoldable pub holds_in : Fact → Bool
  holds_in (ready t) = is_ready (thread s t)
  holds_in (waits t) = is_waiting (thread s t)
  holds_in (sends t c) = offers tb (thread s t) Out c
  holds_in (receives t c) = offers tb (thread s t) In c
  holds_in (knows t c) = holds tb (thread s t) c
  holds_in (slot t k v) = in_use (thread s t) && eqb (slot_of (thread s t) k) v
  holds_in (answers t a i) = answered (step_on tb s t).answer a i
  holds_in (counted c n) = eqb (count_in s c) n
  holds_in (runs n k r) = eqb (course_of tb n s).steps k && eqb (reason_number (course_of tb n s).reason) r
  holds_in (collects n) = eqb (taken_count tb s) n
  holds_in (takes t) = in_use (thread s t) && not (in_use (thread (collected tb s) t))
  holds_in (keeps t) = in_use (thread s t) && eqb (status (thread (collected tb s) t)) (status (thread s t))
  holds_in (frees c) = not (eqb (type_in s c) 0) && eqb (type_in (collected tb s) c) 0

  unfoldable pub all_in : List Fact → Bool
  all_in [] = true
  all_in (f ∷ fs) = holds_in f && all_in fs

-- ---- a case
pub record Case : Type 0 where
  pub rows : Table
  pub doings : List Doing
  pub facts : List Fact

abbrev pub case : Table → List Doing → List Fact → Case
case r d f = record { rows = r; doings = d; facts = f }

-- the table that its file gives, and whether its facts hold after its doings
abbrev pub table_in : Case → Table
table_in x = filled_up x.rows

unfoldable pub passes : Case → Bool
passes x = all_in (table_in x) (after_all (table_in x) (started (table_in x)) x.doings) x.facts

unfoldable pub all_hold : List Case → Bool
all_hold [] = true
all_hold (x ∷ xs) = passes x && all_hold xs

-- opens what a case computes with
unfoldable pub working : Unit {0}
unfolding collecting met_by_bench step_end can_step step_on act_number branch_number reason_number answered after_give after_doing after_all holds_in all_in passes all_hold
working = tt
