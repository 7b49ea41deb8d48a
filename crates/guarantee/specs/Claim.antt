-- The whole claim, demand 3 of document 01, on every list of calls from the start of a file that loads. This file says it and `Proof.antt` shows it: what
-- a reader must believe is here, and in the definitions that are named here. The calls are those without seats; `SeatedClaim.antt` says it of the calls as C
-- makes them, at seats.
use Rattle.rules.specs.Answers.{Given, Ran, Stepped, Taken}
use Rattle.std.specs.Prelude.{ℕ, ◌<◌, ◌≡◌, Bool, true, false, not, ◌&&◌, List, [], ◌∷◌, ◌++◌, map, ◌≢◌, ◌↔◌, Err, None, Ok, Some}
use Rattle.table.specs.Table.{table_of}
use Rattle.state.specs.State.{max_threads, max_channels, view, thread, in_use, is_waiting, type_in, count_in}
use Rattle.rules.specs.Holding.{count_of}
use Rattle.rules.specs.Moves.{move}
use Rattle.rules.specs.Calls.{start_call, step_call, give_call, take_call, run_call}
use Rattle.rules.specs.declared.Refusal.{Refusal}
use Rattle.rules.specs.declared.Refusal.TheVariants as Ground
use Rattle.rules_laws.specs.Frames.{elem, movers}
use Rattle.engine_laws.specs.Movers.{ran_movers}
use Rattle.engine_laws.specs.Lists.{Call, step, give, take, run, after, after_all, RefusedWith}
use Rattle.collector.specs.Collect.{collect_call}
use Rattle.collector_laws.specs.Linked.{Series}

-- ---- lists of calls

-- the calls on a state that document 01 includes, but for start, which comes before the list: a step, run, give or take with whatever arguments (`Call`),
-- or a collection
pub data Any : Type 0 where
  on : Call → Any
  collect : Any

-- the bytes of the state's buffer after a call, by the definitions that the contracts of `engine` and `collector` cite for a call that its seat may make, and
-- after a list of calls, the first of it first. A call that is refused leaves the bytes as they were (document 01, on refusals), and the list goes on
unfoldable pub after_any : List ℕ → List ℕ → Any → List ℕ
after_any table state (on k) = after table state k
after_any table state collect = (collect_call table state).state

unfoldable pub after_list : List ℕ → List ℕ → List Any → List ℕ
after_list table state [] = state
after_list table state (k ∷ ks) = after_list table (after_any table state k) ks

-- document 01, demand 3: the list begins with what start writes, whatever the buffer had before
abbrev pub reached_by : List ℕ → List ℕ → List Any → List ℕ
reached_by table state ks = after_list table (start_call table state).state ks

-- ---- who moves in a call: document 01, demand 3, where it says when a thread steps and when it is a partner

-- the threads that move in a step, which are these unless it is refused
unfoldable pub unless_refused : Stepped → List ℕ → List ℕ
unless_refused (Ok (n, d)) who = who
unless_refused (Err r) who = []

-- the thread that a give or a take has met, by its answer
unfoldable pub met_by_give : Given → List ℕ
met_by_give (Ok (Some u)) = u ∷ []
met_by_give (Ok None) = []
met_by_give (Err r) = []

unfoldable pub met_by_take : Taken → List ℕ
met_by_take (Ok (Some (u, v))) = u ∷ []
met_by_take (Ok None) = []
met_by_take (Err r) = []

-- the threads that move in a run, which are these unless it is refused
unfoldable pub in_turns : Ran → List ℕ → List ℕ
in_turns (Ok (n, r)) who = who
in_turns (Err r) who = []

-- the threads that step or are met in a call. By a step of thread t, `movers` has t and, where its move is a meeting, the thread met, and nobody where the
-- move lacks a row; by a run, `ran_movers` has them for each turn up to its end
unfoldable pub moving : List ℕ → List ℕ → Call → List ℕ
moving table state (step t) = unless_refused (step_call table state t).answer (movers t (move (table_of table) (view state) t))
moving table state (give p v h) = met_by_give (give_call table state p v).answer
moving table state (take p) = met_by_take (take_call table state p).answer
moving table state (run n) = in_turns (run_call table state n).answer (ran_movers (table_of table) n (view state))

-- the threads that step or are met in a list of calls
unfoldable pub moving_all : List ℕ → List ℕ → List Call → List ℕ
moving_all table state [] = []
moving_all table state (k ∷ ks) = moving table state k ++ moving_all table (after table state k) ks

-- ---- the four parts

-- document 01, demand 3, on counts: the second word of a channel's row is how many thread rows hold it, with one more for a port (`count_of`), and the
-- channel is in use, its type word being other than 0, exactly where that number is above 0
abbrev pub Counted : List ℕ → List ℕ → Type 0
Counted table state =
    (c : ℕ) → c < max_channels
    → (count_in (view state) c ≡ count_of (table_of table) (view state).threads c)
    × ((type_in (view state) c ≢ 0) ↔ (0 < count_of (table_of table) (view state).threads c))

-- a collection of this state takes thread t: the thread's row is in use before it and free after it (document 01, under State and moves, where it says
-- what a collection frees)
unfoldable pub taken_by : List ℕ → List ℕ → ℕ → Bool
taken_by table state t = in_use (thread (view state) t) && not (in_use (thread (view (collect_call table state).state) t))

-- document 01, demand 3, on the later list, which begins with the state just before the collection: no thread that the collection takes steps in it or is
-- met in it, and after it the thread's row has each word that it had. The list may be any, and so this is said of each part with which it begins
abbrev pub Untouched : List ℕ → List ℕ → List Call → Type 0
Untouched table state later =
    (t : ℕ) → taken_by table state t ≡ true
    → (elem t (moving_all table state later) ≡ false) × (thread (view (after_all table state later)) t ≡ thread (view state) t)

-- document 01, demand 3, on links: each waiting thread is the first of a series, given by the threads that come after it. In it (`Series`) each but the
-- last has an offer on a channel of the next, which is not itself; the last is ready or has an offer on a port
abbrev pub Linked : List ℕ → List ℕ → Type 0
Linked table state =
    (t : ℕ) → t < max_threads → is_waiting (thread (view state) t) ≡ true → (r : List ℕ) × Series (table_of table) (view state) t r

-- a call is answered by a refusal on ground r
unfoldable pub RefusedBy : List ℕ → List ℕ → Any → Refusal → Type 0
RefusedBy table state (on k) r = RefusedWith table state k r
RefusedBy table state collect r = (collect_call table state).answer ≡ Err r

-- document 01, demand 3, on refusals: no call of a list, on the bytes that the calls before it leave, is refused with 10, the state not being sound
unfoldable pub NeverTen : List ℕ → List ℕ → List Any → Type 0
NeverTen table state [] = Unit
NeverTen table state (k ∷ ks) = (¬ RefusedBy table state k Ground.State) × NeverTen table (after_any table state k) ks

-- ---- the claim, of a table, a buffer for the state and a list of calls, which a collection may follow. In b. and c. it is not refused: its answer is a
-- number, n (`Proof.antt` shows that it always is: `collection_made`)
pub record Guarantee (table state : List ℕ) (ks : List Any) : Type 0 where
  -- start is not refused
  pub starts : (start_call table state).answer ≡ Ok tt
  -- a. the counts are true after the list
  pub counted : Counted table (reached_by table state ks)
  -- b. no later list, made in place of the collection, moves a thread that the collection takes
  pub untouched : (n : ℕ) → (collect_call table (reached_by table state ks)).answer ≡ Ok n
      → (later : List Call) → Untouched table (reached_by table state ks) later
  -- c. after the collection the waiting threads are linked
  pub linked : (n : ℕ) → (collect_call table (reached_by table state ks)).answer ≡ Ok n
      → Linked table (collect_call table (reached_by table state ks)).state
  -- d. in neither list is a call refused with 10
  pub never_ten : NeverTen table (start_call table state).state ks
  pub never_ten_later : (later : List Call) → NeverTen table (reached_by table state ks) (map on later)
