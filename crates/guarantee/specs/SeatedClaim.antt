-- The whole claim, demand 3 of document 01, on every list of calls that are made at seats (document 02, S-6), from the start of a file that loads. Each call of
-- a list names its list of rights and its seat, which may be others in every call, of any length and with any numbers. This file says it and
-- `SeatedProof.antt` shows it; what it says of a state is as `Claim.antt` has it.
use Rattle.std.specs.Prelude.{ℕ, ◌≡◌, Bool, true, false, not, ◌&&◌, List, [], ◌∷◌, ◌++◌, map, Err, Ok}
use Rattle.table.specs.Table.{table_of}
use Rattle.state.specs.State.{view, thread, in_use}
use Rattle.rules.specs.Moves.{move}
use Rattle.rules.specs.Calls.{start_call}
use Rattle.rules.specs.Seats.{seated_step, seated_give, seated_take, seated_run}
use Rattle.rules.specs.declared.Right.{Right}
use Rattle.rules.specs.declared.Refusal.{Refusal}
use Rattle.rules.specs.declared.Refusal.TheVariants as Ground
use Rattle.rules_laws.specs.Frames.{elem, movers}
use Rattle.engine_laws.specs.Movers.{ran_movers}
use Rattle.engine_laws.specs.Lists.{Call, step, give, take, run}
use Rattle.collector.specs.Collect.{seated_collect}
use Rattle.guarantee.specs.Claim.{Any, on, collect, unless_refused, met_by_give, met_by_take, in_turns, Counted, Linked}

-- ---- lists of calls at seats

-- a call with the list of rights that it is handed and the seat that it names
pub record AtSeat (K : Type 0) : Type 0 where
  pub rights : List ℕ
  pub seat : ℕ
  pub call : K

-- the right that a call asks of its seat
unfoldable pub asked : Any → Right
asked (on (step t)) = Right.StepAndRun
asked (on (give p v h)) = Right.Give p
asked (on (take p)) = Right.Take p
asked (on (run n)) = Right.StepAndRun
asked collect = Right.Collect

-- the bytes of the state's buffer after a call at a seat, by the definitions that the contracts of the exported calls cite
unfoldable pub after_by : List ℕ → List ℕ → List ℕ → ℕ → Any → List ℕ
after_by table state rights seat (on (step t)) = (seated_step table state rights seat t).state
after_by table state rights seat (on (give p v h)) = (seated_give table state rights seat p v).state
after_by table state rights seat (on (take p)) = (seated_take table state rights seat p).state
after_by table state rights seat (on (run n)) = (seated_run table state rights seat n).state
after_by table state rights seat collect = (seated_collect table state rights seat).state

abbrev pub after_seat : List ℕ → List ℕ → AtSeat Any → List ℕ
after_seat table state k = after_by table state k.rights k.seat k.call

-- and after a list of calls, the first of it first
unfoldable pub after_seats : List ℕ → List ℕ → List (AtSeat Any) → List ℕ
after_seats table state [] = state
after_seats table state (k ∷ ks) = after_seats table (after_seat table state k) ks

-- the list begins with what start writes, whatever the buffer had before
abbrev pub reached_at : List ℕ → List ℕ → List (AtSeat Any) → List ℕ
reached_at table state ks = after_seats table (start_call table state).state ks

-- a later list has steps, runs, gives and takes
abbrev pub placed : AtSeat Call → AtSeat Any
placed k = record { rights = k.rights; seat = k.seat; call = on k.call }

-- ---- who moves in a call at a seat, by its answer (`Claim.antt` has the words of document 01 for it)

unfoldable pub moving_by : List ℕ → List ℕ → List ℕ → ℕ → Call → List ℕ
moving_by table state rights seat (step t) = unless_refused (seated_step table state rights seat t).answer (movers t (move (table_of table) (view state) t))
moving_by table state rights seat (give p v h) = met_by_give (seated_give table state rights seat p v).answer
moving_by table state rights seat (take p) = met_by_take (seated_take table state rights seat p).answer
moving_by table state rights seat (run n) = in_turns (seated_run table state rights seat n).answer (ran_movers (table_of table) n (view state))

unfoldable pub moving_seats : List ℕ → List ℕ → List (AtSeat Call) → List ℕ
moving_seats table state [] = []
moving_seats table state (k ∷ ks) = moving_by table state k.rights k.seat k.call ++ moving_seats table (after_seat table state (placed k)) ks

-- ---- the parts

-- a collection of this state at this seat takes thread t: the thread's row is in use before it and free after it
unfoldable pub taken_at : List ℕ → List ℕ → List ℕ → ℕ → ℕ → Bool
taken_at table state rights seat t = in_use (thread (view state) t) && not (in_use (thread (view (seated_collect table state rights seat).state) t))

-- no thread that the collection takes steps or is met in the later list, and after it the thread's row has each word that it had
abbrev pub UntouchedAt : List ℕ → List ℕ → List ℕ → ℕ → List (AtSeat Call) → Type 0
UntouchedAt table state rights seat later =
    (t : ℕ) → taken_at table state rights seat t ≡ true
    → (elem t (moving_seats table state later) ≡ false) × (thread (view (after_seats table state (map placed later))) t ≡ thread (view state) t)

-- a call at a seat is answered by a refusal on ground r
unfoldable pub RefusedAt : List ℕ → List ℕ → List ℕ → ℕ → Any → Refusal → Type 0
RefusedAt table state rights seat (on (step t)) r = (seated_step table state rights seat t).answer ≡ Err r
RefusedAt table state rights seat (on (give p v h)) r = (seated_give table state rights seat p v).answer ≡ Err r
RefusedAt table state rights seat (on (take p)) r = (seated_take table state rights seat p).answer ≡ Err r
RefusedAt table state rights seat (on (run n)) r = (seated_run table state rights seat n).answer ≡ Err r
RefusedAt table state rights seat collect r = (seated_collect table state rights seat).answer ≡ Err r

-- no call of a list, on the bytes that the calls before it leave, is refused with 10
unfoldable pub NeverTenAt : List ℕ → List ℕ → List (AtSeat Any) → Type 0
NeverTenAt table state [] = Unit
NeverTenAt table state (k ∷ ks) =
    (¬ RefusedAt table state k.rights k.seat k.call Ground.State) × NeverTenAt table (after_seat table state k) ks

-- ---- the claim, of a table, a buffer for the state and a list of calls at seats, which a collection at any seat may follow. In b. and c. it is not refused: its
-- answer is a number, n (`SeatedProof.antt` tells when it is: `collection_refused_iff`)
pub record SeatedGuarantee (table state : List ℕ) (ks : List (AtSeat Any)) : Type 0 where
  -- start is not refused
  pub starts : (start_call table state).answer ≡ Ok tt
  -- a. the counts are true after the list
  pub counted : Counted table (reached_at table state ks)
  -- b. no later list, made in place of the collection, moves a thread that the collection takes
  pub untouched : (rights : List ℕ) (seat n : ℕ) → (seated_collect table (reached_at table state ks) rights seat).answer ≡ Ok n
      → (later : List (AtSeat Call)) → UntouchedAt table (reached_at table state ks) rights seat later
  -- c. after the collection the waiting threads are linked
  pub linked : (rights : List ℕ) (seat n : ℕ) → (seated_collect table (reached_at table state ks) rights seat).answer ≡ Ok n
      → Linked table (seated_collect table (reached_at table state ks) rights seat).state
  -- d. in neither list is a call refused with 10
  pub never_ten : NeverTenAt table (start_call table state).state ks
  pub never_ten_later : (later : List (AtSeat Call)) → NeverTenAt table (reached_at table state ks) (map placed later)
