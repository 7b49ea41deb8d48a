-- The whole claim, demand 3 of document 01, in the numbers that C passes and gets. `SeatedClaim.antt` says it by the answers of the definitions; here a call
-- is done, refused with 10, meets a thread or takes n of them as the numbers of its answer say, and all bytes are those that the exported calls leave in
-- their buffers. The calls are those of the claim, each with its list of rights and its seat: a give has the pattern of its number, for which C passes the
-- number itself (`to_z w32`), and every number of 32 bits has one (`every_number` below). This file says it and `InNumbers/Proof.antt` shows it. Assumes
-- nothing.
pub mod Proof
use Rattle.std.specs.Prelude.{ℕ, ◌<◌, ◌≡◌, Bool, true, false, not, ◌&&◌, cond, List, [], ◌∷◌, ◌++◌, map, ◌≢◌, eqb, ℤ, pos, negsuc}
use Rattle.std.specs.Int.{w32}
use Rattle.std.proofs.Common.{SFits, to_z, of_z, to_z-of_z}
use Rattle.std.proofs.Math.Facts.{Fits-of_z}
use Rattle.numbers.specs.Count.{bit}
use Rattle.numbers.specs.Search.{sum_to}
use Rattle.table.specs.Table.{table_of}
use Rattle.state.specs.State.{State, max_threads, view, thread, in_use, is_waiting}
use Rattle.rules_laws.specs.Frames.{elem}
use Rattle.engine_laws.specs.Movers.{ran_movers}
use Rattle.engine_laws.specs.Lists.{Call, step, give, take, run}
use Rattle.interface.specs.Interface.{start_result, step_result, give_result, take_result, run_result, collect_result}
use Rattle.guarantee.specs.Claim.{Any, Counted, Linked}
use Rattle.guarantee.specs.SeatedClaim.{AtSeat, placed}
use Rattle.guarantee.specs.Exported.{left, refusal}

-- every number that C can give has a pattern, so that the lists of the claim are all that C can make
pub every_number : (z : ℤ) → SFits w32 z → (v : ℕ) × (v < 4294967296) × (to_z w32 v ≡ z)
every_number z f = (of_z w32 z, (Fits-of_z f).fits, to_z-of_z f)

-- ---- lists of calls: the bytes that the exported calls leave, one after the other

unfoldable pub left_all : List ℕ → List ℕ → List (AtSeat Any) → List ℕ
left_all table state [] = state
left_all table state (k ∷ ks) = left_all table (left table state k) ks

-- from a start, whatever the buffer had before
abbrev pub left_from : List ℕ → List ℕ → List (AtSeat Any) → List ℕ
left_from table state ks = left_all table (start_result table state).state ks

-- ---- who moves in a call, by its answer

-- a call is done where its refusal is 0
unfoldable pub is_zero : ℤ → Bool
is_zero (pos n) = eqb n 0
is_zero (negsuc n) = false

-- these threads move where the call is done, and else nobody
unfoldable pub if_done : ℤ → List ℕ → List ℕ
if_done z who = cond (is_zero z) who []

-- the thread that a number names; -1 names nobody
unfoldable pub named : ℤ → List ℕ
named (pos u) = u ∷ []
named (negsuc n) = []

-- of some threads those that wait
unfoldable pub waiting_in : State → List ℕ → List ℕ
waiting_in s [] = []
waiting_in s (u ∷ us) = cond (is_waiting (thread s u)) (u ∷ waiting_in s us) (waiting_in s us)

-- the threads that step or are met. A step names the thread met or the thread started, and the state before tells them apart: a thread that is met was
-- waiting, the row of one that is started was free. A give and a take name the thread met. A run answers how many steps it made and not whose: who
-- took part is said by its turns one by one, as in the claim (`MoversInNumbers.antt` has the step call for each turn)
module _ (table state rights : List ℕ) (seat : ℕ) where
  unfoldable pub moved : Call → List ℕ
  moved (step t) =
      if_done (step_result table state rights seat t).answer.refusal (t ∷ waiting_in (view state) (named (step_result table state rights seat t).answer.partner))
  moved (give p v h) =
      if_done (give_result table state rights seat p (to_z w32 v)).answer.refusal (named (give_result table state rights seat p (to_z w32 v)).answer.thread)
  moved (take p) = if_done (take_result table state rights seat p).answer.refusal (named (take_result table state rights seat p).answer.thread)
  moved (run n) = if_done (run_result table state rights seat n).answer.refusal (ran_movers (table_of table) n (view state))

-- the threads that step or are met in a list of calls
unfoldable pub moved_all : List ℕ → List ℕ → List (AtSeat Call) → List ℕ
moved_all table state [] = []
moved_all table state (k ∷ ks) = moved table state k.rights k.seat k.call ++ moved_all table (left table state (placed k)) ks

-- ---- the four parts

-- a collection at a seat takes thread t: its row is in use before, and free in the bytes that the collection leaves
unfoldable pub takes : List ℕ → List ℕ → List ℕ → ℕ → ℕ → Bool
takes table state rights seat t = in_use (thread (view state) t) && not (in_use (thread (view (collect_result table state rights seat).state) t))

-- no call of a list is answered with refusal 10
unfoldable pub NoTen : List ℕ → List ℕ → List (AtSeat Any) → Type 0
NoTen table state [] = Unit
NoTen table state (k ∷ ks) = (refusal table state k ≢ pos 10) × NoTen table (left table state k) ks

-- the claim, of a table, a buffer for the state and a list of calls. In b. and c. a collection at some seat follows the list, and is answered with refusal 0
-- (`InNumbers/Proof.antt` shows that it is answered with 0, 8, 18 or 19: `collection_answers`)
pub record InNumbers (table state : List ℕ) (ks : List (AtSeat Any)) : Type 0 where
  -- a. the counts are true after the list
  pub counted : Counted table (left_from table state ks)
  -- b. a thread that the collection takes neither steps nor is met in any list that is called in its place, and its row stays word for word; the
  -- number that the collection answers is how many it takes
  pub untouched : (rights : List ℕ) (seat : ℕ) → (collect_result table (left_from table state ks) rights seat).answer.refusal ≡ pos 0
      → (later : List (AtSeat Call)) (t : ℕ) → takes table (left_from table state ks) rights seat t ≡ true
      → (elem t (moved_all table (left_from table state ks) later) ≡ false)
      × (thread (view (left_all table (left_from table state ks) (map placed later))) t ≡ thread (view (left_from table state ks)) t)
  pub took : (rights : List ℕ) (seat : ℕ) → (collect_result table (left_from table state ks) rights seat).answer.refusal ≡ pos 0
      → (collect_result table (left_from table state ks) rights seat).answer.threads
      ≡ pos (sum_to (λ t. bit (takes table (left_from table state ks) rights seat t)) max_threads)
  -- c. after the collection the waiting threads are linked
  pub linked : (rights : List ℕ) (seat : ℕ) → (collect_result table (left_from table state ks) rights seat).answer.refusal ≡ pos 0
      → Linked table (collect_result table (left_from table state ks) rights seat).state
  -- d. in neither list is a call refused with 10
  pub never_ten : NoTen table (start_result table state).state ks
  pub never_ten_later : (later : List (AtSeat Call)) → NoTen table (left_from table state ks) (map placed later)
