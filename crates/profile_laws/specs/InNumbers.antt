-- What C sees of the check of a table, and the pledge in the numbers that C passes and gets (document 02, S-3). The theorems on the definitions are in `Grounds.antt`
-- and `SeatedPledge.antt`; this file says them in C's numbers, and shows them. Assumes nothing.
use Rattle.profile.specs.declared.ProfileRefusal.TheVariants as ProfileRefusal
use Rattle.profile.specs.Answers.{Profiled}
use Rattle.rules.specs.Answers.{Ran}
use Rattle.std.specs.Prelude.{ℕ, ◌≤◌, ◌<◌, ◌≡◌, cond, List, [], ◌∷◌, ◌≢◌, ◌↔◌, eqb, length, get_or, Err, Ok}
use Rattle.std.proofs.Common.{arith, ◌∙◌}
use Rattle.std.proofs.Math.Path.{refl, sym, ap}
use Rattle.std.proofs.Math.IntN.{pos}
use Rattle.std.specs.Int.{w32}
use Rattle.std.proofs.Math.Facts.{to_z_pos}
use Rattle.numbers.specs.Tests.{clash}
use Rattle.table.specs.Table.{table_length, table_of}
use Rattle.loader_laws.specs.Yields.{loaded_small}
use Rattle.state.specs.State.{max_threads, view}
use Rattle.rules.specs.Seats.{seated_run}
use Rattle.rules.specs.declared.Refusal.TheVariants as Ground
use Rattle.rules.specs.declared.Reason.TheVariants.{LackedThread}
use Rattle.engine.specs.Numbers as Numbers
use Rattle.engine_laws.specs.Lists.{step, give, take, run}
use Rattle.interface.specs.Interface.{load_result, start_result, in_numbers, run_fields, run_numbers, run_result, profile_fields, profile_numbers, profile_result}
use Rattle.guarantee.specs.Claim.{Any, on, collect}
use Rattle.guarantee.specs.SeatedClaim.{AtSeat}
use Rattle.guarantee.specs.Exported.{left, refusal, left_so, started_so, refused_by, load_so, table_so}
use Rattle.guarantee.specs.WriteInNumbers.{LoadsTo, IsLoaded, loads_so, accepted_loads}
use Rattle.guarantee.specs.ReasonsInLists.{two_is}
use Rattle.guarantee.specs.InNumbers.{left_from}
use Rattle.guarantee.specs.InNumbers.Proof.{from_so, started_iff}
use Rattle.profile.specs.Profile.{definition_bound, profile_call, refusal_number, threads_number}
use Rattle.profile_laws.specs.Claim.{threads_in}
use Rattle.profile_laws.specs.Grounds.{Permitted, Forbidden, IsTable, length_iff, table_iff, call_iff, threads_iff, passes_iff, passes_some}
use Rattle.profile_laws.specs.SeatedPledge.{EndsLackingAt, NeverLacksAt, seated_accepted_pledge}

-- ---- what is said

-- of the bytes of a table: each refusal exactly when it is due, and no other; and the threads
pub record ProfileInNumbers (table : List ℕ) : Type 0 where
  pub eight : ((profile_result table).refusal ≡ pos 8) ↔ (length table ≢ table_length)
  pub nine : ((profile_result table).refusal ≡ pos 9) ↔ ((length table ≡ table_length) × ((file : List ℕ) → ¬ LoadsTo table file))
  pub sixteen : ((profile_result table).refusal ≡ pos 16) ↔ (IsLoaded table × Forbidden (table_of table))
  pub seventeen : ((profile_result table).refusal ≡ pos 17)
      ↔ (IsLoaded table × Permitted (table_of table) × (max_threads < definition_bound (table_of table) 0))
  pub zero : ((profile_result table).refusal ≡ pos 0)
      ↔ (IsLoaded table × Permitted (table_of table) × (definition_bound (table_of table) 0 ≤ max_threads))
  pub refused : (profile_result table).refusal ≢ pos 0 → (profile_result table).threads ≡ pos 0
  pub threads : (profile_result table).refusal ≡ pos 0
      → ((profile_result table).threads ≡ pos (definition_bound (table_of table) 0)) × (1 ≤ definition_bound (table_of table) 0)

-- a run at a seat is not answered with reason 2; other calls answer no reason
unfoldable pub NotTwo : List ℕ → List ℕ → List ℕ → ℕ → Any → Type 0
NotTwo table state rights seat (on (step t)) = Unit
NotTwo table state rights seat (on (give p v h)) = Unit
NotTwo table state rights seat (on (take p)) = Unit
NotTwo table state rights seat (on (run n)) = (run_result table state rights seat n).answer.reason ≢ pos 2
NotTwo table state rights seat collect = Unit

-- no call of a list is answered with refusal 13, and no run of it with reason 2
unfoldable pub RowsFound : List ℕ → List ℕ → List (AtSeat Any) → Type 0
RowsFound table state [] = Unit
RowsFound table state (k ∷ ks) =
    (refusal table state k ≢ pos 13) × NotTwo table state k.rights k.seat k.call × RowsFound table (left table state k) ks

-- the pledge, of a table, a buffer for the state and a list of calls at seats
pub record PledgeInNumbers (table state : List ℕ) (ks : List (AtSeat Any)) : Type 0 where
  pub rows_found : RowsFound table (start_result table state).state ks
  -- after the list there are at most as many threads as the check of the table answered
  pub few_threads : (n : ℕ) → (profile_result table).threads ≡ pos n → threads_in (view (left_from table state ks)) ≤ n

-- ---- the answer by its numbers

-- the answer with a refusal and a number of threads
unfoldable answer_with : ℕ → ℕ → Profiled
answer_with r n =
    cond (eqb r 0) (Ok n)
    (cond (eqb r 8) (Err ProfileRefusal.WrongLength)
    (cond (eqb r 9) (Err ProfileRefusal.WrongTable)
    (cond (eqb r 16) (Err ProfileRefusal.ForbiddenCall) (Err ProfileRefusal.ManyThreads))))

its_own : (a : Profiled) → a ≡ answer_with (refusal_number a) (threads_number a)
unfolding answer_with refusal_number threads_number
its_own (Ok n) = refl
its_own (Err ProfileRefusal.WrongLength) = refl
its_own (Err ProfileRefusal.WrongTable) = refl
its_own (Err ProfileRefusal.ForbiddenCall) = refl
its_own (Err ProfileRefusal.ManyThreads) = refl

signed : (a : Profiled) → (profile_numbers a).refusal ≡ pos (refusal_number a)
unfolding profile_numbers profile_fields refusal_number
signed (Ok n) = refl
signed (Err ProfileRefusal.WrongLength) = refl
signed (Err ProfileRefusal.WrongTable) = refl
signed (Err ProfileRefusal.ForbiddenCall) = refl
signed (Err ProfileRefusal.ManyThreads) = refl

threads_are : (a : Profiled) → threads_number a ≤ max_threads → (profile_numbers a).threads ≡ pos (threads_number a)
unfolding profile_numbers profile_fields
threads_are a h = to_z_pos w32 {n = threads_number a} (omega arith)

module _ (table : List ℕ) where
  -- what C sees as refusal m is the answer with that refusal
  seen : (m : ℕ) → (profile_result table).refusal ≡ pos m → profile_call table ≡ answer_with m (threads_number (profile_call table))
  unfolding profile_result
  seen m e =
      let q : pos (refusal_number (profile_call table)) ≡ pos m = sym (signed (profile_call table)) ∙ e in
      let n : refusal_number (profile_call table) ≡ m = cc in
      rw n at (its_own (profile_call table))

  shown : (a : Profiled) → profile_call table ≡ a → (profile_result table).refusal ≡ pos (refusal_number a)
  unfolding profile_result
  shown a e = signed (profile_call table) ∙ ap (λ x. pos (refusal_number x)) e

  -- ---- the check

  module _ (fit : (i : ℕ) → get_or table i 0 < 256) where
    passes_threads : (n : ℕ) → profile_call table ≡ Ok n → (profile_result table).threads ≡ pos n
    unfolding profile_result threads_number
    passes_threads n e = rw e (threads_are (Ok n) (passes_some table fit n e).1)

    -- C sees a file loaded to it exactly when one loads to it
    loaded_so : IsTable table ↔ IsLoaded table
    loaded_so = (λ (file, f). (file, (loads_so table file).0 f), λ (file, f). (file, (loads_so table file).1 f))

    refused_threads : (a : Profiled) → profile_call table ≡ a → refusal_number a ≢ 0 → (profile_result table).threads ≡ pos 0
    unfolding profile_result profile_numbers profile_fields refusal_number threads_number
    refused_threads (Ok n) e z = absurd (z refl)
    refused_threads (Err ProfileRefusal.WrongLength) e z = rw e
    refused_threads (Err ProfileRefusal.WrongTable) e z = rw e
    refused_threads (Err ProfileRefusal.ForbiddenCall) e z = rw e
    refused_threads (Err ProfileRefusal.ManyThreads) e z = rw e

    pub profile_in_numbers : ProfileInNumbers table
    unfolding answer_with refusal_number
    profile_in_numbers = record {
      eight = (λ e. (length_iff table fit).0 (seen 8 e), λ d. shown (Err ProfileRefusal.WrongLength) ((length_iff table fit).1 d));
      nine = (
        λ e. let (l, none) = (table_iff table fit).0 (seen 9 e) in (l, λ file f. none file ((loads_so table file).1 f)),
        λ (l, none). shown (Err ProfileRefusal.WrongTable) ((table_iff table fit).1 (l, λ file f. none file ((loads_so table file).0 f))),
      );
      sixteen = (
        λ e. let (y, k) = (call_iff table fit).0 (seen 16 e) in (loaded_so.0 y, k),
        λ (y, k). shown (Err ProfileRefusal.ForbiddenCall) ((call_iff table fit).1 (loaded_so.1 y, k)),
      );
      seventeen = (
        λ e. let (y, f, b) = (threads_iff table fit).0 (seen 17 e) in (loaded_so.0 y, f, b),
        λ (y, f, b). shown (Err ProfileRefusal.ManyThreads) ((threads_iff table fit).1 (loaded_so.1 y, f, b)),
      );
      zero = (
        λ e. let (y, f, q, b) = (passes_iff table fit _).0 (seen 0 e) in (loaded_so.0 y, f, omega arith),
        λ (y, f, b). shown (Ok (definition_bound (table_of table) 0)) ((passes_iff table fit _).1 (loaded_so.1 y, f, refl, b)),
      );
      refused = λ n. refused_threads (profile_call table) refl (λ z. n (shown (profile_call table) refl ∙ ap pos z));
      threads = λ e. let q = seen 0 e in
          let (y, f, is, b) = (passes_iff table fit _).0 q in
          (passes_threads _ q ∙ ap pos is, omega (arith, (passes_some table fit _ q).0));
    }

-- ---- the pledge

-- a run that C sees ended for reason 2 ended for want of a thread row
lacked_so : (x : Ran) → (run_numbers x).reason ≡ pos 2 → (j : ℕ) × (t : ℕ) × (x ≡ Ok (j, LackedThread t))
unfolding run_numbers run_fields
lacked_so (Ok (j, r)) e = let (t, q) = two_is r e in (j, t, ap (λ w. Ok (j, w)) q)
lacked_so (Err g) e = clash cc

ends_so : (table state rights : List ℕ) (seat : ℕ) (k : Any) → ¬ EndsLackingAt table state rights seat k → NotTwo table state rights seat k
unfolding EndsLackingAt NotTwo run_result in_numbers
ends_so table state rights seat (on (step t)) f = tt
ends_so table state rights seat (on (give p v h)) f = tt
ends_so table state rights seat (on (take p)) f = tt
ends_so table state rights seat (on (run n)) f = λ e. f (lacked_so (seated_run table state rights seat n).answer e)
ends_so table state rights seat collect f = tt

found_so : (table state : List ℕ) (ks : List (AtSeat Any)) → NeverLacksAt table state ks → RowsFound table state ks
unfolding NeverLacksAt RowsFound Numbers.refusal_number
found_so table state [] n = tt
found_so table state (k ∷ ks) (n, m, rest) = (
  λ e. n (refused_by table state k.rights k.seat k.call Ground.ThreadRow e),
  ends_so table state k.rights k.seat k.call m,
  found_so table (left table state k) ks (rw (left_so table state k) rest),
)

-- of a table that C sees pass, and so is accepted
module _ (table : List ℕ) (fit : (i : ℕ) → get_or table i 0 < 256) (passes : (profile_result table).refusal ≡ pos 0)
    (state : List ℕ) (begun : (start_result table state).answer.refusal ≡ pos 0) (ks : List (AtSeat Any)) where
  pledged : (n : ℕ) → profile_call table ≡ Ok n → PledgeInNumbers table state ks
  pledged n e =
      let ok = (accepted_loads table fit).1 ((profile_in_numbers table fit).zero.0 passes).0 in
      let p = seated_accepted_pledge table fit n e state ((started_iff table ok state).0 begun) ks in
      record {
        rows_found = found_so table _ ks (rw (started_so table state) p.never_lacks);
        few_threads = λ m q. let z : pos n ≡ pos m = sym (passes_threads table fit n e) ∙ q in let same : n ≡ m = cc in
            rw (from_so table state ks, ← same) p.few_threads;
      }

  pub passed_pledge : PledgeInNumbers table state ks
  unfolding answer_with
  passed_pledge = pledged _ (seen table 0 passes)

-- ---- the theorem: of every file that C sees loaded, whose table C sees pass, and every buffer in which C sees it started
pub pledge_in_numbers : (file t : List ℕ) → (load_result file t).answer.refusal ≡ pos 0 → (profile_result (load_result file t).table).refusal ≡ pos 0
    → (state : List ℕ) → (start_result (load_result file t).table state).answer.refusal ≡ pos 0 → (ks : List (AtSeat Any))
    → PledgeInNumbers (load_result file t).table state ks
pledge_in_numbers file t e = passed_pledge (load_result file t).table (rw (table_so file t) (loaded_small file t (load_so file t e)))
