-- The pledge of the rental-shop profile (document 02, S-3), on every list of calls from the start of a file that loads and passes. This file says it and
-- `Proof.antt` shows it: what a reader must believe is here, and in the definitions that are named here.
use Rattle.std.specs.Prelude.{ℕ, ◌≤◌, ◌≡◌, List, [], ◌∷◌, Ok}
use Rattle.numbers.specs.Count.{count}
use Rattle.state.specs.State.{State, view, in_use}
use Rattle.rules.specs.Calls.{start_call, run_call}
use Rattle.rules.specs.declared.Refusal.TheVariants as Ground
use Rattle.rules.specs.declared.Reason.TheVariants.{LackedThread}
use Rattle.engine_laws.specs.Lists.{step, give, take, run}
use Rattle.guarantee.specs.Claim.{Any, on, collect, after_any, reached_by, RefusedBy}

-- how many threads there are: the thread rows in use
unfoldable pub threads_in : State → ℕ
threads_in s = count in_use s.threads

-- a run ends for want of a thread row, after some j steps and with some thread t held up. Other calls do not end so
unfoldable pub EndsLacking : List ℕ → List ℕ → Any → Type 0
EndsLacking table state (on (step t)) = ⊥
EndsLacking table state (on (give p v h)) = ⊥
EndsLacking table state (on (take p)) = ⊥
EndsLacking table state (on (run n)) = (j : ℕ) × (t : ℕ) × ((run_call table state n).answer ≡ Ok (j, LackedThread t))
EndsLacking table state collect = ⊥

-- no call of a list, on the bytes that the calls before it leave, lacks a thread row: none is refused on ground 13, and no run ends for that reason
unfoldable pub NeverLacks : List ℕ → List ℕ → List Any → Type 0
NeverLacks table state [] = Unit
NeverLacks table state (k ∷ ks) =
    (¬ RefusedBy table state k Ground.ThreadRow) × (¬ EndsLacking table state k) × NeverLacks table (after_any table state k) ks

-- ---- the pledge, of a table whose check answers n, a buffer for the state and a list of calls
pub record Pledge (table state : List ℕ) (n : ℕ) (ks : List Any) : Type 0 where
  -- no call of the list lacks a thread row
  pub never_lacks : NeverLacks table (start_call table state).state ks
  -- after it there are at most n threads. The list may be any, and so this is said of each part with which it begins
  pub few_threads : threads_in (view (reached_by table state ks)) ≤ n
