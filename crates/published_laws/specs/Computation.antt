-- What the bench, as a thread, does in a list of calls: in their order what its gives and takes do. `proofs/Computation.antt` has the theorem.
use Rattle.rules.specs.Answers.{Given, Taken}
use Rattle.std.specs.Prelude.{ℕ, Err, None, Ok, Option, Some}
use mathlib.Core.List.{List, [], ◌∷◌}
use Rattle.table.specs.Table.{table_of, ports}
use Rattle.state.specs.State.{view}
use Rattle.rules.specs.Calls.{give_call, take_call}
use Rattle.engine_laws.specs.Lists.{step, give, take, run}
use Rattle.guarantee.specs.Claim.{Any, on, collect, after_any}
use Rattle.published.specs.Syntax.{Process, choice, nothing, branch, always, output, input, assign, constant}
use Rattle.published.specs.Agents as Agents
use Rattle.published.specs.Agents.{Value, Thread}
use Rattle.published.specs.Rules.{Reaches}
use Rattle.published_laws.specs.Standing.{body_of, agent_of, OurRules}
use Rattle.published_laws.specs.Benches.{ports_and}

-- on port p, with its variable `own`, before it goes on with E. A give that meets a thread: it sets its variable to the number v and sends it
module _ (own p : ℕ) where
  unfoldable pub giving : ℕ → Given → Process → Process
  giving v (Ok (Some u)) E = choice (branch always (assign own (constant v)) (choice (branch always (output p own) E nothing)) nothing)
  giving v (Ok None) E = E
  giving v (Err r) E = E

  -- a take that meets one: it receives into its variable
  unfoldable pub taking : Taken → Process → Process
  taking (Ok (Some (u, v))) E = choice (branch always (input p own) E nothing)
  taking (Ok None) E = E
  taking (Err r) E = E

-- what its variable has then: the number that was given, or that the take answers
unfoldable pub number_given : ℕ → Given → Option Value → Option Value
number_given v (Ok (Some u)) o = Some (Agents.number v)
number_given v (Ok None) o = o
number_given v (Err r) o = o

unfoldable pub number_taken : Taken → Option Value → Option Value
number_taken (Ok (Some (u, v))) o = Some (Agents.number v)
number_taken (Ok None) o = o
number_taken (Err r) o = o

module _ (table : List ℕ) where
  -- in one call; it has no part in a step, a run and a collection
  unfoldable pub bench_call : List ℕ → Any → Process → Process
  bench_call state (on (step t)) E = E
  bench_call state (on (give p v h)) E = giving (ports (table_of table)) p v (give_call table state p v).answer E
  bench_call state (on (take p)) E = taking (ports (table_of table)) p (take_call table state p).answer E
  bench_call state (on (run n)) E = E
  bench_call state collect E = E

  unfoldable pub number_call : List ℕ → Any → Option Value → Option Value
  number_call state (on (step t)) o = o
  number_call state (on (give p v h)) o = number_given v (give_call table state p v).answer o
  number_call state (on (take p)) o = number_taken (take_call table state p).answer o
  number_call state (on (run n)) o = o
  number_call state collect o = o

  -- what the bench does in a list of calls
  unfoldable pub bench_for : List ℕ → List Any → Process → Process
  bench_for state [] E = E
  bench_for state (k ∷ ks) E = bench_call state k (bench_for (after_any table state k) ks E)

  unfoldable pub number_after : List ℕ → List Any → Option Value → Option Value
  number_after state [] o = o
  number_after state (k ∷ ks) o = number_after (after_any table state k) ks (number_call state k o)

  -- the bench, about to do E
  abbrev pub bench_at : Option Value → Process → Thread
  bench_at o E = Agents.thread [] (ports_and (table_of table) o) E

  -- from the buffer state to the buffer later, where the bench does E and then E', and its variable has o and then o'
  abbrev pub Leads : List ℕ → List ℕ → Option Value → Process → Option Value → Process → Type 0
  Leads state later o E o' E' =
      Reaches (body_of (table_of table)) (OurRules (table_of table)) (agent_of (table_of table) (bench_at o E) (view state))
      (agent_of (table_of table) (bench_at o' E') (view later))
