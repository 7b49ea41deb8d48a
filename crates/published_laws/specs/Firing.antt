-- What the engine's moves are by 002's rules: which rule fires, by which branch, and with whom; what the answer to a step says of it; and the
-- turns of a run.
use Rattle.std.specs.Prelude.{ℕ, suc, ◌-◌, ◌≡◌, ◌⊎◌, true, false, List}
use Rattle.numbers.specs.Search.{tabulate}
use Rattle.table.specs.Table.{Table}
use Rattle.table.specs.Layout.{branch_count}
use Rattle.state.specs.State.{State, thread, stands_at, in_use, is_waiting}
use Rattle.rules.specs.Program.{branch_at, child_of, act_of, opposite}
use Rattle.rules.specs.Moves.{move, resumed, side_of}
use Rattle.rules.specs.Calls.{next_ready, course_of}
use Rattle.rules.specs.declared.Direction.{Direction}
use Rattle.rules.specs.declared.Direction.TheVariants.{Out, In}
use Rattle.rules.specs.declared.Act.{Act}
use Rattle.rules.specs.declared.Act.TheVariants.{Tau, Meeting, New, Spawn, Assignment}
use Rattle.rules.specs.declared.Move.{Move}
use Rattle.rules.specs.declared.Move.TheVariants.{Ends, Calls, Waits, Goes, Creates, Spawns, Meets, LacksThread, LacksChannel}
use Rattle.rules.specs.declared.Deed.{Deed}
use Rattle.rules.specs.declared.Deed.TheVariants.{Ended, Called, Waited, Took, TookWith}
use Rattle.published.specs.Agents.{Commitment, Thread}
use Rattle.published.specs.Fired.{Rule, by_inert, by_call, by_step, by_new, by_spawn, by_send, by_recv, by_passing, by_assigns, Fired, fired, Had}
use Rattle.published_laws.specs.Standing.{thread_of}
use Rattle.published_laws.specs.Commitments.{pledged}

-- a thread that goes on alone, by its act: an assignment, or else a tau
unfoldable pub going_rule : Act → Rule
going_rule Tau = by_step
going_rule (Meeting d) = by_step
going_rule New = by_step
going_rule Spawn = by_step
going_rule Assignment = by_assigns

-- at a meeting the thread sends or receives
unfoldable pub meeting_rule : Direction → Thread → Commitment → Rule
meeting_rule Out = by_send
meeting_rule In = by_recv

module _ (tb : Table) (s : State) (t : ℕ) where
  -- branch i does this
  abbrev act_by : ℕ → Act
  act_by i = act_of tb (branch_at tb (stands_at (thread s t)) i)

  -- what a move of thread t ends with. To wait is to pass over every branch, the last one last. A move that lacks a row is refused: nothing fires, and no
  -- theorem speaks of it
  unfoldable pub fired_by : Move → Fired
  fired_by Ends = fired 0 by_inert
  fired_by Calls = fired 0 by_call
  fired_by Waits = fired (branch_count tb (stands_at (thread s t)) - 1) by_passing
  fired_by (Goes i) = fired i (going_rule (act_by i))
  fired_by (Creates i c) = fired i (by_new c)
  fired_by (Spawns i u) =
      fired i (by_spawn (thread_of tb (resumed (thread s t) (child_of tb (stands_at (thread s t)) (branch_at tb (stands_at (thread s t)) i)))))
  fired_by (Meets i u j) =
      fired i (meeting_rule (side_of (act_by i)) (thread_of tb (thread s u))
      (pledged tb (thread s u) (opposite (side_of (act_by i))) (branch_at tb (stands_at (thread s u)) j)))
  fired_by LacksThread = fired 0 by_passing
  fired_by LacksChannel = fired 0 by_passing

-- the thread u that an answer names was free, and is the child then; or it waited, and (send) or (recv) used a commitment of it
unfoldable pub TellsWith : Table → State → State → ℕ → Rule → Type 0
TellsWith tb s after u r =
    ((in_use (thread s u) ≡ false) × (r ≡ by_spawn (thread_of tb (thread after u))))
    ⊎ ((is_waiting (thread s u) ≡ true)
    × ((k : Commitment) × ((r ≡ by_send (thread_of tb (thread s u)) k) ⊎ (r ≡ by_recv (thread_of tb (thread s u)) k))))

-- what the answer to a step of thread t says of the rule, where s is the state before it and after the state behind it
unfoldable pub Tells : Table → State → State → ℕ → Deed → Fired → Type 0
Tells tb s after t Ended f = f.rule ≡ by_inert
Tells tb s after t Called f = f.rule ≡ by_call
Tells tb s after t Waited f = (f.rule ≡ by_passing) × (suc f.branch ≡ branch_count tb (stands_at (thread s t)))
Tells tb s after t (Took i) f = (f.branch ≡ i) × ((f.rule ≡ by_step) ⊎ ((f.rule ≡ by_assigns) ⊎ ((ĉ : ℕ) × (f.rule ≡ by_new ĉ))))
Tells tb s after t (TookWith i u) f = (f.branch ≡ i) × TellsWith tb s after u f.rule

-- ---- the turns of a run

-- the turn that a run makes in state s: its thread is the first that is ready, from the turn on and around
unfoldable pub next_had : Table → State → Had
next_had tb s = record { who = thread_of tb (thread s (next_ready s)); does = fired_by tb s (next_ready s) (move tb s (next_ready s)) }

-- the first k turns of a run from s: before turn i a run of i steps has been made
unfoldable pub had_in : Table → State → ℕ → List Had
had_in tb s k = tabulate k (λ i. next_had tb (course_of tb i s).state)
