-- What a delivered call comes to by 002's rules, said of the bytes that it leaves. `proofs/Running.antt` shows it of the calls.
use Rattle.std.specs.Prelude.{ℕ, List}
use Rattle.table.specs.Table.{table_of}
use Rattle.state.specs.State.{view, thread}
use Rattle.rules.specs.declared.Deed.{Deed}
use Rattle.published.specs.Agents.{Thread}
use Rattle.published.specs.Fired.{Fired, SteppedBy}
use Rattle.published.specs.Collections.{Collects}
use Rattle.published_laws.specs.Standing.{body_of, thread_of, agent_of, OurRules, OurLabels}
use Rattle.published_laws.specs.Firing.{Tells}
use Rattle.published_laws.specs.Reclaims.{freed_channels}
use Rattle.published_laws.specs.Collecting.{freed_threads}

-- from the bytes of a table and a state, beside the bench b
module _ (table state : List ℕ) (b : Thread) where
  -- thread t's step, to the bytes `later`: a turn of it, which ends with a rule that the answer d tells
  abbrev pub StepBy : ℕ → Deed → List ℕ → Type 0
  StepBy t d later =
      (f : Fired) × Tells (table_of table) (view state) (view later) t d f
      × SteppedBy (body_of (table_of table)) (OurRules (table_of table)) (OurLabels (table_of table)) (agent_of (table_of table) b (view state))
      (thread_of (table_of table) (thread (view state) t)) f (agent_of (table_of table) b (view later))

  -- a collection, to the bytes `later`: (stuck) takes the threads of the rows that are in use before and free after, all at once, and then (reclaim) takes each
  -- of the channels that are in use before and free after
  abbrev pub CollectedTo : List ℕ → Type 0
  CollectedTo later =
      Collects (freed_threads (table_of table) (view state) (view later)) (freed_channels (view state) (view later))
      (agent_of (table_of table) b (view state)) (agent_of (table_of table) b (view later))
