-- Document 02's comparison with the papers (S-4), of steps: what it asks of the sums of a choice, and what it says of a step then. `proofs/Compared.antt` has
-- the theorem.
use Rattle.std.specs.Prelude.{ℕ, ◌<◌, List}
use Rattle.table.specs.Table.{table_of}
use Rattle.table.specs.Layout.{branch_count}
use Rattle.state.specs.State.{view, thread, stands_at}
use Rattle.rules.specs.Program.{branch_at}
use Rattle.rules.specs.declared.Deed.{Deed}
use Rattle.published.specs.Agents.{Thread}
use Rattle.published.specs.Rules.{Ours}
use Rattle.published.specs.Fired.{Fired, ours_fire, SteppedBy}
use Rattle.published.specs.Unchecked.{unchecked_thread, unchecked_body, unchecked_agent, unchecked_fired}
use Rattle.published_laws.specs.Standing.{body_of, for_numbers, thread_of, agent_of}
use Rattle.published_laws.specs.Firing.{Tells}
use Rattle.published_laws.specs.Fitting.{TooFar}

module _ (table state : List ℕ) where
  -- every sum and difference of the choice at which thread t stands fits, whether its guard is true or not; at an end or a call there is none
  abbrev pub SumsFit : ℕ → Type 0
  SumsFit t =
      (i : ℕ) → i < branch_count (table_of table) (stands_at (thread (view state) t))
      → TooFar (table_of table) (branch_at (table_of table) (stands_at (thread (view state) t)) i) (thread (view state) t) → ⊥

  -- as `StepBy` of `proofs/Running.antt`, without the check: beside the bench b thread t's step, to the bytes `later`, is a turn of it, which ends with a rule that the
  -- answer d tells
  abbrev pub UncheckedStep : Thread → ℕ → Deed → List ℕ → Type 0
  UncheckedStep b t d later =
      (f : Fired) × Tells (table_of table) (view state) (view later) t d f
      × SteppedBy (unchecked_body (body_of (table_of table))) (Ours (unchecked_body (body_of (table_of table))) (for_numbers (table_of table)))
      (ours_fire (unchecked_body (body_of (table_of table))) (for_numbers (table_of table)))
      (unchecked_agent (agent_of (table_of table) b (view state))) (unchecked_thread (thread_of (table_of table) (thread (view state) t)))
      (unchecked_fired f) (unchecked_agent (agent_of (table_of table) b (view later)))
