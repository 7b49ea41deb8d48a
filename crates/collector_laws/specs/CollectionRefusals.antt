-- When a collection is refused, and that it then changes nothing. Of all buffers, of any length. Assumes nothing.
use Rattle.collector.specs.Answers.{Collected}
use Rattle.std.specs.Prelude.{ℕ, ◌≡◌, ◌↔◌, List, Err}
use Rattle.std.proofs.Math.Path.{ap}
use Rattle.numbers.specs.Tests.{clash}
use Rattle.table.specs.Table.{table_of}
use Rattle.state.specs.State.{view}
use Rattle.rules.specs.Calls.{Outcome, admission}
use Rattle.rules.specs.Calls.Laws.{call_refused, call_refusal}
use Rattle.rules.specs.declared.Refusal.{Refusal}
use Rattle.collector.specs.Collect.{collect_on, collect_call}

module _ (table state : List ℕ) where
  -- a collection has no grounds besides those of the admission, whose meaning is in `engine_laws/specs/Entry.antt`
  pub collect_refused_iff : (r : Refusal) → ((collect_call table state).answer ≡ Err r) ↔ (admission table state ≡ Err r)
  unfolding collect_call collect_on
  collect_refused_iff r = call_refusal Err table state (collect_on (table_of table) (view state)) (λ p q e. cc) r (λ e. clash cc)

  pub collect_refused_keeps : (r : Refusal) → (collect_call table state).answer ≡ Err r → (collect_call table state).state ≡ state
  unfolding collect_call
  collect_refused_keeps r e =
      ap (λ (o : Outcome Collected). o.state)
      (call_refused Err table state (collect_on (table_of table) (view state)) r ((collect_refused_iff r).0 e))
