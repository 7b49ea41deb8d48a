use Rattle.std.proofs.Common.{rules}
use native.Mathlib.Omega.{arith}
use Rattle.rules.specs.Calls.{is_ready_thread}
use Rattle.state.specs.State.{state_of}
use Rattle.next_rows.specs.UsedBelow.{top_le}
use Rattle.next_rows.proofs.Ways.{ready_found, ready_none}
use Rattle.next_rows.proofs.next_ready.Goals as goal

pub returns-then-u-top-clause-value : goal.returns-then-u-top-clause-value
returns-then-u-top-clause-value c =
    ready_found _ _ c.requires _ _ (c.first_around-u.ensures.value (is_ready_thread (state_of c.args.state.now)) (λ i b l k. search rules)) (search rules) c.if-u-top.true

pub returns-then-u-top-clause-upper_bound : goal.returns-then-u-top-clause-upper_bound
returns-then-u-top-clause-upper_bound c = omega (arith, top_le _ _ c.requires)

pub returns-else-u-top-clause-value : goal.returns-else-u-top-clause-value
returns-else-u-top-clause-value c =
    ready_none _ _ c.requires _ _ (c.first_around-u.ensures.value (is_ready_thread (state_of c.args.state.now)) (λ i b l k. search rules)) (search rules) c.if-u-top.false
