use Rattle.profile.specs.Finding.Calls.{allowed_own}
use Rattle.profile.proofs.node_allowed.Goals as goal

pub returns-then-callee-own : goal.returns-then-callee-own
returns-then-callee-own c =
    let call = c.if-own-callee.false.0 in
    let low = c.if-own-callee.false.1 in
    search allowed_own
