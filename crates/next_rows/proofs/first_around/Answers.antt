use Rattle.std.proofs.Math.Path.{refl}
use Rattle.next_rows.specs.Around.{around_near, around_far}
use Rattle.next_rows.proofs.first_around.Goals as goal

pub returns-then-i-n-clause-value : goal.returns-then-i-n-clause-value
returns-then-i-n-clause-value g c = λ p says. around_near _ _ p _ _ (c.first_from-i.ensures.value p says) refl c.if-i-n.true

pub returns-clause-value : goal.returns-clause-value
returns-clause-value g c = λ p says. around_far _ _ p _ _ (c.first_from-i.ensures.value p says) refl _ (c.first_from.ensures.value p says) c.if-i-n.false
