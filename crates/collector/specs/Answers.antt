-- What a collection answers: how many threads it took, or the ground on which it is refused.
use Rattle.std.specs.Prelude.{ℕ, Result}
use Rattle.rules.specs.declared.Refusal.{Refusal}

abbrev pub Collected : Type 0
Collected = Result ℕ Refusal
