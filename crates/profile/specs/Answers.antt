-- What the check of a table answers: how many threads its procedure can come to have, or why it does not pass.
use Rattle.std.specs.Prelude.{ℕ, Result}
use Rattle.profile.specs.declared.ProfileRefusal.{ProfileRefusal}

abbrev pub Profiled : Type 0
Profiled = Result ℕ ProfileRefusal
