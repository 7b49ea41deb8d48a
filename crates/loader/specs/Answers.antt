-- What is answered of a file: `Ok` where there is no fault, or `Err` with the lowest ground and its first line; and what a load answers.
use Rattle.std.specs.Prelude.{ℕ, Result}
use Rattle.loader.specs.declared.Ground.{Ground}
use Rattle.loader.specs.declared.LoadRefusal.{LoadRefusal}

abbrev pub Verdict : Type 0
Verdict = Result (Unit {0}) (Ground × ℕ)

abbrev pub Loaded : Type 0
Loaded = Result (Unit {0}) LoadRefusal
