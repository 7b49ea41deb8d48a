-- What a write answers: how many bytes the file has, or why there is none.
use Rattle.std.specs.Prelude.{ℕ, Result}
use Rattle.writer.specs.declared.WriteRefusal.{WriteRefusal}

abbrev pub Written : Type 0
Written = Result ℕ WriteRefusal
