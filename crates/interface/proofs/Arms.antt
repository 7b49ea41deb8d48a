-- The numbers of an answer. Assumes nothing.
use Rattle.writer.specs.declared.WriteRefusal.TheVariants as WriteRefusal
use Rattle.profile.specs.declared.ProfileRefusal.TheVariants as ProfileRefusal
use Rattle.std.specs.Prelude.{Ok, Err}
use Rattle.std.specs.Result.{result_unwrap_or}
use Prim.Native.Nat.{ℕ}
use mathlib.Core.Path.{◌≡◌, refl}
use lib.IntN.{ℤ}
use mir.Syntax.{w32}
use mir.Val.{Fits, to_z, of_z}
use mir.Facts.{of_z-to_z}
use Rattle.writer.specs.Answers.{Written}
use Rattle.writer.specs.Write.{bytes_number}
use Rattle.profile.specs.Answers.{Profiled}
use Rattle.profile.specs.Profile.{threads_number}

-- the number of a pattern, as an answer has it
pub signed_back : (x : ℕ) (v : ℤ) → v ≡ to_z w32 x → Fits w32 x → to_z w32 (of_z w32 v) ≡ to_z w32 x
signed_back x v e f = rw (e, of_z-to_z f)

-- where a write or the check of a table is refused, its number is 0
pub bytes_is : (a : Written) → result_unwrap_or a 0 ≡ bytes_number a
unfolding bytes_number
bytes_is (Ok n) = refl
bytes_is (Err WriteRefusal.WrongLength) = refl
bytes_is (Err WriteRefusal.WrongTable) = refl
bytes_is (Err WriteRefusal.ShortBuffer) = refl

pub threads_is : (a : Profiled) → result_unwrap_or a 0 ≡ threads_number a
unfolding threads_number
threads_is (Ok n) = refl
threads_is (Err ProfileRefusal.WrongLength) = refl
threads_is (Err ProfileRefusal.WrongTable) = refl
threads_is (Err ProfileRefusal.ForbiddenCall) = refl
threads_is (Err ProfileRefusal.ManyThreads) = refl
