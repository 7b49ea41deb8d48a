-- What a seat may do, in the words of document 02 (S-6): by the signed numbers of the list, nine for each seat. `Seats.antt` has it as the tests that code goes
-- by, on the patterns of these numbers; the theorems in `proofs/Seats/Entitled.antt` say that the tests are true exactly then.
use Rattle.std.specs.Prelude.{ℕ, ◌+◌, ◌*◌, ◌≤◌, ◌≡◌, ◌⊎◌, List, ℤ, pos}
use Rattle.std.proofs.Common.{to_z}
use Rattle.std.proofs.Math.ListN.{get_or}
use Rattle.std.specs.Int.{w32}
use Rattle.numbers.specs.Bytes.{words}
use Rattle.rules.specs.declared.Right.{Right}
use Rattle.rules.specs.declared.Right.TheVariants.{Take, Give, StepAndRun, Collect}

-- the signed number at place i of a list, counted from 0
abbrev pub number_at : List ℕ → ℕ → ℤ
number_at rights i = to_z w32 (get_or (words rights) i 0)

-- 1 grants the first of two things, 2 the second, and 3 both
abbrev pub OneOrThree : ℤ → Type 0
OneOrThree z = (z ≡ pos 1) ⊎ (z ≡ pos 3)

abbrev pub TwoOrThree : ℤ → Type 0
TwoOrThree z = (z ≡ pos 2) ⊎ (z ≡ pos 3)

-- there are the seats 0 to 7 and rights on the ports 0 to 7; the first eight numbers of a seat are for a take and a give at each port, and the ninth is for
-- steps and runs and for collections
unfoldable pub Entitled : List ℕ → ℕ → Right → Type 0
Entitled rights seat (Take p) = (seat ≤ 7) × (p ≤ 7) × OneOrThree (number_at rights (9 * seat + p))
Entitled rights seat (Give p) = (seat ≤ 7) × (p ≤ 7) × TwoOrThree (number_at rights (9 * seat + p))
Entitled rights seat StepAndRun = (seat ≤ 7) × OneOrThree (number_at rights (9 * seat + 8))
Entitled rights seat Collect = (seat ≤ 7) × TwoOrThree (number_at rights (9 * seat + 8))
