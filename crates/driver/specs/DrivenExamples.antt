-- Lists of words as calls and answers, by computation. Assumes nothing.
use Rattle.std.specs.Prelude.{◌≡◌, refl, [], ◌∷◌, ◌≢◌}
use Rattle.numbers.specs.Tests.{clash}
use Rattle.engine_laws.specs.Lists.{step, run}
use Rattle.guarantee.specs.Claim.{on, collect}
use Rattle.driver.specs.Encoding.{call_by, part_of, seated_by, called_by, written_from}

-- four bytes stand for the lists of rights. A step of thread 5 at seat 2 with the first two of them, a run of 2 steps (the upper bits of its number do not
-- count) at seat 7 with the last one, since there is no more behind it, and a collection by an unknown code at a seat that there is not, with no list; five words
-- are left
pub three_calls : called_by (11 ∷ 12 ∷ 13 ∷ 14 ∷ []) (0 ∷ 5 ∷ 9 ∷ 2 ∷ 0 ∷ 2 ∷ 3 ∷ 65538 ∷ 0 ∷ 7 ∷ 3 ∷ 288 ∷ 77 ∷ 1 ∷ 1 ∷ 8 ∷ 9 ∷ 9 ∷ 0 ∷ 8 ∷ 0 ∷ 0 ∷ 0 ∷ [])
    ≡ record { rights = 11 ∷ 12 ∷ []; seat = 2; call = on (step 5) }
    ∷ record { rights = 14 ∷ []; seat = 7; call = on (run 2) }
    ∷ record { rights = []; seat = 8; call = collect }
    ∷ []
unfolding called_by seated_by part_of call_by
three_calls = refl

-- the code tells calls apart
pub codes_differ : call_by 0 1 0 ≢ call_by 2 1 0
unfolding call_by
codes_differ e = clash cc

-- what does not fit is not written
pub cut_off : written_from (4 ∷ 5 ∷ 6 ∷ []) 1 (7 ∷ 8 ∷ 9 ∷ []) ≡ 4 ∷ 7 ∷ 8 ∷ []
unfolding written_from
cut_off = refl
