-- What the branch in a row offers on one channel. `Offer/Laws.antt` ties it to the rules' `offers_in`.
pub mod Laws
use Rattle.std.specs.Prelude.{ℕ, Bool, false, ◌&&◌, cond, List, eqb, None, Option, Some}
use Rattle.table.specs.Table.{Table}
use Rattle.state.specs.State.{slot_of}
use Rattle.rules.specs.Program.{field_a, act_of, guard_holds, same}
use Rattle.rules.specs.declared.Direction.{Direction}
use Rattle.rules.specs.declared.Act.{Act}
use Rattle.rules.specs.declared.Act.TheVariants.{Tau, Meeting, New, Spawn, Assignment}

-- an act offers if it is a meeting
unfoldable pub offer_of : Act → Option Direction
offer_of Tau = None
offer_of (Meeting d) = Some d
offer_of New = None
offer_of Spawn = None
offer_of Assignment = None

-- on channel c the branch in row r, of a thread's row, offers what its act is, if it names that channel and its guard is true
unfoldable pub offer_on : Table → List ℕ → ℕ → ℕ → Option Direction
offer_on tb row c r = cond (eqb (slot_of row (field_a tb r)) c && guard_holds tb r row) (offer_of (act_of tb r)) None

-- an offer is one of direction d
unfoldable pub is_of : Option Direction → Direction → Bool
is_of None d = false
is_of (Some e) d = same e d
