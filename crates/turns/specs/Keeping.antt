-- Meetings after which no count of holders is to be moved, since a number is given.
pub mod Laws
use Rattle.std.specs.Prelude.{ℕ, ◌<◌, ◌≡◌, ◌≢◌, true, Some}
use Rattle.table.specs.Table.{Table, ports}
use Rattle.state.specs.State.{State, max_threads, thread, stands_at}
use Rattle.rules.specs.Offers.{partner_of}
use Rattle.rules.specs.Moves.{written}
use Rattle.rules.specs.Calls.{bench}
use Rattle.rules.specs.declared.Direction.{Direction}
use Rattle.rules.specs.declared.Move.TheVariants.{Meets}
use Rattle.meetings.specs.Sides.{Facing}
use Rattle.turns.specs.Running.{MoveMade}
use Rattle.turns.specs.Weights.{number_by}

-- threads t and u can meet by their branches i and j: both are there, one sends and the other receives, and where a number is given the meeting is made once
-- their rows are written
pub record CanMeet (tb : Table) (s : State) (t i u j : ℕ) : Type 0 where
  pub thread_in : t < max_threads
  pub partner_in : u < max_threads
  pub other : u ≢ t
  pub facing : Facing tb s t i u j
  pub number_made : number_by tb (stands_at (thread s t)) i ≡ true → MoveMade tb s t (Meets i u j) (written tb s t (Meets i u j))

-- thread u answers the bench at a port by its branch j
unfoldable pub AtPort : Table → State → ℕ → ℕ → Type 0
AtPort tb s u j = (d : Direction) × (p : ℕ) × (p < ports tb) × (partner_of tb s bench d p ≡ Some (u, j))
