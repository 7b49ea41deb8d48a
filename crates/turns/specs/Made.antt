-- The row of the thread that a move makes.
pub mod Laws
use Rattle.std.specs.Prelude.{◌<◌}
use Rattle.state.specs.State.{max_threads}
use Rattle.rules.specs.declared.Move.{Move}
use Rattle.rules.specs.declared.Move.TheVariants.{Ends, Calls, Waits, Goes, Creates, Spawns, Meets, LacksThread, LacksChannel}

-- the row of the thread that a move makes is there
unfoldable pub ChildIn : Move → Type 0
ChildIn Ends = Unit
ChildIn Calls = Unit
ChildIn Waits = Unit
ChildIn (Goes i) = Unit
ChildIn (Creates i c) = Unit
ChildIn (Spawns i u) = u < max_threads
ChildIn (Meets i u j) = Unit
ChildIn LacksThread = Unit
ChildIn LacksChannel = Unit
