-- With which moves 002 leaves nothing open, and what it says that a turn ends as the engine's step does. `proofs/Conversely.antt` has the theorems.
use Prim.Native.Nat.{ℕ}
use Rattle.table.specs.Table.{Table}
use Rattle.state.specs.State.{State, thread}
use Rattle.rules.specs.Moves.{written}
use Rattle.rules.specs.declared.Move.{Move}
use Rattle.rules.specs.declared.Move.TheVariants.{Ends, Calls, Waits, Goes, Creates, Spawns, Meets, LacksThread, LacksChannel}
use Rattle.rules_laws.specs.Chosen.{channel_by}
use Rattle.published.specs.Agents.{Thread, Agent}
use Rattle.published.specs.Whole.{Is}
use Rattle.published.specs.Sole.{Sole}
use Rattle.published_laws.specs.Standing.{agent_of}
use Rattle.published_laws.specs.Stepping.{Plain}

-- the moves of thread t with which 002 leaves nothing open, and to which document 01 adds nothing: an end, a call of a definition without numbers besides its
-- parameters, a wait with no guard that is false, a branch taken alone, a new thread, and a meeting by the one commitment that there is on the channel
module _ (tb : Table) (b : Thread) (s : State) (t : ℕ) where
  unfoldable pub Settled : Move → Type 0
  Settled Ends = Unit {0}
  Settled Calls = Plain tb (thread s t) Calls
  Settled Waits = Plain tb (thread s t) Waits
  Settled (Goes i) = Unit {0}
  Settled (Creates i c) = ⊥
  Settled (Spawns i u) = Unit {0}
  Settled (Meets i u j) = Sole (agent_of tb b s).threads (channel_by tb s t i)
  Settled LacksThread = ⊥
  Settled LacksChannel = ⊥

module _ (tb : Table) (b : Thread) (s : State) (t : ℕ) (T : Agent) where
  -- the end is the agent of what the move writes, the threads in some order
  abbrev pub EndsSo : Move → Type 0
  EndsSo m = Is T (agent_of tb b (written tb s t m)).channels (agent_of tb b (written tb s t m)).threads
