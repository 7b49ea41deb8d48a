-- The other direction of the refinement, over the bytes that the bench software sees: every whole turn by 002's rules of a thread whose step is done. Assumes
-- nothing.
use Rattle.std.specs.Prelude.{ℕ, ◌<◌, ◌≡◌, true, List, get_or, Ok}
use Rattle.std.proofs.Common.{ltb-true}
use Rattle.numbers.specs.Tests.{parts}
use Rattle.table.specs.Table.{Table, table_of}
use Rattle.loader.specs.Load.{accepted}
use Rattle.state.specs.State.{State, max_threads, view, thread, stands_at, is_ready}
use Rattle.rules.specs.Moves.{move}
use Rattle.rules.specs.Calls.{can_step, step_call}
use Rattle.rules.specs.declared.Deed.{Deed}
use Rattle.rules_laws.specs.Granted.{Granted}
use Rattle.rules_laws.specs.Accepted.{granted}
use Rattle.rules_laws.specs.Soundness.{Sound}
use Rattle.engine_laws.specs.Buffers.{SoundBuffer, view_sound}
use Rattle.published.specs.Agents.{Thread, Agent}
use Rattle.published.specs.Rules.{Reclaims, Many}
use Rattle.published.specs.Whole.{WholeTurn, Is, UpTo}
use Rattle.published_laws.specs.Readable.{Readable, readable}
use Rattle.published_laws.specs.Standing.{body_of, for_numbers, thread_of, agent_of}
use Rattle.published_laws.specs.Products.{Bench}
use Rattle.published_laws.specs.Conversely.{Settled}
use Rattle.published_laws.proofs.Conversely.{step_conversely, step_exactly}
use Rattle.published_laws.proofs.Running.{done_allowed, step_did}

may_step : (s : State) (t : ℕ) → can_step s t ≡ true → (t < max_threads) × (is_ready (thread s t) ≡ true)
unfolding can_step
may_step s t y = (ltb-true t max_threads (search parts), search parts)

module _ (table : List ℕ) (ok : accepted table ≡ true) (fit : (i : ℕ) → get_or table i 0 < 256) (state : List ℕ) (sb : SoundBuffer table state) where
  abbrev tb : Table
  tb = table_of table

  g : Granted tb
  g = granted table ok fit

  rd : Readable tb
  rd = readable table ok fit

  sound : Sound tb (view state)
  sound = view_sound table state sb

  -- the whole turn of a step that is done ends, up to what 002 leaves open, in an agent that uses of (reclaim) take to that of the bytes after the call
  pub step_call_conversely : (b : Thread) → Bench (table_of table) b → (t k : ℕ) (d : Deed) → (step_call table state t).answer ≡ Ok (k, d) → (T : Agent)
      → WholeTurn (body_of (table_of table)) (agent_of (table_of table) b (view state)) (thread_of (table_of table) (thread (view state) t)) T
      → (E : Agent) × UpTo (body_of (table_of table)) (for_numbers (table_of table)) (agent_of (table_of table) b (view state))
      (thread_of (table_of table) (thread (view state) t)) T E
      × Many Reclaims E (agent_of (table_of table) b (view (step_call table state t).state))
  step_call_conversely b bn t k d e T h =
      let (c, a, q) = step_did table ok fit state sb t k d e in
      let (l, ready) = may_step (view state) t c in
      let z = done_allowed (stands_at (thread (view state) t)) (move tb (view state) t) k d a in
      rw q (step_conversely tb g rd (view state) sound t l ready b bn z T h)

  -- where 002 leaves nothing open, it ends in such an agent itself, its threads in some order
  pub step_call_exactly : (b : Thread) → Bench (table_of table) b → (t k : ℕ) (d : Deed) → (step_call table state t).answer ≡ Ok (k, d)
      → Settled (table_of table) b (view state) t (move (table_of table) (view state) t) → (T : Agent)
      → WholeTurn (body_of (table_of table)) (agent_of (table_of table) b (view state)) (thread_of (table_of table) (thread (view state) t)) T
      → (E : Agent) × Is T E.channels E.threads × Many Reclaims E (agent_of (table_of table) b (view (step_call table state t).state))
  step_call_exactly b bn t k d e z T h =
      let (c, a, q) = step_did table ok fit state sb t k d e in
      let (l, ready) = may_step (view state) t c in
      rw q (step_exactly tb g rd (view state) sound t l ready b bn z T h)
