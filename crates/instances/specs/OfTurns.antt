-- Theorems on turns at work (`published_laws/proofs/Running.antt`, `Wholly.antt`): the turns of a run of five steps from the start of a file, whose they are and
-- what they end with, answers that would be wrong, and a collection after it. Assumes nothing.
use Rattle.std.specs.Prelude.{ℕ, ◌≡◌, refl, true, List, [], ◌∷◌, Ok, None}
use Rattle.std.proofs.Common.{arith, ◌∙◌, inl, inr, ⊎_elim}
use Rattle.numbers.specs.Search.{tabulate, computing}
use Rattle.numbers.specs.Tests.{clash}
use Rattle.table.specs.Table.{Table, table_of}
use Rattle.loader_laws.specs.PrintedFile.{filled_up}
use Rattle.state.specs.State.{State, view, thread, is_ready}
use Rattle.rules.specs.Start.{started}
use Rattle.rules.specs.Moves.{move, written}
use Rattle.rules.specs.Calls.{next_ready, course_of, run_call}
use Rattle.rules.specs.declared.Move.TheVariants.{Creates}
use Rattle.rules.specs.declared.Deed.TheVariants.{Took, TookWith}
use Rattle.rules.specs.declared.Reason.TheVariants.{AllDone}
use Rattle.rules_laws.specs.Accepted.{granted}
use Rattle.engine_laws.specs.Buffers.{view_sound}
use Rattle.collector.specs.Collect.{collected, collect_call, seated_collect}
use Rattle.examples.specs.Builders.{waiting_at, channel_with, state_with}
use Rattle.examples.specs.Tables.{parting}
use Rattle.examples.specs.Computing.{running, collecting}
use Rattle.guarantee.specs.ClaimKept.{collect_view}
use Rattle.guarantee.specs.SeatedProof.{collected_plainly}
use Rattle.published.specs.Syntax.{end, waiting}
use Rattle.published.specs.Agents as Agents
use Rattle.published.specs.Agents.{refers, Thread, Agent}
use Rattle.published.specs.Fired.{by_new, by_passing, fired, Turns}
use Rattle.published.specs.Whole.{WholeTurn}
use Rattle.published.specs.Collections.{Collects, collects_these, collects_many}
use Rattle.published_laws.specs.Readable.{readable}
use Rattle.published_laws.specs.Standing.{channels_of, body_of, thread_of, agent_of, OurRules, OurLabels}
use Rattle.published_laws.specs.Products.{Bench}
use Rattle.published_laws.specs.Firing.{fired_by, TellsWith, Tells, next_had}
use Rattle.published_laws.specs.Benches.{ports_and, bench_is}
use Rattle.published_laws.specs.Reclaims.{those, freed_channels}
use Rattle.published_laws.specs.Collecting.{taken_then, taken_of, freed_threads}
use Rattle.published_laws.proofs.Running.{run_done, run_call_reduced, collect_call_reduced, seated_collect_reduced}
use Rattle.published_laws.specs.Stepping.{Plain}
use Rattle.published_laws.proofs.Wholly.{turn_whole}
use Rattle.instances.specs.Seating.{shop}
use Rattle.instances.specs.OfSeats.{leader_collects}
use Rattle.instances.specs.Parting.{tb, table, accepts, small, held_table, state_after, begun, begun_sound, begun_view, bytes_after, bytes_sound, bytes_view}

-- ---- the file `parting`: thread 0 makes a channel, spawns thread 1, which receives on the channel, makes another channel in the place of the first, and
-- receives on the port; beside it a bench that does nothing

abbrev pub idle : Thread
idle = Agents.thread [] (ports_and (table_of table) None) end

pub idle_bench : Bench (table_of table) idle
unfolding refers waiting
idle_bench = bench_is (table_of table) None (λ c. refl) end refl

-- ---- a run of five steps

five_steps : ((course_of tb 5 (started tb)).steps ≡ 5) × ((course_of tb 5 (started tb)).reason ≡ AllDone)
unfolding running
five_steps = (refl, refl)

pub run_five : (run_call table begun 5).answer ≡ Ok (5, AllDone)
run_five = run_done table accepts small begun begun_sound 5 ∙ rw (held_table, begun_view, five_steps.0, five_steps.1)

-- the run of five steps is five turns
pub five_turns : Turns (body_of (table_of table)) (OurRules (table_of table)) (OurLabels (table_of table))
    (tabulate 5 (λ i. next_had (table_of table) (view (run_call table begun i).state)))
    (agent_of (table_of table) idle (view begun)) (agent_of (table_of table) idle (view (run_call table begun 5).state))
five_turns = run_call_reduced table accepts small begun begun_sound idle idle_bench 5 5 AllDone run_five

-- the five turns are of these threads
pub whose_turns : tabulate 5 (λ i. next_ready (state_after i)) ≡ 0 ∷ 0 ∷ 1 ∷ 0 ∷ 0 ∷ []
unfolding running state_after
whose_turns = refl

-- the first turn ends with (new) by branch 0, which makes channel 1; the third, of thread 1, passes over its one branch
pub first_makes : (next_had (filled_up parting) (started (filled_up parting))).does ≡ fired 0 (by_new 1)
unfolding running next_had fired_by
first_makes = refl

pub third_waits : (next_had (filled_up parting) (state_after 2)).does ≡ fired 0 by_passing
unfolding running state_after next_had fired_by
third_waits = refl

-- an answer that named another branch, or a partner, would not tell of the first
pub not_second_branch : (x : Table) (s later : State) → Tells x s later 0 (Took 1) (fired 0 (by_new 1)) → ⊥
unfolding Tells
not_second_branch x s later (e, p) = let z : ⊥ = omega arith in z

pub not_with_partner : (x : Table) (s later : State) (u : ℕ) → Tells x s later 0 (TookWith 0 u) (fired 0 (by_new 1)) → ⊥
unfolding Tells TellsWith
not_with_partner x s later u (e, inl (f, q)) = clash cc
not_with_partner x s later u (e, inr (f, (k, inl q))) = clash cc
not_with_partner x s later u (e, inr (f, (k, inr q))) = clash cc

-- ---- a collection after it: (stuck) takes thread 1, and then (reclaim) takes channel 1, which thread 1 alone knew

-- the agents before it and after it
abbrev pub parting_agent : Agent
parting_agent = agent_of (table_of table) idle (view (bytes_after 5))

abbrev pub collected_agent : Agent
collected_agent = agent_of (table_of table) idle (view (collect_call table (bytes_after 5)).state)

-- the states that the bytes hold: the bench and both threads know the port; thread 1 alone knows channel 1, on which it waits, and thread 0 channel 2
abbrev parted : State
parted =
    state_with (2 ∷ 3 ∷ 1 ∷ []) (waiting_at 3 (0 ∷ 2 ∷ 0 ∷ []) ∷ waiting_at 4 (0 ∷ 1 ∷ 0 ∷ []) ∷ [])
    (channel_with 1 3 2 ∷ channel_with 1 1 1 ∷ channel_with 1 1 1 ∷ [])

abbrev left : State
left = state_with (2 ∷ 3 ∷ 1 ∷ []) (waiting_at 3 (0 ∷ 2 ∷ 0 ∷ []) ∷ []) (channel_with 1 2 1 ∷ channel_with 0 0 0 ∷ channel_with 1 1 1 ∷ [])

states_are : (state_after 5 ≡ parted) × (collected (filled_up parting) parted ≡ left)
unfolding collecting state_after
states_are = (refl, refl)

freed : (freed_threads (filled_up parting) parted left ≡ thread_of (filled_up parting) (thread parted 1) ∷ []) × (freed_channels parted left ≡ 1 ∷ [])
unfolding computing freed_threads taken_of taken_then freed_channels those channels_of
freed = (refl, refl)

parted_view : view (bytes_after 5) ≡ parted
parted_view = bytes_view 5 ∙ states_are.0

left_view : view (collect_call table (bytes_after 5)).state ≡ left
left_view = collect_view table accepts small (bytes_after 5) (bytes_sound 5) ∙ rw (held_table, parted_view) states_are.1

-- the row and the channel that the call frees, read off the bytes
pub child_freed : freed_threads (table_of table) (view (bytes_after 5)) (view (collect_call table (bytes_after 5)).state)
    ≡ thread_of (table_of table) (thread (view (bytes_after 5)) 1) ∷ []
child_freed = rw (left_view, held_table, parted_view) freed.0

pub channel_freed : freed_channels (view (bytes_after 5)) (view (collect_call table (bytes_after 5)).state) ≡ 1 ∷ []
channel_freed = rw (left_view, parted_view) freed.1

pub run_collected : Collects (thread_of (table_of table) (thread (view (bytes_after 5)) 1) ∷ []) (1 ∷ []) parting_agent collected_agent
run_collected = rw (child_freed, channel_freed) at (collect_call_reduced table accepts small (bytes_after 5) (bytes_sound 5) idle idle_bench)

-- the same of the leader's call at seat 0
pub leader_collected : Collects (thread_of (table_of table) (thread (view (bytes_after 5)) 1) ∷ []) (1 ∷ []) parting_agent
    (agent_of (table_of table) idle (view (seated_collect table (bytes_after 5) shop 0).state))
leader_collected =
    let plainly = collected_plainly table (bytes_after 5) shop 0 1 leader_collects in
    rw (
      (let e : freed_threads (table_of table) (view (bytes_after 5)) (view (seated_collect table (bytes_after 5) shop 0).state)
          ≡ thread_of (table_of table) (thread (view (bytes_after 5)) 1) ∷ [] = rw plainly child_freed in e),
      (let e : freed_channels (view (bytes_after 5)) (view (seated_collect table (bytes_after 5) shop 0).state) ≡ 1 ∷ [] = rw plainly channel_freed in e),
    ) at (seated_collect_reduced table accepts small (bytes_after 5) (bytes_sound 5) idle idle_bench shop 0 1 leader_collects)

-- a collection that reclaimed no channel, or another one, or that took no thread, would not lead from the one to the other
pub not_none_reclaimed : (G : List Thread) → ¬ Collects G [] parting_agent collected_agent
not_none_reclaimed G h = (collects_these h 1).1 ((collects_these run_collected 1).0 (inl refl))

pub not_another : (G : List Thread) → ¬ Collects G (2 ∷ []) parting_agent collected_agent
not_another G h = ⊎_elim (λ e. omega arith) (λ z. z) ((collects_these run_collected 2).1 ((collects_these h 2).0 (inl refl)))

pub not_nobody_taken : (cs : List ℕ) → ¬ Collects [] cs parting_agent collected_agent
not_nobody_taken cs h = omega (arith, collects_many h, collects_many run_collected)

-- ---- the turn of thread 0 at the start, which makes a channel, is a whole turn: `proofs/Conversely.antt` speaks of it, and of those that give the channel another name

at_start : (is_ready (thread (started tb) 0) ≡ true) × (move tb (started tb) 0 ≡ Creates 0 1)
unfolding running
at_start = (refl, refl)

pub first_whole : WholeTurn (body_of (table_of table)) (agent_of (table_of table) idle (view begun)) (thread_of (table_of table) (thread (view begun) 0))
    (agent_of (table_of table) idle (written (table_of table) (view begun) 0 (move (table_of table) (view begun) 0)))
unfolding Plain
first_whole =
    turn_whole (table_of table) (granted table accepts small) (readable table accepts small) (view begun)
    (view_sound table begun begun_sound) 0 (omega arith) (rw begun_view at_start.0) idle idle_bench (rw (held_table, begun_view, at_start.1) tt)
