-- Instances of the theorems that tie states to 002's agents (`crates/published_laws`): threads that are a bench and that are not, an agent that no series of
-- reductions reaches from the start of a file, whatever the bench does, a turn that ends otherwise than the engine's step and one that cannot. Assumes nothing.
use Rattle.std.specs.Prelude.{ℕ, suc, ◌≡◌, refl, true, false, List, [], ◌∷◌, None, Option, Some}
use Rattle.std.proofs.Common.{arith, sym, ◌∙◌, inl, inr, ⊎_elim}
use Rattle.numbers.specs.Search.Laws.{contra}
use Rattle.table.specs.Table.{Table, table_of}
use Rattle.loader_laws.specs.PrintedFile.{filled_up}
use Rattle.state.specs.State.{view, state_bytes, thread, in_use, is_ready}
use Rattle.rules.specs.Start.{started}
use Rattle.rules.specs.Moves.{move, written}
use Rattle.rules.specs.declared.Move.TheVariants.{Meets}
use Rattle.rules_laws.specs.Soundness.{Sound}
use Rattle.rules_laws.specs.Chosen.{channel_by}
use Rattle.rules_laws.specs.Started.{started_sound}
use Rattle.engine_laws.specs.Lists.{give}
use Rattle.collector_laws.specs.Out.{taken_thread}
use Rattle.examples.specs.Tables.{listing, port_receiver, parting, teaching}
use Rattle.examples.specs.Computing.{running, collecting}
use Rattle.examples.specs.Files.{table_holds, rows_granted, run_sound, listing_in_order, receiver_in_order, teaching_in_order}
use Rattle.guarantee.specs.Claim.{on, taken_by}
use Rattle.guarantee.specs.ClaimKept.{taken_is}
use Rattle.published.specs.Syntax.{Process, end, choice, nothing, branch, always, output, assign, constant, waiting}
use Rattle.published.specs.Agents as Agents
use Rattle.published.specs.Agents.{◌∈◌, Value, channel, bind, Commitment, adding, refers, mentions, knows, Thread, Agent}
use Rattle.published.specs.Rules.{swapped, new, Reaches}
use Rattle.published.specs.ProductLaws.{same_order}
use Rattle.published.specs.Choices.{commits}
use Rattle.published.specs.Whole.{acted, WholeTurn, Is, UpTo}
use Rattle.published.specs.Sole.{Sole}
use Rattle.published.specs.Enabling.{Disabled}
use Rattle.published.proofs.Polarity.{our_proposition_2}
use Rattle.published_laws.specs.Standing.{channels_of, printed_guard_of, guard_by, guard_of, prefix_of, sum_before, node_process, unrolled, process_at, body_of, for_numbers, OurRules, ready_thread, committed, commitments_from, waiting_thread, thread_of, threads_of, agent_of}
use Rattle.published_laws.specs.Places.{rank}
use Rattle.published_laws.specs.Products.{Bench}
use Rattle.published_laws.specs.Benches.{ports_and, bench_is}
use Rattle.published_laws.specs.Starting.{started_bare}
use Rattle.published_laws.specs.Stepping.{Allowed, Plain}
use Rattle.published_laws.specs.Conversely.{Settled}
use Rattle.published_laws.proofs.Conversely.{turn_conversely, turn_exactly}
use Rattle.published_laws.proofs.Wholly.{turn_whole}
use Rattle.published_laws.proofs.Taking.{taken_iff_disabled}
use Rattle.published_laws.specs.Computation.{giving, bench_call}
use Rattle.instances.specs.Parting.{table, accepts, small, held_table, state_after, bytes_after, bytes_sound, bytes_view}
use Rattle.instances.specs.OfFiles.{rows_readable}
use Rattle.instances.specs.OfMoves.{taught, taught_move, taught_ready}
use Rattle.instances.specs.OfCollection.{both_wait}
use Rattle.instances.specs.OfBuffers.{receives, begun, nobody_there, somebody_there}
use Rattle.instances.specs.OfTurns as Turns

-- ---- the bench of a file with one port: a thread that knows the port; one that knows another channel is none

pub a_bench : Bench (filled_up port_receiver) (Agents.thread [] (ports_and (filled_up port_receiver) None) end)
unfolding refers waiting
a_bench = bench_is (filled_up port_receiver) None (λ c. refl) end refl

pub no_bench : ¬ Bench (filled_up port_receiver) (Agents.thread [] (Some (channel 0) ∷ Some (channel 9) ∷ []) end)
unfolding knows mentions refers
no_bench b = contra {b = knows 9 (Agents.thread [] (Some (channel 0) ∷ Some (channel 9) ∷ []) end)} refl (b.ports_only 9)

-- ---- whole computations: two threads that wait for each other, one to send and one to receive on channel 0, are not reached from the start of document 01's
-- listing, by 002's rules and document 01's own, from whatever process of the bench to whatever

abbrev tb : Table
tb = filled_up listing

abbrev bench_at : Option Value → Process → Thread
bench_at o E = Agents.thread [] (ports_and (filled_up listing) o) E

pub facing_unreached : (o o' : Option Value) (E E' : Process)
    → ¬ Reaches (body_of (filled_up listing)) (OurRules (filled_up listing)) (agent_of (filled_up listing) (bench_at o E) (started (filled_up listing)))
    (agent_of (filled_up listing) (bench_at o' E') both_wait)
unfolding running agent_of threads_of thread_of waiting_thread commitments_from committed
facing_unreached o o' E E' p =
    our_proposition_2 (body_of tb) (for_numbers tb) (agent_of tb (bench_at o E) (started tb)) (agent_of tb (bench_at o' E') both_wait) (started_bare tb (ports_and tb o) E) p
    1 2 (omega arith) (omega arith) (λ q. omega arith) 0 1 1 _ _ (inl refl) (inl refl)

-- what the bench does is told by the calls: where a give of 7 on port 0 meets a thread it sends 7 there, and where it meets nobody it does nothing

pub bench_sends : bench_call receives (state_bytes (begun 1)) (on (give 0 7 (omega arith))) end
    ≡ choice (branch always (assign 1 (constant 7)) (choice (branch always (output 0 1) end nothing)) nothing)
unfolding bench_call giving
bench_sends = rw (somebody_there, table_holds port_receiver receiver_in_order)

pub bench_rests : bench_call receives (state_bytes (begun 0)) (on (give 0 7 (omega arith))) end ≡ end
unfolding bench_call giving
bench_rests = rw nobody_there

-- ---- the other direction: at the start of document 01's listing thread 0 makes a channel. By 002's rules its turn may end with channel 5, where the engine
-- takes channel 0, and the law says that this is the engine's step but for the name

abbrev first : Thread
first = thread_of tb (thread (started tb) 0)

abbrev idle : Thread
idle = bench_at None end

abbrev pub named : ℕ → Agent
named ĉ =
    Agents.agent (adding (channels_of (started (filled_up listing))) ĉ)
    (Agents.thread [] (bind (thread_of (filled_up listing) (thread (started (filled_up listing)) 0)).env 0 (channel ĉ)) (process_at (filled_up listing) 1) ∷ bench_at None end ∷ [])

named_whole : WholeTurn (body_of tb) (agent_of tb idle (started tb)) first (named 5)
unfolding running agent_of threads_of channels_of thread_of ready_thread process_at unrolled node_process sum_before printed_guard_of guard_by guard_of prefix_of Agents.holds commits
named_whole = record {
  others = idle ∷ [];
  brought = swapped;
  product = (named 5).threads;
  whole = acted (new 5 refl refl) refl;
  put_back = same_order (named 5).threads;
}

idle_bench : Bench tb idle
unfolding refers waiting
idle_bench = bench_is tb None (λ c. refl) end refl

first_ready : is_ready (thread (started tb) 0) ≡ true
unfolding running
first_ready = refl

first_allowed : Allowed (move tb (started tb) 0)
unfolding running Allowed
first_allowed = tt

pub any_name : UpTo (body_of (filled_up listing)) (for_numbers (filled_up listing)) (agent_of (filled_up listing) (bench_at None end) (started (filled_up listing)))
    (thread_of (filled_up listing) (thread (started (filled_up listing)) 0)) (named 5)
    (agent_of (filled_up listing) (bench_at None end) (written (filled_up listing) (started (filled_up listing)) 0 (move (filled_up listing) (started (filled_up listing)) 0)))
any_name =
    turn_conversely tb (rows_granted listing listing_in_order) (rows_readable listing listing_in_order) (started tb)
    (started_sound tb (rows_granted listing listing_in_order)) 0 (omega arith) first_ready idle idle_bench first_allowed (named 5) named_whole

-- where one commitment alone is on the channel nothing is left open: in the file `teaching` after four steps thread 0 sends to its child, which alone waits on
-- that channel. There is a whole turn of it, and every one ends as the engine's step does

abbrev lessons : Table
lessons = filled_up teaching

taught_sound : Sound lessons taught
unfolding taught
taught_sound = run_sound teaching teaching_in_order 4

abbrev pub class : Thread
class = Agents.thread [] (ports_and (filled_up teaching) None) end

class_bench : Bench lessons class
unfolding refers waiting
class_bench = bench_is lessons None (λ c. refl) end refl

-- of three threads one has a commitment, and no more than that
one_committed : (x y z : Thread) (k : Commitment) (ĉ : ℕ) → x.commitments ≡ [] → y.commitments ≡ [] → z.commitments ≡ k ∷ [] → Sole (x ∷ y ∷ z ∷ []) ĉ
one_committed x y z k ĉ e f g u u' j j' i i' h h' p p' =
    let (q, r) = it u j i h in
    let (q', r') = it u' j' i' h' in
    (q ∙ sym q', r ∙ sym r')
  where
    it : (u : Thread) (j : Commitment) → u ∈ (x ∷ y ∷ z ∷ []) → j ∈ u.commitments → (u ≡ z) × (j ≡ k)
    it u j (inl q) h = absurd (let b : j ∈ [] = rw (q, e) at h in b)
    it u j (inr (inl q)) h = absurd (let b : j ∈ [] = rw (q, f) at h in b)
    it u j (inr (inr (inl q))) h = (q, ⊎_elim (λ r. r) (λ b. absurd b) (let b : j ∈ (k ∷ []) = rw (q, g) at h in b))
    it u j (inr (inr (inr b))) h = absurd b

child_alone : Sole (agent_of lessons class taught).threads (channel_by lessons taught 0 0)
unfolding running taught agent_of threads_of thread_of ready_thread waiting_thread commitments_from committed
child_alone = one_committed _ _ _ _ _ refl refl refl

pub lesson_whole : WholeTurn (body_of (filled_up teaching)) (agent_of (filled_up teaching) class taught) (thread_of (filled_up teaching) (thread taught 0))
    (agent_of (filled_up teaching) class (written (filled_up teaching) taught 0 (Meets 0 1 0)))
unfolding Plain
lesson_whole = rw taught_move at (turn_whole lessons (rows_granted teaching teaching_in_order) (rows_readable teaching teaching_in_order) taught
    taught_sound 0 (omega arith) taught_ready class class_bench (rw taught_move tt))

pub lesson_exactly : (T : Agent)
    → WholeTurn (body_of (filled_up teaching)) (agent_of (filled_up teaching) class taught) (thread_of (filled_up teaching) (thread taught 0)) T
    → Is T (agent_of (filled_up teaching) class (written (filled_up teaching) taught 0 (Meets 0 1 0))).channels
    (agent_of (filled_up teaching) class (written (filled_up teaching) taught 0 (Meets 0 1 0))).threads
unfolding Settled
lesson_exactly T h = rw taught_move at (turn_exactly lessons (rows_granted teaching teaching_in_order) (rows_readable teaching teaching_in_order) taught
    taught_sound 0 (omega arith) taught_ready class class_bench (rw taught_move child_alone) T h)

-- ---- Definition 1, read off the bytes: of the two threads of the file `parting` after five steps 002 calls the one disabled that a collection takes, and not
-- the other

-- both threads are in use, and the collection takes thread 1 and not thread 0
uses : (in_use (thread (state_after 5) 0) ≡ true)
    × (in_use (thread (state_after 5) 1) ≡ true)
    × (taken_thread (filled_up parting) (state_after 5) 0 ≡ false)
    × (taken_thread (filled_up parting) (state_after 5) 1 ≡ true)
unfolding collecting state_after taken_thread
uses = (refl, refl, refl, refl)

taken_as : (t : ℕ) → taken_by table (bytes_after 5) t ≡ taken_thread (filled_up parting) (state_after 5) t
taken_as t = taken_is table accepts small (bytes_after 5) (bytes_sound 5) t ∙ rw (held_table, bytes_view 5)

-- the agent that the bytes stand for, and the places in it
abbrev parting_threads : List Thread
parting_threads = (agent_of (table_of table) Turns.idle (view (bytes_after 5))).threads

abbrev place_of : ℕ → ℕ
place_of t = suc (rank (view (bytes_after 5)).threads t)

pub child_disabled : Disabled parting_threads (place_of 1)
child_disabled =
    (taken_iff_disabled table accepts small (bytes_after 5) (bytes_sound 5) Turns.idle Turns.idle_bench 1 (rw (bytes_view 5) uses.1)).0 (taken_as 1 ∙ uses.3)

pub parent_not_disabled : ¬ Disabled parting_threads (place_of 0)
parent_not_disabled d =
    let y = (taken_iff_disabled table accepts small (bytes_after 5) (bytes_sound 5) Turns.idle Turns.idle_bench 0 (rw (bytes_view 5) uses.0)).1 d in
    contra y (taken_as 0 ∙ uses.2)
