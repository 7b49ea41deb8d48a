-- Whatever is called, what happens is a computation of 002's agents: where the bench, as a thread, does in their order what the gives and takes of a list of
-- calls do, the agent of the first state reduces to the agent of the last. Assumes nothing.
use Rattle.rules.specs.Answers.{Given, Stepped, Taken}
use Rattle.std.specs.Prelude.{ℕ, suc, ◌<◌, ◌≡◌, true, false, length, get_or, Err, None, Ok, Option, Some}
use Rattle.std.proofs.Common.{arith}
use Rattle.std.proofs.Math.Path.{refl}
use mathlib.Core.List.{List, [], ◌∷◌}
use mir.Syntax.{w32}
use mir.Val.{Fits, to_z, of_z}
use Rattle.std.proofs.Math.Facts.{of_z-to_z}
use Rattle.numbers.specs.Tests.{clash}
use Rattle.table.specs.Table.{Table, table_of, ports}
use Rattle.loader.specs.Load.{accepted}
use Rattle.state.specs.State.{state_length, view, thread}
use Rattle.rules.specs.Start.{started}
use Rattle.rules.specs.Calls.{start_call, step_call, give_on, give_call, take_on, take_call, course_of, run_call}
use Rattle.rules.specs.Calls.Laws.{call_answer}
use Rattle.engine_laws.specs.Bench.{give_met, take_met}
use Rattle.engine_laws.specs.Buffers.{SoundBuffer}
use Rattle.engine_laws.specs.SoundCalls.{start_done, start_sound, start_view}
use Rattle.engine_laws.specs.Lists.{step, give, take, run, after}
use Rattle.engine_laws.specs.Refusals.{step_refused_keeps, give_refused_keeps, take_refused_keeps, give_nobody_keeps, take_nobody_keeps}
use Rattle.collector.specs.Collect.{collect_call}
use Rattle.guarantee.specs.Claim.{Any, on, collect, after_any, after_list, reached_by}
use Rattle.guarantee.specs.ClaimKept.{list_sound}
use Rattle.published.specs.Syntax.{Process, end, choice, nothing, branch, always, output, input, assign, constant, waiting, some_wait}
use Rattle.published.specs.Agents as Agents
use Rattle.published.specs.Agents.{Value, refers, value_of, Thread}
use Rattle.published.specs.Rules.{Reduces, acts, more, stays, goes, assigns}
use Rattle.published.specs.Fired.{turns_reach}
use Rattle.published.specs.Collections.{collects_reach}
use Rattle.published.specs.ProductLaws.{many_on, stepped_reaches}
use Rattle.published.specs.Polarity.{OnePolarity}
use Rattle.published.proofs.Polarity.{our_proposition_2}
use Rattle.published_laws.specs.Standing.{body_of, for_numbers, thread_of, threads_of, agent_of, OurRules, OurLabels}
use Rattle.published_laws.specs.Benches.{ports_and, bench_is, look_port, look_own, bind_own}
use Rattle.published_laws.specs.Starting.{started_bare}
use Rattle.published_laws.proofs.Running.{step_call_reduced, run_done, run_call_reduced, give_call_reduced, take_call_reduced, collect_call_reduced}
use Rattle.published_laws.specs.Computation as Computation
use Rattle.published_laws.specs.Computation.{giving, taking, number_given, number_taken, bench_call, number_call, bench_for, number_after}

-- ---- it does not wait, and its variable is bound to no channel

module _ (E : Process) (w : waiting E ≡ false) where
  giving_acts : (own p v : ℕ) (a : Given) → waiting (giving own p v a E) ≡ false
  unfolding giving waiting some_wait
  giving_acts own p v (Ok (Some u)) = refl
  giving_acts own p v (Ok None) = w
  giving_acts own p v (Err r) = w

  taking_acts : (own p : ℕ) (a : Taken) → waiting (taking own p a E) ≡ false
  unfolding taking waiting some_wait
  taking_acts own p (Ok (Some (u, v))) = refl
  taking_acts own p (Ok None) = w
  taking_acts own p (Err r) = w

  call_acts : (table state : List ℕ) (k : Any) → waiting (bench_call table state k E) ≡ false
  unfolding bench_call
  call_acts table state (on (step t)) = w
  call_acts table state (on (give p v h)) = giving_acts (ports (table_of table)) p v (give_call table state p v).answer
  call_acts table state (on (take p)) = taking_acts (ports (table_of table)) p (take_call table state p).answer
  call_acts table state (on (run n)) = w
  call_acts table state collect = w

bench_acts : (table state : List ℕ) (ks : List Any) (E : Process) → waiting E ≡ false → waiting (bench_for table state ks E) ≡ false
unfolding bench_for
bench_acts table state [] E w = w
bench_acts table state (k ∷ ks) E w =
    call_acts (bench_for table (after_any table state k) ks E) (bench_acts table (after_any table state k) ks E w) table state k

-- nothing yet, or a number
data Own : Option Value → Type 0 where
  no_number : Own None
  a_number : (v : ℕ) → Own (Some (Agents.number v))

own_refers : (o : Option Value) → Own o → (c : ℕ) → refers c o ≡ false
unfolding refers
own_refers o no_number c = refl
own_refers o (a_number v) c = refl

module _ (o : Option Value) (h : Own o) where
  own_given : (v : ℕ) (a : Given) → Own (number_given v a o)
  unfolding number_given
  own_given v (Ok (Some u)) = a_number v
  own_given v (Ok None) = h
  own_given v (Err r) = h

  own_taken : (a : Taken) → Own (number_taken a o)
  unfolding number_taken
  own_taken (Ok (Some (u, v))) = a_number v
  own_taken (Ok None) = h
  own_taken (Err r) = h

  own_call : (table state : List ℕ) (k : Any) → Own (number_call table state k o)
  unfolding number_call
  own_call table state (on (step t)) = h
  own_call table state (on (give p v l)) = own_given v (give_call table state p v).answer
  own_call table state (on (take p)) = own_taken (take_call table state p).answer
  own_call table state (on (run n)) = h
  own_call table state collect = h

-- ---- the computation

module _ (table : List ℕ) (ok : accepted table ≡ true) (fit : (i : ℕ) → get_or table i 0 < 256) where
  abbrev tb : Table
  tb = table_of table

  abbrev pub bench_at : Option Value → Process → Thread
  bench_at o E = Computation.bench_at table o E

  abbrev pub Leads : List ℕ → List ℕ → Option Value → Process → Option Value → Process → Type 0
  Leads state later o E o' E' = Computation.Leads table state later o E o' E'

  -- nothing happens
  nothing_happens : (state later : List ℕ) → later ≡ state → (o : Option Value) (E : Process) → Leads state later o E o E
  nothing_happens state later q o E = rw q stays

  module _ (state : List ℕ) (sb : SoundBuffer table state) (E : Process) (w : waiting E ≡ false) (o : Option Value) (h : Own o) where
    -- ---- calls in which the bench has no part

    stepped_by : (t : ℕ) (a : Stepped) → (step_call table state t).answer ≡ a → Leads state (step_call table state t).state o E o E
    stepped_by t (Ok (n, d)) e =
        stepped_reaches (body_of tb) (OurRules tb) (agent_of tb (bench_at o E) (view state)) (thread_of tb (thread (view state) t))
        (agent_of tb (bench_at o E) (view (step_call table state t).state))
        (step_call_reduced table ok fit state sb (bench_at o E) (bench_is tb o (own_refers o h) E w) t n d e).2.stepped
    stepped_by t (Err r) e = nothing_happens state (step_call table state t).state (step_refused_keeps table state sb.small t r e) o E

    ran_by : (n : ℕ) → Leads state (run_call table state n).state o E o E
    ran_by n =
        turns_reach (body_of tb) (OurRules tb) (OurLabels tb)
        (run_call_reduced table ok fit state sb (bench_at o E) (bench_is tb o (own_refers o h) E w) n (course_of tb n (view state)).steps
        (course_of tb n (view state)).reason (run_done table ok fit state sb n))

    collected_by : Leads state (collect_call table state).state o E o E
    collected_by = collects_reach (body_of tb) (OurRules tb) (collect_call_reduced table ok fit state sb (bench_at o E) (bench_is tb o (own_refers o h) E w))

    -- ---- give

    given_port : (p v u : ℕ) → (give_call table state p v).answer ≡ Ok (Some u) → p < ports tb
    unfolding give_call
    given_port p v u e =
        let k = give_on tb (view state) p v in
        (give_met tb (view state) p v u ((call_answer Err table state k (Ok (Some u)) (λ r f i. clash cc)).0 e).1).0

    abbrev sending : ℕ → Process
    sending p = choice (branch always (output p (ports (table_of table))) E nothing)

    set_first : (p v : ℕ) → v < 4294967296 → Leads state state o (choice (branch always (assign (ports tb) (constant v)) (sending p) nothing)) (Some (Agents.number v)) (sending p)
    unfolding agent_of Agents.holds value_of
    set_first p v l =
        let f : Fits w32 v = record { fits = l } in
        let moved : Leads state state o (choice (branch always (assign (ports tb) (constant v)) (sending p) nothing)) (Some (Agents.number (of_z w32 (to_z w32 v)))) (sending p) =
        rw (← bind_own tb o (Agents.number (of_z w32 (to_z w32 v)))) (goes (acts (more (assigns (to_z w32 v) refl refl))) stays) in
        rw (of_z-to_z f) at moved

    given_by : (p v : ℕ) → v < 4294967296 → (a : Given) → (give_call table state p v).answer ≡ a
        → Leads state (give_call table state p v).state o (giving (ports tb) p v a E) (number_given v a o) E
    unfolding giving number_given
    given_by p v l (Ok (Some u)) e =
        let n : Option Value = Some (Agents.number v) in
        let bn = bench_is tb n (own_refers n (a_number v)) E w in
        let sent = (give_call_reduced table ok fit state sb (body_of tb) (OurRules tb) (OurLabels tb) p (ports_and tb n) p (ports tb) E nothing
        (look_port tb n p (given_port p v u e)) v l (look_own tb n) bn u e).1.stepped in
        many_on (Reduces (body_of tb) (OurRules tb)) (set_first p v l)
        (stepped_reaches (body_of tb) (OurRules tb) (agent_of tb (bench_at n (sending p)) (view state)) (bench_at n (sending p))
        (agent_of tb (bench_at n E) (view (give_call table state p v).state)) sent)
    given_by p v l (Ok None) e = nothing_happens state (give_call table state p v).state (give_nobody_keeps table state sb.small p v e) o E
    given_by p v l (Err r) e = nothing_happens state (give_call table state p v).state (give_refused_keeps table state sb.small p v r e) o E

    -- ---- take

    taken_port : (p u v : ℕ) → (take_call table state p).answer ≡ Ok (Some (u, v)) → p < ports tb
    unfolding take_call
    taken_port p u v e =
        let k = take_on tb (view state) p in
        (take_met tb (view state) p u v ((call_answer Err table state k (Ok (Some (u, v))) (λ r f i. clash cc)).0 e).1).0

    abbrev receiving : ℕ → Process
    receiving p = choice (branch always (input p (ports (table_of table))) E nothing)

    taken_by_lem : (p : ℕ) (a : Taken) → (take_call table state p).answer ≡ a
        → Leads state (take_call table state p).state o (taking (ports tb) p a E) (number_taken a o) E
    unfolding taking number_taken
    taken_by_lem p (Ok (Some (u, v))) e =
        let bn = bench_is tb (Some (Agents.number v)) (own_refers (Some (Agents.number v)) (a_number v)) E w in
        let q = bind_own tb o (Agents.number v) in
        rw (← q) (stepped_reaches (body_of tb) (OurRules tb) (agent_of tb (bench_at o (receiving p)) (view state)) (bench_at o (receiving p)) _
        (take_call_reduced table ok fit state sb (body_of tb) (OurRules tb) (OurLabels tb) p (ports_and tb o) p (ports tb) E nothing
        (look_port tb o p (taken_port p u v e)) v (rw q bn) u e).1.stepped)
    taken_by_lem p (Ok None) e = nothing_happens state (take_call table state p).state (take_nobody_keeps table state sb.small p e) o E
    taken_by_lem p (Err r) e = nothing_happens state (take_call table state p).state (take_refused_keeps table state sb.small p r e) o E

    -- ---- any call

    call_leads : (k : Any) → Leads state (after_any table state k) o (bench_call table state k E) (number_call table state k o) E
    unfolding after_any after bench_call number_call
    call_leads (on (step t)) = stepped_by t (step_call table state t).answer refl
    call_leads (on (give p v l)) = given_by p v l (give_call table state p v).answer refl
    call_leads (on (take p)) = taken_by_lem p (take_call table state p).answer refl
    call_leads (on (run n)) = ran_by n
    call_leads collect = collected_by

  -- ---- any list of calls

  one_sound : (state : List ℕ) → SoundBuffer table state → (k : Any) → SoundBuffer table (after_any table state k)
  unfolding after_list
  one_sound state sb k = list_sound table ok fit state sb (k ∷ [])

  list_leads : (state : List ℕ) → SoundBuffer table state → (ks : List Any) (E : Process) → waiting E ≡ false → (o : Option Value) → Own o
      → Leads state (after_list table state ks) o (bench_for table state ks E) (number_after table state ks o) E
  unfolding after_list bench_for number_after
  list_leads state sb [] E w o h = stays
  list_leads state sb (k ∷ ks) E w o h =
      let next = after_any table state k in
      many_on (Reduces (body_of tb) (OurRules tb))
      (call_leads state sb (bench_for table next ks E) (bench_acts table next ks E w) o h k)
      (list_leads next (one_sound state sb k) ks E w (number_call table state k o) (own_call o h table state k))

  -- from the start of an accepted file, whatever is called, and whatever E the bench does afterwards
  pub computation : (state : List ℕ) → length state ≡ state_length → (ks : List Any) (E : Process) → waiting E ≡ false
      → Leads (start_call table state).state (reached_by table state ks) None (bench_for table (start_call table state).state ks E)
      (number_after table (start_call table state).state ks None) E
  computation state long ks E w =
      list_leads (start_call table state).state (start_sound table ok fit state (start_done table ok state long)) ks E w None no_number

  -- ---- so what 002 proves of computations holds of the engine's states: Proposition 2, for one

  -- after whatever list of calls, no channel has an output commitment of one thread and an input commitment of another
  pub reached_polarity : (state : List ℕ) → length state ≡ state_length → (ks : List Any)
      → OnePolarity (threads_of (table_of table) (view (reached_by table state ks)).threads)
  unfolding agent_of waiting
  reached_polarity state long ks j k l m n =
      let E = bench_for table (start_call table state).state ks end in
      let o = number_after table (start_call table state).state ks None in
      let p = rw (start_view table ok fit state long) at (computation state long ks end refl) in
      our_proposition_2 (body_of tb) (for_numbers tb) (agent_of tb (bench_at None E) (started tb)) (agent_of tb (bench_at o end) (view (reached_by table state ks)))
      (started_bare tb (ports_and tb None) E) p (suc j) (suc k) (omega arith) (omega arith) (λ q. n (omega arith))
