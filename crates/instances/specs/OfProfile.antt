-- Instances of the rental-shop profile: the answer of the check of a table, by computation, and the pledge at work (`profile_laws/specs/Claim.antt`): a file whose
-- bound is 64 comes to have 64 threads, and one whose bound is 65, which the check refuses, lacks a row. Assumes nothing.
use Rattle.profile.specs.declared.ProfileRefusal.TheVariants as ProfileRefusal
use Rattle.profile.specs.Answers.{Profiled}
use Rattle.std.specs.Prelude.{ℕ, ◌+◌, ◌-◌, ◌<◌, ◌≡◌, true, length, get_or, ℤ, pos, Err, Ok}
use Rattle.std.proofs.Common.{arith, ◌∙◌, eq-eqb}
use Rattle.std.proofs.Math.Path.{refl, ap}
use mathlib.Core.List.{List, [], ◌∷◌, ◌++◌, map}
use Rattle.numbers.specs.Search.{tabulate}
use Rattle.table.specs.Table.{Table, table_length, table_of}
use Rattle.loader.specs.Load.{table_bytes, accepted}
use Rattle.loader_laws.specs.PrintedFile.{filled_up}
use Rattle.loader_laws.specs.Yields.{length_bytes, bytes_hold}
use Rattle.state.specs.State.{State, view}
use Rattle.rules.specs.Start.{started}
use Rattle.rules.specs.Calls.{step_end, can_step, step_on, step_call}
use Rattle.rules.specs.declared.Refusal.TheVariants as Ground
use Rattle.rules_laws.specs.Accepted.{granted}
use Rattle.rules_laws.specs.Lasting.{step_on_kept}
use Rattle.engine_laws.specs.Buffers.{SoundBuffer, view_sound}
use Rattle.engine_laws.specs.SoundCalls.{start_view, step_sound, call_made, call_view}
use Rattle.engine_laws.specs.Lists.{step, after, RefusedWith}
use Rattle.interface.specs.Interface.{profile_fields, profile_numbers, profile_result}
use Rattle.interface.specs.declared.ProfileAnswer.{ProfileAnswer}
use Rattle.profile.specs.Profile.{largest, is_spawn, node_spawns, spawns_in, has_spawn, call_allowed, node_allowed, calls_allowed, branch_bound_by, call_bound_by, node_bound_by, bound_in, node_bound, definition_bound, within_rows, profile_of, profile_call, refusal_number, threads_number}
use Rattle.examples.specs.Tables.{doublings, doublings_and_one, calls_up, calls_down, calls_itself, repeats}
use Rattle.examples.specs.Computing.{running}
use Rattle.examples.specs.Files.{in_order, table_for, table_holds, table_long, table_small, table_accepted, doublings_in_order, one_more_in_order, calls_up_in_order, calls_down_in_order, calls_itself_in_order, repeats_in_order}
use Rattle.guarantee.specs.Claim.{Any, on, after_any, after_list, reached_by, RefusedBy}
use Rattle.guarantee.specs.Proof.{reached_sound}
use Rattle.guarantee.specs.WriteInNumbers.{LoadsTo, IsLoaded}
use Rattle.profile_laws.specs.Bounds.{Allowed, allowed}
use Rattle.profile_laws.specs.Sentences.{Said, bounds_only, definitions_only}
use Rattle.profile_laws.specs.Claim.{threads_in, Pledge}
use Rattle.profile_laws.specs.Proof.{accepted_pledge}
use Rattle.profile_laws.specs.InNumbers.{profile_in_numbers}
use Rattle.instances.specs.Parting.{blank, blank_long}
use Rattle.instances.specs.OfBuffers.{zero_table, zero_shaped, zero_refused}
use Rattle.instances.specs.OfWriting.{bytes_small}

-- opens what the check computes with
unfoldable checking : Unit {0}
unfolding running largest is_spawn node_spawns spawns_in has_spawn call_allowed node_allowed calls_allowed branch_bound_by call_bound_by node_bound_by bound_in node_bound definition_bound within_rows profile_of
checking = tt

-- ---- answers

-- the check of the table of a file that loads is told from its rows
checked : (rs : Table) → in_order rs ≡ true → profile_call (table_for rs) ≡ profile_of (filled_up rs)
unfolding profile_call
checked rs e = rw (eq-eqb (length (table_for rs)) table_length (table_long rs e), table_accepted rs e, table_holds rs e)

-- six doublings make 64 threads of one, and pass
pub doublings_pass : profile_call (table_for doublings) ≡ Ok 64
unfolding checking
doublings_pass = checked doublings doublings_in_order

-- one thread more is too many
pub one_more_refused : profile_call (table_for doublings_and_one) ≡ Err ProfileRefusal.ManyThreads
unfolding checking
one_more_refused = checked doublings_and_one one_more_in_order

-- a call upward has the bound of the definition that is called, here of two threads
pub calls_up_pass : profile_call (table_for calls_up) ≡ Ok 2
unfolding checking
calls_up_pass = checked calls_up calls_up_in_order

-- a call downward is forbidden, though no thread comes to it; and so is a call of a definition by itself beside a spawn
pub calls_down_refused : profile_call (table_for calls_down) ≡ Err ProfileRefusal.ForbiddenCall
unfolding checking
calls_down_refused = checked calls_down calls_down_in_order

pub calls_itself_refused : profile_call (table_for calls_itself) ≡ Err ProfileRefusal.ForbiddenCall
unfolding checking
calls_itself_refused = checked calls_itself calls_itself_in_order

-- beside no spawn such a call is permitted, and counts for one thread: the definition that calls itself has the bound 1, and the first one 2
pub repeats_pass : profile_call (table_for repeats) ≡ Ok 2
unfolding checking
repeats_pass = checked repeats repeats_in_order

-- a table of zeros has a table's length, and is that of no file
pub zeros_refused : profile_call (table_bytes zero_table) ≡ Err ProfileRefusal.WrongTable
unfolding profile_call accepted
zeros_refused = rw (eq-eqb (length (table_bytes zero_table)) table_length (length_bytes zero_table zero_shaped), bytes_hold zero_table zero_shaped, zero_refused)

-- no bytes are no table
pub nothing_refused : profile_call [] ≡ Err ProfileRefusal.WrongLength
unfolding profile_call
nothing_refused = refl

-- ---- the same in C's numbers

numbers_of_lem : (table : List ℕ) (a : Profiled) → profile_call table ≡ a → profile_result table ≡ profile_fields (refusal_number a) (threads_number a)
unfolding profile_result profile_numbers
numbers_of_lem table a e = rw e

pub answers_in_numbers : (profile_result (table_for doublings) ≡ record { refusal = pos 0; threads = pos 64 })
    × (profile_result (table_for doublings_and_one) ≡ record { refusal = pos 17; threads = pos 0 })
    × (profile_result (table_for calls_down) ≡ record { refusal = pos 16; threads = pos 0 })
    × (profile_result (table_for calls_itself) ≡ record { refusal = pos 16; threads = pos 0 })
    × (profile_result (table_for repeats) ≡ record { refusal = pos 0; threads = pos 2 })
    × (profile_result (table_bytes zero_table) ≡ record { refusal = pos 9; threads = pos 0 })
    × (profile_result [] ≡ record { refusal = pos 8; threads = pos 0 })
unfolding profile_fields refusal_number threads_number
answers_in_numbers = (
  numbers_of_lem (table_for doublings) (Ok 64) doublings_pass,
  numbers_of_lem (table_for doublings_and_one) (Err ProfileRefusal.ManyThreads) one_more_refused,
  numbers_of_lem (table_for calls_down) (Err ProfileRefusal.ForbiddenCall) calls_down_refused,
  numbers_of_lem (table_for calls_itself) (Err ProfileRefusal.ForbiddenCall) calls_itself_refused,
  numbers_of_lem (table_for repeats) (Ok 2) repeats_pass,
  numbers_of_lem (table_bytes zero_table) (Err ProfileRefusal.WrongTable) zeros_refused,
  numbers_of_lem [] (Err ProfileRefusal.WrongLength) nothing_refused,
)

-- so, by its law, C sees a file loaded to the doublings, and none loaded to zeros
pub loaded_or_not : IsLoaded (table_for doublings) × ((file : List ℕ) → ¬ LoadsTo (table_bytes zero_table) file)
loaded_or_not =
    let (passed, a, b, c, d, zeros, e) = answers_in_numbers in
    let refusal : ProfileAnswer → ℤ = λ r. r.refusal in (
      ((profile_in_numbers (table_for doublings) (table_small doublings doublings_in_order)).zero.0 (ap refusal passed)).0,
      ((profile_in_numbers (table_bytes zero_table) (bytes_small zero_table)).nine.0 (ap refusal zeros)).1,
    )

-- ---- document 02's sentences settle the bounds

doublings_allowed : Allowed (filled_up doublings)
unfolding checking
doublings_allowed =
    let h = table_holds doublings doublings_in_order in
    rw h at (allowed (table_for doublings) (table_accepted doublings doublings_in_order) (table_small doublings doublings_in_order) (rw h refl))

-- whatever bounds fit them, node 0 has 64, and so has its definition; so 1 for every node does not fit
pub doublings_settled : (definition node : ℕ → ℕ) (branch : ℕ → ℕ → ℕ) → Said (filled_up doublings) definition node branch → (definition 0 ≡ 64) × (node 0 ≡ 64)
unfolding checking
doublings_settled definition node branch s = (
  definitions_only (filled_up doublings) doublings_allowed definition node branch s 0 (omega arith),
  bounds_only (filled_up doublings) doublings_allowed definition node branch s 0 (omega arith),
)

pub not_all_one : (definition : ℕ → ℕ) (branch : ℕ → ℕ → ℕ) → ¬ Said (filled_up doublings) definition (λ n. 1) branch
not_all_one definition branch s = let e : ◌≡◌ {A = ℕ} 1 64 = (doublings_settled definition (λ n. 1) branch s).1 in omega arith

-- the bound of a definition is its first node's also where nobody calls it: 65 for it with 64 for the node does not fit
pub not_another : (node : ℕ → ℕ) (branch : ℕ → ℕ → ℕ) → ¬ Said (filled_up doublings) (λ d. 65) node branch
not_another node branch s = let e : ◌≡◌ {A = ℕ} 65 64 = (doublings_settled (λ d. 65) node branch s).0 in omega arith

-- where a definition calls another, by that one's bound; and where it calls itself, by 1
repeats_allowed : Allowed (filled_up repeats)
unfolding checking
repeats_allowed =
    let h = table_holds repeats repeats_in_order in
    rw h at (allowed (table_for repeats) (table_accepted repeats repeats_in_order) (table_small repeats repeats_in_order) (rw h refl))

pub repeats_settled : (definition node : ℕ → ℕ) (branch : ℕ → ℕ → ℕ) → Said (filled_up repeats) definition node branch
    → (definition 0 ≡ 2) × (definition 1 ≡ 1) × (node 1 ≡ 1) × (node 4 ≡ 1)
unfolding checking
repeats_settled definition node branch s =
    let d = definitions_only (filled_up repeats) repeats_allowed definition node branch s in
    let n = bounds_only (filled_up repeats) repeats_allowed definition node branch s in
    (d 0 (omega arith), d 1 (omega arith), n 1 (omega arith), n 4 (omega arith))

-- ---- lists of steps

-- a step of each of these threads, one after the other: as calls, and on a state
abbrev pub steps : List ℕ → List Any
steps ts = map (λ t. on (step t)) ts

unfoldable stepped : Table → State → List ℕ → State
stepped tb s [] = s
stepped tb s (t ∷ ts) = stepped tb (step_on tb s t).state ts

module _ (table : List ℕ) (ok : accepted table ≡ true) (fit : (i : ℕ) → get_or table i 0 < 256) where
  step_view : (state : List ℕ) → SoundBuffer table state → (t : ℕ) → view (step_call table state t).state ≡ (step_on (table_of table) (view state) t).state
  unfolding step_call
  step_view state b t =
      call_view table ok Err state b (step_on (table_of table) (view state) t)
      (step_on_kept (table_of table) (granted table ok fit) (view state) (view_sound table state b) t)

  -- the bytes after the steps hold the state after them
  steps_view : (state : List ℕ) → SoundBuffer table state → (ts : List ℕ) → view (after_list table state (steps ts)) ≡ stepped (table_of table) (view state) ts
  unfolding stepped after_list after_any after
  steps_view state b [] = refl
  steps_view state b (t ∷ ts) =
      steps_view (step_call table state t).state (step_sound table ok fit state b t) ts ∙ ap (λ s. stepped (table_of table) s ts) (step_view state b t)

module _ (rs : Table) (e : in_order rs ≡ true) where
  -- from the start in a buffer of zeros
  begun_steps : (ts : List ℕ) → view (reached_by (table_for rs) blank (steps ts)) ≡ stepped (filled_up rs) (started (filled_up rs)) ts
  unfolding after_list
  begun_steps ts =
      let ok = table_accepted rs e in
      let fit = table_small rs e in
      steps_view (table_for rs) ok fit (reached_by (table_for rs) blank []) (reached_sound (table_for rs) ok fit blank blank_long []) ts
      ∙ rw (start_view (table_for rs) ok fit blank blank_long, table_holds rs e)

-- ---- the pledge reaches its bound

-- the whole pledge, of whatever list
pub doublings_pledge : (ks : List Any) → Pledge (table_for doublings) blank 64 ks
doublings_pledge ks = accepted_pledge (table_for doublings) (table_small doublings doublings_in_order) 64 doublings_pass blank blank_long ks

-- the threads 0 to n - 1
unfoldable pub below : ℕ → List ℕ
below n = tabulate n (λ t. t)

-- a step of each thread that there is makes twice as many of them, six times
abbrev pub doubled : List ℕ
doubled = below 1 ++ (below 2 ++ (below 4 ++ (below 8 ++ (below 16 ++ below 32))))

pub doublings_reach : threads_in (view (reached_by (table_for doublings) blank (steps doubled))) ≡ 64
unfolding running step_on step_end can_step stepped below threads_in
doublings_reach = ap threads_in (begun_steps doublings doublings_in_order doubled)

-- so no smaller number could be pledged
pub not_fewer : ¬ ((ks : List Any) → Pledge (table_for doublings) blank 63 ks)
not_fewer p = omega (arith, (p (steps doubled)).few_threads, doublings_reach)

-- ---- where the bound is 65 a row is lacking

-- n threads of those but thread 1, which has come to its end: 0, and from 2 on
unfoldable pub others : ℕ → List ℕ
others n = 0 ∷ tabulate (n - 1) (λ t. 2 + t)

-- after the first spawn they double six times, but for the last step
abbrev pub crowded : List ℕ
crowded = 0 ∷ (others 1 ++ (others 2 ++ (others 4 ++ (others 8 ++ (others 16 ++ others 31)))))

abbrev crowd : List ℕ
crowd = reached_by (table_for doublings_and_one) blank (steps crowded)

last_lacks : (step_on (filled_up doublings_and_one) (stepped (filled_up doublings_and_one) (started (filled_up doublings_and_one)) crowded) 32).answer
    ≡ Err Ground.ThreadRow
unfolding running step_on step_end can_step stepped others
last_lacks = refl

-- there are 64 threads, and the last step is refused on ground 13: the check did not refuse the file in vain
pub one_more_lacks : RefusedBy (table_for doublings_and_one) (reached_by (table_for doublings_and_one) blank (steps crowded)) (on (step 32)) Ground.ThreadRow
unfolding RefusedBy RefusedWith step_call
one_more_lacks =
    let ok = table_accepted doublings_and_one one_more_in_order in
    let sound = reached_sound (table_for doublings_and_one) ok (table_small doublings_and_one one_more_in_order) blank blank_long (steps crowded) in
    rw (call_made (table_for doublings_and_one) ok Err crowd sound (step_on (table_of (table_for doublings_and_one)) (view crowd) 32))
    (rw (table_holds doublings_and_one one_more_in_order, begun_steps doublings_and_one one_more_in_order crowded) last_lacks)
