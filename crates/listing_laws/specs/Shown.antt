-- What a listing shows. Every number in it is one from 0 to 32767 or -1, and its column is that number in decimal; and each step of the run has its line.
-- Assumes nothing.
use Rattle.std.specs.declared.ops.ControlFlow.TheVariants.{Break, Continue}
use Rattle.rules.specs.Answers.{Turn}
use Prim.Native.Nat.{ℕ, zero, suc, ◌+◌, ◌-◌, ◌%◌, ◌<◌, ◌≤◌}
use Rattle.std.proofs.Common.{arith, add-one, ◌∙◌, inl, inr, ⊎_elim, lt-ltb, le-ltb, ltb-true}
use Rattle.std.proofs.Math.Path.{◌≡◌, refl, sym, ap}
use Rattle.std.specs.Prelude.{◌⊎◌, Bool, List, [], ◌∷◌, ltb, Err, Ok}
use Rattle.std.proofs.Math.Bool.{true, not}
use Rattle.numbers.specs.Count.{bit}
use Rattle.numbers.specs.Count.Laws.{bit_le}
use Rattle.numbers.specs.Search.{sum_to}
use Rattle.numbers.specs.Search.Laws.{case_b, sum_none, sum_suc}
use Rattle.numbers.specs.Tests.{clash}
use Rattle.text.specs.Text.{figures_by, figures, numeral, right_justified, text}
use Rattle.table.specs.Table.{Table, nodes}
use Rattle.table.specs.Layout.{branch_count}
use Rattle.file.specs.File.{line_count, file_table}
use Rattle.loader.specs.Verdict.{ground_number, verdict}
use Rattle.loader.specs.declared.Ground.{Ground}
use Rattle.loader_laws.specs.Lowest.{number_range, fault_line}
use Rattle.loader_laws.specs.Grounds.{branches_few}
use Rattle.loader.specs.Load.{table_bytes}
use Rattle.loader_laws.specs.PrintedFile.{sound_read}
use Rattle.loader_laws.specs.Yields.{file_shaped, bytes_hold, file_small, file_accepted}
use Rattle.state.specs.State.{State, minus_one, max_threads, max_channels, thread, stands_at, in_use, is_ready}
use Rattle.rules.specs.Start.{started}
use Rattle.rules.specs.Moves.{is_free_channel, move, perform}
use Rattle.rules.specs.Calls.{step_answer, next_ready, past_turn, reason_for, turn_for, turn_by, Course, one_more, onward, turn_end, take_turn, course_of}
use Rattle.rules.specs.declared.Move.{Move}
use Rattle.rules.specs.declared.Move.TheVariants.{Ends, Calls, Waits, Goes, Creates, Spawns, Meets, LacksThread, LacksChannel}
use Rattle.rules.specs.declared.Deed.{Deed}
use Rattle.rules.specs.declared.Deed.TheVariants.{Ended, Called, Waited, Took, TookWith}
use Rattle.rules.specs.declared.Reason.{Reason}
use Rattle.rules.specs.declared.Reason.TheVariants.{AllDone, NoneReady, LackedThread, LackedChannel}
use Rattle.engine.specs.Numbers.{act_number, branch_number, partner_number, reason_number, held_up_number}
use Rattle.rules_laws.specs.Granted.{Granted}
use Rattle.rules_laws.specs.Accepted.{granted}
use Rattle.rules_laws.specs.Passed.{judged_passed}
use Rattle.next_rows.specs.Around.{next_ready_in}
use Rattle.calls.specs.Course.{after}
use Rattle.rules_laws.specs.Reading.Laws.{ready_used}
use Rattle.rules_laws.specs.Soundness.{Sound}
use Rattle.rules_laws.specs.Started.{started_sound}
use Rattle.rules_laws.specs.Lasting.{course_kept}
use Rattle.rules_laws.specs.Chosen.{Chosen, chosen}
use Rattle.collector.specs.Collect.{taken, collected, taken_count}
use Rattle.collector.specs.Collect.Laws.{taken_iff}
use Rattle.listing_lines.specs.Lines.{characters, column, channels_in_use}
use Rattle.listing_text.specs.Listing.{max_steps}
use Rattle.listing_text.specs.Laying.{Come}
use Rattle.listing_text.specs.Laying.Steps.{come_none, come_more, come_state, end_turn}
use Rattle.listing_text.specs.Laying.Whole.{course_few}

-- ---- columns

pub column_number : (v : ℕ) → v < 32768 → column v ≡ right_justified 6 (figures v)
unfolding column text numeral
column_number v h = let e : v % 65536 ≡ v = omega arith in rw (e, le-ltb 32767 v (omega arith))

pub column_minus_one : column minus_one ≡ characters "    -1"
unfolding column text numeral right_justified figures figures_by characters
column_minus_one = refl

-- a number that its column shows
unfoldable pub Shown : ℕ → Type 0
Shown v = (v < 32768) ⊎ (v ≡ minus_one)

unfoldable pub AllShown : List ℕ → Type 0
AllShown [] = Unit {0}
AllShown (v ∷ vs) = Shown v × AllShown vs

low : (v : ℕ) → v < 32768 → Shown v
unfolding Shown
low v h = inl h

none : Shown minus_one
unfolding Shown
none = inr refl

-- ---- the turns of a run

by_turn : (w : Turn) (s : State) (f : State → Course) → 0 < (onward w s f).steps → w ≡ Continue tt
unfolding onward
by_turn (Continue tt) s f h = refl
by_turn (Break r) s f h = absurd (omega arith)

-- a run that makes a step begins with one
went_first : (tb : Table) (m : ℕ) (s : State) → 0 < (course_of tb m s).steps → (take_turn tb s).turn ≡ Continue tt
unfolding course_of
went_first tb zero s h = absurd (omega arith)
went_first tb (suc m) s h = by_turn (take_turn tb s).turn (take_turn tb s).state (course_of tb m) h

module _ (tb : Table) (s : State) (n : ℕ) where
  went_after : (i : ℕ) (s₁ : State) → Come tb s i s₁ → i < (course_of tb n s).steps → (take_turn tb s₁).turn ≡ Continue tt
  unfolding Come after
  went_after i s₁ c h =
      let l : i ≤ n = omega (arith, course_few tb n s) in
      let e : (course_of tb n s).steps ≡ i + (course_of tb (n - i) s₁).steps = ap (λ (k : Course). k.steps) (c n l) in
      went_first tb (n - i) s₁ (omega arith)

  -- the turn after i steps of a longer run leads on
  comes : (i : ℕ) → Come tb s i (course_of tb i s).state → i < (course_of tb n s).steps → Come tb s (suc i) (take_turn tb (course_of tb i s).state).state
  comes i c h =
      let s₁ : State = (course_of tb i s).state in
      rw (add-one i) at (come_more tb s i s₁ (take_turn tb s₁).state (take_turn tb s₁).turn c refl (went_after i s₁ c h))

  -- the run comes to the state in which a run of i steps ends
  came : (i : ℕ) → i ≤ (course_of tb n s).steps → Come tb s i (course_of tb i s).state
  unfolding course_of
  came zero h = come_none tb s
  came (suc i) h = let c = comes i (came i (omega arith)) (omega arith) in rw (come_state tb s (suc i) _ c) c

  -- each of its turns is a step, and leads to the state of the next
  went : (i : ℕ) → i < (course_of tb n s).steps → (take_turn tb (course_of tb i s).state).turn ≡ Continue tt
  went i h = went_after i (course_of tb i s).state (came i (omega arith)) h

  leads : (i : ℕ) → i < (course_of tb n s).steps → (course_of tb (suc i) s).state ≡ (take_turn tb (course_of tb i s).state).state
  leads i h = come_state tb s (suc i) _ (comes i (came i (omega arith)) h)

-- ---- a step

module _ (tb : Table) (g : Granted tb) (few : (n : ℕ) → n < nodes tb → branch_count tb n ≤ 8) (s : State) (ok : Sound tb s) where
  -- a thread's node
  node_low : (t : ℕ) → t < max_threads → in_use (thread s t) ≡ true → stands_at (thread s t) < 32768
  node_low t l u = omega (arith, (ok.orderly.row t l).node_in u, g.few_nodes)

  module _ (t : ℕ) (l : t < max_threads) (r : is_ready (thread s t) ≡ true) where
    used : in_use (thread s t) ≡ true
    used = ready_used (thread s t) r

    branch_low : (i : ℕ) → i < branch_count tb (stands_at (thread s t)) → i < 32768
    branch_low i h = omega (arith, few (stands_at (thread s t)) ((ok.orderly.row t l).node_in used))

    -- what a move that is a step is answered with, in numbers
    Answers : ℕ → Move → Type 0
    Answers n m = (d : Deed) × (step_answer n m ≡ Ok (n, d)) × AllShown (act_number d ∷ branch_number d ∷ partner_number d ∷ [])

    alone : (n : ℕ) (m : Move) (i : ℕ) → step_answer n m ≡ Ok (n, Took i) → i < branch_count tb (stands_at (thread s t)) → Answers n m
    unfolding Answers AllShown act_number branch_number partner_number
    alone n m i e h = (Took i, e, (low 3 (omega arith), (low i (branch_low i h), (none, tt))))

    together : (n : ℕ) (m : Move) (i u : ℕ) → step_answer n m ≡ Ok (n, TookWith i u) → i < branch_count tb (stands_at (thread s t)) → u < max_threads → Answers n m
    unfolding Answers AllShown act_number branch_number partner_number
    together n m i u e h k = (TookWith i u, e, (low 3 (omega arith), (low i (branch_low i h), (low u (omega arith), tt))))

    answered : (n : ℕ) (m : Move) → Chosen tb s t m → turn_by t m ≡ Continue tt → Answers n m
    unfolding Answers AllShown Chosen step_answer turn_for turn_by act_number branch_number partner_number
    answered n Ends c w = (Ended, refl, (low 0 (omega arith), (low 0 (omega arith), (none, tt))))
    answered n Calls c w = (Called, refl, (low 1 (omega arith), (low 0 (omega arith), (none, tt))))
    answered n Waits c w = (Waited, refl, (low 2 (omega arith), (low 0 (omega arith), (none, tt))))
    answered n (Goes i) c w = alone n (Goes i) i refl (⊎_elim (λ o. o.branch_in) (λ o. o.branch_in) c)
    answered n (Creates i x) c w = alone n (Creates i x) i refl c.takes.branch_in
    answered n (Spawns i u) c w = together n (Spawns i u) i u refl c.takes.branch_in c.thread_in
    answered n (Meets i u j) c w = together n (Meets i u j) i u refl c.takes.branch_in c.partner.thread_in
    answered n LacksThread c w = clash cc
    answered n LacksChannel c w = clash cc

  -- the next ready thread, where a turn is a step
  ready_next : (take_turn tb s).turn ≡ Continue tt → (next_ready s < max_threads) × (turn_by (next_ready s) (move tb s (next_ready s)) ≡ Continue tt)
  unfolding take_turn
  ready_next w =
      case_b (ltb (next_ready s) max_threads)
      (λ y. (ltb-true (next_ready s) max_threads y, sym (end_turn tb s (next_ready s) (turn_by (next_ready s) (move tb s (next_ready s)))) ∙ rw y at w))
      (λ y. clash (let z : ◌≡◌ {A = Turn} (Break NoneReady) (Continue tt) = rw y at w in cc))

  turn_leads : (take_turn tb s).turn ≡ Continue tt → (take_turn tb s).state ≡ past_turn (perform tb s (next_ready s) (move tb s (next_ready s))) (next_ready s)
  unfolding take_turn turn_end
  turn_leads w = let (l, b) = ready_next w in rw (lt-ltb (next_ready s) max_threads l, b)

  turn_shown : (k : ℕ) → k ≤ max_steps → (take_turn tb s).turn ≡ Continue tt
      → (n : ℕ) × (d : Deed) × (step_answer (stands_at (thread s (next_ready s))) (move tb s (next_ready s)) ≡ Ok (n, d))
      × AllShown (k ∷ next_ready s ∷ n ∷ act_number d ∷ branch_number d ∷ partner_number d ∷ [])
  unfolding Answers AllShown
  turn_shown k h w =
      let t : ℕ = next_ready s in
      let (l, b) = ready_next w in
      let r : is_ready (thread s t) ≡ true = next_ready_in s l in
      let (d, e, a) = answered t l r (stands_at (thread s t)) (move tb s t) (chosen tb s t) b in
      (stands_at (thread s t), d, e, (low k (omega arith), (low t (omega arith), (low (stands_at (thread s t)) (node_low t l (used t l r)), a))))

-- ---- how a run ends, and what a collection takes

module _ (tb : Table) where
  Held : Turn → Type 0
  Held (Continue tt) = Unit {0}
  Held (Break r) = Shown (held_up_number r)

  move_held : (t : ℕ) → t < max_threads → (m : Move) → Held (turn_by t m)
  unfolding Held step_answer reason_for turn_for turn_by held_up_number
  move_held t l Ends = tt
  move_held t l Calls = tt
  move_held t l Waits = tt
  move_held t l (Goes i) = tt
  move_held t l (Creates i c) = tt
  move_held t l (Spawns i u) = tt
  move_held t l (Meets i u j) = tt
  move_held t l LacksThread = low t (omega arith)
  move_held t l LacksChannel = low t (omega arith)

  turn_held : (s : State) → Held (take_turn tb s).turn
  unfolding take_turn Held held_up_number
  turn_held s =
      case_b (ltb (next_ready s) max_threads)
      (λ y. rw (y, end_turn tb s (next_ready s) (turn_by (next_ready s) (move tb s (next_ready s)))) (move_held (next_ready s) (ltb-true (next_ready s) max_threads y) (move tb s (next_ready s))))
      (λ y. rw y none)

  onward_held : (w : Turn) (s : State) (f : State → Course) → Held w → ((x : State) → Shown (held_up_number (f x).reason)) → Shown (held_up_number (onward w s f).reason)
  unfolding onward one_more Held
  onward_held (Continue tt) s f h k = k s
  onward_held (Break r) s f h k = h

  -- the thread held up
  held_shown : (n : ℕ) (s : State) → Shown (held_up_number (course_of tb n s).reason)
  unfolding course_of held_up_number
  held_shown zero s = none
  held_shown (suc n) s = onward_held (take_turn tb s).turn (take_turn tb s).state (course_of tb n) (turn_held s) (held_shown n)

reason_low : (r : Reason) → reason_number r < 32768
unfolding reason_number
reason_low AllDone = omega arith
reason_low NoneReady = omega arith
reason_low (LackedThread t) = omega arith
reason_low (LackedChannel t) = omega arith

bits_few : (p : ℕ → Bool) (n : ℕ) → sum_to (λ i. bit (p i)) n ≤ n
bits_few p zero = omega (arith, sum_none (λ i. bit (p i)))
bits_few p (suc n) = omega (arith, sum_suc (λ i. bit (p i)) n, bit_le (p n), bits_few p n)

-- ---- the listing of a file

-- a refused file
pub refusal_shown : (file : List ℕ) (g : Ground) (l : ℕ) → verdict file ≡ Err (g, l) → AllShown (ground_number g ∷ l ∷ [])
unfolding AllShown
refusal_shown file g l e = (low (ground_number g) (omega (arith, (number_range g).1)), (low l (omega (arith, fault_line file g l e)), tt))

-- an accepted one: its table, and the run from its start
module _ (file : List ℕ) (e : verdict file ≡ Ok tt) where
  abbrev tb : Table
  tb = file_table file

  abbrev run : Course
  run = course_of tb max_steps (started tb)

  grants : Granted tb
  grants = rw (bytes_hold tb (file_shaped file)) at (granted (table_bytes tb) (file_accepted file e) (file_small file))

  few_branches : (n : ℕ) → n < nodes tb → branch_count tb n ≤ 8
  few_branches = branches_few tb (judged_passed tb (line_count file) (sound_read file e).1).formed

  sound_after : (i : ℕ) → Sound tb (course_of tb i (started tb)).state
  sound_after i = course_kept tb grants i (started tb) (started_sound tb grants)

  -- each step of the run is done, so that it has its line, and the line's numbers are shown
  pub step_shown : (i : ℕ) → i < run.steps → let s : State = (course_of tb i (started tb)).state in
      (n : ℕ) × (d : Deed) × (step_answer (stands_at (thread s (next_ready s))) (move tb s (next_ready s)) ≡ Ok (n, d))
      × AllShown (suc i ∷ next_ready s ∷ n ∷ act_number d ∷ branch_number d ∷ partner_number d ∷ [])
  step_shown i h =
      turn_shown tb grants few_branches (course_of tb i (started tb)).state (sound_after i) (suc i) (omega (arith, course_few tb max_steps (started tb)))
      (went tb (started tb) max_steps i h)

  -- the steps are those of one run: each leads to the state in which the next is made
  pub step_leads : (i : ℕ) → i < run.steps → let s : State = (course_of tb i (started tb)).state in
      (course_of tb (suc i) (started tb)).state ≡ past_turn (perform tb s (next_ready s) (move tb s (next_ready s))) (next_ready s)
  step_leads i h =
      leads tb (started tb) max_steps i h
      ∙ turn_leads tb grants few_branches (course_of tb i (started tb)).state (sound_after i) (went tb (started tb) max_steps i h)

  pub closing_shown :
      AllShown (run.steps ∷ reason_number run.reason ∷ held_up_number run.reason ∷ taken_count tb run.state ∷ channels_in_use (collected tb run.state) ∷ [])
  unfolding AllShown taken_count channels_in_use
  closing_shown = (
    low run.steps (omega (arith, course_few tb max_steps (started tb))),
    (
      low (reason_number run.reason) (reason_low run.reason),
      (
        held_shown tb max_steps (started tb),
        (
          low (taken_count tb run.state) (omega (arith, bits_few (taken tb run.state) max_threads)),
          (low (channels_in_use (collected tb run.state)) (omega (arith, bits_few (λ c. not (is_free_channel (collected tb run.state) c)) max_channels)), tt),
        ),
      ),
    ),
  )

  pub taken_shown : (t : ℕ) → t < max_threads → taken tb run.state t ≡ true → AllShown (t ∷ stands_at (thread run.state t) ∷ [])
  unfolding AllShown
  taken_shown t l u = (
    low t (omega arith),
    (low (stands_at (thread run.state t)) (node_low tb grants few_branches run.state (sound_after max_steps) t l ((taken_iff tb run.state t).0 u).0), tt),
  )
