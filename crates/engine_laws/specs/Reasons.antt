-- A run, said by the step call. A turn is a step of the first ready thread from the turn on, as the step call makes it, with the turn then one past
-- that thread; a run of k steps is k such turns; and it ends for each of its reasons exactly when that reason is due. Of buffers of bytes, whatever
-- their length, and of the calls without seats; `guarantee/specs/ReasonsInLists.antt` says it of those that C makes. Assumes nothing.
use Rattle.std.specs.declared.ops.ControlFlow.TheVariants.{Break, Continue}
use Rattle.rules.specs.Answers.{Stepped}
use Prim.Native.Nat.{ℕ, zero, suc, ◌<◌, ◌≤◌}
use native.Mathlib.Omega.{arith}
use Rattle.std.specs.Prelude.{◌≡◌, ◌↔◌, true, false, List, ltb, get_or, Err, Ok}
use Rattle.std.proofs.Math.Path.{refl, sym, ap}
use Rattle.std.proofs.Common.{◌∙◌, ltb-true, ltb-false}
use Rattle.std.proofs.Math.Logic.{⊎_elim}
use Rattle.numbers.specs.Search.Laws.{case_b, contra}
use Rattle.numbers.specs.Tests.{clash}
use Rattle.table.specs.Table.{Table, table_of}
use Rattle.loader.specs.Load.{accepted}
use Rattle.state.specs.State.{State, max_threads, view, state_bytes, turn, thread, stands_at, is_ready, with_mark}
use Rattle.state.specs.State.Laws.{bytes_view}
use Rattle.rules.specs.Moves.{one_up, move, perform}
use Rattle.rules.specs.Calls.{Outcome, outcome, step_answer, step_end, can_step, step_on, step_call, is_ready_thread, next_ready, past_turn, reason_for, turn_for, turn_by, Course, one_more, Turned, turned, onward, turn_end, take_turn, course_of, run_on, run_call}
use Rattle.rules.specs.Calls.Laws.{call_answer, call_admitted}
use Rattle.rules.specs.declared.Move.{Move}
use Rattle.rules.specs.declared.Move.TheVariants.{Ends, Calls, Waits, Goes, Creates, Spawns, Meets, LacksThread, LacksChannel}
use Rattle.rules.specs.declared.Refusal.{Refusal}
use Rattle.rules.specs.declared.Refusal.TheVariants as Ground
use Rattle.rules.specs.declared.Deed.{Deed}
use Rattle.rules.specs.declared.Reason.{Reason}
use Rattle.rules.specs.declared.Reason.TheVariants.{AllDone, NoneReady, LackedThread, LackedChannel}
use Rattle.next_rows.specs.Around.{next_ready_in, around_none}
use Rattle.calls.specs.Course.{last_turn}
use Rattle.rules_laws.specs.Accepted.{granted}
use Rattle.rules_laws.specs.Shape.Laws.{view_bytes}
use Rattle.rules_laws.specs.Soundness.{Sound}
use Rattle.rules_laws.specs.Lasting.{move_kept, turn_kept}
use Rattle.engine_laws.specs.Entry.{Admitted, admitted_iff}
use Rattle.engine_laws.specs.Answers.{move_refused}
use Rattle.engine_laws.specs.Refusals.{step_refused_keeps}
use Rattle.engine_laws.specs.Buffers.{SoundBuffer, view_sound, bytes_sound}
use Rattle.engine_laws.specs.SoundCalls.{call_made}

-- ---- turns over bytes

-- the bytes of a state's buffer, with the turn one past thread t
unfoldable pub turn_past : List ℕ → ℕ → List ℕ
turn_past state t = state_bytes (past_turn (view state) t)

-- the first ready thread from the turn on; 64 where none is ready
abbrev pub due : List ℕ → ℕ
due state = next_ready (view state)

-- no thread is ready
abbrev pub Idle : List ℕ → Type 0
Idle state = (t : ℕ) → t < max_threads → is_ready (thread (view state) t) ≡ false

module _ (table : List ℕ) where
  -- what the step call answers for the thread that is due
  abbrev pub due_answer : List ℕ → Stepped
  due_answer state = (step_call table state (due state)).answer

  -- the bytes that the step of the thread that is due leaves, with the turn one past that thread
  unfoldable pub after_turn : List ℕ → List ℕ
  after_turn state = turn_past (step_call table state (due state)).state (due state)

  -- the bytes after k turns
  unfoldable pub after_turns : ℕ → List ℕ → List ℕ
  after_turns zero state = state
  after_turns (suc k) state = after_turns k (after_turn state)

-- what a run leaves, from the bytes after its steps: a thread that lacked a row has had its turn
unfoldable pub left_by : Reason → List ℕ → List ℕ
left_by AllDone state = state
left_by NoneReady state = state
left_by (LackedThread t) state = turn_past state t
left_by (LackedChannel t) state = turn_past state t

-- a run of at most n steps made k of them, ended for reason r and left the bytes `left`
pub record RunEnds (table state : List ℕ) (n k : ℕ) (r : Reason) (left : List ℕ) : Type 0 where
  pub at_most : k ≤ n
  -- each of the k steps is one that the step call makes
  pub steps : (i : ℕ) → i < k → (a : ℕ) × (d : Deed) × (due_answer table (after_turns table i state) ≡ Ok (a, d))
  -- the reason is 0 exactly if all steps that were asked for were made
  pub all_done : (r ≡ AllDone) ↔ (k ≡ n)
  -- the reason is 1 exactly if fewer were made and no thread is ready after them
  pub none_ready : (r ≡ NoneReady) ↔ ((k < n) × Idle (after_turns table k state))
  -- the reason is 2 or 3 exactly if fewer were made and the step call refuses the thread that is due after them, with 13 or with 14
  pub lacked_thread : (t : ℕ) → (r ≡ LackedThread t)
      ↔ ((k < n) × (t ≡ due (after_turns table k state)) × (due_answer table (after_turns table k state) ≡ Err Ground.ThreadRow))
  pub lacked_channel : (t : ℕ) → (r ≡ LackedChannel t)
      ↔ ((k < n) × (t ≡ due (after_turns table k state)) × (due_answer table (after_turns table k state) ≡ Err Ground.ChannelRow))
  pub leaves : left ≡ left_by r (after_turns table k state)

-- ---- a run that ends at once, and one step more before a run

-- what a turn comes to is told by the answer to the step, from whatever node
turn_answered : (n t : ℕ) (m : Move) → turn_by t m ≡ turn_for t (step_answer n m)
unfolding turn_by turn_for step_answer
turn_answered n t Ends = refl
turn_answered n t Calls = refl
turn_answered n t Waits = refl
turn_answered n t (Goes i) = refl
turn_answered n t (Creates i c) = refl
turn_answered n t (Spawns i u) = refl
turn_answered n t (Meets i u j) = refl
turn_answered n t LacksThread = refl
turn_answered n t LacksChannel = refl

module _ (table state : List ℕ) (n : ℕ) where
  none_asked : RunEnds table state 0 0 AllDone state
  unfolding after_turns left_by
  none_asked = record {
    at_most = omega arith;
    steps = λ i l. absurd (omega arith);
    all_done = (λ e. refl, λ e. refl);
    none_ready = (λ e. clash cc, λ q. absurd (let l = q.0 in omega arith));
    lacked_thread = λ t. (λ e. clash cc, λ q. absurd (let l = q.0 in omega arith));
    lacked_channel = λ t. (λ e. clash cc, λ q. absurd (let l = q.0 in omega arith));
    leaves = refl;
  }

  ends_idle : Idle state → due_answer table state ≡ Err Ground.Thread → RunEnds table state (suc n) 0 NoneReady state
  unfolding after_turns left_by
  ends_idle idle a = record {
    at_most = omega arith;
    steps = λ i l. absurd (omega arith);
    all_done = (λ e. clash cc, λ e. absurd (omega arith));
    none_ready = (λ e. (omega arith, idle), λ q. refl);
    lacked_thread = λ t. (λ e. clash cc, λ q. let f = q.2 in clash cc);
    lacked_channel = λ t. (λ e. clash cc, λ q. let f = q.2 in clash cc);
    leaves = refl;
  }

  -- the thread that is due is ready, and its step is refused
  module _ (l : due state < max_threads) where
    not_idle : ¬ Idle state
    not_idle idle = contra (next_ready_in (view state) l) (idle (due state) l)

    ends_thread_row : due_answer table state ≡ Err Ground.ThreadRow → RunEnds table state (suc n) 0 (LackedThread (due state)) (turn_past state (due state))
    unfolding after_turns left_by
    ends_thread_row a = record {
      at_most = omega arith;
      steps = λ i h. absurd (omega arith);
      all_done = (λ e. clash cc, λ e. absurd (omega arith));
      none_ready = (λ e. clash cc, λ q. absurd (not_idle q.1));
      lacked_thread = λ t. (λ e. (omega arith, cc, a), λ q. rw q.1);
      lacked_channel = λ t. (λ e. clash cc, λ q. let f = q.2 in clash cc);
      leaves = refl;
    }

    ends_channel_row : due_answer table state ≡ Err Ground.ChannelRow → RunEnds table state (suc n) 0 (LackedChannel (due state)) (turn_past state (due state))
    unfolding after_turns left_by
    ends_channel_row a = record {
      at_most = omega arith;
      steps = λ i h. absurd (omega arith);
      all_done = (λ e. clash cc, λ e. absurd (omega arith));
      none_ready = (λ e. clash cc, λ q. absurd (not_idle q.1));
      lacked_thread = λ t. (λ e. clash cc, λ q. let f = q.2 in clash cc);
      lacked_channel = λ t. (λ e. (omega arith, cc, a), λ q. rw q.1);
      leaves = refl;
    }

  -- a step, and then a run
  module _ (k : ℕ) (r : Reason) (left : List ℕ) (a : ℕ) (d : Deed) (e : due_answer table state ≡ Ok (a, d)) (run : RunEnds table (after_turn table state) n k r left) where
    each_step : (i : ℕ) → i < suc k → (a : ℕ) × (d : Deed) × (due_answer table (after_turns table i state) ≡ Ok (a, d))
    unfolding after_turns
    each_step zero l = (a, d, e)
    each_step (suc i) l = run.steps i (omega arith)

    one_step : RunEnds table state (suc n) (suc k) r left
    unfolding after_turns
    one_step = record {
      at_most = omega (arith, run.at_most);
      steps = each_step;
      all_done = (λ q. let f = run.all_done.0 q in omega arith, λ q. run.all_done.1 (omega arith));
      none_ready = (λ q. let (l, f) = run.none_ready.0 q in (omega arith, f), λ q. run.none_ready.1 (let l = q.0 in omega arith, q.1));
      lacked_thread = λ t. (λ q. let (l, f, g) = (run.lacked_thread t).0 q in (omega arith, f, g), λ q. (run.lacked_thread t).1 (let l = q.0 in omega arith, q.1, q.2));
      lacked_channel = λ t. (λ q. let (l, f, g) = (run.lacked_channel t).0 q in (omega arith, f, g), λ q. (run.lacked_channel t).1 (let l = q.0 in omega arith, q.1, q.2));
      leaves = run.leaves;
    }

-- ---- one turn, of an accepted table and a buffer that holds a sound state

module _ (table : List ℕ) (ok : accepted table ≡ true) (fit : (i : ℕ) → get_or table i 0 < 256) (state : List ℕ) (b : SoundBuffer table state) where
  abbrev tb : Table
  tb = table_of table

  abbrev s : State
  s = view state

  abbrev t : ℕ
  t = due state

  held : Sound tb s
  held = view_sound table state b

  -- the four ways in which a turn goes: a step is made, no thread is ready, a thread row is lacked, a channel row is lacked
  pub data Turns : Type 0 where
    went : (a : ℕ) (d : Deed) → due_answer table state ≡ Ok (a, d) → take_turn tb s ≡ turned (Continue tt) (view (after_turn table state)) → SoundBuffer table (after_turn table state) → Turns
    idle : Idle state → due_answer table state ≡ Err Ground.Thread → take_turn tb s ≡ turned (Break NoneReady) s → Turns
    no_thread_row : t < max_threads → due_answer table state ≡ Err Ground.ThreadRow → take_turn tb s ≡ turned (Break (LackedThread t)) (past_turn s t) → Turns
    no_channel_row : t < max_threads → due_answer table state ≡ Err Ground.ChannelRow → take_turn tb s ≡ turned (Break (LackedChannel t)) (past_turn s t) → Turns

  -- the step call on the thread that is due, said by the step on the state
  step_is : step_call table state t ≡ outcome (step_on tb s t).answer (state_bytes (step_on tb s t).state)
  unfolding step_call
  step_is = call_made table ok Err state b (step_on tb s t)

  -- where no thread is ready, the turn is idle
  module _ (e : ltb t max_threads ≡ false) where
    all_idle : Idle state
    unfolding next_ready is_ready_thread
    all_idle u l = around_none max_threads (turn s) (is_ready_thread s) (ltb-false t max_threads e) u l

    none_stepped : due_answer table state ≡ Err Ground.Thread
    unfolding step_on can_step
    none_stepped = ap (λ (o : Outcome Stepped). o.answer) step_is ∙ rw e

    idle_turn : Turns
    unfolding take_turn
    idle_turn = idle all_idle none_stepped (rw e)

  -- where thread t is ready, the turn is its step
  module _ (e : ltb t max_threads ≡ true) where
    below : t < max_threads
    below = ltb-true t max_threads e

    abbrev m : Move
    m = move tb s t

    abbrev answer : Stepped
    answer = step_answer (stands_at (thread s t)) m

    can : can_step s t ≡ true
    unfolding can_step
    can = rw (e, next_ready_in s below)

    made : step_on tb s t ≡ step_end answer s (perform tb s t m)
    unfolding step_on
    made = rw can

    turn_is : take_turn tb s ≡ turn_end tb s t (turn_for t answer)
    unfolding take_turn
    turn_is = rw (e, turn_answered (stands_at (thread s t)) t m)

    -- the state after the step is sound, and so it is with the turn moved
    moved : Sound tb (perform tb s t m)
    moved = move_kept tb (granted table ok fit) s held t below (next_ready_in s below)

    passed : Sound tb (past_turn (perform tb s t m) t)
    passed = turn_kept tb (perform tb s t m) moved t below

    went_turn : (a : ℕ) (d : Deed) → answer ≡ Ok (a, d) → Turns
    unfolding step_end turn_end turn_for after_turn turn_past
    went_turn a d f =
        let q : step_call table state t ≡ outcome (Ok (a, d)) (state_bytes (perform tb s t m)) = step_is ∙ rw (made, f) in
        let v : view (state_bytes (perform tb s t m)) ≡ perform tb s t m = view_bytes (perform tb s t m) moved.orderly.shaped in
        let w : after_turn table state ≡ state_bytes (past_turn (perform tb s t m) t) = rw (q, v) in
        went a d (ap (λ (o : Outcome Stepped). o.answer) q)
        (turn_is ∙ rw (f, w, view_bytes (past_turn (perform tb s t m) t) passed.orderly.shaped))
        (rw w (bytes_sound table (past_turn (perform tb s t m) t) passed))

    refused_turn : (q : Refusal) → answer ≡ Err q → (due_answer table state ≡ Err q) × (take_turn tb s ≡ turned (Break (reason_for t q)) (past_turn s t))
    unfolding step_end turn_end turn_for
    refused_turn q f = (ap (λ (o : Outcome Stepped). o.answer) step_is ∙ rw (made, f), turn_is ∙ rw f)

    ready_turn : (x : Stepped) → answer ≡ x → Turns
    unfolding reason_for
    ready_turn (Ok (a, d)) f = went_turn a d f
    ready_turn (Err q) f =
        ⊎_elim
        (λ k. let g : answer ≡ Err Ground.ThreadRow = f ∙ rw k.0 in let (h, w) = refused_turn Ground.ThreadRow g in no_thread_row below h w)
        (λ k. let g : answer ≡ Err Ground.ChannelRow = f ∙ rw k.0 in let (h, w) = refused_turn Ground.ChannelRow g in no_channel_row below h w)
        (move_refused (stands_at (thread s t)) m q f)

  pub turns : Turns
  turns = case_b (ltb t max_threads) (λ e. ready_turn e (answer e) refl) idle_turn

  -- ---- a turn is a step

  turn_is_by : Turns → (take_turn tb s).turn ≡ turn_for t (due_answer table state)
  unfolding turn_for reason_for
  turn_is_by (went a d f g h) = ap (λ (k : Turned). k.turn) g ∙ sym (ap (turn_for t) f)
  turn_is_by (idle h f g) = ap (λ (k : Turned). k.turn) g ∙ sym (ap (turn_for t) f)
  turn_is_by (no_thread_row l f g) = ap (λ (k : Turned). k.turn) g ∙ sym (ap (turn_for t) f)
  turn_is_by (no_channel_row l f g) = ap (λ (k : Turned). k.turn) g ∙ sym (ap (turn_for t) f)

  -- a step that is refused leaves the bytes as they were
  past_refused : (q : Refusal) → due_answer table state ≡ Err q → turn_past state t ≡ after_turn table state
  unfolding after_turn
  past_refused q f = ap (λ x. turn_past x t) (sym (step_refused_keeps table state b.small t q f))

  left_by_lem : Turns → t < max_threads → state_bytes (take_turn tb s).state ≡ after_turn table state
  unfolding turn_past
  left_by_lem (went a d f g h) l = ap (λ (k : Turned). state_bytes k.state) g ∙ bytes_view (after_turn table state) h.long h.small
  left_by_lem (idle h f g) l = absurd (not_idle table state 0 l h)
  left_by_lem (no_thread_row l f g) h = ap (λ (k : Turned). state_bytes k.state) g ∙ past_refused Ground.ThreadRow f
  left_by_lem (no_channel_row l f g) h = ap (λ (k : Turned). state_bytes k.state) g ∙ past_refused Ground.ChannelRow f

  -- what a turn comes to is told by the answer of the step call
  pub turn_told : (take_turn tb s).turn ≡ turn_for t (due_answer table state)
  turn_told = turn_is_by turns

  -- a turn leaves what the step call leaves, with the turn one past the thread
  pub turn_leaves : t < max_threads → state_bytes (take_turn tb s).state ≡ after_turn table state
  turn_leaves = left_by_lem turns

-- ---- runs

module _ (table : List ℕ) (ok : accepted table ≡ true) (fit : (i : ℕ) → get_or table i 0 < 256) where
  -- how far a course came, from the bytes of a buffer
  abbrev Came : List ℕ → ℕ → Course → Type 0
  Came state n k = RunEnds table state n k.steps k.reason (state_bytes k.state)

  came_by : (n : ℕ) (state : List ℕ) (b : SoundBuffer table state) → Turns table ok fit state b
      → ((x : List ℕ) → SoundBuffer table x → Came x n (course_of (table_of table) n (view x)))
      → Came state (suc n) (course_of (table_of table) (suc n) (view state))
  unfolding course_of onward one_more turn_past
  came_by n state b (went a d f g h) rest = rw g (one_step table state n _ _ _ a d f (rest (after_turn table state) h))
  came_by n state b (idle h f g) rest = rw (g, bytes_view state b.long b.small) (ends_idle table state n h f)
  came_by n state b (no_thread_row l f g) rest = rw g (ends_thread_row table state n l f)
  came_by n state b (no_channel_row l f g) rest = rw g (ends_channel_row table state n l f)

  came : (n : ℕ) (state : List ℕ) → SoundBuffer table state → Came state n (course_of (table_of table) n (view state))
  unfolding course_of
  came zero state b = rw (bytes_view state b.long b.small) (none_asked table state 0)
  came (suc n) state b = came_by n state b (turns table ok fit state b) (came n)

-- ---- the theorems, of any table and any state in buffers of bytes

module _ (table state : List ℕ) (fit : (i : ℕ) → get_or table i 0 < 256) (small : (i : ℕ) → get_or state i 0 < 256) where
  -- buffers that are admitted hold an accepted table and a sound state
  sound_if : Admitted table state → (accepted table ≡ true) × SoundBuffer table state
  sound_if a = let (l, ok, e) = (admitted_iff table state).0 a in (ok, record { long = l.1; small = small; tested = e })

  -- a run that is not refused, k steps long, is k turns, each a step of the first ready thread by the step call; and it ends for each reason exactly
  -- when that reason is due
  pub run_ends : (n k : ℕ) (r : Reason) → (run_call table state n).answer ≡ Ok (k, r) → RunEnds table state n k r (run_call table state n).state
  unfolding run_call run_on
  run_ends n k r e =
      let on = run_on (table_of table) (view state) n in
      let (a, f) = (call_answer Err table state on (Ok (k, r)) (λ g h i. clash cc)).0 e in
      let (ok, b) = sound_if a in
      let c : Course = course_of (table_of table) n (view state) in
      let made : ◌≡◌ {A = ℕ × Reason} (c.steps, c.reason) (k, r) = cc in
      let p : c.steps ≡ k = ap (λ (x : ℕ × Reason). x.0) made in
      let q : c.reason ≡ r = ap (λ (x : ℕ × Reason). x.1) made in
      rw (call_admitted Err table state on a, ← p, ← q) (came table ok fit n state b)

  -- a run of one step, where a thread is ready, leaves what the step call leaves for the first ready thread, with the turn one past it
  pub one_turn : Admitted table state → due state < max_threads → (run_call table state 1).state ≡ after_turn table state
  unfolding run_call run_on course_of
  one_turn a l =
      let (ok, b) = sound_if a in
      rw (call_admitted Err table state (run_on (table_of table) (view state) 1) a)
      (ap state_bytes (last_turn (table_of table) (take_turn (table_of table) (view state)).turn (take_turn (table_of table) (view state)).state) ∙ turn_leaves table ok fit state b l)

  -- with the turn moved past thread t, the turn is the thread after t, and nothing else is changed
  pub turn_stands : Admitted table state → (t : ℕ) → t < max_threads → view (turn_past state t) ≡ with_mark (view state) 2 (one_up max_threads t)
  unfolding turn_past past_turn
  turn_stands a t l =
      let (ok, b) = sound_if a in
      let h = turn_kept (table_of table) (view state) (view_sound table state b) t l in
      view_bytes (past_turn (view state) t) h.orderly.shaped
