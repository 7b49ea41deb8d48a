-- Every call on a sound state leaves a sound state, performed or refused, and a start that is not refused writes one. Assumes nothing.
use Rattle.rules.specs.Answers.{Started}
use Rattle.std.specs.Prelude.{ℕ, ◌<◌, ◌≡◌, true, List, length, get_or, Err, Ok}
use Rattle.std.proofs.Common.{ap, eqb-true}
use Rattle.numbers.specs.Tests.{parts, clash}
use Rattle.table.specs.Table.{table_of}
use Rattle.loader.specs.Load.{table_length, accepted}
use Rattle.state.specs.State.{state_length, view, state_bytes}
use Rattle.rules.specs.Start.{started}
use Rattle.rules.specs.Calls.{Outcome, outcome, After, start_admission, admission, on_buffers, start_on, start_call, step_on, step_call, give_on, give_call, take_on, take_call, course_of, run_on, run_call}
use Rattle.rules.specs.Calls.Laws.{by_admitted, by_answer, call_admitted}
use Rattle.rules.specs.declared.Refusal.{Refusal}
use Rattle.rules_laws.specs.Granted.{Granted}
use Rattle.rules_laws.specs.Accepted.{granted}
use Rattle.rules_laws.specs.Shape.Laws.{view_bytes}
use Rattle.rules_laws.specs.Soundness.{Sound}
use Rattle.rules_laws.specs.Lasting.{step_on_kept, give_on_kept, take_on_kept, run_on_kept}
use Rattle.rules_laws.specs.Started.{started_sound}
use Rattle.engine_laws.specs.Entry.{RightLengths, start_admitted_iff, admitted_iff}
use Rattle.engine_laws.specs.Buffers.{SoundBuffer, view_sound, bytes_sound}

module _ (table : List ℕ) (ok : accepted table ≡ true) where
  pub right_lengths : (state : List ℕ) → length state ≡ state_length → RightLengths table state
  unfolding accepted
  right_lengths state long = (eqb-true (length table) table_length (search parts), long)

  -- start is not refused: it asks nothing of the state but its length
  pub start_made : (state : List ℕ) → length state ≡ state_length → start_call table state ≡ outcome (Ok tt) (state_bytes (started (table_of table)))
  unfolding start_call start_on
  start_made state long =
      by_admitted Err state (start_on (table_of table)) (start_admission table state) ((start_admitted_iff table state).1 (right_lengths state long, ok))

  pub start_done : (state : List ℕ) → length state ≡ state_length → (start_call table state).answer ≡ Ok tt
  start_done state long = ap (λ (o : Outcome Started). o.answer) (start_made state long)

  -- a sound buffer is refused on none of the grounds 8, 9 and 10
  pub admitted : (state : List ℕ) → SoundBuffer table state → admission table state ≡ Ok tt
  admitted state b = (admitted_iff table state).1 (right_lengths state b.long, ok, b.tested)

  -- ---- a call on a sound buffer, k being the call on the state that it holds

  module _ {A : Type 0} (refused : Refusal → A) (state : List ℕ) (b : SoundBuffer table state) (k : After A) where
    pub call_made : on_buffers refused table state k ≡ outcome k.answer (state_bytes k.state)
    call_made = call_admitted refused table state k (admitted state b)

    -- where the call on the state leaves a sound state, the buffer holds it afterwards
    module _ (h : Sound (table_of table) k.state) where
      pub call_sound : SoundBuffer table (on_buffers refused table state k).state
      call_sound = rw call_made (bytes_sound table k.state h)

      pub call_view : view (on_buffers refused table state k).state ≡ k.state
      call_view = rw call_made (view_bytes k.state h.orderly.shaped)

-- ---- a table that is accepted, and what its calls leave
module _ (table : List ℕ) (ok : accepted table ≡ true) (fit : (i : ℕ) → get_or table i 0 < 256) where
  grants : Granted (table_of table)
  grants = granted table ok fit

  -- after a start that is not refused the buffer holds a sound state, whatever it held before
  pub start_sound : (state : List ℕ) → (start_call table state).answer ≡ Ok tt → SoundBuffer table (start_call table state).state
  unfolding start_call start_on
  start_sound state e =
      let a = ((by_answer Err state (start_on (table_of table)) (start_admission table state) (Ok tt) (λ r f g. clash cc)).0 e).0 in
      rw (by_admitted Err state (start_on (table_of table)) (start_admission table state) a)
      (bytes_sound table (started (table_of table)) (started_sound (table_of table) grants))

  pub start_view : (state : List ℕ) → length state ≡ state_length → view (start_call table state).state ≡ started (table_of table)
  start_view state long = rw (start_made table ok state long) (view_bytes (started (table_of table)) (started_sound (table_of table) grants).orderly.shaped)

  module _ (state : List ℕ) (b : SoundBuffer table state) where
    held : Sound (table_of table) (view state)
    held = view_sound table state b

    -- a step, of whatever thread
    pub step_sound : (t : ℕ) → SoundBuffer table (step_call table state t).state
    unfolding step_call
    step_sound t = call_sound table ok Err state b (step_on (table_of table) (view state) t) (step_on_kept (table_of table) grants (view state) held t)

    -- a give of a 32-bit number, on whatever port
    pub give_sound : (p v : ℕ) → v < 4294967296 → SoundBuffer table (give_call table state p v).state
    unfolding give_call
    give_sound p v h = call_sound table ok Err state b (give_on (table_of table) (view state) p v) (give_on_kept (table_of table) grants (view state) held p v h)

    -- a take, on whatever port
    pub take_sound : (p : ℕ) → SoundBuffer table (take_call table state p).state
    unfolding take_call
    take_sound p = call_sound table ok Err state b (take_on (table_of table) (view state) p) (take_on_kept (table_of table) grants (view state) held p)

    -- a run of at most n steps
    pub run_sound : (n : ℕ) → SoundBuffer table (run_call table state n).state
    unfolding run_call
    run_sound n = call_sound table ok Err state b (run_on (table_of table) (view state) n) (run_on_kept (table_of table) grants (view state) held n)

    pub run_view : (n : ℕ) → view (run_call table state n).state ≡ (course_of (table_of table) n (view state)).state
    unfolding run_call run_on
    run_view n = call_view table ok Err state b (run_on (table_of table) (view state) n) (run_on_kept (table_of table) grants (view state) held n)
