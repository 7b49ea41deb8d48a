-- Who takes part in a run, turn by turn: in each turn those who take part in the step of the thread that is due, from the bytes that the turns before it leave.
-- Of an accepted table and a buffer that holds a sound state. Assumes nothing.
use Rattle.std.specs.declared.ops.ControlFlow.TheVariants.{Break, Continue}
use Rattle.rules.specs.Answers.{Turn}
use Prim.Native.Nat.{ℕ, zero, suc, ◌<◌}
use Rattle.std.proofs.Common.{arith, ap}
use Rattle.std.specs.Prelude.{◌≡◌, true, ltb, get_or}
use Rattle.std.proofs.Math.Path.{refl}
use mathlib.Core.List.{List, [], ◌++◌}
use Rattle.numbers.specs.Search.Laws.{case_b}
use Rattle.numbers.specs.Tests.{clash}
use Rattle.table.specs.Table.{Table, table_of}
use Rattle.loader.specs.Load.{accepted}
use Rattle.state.specs.State.{State, max_threads, view}
use Rattle.rules.specs.Moves.{move}
use Rattle.rules.specs.Calls.{step_answer, next_ready, turn_for, turn_by, one_more, Turned, turned, onward, turn_end, take_turn, course_of}
use Rattle.rules.specs.declared.Move.{Move}
use Rattle.rules.specs.declared.Move.TheVariants.{Ends, Calls, Waits, Goes, Creates, Spawns, Meets, LacksThread, LacksChannel}
use Rattle.rules.specs.declared.Reason.{Reason}
use Rattle.rules_laws.specs.Frames.{movers}
use Rattle.engine_laws.specs.Movers.{turn_movers, onward_movers, ran_movers}
use Rattle.engine_laws.specs.Buffers.{SoundBuffer}
use Rattle.engine_laws.specs.Reasons.{after_turn, after_turns, Turns, went, idle, no_thread_row, no_channel_row, turns}

-- the lists f 0, f 1, .., f (k - 1), one behind the other
unfoldable pub in_turn : ℕ → (ℕ → List ℕ) → List ℕ
in_turn zero f = []
in_turn (suc k) f = f 0 ++ in_turn k (λ i. f (suc i))

pub in_turn_same : (k : ℕ) (f g : ℕ → List ℕ) → ((i : ℕ) → i < k → f i ≡ g i) → in_turn k f ≡ in_turn k g
unfolding in_turn
in_turn_same zero f g h = refl
in_turn_same (suc k) f g h = rw (h 0 (omega arith), in_turn_same k (λ i. f (suc i)) (λ i. g (suc i)) (λ i l. h (suc i) (omega arith)))

-- ---- nobody takes part in a turn in which no step is made

lacks_nobody : (t : ℕ) (m : Move) (r : Reason) → turn_by t m ≡ Break r → movers t m ≡ []
unfolding turn_by turn_for step_answer movers
lacks_nobody t Ends r e = clash cc
lacks_nobody t Calls r e = clash cc
lacks_nobody t Waits r e = clash cc
lacks_nobody t (Goes i) r e = clash cc
lacks_nobody t (Creates i c) r e = clash cc
lacks_nobody t (Spawns i u) r e = clash cc
lacks_nobody t (Meets i u j) r e = clash cc
lacks_nobody t LacksThread r e = refl
lacks_nobody t LacksChannel r e = refl

end_turn : (tb : Table) (s : State) (t : ℕ) (w : Turn) → (turn_end tb s t w).turn ≡ w
unfolding turn_end
end_turn tb s t (Continue tt) = refl
end_turn tb s t (Break r) = refl

stopped_nobody : (tb : Table) (s : State) (r : Reason) → (take_turn tb s).turn ≡ Break r → turn_movers tb s ≡ []
unfolding take_turn turn_movers
stopped_nobody tb s r e =
    let t = next_ready s in
    case_b (ltb t max_threads)
    (λ y. let f : (turn_end tb s t (turn_by t (move tb s t))).turn ≡ Break r = rw y at e in
    rw y (lacks_nobody t (move tb s t) r (rw (end_turn tb s t (turn_by t (move tb s t))) at f)))
    (λ y. rw y)

-- ---- runs

module _ (table : List ℕ) (ok : accepted table ≡ true) (fit : (i : ℕ) → get_or table i 0 < 256) where
  abbrev tb : Table
  tb = table_of table

  -- who takes part in turn i
  abbrev at_turn : List ℕ → ℕ → List ℕ
  at_turn state i = turn_movers tb (view (after_turns table i state))

  abbrev Taken : ℕ → List ℕ → Type 0
  Taken n state = ran_movers tb n (view state) ≡ in_turn (course_of tb n (view state)).steps (at_turn state)

  none_more : (n : ℕ) (state : List ℕ) (r : Reason) (s : State) → take_turn tb (view state) ≡ turned (Break r) s → Taken (suc n) state
  unfolding ran_movers onward_movers course_of onward in_turn
  none_more n state r s g = rw (stopped_nobody tb (view state) r (ap (λ (k : Turned). k.turn) g), g)

  taken_by_lem : (n : ℕ) (state : List ℕ) (b : SoundBuffer table state) → Turns table ok fit state b → ((x : List ℕ) → SoundBuffer table x → Taken n x) → Taken (suc n) state
  unfolding ran_movers onward_movers course_of onward one_more in_turn after_turns
  taken_by_lem n state b (went a d f g h) rest = rw g (ap (λ (who : List ℕ). turn_movers tb (view state) ++ who) (rest (after_turn table state) h))
  taken_by_lem n state b (idle h f g) rest = none_more n state _ _ g
  taken_by_lem n state b (no_thread_row l f g) rest = none_more n state _ _ g
  taken_by_lem n state b (no_channel_row l f g) rest = none_more n state _ _ g

  -- who takes part in a run is who takes part in its turns, as many as it has steps
  pub run_in_turn : (n : ℕ) (state : List ℕ) → SoundBuffer table state → Taken n state
  unfolding ran_movers course_of in_turn
  run_in_turn zero state b = refl
  run_in_turn (suc n) state b = taken_by_lem n state b (turns table ok fit state b) (run_in_turn n)
