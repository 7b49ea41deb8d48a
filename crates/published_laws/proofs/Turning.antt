-- A run is as many turns as it has steps, one after the other, each of the thread that is the first ready from the turn on. Assumes nothing but what the table
-- grants.
use Rattle.std.specs.declared.ops.ControlFlow.TheVariants.{Break, Continue}
use Rattle.rules.specs.Answers.{Turn}
use Prim.Native.Nat.{ℕ, zero, suc, ◌<◌}
use Rattle.std.proofs.Common.{arith, ◌∙◌}
use Rattle.std.specs.Prelude.{◌≡◌, true, ltb, get_or}
use Rattle.std.proofs.Math.Path.{refl, sym, ap}
use mathlib.Core.List.{List, [], ◌∷◌}
use borrow.Author.Tests.{ltb-true}
use Rattle.numbers.specs.Search.{tabulate}
use Rattle.numbers.specs.Search.Laws.{case_b, get_d_tabulate, length_tabulate, is_tabulate, tabulate_none, tabulate_cong}
use Rattle.numbers.specs.Tests.{clash}
use Rattle.table.specs.Table.{Table}
use Rattle.state.specs.State.{State, max_threads, thread, is_ready, with_mark}
use Rattle.rules.specs.Moves.{move}
use Rattle.rules.specs.Calls.{step_answer, next_ready, past_turn, turn_for, turn_by, onward, one_more, turn_end, take_turn, course_of}
use Rattle.rules.specs.declared.Move.{Move}
use Rattle.rules.specs.declared.Move.TheVariants.{Ends, Calls, Waits, Goes, Creates, Spawns, Meets, LacksThread, LacksChannel}
use Rattle.rules.specs.declared.Reason.{Reason}
use Rattle.next_rows.specs.Around.{next_ready_in}
use Rattle.rules_laws.specs.Granted.{Granted}
use Rattle.rules_laws.specs.Soundness.{Sound}
use Rattle.rules_laws.specs.Lasting.{take_turn_kept}
use Rattle.published.specs.Agents.{Thread}
use Rattle.published.specs.Fired.{SteppedBy, Had, Turns, none_had, had}
use Rattle.published_laws.specs.Readable.{Readable}
use Rattle.published_laws.specs.Standing.{body_of, thread_of, channels_of, agent_of, OurRules, OurLabels}
use Rattle.published_laws.specs.Products.{Bench}
use Rattle.published_laws.specs.Firing.{fired_by, next_had, had_in}
use Rattle.published_laws.specs.Stepping.{Allowed}
use Rattle.published_laws.proofs.Stepping.{step_reduced}

went_allowed : (t : ℕ) (m : Move) → turn_by t m ≡ Continue tt → Allowed m
unfolding step_answer turn_for turn_by Allowed
went_allowed t Ends e = tt
went_allowed t Calls e = tt
went_allowed t Waits e = tt
went_allowed t (Goes i) e = tt
went_allowed t (Creates i c) e = tt
went_allowed t (Spawns i u) e = tt
went_allowed t (Meets i u j) e = tt
went_allowed t LacksThread e = clash cc
went_allowed t LacksChannel e = clash cc

went_stopped : {A : Type 0} (r : Reason) → ◌≡◌ {A = Turn} (Break r) (Continue tt) → A
went_stopped r e = clash cc

-- a list of the numbers below n and one more, by its first
front : {A : Type 0} (n : ℕ) (f : ℕ → A) (d : A) → f 0 ∷ tabulate n (λ i. f (suc i)) ≡ tabulate (suc n) f
front n f d =
    is_tabulate (f 0 ∷ tabulate n (λ i. f (suc i))) (suc n) f d (ap suc (length_tabulate n (λ i. f (suc i)))) by_place
  where
    by_place : (k : ℕ) → k < suc n → get_or (f 0 ∷ tabulate n (λ i. f (suc i))) k d ≡ f k
    by_place zero l = refl
    by_place (suc k) l = get_d_tabulate n k (λ i. f (suc i)) d (omega arith)

no_steps : (tb : Table) (s : State) → had_in tb s 0 ≡ []
unfolding had_in
no_steps tb s = tabulate_none (λ i. next_had tb (course_of tb i s).state)

module _ (tb : Table) (g : Granted tb) (rd : Readable tb) (b : Thread) (bn : Bench tb b) where
  -- what thread t's turn comes to, where it went and where it stopped
  turn_went : (s : State) → Sound tb s → (t : ℕ) → t < max_threads → is_ready (thread s t) ≡ true → turn_by t (move tb s t) ≡ Continue tt
      → SteppedBy (body_of tb) (OurRules tb) (OurLabels tb) (agent_of tb b s) (thread_of tb (thread s t)) (fired_by tb s t (move tb s t))
      (agent_of tb b (turn_end tb s t (Continue tt)).state)
  unfolding turn_end agent_of channels_of past_turn with_mark
  turn_went s ok t l r e = step_reduced tb g rd s ok t l r b bn (went_allowed t (move tb s t) e)

  turn_stopped : (s : State) (t : ℕ) (w : Turn) (r : Reason) → (turn_end tb s t w).turn ≡ Break r → agent_of tb b (turn_end tb s t w).state ≡ agent_of tb b s
  unfolding turn_end agent_of channels_of past_turn with_mark
  turn_stopped s t (Continue tt) r e = clash cc
  turn_stopped s t (Break x) r e = refl

  end_turn : (s : State) (t : ℕ) (w : Turn) → (turn_end tb s t w).turn ≡ w
  unfolding turn_end
  end_turn s t (Continue tt) = refl
  end_turn s t (Break r) = refl

  -- the turn that a run takes is a turn of the next ready thread
  took_turn : (s : State) → Sound tb s → (take_turn tb s).turn ≡ Continue tt
      → SteppedBy (body_of tb) (OurRules tb) (OurLabels tb) (agent_of tb b s) (next_had tb s).who (next_had tb s).does (agent_of tb b (take_turn tb s).state)
  unfolding take_turn next_had
  took_turn s ok e =
      let t = next_ready s in
      let w = turn_by t (move tb s t) in
      case_b (ltb t max_threads)
      (λ y. let l : t < max_threads = ltb-true t max_threads y in
      let q : w ≡ Continue tt = sym (end_turn s t w) ∙ (rw y at e) in
      rw (y, q) (turn_went s ok t l (next_ready_in s l) q))
      (λ y. went_stopped _ (rw y at e))

  no_turn : (s : State) (r : Reason) → (take_turn tb s).turn ≡ Break r → agent_of tb b (take_turn tb s).state ≡ agent_of tb b s
  unfolding take_turn
  no_turn s r e =
      let t = next_ready s in
      case_b (ltb t max_threads) (λ y. rw y (turn_stopped s t (turn_by t (move tb s t)) r (rw y at e))) (λ y. rw y)

  -- after a turn that went the run is the run from there
  later_same : (s : State) (k : ℕ) → (take_turn tb s).turn ≡ Continue tt → next_had tb s ∷ had_in tb (take_turn tb s).state k ≡ had_in tb s (suc k)
  unfolding had_in course_of onward one_more
  later_same s k e =
      let f : ℕ → Had = λ i. next_had tb (course_of tb i s).state in
      ap (λ (l : List Had). next_had tb s ∷ l)
      (tabulate_cong k (λ i. next_had tb (course_of tb i (take_turn tb s).state).state) (λ i. f (suc i)) (λ i l. rw e))
      ∙ front k f (next_had tb s)

  onward_turns : (n : ℕ) (s : State) → Sound tb s → (w : Turn) → (take_turn tb s).turn ≡ w
      → Turns (body_of tb) (OurRules tb) (OurLabels tb) (had_in tb (take_turn tb s).state (course_of tb n (take_turn tb s).state).steps)
      (agent_of tb b (take_turn tb s).state) (agent_of tb b (course_of tb n (take_turn tb s).state).state)
      → Turns (body_of tb) (OurRules tb) (OurLabels tb) (had_in tb s (onward w (take_turn tb s).state (course_of tb n)).steps)
      (agent_of tb b s) (agent_of tb b (onward w (take_turn tb s).state (course_of tb n)).state)
  unfolding onward one_more
  onward_turns n s ok (Continue tt) e h = rw (← later_same s (course_of tb n (take_turn tb s).state).steps e) (had (took_turn s ok e) h)
  onward_turns n s ok (Break r) e h = rw (no_turn s r e, no_steps tb s) none_had

  -- a run of at most n steps
  pub course_turns : (n : ℕ) (s : State) → Sound tb s
      → Turns (body_of tb) (OurRules tb) (OurLabels tb) (had_in tb s (course_of tb n s).steps) (agent_of tb b s) (agent_of tb b (course_of tb n s).state)
  unfolding course_of
  course_turns zero s ok = rw (no_steps tb s) none_had
  course_turns (suc n) s ok =
      onward_turns n s ok (take_turn tb s).turn refl (course_turns n (take_turn tb s).state (take_turn_kept tb g s ok))
