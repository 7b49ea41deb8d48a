-- Where 002's rules are enough for the engine's move, its turn is a whole turn; so `Conversely.antt` does not speak of nothing. Assumes nothing but what the
-- table grants.
use Prim.Native.Nat.{ℕ, zero, suc, ◌+◌, ◌-◌, ◌<◌}
use native.Mathlib.Omega.{arith}
use Rattle.std.specs.Prelude.{◌≡◌, true, false, cond}
use Rattle.std.proofs.Math.Path.{refl, ap}
use Rattle.std.proofs.Common.{◌∙◌}
use mathlib.Core.List.{List, [], ◌∷◌, ◌++◌, append-nil, append_assoc}
use Rattle.numbers.specs.Search.Laws.{contra}
use Rattle.table.specs.Table.{Table}
use Rattle.table.specs.Layout.{branch_count}
use Rattle.state.specs.State.{State, max_threads, thread, stands_at, is_ready, with_thread}
use Rattle.rules.specs.Program.{kind_of, branch_at, act_of, guard_holds}
use Rattle.rules.specs.Moves.{move, waiting_row, side_of, written}
use Rattle.rules.specs.declared.Direction.{Direction}
use Rattle.rules.specs.declared.Direction.TheVariants.{Out, In}
use Rattle.rules.specs.declared.Act.{Act}
use Rattle.rules.specs.declared.Act.TheVariants.{Tau, Meeting, New, Spawn, Assignment}
use Rattle.rules.specs.declared.Move.{Move}
use Rattle.rules.specs.declared.Move.TheVariants.{Ends, Calls, Waits, Goes, Creates, Spawns, Meets, LacksThread, LacksChannel}
use Rattle.rules_laws.specs.Granted.{Granted}
use Rattle.rules_laws.specs.Reading.Laws.{ready_used, waiting_used}
use Rattle.rules_laws.specs.Soundness.{Orderly, Sound}
use Rattle.rules_laws.specs.ThreadRow.{waiting_waits}
use Rattle.rules_laws.specs.Chosen.{Chosen, chosen}
use Rattle.published.specs.Syntax.{Sum, nothing, and_wait, waits, waiting}
use Rattle.published.specs.Agents.{Commitment, Thread, agent}
use Rattle.published.specs.Rules.{Rearranged, Nothing}
use Rattle.published.specs.ProductLaws.{turned_back}
use Rattle.published.specs.Fired.{by_passing, fired, nothing_fires, ActsBy, TurnBy}
use Rattle.published.specs.Whole.{Whole, WholeTurn, first_waits, passing}
use Rattle.published.proofs.Whole.{action_whole, passed_so, rested_so}
use Rattle.published_laws.specs.Readable.{Readable}
use Rattle.published_laws.specs.Standing.{sum_before, process_at, body_of, committed, commitments_from, ready_thread, thread_of, threads_of, channels_of, agent_of}
use Rattle.published_laws.specs.Unrolled.{wait_behind, one_more_wait}
use Rattle.published_laws.specs.Products.{Bench, ready_thread_lem}
use Rattle.published_laws.specs.Firing.{going_rule, meeting_rule, fired_by}
use Rattle.published_laws.proofs.Passing.{Passed, others, tip, midway, left_by_lem, pass_one}
use Rattle.published_laws.proofs.Alone.{own_first, new_first, at_choice, wait_thread}
use Rattle.published_laws.proofs.EnabledAlike.{some_waits}
use Rattle.published_laws.specs.Stepping.{Plain}
use Rattle.published_laws.proofs.Stepping.{turn_published}
use Rattle.published_laws.proofs.Conversely.{all_passed}

-- ---- a wait, where all guards are true: (out) and (in) to the last branch

module _ (tb : Table) (g : Granted tb) (rd : Readable tb) (s : State) (o : Orderly tb s) (t : ℕ) (l : t < max_threads) (ready : is_ready (thread s t) ≡ true)
    (b : Thread) (bn : Bench tb b)
    (true_guards : (i : ℕ) → i < branch_count tb (stands_at (thread s t)) → guard_holds tb (branch_at tb (stands_at (thread s t)) i) (thread s t) ≡ true)
    (all : (i : ℕ) → i < branch_count tb (stands_at (thread s t)) → Passed tb s t i) where
  abbrev rest : List Thread
  rest = others tb g rd s o t l ready b bn

  -- what branch i leaves
  abbrev left_by : ℕ → List Commitment
  left_by i =
      cond (guard_holds tb (branch_at tb (stands_at (thread s t)) i) (thread s t))
      (committed tb (thread s t) (branch_at tb (stands_at (thread s t)) i) (act_of tb (branch_at tb (stands_at (thread s t)) i))) []

  one : (i : ℕ) → i < branch_count tb (stands_at (thread s t)) → (Γ : List Commitment) (q : Sum)
      → ActsBy (body_of tb) Nothing nothing_fires (fired 0 by_passing)
      (agent (channels_of s) (midway tb g rd s o t l ready b bn Γ (tip tb g rd s o t l ready b bn i q) ∷ rest))
      (agent (channels_of s) (midway tb g rd s o t l ready b bn (Γ ++ left_by i) (and_wait q) ∷ rest))
  unfolding left_by_lem
  one i m Γ q =
      pass_one tb g rd s o t l ready b bn Nothing nothing_fires (λ j n f A C x. contra (true_guards j n) f) rest (λ x k. k) (channels_of s) i m (all i m) Γ q

  -- the branches from i on, one and m more
  to_the_last : (m i : ℕ) → i + suc m ≡ branch_count tb (stands_at (thread s t)) → (Γ : List Commitment)
      → Whole (body_of tb)
      (agent (channels_of s) (midway tb g rd s o t l ready b bn Γ (sum_before tb (process_at tb) (waits i) (stands_at (thread s t)) i (suc m)) ∷ rest))
      (agent (channels_of s) (midway tb g rd s o t l ready b bn (Γ ++ commitments_from tb (thread s t) i (suc m)) (waits (i + suc m)) ∷ rest))
  unfolding sum_before commitments_from tip first_waits waiting
  to_the_last zero i e Γ =
      let z : i + 1 ≡ suc i = omega arith in
      let r = rw (one_more_wait i) at (one i (omega arith) Γ (waits i)) in
      rw (z, append-nil (left_by i)) (rested_so (body_of tb) r (some_waits (suc i) (omega arith)))
  to_the_last (suc m) i e Γ =
      let n = stands_at (thread s t) in
      let v = wait_behind tb (process_at tb) (waits i) n (suc i) (suc m) ∙ ap (λ (q : Sum). sum_before tb (process_at tb) q n (suc i) (suc m)) (one_more_wait i) in
      let z : i + suc (suc m) ≡ suc i + suc m = omega arith in
      let h = to_the_last m (suc i) (omega arith) (Γ ++ left_by i) in
      let Q = sum_before tb (process_at tb) (waits i) n (suc i) (suc m) in
      let h' : Whole (body_of tb) (agent (channels_of s) (midway tb g rd s o t l ready b bn (Γ ++ left_by i) (and_wait Q) ∷ rest))
      (agent (channels_of s) (midway tb g rd s o t l ready b bn (Γ ++ (left_by i ++ commitments_from tb (thread s t) (suc i) (suc m)))
      (waits (i + suc (suc m))) ∷ rest)) =
      rw (v, z, ← append_assoc Γ (left_by i) (commitments_from tb (thread s t) (suc i) (suc m))) h in
      passed_so (body_of tb) (one i (omega arith) Γ Q) h'

  waits_whole : (n : ℕ) → branch_count tb (stands_at (thread s t)) ≡ suc n → kind_of tb (stands_at (thread s t)) ≡ 1
      → WholeTurn (body_of tb) (agent_of tb b s) (ready_thread tb (thread s t)) (agent_of tb b (written tb s t Waits))
  unfolding agent_of channels_of written with_thread waits
  waits_whole n e k =
      let row = thread s t in
      let q = sum_before tb (process_at tb) nothing (stands_at row) 0 (suc n) in
      let no_more : 0 + suc n ≡ suc n = omega arith in
      let w : Whole (body_of tb) (agent (channels_of s) (midway tb g rd s o t l ready b bn [] q ∷ rest))
      (agent (channels_of s) (thread_of tb (waiting_row row) ∷ rest)) =
      rw (wait_thread tb g rd s o t l ready b bn, e) (rw no_more at (to_the_last n 0 (omega (arith, e)) [])) in
      let start : Rearranged (b ∷ threads_of tb s.threads) (midway tb g rd s o t l ready b bn [] q ∷ rest) =
      rw (at_choice tb g rd s o t l ready b bn k, e) at (own_first tb g rd s o t l ready b bn) in
      rw (at_choice tb g rd s o t l ready b bn k, e) (record {
        others = rest;
        brought = start;
        product = thread_of tb (waiting_row row) ∷ rest;
        whole = w;
        put_back = turned_back (new_first tb g rd s o t l ready b bn (waiting_row row) (waiting_used (waiting_row row) (waiting_waits row)));
      })

-- ---- every move for which 002's rules are enough

going_acts : (a : Act) → passing (going_rule a) ≡ false
unfolding passing going_rule
going_acts Tau = refl
going_acts (Meeting d) = refl
going_acts New = refl
going_acts Spawn = refl
going_acts Assignment = refl

meeting_acts : (d : Direction) (u : Thread) (k : Commitment) → passing (meeting_rule d u k) ≡ false
unfolding passing meeting_rule
meeting_acts Out u k = refl
meeting_acts In u k = refl

module _ (tb : Table) (g : Granted tb) (rd : Readable tb) (s : State) (ok : Sound tb s) (t : ℕ) (l : t < max_threads) (ready : is_ready (thread s t) ≡ true)
    (b : Thread) (bn : Bench tb b) where
  by_move : (m : Move) → Chosen tb s t m → Plain tb (thread s t) m
      → TurnBy (body_of tb) Nothing nothing_fires (agent_of tb b s) (ready_thread tb (thread s t)) (fired_by tb s t m) (agent_of tb b (written tb s t m))
      → WholeTurn (body_of tb) (agent_of tb b s) (ready_thread tb (thread s t)) (agent_of tb b (written tb s t m))
  unfolding Chosen Plain fired_by passing
  by_move Ends c p h = action_whole (body_of tb) h refl
  by_move Calls c p h = action_whole (body_of tb) h refl
  by_move Waits c p h =
      let n = branch_count tb (stands_at (thread s t)) in
      let some_branch = rd.some_branch (stands_at (thread s t)) ((ok.orderly.row t l).node_in (ready_used (thread s t) ready)) c.at_choice in
      waits_whole tb g rd s ok.orderly t l ready b bn p (all_passed tb s t c) (n - 1) (omega (arith, some_branch)) c.at_choice
  by_move (Goes i) c p h = action_whole (body_of tb) h (going_acts (act_of tb (branch_at tb (stands_at (thread s t)) i)))
  by_move (Creates i k) c p h = action_whole (body_of tb) h refl
  by_move (Spawns i u) c p h = action_whole (body_of tb) h refl
  by_move (Meets i u j) c p h = action_whole (body_of tb) h (meeting_acts (side_of (act_of tb (branch_at tb (stands_at (thread s t)) i))) _ _)
  by_move LacksThread c p h = absurd p
  by_move LacksChannel c p h = absurd p

  -- the engine's turn is whole
  pub turn_whole : Plain tb (thread s t) (move tb s t)
      → WholeTurn (body_of tb) (agent_of tb b s) (thread_of tb (thread s t)) (agent_of tb b (written tb s t (move tb s t)))
  turn_whole z =
      rw (ready_thread_lem tb (thread s t) ready) (by_move (move tb s t) (chosen tb s t) z (turn_published tb g rd s ok t l ready b bn z))
