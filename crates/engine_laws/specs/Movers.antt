-- The one law of every move: who takes part could, whoever does not has its row as it was, and nobody learns a channel but from those that take
-- part. It holds of a step, of a meeting with the bench and of every turn of a run. Assumes nothing but what the table grants.
use Rattle.std.specs.declared.ops.ControlFlow.TheVariants.{Break, Continue}
use Rattle.rules.specs.Answers.{Turn}
use Rattle.std.specs.Prelude.{ℕ, zero, suc, ◌<◌, ◌≡◌, refl, true, false, cond, List, [], ◌∷◌, ◌++◌, ◌≢◌, ltb, Some}
use Rattle.std.proofs.Common.{sym, inl, inr, ⊎_elim, ltb-true}
use Rattle.numbers.specs.Search.Laws.{case_b}
use Rattle.table.specs.Table.{Table, ports}
use Rattle.state.specs.State.{State, max_threads, thread, in_use, is_ready, type_in, with_mark}
use Rattle.rules.specs.Program.{opposite}
use Rattle.rules.specs.Holding.{holds}
use Rattle.rules.specs.Offers.{offers, partner_of}
use Rattle.rules.specs.Moves.{move, perform, met_by_bench}
use Rattle.rules.specs.Calls.{bench, step_answer, next_ready, past_turn, turn_for, turn_by, turn_end, take_turn}
use Rattle.rules.specs.declared.Direction.{Direction}
use Rattle.rules.specs.declared.Move.{Move}
use Rattle.rules.specs.declared.Move.TheVariants.{Ends, Calls, Waits, Goes, Creates, Spawns, Meets, LacksThread, LacksChannel}
use Rattle.next_rows.specs.Around.{next_ready_in}
use Rattle.rules_laws.specs.Granted.{Granted}
use Rattle.rules_laws.specs.Reading.Laws.{ready_used}
use Rattle.rules_laws.specs.Soundness.{Orderly, Sound}
use Rattle.rules_laws.specs.Chosen.{Joining, Chosen, chosen, channel_by, partner_answers}
use Rattle.rules_laws.specs.Frames.{elem, elem_cases, elem_nil, elem_not, movers, used_stays, bench_frame}
use Rattle.engine_laws.specs.Channels.{on_held}
use Rattle.rules_laws.specs.Learnt.{Knew, learnt, bench_learns_nothing}

-- ---- what is said of a move

-- how thread u may come to take part: it is ready, or it waits and one of its offers is on a port, or on a channel of another thread, a ready one
pub data Could (tb : Table) (s : State) (u : ℕ) : Type 0 where
  steps : is_ready (thread s u) ≡ true → Could tb s u
  met_by_bench_lem : (d : Direction) (c : ℕ) → offers tb (thread s u) d c ≡ true → c < ports tb → Could tb s u
  met_by_thread : (d : Direction) (c w : ℕ) → offers tb (thread s u) d c ≡ true → w < max_threads → w ≢ u → is_ready (thread s w) ≡ true
      → holds tb (thread s w) c ≡ true → Could tb s u

-- a thread that may take part
pub record Actor (tb : Table) (s : State) (u : ℕ) : Type 0 where
  pub inside : u < max_threads
  pub could : Could tb s u

-- from s to s' the threads in who took part: each could; every other thread in use has its row word for word; and what a thread holds afterwards it
-- held before, or one that took part did, or it was free
pub record Moved (tb : Table) (s s' : State) (who : List ℕ) : Type 0 where
  pub actors : (u : ℕ) → elem u who ≡ true → Actor tb s u
  pub frame : (u : ℕ) → elem u who ≡ false → in_use (thread s u) ≡ true → thread s' u ≡ thread s u
  pub knows : (u c : ℕ) → holds tb (thread s' u) c ≡ true → Knew tb s who u c

-- ---- who could

module _ (tb : Table) (g : Granted tb) (s : State) (ok : Orderly tb s) (t : ℕ) (l : t < max_threads) (ready : is_ready (thread s t) ≡ true) where
  self : (u : ℕ) → u ≡ t → Actor tb s u
  self u q = rw q (record { inside = l; could = steps ready })

  alone : (u : ℕ) → elem u (t ∷ []) ≡ true → Actor tb s u
  alone u e = ⊎_elim (λ q. self u q) (λ f. elem_nil u f) (elem_cases u t [] e)

  -- the thread that t meets waits, and its offer is on a channel of t's
  partner_could : (i v j : ℕ) → Joining tb s t i v j → Could tb s v
  partner_could i v j o =
      let p = o.partner in
      met_by_thread (opposite o.direction) (channel_by tb s t i) t p.offering l (λ q. p.other (sym q)) ready
      (on_held tb g (type_in s) (thread s t) (ok.row t l) (ready_used (thread s t) ready) i o.takes.branch_in o.direction o.takes.does)

  met_actors : (i v j : ℕ) → Joining tb s t i v j → (u : ℕ) → elem u (t ∷ v ∷ []) ≡ true → Actor tb s u
  met_actors i v j o u e =
      ⊎_elim (λ q. self u q)
      (λ f. ⊎_elim (λ q. rw q (record { inside = o.partner.thread_in; could = partner_could i v j o })) (λ z. elem_nil u z) (elem_cases u v [] f))
      (elem_cases u t (v ∷ []) e)

  step_actors : (m : Move) → Chosen tb s t m → (u : ℕ) → elem u (movers t m) ≡ true → Actor tb s u
  unfolding movers Chosen
  step_actors Ends k = alone
  step_actors Calls k = alone
  step_actors Waits k = alone
  step_actors (Goes i) k = alone
  step_actors (Creates i c) k = alone
  step_actors (Spawns i v) k = alone
  step_actors (Meets i v j) k = met_actors i v j k
  step_actors LacksThread k = λ u e. elem_nil u e
  step_actors LacksChannel k = λ u e. elem_nil u e

-- ---- the law

-- no move at all
pub none_moved : (tb : Table) (s : State) → Moved tb s s []
none_moved tb s = record { actors = λ u e. elem_nil u e; frame = λ u e h. refl; knows = λ u c h. inr (u, inl refl, h) }

-- the step of a ready thread
pub step_moved : (tb : Table) → Granted tb → (s : State) → Sound tb s → (t : ℕ) → t < max_threads → is_ready (thread s t) ≡ true
    → Moved tb s (perform tb s t (move tb s t)) (movers t (move tb s t))
step_moved tb g s ok t l ready = record {
  actors = step_actors tb g s ok.orderly t l ready (move tb s t) (chosen tb s t);
  frame = λ u e h. used_stays tb s t u h e;
  knows = learnt tb g s ok t l ready;
}

-- a give or a take, on port p, that meets thread u
pub bench_moved : (tb : Table) → Granted tb → (s : State) → Sound tb s → (d : Direction) (p u j : ℕ) → p < ports tb → partner_of tb s bench d p ≡ Some (u, j)
    → (v : ℕ) → Moved tb s (met_by_bench tb s u j v) (u ∷ [])
bench_moved tb g s ok d p u j port e v = record {
  actors = λ w h. ⊎_elim (λ q. let a = partner_answers tb s bench d p u j e in rw q (record { inside = a.thread_in; could = met_by_bench_lem d p a.offering port }))
      (λ z. elem_nil w z) (elem_cases w u [] h);
  frame = λ w h x. bench_frame tb s u w j v (elem_not w u [] h).0;
  knows = λ w c h. inr (w, inl refl, bench_learns_nothing tb g s ok d p u j port e v w c h);
}

-- ---- runs

-- who takes part in the next turn of a run
unfoldable pub turn_movers : Table → State → List ℕ
turn_movers tb s = cond (ltb (next_ready s) max_threads) (movers (next_ready s) (move tb s (next_ready s))) []

-- after a turn that went, those of the rest
unfoldable pub onward_movers : Turn → State → (State → List ℕ) → List ℕ
onward_movers (Continue tt) s rest = rest s
onward_movers (Break r) s rest = []

-- who takes part in a run of at most n steps, turn by turn
unfoldable pub ran_movers : Table → ℕ → State → List ℕ
ran_movers tb zero s = []
ran_movers tb (suc n) s = turn_movers tb s ++ onward_movers (take_turn tb s).turn (take_turn tb s).state (ran_movers tb n)

-- the turn itself touches no thread
past_moved : (tb : Table) (s s' : State) (who : List ℕ) (t : ℕ) → Moved tb s s' who → Moved tb s (past_turn s' t) who
unfolding past_turn with_mark
past_moved tb s s' who t m = record { actors = m.actors; frame = m.frame; knows = m.knows }

end_moved : (tb : Table) (s : State) (t : ℕ) (m : Move) → Moved tb s (perform tb s t (move tb s t)) (movers t m)
    → Moved tb s (turn_end tb s t (turn_by t m)).state (movers t m)
unfolding step_answer turn_for turn_by turn_end movers
end_moved tb s t Ends k = past_moved tb s _ _ t k
end_moved tb s t Calls k = past_moved tb s _ _ t k
end_moved tb s t Waits k = past_moved tb s _ _ t k
end_moved tb s t (Goes i) k = past_moved tb s _ _ t k
end_moved tb s t (Creates i c) k = past_moved tb s _ _ t k
end_moved tb s t (Spawns i u) k = past_moved tb s _ _ t k
end_moved tb s t (Meets i u j) k = past_moved tb s _ _ t k
end_moved tb s t LacksThread k = past_moved tb s s [] t (none_moved tb s)
end_moved tb s t LacksChannel k = past_moved tb s s [] t (none_moved tb s)

-- a turn of a run
pub turn_moved : (tb : Table) → Granted tb → (s : State) → Sound tb s → Moved tb s (take_turn tb s).state (turn_movers tb s)
unfolding take_turn turn_movers
turn_moved tb g s ok =
    case_b (ltb (next_ready s) max_threads)
    (λ a. let l = ltb-true (next_ready s) max_threads a in
    rw a (end_moved tb s (next_ready s) (move tb s (next_ready s)) (step_moved tb g s ok (next_ready s) l (next_ready_in s l))))
    (λ a. rw a (none_moved tb s))
