-- Threads that nothing reaches any more: a set of waiting threads that offer nothing on a port, and nothing on a channel that any thread outside
-- the set holds. No move takes one of them in, and every move leaves them so. Assumes nothing but what the table grants.
use Rattle.std.specs.declared.ops.ControlFlow.TheVariants.{Break, Continue}
use Rattle.rules.specs.Answers.{Turn}
use Prim.Native.Nat.{ℕ, zero, suc, ◌<◌}
use Rattle.std.specs.Prelude.{◌≡◌, refl, Bool, true, false, List}
use Rattle.std.proofs.Common.{◌∙◌, ⊎_elim}
use Rattle.numbers.specs.Search.Laws.{case_b, contra}
use Rattle.table.specs.Table.{Table, ports}
use Rattle.state.specs.State.{State, max_threads, thread, is_ready, is_waiting}
use Rattle.rules.specs.Holding.{holds}
use Rattle.rules.specs.Offers.{offers}
use Rattle.rules.specs.Calls.{one_more, onward, take_turn, course_of}
use Rattle.rules.specs.declared.Direction.{Direction}
use Rattle.rules_laws.specs.Granted.{Granted}
use Rattle.rules_laws.specs.Reading.Laws.{waiting_used, ready_not_waiting}
use Rattle.rules_laws.specs.Soundness.{Sound}
use Rattle.rules_laws.specs.Lasting.{take_turn_kept}
use Rattle.rules_laws.specs.Frames.{elem, elem_append}
use Rattle.engine_laws.specs.Channels.{offered_used}
use Rattle.engine_laws.specs.Movers.{Could, steps, met_by_bench_lem, met_by_thread, Moved, turn_movers, onward_movers, ran_movers, turn_moved}

-- of the threads of set q, in state s: they wait, with the rows that they had in the state first; they offer nothing on a port, and nothing on a
-- channel that a thread outside the set holds
pub record Sealed (tb : Table) (q : ℕ → Bool) (first s : State) : Type 0 where
  pub bound : (t : ℕ) → q t ≡ true → t < max_threads
  pub same : (t : ℕ) → q t ≡ true → thread s t ≡ thread first t
  pub waits : (t : ℕ) → q t ≡ true → is_waiting (thread s t) ≡ true
  pub no_port : (t : ℕ) → q t ≡ true → (d : Direction) (c : ℕ) → offers tb (thread s t) d c ≡ true → c < ports tb → ⊥
  pub unknown : (t : ℕ) → q t ≡ true → (d : Direction) (c : ℕ) → offers tb (thread s t) d c ≡ true
      → (u : ℕ) → q u ≡ false → holds tb (thread s u) c ≡ true → ⊥

module _ (tb : Table) (q : ℕ → Bool) (first s : State) (z : Sealed tb q first s) where
  -- a ready thread is not of the set
  ready_outside : (w : ℕ) → is_ready (thread s w) ≡ true → q w ≡ false
  ready_outside w r = case_b (q w) (λ y. contra (z.waits w y) (ready_not_waiting (thread s w) r)) (λ y. y)

  -- no thread of the set could take part in a move
  sealed_cannot : (t : ℕ) → q t ≡ true → Could tb s t → ⊥
  sealed_cannot t h (steps r) = contra h (ready_outside t r)
  sealed_cannot t h (met_by_bench_lem d c o p) = z.no_port t h d c o p
  sealed_cannot t h (met_by_thread d c w o l n r k) = z.unknown t h d c o w (ready_outside w r) k

module _ (tb : Table) (g : Granted tb) (q : ℕ → Bool) (first s s' : State) (who : List ℕ) (m : Moved tb s s' who) (ok : Sound tb s)
    (z : Sealed tb q first s) where
  sealed_still : (t : ℕ) → q t ≡ true → elem t who ≡ false
  sealed_still t h = case_b (elem t who) (λ e. absurd (sealed_cannot tb q first s z t h (m.actors t e).could)) (λ e. e)

  sealed_row : (t : ℕ) → q t ≡ true → thread s' t ≡ thread s t
  sealed_row t h = m.frame t (sealed_still t h) (waiting_used (thread s t) (z.waits t h))

  mover_outside : (w : ℕ) → elem w who ≡ true → q w ≡ false
  mover_outside w e = case_b (q w) (λ y. contra e (sealed_still w y)) (λ y. y)

  -- a channel on which a thread of the set offers is in use, so that a thread outside would have it from one outside
  still_unknown : (t : ℕ) → q t ≡ true → (d : Direction) (c : ℕ) → offers tb (thread s t) d c ≡ true
      → (u : ℕ) → q u ≡ false → holds tb (thread s' u) c ≡ true → ⊥
  still_unknown t k d c o u f h =
      ⊎_elim (offered_used tb g s ok.orderly t (z.bound t k) d c o)
      (λ (w, v, x). z.unknown t k d c o w (⊎_elim (λ e. rw e f) (λ e. mover_outside w e) v) x)
      (m.knows u c h)

  sealed_after : Sealed tb q first s'
  sealed_after = record {
    bound = z.bound;
    same = λ t k. sealed_row t k ∙ z.same t k;
    waits = λ t k. rw (sealed_row t k) (z.waits t k);
    no_port = λ t k d c o. z.no_port t k d c (rw (sealed_row t k) at o);
    unknown = λ t k d c o. still_unknown t k d c (rw (sealed_row t k) at o);
  }

-- ---- the laws

-- a move from a sound state keeps a sealed set sealed, and none of its threads takes part
pub sealed_kept : (tb : Table) → Granted tb → (q : ℕ → Bool) (first s s' : State) (who : List ℕ) → Moved tb s s' who → Sound tb s → Sealed tb q first s
    → Sealed tb q first s' × ((t : ℕ) → q t ≡ true → elem t who ≡ false)
sealed_kept tb g q first s s' who m ok z = (sealed_after tb g q first s s' who m ok z, sealed_still tb g q first s s' who m ok z)

module _ (tb : Table) (g : Granted tb) (q : ℕ → Bool) (first : State) where
  onward_sealed : (w : Turn) (s : State) (n : ℕ) → Sealed tb q first s
      → Sealed tb q first (course_of tb n s).state × ((t : ℕ) → q t ≡ true → elem t (ran_movers tb n s) ≡ false)
      → Sealed tb q first (onward w s (course_of tb n)).state × ((t : ℕ) → q t ≡ true → elem t (onward_movers w s (ran_movers tb n)) ≡ false)
  unfolding onward one_more onward_movers elem
  onward_sealed (Continue tt) s n z k = k
  onward_sealed (Break r) s n z k = (z, λ t h. refl)

  -- a run from a sound state keeps a sealed set sealed, and none of its threads takes part in any turn
  pub sealed_run : (n : ℕ) (s : State) → Sound tb s → Sealed tb q first s
      → Sealed tb q first (course_of tb n s).state × ((t : ℕ) → q t ≡ true → elem t (ran_movers tb n s) ≡ false)
  unfolding course_of ran_movers elem
  sealed_run zero s ok z = (z, λ t h. refl)
  sealed_run (suc n) s ok z =
      let s' = (take_turn tb s).state in
      let (y, still) = sealed_kept tb g q first s s' (turn_movers tb s) (turn_moved tb g s ok) ok z in
      let (x, rest) = onward_sealed (take_turn tb s).turn s' n y (sealed_run n s' (take_turn_kept tb g s ok) y) in
      (x, λ t h. elem_append t (turn_movers tb s) _ (still t h) (rest t h))
