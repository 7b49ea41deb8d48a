-- The threads of a sealed set stay where they are through every list of calls from a sound buffer. Assumes nothing.
use Rattle.rules.specs.Answers.{Partner, Stepped}
use Rattle.std.specs.Prelude.{ℕ, ◌<◌, ◌≡◌, refl, Bool, true, false, ltb, get_or, Err, None, Ok, Some}
use mathlib.Core.List.{List, [], ◌∷◌}
use borrow.Author.Tests.{ltb-true}
use Rattle.numbers.specs.Search.Laws.{case_b}
use Rattle.numbers.specs.Tests.{parts}
use Rattle.table.specs.Table.{Table, table_of, ports}
use Rattle.loader.specs.Load.{accepted}
use Rattle.state.specs.State.{State, max_threads, view, thread, stands_at}
use Rattle.rules.specs.Offers.{partner_of}
use Rattle.rules.specs.Moves.{move, perform}
use Rattle.rules.specs.Calls.{After, on_buffers, step_answer, step_end, can_step, step_on, step_call, bench, given_to, give_on, give_call, taken_from, take_on, take_call, run_on, run_call}
use Rattle.rules.specs.declared.Direction.TheVariants.{Out, In}
use Rattle.rules.specs.declared.Refusal.{Refusal}
use Rattle.rules_laws.specs.Granted.{Granted}
use Rattle.rules_laws.specs.Soundness.{Sound}
use Rattle.rules_laws.specs.Lasting.{step_on_kept, give_on_kept, take_on_kept, run_on_kept}
use Rattle.rules_laws.specs.Frames.{elem, elem_append, movers}
use Rattle.engine_laws.specs.Movers.{ran_movers, step_moved, bench_moved}
use Rattle.engine_laws.specs.Sealed.{Sealed, sealed_kept, sealed_run}
use Rattle.engine_laws.specs.Buffers.{SoundBuffer, view_sound}
use Rattle.engine_laws.specs.SoundCalls.{call_made, call_view}
use Rattle.engine_laws.specs.Lists.{Call, step, give, take, run, after, after_all, after_sound}
use Rattle.guarantee.specs.Claim.{unless_refused, met_by_give, met_by_take, in_turns, moving, moving_all}
use Rattle.guarantee.specs.ClaimKept.{grants}

-- none of a set is in a list
abbrev pub Still : (ℕ → Bool) → List ℕ → Type 0
Still q who = (t : ℕ) → q t ≡ true → elem t who ≡ false

module _ (table : List ℕ) (q : ℕ → Bool) (first : State) where
  -- the set is sealed in the state of a buffer, and nobody of it is among those that moved on the way there
  abbrev pub Rests : List ℕ → List ℕ → Type 0
  Rests state who = Sealed (table_of table) q first (view state) × Still q who

module _ (table : List ℕ) (ok : accepted table ≡ true) (fit : (i : ℕ) → get_or table i 0 < 256) (q : ℕ → Bool) (first : State) where
  abbrev tb : Table
  tb = table_of table

  g : Granted tb
  g = grants table ok fit

  module _ (state : List ℕ) (b : SoundBuffer table state) (z : Sealed tb q first (view state)) where
    abbrev s : State
    s = view state

    held : Sound tb s
    held = view_sound table state b

    -- the set is sealed in a state, and nobody of it is among those that moved on the way there
    abbrev RestsIn : State → List ℕ → Type 0
    RestsIn s' who = Sealed tb q first s' × Still q who

    stays : RestsIn s []
    unfolding elem
    stays = (z, λ t h. refl)

    -- what holds of a call on the state holds of the call on the buffer
    on_buffers_lem : {A : Type 0} (refused : Refusal → A) (k : After A) (who : A → List ℕ) → Sound tb k.state → RestsIn k.state (who k.answer)
        → Rests table q first (on_buffers refused table state k).state (who (on_buffers refused table state k).answer)
    on_buffers_lem refused k who h (y, still) = (rw (call_view table ok refused state b k h) y, rw (call_made table ok refused state b k) still)

    -- ---- step

    step_end_lem : (a : Stepped) (s' : State) (who : List ℕ) → RestsIn s' who → RestsIn (step_end a s s').state (unless_refused (step_end a s s').answer who)
    unfolding step_end unless_refused
    step_end_lem (Ok (n, d)) s' who y = y
    step_end_lem (Err r) s' who y = stays

    stepped_rests : (t : ℕ) → can_step s t ≡ true → RestsIn (perform tb s t (move tb s t)) (movers t (move tb s t))
    unfolding can_step
    stepped_rests t e =
        let l : t < max_threads = ltb-true t max_threads (search parts) in
        sealed_kept tb g q first s _ _ (step_moved tb g s held t l (search parts)) held z

    step_on_rests : (t : ℕ) → RestsIn (step_on tb s t).state (unless_refused (step_on tb s t).answer (movers t (move tb s t)))
    unfolding step_on unless_refused
    step_on_rests t = case_b (can_step s t)
        (λ e. rw e (step_end_lem (step_answer (stands_at (thread s t)) (move tb s t)) (perform tb s t (move tb s t)) (movers t (move tb s t)) (stepped_rests t e)))
        (λ e. rw e stays)

    step_rests : (t : ℕ) → Rests table q first (step_call table state t).state (unless_refused (step_call table state t).answer (movers t (move tb s t)))
    unfolding step_call
    step_rests t = on_buffers_lem Err (step_on tb s t) (λ a. unless_refused a (movers t (move tb s t))) (step_on_kept tb g s held t) (step_on_rests t)

    -- ---- give and take

    given_rests : (p v : ℕ) → p < ports tb → (m : Partner) → partner_of tb s bench In p ≡ m
        → RestsIn (given_to tb s m v).state (met_by_give (given_to tb s m v).answer)
    unfolding given_to met_by_give
    given_rests p v l None e = stays
    given_rests p v l (Some (u, j)) e = sealed_kept tb g q first s _ (u ∷ []) (bench_moved tb g s held In p u j l e v) held z

    give_on_rests : (p v : ℕ) → RestsIn (give_on tb s p v).state (met_by_give (give_on tb s p v).answer)
    unfolding give_on met_by_give
    give_on_rests p v = case_b (ltb p (ports tb))
        (λ e. rw e (given_rests p v (ltb-true p (ports tb) e) (partner_of tb s bench In p) refl))
        (λ e. rw e stays)

    give_rests : (p v : ℕ) → v < 4294967296 → Rests table q first (give_call table state p v).state (met_by_give (give_call table state p v).answer)
    unfolding give_call
    give_rests p v h = on_buffers_lem Err (give_on tb s p v) met_by_give (give_on_kept tb g s held p v h) (give_on_rests p v)

    taken_rests : (p : ℕ) → p < ports tb → (m : Partner) → partner_of tb s bench Out p ≡ m
        → RestsIn (taken_from tb s m).state (met_by_take (taken_from tb s m).answer)
    unfolding taken_from met_by_take
    taken_rests p l None e = stays
    taken_rests p l (Some (u, j)) e = sealed_kept tb g q first s _ (u ∷ []) (bench_moved tb g s held Out p u j l e 0) held z

    take_on_rests : (p : ℕ) → RestsIn (take_on tb s p).state (met_by_take (take_on tb s p).answer)
    unfolding take_on met_by_take
    take_on_rests p = case_b (ltb p (ports tb))
        (λ e. rw e (taken_rests p (ltb-true p (ports tb) e) (partner_of tb s bench Out p) refl))
        (λ e. rw e stays)

    take_rests : (p : ℕ) → Rests table q first (take_call table state p).state (met_by_take (take_call table state p).answer)
    unfolding take_call
    take_rests p = on_buffers_lem Err (take_on tb s p) met_by_take (take_on_kept tb g s held p) (take_on_rests p)

    -- ---- run

    run_on_rests : (n : ℕ) → RestsIn (run_on tb s n).state (in_turns (run_on tb s n).answer (ran_movers tb n s))
    unfolding run_on in_turns
    run_on_rests n = sealed_run tb g q first n s held z

    run_rests : (n : ℕ) → Rests table q first (run_call table state n).state (in_turns (run_call table state n).answer (ran_movers tb n s))
    unfolding run_call
    run_rests n = on_buffers_lem Err (run_on tb s n) (λ a. in_turns a (ran_movers tb n s)) (run_on_kept tb g s held n) (run_on_rests n)

    -- a call leaves the set sealed, and moves nobody of it
    call_rests : (k : Call) → Rests table q first (after table state k) (moving table state k)
    unfolding after moving
    call_rests (step t) = step_rests t
    call_rests (give p v h) = give_rests p v h
    call_rests (take p) = take_rests p
    call_rests (run n) = run_rests n

  -- a list of calls leaves the set so
  pub list_rests : (state : List ℕ) → SoundBuffer table state → Sealed tb q first (view state) → (ks : List Call)
      → Rests table q first (after_all table state ks) (moving_all table state ks)
  unfolding after_all moving_all
  list_rests state b z [] = stays state b z
  list_rests state b z (k ∷ ks) =
      let (y, still) = call_rests state b z k in
      let (x, rest) = list_rests (after table state k) (after_sound table ok fit state b k) y ks in
      (x, λ t h. elem_append t (moving table state k) _ (still t h) (rest t h))
