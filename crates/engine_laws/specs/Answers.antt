-- How the answer to a step on a state comes about: when it is done, and on which grounds it is refused. Assumes nothing.
use Rattle.rules.specs.Answers.{Stepped}
use Rattle.std.specs.Prelude.{ℕ, ◌≡◌, refl, ◌⊎◌, ◌↔◌, true, false, Err, Ok}
use Rattle.std.proofs.Math.Path.{sym}
use Rattle.std.proofs.Common.{◌∙◌, inl, inr}
use Rattle.std.proofs.Math.Logic.{⊎_elim}
use Rattle.numbers.specs.Search.Laws.{case_b}
use Rattle.numbers.specs.Tests.{clash}
use Rattle.table.specs.Table.{Table}
use Rattle.state.specs.State.{State, thread, stands_at}
use Rattle.rules.specs.Moves.{move, perform}
use Rattle.rules.specs.Calls.{step_answer, step_end, can_step, step_on}
use Rattle.rules.specs.Calls.Laws.{step_answered}
use Rattle.rules.specs.declared.Move.{Move}
use Rattle.rules.specs.declared.Move.TheVariants.{Ends, Calls, Waits, Goes, Creates, Spawns, Meets, LacksThread, LacksChannel}
use Rattle.rules.specs.declared.Refusal.{Refusal}
use Rattle.rules.specs.declared.Refusal.TheVariants as Ground
use Rattle.rules.specs.declared.Deed.{Deed}
use Rattle.engine.specs.Numbers.{refusal_number}
use Rattle.engine_laws.specs.Entry.{at_entry}

-- a move is refused on ground 13 where it lacks a thread row, on ground 14 where it lacks a channel row, and on no other ground
pub move_refused : (n : ℕ) (m : Move) (r : Refusal) → step_answer n m ≡ Err r
    → ((r ≡ Ground.ThreadRow) × (m ≡ LacksThread)) ⊎ ((r ≡ Ground.ChannelRow) × (m ≡ LacksChannel))
unfolding step_answer
move_refused n Ends r e = clash cc
move_refused n Calls r e = clash cc
move_refused n Waits r e = clash cc
move_refused n (Goes i) r e = clash cc
move_refused n (Creates i c) r e = clash cc
move_refused n (Spawns i u) r e = clash cc
move_refused n (Meets i u j) r e = clash cc
move_refused n LacksThread r e = inl (cc, refl)
move_refused n LacksChannel r e = inr (cc, refl)

done_state : (a : Stepped) (s s' : State) (n : ℕ) (d : Deed) → a ≡ Ok (n, d) → (step_end a s s').state ≡ s'
unfolding step_end
done_state a s s' n d e = rw e

module _ (tb : Table) (s : State) (t : ℕ) where
  abbrev node : ℕ
  node = stands_at (thread s t)

  -- a step that is done is that of a thread that can step, and leaves the state after its move
  pub step_performed : (n : ℕ) (d : Deed) → (step_on tb s t).answer ≡ Ok (n, d)
      → (can_step s t ≡ true) × (step_answer (stands_at (thread s t)) (move tb s t) ≡ Ok (n, d)) × ((step_on tb s t).state ≡ perform tb s t (move tb s t))
  unfolding step_on
  step_performed n d e = case_b (can_step s t)
      (λ y. let f : step_answer node (move tb s t) ≡ Ok (n, d) = sym (step_answered tb s t ∙ rw y) ∙ e in
      (y, f, rw y (done_state (step_answer node (move tb s t)) s _ n d f)))
      (λ y. let f : Err Ground.Thread ≡ Ok (n, d) = sym (step_answered tb s t ∙ rw y) ∙ e in clash cc)

  own_refused : (r : Refusal) → (step_on tb s t).answer ≡ Err r
      → ((can_step s t ≡ false) × (r ≡ Ground.Thread)) ⊎ ((can_step s t ≡ true) × (step_answer node (move tb s t) ≡ Err r))
  own_refused r e = case_b (can_step s t)
      (λ y. inr (y, sym (step_answered tb s t ∙ rw y) ∙ e))
      (λ y. inl (y, let f : ◌≡◌ {A = Stepped} (Err Ground.Thread) (Err r) = sym (step_answered tb s t ∙ rw y) ∙ e in sym cc))

  -- a step on a state is refused on no ground at entry
  pub step_own : (r : Refusal) → (step_on tb s t).answer ≡ Err r → at_entry r ≡ false
  unfolding at_entry refusal_number
  step_own r e =
      ⊎_elim (λ k. rw k.1) (λ k. ⊎_elim (λ l. rw l.0) (λ l. rw l.0) (move_refused node (move tb s t) r k.1)) (own_refused r e)

  pub own_thread : ((step_on tb s t).answer ≡ Err Ground.Thread) ↔ (can_step s t ≡ false)
  own_thread = (
    λ e. ⊎_elim (λ k. k.0) (λ k. ⊎_elim (λ l. clash cc) (λ l. clash cc) (move_refused node (move tb s t) Ground.Thread k.1)) (own_refused Ground.Thread e),
    λ y. step_answered tb s t ∙ rw y,
  )

  pub own_thread_row : ((step_on tb s t).answer ≡ Err Ground.ThreadRow) ↔ ((can_step s t ≡ true) × (move tb s t ≡ LacksThread))
  unfolding step_answer
  own_thread_row = (
    λ e. ⊎_elim (λ k. clash cc)
        (λ k. ⊎_elim (λ l. (k.0, l.1)) (λ l. clash cc) (move_refused node (move tb s t) Ground.ThreadRow k.1)) (own_refused Ground.ThreadRow e),
    λ k. step_answered tb s t ∙ rw (k.0, k.1),
  )

  pub own_channel_row : ((step_on tb s t).answer ≡ Err Ground.ChannelRow) ↔ ((can_step s t ≡ true) × (move tb s t ≡ LacksChannel))
  unfolding step_answer
  own_channel_row = (
    λ e. ⊎_elim (λ k. clash cc)
        (λ k. ⊎_elim (λ l. clash cc) (λ l. (k.0, l.1)) (move_refused node (move tb s t) Ground.ChannelRow k.1)) (own_refused Ground.ChannelRow e),
    λ k. step_answered tb s t ∙ rw (k.0, k.1),
  )

  -- a step on a state is refused on no ground but 11, 13 and 14
  pub own_grounds : (r : Refusal) → (step_on tb s t).answer ≡ Err r → (r ≡ Ground.Thread) ⊎ ((r ≡ Ground.ThreadRow) ⊎ (r ≡ Ground.ChannelRow))
  own_grounds r e =
      ⊎_elim (λ k. inl k.1)
      (λ k. inr (⊎_elim (λ l. inl l.0) (λ l. inr l.0) (move_refused node (move tb s t) r k.1)))
      (own_refused r e)

  pub own_no_port : (step_on tb s t).answer ≡ Err Ground.Port → ⊥
  own_no_port e = ⊎_elim (λ q. clash cc) (λ k. ⊎_elim (λ q. clash cc) (λ q. clash cc) k) (own_grounds Ground.Port e)
