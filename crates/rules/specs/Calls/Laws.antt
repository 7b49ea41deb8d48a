-- What an admission lets through; which calls on a state leave it as it was; and that a call on buffers answers and leaves what the call on the state
-- says. Assumes nothing.
use Rattle.rules.specs.Answers.{Admission, Partner, Stepped}
use Rattle.std.specs.Prelude.{ℕ, ◌<◌, ◌≡◌, ◌≢◌, ◌↔◌, Bool, true, false, cond, List, ltb, eqb, length, get_or, Err, None, Ok, Some}
use Rattle.std.proofs.Math.Path.{refl, ap}
use Rattle.std.proofs.Common.{sym, ◌∙◌}
use borrow.Author.Tests.{eqb-true}
use Rattle.numbers.specs.Search.Laws.{case_b}
use Rattle.numbers.specs.Tests.{and_left, and_right, clash}
use Rattle.table.specs.Table.{Table, table_of, ports}
use Rattle.loader.specs.Load.{table_length, accepted}
use Rattle.state.specs.State.{State, state_length, view, state_bytes, thread, stands_at}
use Rattle.state.specs.State.Laws.{bytes_view}
use Rattle.rules.specs.Offers.{partner_of}
use Rattle.rules.specs.Moves.{move}
use Rattle.rules.specs.Sound.{sound}
use Rattle.rules.specs.Calls.{Outcome, outcome, After, and_then, lengths_right, start_admission, admission, by_admission, on_buffers, step_answer, step_end, can_step, step_on, bench, given_to, give_on, taken_from, take_on}
use Rattle.rules.specs.declared.Direction.TheVariants.{Out, In}
use Rattle.rules.specs.declared.Refusal.{Refusal}
use Rattle.rules.specs.declared.Refusal.TheVariants as Ground

-- a call that is refused is not admitted
pub not_admitted {ℓ} : {P : Type ℓ} (r : Refusal) → ◌≡◌ {A = Admission} (Err r) (Ok tt) → P
not_admitted r e = clash cc

-- ---- what is admitted

both : (p q : Bool) → ◌≡◌ {A = Admission} (cond p (cond q (Ok tt) (Err Ground.Table)) (Err Ground.Length)) (Ok tt) → (p ≡ true) × (q ≡ true)
both true true e = (refl, refl)
both true false e = not_admitted Ground.Table e
both false q e = not_admitted Ground.Length e

then_both : (a : Admission) (p : Bool) → and_then a (cond p (Ok tt) (Err Ground.State)) ≡ Ok tt → (a ≡ Ok tt) × (p ≡ true)
unfolding and_then
then_both (Err r) p e = not_admitted r e
then_both (Ok tt) true e = (refl, refl)
then_both (Ok tt) false e = not_admitted Ground.State e

module _ (table state : List ℕ) where
  -- start admits buffers of the right lengths with a table that loading yields
  pub start_admits : start_admission table state ≡ Ok tt → (length table ≡ table_length) × (length state ≡ state_length) × (accepted table ≡ true)
  unfolding start_admission lengths_right
  start_admits e =
      let (l, a) = both (lengths_right table state) (accepted table) e in (
        eqb-true (length table) table_length (and_left _ _ l),
        eqb-true (length state) state_length (and_right (eqb (length table) table_length) _ l),
        a,
      )

  -- every other call asks besides that the state is sound for the table
  pub call_admits : admission table state ≡ Ok tt → (start_admission table state ≡ Ok tt) × (sound (table_of table) (view state) ≡ true)
  unfolding admission
  call_admits e = then_both (start_admission table state) (sound (table_of table) (view state)) e

-- ---- the calls on a state that leave it as it was

module _ (s s' : State) where
  end_answer : (a : Stepped) → (step_end a s s').answer ≡ a
  unfolding step_end
  end_answer (Ok (n, d)) = refl
  end_answer (Err r) = refl

  end_unchanged : (a : Stepped) (r : Refusal) → a ≡ Err r → (step_end a s s').state ≡ s
  unfolding step_end
  end_unchanged a r e = rw e

module _ (tb : Table) (s : State) where
  -- a step is answered by the thread's move, and on ground 11 where the thread cannot step
  pub step_answered : (t : ℕ) → (step_on tb s t).answer ≡ cond (can_step s t) (step_answer (stands_at (thread s t)) (move tb s t)) (Err Ground.Thread)
  unfolding step_on
  step_answered t = case_b (can_step s t) (λ y. rw y (end_answer s _ _)) (λ y. rw y)

  -- a step that is refused changes nothing
  pub step_unchanged : (t : ℕ) (r : Refusal) → (step_on tb s t).answer ≡ Err r → (step_on tb s t).state ≡ s
  unfolding step_on
  step_unchanged t r e = case_b (can_step s t)
      (λ y. rw y (end_unchanged s _ (step_answer (stands_at (thread s t)) (move tb s t)) r (sym (step_answered t ∙ rw y) ∙ e)))
      (λ y. rw y)

  given_unchanged : (m : Partner) (v : ℕ) → ((u : ℕ) → (given_to tb s m v).answer ≢ Ok (Some u)) → (given_to tb s m v).state ≡ s
  unfolding given_to
  given_unchanged None v n = refl
  given_unchanged (Some (u, j)) v n = absurd (n u refl)

  -- a give that meets no thread changes nothing
  pub give_unchanged : (p v : ℕ) → ((u : ℕ) → (give_on tb s p v).answer ≢ Ok (Some u)) → (give_on tb s p v).state ≡ s
  unfolding give_on
  give_unchanged p v n = case_b (ltb p (ports tb))
      (λ y. rw y (given_unchanged (partner_of tb s bench In p) v (λ u e. n u (rw y e))))
      (λ y. rw y)

  taken_unchanged : (m : Partner) → ((u v : ℕ) → (taken_from tb s m).answer ≢ Ok (Some (u, v))) → (taken_from tb s m).state ≡ s
  unfolding taken_from
  taken_unchanged None n = refl
  taken_unchanged (Some (u, j)) n = absurd (n u _ refl)

  -- a take that meets no thread changes nothing
  pub take_unchanged : (p : ℕ) → ((u v : ℕ) → (take_on tb s p).answer ≢ Ok (Some (u, v))) → (take_on tb s p).state ≡ s
  unfolding take_on
  take_unchanged p n = case_b (ltb p (ports tb))
      (λ y. rw y (taken_unchanged (partner_of tb s bench Out p) (λ u v e. n u v (rw y e))))
      (λ y. rw y)

-- ---- a call by its admission: a refusal on ground r is answered with `refused r`, and k is the call on the state

module _ {A : Type 0} (refused : Refusal → A) (state : List ℕ) (k : After A) where
  -- a refused call is answered so, and every byte stays
  pub by_refused : (a : Admission) (r : Refusal) → a ≡ Err r → by_admission refused a state k ≡ outcome (refused r) state
  unfolding by_admission
  by_refused a r e = rw e

  -- an admitted call has the answer of the call on the state, and leaves the bytes of the state after it
  pub by_admitted : (a : Admission) → a ≡ Ok tt → by_admission refused a state k ≡ outcome k.answer (state_bytes k.state)
  unfolding by_admission
  by_admitted a e = rw e

  -- an answer that is no refusal of the admission is that of an admitted call
  pub by_answer : (a : Admission) (x : A) → ((r : Refusal) → a ≡ Err r → refused r ≡ x → ⊥)
      → ((by_admission refused a state k).answer ≡ x) ↔ ((a ≡ Ok tt) × (k.answer ≡ x))
  unfolding by_admission
  by_answer (Err r) x n = (λ e. absurd (n r refl e), λ e. not_admitted r e.0)
  by_answer (Ok tt) x n = (λ e. (refl, e), λ e. e.1)

  -- a refusal that is no answer of the call on the state is the admission's, where refusals tell their grounds
  pub by_refusal : ((q r : Refusal) → refused q ≡ refused r → q ≡ r) → (a : Admission) (r : Refusal) → (k.answer ≡ refused r → ⊥)
      → ((by_admission refused a state k).answer ≡ refused r) ↔ (a ≡ Err r)
  unfolding by_admission
  by_refusal tell (Err q) r n = (λ e. ap Err (tell q r e), λ e. ap (λ (o : Outcome A). o.answer) (by_refused (Err q) r e))
  by_refusal tell (Ok tt) r n = (λ e. absurd (n e), λ e. not_admitted r (sym e))

  -- where the call on the state leaves its state when it answers x, a call that answers x leaves every byte of a buffer of bytes
  pub by_unchanged : (a : Admission) → (a ≡ Ok tt → length state ≡ state_length) → ((i : ℕ) → get_or state i 0 < 256)
      → (x : A) → (k.answer ≡ x → k.state ≡ view state) → (by_admission refused a state k).answer ≡ x → (by_admission refused a state k).state ≡ state
  unfolding by_admission
  by_unchanged (Err r) long small x h e = refl
  by_unchanged (Ok tt) long small x h e = ap state_bytes (h e) ∙ bytes_view state (long refl) small

-- ---- a call that is asked all three grounds

module _ {A : Type 0} (refused : Refusal → A) (table state : List ℕ) (k : After A) where
  pub call_refused : (r : Refusal) → admission table state ≡ Err r → on_buffers refused table state k ≡ outcome (refused r) state
  unfolding on_buffers
  call_refused r e = by_refused refused state k (admission table state) r e

  pub call_admitted : admission table state ≡ Ok tt → on_buffers refused table state k ≡ outcome k.answer (state_bytes k.state)
  unfolding on_buffers
  call_admitted e = by_admitted refused state k (admission table state) e

  pub call_answer : (x : A) → ((r : Refusal) → admission table state ≡ Err r → refused r ≡ x → ⊥)
      → ((on_buffers refused table state k).answer ≡ x) ↔ ((admission table state ≡ Ok tt) × (k.answer ≡ x))
  unfolding on_buffers
  call_answer x n = by_answer refused state k (admission table state) x n

  pub call_refusal : ((q r : Refusal) → refused q ≡ refused r → q ≡ r) → (r : Refusal) → (k.answer ≡ refused r → ⊥)
      → ((on_buffers refused table state k).answer ≡ refused r) ↔ (admission table state ≡ Err r)
  unfolding on_buffers
  call_refusal tell r n = by_refusal refused state k tell (admission table state) r n

  pub call_unchanged : ((i : ℕ) → get_or state i 0 < 256) → (x : A) → (k.answer ≡ x → k.state ≡ view state)
      → (on_buffers refused table state k).answer ≡ x → (on_buffers refused table state k).state ≡ state
  unfolding on_buffers
  call_unchanged = by_unchanged refused state k (admission table state) (λ f. (start_admits table state (call_admits table state f).0).1)
