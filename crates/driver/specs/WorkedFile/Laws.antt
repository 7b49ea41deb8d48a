-- The ways out of the functions that load, start and work a file, from what the exported functions ensure. A number of an answer comes back by way of its
-- pattern. Assumes nothing.
use Rattle.std.specs.Prelude.{ℕ, ◌≡◌, true, List, ◌≢◌}
use Rattle.std.proofs.Math.Path.{sym, ap}
use Rattle.std.proofs.Common.{◌∙◌, SFits, to_z, of_z}
use Rattle.std.proofs.Math.ListN.{length}
use Rattle.std.proofs.Math.IntN.{pos}
use Rattle.std.specs.Int.{w32}
use Rattle.std.proofs.Math.Facts.{to_z-of_z}
use borrow.Author.Tests.{eq-eqb, ne_eqb}
use Rattle.numbers.specs.Bytes.{words}
use Rattle.numbers.specs.Search.Laws.{case_b, contra}
use Rattle.state.specs.State.{state_length}
use Rattle.loader.specs.Load.{accepted}
use Rattle.loader_laws.specs.Yields.{loaded_accepted}
use Rattle.interface.specs.Interface.{LoadResult, loaded_to, load_result, StateResult, result, start_result}
use Rattle.interface.specs.declared.LoadAnswer.{LoadAnswer}
use Rattle.interface.specs.declared.StartAnswer.{StartAnswer}
use Rattle.guarantee.specs.SeatedClaim.{after_seats}
use Rattle.guarantee.specs.InNumbers.{is_zero}
use Rattle.guarantee.specs.InNumbers.Proof.{started_iff, wrong_start}
use Rattle.guarantee.specs.Exported.{load_so, table_so, load_keeps}
use Rattle.driver.specs.Encoding.{calls_of, answers_to, written_from}
use Rattle.driver.specs.Restore.Laws.{zero_is}
use Rattle.driver.specs.WorkedFile.{load_opening, start_opening, worked_to, worked_file}
use Rattle.driver.specs.declared.Opening.{Opening}

-- ---- one call by the exported function

module _ (file t t₁ : List ℕ) (a : LoadAnswer) (e : loaded_to a t₁ ≡ load_result file t) where
  pub load_left : t₁ ≡ (load_result file t).table
  load_left = ap (λ (r : LoadResult). r.table) e

  pub load_opens : SFits w32 a.refusal → SFits w32 a.line
      → ◌≡◌ {A = Opening} (record { refusal = to_z w32 (of_z w32 a.refusal); line = to_z w32 (of_z w32 a.line) }) (load_opening (load_result file t).answer)
  unfolding load_opening
  load_opens f g = rw (to_z-of_z f, to_z-of_z g) (ap (λ (r : LoadResult). load_opening r.answer) e)

module _ (table b b₁ : List ℕ) (a : StartAnswer) (e : result a b₁ ≡ start_result table b) where
  pub start_left : b₁ ≡ (start_result table b).state
  start_left = ap (λ (r : StateResult StartAnswer). r.state) e

  pub start_opens : SFits w32 a.refusal → ◌≡◌ {A = Opening} (record { refusal = to_z w32 (of_z w32 a.refusal); line = pos 0 }) (start_opening (start_result table b).answer)
  unfolding start_opening
  start_opens f = rw (to_z-of_z f) (ap (λ (r : StateResult StartAnswer). start_opening r.answer) e)

-- ---- a file: load left t₁ and answered o, and then start left b₁ and answered p

module _ (file t t₁ b : List ℕ) (o : Opening) (e : t₁ ≡ (load_result file t).table) (q : o ≡ load_opening (load_result file t).answer) (f : SFits w32 o.refusal) where
  load_number : o.refusal ≡ (load_result file t).answer.refusal
  unfolding load_opening
  load_number = ap (λ (x : Opening). x.refusal) q

  -- a load that is refused
  pub load_refused : (of_z w32 o.refusal ≡ 0 → ⊥) → (lists calls a b' a' : List ℕ) → b' ≡ b → a' ≡ a
      → worked_to o t₁ b' (words a') ≡ worked_file file t b lists calls (words a)
  unfolding worked_file is_zero
  load_refused n lists calls a b' a' h k = case_b (is_zero (load_result file t).answer.refusal)
      (λ y. absurd (n (ap (of_z w32) (load_number ∙ zero_is (load_result file t).answer.refusal y))))
      (λ y. rw (y, h, k, q, e, load_keeps file t (λ z. contra (rw z) y)))

  -- a load that is done
  module _ (z : of_z w32 o.refusal ≡ 0) (b₁ : List ℕ) (p : Opening) (i : b₁ ≡ (start_result t₁ b).state) (j : p ≡ start_opening (start_result t₁ b).answer) (g : SFits w32 p.refusal) where
    load_done : (load_result file t).answer.refusal ≡ pos 0
    load_done = sym load_number ∙ sym (to_z-of_z f) ∙ ap (to_z w32) z

    held : accepted t₁ ≡ true
    held = rw (e, table_so file t) (loaded_accepted file t (load_so file t load_done))

    start_number : p.refusal ≡ (start_result t₁ b).answer.refusal
    unfolding start_opening
    start_number = ap (λ (x : Opening). x.refusal) j

    -- a start that is refused
    pub start_refused : (of_z w32 p.refusal ≡ 0 → ⊥) → (lists calls a a' : List ℕ) → a' ≡ a → worked_to p t₁ b₁ (words a') ≡ worked_file file t b lists calls (words a)
    unfolding worked_file is_zero start_opening
    start_refused n lists calls a a' k =
        let wrong : length b ≢ state_length = λ l. n (ap (of_z w32) (start_number ∙ (started_iff t₁ held b).1 l)) in
        let (w, s) = wrong_start t₁ b (λ l. wrong l.1) in
        rw (load_done, ne_eqb (length b) state_length wrong, k, i, s, j, w, e)

    -- a start that is done, and then the list
    pub list_worked : of_z w32 p.refusal ≡ 0 → (lists calls a b₂ a₂ : List ℕ) → b₂ ≡ after_seats t₁ b₁ (calls_of lists calls)
        → words a₂ ≡ written_from (words a) 0 (answers_to t₁ b₁ (calls_of lists calls)) → worked_to p t₁ b₂ (words a₂) ≡ worked_file file t b lists calls (words a)
    unfolding worked_file is_zero start_opening
    list_worked n lists calls a b₂ a₂ k l =
        let done : (start_result t₁ b).answer.refusal ≡ pos 0 = sym start_number ∙ sym (to_z-of_z g) ∙ ap (to_z w32) n in
        let long = (started_iff t₁ held b).0 done in
        rw (load_done, eq-eqb (length b) state_length long, k, l, i, j, done, e)
