-- One answer by its words, beside the same answer by its numbers: its refusal, and whom it names. Assumes nothing.
use Rattle.std.specs.Prelude.{ℕ, ◌<◌, ◌≡◌, true, false, List, [], ◌∷◌, ◌⊎◌, eqb, get_or, ℤ, pos}
use Rattle.std.proofs.Common.{arith, sym, ap, ◌∙◌, inl, inr, ⊎_elim, to_z, of_z, to_z-of_z, eqb-true, ne_eqb}
use Rattle.std.proofs.Math.Path.{refl}
use mir.Syntax.{w32}
use Rattle.std.proofs.Math.Facts.{of_z-to_z, to_z_pos}
use Rattle.numbers.specs.Search.Laws.{case_b, contra}
use Rattle.state.specs.State.{max_threads, minus_one, view, thread, in_use, is_waiting}
use Rattle.rules_laws.specs.Frames.{elem, elem_first, elem_cases, elem_nil, elem_not, elem_none}
use Rattle.engine_laws.specs.Lists as Lists
use Rattle.engine_laws.specs.Lists.{Call, step, give, run}
use Rattle.interface.specs.Interface.{step_result, give_result, take_result, collect_result}
use Rattle.guarantee.specs.Claim.{Any, on, collect}
use Rattle.guarantee.specs.Exported.{refusal_by}
use Rattle.guarantee.specs.InNumbers.{is_zero, if_done, named, waiting_in, moved}
use Rattle.guarantee.specs.NamedInNumbers.{NamesOf, refusal_fits, step_names, give_names, take_names}
use Rattle.driver.specs.Encoding.{stepped, given, taken, ran, collected, answer_to, words_of}
use Rattle.driver.specs.ClaimOfBuffers.{row_named, named_by}

-- ---- numbers and their patterns

pub pos_word : (n : ℕ) → n < 2147483648 → of_z w32 (pos n) ≡ n
pos_word n h = ap (of_z w32) (sym (to_z_pos w32 {n = n} h)) ∙ of_z-to_z {w = w32} {n = n} (record { fits = omega arith })

row_of : (u : ℕ) → u < max_threads → row_named (of_z w32 (pos u)) ≡ u ∷ []
unfolding row_named
row_of u l = rw (pos_word u (omega arith), ne_eqb u minus_one (λ e. omega arith))

-- who is named by the pattern is who is named by the number
pub row_word : (z : ℤ) (P : ℕ → Type 0) → NamesOf z P → (v : ℕ) → elem v (row_named (of_z w32 z)) ≡ true → (v < max_threads) × (z ≡ pos v) × P v
unfolding row_named
row_word z P (inl e) v h = elem_nil v (rw e at h)
row_word z P (inr (u, l, e, p)) v h =
    ⊎_elim (λ q. rw q (l, e, p)) (λ n. elem_nil v n) (elem_cases v u [] (rw (e, row_of u l) at h))

module _ (table s rights : List ℕ) (seat : ℕ) where
  refusal_word : (k : Any) → get_or (words_of (answer_to table s rights seat k)) 0 0 ≡ of_z w32 (refusal_by table s rights seat k)
  unfolding words_of answer_to stepped given taken ran collected refusal_by
  refusal_word (on (step t)) = refl
  refusal_word (on (give p v h)) = refl
  refusal_word (on (Lists.take p)) = refl
  refusal_word (on (run n)) = refl
  refusal_word collect = refl

  -- the refusal, by its word
  pub refusal_is : (k : Any) (n : ℕ) → get_or (words_of (answer_to table s rights seat k)) 0 0 ≡ n → refusal_by table s rights seat k ≡ to_z w32 n
  refusal_is k n e = sym (to_z-of_z (refusal_fits table s rights seat k)) ∙ ap (to_z w32) (sym (refusal_word k) ∙ e)

  -- the other words that name a thread, and the number of a collection
  pub step_word : (t : ℕ) → get_or (words_of (answer_to table s rights seat (on (step t)))) 4 0 ≡ of_z w32 (step_result table s rights seat t).answer.partner
  unfolding words_of answer_to stepped
  step_word t = refl

  pub give_word : (p v : ℕ) (h : v < 4294967296)
      → get_or (words_of (answer_to table s rights seat (on (give p v h)))) 1 0 ≡ of_z w32 (give_result table s rights seat p (to_z w32 v)).answer.thread
  unfolding words_of answer_to given
  give_word p v h = refl

  pub take_word : (p : ℕ) → get_or (words_of (answer_to table s rights seat (on (Lists.take p)))) 1 0 ≡ of_z w32 (take_result table s rights seat p).answer.thread
  unfolding words_of answer_to taken
  take_word p = refl

  pub collect_word : get_or (words_of (answer_to table s rights seat collect)) 1 0 ≡ of_z w32 (collect_result table s rights seat).answer.threads
  unfolding words_of answer_to collected
  collect_word = refl

  -- ---- a thread in use that does not move in a call is not named in its answer

  module _ (u : ℕ) (used : in_use (thread (view s) u) ≡ true) where
    not_met : (z : ℤ) (P : ℕ → Type 0) → NamesOf z P → elem u (named z) ≡ false → elem u (row_named (of_z w32 z)) ≡ false
    unfolding named
    not_met z P n e = case_b (elem u (row_named (of_z w32 z)))
        (λ y. let (l, q, p) = row_word z P n u y in contra (elem_first u []) (rw q at e)) (λ y. y)

    waits_in : (z : ℤ) → z ≡ pos u → is_waiting (thread (view s) u) ≡ true → waiting_in (view s) (named z) ≡ u ∷ []
    unfolding named waiting_in
    waits_in z q w = rw (q, w)

    not_paired : (z : ℤ) → NamesOf z (λ v. (is_waiting (thread (view s) v) ≡ true) ⊎ (in_use (thread (view s) v) ≡ false))
        → elem u (waiting_in (view s) (named z)) ≡ false → elem u (row_named (of_z w32 z)) ≡ false
    not_paired z n e = case_b (elem u (row_named (of_z w32 z)))
        (λ y. let (l, q, p) = row_word z (λ v. (is_waiting (thread (view s) v) ≡ true) ⊎ (in_use (thread (view s) v) ≡ false)) n u y in
        ⊎_elim (λ w. contra (elem_first u []) (rw (waits_in z q w) at e)) (λ f. contra used f) p)
        (λ y. y)

    module _ (w : ℕ → ℕ) where
      abbrev Words : Any → Type 0
      Words k = (c : ℕ) → c < 5 → w c ≡ get_or (words_of (answer_to table s rights seat k)) c 0

      done_so : (k : Any) → Words k → eqb (w 0) 0 ≡ true → refusal_by table s rights seat k ≡ pos 0
      done_so k h y = refusal_is k 0 (sym (h 0 (omega arith)) ∙ eqb-true (w 0) 0 y)

      pub unnamed : (k : Any) → Words k → ((c : Call) → k ≡ on c → elem u (moved table s rights seat c) ≡ false) → elem u (named_by k w) ≡ false
      unfolding named_by elem moved if_done is_zero refusal_by
      unnamed (on (step t)) h e = case_b (eqb (w 0) 0)
          (λ y. let f = done_so (on (step t)) h y in
          let (n, m) = elem_not u t (waiting_in (view s) (named (step_result table s rights seat t).answer.partner)) (rw f at (e (step t) refl)) in
          rw y (elem_none u t (row_named (w 4)) n
          (rw (h 4 (omega arith), step_word t) (not_paired (step_result table s rights seat t).answer.partner (step_names table s rights seat t f) m))))
          (λ y. rw y)
      unnamed (on (give p v l)) h e = case_b (eqb (w 0) 0)
          (λ y. let f = done_so (on (give p v l)) h y in
          rw (y, h 1 (omega arith), give_word p v l)
          (not_met (give_result table s rights seat p (to_z w32 v)).answer.thread (λ x. is_waiting (thread (view s) x) ≡ true)
          (give_names table s rights seat p (to_z w32 v) f) (rw f at (e (give p v l) refl))))
          (λ y. rw y)
      unnamed (on (Lists.take p)) h e = case_b (eqb (w 0) 0)
          (λ y. let f = done_so (on (Lists.take p)) h y in
          rw (y, h 1 (omega arith), take_word p)
          (not_met (take_result table s rights seat p).answer.thread (λ x. is_waiting (thread (view s) x) ≡ true)
          (take_names table s rights seat p f) (rw f at (e (Lists.take p) refl))))
          (λ y. rw y)
      unnamed (on (run n)) h e = refl
      unnamed collect h e = refl
