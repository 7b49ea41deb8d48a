-- What the exported functions ensure, brought to the claim's calls and to the words of the buffers. Assumes nothing.
use Prim.Native.Nat.{ℕ, zero, suc, ◌+◌, ◌-◌, ◌*◌, ◌/◌, ◌<◌, ◌≤◌, ◌%◌}
use native.Mathlib.Omega.{arith}
use Rattle.std.specs.Prelude.{◌≡◌, List, [], ◌∷◌, ltb, min, get_or, set, take, drop, ℤ, pos}
use Rattle.std.proofs.Math.Path.{refl, sym, ap}
use Rattle.std.proofs.Common.{◌∙◌, drop_of_length-le, take_all, Fits, SFits, to_z, of_z}
use Rattle.std.proofs.Math.ListN.{length, length-drop}
use Rattle.std.specs.Int.{w32, w64}
use Rattle.std.proofs.Math.Facts.{to_z-of_z}
use borrow.Author.Tests.{ltb-true, ltb-false, ne_eqb}
use Rattle.numbers.specs.Bytes.{words}
use Rattle.numbers.specs.Bytes.Laws.{length_numbers}
use Rattle.numbers.specs.Search.Laws.{case_b}
use Rattle.engine_laws.specs.Lists as Lists
use Rattle.engine_laws.specs.Lists.{step, give, run}
use Rattle.interface.specs.Interface.{StateResult, step_result, give_result, take_result, run_result, collect_result}
use Rattle.interface.specs.declared.StepAnswer.{StepAnswer}
use Rattle.interface.specs.declared.GiveAnswer.{GiveAnswer}
use Rattle.interface.specs.declared.TakeAnswer.{TakeAnswer}
use Rattle.interface.specs.declared.RunAnswer.{RunAnswer}
use Rattle.interface.specs.declared.CollectAnswer.{CollectAnswer}
use Rattle.guarantee.specs.Claim.{Any, on, collect}
use Rattle.guarantee.specs.SeatedClaim.{AtSeat, after_by, after_seat, after_seats}
use Rattle.guarantee.specs.Exported.{left_by, left_by_lem}
use Rattle.driver.specs.Encoding.{pattern, pattern_small, call_by, part_of, seated_by, called_by, record_at, calls_of, stepped, given, taken, ran, collected, answer_to, answer_at, words_of, answers_to, written_from}
use Rattle.driver.specs.declared.Answer.{Answer}

-- ---- the five calls, each from the equation that the contract of its function gives. A number of an answer comes back by way of its pattern

module _ (table b rights b₁ : List ℕ) (seat : ℕ) where
  module _ (t : ℕ) (a : StepAnswer) (e : ◌≡◌ {A = StateResult StepAnswer} (record { answer = a; state = b₁ }) (step_result table b rights seat t)) where
    pub step_left : b₁ ≡ after_by table b rights seat (on (step t))
    unfolding left_by
    step_left = ap (λ (r : StateResult StepAnswer). r.state) e ∙ left_by_lem table b rights seat (on (step t))

    pub step_answer_lem : SFits w32 a.refusal → SFits w32 a.node → SFits w32 a.act → SFits w32 a.branch → SFits w32 a.partner
        → ◌≡◌ {A = Answer} (record {
          refusal = to_z w32 (of_z w32 a.refusal);
          second = to_z w32 (of_z w32 a.node);
          third = to_z w32 (of_z w32 a.act);
          fourth = to_z w32 (of_z w32 a.branch);
          fifth = to_z w32 (of_z w32 a.partner);
        }) (answer_to table b rights seat (on (step t)))
    unfolding answer_to stepped
    step_answer_lem f g h i j = rw (to_z-of_z f, to_z-of_z g, to_z-of_z h, to_z-of_z i, to_z-of_z j) (ap (λ (r : StateResult StepAnswer). stepped r.answer) e)

  -- the number given comes as a pattern
  module _ (p v : ℕ) (z : ℤ) (a : GiveAnswer) (e : ◌≡◌ {A = StateResult GiveAnswer} (record { answer = a; state = b₁ }) (give_result table b rights seat p (to_z w32 (of_z w32 z))))
      (s : z ≡ to_z w32 v) (fit : Fits w32 v) (zit : SFits w32 z) where
    given_number : to_z w32 (of_z w32 z) ≡ to_z w32 (pattern v)
    given_number = let q : v % 4294967296 ≡ v = omega (arith, fit.fits) in to_z-of_z zit ∙ s ∙ rw q

    pub give_left : b₁ ≡ after_by table b rights seat (on (give p (pattern v) (pattern_small v)))
    unfolding left_by
    give_left =
        ap (λ (r : StateResult GiveAnswer). r.state) e ∙ ap (λ x. (give_result table b rights seat p x).state) given_number
        ∙ left_by_lem table b rights seat (on (give p (pattern v) (pattern_small v)))

    pub give_answer : SFits w32 a.refusal → SFits w32 a.thread
        → ◌≡◌ {A = Answer} (record {
          refusal = to_z w32 (of_z w32 a.refusal);
          second = to_z w32 (of_z w32 a.thread);
          third = pos 0;
          fourth = pos 0;
          fifth = pos 0;
        }) (answer_to table b rights seat (on (give p (pattern v) (pattern_small v))))
    unfolding answer_to given
    give_answer f g =
        rw (to_z-of_z f, to_z-of_z g)
        (ap (λ (r : StateResult GiveAnswer). given r.answer) e ∙ ap (λ x. given (give_result table b rights seat p x).answer) given_number)

  module _ (p : ℕ) (a : TakeAnswer) (e : ◌≡◌ {A = StateResult TakeAnswer} (record { answer = a; state = b₁ }) (take_result table b rights seat p)) where
    pub take_left : b₁ ≡ after_by table b rights seat (on (Lists.take p))
    unfolding left_by
    take_left = ap (λ (r : StateResult TakeAnswer). r.state) e ∙ left_by_lem table b rights seat (on (Lists.take p))

    pub take_answer : SFits w32 a.refusal → SFits w32 a.thread → SFits w32 a.number
        → ◌≡◌ {A = Answer} (record {
          refusal = to_z w32 (of_z w32 a.refusal);
          second = to_z w32 (of_z w32 a.thread);
          third = to_z w32 (of_z w32 a.number);
          fourth = pos 0;
          fifth = pos 0;
        }) (answer_to table b rights seat (on (Lists.take p)))
    unfolding answer_to taken
    take_answer f g h = rw (to_z-of_z f, to_z-of_z g, to_z-of_z h) (ap (λ (r : StateResult TakeAnswer). taken r.answer) e)

  module _ (n : ℕ) (a : RunAnswer) (e : ◌≡◌ {A = StateResult RunAnswer} (record { answer = a; state = b₁ }) (run_result table b rights seat n)) where
    pub run_left : b₁ ≡ after_by table b rights seat (on (run n))
    unfolding left_by
    run_left = ap (λ (r : StateResult RunAnswer). r.state) e ∙ left_by_lem table b rights seat (on (run n))

    pub run_answer : SFits w32 a.refusal → SFits w32 a.steps → SFits w32 a.reason → SFits w32 a.thread
        → ◌≡◌ {A = Answer} (record {
          refusal = to_z w32 (of_z w32 a.refusal);
          second = to_z w32 (of_z w32 a.steps);
          third = to_z w32 (of_z w32 a.reason);
          fourth = to_z w32 (of_z w32 a.thread);
          fifth = pos 0;
        }) (answer_to table b rights seat (on (run n)))
    unfolding answer_to ran
    run_answer f g h i = rw (to_z-of_z f, to_z-of_z g, to_z-of_z h, to_z-of_z i) (ap (λ (r : StateResult RunAnswer). ran r.answer) e)

  module _ (a : CollectAnswer) (e : ◌≡◌ {A = StateResult CollectAnswer} (record { answer = a; state = b₁ }) (collect_result table b rights seat)) where
    pub collect_left : b₁ ≡ after_by table b rights seat collect
    unfolding left_by
    collect_left = ap (λ (r : StateResult CollectAnswer). r.state) e ∙ left_by_lem table b rights seat collect

    pub collect_answer : SFits w32 a.refusal → SFits w32 a.threads
        → ◌≡◌ {A = Answer} (record {
          refusal = to_z w32 (of_z w32 a.refusal);
          second = to_z w32 (of_z w32 a.threads);
          third = pos 0;
          fourth = pos 0;
          fifth = pos 0;
        }) (answer_to table b rights seat collect)
    unfolding answer_to collected
    collect_answer f g = rw (to_z-of_z f, to_z-of_z g) (ap (λ (r : StateResult CollectAnswer). collected r.answer) e)

-- ---- the call of three words

module _ (code a v : ℕ) where
  pub is_step : code ≡ 0 → call_by code a v ≡ on (step a)
  unfolding call_by
  is_step e = rw e

  pub is_give : code ≡ 1 → call_by code a v ≡ on (give a (pattern v) (pattern_small v))
  unfolding call_by
  is_give e = rw e

  pub is_take : code ≡ 2 → call_by code a v ≡ on (Lists.take a)
  unfolding call_by
  is_take e = rw e

  pub is_run : code ≡ 3 → call_by code a v ≡ on (run (a % 65536))
  unfolding call_by
  is_run e = rw e

  pub is_collect : (code ≡ 0 → ⊥) → (code ≡ 1 → ⊥) → (code ≡ 2 → ⊥) → (code ≡ 3 → ⊥) → call_by code a v ≡ collect
  unfolding call_by
  is_collect f g h i = rw (ne_eqb code 0 f, ne_eqb code 1 g, ne_eqb code 2 h, ne_eqb code 3 i)

  module _ (table b rights : List ℕ) (seat : ℕ) (k : Any) where
    pub arm_left : (b₁ : List ℕ) → b₁ ≡ after_by table b rights seat k → call_by code a v ≡ k → b₁ ≡ after_by table b rights seat (call_by code a v)
    arm_left b₁ e q = rw q e

    pub arm_answer : (r : Answer) → r ≡ answer_to table b rights seat k → call_by code a v ≡ k → r ≡ answer_to table b rights seat (call_by code a v)
    arm_answer r e q = rw q e

pub ruleset arms = (arm_left, arm_answer, is_step, is_give, is_take, is_run, is_collect)

-- ---- the words of an answer

pub number_put : (b b₁ : List ℕ) (i p : ℕ) (z : ℤ) → words b₁ ≡ set (words b) i p → p ≡ of_z w32 (to_z w32 (of_z w32 z)) → SFits w32 z
    → words b₁ ≡ set (words b) i (of_z w32 z)
number_put b b₁ i p z e q f = e ∙ rw (q, to_z-of_z f)

-- a number that is handed on by way of its pattern
handed : (b c : List ℕ) (i j : ℕ) (z : ℤ) → c ≡ set b i (of_z w32 (to_z w32 (of_z w32 z))) → i ≡ j → SFits w32 z → c ≡ set b j (of_z w32 z)
handed b c i j z e q f = e ∙ rw (q, to_z-of_z f)

pub answer_put : (a : Answer) (b b₁ b₂ b₃ b₄ b₅ : List ℕ) (i : ℕ)
    → words b₁ ≡ set (words b) i (of_z w32 (to_z w32 (of_z w32 a.refusal)))
    → words b₂ ≡ set (words b₁) (i + 1) (of_z w32 (to_z w32 (of_z w32 a.second)))
    → words b₃ ≡ set (words b₂) (i + 2) (of_z w32 (to_z w32 (of_z w32 a.third)))
    → words b₄ ≡ set (words b₃) (i + 3) (of_z w32 (to_z w32 (of_z w32 a.fourth)))
    → words b₅ ≡ set (words b₄) (i + 4) (of_z w32 (to_z w32 (of_z w32 a.fifth)))
    → SFits w32 a.refusal → SFits w32 a.second → SFits w32 a.third → SFits w32 a.fourth → SFits w32 a.fifth
    → words b₅ ≡ written_from (words b) i (words_of a)
unfolding written_from words_of
answer_put a b b₁ b₂ b₃ b₄ b₅ i e₁ e₂ e₃ e₄ e₅ f₁ f₂ f₃ f₄ f₅ =
    handed (words b₄) (words b₅) (i + 4) (suc (suc (suc (suc i)))) a.fifth e₅ (omega arith) f₅
    ∙ rw (
      handed (words b₃) (words b₄) (i + 3) (suc (suc (suc i))) a.fourth e₄ (omega arith) f₄,
      handed (words b₂) (words b₃) (i + 2) (suc (suc i)) a.third e₃ (omega arith) f₃,
      handed (words b₁) (words b₂) (i + 1) (suc i) a.second e₂ (omega arith) f₂,
      handed (words b) (words b₁) i i a.refusal e₁ refl f₁,
    )

-- ---- a part of the lists

-- at: where the part begins; end: where it ends
module _ (lists : List ℕ) (from n at end : ℕ) (e : at ≡ min (length lists) from) where
  begins_low : at ≤ from
  begins_low = omega arith

  pub end_fits : Fits w32 from → Fits w32 n → Fits w64 (at + n)
  end_fits f g = record { fits = omega (arith, begins_low, f.fits, g.fits) }

  pub begins_inside : at ≤ length lists
  begins_inside = omega arith

  module _ (f : end ≡ min (length lists) (at + n)) where
    pub ends_inside : end ≤ length lists
    ends_inside = omega arith

    pub ends_behind : at ≤ end
    ends_behind = omega arith

    -- the bytes from there to there
    begun : drop at lists ≡ drop from lists
    begun = case_b (ltb from (length lists))
        (λ y. let q : at ≡ from = omega (arith, ltb-true from (length lists) y) in rw q)
        (λ y. let l = ltb-false from (length lists) y in
        drop_of_length-le lists {i = at} (omega arith) ∙ sym (drop_of_length-le lists {i = from} l))

    pub part_is : take (end - at) (drop at lists) ≡ part_of lists from n
    unfolding part_of
    part_is = case_b (ltb (at + n) (length lists))
        (λ y. let l = ltb-true (at + n) (length lists) y in
        let q : end - at ≡ n = omega arith in
        rw q (ap (take n) begun))
        (λ y. let l = ltb-false (at + n) (length lists) y in
        let z : length (drop at lists) ≤ end - at = omega (arith, length-drop at lists) in
        let w : length (drop at lists) ≤ n = omega (arith, length-drop at lists) in
        take_all (end - at) (drop at lists) z ∙ sym (take_all n (drop at lists) w) ∙ ap (take n) begun)

-- ---- the call of record i, by the six words that were read
module _ (lists ws : List ℕ) (i code a v seat from n : ℕ) (e₁ : code ≡ get_or ws (i * 6) 0) (e₂ : a ≡ get_or ws (i * 6 + 1) 0) (e₃ : v ≡ get_or ws (i * 6 + 2) 0)
    (e₄ : seat ≡ get_or ws (i * 6 + 3) 0) (e₅ : from ≡ get_or ws (i * 6 + 4) 0) (e₆ : n ≡ get_or ws (i * 6 + 5) 0) (rights : List ℕ) (e : rights ≡ part_of lists from n) where
  pub record_left : (table b b₁ : List ℕ) → b₁ ≡ after_by table b rights seat (call_by code a v) → b₁ ≡ after_seat table b (record_at lists ws i)
  unfolding record_at seated_by
  record_left table b b₁ h = h ∙ rw (e, e₁, e₂, e₃, e₄, e₅, e₆)

  pub record_answer : (table b : List ℕ) (r : Answer) → r ≡ answer_to table b rights seat (call_by code a v) → r ≡ answer_at table b (record_at lists ws i)
  unfolding record_at seated_by
  record_answer table b r h = h ∙ rw (e, e₁, e₂, e₃, e₄, e₅, e₆)

-- ---- a list of records

pub called_next : (lists ws : List ℕ) (i : ℕ) → i < length ws / 6 → called_by lists (drop (i * 6) ws) ≡ record_at lists ws i ∷ called_by lists (drop (i * 6 + 6) ws)
unfolding called_by record_at
called_next lists [] i h = absurd (omega arith)
called_next lists (c ∷ []) i h = absurd (omega arith)
called_next lists (c ∷ a ∷ []) i h = absurd (omega arith)
called_next lists (c ∷ a ∷ v ∷ []) i h = absurd (omega arith)
called_next lists (c ∷ a ∷ v ∷ s ∷ []) i h = absurd (omega arith)
called_next lists (c ∷ a ∷ v ∷ s ∷ f ∷ []) i h = absurd (omega arith)
called_next lists (c ∷ a ∷ v ∷ s ∷ f ∷ n ∷ ws) zero h = refl
called_next lists (c ∷ a ∷ v ∷ s ∷ f ∷ n ∷ ws) (suc i) h =
    let q : (k : ℕ) → suc i * 6 + k ≡ suc (suc (suc (suc (suc (suc (i * 6 + k)))))) = λ k. omega arith in
    let q₀ : suc i * 6 ≡ suc (suc (suc (suc (suc (suc (i * 6)))))) = omega arith in
    rw (q 6, q 1, q 2, q 3, q 4, q 5, q₀) (called_next lists ws i (omega arith))

short : (lists ws : List ℕ) → length ws < 6 → called_by lists ws ≡ []
unfolding called_by
short lists [] h = refl
short lists (c ∷ []) h = refl
short lists (c ∷ a ∷ []) h = refl
short lists (c ∷ a ∷ v ∷ []) h = refl
short lists (c ∷ a ∷ v ∷ s ∷ []) h = refl
short lists (c ∷ a ∷ v ∷ s ∷ f ∷ []) h = refl
short lists (c ∷ a ∷ v ∷ s ∷ f ∷ n ∷ ws) h = absurd (omega arith)

-- the work that is left from record i on: its call comes next, and past the last record there is none. A loop that has worked the records below i has
-- the whole result when it has worked the rest
module _ (lists calls : List ℕ) where
  unfoldable pub rest_from : ℕ → List (AtSeat Any)
  rest_from i = called_by lists (drop (i * 6) (words calls))

  rest_next : (i : ℕ) → i < length calls / 24 → rest_from i ≡ record_at lists (words calls) i ∷ rest_from (i + 1)
  unfolding rest_from
  rest_next i h =
      let q : (i + 1) * 6 ≡ i * 6 + 6 = omega arith in
      rw q (called_next lists (words calls) i (omega (arith, length_numbers 4 calls)))

  rest_end : (i : ℕ) → length calls / 24 ≤ i → rest_from i ≡ []
  unfolding rest_from
  rest_end i h = short lists (drop (i * 6) (words calls)) (omega (arith, length-drop (i * 6) (words calls), length_numbers 4 calls))

  module _ (table : List ℕ) where
    pub left_first : (b : List ℕ) → after_seats table b (rest_from 0) ≡ after_seats table b (calls_of lists calls)
    unfolding rest_from
    left_first b = refl

    -- the call of record i was made
    module _ (b b₁ : List ℕ) (i : ℕ) (made : b₁ ≡ after_seat table b (record_at lists (words calls) i)) (l : i < length calls / 24) where
      pub left_next : (z : List ℕ) → after_seats table b (rest_from i) ≡ z → after_seats table b₁ (rest_from (i + 1)) ≡ z
      unfolding after_seats
      left_next z e = rw made (ap (after_seats table b) (sym (rest_next i l)) ∙ e)

      pub answers_next : (a a₁ z : List ℕ) (r : Answer) → words a₁ ≡ written_from (words a) (i * 5) (words_of r) → r ≡ answer_at table b (record_at lists (words calls) i)
          → written_from (words a) (i * 5) (answers_to table b (rest_from i)) ≡ z
          → written_from (words a₁) ((i + 1) * 5) (answers_to table b₁ (rest_from (i + 1))) ≡ z
      unfolding written_from words_of answers_to
      answers_next a a₁ z r w q e =
          let k : (i + 1) * 5 ≡ suc (suc (suc (suc (suc (i * 5))))) = omega arith in
          rw (made, w, q, k) (ap (λ ks. written_from (words a) (i * 5) (answers_to table b ks)) (sym (rest_next i l)) ∙ e)

    pub left_last : (b z : List ℕ) (i : ℕ) → after_seats table b (rest_from i) ≡ z → length calls / 24 ≤ i → b ≡ z
    unfolding after_seats
    left_last b z i f h = ap (after_seats table b) (sym (rest_end i h)) ∙ f

    pub answers_first : (b a : List ℕ)
        → written_from (words a) (0 * 5) (answers_to table b (rest_from 0)) ≡ written_from (words a) 0 (answers_to table b (calls_of lists calls))
    unfolding rest_from
    answers_first b a = refl

    pub answers_last : (b a z : List ℕ) (i : ℕ) → written_from (words a) (i * 5) (answers_to table b (rest_from i)) ≡ z → length calls / 24 ≤ i → words a ≡ z
    unfolding written_from answers_to
    answers_last b a z i f h = ap (λ ks. written_from (words a) (i * 5) (answers_to table b ks)) (sym (rest_end i h)) ∙ f
