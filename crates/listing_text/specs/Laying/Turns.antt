-- A run seen from a turn in its midst, whoever's it is. Assumes nothing.
use Rattle.std.specs.declared.ops.ControlFlow.TheVariants.{Break, Continue}
use Rattle.rules.specs.Answers.{Turn}
use Prim.Native.Nat.{ℕ, suc, ◌+◌, ◌-◌, ◌<◌}
use native.Mathlib.Omega.{arith}
use Rattle.std.specs.Prelude.{◌≡◌}
use Rattle.std.proofs.Math.Path.{sym}
use Rattle.std.proofs.Common.{◌∙◌, ap}
use Rattle.table.specs.Table.{Table}
use Rattle.state.specs.State.{State}
use Rattle.rules.specs.Calls.{course, one_more, onward, Turned, turned, take_turn, course_of}
use Rattle.rules.specs.declared.Reason.{Reason}
use Rattle.rules.specs.declared.Reason.TheVariants.{AllDone}
use Rattle.calls.specs.Course.{after}

module _ (tb : Table) (n : ℕ) (s : State) where
  pub course_none : course_of tb n s ≡ after 0 (course_of tb (n - 0) s)
  unfolding after
  course_none =
      let e : n - 0 ≡ n = omega arith in
      let z : 0 + (course_of tb n s).steps ≡ (course_of tb n s).steps = omega arith in
      rw (e, z)

  module _ (i : ℕ) (s₁ : State) (f : course_of tb n s ≡ after i (course_of tb (n - i) s₁)) (h : i < n) (w : Turn) (s₂ : State) (e : turned w s₂ ≡ take_turn tb s₁) where
    step_on_lem : course_of tb (n - i) s₁ ≡ onward w s₂ (course_of tb (n - (i + 1)))
    unfolding course_of
    step_on_lem =
        let q : n - i ≡ suc (n - (i + 1)) = omega arith in
        let a : (take_turn tb s₁).turn ≡ w = sym (ap (λ (k : Turned). k.turn) e) in
        let b : (take_turn tb s₁).state ≡ s₂ = sym (ap (λ (k : Turned). k.state) e) in
        rw (q, a, b)

    -- a turn that went
    pub course_more : w ≡ Continue tt → course_of tb n s ≡ after (i + 1) (course_of tb (n - (i + 1)) s₂)
    unfolding after onward one_more
    course_more g =
        let k : course_of tb (n - i) s₁ ≡ one_more (course_of tb (n - (i + 1)) s₂) = step_on_lem ∙ rw g in
        let x : i + suc (course_of tb (n - (i + 1)) s₂).steps ≡ i + 1 + (course_of tb (n - (i + 1)) s₂).steps = omega arith in
        f ∙ rw (k, x)

    -- a turn that stopped
    pub course_stopped : (r : Reason) → w ≡ Break r → course_of tb n s ≡ course i r s₂
    unfolding after onward
    course_stopped r g =
        let k : course_of tb (n - i) s₁ ≡ course 0 r s₂ = step_on_lem ∙ rw g in
        let x : i + 0 ≡ i = omega arith in
        f ∙ rw (k, x)

  -- all steps made
  pub course_all : (i : ℕ) (s₁ : State) → course_of tb n s ≡ after i (course_of tb (n - i) s₁) → i ≡ n → course_of tb n s ≡ course n AllDone s₁
  unfolding after course_of
  course_all i s₁ f e =
      let q : n - n ≡ 0 = omega arith in
      let x : n + 0 ≡ n = omega arith in
      f ∙ rw (e, q, x)
