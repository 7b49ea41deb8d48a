-- `Alike` and `UpTo` are no freer than 002: an agent that is like the end of a reduction is the end of one, and what is said there of a branch of a thread is
-- a whole turn. Assumes nothing.
use Rattle.std.specs.Prelude.{ℕ, zero, suc, ◌≡◌, ◌⊎◌, true, false}
use Rattle.std.proofs.Math.Path.{refl}
use Rattle.std.proofs.Math.Logic.{inl, inr}
use mathlib.Core.List.{List, [], ◌∷◌}
use Rattle.numbers.specs.Search.Laws.{case_b}
use Rattle.published.specs.Syntax.{Guard, Process, end, choice, invoke, Sum, nothing, branch, wait, Prefix, tau, output, input, new_channel, new_thread, assign, and_wait, waits}
use Rattle.published.specs.Agents.{channel, Env, bind, holds, Commitment, Thread, thread, Channels, adding, Agent, agent}
use Rattle.published.specs.Rules.{Acts, step, new, spawn, next, send, out, recv, inn, Nothing}
use Rattle.published.specs.Choices.{commits, Sends, Receives, ByAction, InSum, InProcess, Alike, same_end, same_branch}
use Rattle.published.specs.Whole.{Whole, acted, passed, WholeTurn, Unmet, ByBranch}

-- ---- one reduction

module _ (def : ℕ → Process) (Δ : Channels) (δ : Env) where
  -- to the agent with D and h ∷ C, by the action of a prefix whose guard is true, whatever was committed and whatever branches are behind
  abbrev Goes : List Thread → Prefix → Process → Channels → Thread → List Thread → Type 0
  Goes B α P D h C =
      (Γ : List Commitment) (g : Guard) (Q : Sum) → holds δ g ≡ true
      → (r : Acts def Nothing (agent Δ (thread Γ δ (choice (branch g α P Q)) ∷ B)) (agent D (h ∷ C))) × (commits def r ≡ false)

  action_goes : (B : List Thread) (α : Prefix) (P : Process) (T : Agent) → ByAction Δ δ B α P T
      → (D : Channels) × (h : Thread) × (C : List Thread) × (T ≡ agent D (h ∷ C)) × Goes B α P D h C
  unfolding ByAction Sends Receives commits
  action_goes B tau P T q = (Δ, thread [] δ P, B, q, λ Γ g Q y. (step y, refl))
  action_goes [] (output c v) P T a = absurd a
  action_goes (u ∷ C) (output c v) P T (ĉ, x, R, w, e, i, f, q) =
      (Δ, thread [] δ P, thread [] (bind u.env x w) R ∷ C, q, λ Γ g Q y. (send ĉ x w y e i f, refl))
  action_goes [] (input c x) P T a = absurd a
  action_goes (u ∷ C) (input c x) P T (ĉ, v, R, w, e, i, f, q) =
      (Δ, thread [] (bind δ x w) P, thread [] u.env R ∷ C, q, λ Γ g Q y. (recv ĉ v w y e i f, refl))
  action_goes B (new_channel c) P T (ĉ, f, q) = (adding Δ ĉ, thread [] (bind δ c (channel ĉ)) P, B, q, λ Γ g Q y. (new ĉ y f, refl))
  action_goes B (new_thread R) P T q = (Δ, thread [] δ R, thread [] δ P ∷ B, q, λ Γ g Q y. (spawn y, refl))
  action_goes B (assign x e) P T a = absurd a

  module _ (Γ : List Commitment) (B : List Thread) (α : Prefix) (P : Process) (D : Channels) (h : Thread) (C : List Thread) (act : Goes B α P D h C) where
    sum_acts : (Q : Sum) → InSum δ (λ g β. holds δ g ≡ false) Q α P → Acts def Nothing (agent Δ (thread Γ δ (choice Q) ∷ B)) (agent D (h ∷ C))
    unfolding InSum
    sum_acts nothing i = absurd i
    sum_acts (branch g β R Q) (inl (y, e, f)) = rw (e, f) (act Γ g Q y).0
    sum_acts (branch g β R Q) (inr (y, i)) = next y (sum_acts Q i)
    sum_acts (wait Q) i = absurd i

    process_acts : (S : Process) → InProcess δ (λ g β. holds δ g ≡ false) S α P → Acts def Nothing (agent Δ (thread Γ δ S ∷ B)) (agent D (h ∷ C))
    unfolding InProcess
    process_acts end i = absurd i
    process_acts (choice Q) i = sum_acts Q i
    process_acts (invoke D vs) i = absurd i

-- where the first thread has a reduction, every agent that is like its end is the end of one too
pub alike_acts : (def : ℕ → Process) {A T T' : Agent} → Acts def Nothing A T → Alike A T T' → Acts def Nothing A T'
alike_acts def r (same_end e) = rw (← e) r
alike_acts def {A} {T} {T'} r (same_branch t B α P e i x x') =
    let (D, h, C, q, act) = action_goes def A.channels t.env B α P T' x' in
    let z = process_acts def A.channels t.env t.commitments B α P D h C act t.process i in
    by A e (rw q z)
  where
    by : (X : Agent) → X.threads ≡ t ∷ B → Acts def Nothing (agent X.channels (t ∷ B)) T' → Acts def Nothing X T'
    by X f w = rw (← f) at w

-- ---- whole turns

-- n waits more behind a sum
unfoldable pub waited : ℕ → Sum → Sum
waited zero Q = Q
waited (suc n) Q = and_wait (waited n Q)

pub waited_branch : (n : ℕ) (g : Guard) (α : Prefix) (P : Process) (Q : Sum) → waited n (branch g α P Q) ≡ branch g α P (waited n Q)
unfolding waited and_wait
waited_branch zero g α P Q = refl
waited_branch (suc n) g α P Q = rw (waited_branch n g α P Q)

pub waited_wait : (n : ℕ) (Q : Sum) → waited n (wait Q) ≡ wait (waited n Q)
unfolding waited and_wait
waited_wait zero Q = refl
waited_wait (suc n) Q = rw (waited_wait n Q)

pub waited_nothing : (n : ℕ) → waited n nothing ≡ waits n
unfolding waited waits and_wait
waited_nothing zero = refl
waited_nothing (suc n) = rw (waited_nothing n) (one_more_lem n)
  where
    one_more_lem : (m : ℕ) → and_wait (waits m) ≡ wait (waits m)
    one_more_lem zero = refl
    one_more_lem (suc m) = rw (one_more_lem m)

module _ (def : ℕ → Process) (Δ : Channels) (δ : Env) (B : List Thread) (α : Prefix) (P : Process) (D : Channels) (h : Thread) (C : List Thread)
    (act : Goes def Δ δ B α P D h C) where
  -- an action to the agent with D and h ∷ C, or an (out) or (in) and then a whole turn
  abbrev Ahead : List Commitment → Sum → Type 0
  Ahead Γ Q =
      ((r : Acts def Nothing (agent Δ (thread Γ δ (choice Q) ∷ B)) (agent D (h ∷ C))) × (commits def r ≡ false))
      ⊎ ((x : Thread) × (r : Acts def Nothing (agent Δ (thread Γ δ (choice Q) ∷ B)) (agent Δ (x ∷ B))) × (commits def r ≡ true)
      × Whole def (agent Δ (x ∷ B)) (agent D (h ∷ C)))

  ahead_whole : (Γ : List Commitment) (Q : Sum) → Ahead Γ Q → Whole def (agent Δ (thread Γ δ (choice Q) ∷ B)) (agent D (h ∷ C))
  ahead_whole Γ Q (inl (r, e)) = acted r e
  ahead_whole Γ Q (inr (x, r, e, w)) = passed r e w

  -- past a branch with a false guard
  next_ahead : (Γ : List Commitment) (g : Guard) (β : Prefix) (R : Process) (Q : Sum) → holds δ g ≡ false → Ahead Γ Q → Ahead Γ (branch g β R Q)
  unfolding commits
  next_ahead Γ g β R Q y (inl (r, e)) = inl (next y r, e)
  next_ahead Γ g β R Q y (inr (x, r, e, w)) = inr (x, next y r, e, w)

  -- past one that nobody meets
  unmet_ahead : (Γ : List Commitment) (g : Guard) (β : Prefix) (R : Process) (Q : Sum) → holds δ g ≡ true → Unmet δ B β
      → ((Γ' : List Commitment) → Whole def (agent Δ (thread Γ' δ (choice (and_wait Q)) ∷ B)) (agent D (h ∷ C))) → Ahead Γ (branch g β R Q)
  unfolding Unmet commits
  unmet_ahead Γ g tau R Q y u w = absurd u
  unmet_ahead Γ g (output c v) R Q y (ĉ, e, f) w = inr (_, out ĉ y e f, refl, w _)
  unmet_ahead Γ g (input c x) R Q y (ĉ, e, f) w = inr (_, inn ĉ y e f, refl, w _)
  unmet_ahead Γ g (new_channel c) R Q y u w = absurd u
  unmet_ahead Γ g (new_thread S) R Q y u w = absurd u
  unmet_ahead Γ g (assign x e) R Q y u w = absurd u

  sum_ahead : (Q : Sum) → InSum δ (λ g β. (holds δ g ≡ false) ⊎ Unmet δ B β) Q α P → (n : ℕ) (Γ : List Commitment) → Ahead Γ (waited n Q)
  unfolding InSum waited
  sum_ahead nothing i n Γ = absurd i
  sum_ahead (branch g β R Q) (inl (y, e, f)) n Γ = rw (waited_branch n g β R Q, e, f) (inl (act Γ g (waited n Q) y))
  sum_ahead (branch g β R Q) (inr (inl y, i)) n Γ = rw (waited_branch n g β R Q) (next_ahead Γ g β R (waited n Q) y (sum_ahead Q i n Γ))
  sum_ahead (branch g β R Q) (inr (inr u, i)) n Γ =
      rw (waited_branch n g β R Q)
      (case_b (holds δ g)
      (λ y. unmet_ahead Γ g β R (waited n Q) y u (λ Γ'. ahead_whole Γ' (and_wait (waited n Q)) (sum_ahead Q i (suc n) Γ')))
      (λ y. next_ahead Γ g β R (waited n Q) y (sum_ahead Q i n Γ)))
  sum_ahead (wait Q) i n Γ = absurd i

  process_whole : (S : Process) → InProcess δ (λ g β. (holds δ g ≡ false) ⊎ Unmet δ B β) S α P → (Γ : List Commitment)
      → Whole def (agent Δ (thread Γ δ S ∷ B)) (agent D (h ∷ C))
  unfolding InProcess waited
  process_whole end i Γ = absurd i
  process_whole (choice Q) i Γ = ahead_whole Γ Q (sum_ahead Q i 0 Γ)
  process_whole (invoke E vs) i Γ = absurd i

-- what `ByBranch` says is a whole turn by 002's rules
pub branch_whole : (def : ℕ → Process) {A : Agent} {t : Thread} {α : Prefix} {P : Process} {T : Agent} → ByBranch A t α P T → WholeTurn def A t T
branch_whole def {A} {t} {α} {P} {T} x =
    let (D, h, C, q, act) = action_goes def A.channels t.env x.others α P (agent T.channels x.product) x.action in
    let w = process_whole def A.channels t.env x.others α P D h C act t.process x.comes_to t.commitments in
    record { others = x.others; brought = x.brought; product = x.product; whole = rw q w; put_back = x.put_back }
