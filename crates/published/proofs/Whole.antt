-- How a whole turn begins (`specs/Whole.antt`), that it is a turn, and which turns are whole. Assumes nothing.
use Rattle.std.specs.Prelude.{ℕ, ◌≡◌, ◌⊎◌, true, false}
use Rattle.std.proofs.Math.Path.{refl, ap}
use Rattle.std.proofs.Common.{sym, ◌∙◌}
use Rattle.std.proofs.Math.Logic.{inl, inr}
use mathlib.Core.List.{List, [], ◌∷◌}
use Rattle.published.specs.Syntax.{Process, end, choice, invoke, Sum, nothing, branch, wait, Prefix, tau, output, input, new_channel, new_thread, assign}
use Rattle.published.specs.Agents.{Env, Commitment, Thread, Channels, Agent, agent}
use Rattle.published.specs.Rules.{Acts, step, new, spawn, next, call, inert, send, out, recv, inn, more, Nothing, Run, last, pass, Turn}
use Rattle.published.specs.Fired.{by_passing, by_zeros, kind, apart, Fired, fired, behind, nothing_fires, firing, Ends, ActsBy, TurnBy}
use Rattle.published.specs.Choices.{commits, ByCommitment, ByPrefix, BySum, ByProcess, Of}
use Rattle.published.proofs.Choices.{acts_of}
use Rattle.published.specs.Whole.{first_waits, Whole, acted, rested, passed, WholeTurn, Onward, passing}

-- ---- the first reduction of a whole turn

module _ (def : ℕ → Process) where
  pub whole_of : {A C : Agent} → Whole def A C
      → Of def A.channels A.threads false C ⊎ ((T : Agent) × Of def A.channels A.threads true T × Onward def T C)
  unfolding Onward
  whole_of (acted r e) = inl (rw e at (acts_of def r))
  whole_of (rested {A} {T} r e w) = inr (T, rw e at (acts_of def r), inl (w, refl))
  whole_of (passed {A} {T} r e w) = inr (T, rw e at (acts_of def r), inr w)

-- ---- a whole turn is a turn

module _ (Δ : Channels) (Γ : List Commitment) (δ : Env) (B : List Thread) where
  -- (out) and (in) change the first thread alone
  prefix_alone : (α : Prefix) (P : Process) (Q : Sum) (T : Agent) → ByCommitment Δ Γ δ B α P Q T → (t : Thread) × (T ≡ agent Δ (t ∷ B))
  unfolding ByCommitment
  prefix_alone tau P Q T a = absurd a
  prefix_alone (output c v) P Q T (ĉ, e, f, q) = (_, q)
  prefix_alone (input c x) P Q T (ĉ, e, f, q) = (_, q)
  prefix_alone (new_channel c) P Q T a = absurd a
  prefix_alone (new_thread R) P Q T a = absurd a
  prefix_alone (assign x e) P Q T a = absurd a

  sum_alone : (Q : Sum) (T : Agent) → BySum Δ Γ δ B true Q T → (t : Thread) × (T ≡ agent Δ (t ∷ B))
  unfolding BySum ByPrefix
  sum_alone nothing T a = absurd a
  sum_alone (branch g α P Q) T (inl (f, a)) = sum_alone Q T a
  sum_alone (branch g α P Q) T (inr (f, a)) = prefix_alone α P Q T a
  sum_alone (wait Q) T a = absurd a

  process_alone : (def : ℕ → Process) (P : Process) (T : Agent) → ByProcess Δ Γ δ B def true P T → (t : Thread) × (T ≡ agent Δ (t ∷ B))
  unfolding ByProcess
  process_alone def end T a = absurd a
  process_alone def (choice Q) T a = sum_alone Q T a
  process_alone def (invoke D vs) T a = absurd a

module _ (def : ℕ → Process) where
  passes_on : (Δ : Channels) (A : List Thread) (T C : Agent) → Of def Δ A true T → Acts def Nothing (agent Δ A) T → Run def Nothing T C
      → Run def Nothing (agent Δ A) C
  unfolding Of
  passes_on Δ [] T C h r w = absurd h
  passes_on Δ (t ∷ B) T C h r w =
      let (t', q) = process_alone Δ t.commitments t.env B def t.process T h in
      pass (rw q at r) (rw q at w)

  whole_run : {A C : Agent} → Whole def A C → Run def Nothing A C
  whole_run (acted r e) = last r
  whole_run (rested r e w) = last r
  whole_run (passed {A} {T} {C} r e w) = passes_on A.channels A.threads T C (rw e at (acts_of def r)) r (whole_run w)

  pub whole_turn : {A : Agent} {t : Thread} {T : Agent} → WholeTurn def A t T → Turn def Nothing A t T
  whole_turn h = record { others = h.others; brought = h.brought; product = h.product; run = whole_run h.whole; put_back = h.put_back }

-- ---- a turn that ends with an action is whole, as is one that ends with (out) or (in) at Σ wait

module _ (def : ℕ → Process) where
  commits_passing : {A T : Agent} (r : Acts def Nothing A T) → commits def r ≡ passing (firing def Nothing nothing_fires r).rule
  unfolding commits firing passing behind Nothing
  commits_passing (step g) = refl
  commits_passing (new ĉ g f) = refl
  commits_passing (spawn g) = refl
  commits_passing (next g r) = commits_passing r
  commits_passing (call ws e) = refl
  commits_passing inert = refl
  commits_passing (send ĉ x w g c i v) = refl
  commits_passing (out ĉ g c f) = refl
  commits_passing (recv ĉ v w g c i e) = refl
  commits_passing (inn ĉ g c f) = refl
  commits_passing (more m) = absurd m

  -- zeros is no rule of 002
  never_zeros : {A T : Agent} (r : Acts def Nothing A T) → (firing def Nothing nothing_fires r).rule ≡ by_zeros → ⊥
  unfolding firing behind Nothing kind
  never_zeros (step g) e = apart e refl
  never_zeros (new ĉ g f) e = apart e refl
  never_zeros (spawn g) e = apart e refl
  never_zeros (next g r) e = never_zeros r e
  never_zeros (call ws q) e = apart e refl
  never_zeros inert e = apart e refl
  never_zeros (send ĉ x w g c i v) e = apart e refl
  never_zeros (out ĉ g c f) e = apart e refl
  never_zeros (recv ĉ v w g c i q) e = apart e refl
  never_zeros (inn ĉ g c f) e = apart e refl
  never_zeros (more m) e = absurd m

  ends_otherwise : {A T : Agent} (w : Run def Nothing A T) (f : Fired) → Ends def Nothing nothing_fires w f → f.rule ≡ by_zeros → ⊥
  unfolding Ends behind
  ends_otherwise (last r) f e z = never_zeros r (ap (λ (x : Fired). x.rule) e ∙ z)
  ends_otherwise (pass r w) f (inl (g, p, e, q)) z = ends_otherwise w g e (sym (ap (λ (x : Fired). x.rule) q) ∙ z)
  ends_otherwise (pass r w) f (inr (p, e, q)) z = ends_otherwise w (fired 0 by_zeros) e refl

  run_whole : {A T : Agent} (w : Run def Nothing A T) (f : Fired) → Ends def Nothing nothing_fires w f → passing f.rule ≡ false → Whole def A T
  unfolding Ends behind passing
  run_whole (last r) f e z = acted r (commits_passing r ∙ ap (λ (x : Fired). passing x.rule) e ∙ z)
  run_whole (pass r w) f (inl (g, p, e, q)) z =
      passed r (commits_passing r ∙ ap passing p) (run_whole w g e (sym (ap (λ (x : Fired). passing x.rule) q) ∙ z))
  run_whole (pass r w) f (inr (p, e, q)) z = absurd (ends_otherwise w (fired 0 by_zeros) e refl)

  pub action_whole : {A : Agent} {t : Thread} {f : Fired} {T : Agent} → TurnBy def Nothing nothing_fires A t f T → passing f.rule ≡ false → WholeTurn def A t T
  action_whole {f = f} h z = record {
    others = h.turn.others;
    brought = h.turn.brought;
    product = h.turn.product;
    whole = run_whole h.turn.run f h.ends z;
    put_back = h.turn.put_back;
  }

  pub passed_so : {A T C : Agent} → ActsBy def Nothing nothing_fires (fired 0 by_passing) A T → Whole def T C → Whole def A C
  unfolding passing
  passed_so (r, e) w = passed r (commits_passing r ∙ ap (λ (x : Fired). passing x.rule) e) w

  pub rested_so : {A T : Agent} → ActsBy def Nothing nothing_fires (fired 0 by_passing) A T → first_waits T.threads ≡ true → Whole def A T
  unfolding passing
  rested_so (r, e) w = rested r (commits_passing r ∙ ap (λ (x : Fired). passing x.rule) e) w
