-- Turns without document 02's check that sums fit (S-4). Where the guards of the choice at which a thread stands are true just as they are with the check, a
-- turn of the thread with it is a turn without it, by the same rule, branch and partner; and where a guard is true and its assignment has no value, no turn is
-- left without it. Assumes nothing.
use Prim.Native.Nat.{ℕ, suc, ◌+◌}
use Rattle.std.proofs.Common.{arith, sym, ◌∙◌, inl}
use Rattle.std.specs.Prelude.{◌≡◌, Bool, false, eqb}
use Rattle.std.proofs.Math.Path.{refl, ap}
use Rattle.std.proofs.Math.Logic.{inr}
use mathlib.Core.List.{List, [], ◌∷◌, map, map-append}
use Rattle.numbers.specs.Count.{bit, count}
use Rattle.numbers.specs.Search.Laws.{contra}
use Rattle.numbers.specs.Tests.{clash}
use Rattle.published.specs.Syntax.{Process, Sum, nothing, branch, wait, tau, output, input, new_channel, new_thread, assign, and_wait}
use Rattle.published.specs.Agents.{◌∈◌, Env, Commitment, gives, takes, Thread, Agent, knows, globalrc}
use Rattle.published.specs.Rules.{Rearranged, none_left, same_first, swapped, twice, Acts, step, new, spawn, next, call, inert, send, out, recv, inn, more, Ours, skip, assigns, zeros, Reclaims, reclaim, Many, stays, goes, Run, last, pass}
use Rattle.published.specs.Fired.{by_call, by_passing, by_zeros, kind, apart, Fired, fired, behind, ours_fire, firing, Ends, ActsBy, RunBy, SteppedBy, run_past}
use Rattle.published.specs.Unchecked.{unchecked, unchecked_sum, unchecked_commitment, unchecked_thread, unchecked_body, unchecked_agent, unchecked_rule, unchecked_fired, SumFits, ChoiceFits, Halted}

-- of the first thread
unfoldable FirstFits : List Thread → Type 0
FirstFits [] = Unit {0}
FirstFits (t ∷ B) = ChoiceFits t.env t.process

unfoldable FirstHalted : List Thread → Type 0
FirstHalted [] = ⊥
FirstHalted (t ∷ B) = Halted t.env t.process

-- ---- waits, and lists

unchecked_wait : (q : Sum) → unchecked_sum (and_wait q) ≡ and_wait (unchecked_sum q)
unfolding unchecked_sum and_wait
unchecked_wait nothing = refl
unchecked_wait (branch g α P q) = rw (unchecked_wait q)
unchecked_wait (wait q) = rw (unchecked_wait q)

fits_wait : (δ : Env) (q : Sum) → SumFits δ q → SumFits δ (and_wait q)
unfolding SumFits and_wait
fits_wait δ nothing x = x
fits_wait δ (branch g α P q) (e, x) = (e, fits_wait δ q x)
fits_wait δ (wait q) x = fits_wait δ q x

in_map : {A : Type 0} (f : A → A) (a : A) (l : List A) → a ∈ l → f a ∈ map f l
in_map f a [] i = absurd i
in_map f a (b ∷ l) (inl e) = inl (ap f e)
in_map f a (b ∷ l) (inr i) = inr (in_map f a l i)

from_map : {A : Type 0} (f : A → A) (b : A) (l : List A) → b ∈ map f l → (a : A) × (a ∈ l) × (b ≡ f a)
from_map f b [] i = absurd i
from_map f b (a ∷ l) (inl e) = (a, inl refl, e)
from_map f b (a ∷ l) (inr i) = let (c, j, q) = from_map f b l i in (c, inr j, q)

-- who commits to receive on a channel did so with the check, and who to send
takes_from : (ĉ x : ℕ) (S : Process) (k : Commitment) → takes ĉ x S ≡ unchecked_commitment k → (R : Process) × (takes ĉ x R ≡ k)
unfolding unchecked_commitment
takes_from ĉ x S (gives c v Q) e = clash cc
takes_from ĉ x S (takes c y Q) e = (Q, cc)

gives_from : (ĉ v : ℕ) (S : Process) (k : Commitment) → gives ĉ v S ≡ unchecked_commitment k → (R : Process) × (gives ĉ v R ≡ k)
unfolding unchecked_commitment
gives_from ĉ v S (gives c y Q) e = (Q, cc)
gives_from ĉ v S (takes c y Q) e = clash cc

-- where K is the one or the other: where nobody is so committed on a channel, nobody is without the check
module _ (K : ℕ → ℕ → Process → Commitment) (back : (ĉ x : ℕ) (S : Process) (k : Commitment) → K ĉ x S ≡ unchecked_commitment k → (R : Process) × (K ĉ x R ≡ k))
    (ĉ : ℕ) (B : List Thread) where
  none_commits : ((t : Thread) → t ∈ B → (x : ℕ) (S : Process) → K ĉ x S ∈ t.commitments → ⊥)
      → (t : Thread) → t ∈ map unchecked_thread B → (x : ℕ) (S : Process) → K ĉ x S ∈ t.commitments → ⊥
  unfolding unchecked_thread
  none_commits f t i x S j =
      let (u, h, q) = from_map unchecked_thread t B i in
      let (k, l, e) = from_map unchecked_commitment (K ĉ x S) u.commitments (rw q at j) in
      let (R, z) = back ĉ x S k e in
      f u h x R (rw z l)

-- ---- orders, and who knows a channel

unchecked_order : {A B : List Thread} → Rearranged A B → Rearranged (map unchecked_thread A) (map unchecked_thread B)
unchecked_order none_left = none_left
unchecked_order (same_first r) = same_first (unchecked_order r)
unchecked_order swapped = swapped
unchecked_order (twice r s) = twice (unchecked_order r) (unchecked_order s)

unchecked_known : (c : ℕ) (A : List Thread) → globalrc c (map unchecked_thread A) ≡ globalrc c A
unfolding globalrc count knows unchecked_thread
unchecked_known c [] = refl
unchecked_known c (t ∷ A) = ap (λ (n : ℕ). bit (knows c t) + n) (unchecked_known c A)

unchecked_reclaims : {A B : Agent} → Many Reclaims A B → Many Reclaims (unchecked_agent A) (unchecked_agent B)
unfolding unchecked_agent
unchecked_reclaims stays = stays
unchecked_reclaims (goes (reclaim {A = A} ĉ e z) p) = goes (reclaim ĉ e (unchecked_known ĉ A ∙ z)) (unchecked_reclaims p)

-- ---- one reduction

-- what ends with rules that differ differs
not_so : {A : Type 0} {f g : Fired} → f ≡ g → eqb (kind f.rule) (kind g.rule) ≡ false → A
not_so e h = apart (ap (λ (f : Fired). f.rule) e) h

module _ (def : ℕ → Process) (for_numbers : ℕ → ℕ → Bool) where
  abbrev fires : {A B : Agent} → Acts def (Ours def for_numbers) A B → Fired
  fires r = firing def (Ours def for_numbers) (ours_fire def for_numbers) r

  abbrev ActsSo : Fired → Agent → Agent → Type 0
  ActsSo f A B = ActsBy (unchecked_body def) (Ours (unchecked_body def) for_numbers) (ours_fire (unchecked_body def) for_numbers)
      (unchecked_fired f) (unchecked_agent A) (unchecked_agent B)

  unchecked_acts : {A B : Agent} (r : Acts def (Ours def for_numbers) A B) → FirstFits A.threads → ActsSo (fires r) A B
  unfolding FirstFits ChoiceFits SumFits unchecked unchecked_commitment unchecked_thread unchecked_agent unchecked_rule unchecked_fired unchecked_body firing ours_fire behind
  unchecked_acts (step g) (e, x) = (step (sym e ∙ g), refl)
  unchecked_acts (new ĉ g f) (e, x) = (new ĉ (sym e ∙ g) f, refl)
  unchecked_acts (spawn g) (e, x) = (spawn (sym e ∙ g), refl)
  unchecked_acts (next g r) (e, x) = let (w, q) = unchecked_acts r x in (next (sym e ∙ g) w, ap (behind 1) q)
  unchecked_acts (call ws e) x = (call ws e, refl)
  unchecked_acts inert x = (inert, refl)
  unchecked_acts (send {Γ' = Γ'} {R = R} ĉ x w g c i v) (e, y) = (send ĉ x w (sym e ∙ g) c (in_map unchecked_commitment (takes ĉ x R) Γ' i) v, refl)
  unchecked_acts (out {Γ = Γ} {v = v} {P = P} {Q = Q} {B = B} ĉ g c f) (e, y) =
      rw (map-append unchecked_commitment Γ (gives ĉ v P ∷ []), unchecked_wait Q) (out ĉ (sym e ∙ g) c (none_commits takes takes_from ĉ B f), refl)
  unchecked_acts (recv {Γ' = Γ'} {R = R} ĉ v w g c i z) (e, y) = (recv ĉ v w (sym e ∙ g) c (in_map unchecked_commitment (gives ĉ v R) Γ' i) z, refl)
  unchecked_acts (inn {Γ = Γ} {x = x} {P = P} {Q = Q} {B = B} ĉ g c f) (e, y) =
      rw (map-append unchecked_commitment Γ (takes ĉ x P ∷ []), unchecked_wait Q) (inn ĉ (sym e ∙ g) c (none_commits gives gives_from ĉ B f), refl)
  unchecked_acts (more (skip {Q = Q} g)) (e, y) = rw (unchecked_wait Q) (more (skip (sym e ∙ g)), refl)
  unchecked_acts (more (assigns z g v)) (e, y) = (more (assigns z (sym e ∙ g) v), refl)
  unchecked_acts (more (zeros D z)) y = (more (zeros D z), refl)

  -- behind a branch that is passed over the guards are those that were left
  fits_past : {A B : Agent} (r : Acts def (Ours def for_numbers) A B) → (fires r).rule ≡ by_passing → FirstFits A.threads → FirstFits B.threads
  unfolding FirstFits ChoiceFits SumFits firing ours_fire behind kind
  fits_past (step g) p x = apart p refl
  fits_past (new ĉ g f) p x = apart p refl
  fits_past (spawn g) p x = apart p refl
  fits_past (next g r) p (e, x) = fits_past r p x
  fits_past (call ws e) p x = apart p refl
  fits_past inert p x = apart p refl
  fits_past (send ĉ x w g c i v) p y = apart p refl
  fits_past (out {δ = δ} {Q = Q} ĉ g c f) p (e, x) = fits_wait δ Q x
  fits_past (recv ĉ v w g c i z) p y = apart p refl
  fits_past (inn {δ = δ} {Q = Q} ĉ g c f) p (e, x) = fits_wait δ Q x
  fits_past (more (skip {δ = δ} {Q = Q} g)) p (e, x) = fits_wait δ Q x
  fits_past (more (assigns z g v)) p x = apart p refl
  fits_past (more (zeros D z)) p x = apart p refl

  -- zeros asks for no guard
  zeros_so : {A B : Agent} (r : Acts def (Ours def for_numbers) A B) → fires r ≡ fired 0 by_zeros → ActsSo (fires r) A B
  unfolding unchecked unchecked_commitment unchecked_thread unchecked_agent unchecked_rule unchecked_fired unchecked_body firing ours_fire behind kind
  zeros_so (step g) p = not_so p refl
  zeros_so (new ĉ g f) p = not_so p refl
  zeros_so (spawn g) p = not_so p refl
  zeros_so (next g r) p = let q : 1 + (fires r).branch ≡ 0 = ap (λ (f : Fired). f.branch) p in absurd (omega arith)
  zeros_so (call ws e) p = not_so p refl
  zeros_so inert p = not_so p refl
  zeros_so (send ĉ x w g c i v) p = not_so p refl
  zeros_so (out ĉ g c f) p = not_so p refl
  zeros_so (recv ĉ v w g c i z) p = not_so p refl
  zeros_so (inn ĉ g c f) p = not_so p refl
  zeros_so (more (skip g)) p = not_so p refl
  zeros_so (more (assigns z g v)) p = not_so p refl
  zeros_so (more (zeros D z)) p = (more (zeros D z), refl)

  -- ---- a turn

  abbrev RunSo : Fired → Agent → Agent → Type 0
  RunSo f A B = RunBy (unchecked_body def) (Ours (unchecked_body def) for_numbers) (ours_fire (unchecked_body def) for_numbers)
      (unchecked_fired f) (unchecked_agent A) (unchecked_agent B)

  abbrev EndsSo : {A B : Agent} → Run def (Ours def for_numbers) A B → Fired → Type 0
  EndsSo w f = Ends def (Ours def for_numbers) (ours_fire def for_numbers) w f

  unchecked_last : {A B : Agent} (r : Acts def (Ours def for_numbers) A B) (f : Fired) → fires r ≡ f → ActsSo (fires r) A B → RunSo f A B
  unfolding Ends
  unchecked_last r f e (w, q) = (last w, q ∙ ap unchecked_fired e)

  -- a turn that ends with zeros has nothing before them
  unchecked_zeros : {A B : Agent} (w : Run def (Ours def for_numbers) A B) → EndsSo w (fired 0 by_zeros) → RunSo (fired 0 by_zeros) A B
  unfolding Ends behind kind
  unchecked_zeros (last r) e = unchecked_last r (fired 0 by_zeros) e (zeros_so r e)
  unchecked_zeros (pass r w) (inl (g, p, y, q)) =
      let z : 0 ≡ suc (fires r).branch + g.branch = ap (λ (f : Fired). f.branch) q in absurd (omega arith)
  unchecked_zeros (pass r w) (inr (p, y, q)) = not_so q refl

  passing_so : (f : Fired) → f.rule ≡ by_passing → unchecked_fired f ≡ fired f.branch by_passing
  unfolding unchecked_fired unchecked_rule
  passing_so f p = rw p

  calling_so : (f g : Fired) → f.rule ≡ by_call → g ≡ unchecked_fired f → g.rule ≡ by_call
  unfolding unchecked_fired unchecked_rule
  calling_so f g p q = rw (q, p)

  unchecked_run : {A B : Agent} (w : Run def (Ours def for_numbers) A B) (f : Fired) → EndsSo w f → FirstFits A.threads → RunSo f A B
  unfolding Ends unchecked_agent unchecked_rule unchecked_fired behind
  unchecked_run (last r) f e x = unchecked_last r f e (unchecked_acts r x)
  unchecked_run (pass r w) f (inl (g, p, y, q)) x =
      let (r', e) = unchecked_acts r x in
      rw q (run_past (unchecked_body def) (Ours (unchecked_body def) for_numbers) (ours_fire (unchecked_body def) for_numbers) (fires r).branch (unchecked_fired g)
      (r', e ∙ passing_so (fires r) p) (unchecked_run w g y (fits_past r p x)))
  unchecked_run (pass r w) f (inr (p, y, q)) x =
      let (r', e) = unchecked_acts r x in
      let (w', d) = unchecked_zeros w y in
      rw q (pass r' w', inr (calling_so (fires r) _ p e, d, refl))

  -- a turn of thread t that ends with f, where the check makes no difference to the choice of t
  pub unchecked_stepped : {A B : Agent} {t : Thread} {f : Fired} → ChoiceFits t.env t.process
      → SteppedBy def (Ours def for_numbers) (ours_fire def for_numbers) A t f B
      → SteppedBy (unchecked_body def) (Ours (unchecked_body def) for_numbers) (ours_fire (unchecked_body def) for_numbers)
      (unchecked_agent A) (unchecked_thread t) (unchecked_fired f) (unchecked_agent B)
  unfolding FirstFits unchecked_agent
  unchecked_stepped {f = f} x h =
      let (w, e) = unchecked_run h.stepped.turn.run f h.ends x in
      record {
        stepped = record {
          between = unchecked_agent h.stepped.between;
          turn = record {
            others = map unchecked_thread h.stepped.turn.others;
            brought = unchecked_order h.stepped.turn.brought;
            product = map unchecked_thread h.stepped.turn.product;
            run = w;
            put_back = unchecked_order h.stepped.turn.put_back;
          };
          reclaimed = unchecked_reclaims h.stepped.reclaimed;
        };
        ends = e;
      }

  -- ---- where the check makes a difference

  halted_acts : {A B : Agent} (r : Acts def (Ours def for_numbers) A B) → FirstHalted A.threads → (fires r).rule ≡ by_zeros
  unfolding FirstHalted Halted firing ours_fire behind
  halted_acts (step g) x = absurd x
  halted_acts (new ĉ g f) x = absurd x
  halted_acts (spawn g) x = absurd x
  halted_acts (next {α = tau} g r) x = absurd x
  halted_acts (next {α = output c v} g r) x = absurd x
  halted_acts (next {α = input c v} g r) x = absurd x
  halted_acts (next {α = new_channel c} g r) x = absurd x
  halted_acts (next {α = new_thread R} g r) x = absurd x
  halted_acts (next {α = assign y e} g r) (h, o) = contra h g
  halted_acts (call ws e) x = absurd x
  halted_acts inert x = absurd x
  halted_acts (send ĉ x w g c i v) y = absurd y
  halted_acts (out ĉ g c f) x = absurd x
  halted_acts (recv ĉ v w g c i z) x = absurd x
  halted_acts (inn ĉ g c f) x = absurd x
  halted_acts (more (skip {α = tau} g)) x = absurd x
  halted_acts (more (skip {α = output c v} g)) x = absurd x
  halted_acts (more (skip {α = input c v} g)) x = absurd x
  halted_acts (more (skip {α = new_channel c} g)) x = absurd x
  halted_acts (more (skip {α = new_thread R} g)) x = absurd x
  halted_acts (more (skip {α = assign y e} g)) (h, o) = contra h g
  halted_acts (more (assigns z g v)) (h, o) = clash cc
  halted_acts (more (zeros D z)) x = refl

  halted_run : {A B : Agent} (w : Run def (Ours def for_numbers) A B) (f : Fired) → EndsSo w f → FirstHalted A.threads → f.rule ≡ by_zeros
  unfolding Ends kind
  halted_run (last r) f e x = ap (λ (g : Fired). g.rule) (sym e) ∙ halted_acts r x
  halted_run (pass r w) f (inl (g, p, y, q)) x = apart (sym p ∙ halted_acts r x) refl
  halted_run (pass r w) f (inr (p, y, q)) x = apart (sym p ∙ halted_acts r x) refl

  -- so a thread that is halted has no turn but zeros, which is no step's
  pub halted_only : {A B : Agent} {t : Thread} (f : Fired) → Halted t.env t.process
      → SteppedBy def (Ours def for_numbers) (ours_fire def for_numbers) A t f B → f.rule ≡ by_zeros
  unfolding FirstHalted
  halted_only f x h = halted_run h.stepped.turn.run f h.ends x
