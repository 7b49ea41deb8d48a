-- What `specs/Stands.antt` says of a turn that ends with a rule is so. So another rule, branch or partner is excluded; an example. Assumes nothing.
use Prim.Native.Nat.{ℕ, zero, suc, ◌+◌}
use native.Mathlib.Omega.{arith}
use Rattle.std.specs.Prelude.{◌≡◌, ◌≢◌, Bool, Some}
use Rattle.std.proofs.Math.Path.{refl}
use Rattle.std.proofs.Math.Numerals.{one-add}
use Rattle.std.proofs.Common.{sym, ◌∙◌, ap}
use Rattle.std.proofs.Math.Logic.{inl, inr}
use mathlib.Core.List.{List, [], ◌∷◌}
use Rattle.numbers.specs.Search.Laws.{contra}
use Rattle.published.specs.Syntax.{always, Process, end, choice, invoke, Sum, nothing, branch, wait, Prefix, tau, output, input, new_channel, new_thread, assign, and_wait}
use Rattle.published.specs.Agents.{◌∈◌, channel, number, Env, bind, holds, Commitment, takes, Thread, thread, Channels, Agent, agent}
use Rattle.published.specs.Rules.{Acts, step, new, spawn, next, call, inert, send, out, recv, inn, more, Ours, skip, assigns, zeros, stays, Run, last, pass}
use Rattle.published.specs.Fired.{Rule, by_call, by_step, by_send, by_passing, by_zeros, kind, apart, Fired, fired, behind, Labels, ours_fire, firing, Ends, SteppedBy, Had, Turns, had}
use Rattle.published.specs.ProductLaws.{same_order, in_rearranged}
use Rattle.published.specs.Stands.{Suits, Meets, InSum, StandsIn, StandsFirst, MeetsWith, Among}

-- a wait more at the end is no branch more
and_wait_lem : (δ : Env) (Q : Sum) (i : ℕ) (r : Rule) → InSum δ (and_wait Q) i r → InSum δ Q i r
unfolding InSum and_wait
and_wait_lem δ nothing i r x = x
and_wait_lem δ (branch g α P Q) zero r x = x
and_wait_lem δ (branch g α P Q) (suc i) r (p, x) = (p, and_wait_lem δ Q i r x)
and_wait_lem δ (wait Q) i r x = x

-- no prefix is a call's
never_call : (δ : Env) (α : Prefix) → Suits δ α by_call → ⊥
unfolding Suits kind
never_call δ tau e = apart e refl
never_call δ (output c v) (inl e) = apart e refl
never_call δ (output c v) (inr (u, k, e)) = apart e refl
never_call δ (input c v) (inl e) = apart e refl
never_call δ (input c v) (inr (u, k, e)) = apart e refl
never_call δ (new_channel c) (ĉ, e) = apart e refl
never_call δ (new_thread P) e = apart e refl
never_call δ (assign x e) q = apart q refl

no_call : (δ : Env) (Q : Sum) (i : ℕ) → InSum δ Q i by_call → ⊥
unfolding InSum kind
no_call δ nothing i x = x
no_call δ (branch g α P Q) zero (inl (y, e)) = apart e refl
no_call δ (branch g α P Q) zero (inr (y, x)) = never_call δ α x
no_call δ (branch g α P Q) (suc i) (p, x) = no_call δ Q i x
no_call δ (wait Q) i x = x

call_stands : (δ : Env) (P : Process) (f : Fired) → f.rule ≡ by_call → StandsIn δ P f → StandsIn δ P (fired 0 by_call)
unfolding StandsIn kind
call_stands δ end f e x = apart (sym x ∙ e) refl
call_stands δ (choice Q) f e x = absurd (no_call δ Q f.branch (rw e at x))
call_stands δ (invoke D vs) f e x = refl

two_more : (n m : ℕ) → suc (suc n) + m ≡ suc (suc n + m)
two_more n m = omega arith

same_rule : (n : ℕ) (f : Fired) → (behind n f).rule ≡ f.rule
unfolding behind
same_rule n f = refl

module _ (def : ℕ → Process) (for_numbers : ℕ → ℕ → Bool) where
  abbrev More : Agent → Agent → Type 0
  More = Ours def for_numbers

  abbrev own : Labels (Ours def for_numbers)
  own = ours_fire def for_numbers

  abbrev fires : {A B : Agent} → Acts def (Ours def for_numbers) A B → Fired
  fires r = firing def (Ours def for_numbers) (ours_fire def for_numbers) r

  -- ---- the branch

  acts_stands : {A B : Agent} (r : Acts def More A B) → (fires r).rule ≢ by_zeros → StandsFirst A.threads (fires r)
  unfolding StandsFirst StandsIn InSum Suits firing ours_fire behind
  acts_stands (step g) n = inr (g, refl)
  acts_stands (new ĉ g f) n = inr (g, (ĉ, refl))
  acts_stands (spawn g) n = inr (g, refl)
  acts_stands (next g r) n = rw (one-add (fires r).branch) (inl g, acts_stands r n)
  acts_stands (call ws e) n = refl
  acts_stands inert n = refl
  acts_stands (send ĉ x w g c i v) n = inr (g, inr (_, _, refl))
  acts_stands (out ĉ g c f) n = inr (g, inl refl)
  acts_stands (recv ĉ v w g c i e) n = inr (g, inr (_, _, refl))
  acts_stands (inn ĉ g c f) n = inr (g, inl refl)
  acts_stands (more (skip g)) n = inl (g, refl)
  acts_stands (more (assigns z g v)) n = inr (g, refl)
  acts_stands (more (zeros D z)) n = absurd (n refl)

  -- what stands behind a branch that is passed over
  acts_past : {A B : Agent} (r : Acts def More A B) → (fires r).rule ≡ by_passing → (f : Fired) → StandsFirst B.threads f
      → StandsFirst A.threads (behind (suc (fires r).branch) f)
  unfolding StandsFirst StandsIn InSum Meets firing ours_fire behind kind
  acts_past (step g) e f x = apart e refl
  acts_past (new ĉ g y) e f x = apart e refl
  acts_past (spawn g) e f x = apart e refl
  acts_past (next {δ = δ} g r) e f x = rw (one-add (fires r).branch, two_more (fires r).branch f.branch) (inl g, acts_past r e f x)
  acts_past (call ws y) e f x = apart e refl
  acts_past inert e f x = apart e refl
  acts_past (send ĉ y w g c i v) e f x = apart e refl
  acts_past (out {δ = δ} {Q = Q} ĉ g c y) e f x = rw (one-add f.branch) (inr tt, and_wait_lem δ Q f.branch f.rule x)
  acts_past (recv ĉ v w g c i y) e f x = apart e refl
  acts_past (inn {δ = δ} {Q = Q} ĉ g c y) e f x = rw (one-add f.branch) (inr tt, and_wait_lem δ Q f.branch f.rule x)
  acts_past (more (skip {δ = δ} {Q = Q} g)) e f x = rw (one-add f.branch) (inl g, and_wait_lem δ Q f.branch f.rule x)
  acts_past (more (assigns z g v)) e f x = apart e refl
  acts_past (more (zeros D z)) e f x = apart e refl

  run_stands : {A B : Agent} (w : Run def More A B) (f : Fired) → Ends def More own w f → f.rule ≢ by_zeros → StandsFirst A.threads f
  unfolding Ends StandsFirst StandsIn kind
  run_stands (last r) f e n = rw e at (acts_stands r (λ z. n (ap (λ (g : Fired). g.rule) (sym e) ∙ z)))
  run_stands (pass r w) f (inl (g, p, y, q)) n =
      rw q (acts_past r p g (run_stands w g y (λ z. n (ap (λ (h : Fired). h.rule) q ∙ same_rule (suc (fires r).branch) g ∙ z))))
  run_stands (pass {t = t} r w) f (inr (p, y, q)) n =
      rw q (call_stands t.env t.process (fires r) p (acts_stands r (λ z. apart (sym p ∙ z) refl)))

  -- the rule with which a turn of thread t ends stands in t
  pub rule_stands : {A B : Agent} {t : Thread} (f : Fired) → SteppedBy def (Ours def for_numbers) (ours_fire def for_numbers) A t f B → f.rule ≢ by_zeros
      → StandsIn t.env t.process f
  unfolding StandsFirst
  rule_stands f h n = run_stands h.stepped.turn.run f h.ends n

  -- ---- who is met

  acts_met : {A B : Agent} (r : Acts def More A B) (u : Thread) (k : Commitment) → MeetsWith (fires r).rule u k → Among A.threads u k
  unfolding MeetsWith Among firing ours_fire behind
  acts_met (step g) u k m = absurd m
  acts_met (new ĉ g f) u k m = absurd m
  acts_met (spawn g) u k m = absurd m
  acts_met (next g r) u k m = acts_met r u k m
  acts_met (call ws e) u k m = absurd m
  acts_met inert u k m = absurd m
  acts_met (send ĉ x w g c i v) u k (p, q) = (inl p, rw (q, p) i)
  acts_met (out ĉ g c f) u k m = absurd m
  acts_met (recv ĉ v w g c i e) u k (p, q) = (inl p, rw (q, p) i)
  acts_met (inn ĉ g c f) u k m = absurd m
  acts_met (more (skip g)) u k m = absurd m
  acts_met (more (assigns z g v)) u k m = absurd m
  acts_met (more (zeros D z)) u k m = absurd m

  run_met : {A B : Agent} (w : Run def More A B) (f : Fired) → Ends def More own w f → (u : Thread) (k : Commitment) → MeetsWith f.rule u k
      → Among A.threads u k
  unfolding Ends Among MeetsWith behind
  run_met (last r) f e u k m = acts_met r u k (rw e m)
  run_met (pass r w) f (inl (g, p, y, q)) u k m = run_met w g y u k (rw q at m)
  run_met (pass r w) f (inr (p, y, q)) u k m = absurd (let z : ⊥ = rw q at m in z)

  -- the thread that a turn meets is in the agent, and has the commitment
  pub partner_there : {A B : Agent} {t : Thread} (f : Fired) → SteppedBy def (Ours def for_numbers) (ours_fire def for_numbers) A t f B
      → (u : Thread) (k : Commitment) → MeetsWith f.rule u k → (u ∈ A.threads) × (k ∈ u.commitments)
  unfolding Among
  partner_there f h u k m =
      let (i, j) = run_met h.stepped.turn.run f h.ends u k m in (in_rearranged u h.stepped.turn.brought (inr i), j)

  -- ---- an example: [true] tau, end + [true] c!v, end

  abbrev twofold : Env → Thread
  twofold δ = thread [] δ (choice (branch always tau end (branch always (output 0 1) end nothing)))

  -- the thread of the example has a turn by (step) of branch 0
  pub twofold_steps : (Δ : Channels) (δ : Env)
      → SteppedBy def (Ours def for_numbers) (ours_fire def for_numbers) (agent Δ (twofold δ ∷ [])) (twofold δ) (fired 0 by_step) (agent Δ (thread [] δ end ∷ []))
  unfolding holds firing Ends
  twofold_steps Δ δ = record {
    stepped = record {
      between = agent Δ (thread [] δ end ∷ []);
      turn = record {
        others = [];
        brought = same_order (twofold δ ∷ []);
        product = thread [] δ end ∷ [];
        run = last (step refl);
        put_back = same_order (thread [] δ end ∷ []);
      };
      reclaimed = stays;
    };
    ends = refl;
  }

  first_branch : (δ : Env) (i : ℕ) (r : Rule) → InSum δ (branch always tau end (branch always (output 0 1) end nothing)) i r → (i ≡ 0) × (r ≡ by_step)
  unfolding InSum Suits Meets holds
  first_branch δ zero r (inl (e, q)) = contra refl e
  first_branch δ zero r (inr (e, x)) = (refl, x)
  first_branch δ (suc i) r (inl e, x) = contra refl e
  first_branch δ (suc i) r (inr z, x) = absurd z

  -- nothing else fires in the thread of the example: not branch 1, whoever waits for what it sends, and no other rule
  pub twofold_only : {A B : Agent} (δ : Env) (f : Fired) → SteppedBy def (Ours def for_numbers) (ours_fire def for_numbers) A (twofold δ) f B → f.rule ≢ by_zeros
      → (f.branch ≡ 0) × (f.rule ≡ by_step)
  unfolding StandsIn
  twofold_only δ f h n = first_branch δ f.branch f.rule (rule_stands f h n)

  twofold_not_sent : {A B : Agent} (δ : Env) (u : Thread) (k : Commitment)
      → SteppedBy def (Ours def for_numbers) (ours_fire def for_numbers) A (twofold δ) (fired 1 (by_send u k)) B → ⊥
  unfolding kind
  twofold_not_sent δ u k h = let (e, q) = twofold_only δ (fired 1 (by_send u k)) h (λ z. apart z refl) in let z : ⊥ = omega arith in z

  -- ---- another: [true] c!v, end beside a thread that waits to receive on c; variables 0 and 1 of the sender are c and v

  abbrev sender : Thread
  sender = thread [] (Some (channel 0) ∷ Some (number 7) ∷ []) (choice (branch always (output 0 1) end nothing))

  abbrev receiver : Thread
  receiver = thread (takes 0 0 end ∷ []) [] (choice (wait nothing))

  pub sender_meets : (Δ : Channels)
      → SteppedBy def (Ours def for_numbers) (ours_fire def for_numbers) (agent Δ (sender ∷ receiver ∷ [])) sender (fired 0 (by_send receiver (takes 0 0 end)))
      (agent Δ (thread [] (Some (channel 0) ∷ Some (number 7) ∷ []) end ∷ thread [] (Some (number 7) ∷ []) end ∷ []))
  unfolding holds bind firing Ends
  sender_meets Δ = record {
    stepped = record {
      between = agent Δ (thread [] (Some (channel 0) ∷ Some (number 7) ∷ []) end ∷ thread [] (Some (number 7) ∷ []) end ∷ []);
      turn = record {
        others = receiver ∷ [];
        brought = same_order (sender ∷ receiver ∷ []);
        product = thread [] (Some (channel 0) ∷ Some (number 7) ∷ []) end ∷ thread [] (Some (number 7) ∷ []) end ∷ [];
        run = last (send 0 0 (number 7) refl refl (inl refl) refl);
        put_back = same_order (thread [] (Some (channel 0) ∷ Some (number 7) ∷ []) end ∷ thread [] (Some (number 7) ∷ []) end ∷ []);
      };
      reclaimed = stays;
    };
    ends = refl;
  }

  -- a thread without commitments is never met
  pub bare_not_met : {A B : Agent} {t : Thread} (i : ℕ) (δ : Env) (P : Process) (k : Commitment)
      → SteppedBy def (Ours def for_numbers) (ours_fire def for_numbers) A t (fired i (by_send (thread [] δ P) k)) B → ⊥
  unfolding MeetsWith
  bare_not_met i δ P k h = (partner_there (fired i (by_send (thread [] δ P) k)) h (thread [] δ P) k (refl, refl)).1

  -- ---- turns one after the other: the first of them is a turn that ends with its rule

  first_turn : {h : Had} {l : List Had} {A B : Agent} → Turns def (Ours def for_numbers) (ours_fire def for_numbers) (h ∷ l) A B
      → (C : Agent) × SteppedBy def (Ours def for_numbers) (ours_fire def for_numbers) A h.who h.does C
      × Turns def (Ours def for_numbers) (ours_fire def for_numbers) l C B
  first_turn (had {B = C} x w) = (C, x, w)

  pub turns_not_sent : {A B : Agent} (δ : Env) (u : Thread) (k : Commitment) (l : List Had)
      → Turns def (Ours def for_numbers) (ours_fire def for_numbers) (record { who = twofold δ; does = fired 1 (by_send u k) } ∷ l) A B → ⊥
  turns_not_sent δ u k l w = let (C, x, z) = first_turn w in twofold_not_sent δ u k x
