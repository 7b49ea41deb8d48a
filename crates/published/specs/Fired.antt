-- Which rule a turn of a thread ends with, by which branch of the thread, and with whom; and turns one after the other. Assumes nothing.
use Rattle.std.specs.Prelude.{ℕ, suc, ◌+◌, ◌≡◌, ◌⊎◌, Bool, false, List, [], ◌∷◌, eqb}
use Rattle.std.proofs.Common.{arith, sym, eq-eqb}
use Rattle.std.proofs.Math.Path.{ap}
use Rattle.std.proofs.Math.Logic.{inl}
use Rattle.numbers.specs.Search.Laws.{contra}
use Rattle.published.specs.Syntax.{Process}
use Rattle.published.specs.Agents.{Commitment, gives, takes, Thread, thread, Channels, Agent, agent}
use Rattle.published.specs.Rules.{Acts, step, new, spawn, next, call, inert, send, out, recv, inn, more, Nothing, Ours, skip, assigns, zeros, Run, last, pass, Turn, Stepped, Reduces, Reaches, stays}
use Rattle.published.specs.ProductLaws.{many_on, stepped_reaches}

-- ---- one reduction

pub data Rule : Type 0 where
  by_inert by_call by_step : Rule
  -- with the name of the channel
  by_new : ℕ → Rule
  -- with the child
  by_spawn : Thread → Rule
  -- with the thread that is met, as it stood, and the commitment of it that is used
  by_send by_recv : Thread → Commitment → Rule
  -- (out), (in), and skip of document 01: a branch is passed over, and a wait left for it
  by_passing : Rule
  -- document 01's assignment and zeros
  by_assigns by_zeros : Rule

-- a number for each rule: rules with different numbers are different
unfoldable pub kind : Rule → ℕ
kind by_inert = 0
kind by_call = 1
kind by_step = 2
kind (by_new c) = 3
kind (by_spawn t) = 4
kind (by_send t k) = 5
kind (by_recv t k) = 6
kind by_passing = 7
kind by_assigns = 8
kind by_zeros = 9

pub apart : {A : Type 0} {r r' : Rule} → r ≡ r' → eqb (kind r) (kind r') ≡ false → A
apart {r = r} {r' = r'} e h = contra (eq-eqb (kind r) (kind r') (ap kind e)) h

-- a rule, and the branch of the choice by which it fired, counted from 0; for (inert), (call) and zeros, which are no branch's, 0
pub record Fired : Type 0 where
  pub branch : ℕ
  pub rule : Rule

abbrev pub fired : ℕ → Rule → Fired
fired i r = record { branch = i; rule = r }

-- a thread that has its turn, and what the turn ends with
pub record Had : Type 0 where
  pub who : Thread
  pub does : Fired

-- counted with n branches more in front
unfoldable pub behind : ℕ → Fired → Fired
behind n f = fired (n + f.branch) f.rule

pub behind_one : (i : ℕ) (r : Rule) → behind 1 (fired i r) ≡ fired (suc i) r
unfolding behind
behind_one i r = let e : 1 + i ≡ suc i = omega arith in rw e

pub behind_more : (n : ℕ) (f : Fired) → behind 1 (behind n f) ≡ behind (suc n) f
unfolding behind
behind_more n f = let e : 1 + (n + f.branch) ≡ suc n + f.branch = omega arith in rw e

-- what the further rules of a set come to
abbrev pub Labels : (Agent → Agent → Type 0) → Type 0
Labels More = (A B : Agent) → More A B → Fired

unfoldable pub nothing_fires : Labels Nothing
unfolding Nothing
nothing_fires A B m = absurd m

unfoldable pub ours_fire : (def : ℕ → Process) (for_numbers : ℕ → ℕ → Bool) → Labels (Ours def for_numbers)
ours_fire def for_numbers A B (skip g) = fired 0 by_passing
ours_fire def for_numbers A B (assigns z g e) = fired 0 by_assigns
ours_fire def for_numbers A B (zeros D z) = fired 0 by_zeros

module _ (def : ℕ → Process) (More : Agent → Agent → Type 0) (own : Labels More) where
  -- of a reduction of the first thread; a branch that (next) leaves behind counts
  unfoldable pub firing : {A B : Agent} → Acts def More A B → Fired
  firing (step g) = fired 0 by_step
  firing (new ĉ g f) = fired 0 (by_new ĉ)
  firing (spawn {δ = δ} {P = P} g) = fired 0 (by_spawn (thread [] δ P))
  firing (next g r) = behind 1 (firing r)
  firing (call ws e) = fired 0 by_call
  firing inert = fired 0 by_inert
  firing (send {Γ' = Γ'} {δ' = δ'} {R = R} {S = S} ĉ x w g c i v) = fired 0 (by_send (thread Γ' δ' S) (takes ĉ x R))
  firing (out ĉ g c f) = fired 0 by_passing
  firing (recv {Γ' = Γ'} {δ' = δ'} {R = R} {S = S} ĉ v w g c i e) = fired 0 (by_recv (thread Γ' δ' S) (gives ĉ v R))
  firing (inn ĉ g c f) = fired 0 by_passing
  firing (more {A} {B} m) = own A B m

  -- ---- one turn

  -- the reductions are one turn, which ends with f: before f branches are passed over and nothing else is done; but zeros may follow (call)
  unfoldable pub Ends : {A B : Agent} → Run def More A B → Fired → Type 0
  Ends (last r) f = firing r ≡ f
  Ends (pass r w) f =
      ((g : Fired) × ((firing r).rule ≡ by_passing) × Ends w g × (f ≡ behind (suc (firing r).branch) g))
      ⊎ (((firing r).rule ≡ by_call) × Ends w (fired 0 by_zeros) × (f ≡ fired 0 by_call))

  -- a reduction that is f, and a run that ends with it
  abbrev pub ActsBy : Fired → Agent → Agent → Type 0
  ActsBy f A B = (r : Acts def More A B) × (firing r ≡ f)

  abbrev pub RunBy : Fired → Agent → Agent → Type 0
  RunBy f A B = (w : Run def More A B) × Ends w f

  -- a turn of thread t that ends with f
  pub record TurnBy (A : Agent) (t : Thread) (f : Fired) (B : Agent) : Type 0 where
    pub turn : Turn def More A t B
    pub ends : Ends turn.run f

  -- a turn that ends with f, and then any number of uses of (reclaim)
  pub record SteppedBy (A : Agent) (t : Thread) (f : Fired) (B : Agent) : Type 0 where
    pub stepped : Stepped def More A t B
    pub ends : Ends stepped.turn.run f

  -- ---- turns one after the other

  -- the turns in a list, in its order, and nothing besides
  pub data Turns : List Had → Agent → Agent → Type 0 where
    none_had : {A : Agent} → Turns [] A A
    had : {A B C : Agent} {h : Had} {l : List Had} → SteppedBy A h.who h.does B → Turns l B C → Turns (h ∷ l) A C

  -- the turns in a list are a series of reductions
  pub turns_reach : {l : List Had} {A B : Agent} → Turns l A B → Reaches def More A B
  turns_reach none_had = stays
  turns_reach (had {A} {B} {h = h} x w) = many_on (Reduces def More) (stepped_reaches def More A h.who B x.stepped) (turns_reach w)

  -- a branch is passed over before a run
  pub run_past : {Δ : Channels} {t t' : Thread} {B : List Thread} {C : Agent} (i : ℕ) (f : Fired) → ActsBy (fired i by_passing) (agent Δ (t ∷ B)) (agent Δ (t' ∷ B))
      → RunBy f (agent Δ (t' ∷ B)) C → RunBy (behind (suc i) f) (agent Δ (t ∷ B)) C
  unfolding Ends
  run_past i f (r, e) (w, y) =
      (pass r w, inl (f, ap (λ (g : Fired). g.rule) e, y, ap (λ (g : Fired). behind (suc g.branch) f) (sym e)))
