-- Whole turns of a thread by 002's rules, and what two of them from one agent may differ in.
use Rattle.std.specs.Prelude.{ℕ, suc, ◌≡◌, ◌⊎◌, Bool, true, false, Some}
use mathlib.Core.List.{List, [], ◌∷◌, map}
use Rattle.published.specs.Syntax.{Process, choice, invoke, Sum, nothing, branch, wait, Prefix, tau, output, input, new_channel, new_thread, assign, waits, waiting}
use Rattle.published.specs.Agents.{◌∈◌, Value, channel, Env, look, holds, Commitment, gives, takes, Thread, thread, Channels, Agent, agent}
use Rattle.published.specs.Rules.{Rearranged, Acts, Nothing, zeroed}
use Rattle.published.specs.Fired.{Rule, by_inert, by_call, by_step, by_new, by_spawn, by_send, by_recv, by_passing, by_assigns, by_zeros}
use Rattle.published.specs.Choices.{commits, ByAction, InProcess}

-- ---- whole turns

-- the first thread has come to Σ wait
unfoldable pub first_waits : List Thread → Bool
first_waits [] = false
first_waits (t ∷ B) = waiting t.process

-- reductions of the first thread: each before the last passes over a branch by (out) or (in), and the last is an action, or is that (out) or (in) after which
-- the thread waits
module _ (def : ℕ → Process) where
  pub data Whole : Agent → Agent → Type 0 where
    acted : {A T : Agent} (r : Acts def Nothing A T) → commits def r ≡ false → Whole A T
    rested : {A T : Agent} (r : Acts def Nothing A T) → commits def r ≡ true → first_waits T.threads ≡ true → Whole A T
    passed : {A T C : Agent} (r : Acts def Nothing A T) → commits def r ≡ true → Whole T C → Whole A C

-- a whole turn of thread t takes the agent A to the agent T. The order of threads does not count, as in `Turn`
pub record WholeTurn (def : ℕ → Process) (A : Agent) (t : Thread) (T : Agent) : Type 0 where
  pub others : List Thread
  pub brought : Rearranged A.threads (t ∷ others)
  pub product : List Thread
  pub whole : Whole def (agent A.channels (t ∷ others)) (agent T.channels product)
  pub put_back : Rearranged product T.threads

-- ---- what two of them may differ in

-- T is Δ ⊢ A, its threads in some order
abbrev pub Is : Agent → Channels → List Thread → Type 0
Is T Δ A = (T.channels ≡ Δ) × Rearranged A T.threads

-- beside the threads B: an output for which nobody is committed to receive, an input for which nobody is committed to send. Then there is (out) or (in)
unfoldable pub Unmet : Env → List Thread → Prefix → Type 0
Unmet δ B tau = ⊥
Unmet δ B (output c v) =
    (ĉ : ℕ) × (look δ c ≡ Some (channel ĉ)) × ((u : Thread) → u ∈ B → (x : ℕ) (S : Process) → takes ĉ x S ∈ u.commitments → ⊥)
Unmet δ B (input c x) =
    (ĉ : ℕ) × (look δ c ≡ Some (channel ĉ)) × ((u : Thread) → u ∈ B → (v : ℕ) (S : Process) → gives ĉ v S ∈ u.commitments → ⊥)
Unmet δ B (new_channel c) = ⊥
Unmet δ B (new_thread R) = ⊥
Unmet δ B (assign x e) = ⊥

-- a whole turn of thread t from the agent A to the agent T, by the action of the branch α, P of t: its guard is true, and each branch in front of it is passed
-- over, by (next) or by (out) or (in)
pub record ByBranch (A : Agent) (t : Thread) (α : Prefix) (P : Process) (T : Agent) : Type 0 where
  pub others : List Thread
  pub brought : Rearranged A.threads (t ∷ others)
  pub comes_to : InProcess t.env (λ g β. (holds t.env g ≡ false) ⊎ Unmet t.env others β) t.process α P
  pub product : List Thread
  pub action : ByAction A.channels t.env others α P (agent T.channels product)
  pub put_back : Rearranged product T.threads

-- how many branches a choice has
unfoldable pub branches : Sum → ℕ
branches nothing = 0
branches (branch g α P Q) = suc (branches Q)
branches (wait Q) = branches Q

-- `for_numbers` says which variables of each definition are for numbers, as in `Ours`
module _ (def : ℕ → Process) (for_numbers : ℕ → ℕ → Bool) where
  -- two ends, T and T', of a turn of thread t from the agent A
  pub data UpTo (A : Agent) (t : Thread) (T T' : Agent) : Type 0 where
    -- the two ends have the same channels and the same threads
    same_end : Is T T'.channels T'.threads → UpTo A t T T'
    -- what the action of one branch leaves open: (new) the name of the channel, (send) and (recv) who is met, and by which commitment on the channel
    same_branch : (α : Prefix) (P : Process) → ByBranch A t α P T → ByBranch A t α P T' → UpTo A t T T'
    -- document 01 leaves a wait for a branch with a false guard too (skip): where no branch acts and a whole turn comes to Σ wait, there is one for each branch
    other_waits : (B : List Thread) (Γ : List Commitment) (Q : Sum) (n : ℕ) → Rearranged A.threads (t ∷ B) → t.process ≡ choice Q
        → ((α : Prefix) (P : Process) (X : Agent) → ByBranch A t α P X → ⊥) → WholeTurn def A t T
        → Is T A.channels (thread Γ t.env (choice (waits (suc n))) ∷ B)
        → Is T' A.channels (thread Γ t.env (choice (waits (branches Q))) ∷ B) → UpTo A t T T'
    -- document 01 begins numbers with 0 (zeros): what they are bound to after (call)
    from_zero : (B : List Thread) (D : ℕ) (vs : List ℕ) (ws : List Value) (δ' : Env) → Rearranged A.threads (t ∷ B)
        → t.process ≡ invoke D vs → map (look t.env) vs ≡ map Some ws → ((x : ℕ) → look δ' x ≡ zeroed (for_numbers D x) (look (map Some ws) x))
        → Is T A.channels (thread [] (map Some ws) (def D) ∷ B) → Is T' A.channels (thread [] δ' (def D) ∷ B) → UpTo A t T T'

-- ---- the first reduction of a whole turn

module _ (def : ℕ → Process) where
  -- what is left after an (out) or (in)
  unfoldable pub Onward : Agent → Agent → Type 0
  Onward T C = ((first_waits T.threads ≡ true) × (C ≡ T)) ⊎ Whole def T C

-- ---- the rules that pass over a branch

-- (out) and (in)
unfoldable pub passing : Rule → Bool
passing by_inert = false
passing by_call = false
passing by_step = false
passing (by_new c) = false
passing (by_spawn t) = false
passing (by_send t k) = false
passing (by_recv t k) = false
passing by_passing = true
passing by_assigns = false
passing by_zeros = false
