-- Agents without document 02's check that sums fit (S-4): each guard is as the file has it, and nothing else is changed; where the check makes no difference,
-- and where it makes one. `proofs/Unchecked.antt` shows what turns are left.
use Prim.Native.Nat.{ℕ}
use Rattle.std.specs.Prelude.{◌≡◌, true, None}
use mathlib.Core.List.{map}
use Rattle.published.specs.Syntax.{Guard, always, equals, below, same, less, and_fits, Process, end, choice, invoke, Sum, nothing, branch, wait, Prefix, tau, output, input, new_channel, new_thread, assign}
use Rattle.published.specs.Agents.{Env, holds, value_of, Commitment, gives, takes, Thread, thread, Agent, agent}
use Rattle.published.specs.Fired.{Rule, by_inert, by_call, by_step, by_new, by_spawn, by_send, by_recv, by_passing, by_assigns, by_zeros, Fired, fired}

-- ---- the same without the check

unfoldable pub unchecked_guard : Guard → Guard
unchecked_guard always = always
unchecked_guard (equals x n) = equals x n
unchecked_guard (below x n) = below x n
unchecked_guard (same x y) = same x y
unchecked_guard (less x y) = less x y
unchecked_guard (and_fits g e) = unchecked_guard g

unfoldable mutual
  pub unchecked : Process → Process
  unchecked end = end
  unchecked (choice q) = choice (unchecked_sum q)
  unchecked (invoke D vs) = invoke D vs

  pub unchecked_sum : Sum → Sum
  unchecked_sum nothing = nothing
  unchecked_sum (branch g α P q) = branch (unchecked_guard g) (unchecked_prefix α) (unchecked P) (unchecked_sum q)
  unchecked_sum (wait q) = wait (unchecked_sum q)

  pub unchecked_prefix : Prefix → Prefix
  unchecked_prefix tau = tau
  unchecked_prefix (output c v) = output c v
  unchecked_prefix (input c x) = input c x
  unchecked_prefix (new_channel c) = new_channel c
  unchecked_prefix (new_thread P) = new_thread (unchecked P)
  unchecked_prefix (assign x e) = assign x e

unfoldable pub unchecked_commitment : Commitment → Commitment
unchecked_commitment (gives c v Q) = gives c v (unchecked Q)
unchecked_commitment (takes c x Q) = takes c x (unchecked Q)

unfoldable pub unchecked_thread : Thread → Thread
unchecked_thread t = thread (map unchecked_commitment t.commitments) t.env (unchecked t.process)

-- the processes of definitions
unfoldable pub unchecked_body : (ℕ → Process) → ℕ → Process
unchecked_body def D = unchecked (def D)

unfoldable pub unchecked_agent : Agent → Agent
unchecked_agent A = agent A.channels (map unchecked_thread A.threads)

-- the rule of a turn names a child, or who is met and by which commitment
unfoldable pub unchecked_rule : Rule → Rule
unchecked_rule by_inert = by_inert
unchecked_rule by_call = by_call
unchecked_rule by_step = by_step
unchecked_rule (by_new c) = by_new c
unchecked_rule (by_spawn t) = by_spawn (unchecked_thread t)
unchecked_rule (by_send t k) = by_send (unchecked_thread t) (unchecked_commitment k)
unchecked_rule (by_recv t k) = by_recv (unchecked_thread t) (unchecked_commitment k)
unchecked_rule by_passing = by_passing
unchecked_rule by_assigns = by_assigns
unchecked_rule by_zeros = by_zeros

unfoldable pub unchecked_fired : Fired → Fired
unchecked_fired f = fired f.branch (unchecked_rule f.rule)

-- ---- where the check makes no difference: each guard of the choice is true just where it is without it

unfoldable pub SumFits : Env → Sum → Type 0
SumFits δ nothing = Unit {0}
SumFits δ (branch g α P q) = (holds δ g ≡ holds δ (unchecked_guard g)) × SumFits δ q
SumFits δ (wait q) = SumFits δ q

unfoldable pub ChoiceFits : Env → Process → Type 0
ChoiceFits δ end = Unit {0}
ChoiceFits δ (choice q) = SumFits δ q
ChoiceFits δ (invoke D vs) = Unit {0}

-- ---- where it makes one: a guard is true, and its assignment has no value. Nothing takes such a branch then, and nothing passes it over

unfoldable pub Halted : Env → Process → Type 0
Halted δ end = ⊥
Halted δ (choice nothing) = ⊥
Halted δ (choice (branch g tau P q)) = ⊥
Halted δ (choice (branch g (output c v) P q)) = ⊥
Halted δ (choice (branch g (input c x) P q)) = ⊥
Halted δ (choice (branch g (new_channel c) P q)) = ⊥
Halted δ (choice (branch g (new_thread R) P q)) = ⊥
Halted δ (choice (branch g (assign x e) P q)) = (holds δ g ≡ true) × (value_of δ e ≡ None)
Halted δ (choice (wait q)) = ⊥
Halted δ (invoke D vs) = ⊥
