-- What it says that a turn ends with a rule: the branch stands in the thread's choice with a true guard and the prefix of the rule, the branches before it may
-- be passed over, and who is met is another thread that has the commitment. `proofs/Stands.antt` shows it.
use Prim.Native.Nat.{ℕ, zero, suc}
use Rattle.std.specs.Prelude.{◌≡◌, ◌⊎◌, true, false}
use mathlib.Core.List.{List, [], ◌∷◌}
use Rattle.published.specs.Syntax.{Process, end, choice, invoke, Sum, nothing, branch, wait, Prefix, tau, output, input, new_channel, new_thread, assign}
use Rattle.published.specs.Agents.{◌∈◌, Env, holds, Commitment, Thread, thread}
use Rattle.published.specs.Fired.{Rule, by_inert, by_call, by_step, by_new, by_spawn, by_send, by_recv, by_passing, by_assigns, by_zeros, Fired}

-- ---- which rules are of which prefix, with a true guard

unfoldable pub Suits : Env → Prefix → Rule → Type 0
Suits δ tau r = r ≡ by_step
Suits δ (output c v) r = (r ≡ by_passing) ⊎ ((u : Thread) × (k : Commitment) × (r ≡ by_send u k))
Suits δ (input c x) r = (r ≡ by_passing) ⊎ ((u : Thread) × (k : Commitment) × (r ≡ by_recv u k))
Suits δ (new_channel c) r = (ĉ : ℕ) × (r ≡ by_new ĉ)
Suits δ (new_thread P) r = r ≡ by_spawn (thread [] δ P)
Suits δ (assign x e) r = r ≡ by_assigns

-- only sends and receives are passed over where the guard is true
unfoldable pub Meets : Prefix → Type 0
Meets tau = ⊥
Meets (output c v) = Unit {0}
Meets (input c x) = Unit {0}
Meets (new_channel c) = ⊥
Meets (new_thread P) = ⊥
Meets (assign x e) = ⊥

-- rule r may fire by branch i of a sum
unfoldable pub InSum : Env → Sum → ℕ → Rule → Type 0
InSum δ nothing i r = ⊥
InSum δ (branch g α P Q) zero r = ((holds δ g ≡ false) × (r ≡ by_passing)) ⊎ ((holds δ g ≡ true) × Suits δ α r)
InSum δ (branch g α P Q) (suc i) r = ((holds δ g ≡ false) ⊎ Meets α) × InSum δ Q i r
InSum δ (wait Q) i r = ⊥

unfoldable pub StandsIn : Env → Process → Fired → Type 0
StandsIn δ end f = f.rule ≡ by_inert
StandsIn δ (choice Q) f = InSum δ Q f.branch f.rule
StandsIn δ (invoke D vs) f = f.rule ≡ by_call

-- the rule stands in the process of the first thread
unfoldable pub StandsFirst : List Thread → Fired → Type 0
StandsFirst [] f = ⊥
StandsFirst (t ∷ B) f = StandsIn t.env t.process f

-- ---- the thread and the commitment that a rule meets

unfoldable pub MeetsWith : Rule → Thread → Commitment → Type 0
MeetsWith by_inert u k = ⊥
MeetsWith by_call u k = ⊥
MeetsWith by_step u k = ⊥
MeetsWith (by_new ĉ) u k = ⊥
MeetsWith (by_spawn v) u k = ⊥
MeetsWith (by_send v j) u k = (u ≡ v) × (k ≡ j)
MeetsWith (by_recv v j) u k = (u ≡ v) × (k ≡ j)
MeetsWith by_passing u k = ⊥
MeetsWith by_assigns u k = ⊥
MeetsWith by_zeros u k = ⊥

-- u is one of those behind the first, and has the commitment k
unfoldable pub Among : List Thread → Thread → Commitment → Type 0
Among [] u k = ⊥
Among (t ∷ B) u k = (u ∈ B) × (k ∈ u.commitments)
