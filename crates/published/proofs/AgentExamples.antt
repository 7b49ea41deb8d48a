-- The rules at work: the first example of 002's section 3.2, what they leave open and what they exclude, and what the published rules alone do with branches
-- whose guards are false. Assumes nothing.
use Rattle.std.specs.Prelude.{ℕ, ◌≡◌, ◌⊎◌, Bool, length, None, Option, Some}
use Rattle.std.proofs.Common.{arith, ◌∙◌, inl, inr}
use Rattle.std.proofs.Math.Path.{refl, ap}
use Rattle.std.proofs.Math.Logic.{⊎_elim}
use Rattle.std.proofs.Math.Bool.{true, false}
use mathlib.Core.List.{List, [], ◌∷◌}
use Rattle.numbers.specs.Search.Laws.{contra}
use Rattle.numbers.specs.Tests.{clash}
use Rattle.published.specs.Syntax.{Guard, always, Process, choice, nothing, branch, wait, Prefix, output, input, and_wait, waiting, some_wait, only_waits}
use Rattle.published.specs.Agents.{◌∈◌, Value, channel, number, Env, look, bind, holds, Commitment, gives, takes, Thread, thread, Channels, Agent, agent, nth}
use Rattle.published.specs.Rules.{Rearranged, swapped, Acts, send, out, recv, Reduces, acts, exchange, stays, goes, Reaches, Nothing}
use Rattle.published.specs.Enabling.{Enabled, active}
use Rattle.published.specs.Choices.{commits, Sends, ByAction, ByCommitment, ByPrefix, BySum, ByProcess, Of, InSum, InProcess, Alike}
use Rattle.published.proofs.Choices.{acts_of, settled_choice}
use Rattle.published.specs.ProductLaws.{same_order, in_rearranged, turned_back}
use Rattle.published.specs.Orders.{same_length, cancelled}
use Rattle.published.proofs.NoFreer.{alike_acts}
use Rattle.published.proofs.SettledTurns.{settled_turn}
use Rattle.published.specs.Whole as Whole
use Rattle.published.specs.Whole.{Whole, acted, rested, passed, WholeTurn, first_waits, ByBranch, UpTo, other_waits, from_zero}

-- ---- [true] a!v, P + [true] b!w, Q ∥ [true] b?(x), R + [true] a?(y), S, with channels 0 and 1 in the variables 0 and 1 of both

module _ (def : ℕ → Process) (Δ : Channels) (P Q R S : Process) (n m : ℕ) where
  -- variables 2 and 3 are v and w on the left, x and y on the right
  abbrev left : Env
  left = Some (channel 0) ∷ Some (channel 1) ∷ Some (number n) ∷ Some (number m) ∷ []

  abbrev right : Env
  right = Some (channel 0) ∷ Some (channel 1) ∷ []

  abbrev left_choice : Process
  left_choice = choice (branch always (output 0 2) P (branch always (output 1 3) Q nothing))

  abbrev right_choice : Process
  right_choice = choice (branch always (input 1 2) R (branch always (input 0 3) S nothing))

  abbrev right_thread : Thread
  right_thread = thread [] right right_choice

  -- nobody beside it has a commitment
  none_there : (t : Thread) → t ∈ (right_thread ∷ []) → (k : Commitment) → k ∈ t.commitments → ⊥
  none_there t (inl e) k i = absurd (let z : k ∈ [] = rw e at i in z)
  none_there t (inr z) k i = absurd z

  -- the left thread records its two commitments and waits
  abbrev waiting_left : Thread
  waiting_left = thread (gives 0 2 P ∷ gives 1 3 Q ∷ []) left (choice (wait (wait nothing)))

  pub left_commits : Reaches def Nothing (agent Δ (thread [] left left_choice ∷ right_thread ∷ [])) (agent Δ (waiting_left ∷ right_thread ∷ []))
  unfolding holds and_wait
  left_commits =
      goes (acts (out 0 refl refl (λ t i x S k. none_there t i (takes 0 x S) k)))
      (goes (acts (out 1 refl refl (λ t i x S k. none_there t i (takes 1 x S) k))) stays)

  -- that is a whole turn: one branch is passed over, and with the last it comes to Σ wait
  pub left_whole : Whole def (agent Δ (thread [] left left_choice ∷ right_thread ∷ [])) (agent Δ (waiting_left ∷ right_thread ∷ []))
  unfolding holds and_wait commits first_waits waiting some_wait only_waits
  left_whole =
      passed (out 0 refl refl (λ t i x S k. none_there t i (takes 0 x S) k)) refl
      (rested (out 1 refl refl (λ t i x S k. none_there t i (takes 1 x S) k)) refl refl)

  -- the right thread, whose first branch finds a partner, synchronizes on b
  pub right_meets : Reduces def Nothing (agent Δ (waiting_left ∷ right_thread ∷ [])) (agent Δ (thread [] left Q ∷ thread [] (bind right 2 (number m)) R ∷ []))
  unfolding holds
  right_meets = exchange swapped (acts (recv 1 3 (number m) refl refl (inr (inl refl)) refl)) swapped

-- ---- [true] a!v, P ∥ [a ⇒ x: R, a ⇒ y: S, b ⇒ x: R, b ⇒ z: U], with channel 0, which is a, in variable 0 of both, and b channel 5: two reductions, and agents
-- that are not like their ends

module _ (def : ℕ → Process) (for_numbers : ℕ → ℕ → Bool) (Δ : Channels) (P R S U W : Process) (n : ℕ) where
  abbrev giver : Env
  giver = Some (channel 0) ∷ Some (number n) ∷ []

  abbrev taker : Env
  taker = Some (channel 0) ∷ []

  abbrev taking : Thread
  taking = thread (takes 0 1 R ∷ takes 0 2 S ∷ takes 5 1 R ∷ takes 5 3 U ∷ []) taker W

  abbrev gives_first : Thread
  gives_first = thread [] giver (choice (branch always (output 0 1) P nothing))

  abbrev giving : Agent
  giving = agent Δ (thread [] giver (choice (branch always (output 0 1) P nothing)) ∷ taking ∷ [])

  -- by a commitment of the neighbour on channel 0, the first or the second
  abbrev by_first : Agent
  by_first = agent Δ (thread [] giver P ∷ thread [] (bind taker 1 (number n)) R ∷ [])

  abbrev by_second : Agent
  by_second = agent Δ (thread [] giver P ∷ thread [] (bind taker 2 (number n)) S ∷ [])

  -- by its last commitment, which is on a channel on which nothing is sent. (Its third is on that channel too, and would end as the first does)
  abbrev elsewhere : Agent
  elsewhere = agent Δ (thread [] giver P ∷ thread [] (bind taker 3 (number n)) U ∷ [])

  -- the first thread goes on while its neighbour stays as it is
  abbrev alone : Agent
  alone = agent Δ (thread [] giver P ∷ taking ∷ [])

  meets_first : Acts def Nothing giving by_first
  unfolding holds
  meets_first = send 0 1 (number n) refl refl (inl refl) refl

  meets_second : Acts def Nothing giving by_second
  unfolding holds
  meets_second = send 0 2 (number n) refl refl (inr (inl refl)) refl

  -- the two ends differ
  pub ends_differ : by_first ≡ by_second → ⊥
  unfolding bind
  ends_differ q = clash (let e : None ≡ Some (number n) = ap (λ (X : Agent). look (nth X.threads 1).env 2) q in cc)

  -- the two ends differ in no more than the commitment that is met
  pub ends_alike : Alike giving by_first by_second
  ends_alike = settled_choice def meets_first meets_second

  -- ---- whole turns of the first thread

  -- two of them, which end differently
  pub whole_first : WholeTurn def giving gives_first by_first
  unfolding commits holds
  whole_first = record {
    others = taking ∷ [];
    brought = same_order giving.threads;
    product = by_first.threads;
    whole = acted (send 0 1 (number n) refl refl (inl refl) refl) refl;
    put_back = same_order by_first.threads;
  }

  pub whole_second : WholeTurn def giving gives_first by_second
  unfolding commits holds
  whole_second = record {
    others = taking ∷ [];
    brought = same_order giving.threads;
    product = by_second.threads;
    whole = acted (send 0 2 (number n) refl refl (inr (inl refl)) refl) refl;
    put_back = same_order by_second.threads;
  }

  -- the two whole turns end differently in no more than the commitment that is met
  pub ends_upto : UpTo def for_numbers giving gives_first by_first by_second
  ends_upto = settled_turn def for_numbers whole_first whole_second

  -- ---- what ends there are

  -- by a commitment on channel 0
  on_zero : (ĉ x : ℕ) (Q : Process) → Some (channel 0) ≡ Some (channel ĉ) → takes ĉ x Q ∈ taking.commitments → (x ≡ 1) ⊎ (x ≡ 2)
  on_zero ĉ x Q e (inl q) = inl cc
  on_zero ĉ x Q e (inr (inl q)) = inr cc
  on_zero ĉ x Q e (inr (inr (inl q))) = let z : 0 ≡ ĉ = cc in let y : ĉ ≡ 5 = cc in absurd (omega arith)
  on_zero ĉ x Q e (inr (inr (inr (inl q)))) = let z : 0 ≡ ĉ = cc in let y : ĉ ≡ 5 = cc in absurd (omega arith)
  on_zero ĉ x Q e (inr (inr (inr (inr z)))) = absurd z

  alone_behind : (u : Thread) (C : List Thread) → Rearranged giving.threads (gives_first ∷ u ∷ C) → (u ≡ taking) × (C ≡ [])
  alone_behind u C p =
      let r = cancelled gives_first (taking ∷ []) (u ∷ C) p in
      (⊎_elim (λ e. e) (λ z. absurd z) (in_rearranged u r (inl refl)), none_more C (same_length r))
    where
      none_more : (C : List Thread) → 1 ≡ length (u ∷ C) → C ≡ []
      none_more [] e = refl
      none_more (v ∷ C) e = absurd (omega arith)

  -- the neighbour has received n into variable 1 or 2
  abbrev Ended : Agent → Type 0
  Ended X = (x : ℕ) × (Q : Process) × ((x ≡ 1) ⊎ (x ≡ 2)) × Rearranged (thread [] giver P ∷ thread [] (bind taker x (number n)) Q ∷ []) X.threads

  ends_so : (X : Agent) (B Z : List Thread) → Rearranged giving.threads (gives_first ∷ B) → Sends Δ giver B 0 1 P (agent X.channels Z)
      → Rearranged Z X.threads → Ended X
  unfolding Sends
  ends_so X [] Z p a r = absurd a
  ends_so X (u ∷ C) Z p (ĉ, x, Q, w, e, i, f, q) r =
      let (v, z) = alone_behind u C p in
      let y : w ≡ number n = cc in
      let h : Z ≡ thread [] giver P ∷ thread [] (bind u.env x w) Q ∷ C = ap (λ (A : Agent). A.threads) q in
      (x, Q, on_zero ĉ x Q e (rw v at i), rw (h, v, z, y) at r)

  pub branch_ends : (α : Prefix) (Q : Process) (X : Agent) → ByBranch giving gives_first α Q X → Ended X
  unfolding InProcess InSum ByAction
  branch_ends α Q X x =
      ⊎_elim (λ (y, e, f). ends_so X x.others x.product x.brought (rw (← e, ← f) at x.action) x.put_back) (λ (y, z). absurd z) x.comes_to

  -- ---- what is excluded

  bare : (u : Thread) → u.commitments ≡ [] → taking ≡ u → ⊥
  bare u e q = clash (let z : takes 0 1 R ∷ takes 0 2 S ∷ takes 5 1 R ∷ takes 5 3 U ∷ [] ≡ [] = ap (λ (x : Thread). x.commitments) q ∙ e in cc)

  -- in none of these ends does the neighbour stay as it is, or has a variable 3
  not_ended_alone : Ended alone → ⊥
  not_ended_alone (x, Q, h, r) =
      ⊎_elim (λ e. bare _ refl e) (λ i. ⊎_elim (λ e. bare _ refl e) (λ z. z) i) (in_rearranged taking r (inr (inl refl)))

  third : Thread → Option Value
  third u = look u.env 3

  received : Thread
  received = thread [] (bind taker 3 (number n)) U

  without : (u : Thread) → third u ≡ None → received ≡ u → ⊥
  unfolding third received bind
  without u e q = clash (let z : Some (number n) ≡ None = ap third q ∙ e in cc)

  not_ended_elsewhere : Ended elsewhere → ⊥
  unfolding received third bind
  not_ended_elsewhere (x, Q, h, r) =
      ⊎_elim (λ e. without _ refl e)
      (λ i. ⊎_elim (λ e. ⊎_elim (λ y. without _ (rw y refl) e) (λ y. without _ (rw y refl) e) h) (λ z. z) i)
      (in_rearranged received r (inr (inl refl)))

  -- an end of a reduction of the first thread is one of these
  acts_end : (X : Agent) (k : Bool) → Of def Δ giving.threads k X → Ended X
  unfolding Of ByProcess BySum ByPrefix ByAction ByCommitment
  acts_end X k (inl (f, a)) = absurd a
  acts_end X false (inr (f, a)) = ends_so X (taking ∷ []) X.threads (same_order giving.threads) a (same_order X.threads)
  acts_end X true (inr (f, (ĉ, e, none_there, q))) = let z : ĉ ≡ 0 = cc in absurd (none_there taking (inl refl) 1 R (rw z (inl refl)))

  alike_ended : (X : Agent) → Alike giving by_first X → Ended X
  alike_ended X a = let r = alike_acts def meets_first a in acts_end X (commits def r) (acts_of def r)

  taking_behind : (B : List Thread) → Rearranged giving.threads (gives_first ∷ B) → taking ∈ B
  taking_behind B r = ⊎_elim (λ e. absurd (bare gives_first refl e)) (λ i. i) (in_rearranged taking (turned_back r) (inr (inl refl)))

  not_in_first : taking ∈ by_first.threads → ⊥
  not_in_first (inl e) = bare _ refl e
  not_in_first (inr (inl e)) = bare _ refl e
  not_in_first (inr (inr i)) = i

  upto_ended : (X : Agent) → UpTo def for_numbers giving gives_first by_first X → Ended X
  upto_ended X (Whole.same_end (e, r)) = (1, R, inl refl, turned_back r)
  upto_ended X (Whole.same_branch α Q x x') = branch_ends α Q X x'
  upto_ended X (other_waits B Γ Q m p q f w (e, r) z) = absurd (not_in_first (in_rearranged taking (turned_back r) (inr (taking_behind B p))))
  upto_ended X (from_zero B D vs ws δ' p q f z (e, r) y) = absurd (not_in_first (in_rearranged taking (turned_back r) (inr (taking_behind B p))))

  -- no end in which nobody takes what is given is like theirs
  pub not_alike : Alike giving by_first alone → ⊥
  not_alike a = not_ended_alone (alike_ended alone a)

  pub not_upto : UpTo def for_numbers giving gives_first by_first alone → ⊥
  not_upto u = not_ended_alone (upto_ended alone u)

  -- nor one by a commitment on another channel than the one on which it is given
  pub elsewhere_not_alike : Alike giving by_first elsewhere → ⊥
  elsewhere_not_alike a = not_ended_elsewhere (alike_ended elsewhere a)

  pub elsewhere_not_upto : UpTo def for_numbers giving gives_first by_first elsewhere → ⊥
  elsewhere_not_upto u = not_ended_elsewhere (upto_ended elsewhere u)

-- ---- a choice whose guards are all false

-- by the published rules such a choice has no reduction
pub false_stays : (def : ℕ → Process) (Δ : Channels) (Γ : List Commitment) (δ : Env) (g : Guard) (α : Prefix) (P : Process) (B : List Thread) {T : Agent}
    → holds δ g ≡ false → Acts def Nothing (agent Δ (thread Γ δ (choice (branch g α P nothing)) ∷ B)) T → ⊥
unfolding Of ByProcess BySum
false_stays def Δ Γ δ g α P B f r = ⊎_elim (λ (y, z). z) (λ (y, z). contra y f) (acts_of def r)

-- by Definition 1 it is active, so that no collection ever takes it. Document 01 has it wait, and so collected (its fifth bench case); hence the rule skip
pub false_enabled : (Γ : List Commitment) (δ : Env) (g : Guard) (α : Prefix) (P : Process) (B : List Thread)
    → Enabled (thread Γ δ (choice (branch g α P nothing)) ∷ B) 0
unfolding waiting some_wait
false_enabled Γ δ g α P B = active {j = 0} (omega arith) refl
