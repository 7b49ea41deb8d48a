-- The collector that 002 prints (Table 8), of agents, and an agent with an enabled thread that it takes. Assumes nothing.
use Rattle.std.specs.Prelude.{ℕ, zero, suc, ◌+◌, ◌≤◌, ◌≡◌, refl, Bool, true, false, not, ◌&&◌, ◌||◌, cond, List, [], ◌∷◌, ◌++◌, eqb, None, Option, Some}
use Rattle.std.proofs.Common.{arith, inl, inr}
use Rattle.numbers.specs.Count.{bit, count}
use Rattle.numbers.specs.Search.Laws.{case_b}
use Rattle.published.specs.Syntax.{end, choice, nothing, wait, waiting, some_wait, only_waits}
use Rattle.published.specs.Agents.{◌∈◌, channel, Commitment, takes, channel_of, Thread, thread, nth, refers, mentions, knows, globalrc}
use Rattle.published.specs.Enabling.{Enabled, active, awoken}

-- ---- Table 8, with places for threads. A candidate is chosen, here the first; where some channel of its commitments is known to a thread that does not wait
-- (which the two counts show) the procedure ends and takes nothing; else the threads with a commitment on such a channel become candidates, but for those of
-- the clique, and it joins the clique. As it is printed a candidate stays one for ever, and the loop does not end; here it is one no longer

-- the waiting threads that know a channel
unfoldable pub waitrc : ℕ → List Thread → ℕ
waitrc c A = count (λ t. waiting t.process && knows c t) A

unfoldable pub has : ℕ → List ℕ → Bool
has j [] = false
has j (k ∷ l) = eqb j k || has j l

-- commitments on channel c; a list of commitments all of whose channels are known to waiting threads alone
unfoldable pub committed_on : ℕ → List Commitment → Bool
committed_on c [] = false
committed_on c (k ∷ Γ) = eqb (channel_of k) c || committed_on c Γ

unfoldable pub quiet : List Thread → List Commitment → Bool
quiet A [] = true
quiet A (k ∷ Γ) = eqb (waitrc (channel_of k) A) (globalrc (channel_of k) A) && quiet A Γ

-- commitments of the other thread on a channel of these
unfoldable pub together : List Commitment → List Commitment → Bool
together [] Γ' = false
together (k ∷ Γ) Γ' = committed_on (channel_of k) Γ' || together Γ Γ'

-- the places, from place i on, of the threads that become candidates: they have such a commitment, and are neither in the clique nor candidates already
unfoldable pub joining : List Commitment → List ℕ → ℕ → List Thread → List ℕ
joining Γ known i [] = []
joining Γ known i (t ∷ A) = cond (together Γ t.commitments && not (has i known)) (i ∷ joining Γ known (suc i) A) (joining Γ known (suc i) A)

-- the loop, at most n rounds of it: the clique that it takes, or none
unfoldable pub gc2 : List Thread → ℕ → List ℕ → List ℕ → Option (List ℕ)
gc2 A zero clique candidates = None
gc2 A (suc n) clique [] = Some clique
gc2 A (suc n) clique (j ∷ candidates) =
    cond (quiet A (nth A j).commitments)
    (gc2 A n (j ∷ clique) (candidates ++ joining (nth A j).commitments (j ∷ (clique ++ candidates)) 0 A))
    None

-- Proposition 6, on which it rests: where the two counts of a channel agree, every thread that knows it waits
waitrc_le : (c : ℕ) (A : List Thread) → waitrc c A ≤ globalrc c A
unfolding waitrc globalrc count bit
waitrc_le c [] = omega arith
waitrc_le c (t ∷ A) =
    let h = waitrc_le c A in
    case_b (waiting t.process) (λ y. rw y (omega arith)) (λ y. rw y (omega arith))

pub proposition_6 : (c : ℕ) (A : List Thread) → waitrc c A ≡ globalrc c A → (t : Thread) → t ∈ A → knows c t ≡ true → waiting t.process ≡ true
unfolding waitrc globalrc count bit
proposition_6 c [] e t i h = absurd i
proposition_6 c (u ∷ A) e t (inl q) h =
    case_b (waiting t.process) (λ y. y)
    (λ y. absurd (let z : 0 + waitrc c A ≡ 1 + globalrc c A = rw (← q, y, h) at e in omega (arith, waitrc_le c A)))
proposition_6 c (u ∷ A) e t (inr i) h =
    proposition_6 c A (case_b (waiting u.process)
    (λ y. let z : bit (knows c u) + waitrc c A ≡ bit (knows c u) + globalrc c A = rw y at e in omega arith)
    (λ y. let z : 0 + waitrc c A ≡ bit (knows c u) + globalrc c A = rw y at e in omega (arith, waitrc_le c A))) t i h

-- ---- document 01's third case

-- P waits on channel 0, which W knows too; W waits on channel 1, which R knows; R is active and does not know channel 0
abbrev pub P : Thread
P = thread (takes 0 2 end ∷ []) (Some (channel 0) ∷ []) (choice (wait nothing))

abbrev pub W : Thread
W = thread (takes 1 2 end ∷ []) (Some (channel 0) ∷ Some (channel 1) ∷ []) (choice (wait nothing))

abbrev pub R : Thread
R = thread [] (None ∷ Some (channel 1) ∷ []) end

abbrev pub case_three : List Thread
case_three = P ∷ W ∷ R ∷ []

-- the printed collector, which begins with P, takes P alone, ...
pub printed_takes_lem : gc2 case_three 8 [] (0 ∷ []) ≡ Some (0 ∷ [])
unfolding gc2 joining together quiet committed_on has waitrc waiting some_wait only_waits knows mentions refers globalrc count bit channel_of
printed_takes_lem = refl

-- P is enabled by Definition 1: R is active and knows a channel on which W waits, and W one on which P does
pub p_enabled : Enabled case_three 0
unfolding waiting some_wait only_waits knows mentions refers channel_of
p_enabled =
    awoken {j = 0} (omega arith) refl 0 (takes 0 2 end, inl refl, refl) 1 (λ q. omega arith)
    (awoken {j = 1} (omega arith) refl 1 (takes 1 2 end, inl refl, refl) 2 (λ q. omega arith) (active {j = 2} (omega arith) refl) refl) refl

-- what the printed collector does is no use of (stuck): beside P somebody knows the channel on which P waits
pub not_stuck : globalrc 0 (W ∷ R ∷ []) ≡ 1
unfolding globalrc count bit knows mentions refers
not_stuck = refl
