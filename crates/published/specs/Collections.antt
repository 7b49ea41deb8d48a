-- A collection in 002's words: one use of (stuck), on given threads, and then uses of (reclaim), on given channels. Assumes nothing.
use Rattle.std.specs.Prelude.{ℕ, ◌+◌, ◌≡◌, refl, ◌↔◌, true, false, List, [], ◌∷◌, ◌++◌, eqb, length}
use Rattle.std.proofs.Common.{◌∙◌, ap, inl, inr, length-append, eqb-true, eq-eqb}
use Rattle.numbers.specs.Search.Laws.{case_b, contra}
use Rattle.published.specs.Syntax.{Process}
use Rattle.published.specs.Agents.{◌∈◌, Thread, adding, Agent, agent}
use Rattle.published.specs.Rules.{Rearranged, Reclaims, reclaim, Sticks, sticks, exchange, Many, stays, goes, Reaches}
use Rattle.published.specs.ProductLaws.{same_order, many_on, reclaims_reach}
use Rattle.published.specs.Orders.{same_length}

-- the channel that goes by a use of (reclaim), and by uses of it one after the other
unfoldable pub gone : {A B : Agent} → Reclaims A B → ℕ
gone (reclaim ĉ f e) = ĉ

unfoldable pub all_gone : {A B : Agent} → Many Reclaims A B → List ℕ
all_gone stays = []
all_gone (goes r p) = gone r ∷ all_gone p

-- (stuck) takes the threads G, all at once, and then (reclaim) takes each of the channels cs, in their order; nothing else is done
pub record Collects (G : List Thread) (cs : List ℕ) (A B : Agent) : Type 0 where
  pub parted : Rearranged A.threads (G ++ B.threads)
  pub stuck_once : Sticks (agent A.channels (G ++ B.threads)) (agent A.channels B.threads)
  pub reclaimed : Many Reclaims (agent A.channels B.threads) B
  pub these : all_gone reclaimed ≡ cs

-- a collection is a series of reductions, by any rules that have those of Table 5
pub collects_reach : (def : ℕ → Process) (More : Agent → Agent → Type 0) {G : List Thread} {cs : List ℕ} {A B : Agent} → Collects G cs A B → Reaches def More A B
collects_reach def More {B = B} h = goes (exchange h.parted (sticks h.stuck_once) (same_order B.threads)) (reclaims_reach def More h.reclaimed)

pub gone_on : {A B C : Agent} (p : Many Reclaims A B) (q : Many Reclaims B C) → all_gone (many_on Reclaims p q) ≡ all_gone p ++ all_gone q
unfolding all_gone many_on
gone_on stays q = refl
gone_on (goes r p) q = ap (λ (l : List ℕ). gone r ∷ l) (gone_on p q)

-- ---- the channels that go are those that are there before and not after

-- what is there after a use of (reclaim) was there before; the channel that goes was there, and is not any more; and no other goes
reclaim_keeps : {A B : Agent} → Reclaims A B → (c : ℕ) → B.channels c ≡ true → A.channels c ≡ true
unfolding adding
reclaim_keeps (reclaim ĉ f e) c y = case_b (eqb c ĉ) (λ z. rw z) (λ z. rw z y)

reclaim_takes : {A B : Agent} (r : Reclaims A B) → (A.channels (gone r) ≡ true) × (B.channels (gone r) ≡ false)
unfolding gone adding
reclaim_takes (reclaim ĉ f e) = (rw (eq-eqb ĉ ĉ refl), f)

reclaim_only : {A B : Agent} (r : Reclaims A B) (c : ℕ) → A.channels c ≡ true → B.channels c ≡ false → c ≡ gone r
unfolding gone adding
reclaim_only (reclaim {Δ} ĉ f e) c y n = case_b (eqb c ĉ) (λ z. eqb-true c ĉ z) (λ z. contra (let h : Δ c ≡ true = rw z at y in h) n)

all_kept : {A B : Agent} → Many Reclaims A B → (c : ℕ) → B.channels c ≡ true → A.channels c ≡ true
all_kept stays c y = y
all_kept (goes r p) c y = reclaim_keeps r c (all_kept p c y)

not_there : {A B : Agent} → Many Reclaims A B → (c : ℕ) → A.channels c ≡ false → B.channels c ≡ false
not_there {A} {B} p c n = case_b (B.channels c) (λ y. contra (all_kept p c y) n) (λ y. y)

gone_there : {A B : Agent} (p : Many Reclaims A B) (c : ℕ) → c ∈ all_gone p → (A.channels c ≡ true) × (B.channels c ≡ false)
unfolding all_gone
gone_there stays c i = absurd i
gone_there (goes r p) c (inl e) = let (y, n) = reclaim_takes r in rw e (y, not_there p (gone r) n)
gone_there (goes r p) c (inr i) = let (y, n) = gone_there p c i in (reclaim_keeps r c y, n)

there_gone : {A B : Agent} (p : Many Reclaims A B) (c : ℕ) → A.channels c ≡ true → B.channels c ≡ false → c ∈ all_gone p
unfolding all_gone
there_gone stays c y n = contra y n
there_gone (goes {A} {B} r p) c y n = case_b (B.channels c) (λ z. inr (there_gone p c z n)) (λ z. inl (reclaim_only r c y z))

pub gone_iff : {A B : Agent} (p : Many Reclaims A B) (c : ℕ) → (c ∈ all_gone p) ↔ ((A.channels c ≡ true) × (B.channels c ≡ false))
gone_iff p c = ((λ i. gone_there p c i), (λ (y, n). there_gone p c y n))

-- so of two agents there is one set of channels that a collection may take, and one number of threads
pub collects_these : {G : List Thread} {cs : List ℕ} {A B : Agent} → Collects G cs A B → (c : ℕ) → (c ∈ cs) ↔ ((A.channels c ≡ true) × (B.channels c ≡ false))
collects_these h c = rw h.these at (gone_iff h.reclaimed c)

pub collects_many : {G : List Thread} {cs : List ℕ} {A B : Agent} → Collects G cs A B → length A.threads ≡ length G + length B.threads
collects_many {G = G} {B = B} h = same_length h.parted ∙ length-append G B.threads
