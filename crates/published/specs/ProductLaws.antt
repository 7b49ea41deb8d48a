-- Laws on products of threads: who is in one, who is in one in another order, and who knows a channel; and on series of reductions. Assumes nothing.
use Rattle.std.specs.Prelude.{ℕ, zero, suc, ◌+◌, ◌<◌, ◌≡◌, refl, ◌⊎◌, false, List, [], ◌∷◌, ◌++◌, length}
use Rattle.std.proofs.Common.{arith, inl, inr, ⊎_elim, append-nil}
use Rattle.numbers.specs.Count.{bit, count}
use Rattle.numbers.specs.Search.Laws.{case_b}
use Rattle.published.specs.Syntax.{Process}
use Rattle.published.specs.Agents.{◌∈◌, Thread, Agent, agent, nth, knows, globalrc}
use Rattle.published.specs.Rules.{Rearranged, none_left, same_first, swapped, twice, Reclaims, Reduces, acts, reclaims, exchange, Many, stays, goes, Reaches, Run, last, pass, Turn, Stepped}

-- ---- one of a list

module _ {A : Type 0} (a : A) where
  pub in_left : (l m : List A) → a ∈ l → a ∈ (l ++ m)
  in_left [] m i = absurd i
  in_left (b ∷ l) m (inl e) = inl e
  in_left (b ∷ l) m (inr i) = inr (in_left l m i)

  pub in_right : (l m : List A) → a ∈ m → a ∈ (l ++ m)
  in_right [] m i = i
  in_right (b ∷ l) m i = inr (in_right l m i)

  pub in_either : (l m : List A) → a ∈ (l ++ m) → (a ∈ l) ⊎ (a ∈ m)
  in_either [] m i = inr i
  in_either (b ∷ l) m (inl e) = inl (inl e)
  in_either (b ∷ l) m (inr i) = ⊎_elim (λ h. inl (inr h)) (λ h. inr h) (in_either l m i)

-- a thread of a product has a place in it
pub in_nth : (t : Thread) (A : List Thread) → t ∈ A → (j : ℕ) × (j < length A) × (nth A j ≡ t)
in_nth t [] i = absurd i
in_nth t (u ∷ A) (inl e) = (0, omega arith, rw e)
in_nth t (u ∷ A) (inr i) = let (j, l, q) = in_nth t A i in (suc j, omega arith, q)

pub nth_in : (A : List Thread) (j : ℕ) → j < length A → nth A j ∈ A
nth_in [] j l = absurd (omega arith)
nth_in (t ∷ A) zero l = inl refl
nth_in (t ∷ A) (suc j) l = inr (nth_in A j (omega arith))

-- ---- another order

pub same_order : (A : List Thread) → Rearranged A A
same_order [] = none_left
same_order (t ∷ A) = same_first (same_order A)

pub in_rearranged : (t : Thread) {A B : List Thread} → Rearranged A B → t ∈ B → t ∈ A
in_rearranged t none_left i = i
in_rearranged t (same_first r) i = ⊎_elim (λ e. inl e) (λ j. inr (in_rearranged t r j)) i
in_rearranged t swapped i = ⊎_elim (λ e. inr (inl e)) (λ j. ⊎_elim (λ e. inl e) (λ k. inr (inr k)) j) i
in_rearranged t (twice r s) i = in_rearranged t r (in_rearranged t s i)

pub turned_back : {A B : List Thread} → Rearranged A B → Rearranged B A
turned_back none_left = none_left
turned_back (same_first r) = same_first (turned_back r)
turned_back swapped = swapped
turned_back (twice r s) = twice (turned_back s) (turned_back r)

-- a thread is brought to the front
pub to_front : (A : List Thread) (t : Thread) (B : List Thread) → Rearranged (A ++ (t ∷ B)) (t ∷ (A ++ B))
to_front [] t B = same_order (t ∷ B)
to_front (u ∷ A) t B = twice (same_first (to_front A t B)) swapped

-- the two parts of a product change places
pub turned_round : (A B : List Thread) → Rearranged (A ++ B) (B ++ A)
turned_round [] B = rw (append-nil B) (same_order B)
turned_round (t ∷ A) B = twice (same_first (turned_round A B)) (turned_back (to_front B t A))

-- ---- who knows a channel

-- a channel that no thread is counted for is known to none, and one that none knows has the count 0
pub unknown : (c : ℕ) (A : List Thread) → globalrc c A ≡ 0 → (t : Thread) → t ∈ A → knows c t ≡ false
unfolding globalrc count bit
unknown c [] e t i = absurd i
unknown c (u ∷ A) e t (inl q) =
    case_b (knows c t) (λ y. absurd (let z : 1 + globalrc c A ≡ 0 = rw (← q, y) at e in omega arith)) (λ n. n)
unknown c (u ∷ A) e t (inr i) = unknown c A (omega arith) t i

pub none_knows : (c : ℕ) (A : List Thread) → ((t : Thread) → t ∈ A → knows c t ≡ false) → globalrc c A ≡ 0
unfolding globalrc count bit
none_knows c [] h = refl
none_knows c (u ∷ A) h = let q = none_knows c A (λ t i. h t (inr i)) in rw (h u (inl refl)) (omega arith)

-- ---- series of reductions

module _ (R : Agent → Agent → Type 0) where
  unfoldable pub many_on : {A B C : Agent} → Many R A B → Many R B C → Many R A C
  many_on stays q = q
  many_on (goes r p) q = goes r (many_on p q)

  pub many_by : (S : Agent → Agent → Type 0) → ((A B : Agent) → R A B → S A B) → {A B : Agent} → Many R A B → Many S A B
  many_by S f stays = stays
  many_by S f (goes {A} {B} r p) = goes (f A B r) (many_by S f p)

module _ (def : ℕ → Process) (More : Agent → Agent → Type 0) where
  -- products in another order at the beginning and at the end
  exchanged : {A T : Agent} {P Q : List Thread} → Run def More A T → Rearranged P A.threads → Rearranged T.threads Q
      → Reaches def More (agent A.channels P) (agent T.channels Q)
  exchanged (last r) p q = goes (exchange p (acts r) q) stays
  exchanged (pass r w) p q = goes (exchange p (acts r) (same_order _)) (exchanged w (same_order _) q)

  -- a turn is a series of reductions
  pub turn_reaches : (A : Agent) (t : Thread) (B : Agent) → Turn def More A t B → Reaches def More A B
  turn_reaches A t B h = exchanged h.run h.brought h.put_back

pub reclaims_reach : (def : ℕ → Process) (More : Agent → Agent → Type 0) {A B : Agent} → Many Reclaims A B → Reaches def More A B
reclaims_reach def More p = many_by Reclaims (Reduces def More) (λ A B r. reclaims r) p

pub stepped_reaches : (def : ℕ → Process) (More : Agent → Agent → Type 0) (A : Agent) (t : Thread) (B : Agent) → Stepped def More A t B → Reaches def More A B
stepped_reaches def More A t B h = many_on (Reduces def More) (turn_reaches def More A t h.between h.turn) (reclaims_reach def More h.reclaimed)
