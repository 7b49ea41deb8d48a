-- Two orders of one product have the same length, and a thread that both have first may be taken away from both. Assumes nothing.
use Rattle.std.specs.Prelude.{suc, ◌≡◌, refl, List, ◌∷◌, length}
use Rattle.std.proofs.Common.{◌∙◌, ap}
use Rattle.published.specs.Agents.{Thread}
use Rattle.published.specs.Rules.{Rearranged, none_left, same_first, swapped, twice}
use Rattle.published.specs.ProductLaws.{same_order, turned_back}

pub same_length : {A B : List Thread} → Rearranged A B → length A ≡ length B
same_length none_left = refl
same_length (same_first r) = ap suc (same_length r)
same_length swapped = refl
same_length (twice r s) = same_length r ∙ same_length s

-- A is B with the thread t more, at some place
data More (t : Thread) : List Thread → List Thread → Type 0 where
  here : {A : List Thread} → More t (t ∷ A) A
  behind : {u : Thread} {A B : List Thread} → More t A B → More t (u ∷ A) (u ∷ B)

module _ (t : Thread) where
  more_first : {A B : List Thread} → More t A B → Rearranged A (t ∷ B)
  more_first (here {A}) = same_order (t ∷ A)
  more_first (behind m) = twice (same_first (more_first m)) swapped

  -- a thread stands at some place in every order, and the rest is in another order
  found : {A B A' : List Thread} → Rearranged A B → More t A A' → (B' : List Thread) × More t B B' × Rearranged A' B'
  found none_left m = elim m [ ]
  found (same_first {t = u} {A = A} {B = B} r) here = (B, here, r)
  found (same_first {t = u} r) (behind m) = let (B', n, h) = found r m in (u ∷ B', behind n, same_first h)
  found (swapped {t = v} {u = u} {A = A}) here = (u ∷ A, behind here, same_order (u ∷ A))
  found (swapped {t = v} {u = u} {A = A}) (behind here) = (v ∷ A, here, same_order (v ∷ A))
  found (swapped {t = v} {u = u}) (behind (behind {B = B} m)) = (u ∷ v ∷ B, behind (behind m), swapped)
  found (twice r s) m =
      let (B', n, h) = found r m in
      let (C', o, k) = found s n in
      (C', o, twice h k)

  taken : {u : Thread} {B B' : List Thread} → More t (u ∷ B) B' → u ≡ t → Rearranged B' B
  taken (here {A}) e = same_order A
  taken (behind m) e = rw e (turned_back (more_first m))

  pub cancelled : (A B : List Thread) → Rearranged (t ∷ A) (t ∷ B) → Rearranged A B
  cancelled A B r = let (B', n, h) = found r here in twice h (taken n refl)
