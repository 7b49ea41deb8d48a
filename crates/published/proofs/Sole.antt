-- Where one commitment alone can be met, 002 leaves nothing open to a thread that sends or receives: two turns by one branch end alike. Assumes nothing.
use Rattle.std.specs.Prelude.{ℕ, ◌≡◌, Some}
use Rattle.std.proofs.Math.Path.{refl, sym, ap}
use Rattle.std.proofs.Common.{◌∙◌, inl, inr}
use mathlib.Core.List.{List, [], ◌∷◌}
use Rattle.published.specs.Syntax.{Process, output, input}
use Rattle.published.specs.Agents.{channel, look, gives, takes, channel_of, Thread, Agent, agent}
use Rattle.published.specs.Rules.{Rearranged, same_first, twice}
use Rattle.published.specs.ProductLaws.{in_rearranged, turned_back}
use Rattle.published.specs.Orders.{cancelled}
use Rattle.published.specs.Choices.{Sends, Receives, ByAction}
use Rattle.published.proofs.Choices.{same_channel, same_value}
use Rattle.published.specs.Whole.{Is, ByBranch}
use Rattle.published.specs.Sole.{Sole}

same_takes : (ĉ x x' : ℕ) (R R' : Process) → takes ĉ x R ≡ takes ĉ x' R' → (x ≡ x') × (R ≡ R')
same_takes ĉ x x' R R' e = (cc, cc)

same_gives : (ĉ v v' : ℕ) (R R' : Process) → gives ĉ v R ≡ gives ĉ v' R' → (v ≡ v') × (R ≡ R')
same_gives ĉ v v' R R' e = (cc, cc)

module _ (A : Agent) (t : Thread) (P : Process) (T T' : Agent) (c ĉ : ℕ) (on : look t.env c ≡ Some (channel ĉ)) (one : Sole A.threads ĉ) where
  -- the threads beside t and who is met
  same_rest : (u u' : Thread) (C C' : List Thread) → Rearranged A.threads (t ∷ u ∷ C) → Rearranged A.threads (t ∷ u' ∷ C') → u ≡ u' → Rearranged C' C
  same_rest u u' C C' p p' e = cancelled u' C' C (cancelled t (u' ∷ C') (u' ∷ C) (twice (turned_back p') (rw e at p)))

  sent_once : (v : ℕ) (B B' Z Z' : List Thread) → Rearranged A.threads (t ∷ B) → Rearranged A.threads (t ∷ B')
      → Sends A.channels t.env B c v P (agent T.channels Z) → Sends A.channels t.env B' c v P (agent T'.channels Z')
      → (T.channels ≡ T'.channels) × Rearranged Z' Z
  unfolding Sends channel_of
  sent_once v [] B' Z Z' p p' s s' = absurd s
  sent_once v (u ∷ C) [] Z Z' p p' s s' = absurd s'
  sent_once v (u ∷ C) (u' ∷ C') Z Z' p p' (d, x, R, w, e, i, f, q) (d', x', R', w', e', i', f', q') =
      let z : d ≡ ĉ = same_channel t.env c d ĉ e on in
      let z' : d' ≡ ĉ = same_channel t.env c d' ĉ e' on in
      let (same, k) = one u u' (takes ĉ x R) (takes ĉ x' R') (in_rearranged u p (inr (inl refl))) (in_rearranged u' p' (inr (inl refl)))
      (rw z at i) (rw z' at i') refl refl in
      let (y, r) = same_takes ĉ x x' R R' k in
      let v_same : w ≡ w' = same_value t.env v w w' f f' in
      let h = same_rest u u' C C' p p' same in (
        ap (λ (X : Agent). X.channels) q ∙ sym (ap (λ (X : Agent). X.channels) q'),
        rw (ap (λ (X : Agent). X.threads) q, ap (λ (X : Agent). X.threads) q', same, y, r, v_same) (same_first (same_first h)),
      )

  received_once : (x : ℕ) (B B' Z Z' : List Thread) → Rearranged A.threads (t ∷ B) → Rearranged A.threads (t ∷ B')
      → Receives A.channels t.env B c x P (agent T.channels Z) → Receives A.channels t.env B' c x P (agent T'.channels Z')
      → (T.channels ≡ T'.channels) × Rearranged Z' Z
  unfolding Receives channel_of
  received_once x [] B' Z Z' p p' s s' = absurd s
  received_once x (u ∷ C) [] Z Z' p p' s s' = absurd s'
  received_once x (u ∷ C) (u' ∷ C') Z Z' p p' (d, v, R, w, e, i, f, q) (d', v', R', w', e', i', f', q') =
      let z : d ≡ ĉ = same_channel t.env c d ĉ e on in
      let z' : d' ≡ ĉ = same_channel t.env c d' ĉ e' on in
      let (same, k) = one u u' (gives ĉ v R) (gives ĉ v' R') (in_rearranged u p (inr (inl refl))) (in_rearranged u' p' (inr (inl refl)))
      (rw z at i) (rw z' at i') refl refl in
      let (y, r) = same_gives ĉ v v' R R' k in
      let v_same : w ≡ w' = same_value u'.env v' w w' (rw (same, y) at f) f' in
      let h = same_rest u u' C C' p p' same in (
        ap (λ (X : Agent). X.channels) q ∙ sym (ap (λ (X : Agent). X.channels) q'),
        rw (ap (λ (X : Agent). X.threads) q, ap (λ (X : Agent). X.threads) q', same, r, v_same) (same_first (same_first h)),
      )

  pub gives_once : (v : ℕ) → ByBranch A t (output c v) P T → ByBranch A t (output c v) P T' → Is T T'.channels T'.threads
  unfolding ByAction
  gives_once v x x' =
      let (d, r) = sent_once v x.others x'.others x.product x'.product x.brought x'.brought x.action x'.action in
      (d, twice (turned_back x'.put_back) (twice r x.put_back))

  pub takes_once : (y : ℕ) → ByBranch A t (input c y) P T → ByBranch A t (input c y) P T' → Is T T'.channels T'.threads
  unfolding ByAction
  takes_once y x x' =
      let (d, r) = received_once y x.others x'.others x.product x'.product x.brought x'.brought x.action x'.action in
      (d, twice (turned_back x'.put_back) (twice r x.put_back))
