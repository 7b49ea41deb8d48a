-- Laws on environments: what is bound after a binding, and that a thread knows a channel just if one of its variables is bound to it. Assumes nothing.
use Rattle.std.specs.Prelude.{ℕ, zero, suc, ◌<◌, ◌≡◌, refl, ◌≢◌, ◌↔◌, true, [], ◌∷◌, length, None, Option, Some}
use Rattle.std.proofs.Common.{arith, ap, ⊎_elim, eqb-true, eq-eqb}
use Rattle.numbers.specs.Search.Laws.{contra}
use Rattle.numbers.specs.Tests.{clash}
use Rattle.std.proofs.lemmas.Bool.{or_cases, or_right}
use Rattle.published.specs.Agents.{Value, channel, number, Env, look, bind, refers, mentions, Thread, knows}

-- ---- a binding

pub look_bound : (δ : Env) (x : ℕ) (v : Value) → look (bind δ x v) x ≡ Some v
unfolding bind
look_bound [] zero v = refl
look_bound [] (suc x) v = look_bound [] x v
look_bound (o ∷ δ) zero v = refl
look_bound (o ∷ δ) (suc x) v = look_bound δ x v

pub look_other : (δ : Env) (x y : ℕ) (v : Value) → y ≢ x → look (bind δ x v) y ≡ look δ y
unfolding bind
look_other [] zero zero v n = absurd (n refl)
look_other [] zero (suc y) v n = refl
look_other [] (suc x) zero v n = refl
look_other [] (suc x) (suc y) v n = look_other [] x y v (λ q. n (ap suc q))
look_other (o ∷ δ) zero zero v n = absurd (n refl)
look_other (o ∷ δ) zero (suc y) v n = refl
look_other (o ∷ δ) (suc x) zero v n = refl
look_other (o ∷ δ) (suc x) (suc y) v n = look_other δ x y v (λ q. n (ap suc q))

pub length_bound : (δ : Env) (x : ℕ) (v : Value) → x < length δ → length (bind δ x v) ≡ length δ
unfolding bind
length_bound [] x v l = absurd (omega arith)
length_bound (o ∷ δ) zero v l = refl
length_bound (o ∷ δ) (suc x) v l = ap suc (length_bound δ x v (omega arith))

-- ---- who knows

refers_is : (c : ℕ) (o : Option Value) → refers c o ≡ true → o ≡ Some (channel c)
unfolding refers
refers_is c None e = contra e refl
refers_is c (Some (channel d)) e = rw (eqb-true d c e)
refers_is c (Some (number n)) e = contra e refl

mentions_elim : (c : ℕ) (δ : Env) → mentions c δ ≡ true → (x : ℕ) × (look δ x ≡ Some (channel c))
unfolding mentions
mentions_elim c [] e = contra e refl
mentions_elim c (o ∷ δ) e =
    ⊎_elim (λ y. (0, refers_is c o y)) (λ y. let (x, h) = mentions_elim c δ y in (suc x, h)) (or_cases (refers c o) (mentions c δ) e)

mentions_intro : (c : ℕ) (δ : Env) (x : ℕ) → look δ x ≡ Some (channel c) → mentions c δ ≡ true
unfolding mentions refers
mentions_intro c [] x e = clash cc
mentions_intro c (o ∷ δ) zero e = let q : o ≡ Some (channel c) = e in rw (q, eq-eqb c c refl)
mentions_intro c (o ∷ δ) (suc x) e = or_right (refers c o) (mentions c δ) (mentions_intro c δ x e)

-- knows(ĉ, [Γ; δ] : P) as it is printed: some x has δ(x) = ĉ
pub knows_iff : (c : ℕ) (t : Thread) → (knows c t ≡ true) ↔ ((x : ℕ) × (look t.env x ≡ Some (channel c)))
unfolding knows
knows_iff c t = (mentions_elim c t.env, λ (x, e). mentions_intro c t.env x e)
