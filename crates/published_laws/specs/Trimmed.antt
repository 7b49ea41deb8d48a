-- Laws on environments without the unbound variables at their end: they bind the same, and those that bind the same are the same list. Assumes nothing.
use Rattle.std.specs.Prelude.{ℕ, zero, suc, ◌≡◌, refl, List, [], ◌∷◌, map, None, Option, Some}
use Rattle.std.proofs.Common.{sym, ◌∙◌, ap}
use Rattle.published.specs.Agents.{Value, Env, look, bind}
use Rattle.published_laws.specs.Standing.{in_front, trimmed}

look_front : (o : Option Value) (δ : Env) (x : ℕ) → look (in_front o δ) x ≡ look (o ∷ δ) x
unfolding in_front
look_front None [] zero = refl
look_front None [] (suc x) = refl
look_front None (p ∷ δ) x = refl
look_front (Some v) δ x = refl

pub look_trimmed : (δ : Env) (x : ℕ) → look (trimmed δ) x ≡ look δ x
unfolding trimmed
look_trimmed [] x = refl
look_trimmed (o ∷ δ) zero = look_front o (trimmed δ) zero
look_trimmed (o ∷ δ) (suc x) = look_front o (trimmed δ) (suc x) ∙ look_trimmed δ x

pub trimmed_same : (δ ε : Env) → ((x : ℕ) → look δ x ≡ look ε x) → trimmed δ ≡ trimmed ε
unfolding trimmed in_front
trimmed_same [] [] h = refl
trimmed_same [] (p ∷ ε) h =
    let q : None ≡ p = h 0 in
    let r : [] ≡ trimmed ε = trimmed_same [] ε (λ x. h (suc x)) in
    rw (← q, ← r)
trimmed_same (o ∷ δ) [] h =
    let q : o ≡ None = h 0 in
    let r : trimmed δ ≡ [] = trimmed_same δ [] (λ x. h (suc x)) in
    rw (q, r)
trimmed_same (o ∷ δ) (p ∷ ε) h =
    let q : o ≡ p = h 0 in
    let r : trimmed δ ≡ trimmed ε = trimmed_same δ ε (λ x. h (suc x)) in
    rw (q, r)

-- the parameters of a definition
pub trimmed_given : (ws : List Value) → trimmed (map Some ws) ≡ map Some ws
unfolding trimmed in_front
trimmed_given [] = refl
trimmed_given (w ∷ ws) = ap (λ (δ : Env). Some w ∷ δ) (trimmed_given ws)

-- ---- a binding

front_bound : (o : Option Value) (δ : Env) (v : Value) → bind (in_front o δ) zero v ≡ Some v ∷ δ
unfolding in_front bind
front_bound None [] v = refl
front_bound None (p ∷ δ) v = refl
front_bound (Some w) δ v = refl

front_bind : (o : Option Value) (δ : Env) (x : ℕ) (v : Value) → in_front o (bind δ x v) ≡ bind (in_front o δ) (suc x) v
unfolding in_front bind
front_bind None [] zero v = refl
front_bind None [] (suc x) v = refl
front_bind None (p ∷ δ) zero v = refl
front_bind None (p ∷ δ) (suc x) v = refl
front_bind (Some w) δ x v = refl

pub trimmed_bound : (δ : Env) (x : ℕ) (v : Value) → trimmed (bind δ x v) ≡ bind (trimmed δ) x v
unfolding trimmed bind in_front
trimmed_bound [] zero v = refl
trimmed_bound [] (suc x) v = ap (in_front None) (trimmed_bound [] x v) ∙ front_bind None [] x v
trimmed_bound (o ∷ δ) zero v = sym (front_bound o (trimmed δ) v)
trimmed_bound (o ∷ δ) (suc x) v = ap (in_front o) (trimmed_bound δ x v) ∙ front_bind o (trimmed δ) x v
