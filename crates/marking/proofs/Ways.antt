-- One law for each way out of the functions that mark the enabled threads. Assumes nothing.
use Prim.Native.Nat.{ℕ, suc, ◌+◌, ◌≤◌}
use native.Mathlib.Omega.{arith}
use native.Mathlib.Numerals.{add-one}
use mathlib.Core.Path.{◌≡◌, sym, ◌∙◌}
use mathlib.Core.Bool.{Bool, true, false}
use mathlib.Core.List.{List}
use lib.Dec.{ltb, eqb}
use lib.ListN.{set, length-set, replicate, length-replicate, get_or-replicate}
use lib.Seq.{get_or-set_same, get_or-set_other}
use borrow.Author.Tests.{ltb-true, ltb-false, lt-ltb, le-ltb, eqb-true, eqb-false}
use Rattle.numbers.specs.Search.{tabulate}
use Rattle.numbers.specs.Search.Laws.{case_b, get_d_tabulate, length_tabulate, is_tabulate}
use Rattle.state.specs.State.{max_channels}
use Rattle.marking.specs.Marking.{ports_to}

-- known_ports
pub ports_none : (k : List Bool) → k ≡ replicate max_channels false → k ≡ ports_to 0
unfolding ports_to
ports_none k e =
    e ∙ is_tabulate (replicate 128 false) 128 (λ c. ltb c 0) false (length-replicate {A = Bool} 128 false)
    (λ c l. get_or-replicate 128 c false false l ∙ sym (le-ltb c 0 (omega arith)))

pub ports_more : (k k₁ : List Bool) (n : ℕ) → k₁ ≡ set k n true → k ≡ ports_to n → k₁ ≡ ports_to (n + 1)
unfolding ports_to
ports_more k k₁ n f e =
    let p : List Bool = tabulate 128 (λ c. ltb c n) in
    f ∙ rw (e, add-one n)
    (is_tabulate (set p n true) 128 (λ c. ltb c (suc n)) false (length-set p n true ∙ length_tabulate 128 (λ c. ltb c n))
    (λ c l. case_b (eqb c n)
    (λ y. let q : c ≡ n = eqb-true c n y in
    rw q (get_or-set_same p n true false (omega (arith, length_tabulate 128 (λ c. ltb c n), q)) ∙ sym (lt-ltb n (suc n) (omega arith))))
    (λ y. get_or-set_other p n c true false (eqb-false c n y) ∙ get_d_tabulate 128 c (λ c. ltb c n) false l ∙ same_below c n (eqb-false c n y))))
  where
    same_below : (c n : ℕ) → (c ≡ n → ⊥) → ltb c n ≡ ltb c (suc n)
    same_below c n d =
        case_b (ltb c n)
        (λ y. rw (y, lt-ltb c (suc n) (omega (arith, ltb-true c n y))))
        (λ y. rw (y, le-ltb c (suc n) (omega (arith, ltb-false c n y, d))))

pub ports_all : (k : List Bool) (c n p : ℕ) → k ≡ ports_to c → n ≡ p → c ≤ n → n ≤ c → k ≡ ports_to p
ports_all k c n p e f h i = let q : c ≡ p = omega arith in rw q at e
