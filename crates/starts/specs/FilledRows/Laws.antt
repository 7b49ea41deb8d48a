-- Laws of lists that are filled: entry by entry, and with one value. Assumes nothing.
use Prim.Native.Nat.{ℕ, zero, suc, ◌<◌, ◌≤◌}
use native.Mathlib.Omega.{arith}
use Rattle.std.proofs.Math.Decide.{dec_lt}
use Rattle.std.specs.Prelude.{◌≡◌, Bool, false, List, length, set, replicate}
use Rattle.std.proofs.Math.Path.{refl}
use Rattle.std.proofs.Common.{sym, ◌∙◌, get_or-set_same}
use Rattle.std.proofs.Math.ListN.{get_or, length-set}
use Rattle.std.proofs.lemmas.List.{length-replicate}
use Rattle.std.proofs.Math.Seq.{get_or-set_other}
use Rattle.numbers.specs.Count.{bit, count}
use Rattle.numbers.specs.Search.{tabulate}
use Rattle.numbers.specs.Search.Laws.{is_tabulate}
use Rattle.starts.specs.FilledRows.{filled_to}

module _ {ℓ} {A : Type ℓ} (f : ℕ → A) (l : List A) where
  filled_length : (n : ℕ) → length (filled_to f l n) ≡ length l
  unfolding filled_to
  filled_length zero = refl
  filled_length (suc n) = length-set (filled_to f l n) n (f n) ∙ filled_length n

  filled_at : (d : A) (n i : ℕ) → n ≤ length l → i < n → get_or (filled_to f l n) i d ≡ f i
  unfolding filled_to
  filled_at d zero i h j = absurd (omega arith)
  filled_at d (suc n) i h j = go (dec_lt i n) (λ m. filled_at d n i (omega arith) m)
    where
      go : Dec (i < n) → (i < n → get_or (filled_to f l n) i d ≡ f i) → get_or (set (filled_to f l n) n (f n)) i d ≡ f i
      go (yes m) g = get_or-set_other (filled_to f l n) n i (f n) d (λ e. omega arith) ∙ g m
      go (no m) g = let e : i ≡ n = omega arith in rw e (get_or-set_same (filled_to f l n) n (f n) d (omega (arith, filled_length n)))

  pub filled_all : A → (n : ℕ) → length l ≡ n → filled_to f l n ≡ tabulate n f
  filled_all d n e = is_tabulate (filled_to f l n) n f d (filled_length n ∙ e) (λ i h. filled_at d n i (omega arith) h)

get_d_replicate {ℓ} : {A : Type ℓ} (n i : ℕ) (x d : A) → i < n → get_or (replicate n x) i d ≡ x
get_d_replicate zero i x d h = absurd (omega arith)
get_d_replicate (suc n) zero x d h = refl
get_d_replicate (suc n) (suc i) x d h = get_d_replicate n i x d (omega arith)

-- the values of a function that does not look at its argument
pub tabulate_same {ℓ} : {A : Type ℓ} (n : ℕ) (x : A) → tabulate n (λ i. x) ≡ replicate n x
tabulate_same n x = sym (is_tabulate (replicate n x) n (λ i. x) x (length-replicate n x) (λ i h. get_d_replicate n i x x h))

-- a value that fails a test is not counted, however often it stands there
pub none_pass {ℓ} : {A : Type ℓ} (q : A → Bool) (x : A) → q x ≡ false → (n : ℕ) → count q (replicate n x) ≡ 0
unfolding count bit
none_pass q x e zero = refl
none_pass q x e (suc n) = rw (e, none_pass q x e n)
