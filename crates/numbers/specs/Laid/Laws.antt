-- The laws of a list that is being laid. Assumes nothing.
use Rattle.std.specs.Prelude.{◌≡◌, ℕ, zero, suc, ◌+◌, ◌-◌, ◌<◌, ◌≤◌, [], ◌∷◌, length, replicate, slice_index, slice_set, refl}
use native.Mathlib.Omega.{arith}
use Rattle.std.proofs.Math.Nat.{sub_self, sub-zero}
use Rattle.std.proofs.Math.Decide.{le_ind}
use Rattle.std.proofs.Common.{sym, ◌∙◌, append_assoc, append-nil, get_or-append-add}
use Rattle.std.proofs.Math.ListN.{length-append, length-replicate, get_or-append}
use Rattle.std.proofs.Math.Seq.{set_at}
use Rattle.numbers.specs.Search.{tabulate}
use Rattle.numbers.specs.Search.Laws.{tabulate_none, tabulate_suc, length_tabulate, get_d_tabulate}
use Rattle.numbers.specs.Laid.{laid}

pub zeros_at : (n k : ℕ) → ◌≡◌ {A = ℕ} (slice_index (replicate n 0) k) 0
zeros_at zero k = refl
zeros_at (suc n) zero = refl
zeros_at (suc n) (suc k) = zeros_at n k

module _ (f : ℕ → ℕ) (n : ℕ) where
  pub laid_none : laid f 0 n ≡ replicate n 0
  unfolding laid
  laid_none = rw (tabulate_none f, sub-zero n)

  pub laid_all : laid f n n ≡ tabulate n f
  unfolding laid
  laid_all = rw (sub_self n) (append-nil (tabulate n f))

  -- one entry more
  pub laid_put : (p : ℕ) → p < n → slice_set (laid f p n) p (f p) ≡ laid f (suc p) n
  unfolding laid
  laid_put p h =
      let e : n - p ≡ suc (n - suc p) = omega arith in
      rw (e, set_at (tabulate p f) 0 (replicate (n - suc p) 0) (f p) p (length_tabulate p f), tabulate_suc p f)
      (sym (append_assoc (tabulate p f) (f p ∷ []) (replicate (n - suc p) 0)))

  -- entries that are 0 are there already
  pub laid_zero : (p : ℕ) → p < n → f p ≡ 0 → laid f p n ≡ laid f (suc p) n
  unfolding laid
  laid_zero p h z =
      let e : n - p ≡ suc (n - suc p) = omega arith in
      rw (e, tabulate_suc p f, z) (sym (append_assoc (tabulate p f) (0 ∷ []) (replicate (n - suc p) 0)))

  pub laid_skip : (p q : ℕ) → p ≤ q → q ≤ n → ((x : ℕ) → p ≤ x → x < q → f x ≡ 0) → laid f p n ≡ laid f q n
  laid_skip p q h l z =
      le_ind (λ (m : ℕ). m ≤ q → laid f p n ≡ laid f m n) (λ k. refl) (λ m j e k. e (omega arith) ∙ laid_zero m (omega arith) (z m j k)) q h (omega arith)

  pub get_d_laid : (p k : ℕ) → k < p → slice_index (laid f p n) k ≡ f k
  unfolding laid
  get_d_laid p k h = get_or-append (tabulate p f) (replicate (n - p) 0) 0 k (omega (arith, length_tabulate p f)) ∙ get_d_tabulate p k f 0 h

  -- past what is there it is 0
  pub get_d_unlaid : (p k : ℕ) → p ≤ k → slice_index (laid f p n) k ≡ 0
  unfolding laid
  get_d_unlaid p k h =
      let e : k ≡ length (tabulate p f) + (k - p) = omega (arith, length_tabulate p f) in
      rw e (get_or-append-add (tabulate p f) (replicate (n - p) 0) (k - p) 0 ∙ zeros_at (n - p) (k - p))

  pub length_laid : (p : ℕ) → p ≤ n → length (laid f p n) ≡ n
  unfolding laid
  length_laid p h = omega (arith, length-append (tabulate p f) (replicate (n - p) 0), length_tabulate p f, length-replicate {A = ℕ} (n - p) 0)
