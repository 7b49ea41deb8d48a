-- The place of a row's thread in the product. Assumes nothing.
use Prim.Native.Nat.{ℕ, zero, suc, ◌<◌}
use native.Mathlib.Omega.{arith}
use Rattle.std.specs.Prelude.{◌≡◌, ◌≢◌, false, cond, get_or}
use Rattle.std.proofs.Math.Path.{refl, ap}
use Rattle.std.proofs.Common.{◌∙◌}
use Rattle.std.proofs.Math.Bool.{true}
use mathlib.Core.List.{List, [], ◌∷◌}
use Rattle.std.proofs.Math.ListN.{length}
use Rattle.numbers.specs.Search.Laws.{case_b, contra}
use Rattle.table.specs.Table.{Table}
use Rattle.state.specs.State.{State, in_use}
use Rattle.published.specs.Agents.{nth}
use Rattle.published_laws.specs.Standing.{thread_of, threads_of}

-- how many rows before row t are in use
unfoldable pub rank : List (List ℕ) → ℕ → ℕ
rank [] t = 0
rank (row ∷ rows) zero = 0
rank (row ∷ rows) (suc t) = cond (in_use row) (suc (rank rows t)) (rank rows t)

-- the place of thread t of a state in its product with the bench, which comes first
abbrev pub place_of : State → ℕ → ℕ
place_of s t = suc (rank s.threads t)

rank_later : (row : List ℕ) (rows : List (List ℕ)) (t : ℕ) → in_use row ≡ true → rank (row ∷ rows) (suc t) ≡ suc (rank rows t)
unfolding rank
rank_later row rows t y = rw y

rank_same : (row : List ℕ) (rows : List (List ℕ)) (t : ℕ) → in_use row ≡ false → rank (row ∷ rows) (suc t) ≡ rank rows t
unfolding rank
rank_same row rows t y = rw y

module _ (tb : Table) where
  pub rank_in : (rows : List (List ℕ)) (t : ℕ) → t < length rows → in_use (get_or rows t []) ≡ true → rank rows t < length (threads_of tb rows)
  unfolding rank threads_of
  rank_in [] t l u = absurd (omega arith)
  rank_in (row ∷ rows) zero l u = rw u (omega arith)
  rank_in (row ∷ rows) (suc t) l u =
      let h = rank_in rows t (omega arith) u in case_b (in_use row) (λ y. rw y (omega arith)) (λ y. rw y h)

  pub rank_nth : (rows : List (List ℕ)) (t : ℕ) → t < length rows → in_use (get_or rows t []) ≡ true
      → nth (threads_of tb rows) (rank rows t) ≡ thread_of tb (get_or rows t [])
  unfolding rank threads_of
  rank_nth [] t l u = absurd (omega arith)
  rank_nth (row ∷ rows) zero l u = rw u
  rank_nth (row ∷ rows) (suc t) l u =
      let h = rank_nth rows t (omega arith) u in case_b (in_use row) (λ y. rw y h) (λ y. rw y h)

  -- two rows have two places
  pub rank_apart : (rows : List (List ℕ)) (t u : ℕ) → in_use (get_or rows t []) ≡ true → in_use (get_or rows u []) ≡ true → t ≢ u → rank rows t ≢ rank rows u
  unfolding rank
  rank_apart [] t u a b n = contra a refl
  rank_apart (row ∷ rows) zero zero a b n = absurd (n refl)
  rank_apart (row ∷ rows) zero (suc u) a b n = let z : in_use row ≡ true = a in rw z (λ q. omega arith)
  rank_apart (row ∷ rows) (suc t) zero a b n = let z : in_use row ≡ true = b in rw z (λ q. omega arith)
  rank_apart (row ∷ rows) (suc t) (suc u) a b n =
      let h = rank_apart rows t u a b (λ q. n (ap suc q)) in
      case_b (in_use row) (λ y. rw y (λ q. h (omega arith))) (λ y. rw y h)

  -- each place is that of a row
  pub rank_found : (rows : List (List ℕ)) (p : ℕ) → p < length (threads_of tb rows)
      → (t : ℕ) × (t < length rows) × (in_use (get_or rows t []) ≡ true) × (rank rows t ≡ p)
  unfolding rank threads_of
  rank_found [] p l = absurd (omega arith)
  rank_found (row ∷ rows) zero l =
      case_b (in_use row) (λ y. (0, omega arith, y, refl))
      (λ y. let (t, a, b, c) = rank_found rows zero (rw y at l) in (suc t, omega arith, b, rank_same row rows t y ∙ c))
  rank_found (row ∷ rows) (suc p) l =
      case_b (in_use row)
      (λ y. let m : suc p < length (thread_of tb row ∷ threads_of tb rows) = rw y at l in
      let (t, a, b, c) = rank_found rows p (omega arith) in (suc t, omega arith, b, rank_later row rows t y ∙ ap suc c))
      (λ y. let (t, a, b, c) = rank_found rows (suc p) (rw y at l) in (suc t, omega arith, b, rank_same row rows t y ∙ c))
