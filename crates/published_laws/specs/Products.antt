-- The product of the threads of a state: which threads are in it, that a thread may be brought to its front, and that its counts are the engine's. Assumes
-- nothing.
use Prim.Native.Nat.{ℕ, zero, suc, ◌+◌, ◌<◌}
use native.Mathlib.Omega.{arith}
use Rattle.std.specs.Prelude.{◌≡◌, true, false, ltb, get_or, set}
use Rattle.std.proofs.Math.Path.{refl}
use Rattle.std.proofs.Common.{ap}
use Rattle.std.proofs.Math.Logic.{⊎_elim}
use mathlib.Core.List.{List, [], ◌∷◌}
use Rattle.std.proofs.Math.ListN.{length}
use Rattle.std.proofs.lemmas.List.{set-get_or}
use Rattle.numbers.specs.Count.{bit, count}
use Rattle.numbers.specs.Search.Laws.{case_b, contra}
use Rattle.table.specs.Table.{Table, ports}
use Rattle.state.specs.State.{in_use, is_ready, is_waiting}
use Rattle.rules.specs.Holding.{holds, holders, count_of}
use Rattle.rules.specs.Start.{free_row}
use Rattle.rules_laws.specs.Reading.Laws.{holds_elim, ready_not_waiting}
use Rattle.published.specs.Syntax.{waiting}
use Rattle.published.specs.Agents.{◌∈◌, Thread, knows, globalrc}
use Rattle.published.specs.Rules.{Rearranged, same_first, swapped, twice}
use Rattle.published.specs.ProductLaws.{same_order}
use Rattle.published_laws.specs.Standing.{env_of, waiting_thread, ready_thread, thread_of, threads_of}
use Rattle.published_laws.specs.Environments.{knows_held}

-- the bench, which is a thread like others: it makes no commitments, knows the ports and nothing else, and is always active
pub record Bench (tb : Table) (b : Thread) : Type 0 where
  pub uncommitted : b.commitments ≡ []
  pub ports_only : (c : ℕ) → knows c b ≡ ltb c (ports tb)
  pub acts : waiting b.process ≡ false

module _ (tb : Table) where
  -- ---- the thread of a row

  pub ready_thread_lem : (row : List ℕ) → is_ready row ≡ true → thread_of tb row ≡ ready_thread tb row
  unfolding thread_of
  ready_thread_lem row e = rw (ready_not_waiting row e)

  pub waiting_thread_lem : (row : List ℕ) → is_waiting row ≡ true → thread_of tb row ≡ waiting_thread tb row
  unfolding thread_of
  waiting_thread_lem row e = rw e

  pub thread_env : (row : List ℕ) → (thread_of tb row).env ≡ env_of tb row
  unfolding thread_of waiting_thread ready_thread
  thread_env row = case_b (is_waiting row) (λ y. rw y) (λ y. rw y)

  -- ---- the threads of rows

  -- a thread of a product has a row that is in use
  pub row_of : (t : Thread) (rows : List (List ℕ)) → t ∈ threads_of tb rows
      → (u : ℕ) × (u < length rows) × (in_use (get_or rows u []) ≡ true) × (t ≡ thread_of tb (get_or rows u []))
  unfolding threads_of
  row_of t [] i = absurd i
  row_of t (row ∷ rows) i =
      let later : t ∈ threads_of tb rows → (u : ℕ) × (u < length (row ∷ rows)) × (in_use (get_or (row ∷ rows) u []) ≡ true)
      × (t ≡ thread_of tb (get_or (row ∷ rows) u [])) =
      λ j. (let (u, l, y, e) = row_of t rows j in (suc u, omega arith, y, e)) in
      case_b (in_use row)
      (λ y. ⊎_elim (λ e. (0, omega arith, y, e)) later (rw y at i))
      (λ y. later (rw y at i))

  -- the thread of the row that was stored last comes first
  pub stored_first : (rows : List (List ℕ)) (t : ℕ) (new : List ℕ) → t < length rows → in_use new ≡ true
      → Rearranged (threads_of tb (set rows t new)) (thread_of tb new ∷ threads_of tb (set rows t free_row))
  unfolding threads_of
  stored_first [] t new l u = absurd (omega arith)
  stored_first (row ∷ rows) zero new l u = rw u (same_order (thread_of tb new ∷ threads_of tb rows))
  stored_first (row ∷ rows) (suc t) new l u =
      let h = stored_first rows t new (omega arith) u in
      case_b (in_use row) (λ y. rw y (twice (same_first h) swapped)) (λ y. rw y h)

  -- the thread of any row in use may be brought to the front
  pub row_first : (rows : List (List ℕ)) (t : ℕ) → t < length rows → in_use (get_or rows t []) ≡ true
      → Rearranged (threads_of tb rows) (thread_of tb (get_or rows t []) ∷ threads_of tb (set rows t free_row))
  row_first rows t l u =
      let h = stored_first rows t (get_or rows t []) l u in
      let q : set rows t (get_or rows t []) ≡ rows = set-get_or rows t [] in
      rw q at h

  -- ---- counts

  not_held : (row : List ℕ) (c : ℕ) → in_use row ≡ false → holds tb row c ≡ false
  not_held row c e = case_b (holds tb row c) (λ y. contra (holds_elim tb row c y).used e) (λ y. y)

  known_held : (rows : List (List ℕ)) (c : ℕ) → globalrc c (threads_of tb rows) ≡ count (λ row. holds tb row c) rows
  unfolding globalrc threads_of count bit
  known_held [] c = refl
  known_held (row ∷ rows) c =
      let h = known_held rows c in
      case_b (in_use row)
      (λ y. rw (y, knows_held tb row y c (thread_of tb row) (thread_env row)) (ap (λ (n : ℕ). bit (holds tb row c) + n) h))
      (λ y. rw (y, not_held row c y) (omega (arith, h)))

  -- globalrc is document 01's count, with the bench as one holder more of each port
  pub globalrc_count : (b : Thread) → Bench tb b → (rows : List (List ℕ)) (c : ℕ) → globalrc c (b ∷ threads_of tb rows) ≡ count_of tb rows c
  unfolding globalrc count_of holders count
  globalrc_count b bn rows c = rw (bn.ports_only c) (ap (λ (n : ℕ). bit (ltb c (ports tb)) + n) (known_held rows c))
