-- After a collection every waiting thread is linked, in document 01's word, to a thread that is ready or to the bench. Assumes nothing.
use Rattle.std.specs.Prelude.{ℕ, ◌<◌, ◌≡◌, true, List, [], ◌∷◌, ◌⊎◌, ◌≢◌}
use Rattle.std.proofs.Math.Path.{refl}
use Rattle.std.proofs.Math.Logic.{inl, inr}
use Rattle.numbers.specs.Search.Laws.{case_b, contra}
use Rattle.table.specs.Table.{Table, ports}
use Rattle.state.specs.State.{State, max_threads, thread, in_use, is_ready, is_waiting}
use Rattle.rules.specs.Holding.{holds}
use Rattle.rules.specs.Offers.{offers}
use Rattle.rules.specs.declared.Direction.{Direction}
use Rattle.rules_laws.specs.Reading.Laws.{waiting_used}
use Rattle.marking.specs.Enabled.{nobody, Enabled, from_start, is_ready_lem, by_bench, by_thread}
use Rattle.collector.specs.Collect.{taken, collected}
use Rattle.collector.specs.Collect.Laws.{stays_enabled, taken_freed, left_same, enabled_same}

-- document 01's links: a series of threads, by those that come after thread t. Each but the last has an offer, so that it waits, on a channel of the next,
-- which is not itself; the last is ready or has an offer on a port
unfoldable pub Series : Table → State → ℕ → List ℕ → Type 0
Series tb s t [] = (is_ready (thread s t) ≡ true) ⊎ ((d : Direction) × (c : ℕ) × (offers tb (thread s t) d c ≡ true) × (c < ports tb))
Series tb s t (u ∷ r) =
    ((d : Direction) × (c : ℕ) × (offers tb (thread s t) d c ≡ true) × (u ≢ t) × (holds tb (thread s u) c ≡ true)) × Series tb s u r

module _ (tb : Table) (s : State) where
  enabled_linked : {t : ℕ} → Enabled tb s nobody t → (r : List ℕ) × Series tb (collected tb s) t r
  unfolding Series nobody
  enabled_linked {t} (from_start l u g) = contra g refl
  enabled_linked {t} (is_ready_lem l h) = ([], inl (rw (enabled_same tb s t (is_ready_lem l h)) h))
  enabled_linked {t} (by_bench l d c o p) = ([], inr (d, c, rw (enabled_same tb s t (by_bench l d c o p)) o, p))
  enabled_linked {t} (by_thread l d c o u n k e) =
      let (r, h) = enabled_linked e in
      (u ∷ r, ((d, c, rw (enabled_same tb s t (by_thread l d c o u n k e)) o, n, rw (enabled_same tb s u e) k), h))

  -- a series begins with each thread that a collection leaves
  pub left_linked : (t : ℕ) → t < max_threads → in_use (thread (collected tb s) t) ≡ true → (r : List ℕ) × Series tb (collected tb s) t r
  left_linked t l w =
      case_b (taken tb s t)
      (λ k. contra (rw (taken_freed tb s t l k) at w) refl)
      (λ k. enabled_linked (stays_enabled tb s t (rw (left_same tb s t l k) at w) k))

  -- each thread that waits after a collection is the first of a series
  pub waiting_linked : (t : ℕ) → t < max_threads → is_waiting (thread (collected tb s) t) ≡ true → (r : List ℕ) × Series tb (collected tb s) t r
  waiting_linked t l w = left_linked t l (waiting_used (thread (collected tb s) t) w)
