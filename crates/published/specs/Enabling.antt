-- Definition 1 of 002: which threads of an agent are enabled. Threads are named by their place in the product, so that two equal threads stay two.
use Rattle.std.specs.Prelude.{ℕ, ◌<◌, ◌≡◌, true, false, List, ◌≢◌, length}
use Rattle.published.specs.Syntax.{waiting}
use Rattle.published.specs.Agents.{Thread, nth, knows, Commits}

module _ (A : List Thread) where
  -- thread j is active, or it waits and has a commitment on a channel that another enabled thread, k, knows; no thread is enabled but by these two
  pub data Enabled : ℕ → Type 0 where
    active : {j : ℕ} → j < length A → waiting (nth A j).process ≡ false → Enabled j
    awoken : {j : ℕ} → j < length A → waiting (nth A j).process ≡ true → (ĉ : ℕ) → Commits (nth A j).commitments ĉ
        → (k : ℕ) → k ≢ j → Enabled k → knows ĉ (nth A k) ≡ true → Enabled j

  abbrev pub Disabled : ℕ → Type 0
  Disabled j = Enabled j → ⊥

  pub enabled_in : {j : ℕ} → Enabled j → j < length A
  enabled_in (active l w) = l
  enabled_in (awoken l w c i k n e h) = l
