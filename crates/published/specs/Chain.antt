-- Lemma 1 of 002: an enabled thread is linked, thread by thread, to an active one. Assumes nothing.
use Rattle.std.specs.Prelude.{ℕ, ◌<◌, ◌≡◌, true, false, List, [], ◌∷◌, ◌≢◌, length}
use Rattle.published.specs.Syntax.{waiting}
use Rattle.published.specs.Agents.{Thread, nth, knows, Commits}
use Rattle.published.specs.Enabling.{Enabled, active, awoken, enabled_in}

-- the threads P₂ to Pₙ behind thread j, each of which knows a channel of a commitment of the one before it; the last is active. Printed is n ≥ 2, which an
-- active thread, whose commitments are none, does not fulfil: its chain ends with itself
abbrev pub Chain : List Thread → ℕ → List ℕ → Type 0
Chain A j [] = waiting (nth A j).process ≡ false
Chain A j (k ∷ r) = ((ĉ : ℕ) × Commits (nth A j).commitments ĉ × (k < length A) × (k ≢ j) × (knows ĉ (nth A k) ≡ true)) × Chain A k r

pub lemma_1 : (A : List Thread) {j : ℕ} → Enabled A j → (r : List ℕ) × Chain A j r
lemma_1 A (active l w) = ([], w)
lemma_1 A (awoken l w ĉ i k n e h) = let (r, c) = lemma_1 A e in (k ∷ r, ((ĉ, i, enabled_in A e, n, h), c))
