-- The clause of soundness on filled slots, in document 01's words: every channel slot is filled that is a parameter or is written on every path to the node.
-- Paths are those of loading. Assumes nothing.
use Rattle.std.specs.Prelude.{ℕ, ◌<◌, ◌≡◌, ◌↔◌, ◌≢◌, not, ◌||◌, List, leb}
use Rattle.std.proofs.Math.Bool.{true}
use Rattle.std.proofs.Math.Dec.{ltb}
use borrow.Author.Tests.{ltb-true, eqb-false, ne_eqb, not-true}
use Rattle.numbers.specs.Search.{every}
use Rattle.numbers.specs.Search.Laws.{case_b, every_elim, every_intro}
use Rattle.numbers.specs.Tests.{and_right, parts}
use Rattle.table.specs.Table.{Table, nodes}
use Rattle.table.specs.Layout.{definition_of}
use Rattle.flow.specs.Flow.{may_lack}
use Rattle.loader_laws.specs.Paths.{SurelyWritten}
use Rattle.loader_laws.specs.Paths.Laws.{written_iff}
use Rattle.loader_laws.specs.Grounds.{edges}
use Rattle.state.specs.State.{State, max_threads, row_slots, minus_one, thread, status, stands_at, slot_of, in_use}
use Rattle.rules.specs.Program.{channel_slot}
use Rattle.rules.specs.Sound.{row_in_range, slot_filled, slots_filled, sound}
use Rattle.rules_laws.specs.Passed.{Passed}

-- slot k of a thread's row, if it is a channel slot that surely has been written where the thread stands, holds a channel
abbrev pub FilledIfSure : Table → List ℕ → ℕ → Type 0
FilledIfSure tb row k = channel_slot tb (definition_of tb (stands_at row)) k ≡ true → SurelyWritten tb (stands_at row) k → slot_of row k ≢ minus_one

-- each slot of a thread, if it is such a slot, holds a channel
abbrev pub FilledRow : Table → List ℕ → Type 0
FilledRow tb row = in_use row ≡ true → (k : ℕ) → k < row_slots → FilledIfSure tb row k

module _ (tb : Table) (a : Passed tb) where
  -- the test of a slot, which asks the forward pass, says that the slot is filled if it surely has been written
  pub slot_filled_iff : (row : List ℕ) (k : ℕ) → stands_at row < nodes tb → k < row_slots → (slot_filled tb row k ≡ true) ↔ FilledIfSure tb row k
  unfolding slot_filled
  slot_filled_iff row k h l =
      let n = stands_at row in
      let w = written_iff tb (edges tb a.formed) n k h l in (
        λ e c s. eqb-false (slot_of row k) minus_one (not-true _ (rw (c, w.1 s) at e)),
        λ f. case_b (channel_slot tb (definition_of tb n) k)
            (λ c. case_b (may_lack tb n k) (λ y. rw (c, y)) (λ y. rw (c, y, ne_eqb (slot_of row k) minus_one (f c (w.0 y)))))
            (λ c. rw c),
      )

  in_range_lem : (row : List ℕ) → row_in_range tb row ≡ true → in_use row ≡ true → stands_at row < nodes tb
  unfolding row_in_range
  in_range_lem row e u =
      let q : (not (in_use row) || ltb (stands_at row) (nodes tb)) ≡ true = and_right (leb (status row) 2) _ e in
      ltb-true (stands_at row) (nodes tb) (rw u at q)

  -- the test of a row whose node is in range says that each of its slots is
  pub row_filled_iff : (row : List ℕ) → row_in_range tb row ≡ true → (slots_filled tb row ≡ true) ↔ FilledRow tb row
  unfolding slots_filled
  row_filled_iff row r = (
    λ e u k l. (slot_filled_iff row k (in_range_lem row r u) l).0 (every_elim (slot_filled tb row) row_slots k (rw u at e) l),
    λ f. case_b (in_use row)
        (λ u. rw (u, every_intro (slot_filled tb row) row_slots (λ k l. (slot_filled_iff row k (in_range_lem row r u) l).1 (f u k l))))
        (λ u. rw u),
  )

  -- the clause of soundness says that the slots of every row are
  pub filled_iff : (s : State) → every (λ t. row_in_range tb (thread s t)) max_threads ≡ true
      → (every (λ t. slots_filled tb (thread s t)) max_threads ≡ true) ↔ ((t : ℕ) → t < max_threads → FilledRow tb (thread s t))
  filled_iff s r =
      let range : (t : ℕ) → t < max_threads → row_in_range tb (thread s t) ≡ true = λ t l. every_elim (λ t. row_in_range tb (thread s t)) max_threads t r l in (
        λ e t l. (row_filled_iff (thread s t) (range t l)).0 (every_elim (λ t. slots_filled tb (thread s t)) max_threads t e l),
        λ f. every_intro (λ t. slots_filled tb (thread s t)) max_threads (λ t l. (row_filled_iff (thread s t) (range t l)).1 (f t l)),
      )

  -- in a sound state they are
  pub sound_filled : (s : State) → sound tb s ≡ true → (t : ℕ) → t < max_threads → FilledRow tb (thread s t)
  unfolding sound
  sound_filled s e = (filled_iff s (search parts depth 12)).0 (search parts depth 12)
