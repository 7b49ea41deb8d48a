-- The pass from slot to slot and from row to row, for whoever goes through the rows. Assumes nothing.
use Rattle.std.specs.Prelude.{ℕ, ◌+◌, ◌≤◌, ◌<◌, ◌≡◌, Bool, true, List, [], length, get_or, replicate}
use native.Mathlib.Omega.{arith}
use Rattle.std.proofs.Math.Numerals.{add-one}
use Rattle.std.proofs.Math.Path.{refl}
use Rattle.std.proofs.Common.{◌∙◌}
use Rattle.std.proofs.lemmas.List.{length-replicate}
use Rattle.numbers.specs.Count.{bit}
use Rattle.numbers.specs.Search.{tabulate}
use Rattle.table.specs.Table.{Table}
use Rattle.state.specs.State.{state_of, max_channels, status, in_use, is_waiting, max_threads}
use Rattle.state.specs.State.Laws.{length_threads}
use Rattle.rules.specs.Holding.{holders, waiters}
use Rattle.holding.specs.Own.{room, own_of, own_room, types_of}
use Rattle.holding.specs.Own.Laws.{room_used}
use Rattle.recount.specs.Tally.{added, added_to, row_added, added_below}
use Rattle.recount.specs.Tally.Laws.{length_added, length_added_to, holders_counted, waiters_counted}

-- ---- a row: its first k slots have been gone through

module _ (tb : Table) (row : List ℕ) (w : ℕ) (l : List ℕ) where
  pub slots_none : l ≡ added_to (own_of tb row) w l 0
  unfolding added_to
  slots_none = refl

  module _ (k : ℕ) (l₁ : List ℕ) (e : l₁ ≡ added_to (own_of tb row) w l k) where
    pub slots_more : (l₂ : List ℕ) → l₂ ≡ added l₁ (own_of tb row k) w → l₂ ≡ added_to (own_of tb row) w l (k + 1)
    unfolding added_to
    slots_more l₂ g = g ∙ rw (e, add-one k)

    pub slots_all : (n v : ℕ) → k ≤ n → n ≤ k → n ≡ own_room tb row → w ≡ v → l₁ ≡ row_added tb row v l
    unfolding row_added
    slots_all n v h i f g = let q : k ≡ own_room tb row = omega arith in rw (q, g) at e

-- a free row counts nowhere
pub free_counted : (tb : Table) (row : List ℕ) (w x : ℕ) (l : List ℕ) → x ≡ status row → x ≡ 0 → l ≡ row_added tb row w l
unfolding row_added added_to own_room room
free_counted tb row w x l e f = rw (← e, f)

pub still_long : (l m : List ℕ) (c w n : ℕ) → m ≡ added l c w → length l ≡ n → length m ≡ n
still_long l m c w n e f = rw e (length_added l c w ∙ f)

-- the types of the row's slots stand where they do for a row that is in use, as one with slots is
pub types_there : (tb : Table) (row : List ℕ) (from k n : ℕ) → (in_use row ≡ true → from ≡ types_of tb row) → n ≡ own_room tb row → k < n → from ≡ types_of tb row
types_there tb row from k n e f h = e (room_used tb row k (rw f at h)).0

-- ---- all rows

module _ (tb : Table) (ths : List (List ℕ)) (p : List ℕ → Bool) (l : List ℕ) where
  pub rows_none : l ≡ added_below tb p ths l 0
  unfolding added_below
  rows_none = refl

  pub rows_more : (l₁ l₂ : List ℕ) (t : ℕ) → l₁ ≡ added_below tb p ths l t → l₂ ≡ row_added tb (get_or ths t []) (bit (p (get_or ths t []))) l₁
      → l₂ ≡ added_below tb p ths l (t + 1)
  unfolding added_below
  rows_more l₁ l₂ t e f = f ∙ rw (e, add-one t)

-- every row counts once
pub rows_held : (tb : Table) (ths : List (List ℕ)) (l l₁ l₂ : List ℕ) (t : ℕ) → l₁ ≡ added_below tb (λ row. true) ths l t → l₂ ≡ row_added tb (get_or ths t []) 1 l₁
    → l₂ ≡ added_below tb (λ row. true) ths l (t + 1)
unfolding bit
rows_held tb ths l = rows_more tb ths (λ row. true) l

pub zeros_long : (l : List ℕ) → l ≡ replicate max_channels 0 → length l ≡ max_channels
zeros_long l e = rw e (length-replicate {A = ℕ} 128 0)

pub row_long : (tb : Table) (row l m : List ℕ) (w n : ℕ) → m ≡ row_added tb row w l → length l ≡ n → length m ≡ n
unfolding row_added
row_long tb row l m w n e f = rw e (length_added_to tb row w l (own_room tb row) ∙ f)

module _ (tb : Table) (b l z : List ℕ) (t : ℕ) (h : t ≤ max_threads) (i : max_threads ≤ t) (e : z ≡ replicate max_channels 0) where
  pub all_held_lem : l ≡ added_below tb (λ row. true) (state_of b).threads z t → l ≡ tabulate max_channels (holders tb (state_of b).threads)
  all_held_lem f = let q : t ≡ 64 = omega arith in f ∙ rw (e, q) (holders_counted tb (state_of b).threads (length_threads b))

  pub all_waiting : l ≡ added_below tb (λ row. is_waiting row) (state_of b).threads z t → l ≡ tabulate max_channels (waiters tb (state_of b).threads)
  all_waiting f = let q : t ≡ 64 = omega arith in f ∙ rw (e, q) (waiters_counted tb (state_of b).threads (length_threads b))
