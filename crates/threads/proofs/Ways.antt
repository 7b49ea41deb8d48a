-- One law for each way out of the functions. Assumes nothing.
use Rattle.rules.specs.declared.Direction.{Direction}
use Rattle.std.specs.Prelude.{None, Option, Some}
use Prim.Native.Nat.{ℕ, ◌+◌, ◌<◌, ◌≤◌}
use native.Mathlib.Omega.{arith}
use mathlib.Core.Path.{◌≡◌, refl, sym, ◌∙◌, ap}
use mathlib.Core.Bool.{Bool, true, false, ◌&&◌, ◌||◌}
use mathlib.Core.List.{List}
use lib.ListN.{length}
use borrow.Author.Tests.{eq-eqb, ne_eqb}
use Rattle.numbers.specs.Count.{bit}
use Rattle.numbers.specs.Search.{some}
use Rattle.table.specs.Table.{Table, branch_row}
use Rattle.table.specs.Layout.{start, branch_count}
use Rattle.table.specs.declared.Part.TheVariants.{Branches}
use Rattle.state.specs.State.{max_channels, max_threads, row_slots, State, state_of, thread, status, stands_at, slot_of, is_waiting, with_thread}
use Rattle.state.specs.State.Laws.{length_threads}
use Rattle.rules.specs.Program.{branch_at, field_a}
use Rattle.rules.specs.Holding.{settled}
use Rattle.rules.specs.Start.{free_row}
use Rattle.rules.specs.Offers.{offers_in}
use Rattle.rules.specs.declared.Direction.TheVariants.{Out, In}
use Rattle.offers.specs.Offer.{offer_on}
use Rattle.offers.specs.Offer.Laws.{same_self, offer_nothing, offer_of_lem}
use Rattle.holding.specs.Own.{own_list}
use Rattle.upkeep.specs.Shift.{settled_one}
use Rattle.upkeep.specs.Upkeep.{one_settled, settled_again}
use Rattle.threads.specs.Threads.{offers_marked, with_held}
use Rattle.threads.specs.Threads.Laws.{this_way}
use Rattle.threads.specs.Looking.{raised_to, is_marked, reaches_by, reaches_at}
use Rattle.threads.specs.Looking.Laws.{raised_held, reaches_is, offers_nothing}

-- reaches_by: a branch offers in one direction or the other, if it offers anything
abbrev pub any_offer : Option Direction → Bool
any_offer None = false
any_offer (Some d) = true

module _ (tb : Table) (row : List ℕ) (k : List Bool) (r : ℕ) where
  in_either : (c : ℕ) (v : Option Direction) → v ≡ offer_on tb row c r → (offers_in tb row Out c r || offers_in tb row In c r) ≡ any_offer v
  in_either c None e = rw (offer_nothing tb row c r None e refl Out, offer_nothing tb row c r None e refl In)
  in_either c (Some d) e = this_way (λ o. offers_in tb row o c r) d (offer_of_lem tb row c r (Some d) e d d refl ∙ same_self d)

  pub reaches_is_offer : reaches_by tb row k r ≡ (is_marked k (slot_of row (field_a tb r)) && any_offer (offer_on tb row (slot_of row (field_a tb r)) r))
  unfolding reaches_by
  reaches_is_offer = ap (λ (x : Bool). is_marked k (slot_of row (field_a tb r)) && x) (in_either (slot_of row (field_a tb r)) (offer_on tb row (slot_of row (field_a tb r)) r) refl)

-- offers_marked: the branches of the node at which the row stands begin at the row b of the table
module _ (tb : Table) (row : List ℕ) (k : List Bool) (b n i : ℕ) (p : n ≡ stands_at row) (q : b ≡ branch_row tb + start tb Branches n) where
  row_is : b + i ≡ branch_at tb (stands_at row) i
  unfolding branch_at
  row_is = rw (← p) (omega arith)

  pub reaches_there : (r : Bool) → r ≡ reaches_by tb row k (b + i) → r ≡ reaches_at tb row k i
  unfolding reaches_at
  reaches_there r e = e ∙ rw row_is

-- y is the status of the thread
module _ (tb : Table) (row : List ℕ) (k : List Bool) (y : ℕ) (s : y ≡ status row) where
  pub not_waiting : (y ≡ 2 → ⊥) → false ≡ offers_marked tb row k
  not_waiting n = offers_nothing tb row k (ne_eqb (status row) 2 (λ q. n (s ∙ q)))

  module _ (w : y ≡ 2) where
    waits : is_waiting row ≡ true
    waits = eq-eqb (status row) 2 (sym s ∙ w)

    pub offers_here : (node n : ℕ) (r : Bool) → r ≡ some (reaches_at tb row k) n → n ≡ branch_count tb node → node ≡ stands_at row → r ≡ offers_marked tb row k
    offers_here node n r h e f = h ∙ rw (e, f) (reaches_is tb row k waits)

-- mark_held
pub held_marked : (tb : Table) (row : List ℕ) (k k₁ : List Bool) (l : List ℕ) (i : ℕ) → k₁ ≡ raised_to k l i → l ≡ own_list tb row → length k ≡ max_channels
    → i ≤ row_slots → row_slots ≤ i
    → k₁ ≡ with_held tb row k
held_marked tb row k k₁ l i e f h a b = let q : i ≡ 16 = omega arith in e ∙ rw (q, f) (raised_held tb row k h)

-- release
module _ (tb : Table) (b : List ℕ) (t : ℕ) (s₁ s₂ : State) (l : List ℕ) (w : ℕ) (e : s₂ ≡ settled_one tb s₁ t l w) (f : s₁ ≡ with_thread (state_of b) t free_row)
    (g : l ≡ own_list tb (thread (state_of b) t)) (h : w ≡ bit (is_waiting (thread (state_of b) t))) (i : settled tb (state_of b) ≡ state_of b) (j : t < max_threads) where
  pub released : s₂ ≡ settled tb (with_thread (state_of b) t free_row)
  released = e ∙ rw (f, g, h) (one_settled tb (state_of b) (length_threads b) i t j free_row)

  pub released_settled : settled tb s₂ ≡ s₂
  released_settled = rw released (settled_again tb (with_thread (state_of b) t free_row))
