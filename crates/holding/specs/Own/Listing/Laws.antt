-- The list that the code writes is the list of the row's own channels. Assumes nothing.
use Prim.Native.Nat.{ℕ, zero, suc, ◌+◌, ◌<◌, ◌≤◌}
use native.Mathlib.Omega.{arith}
use Rattle.std.specs.Prelude.{◌≡◌, Bool, true, false, not, cond, ltb, length, get_or}
use Rattle.std.proofs.Math.Path.{refl, sym}
use Rattle.std.proofs.Common.{◌∙◌, get_or-set_same}
use mathlib.Core.List.{List}
use Rattle.std.proofs.Math.Dec.{eqb}
use Rattle.std.proofs.Math.ListN.{length-set, replicate, length-replicate}
use Rattle.std.proofs.Math.Seq.{get_or-set_other}
use borrow.Author.Tests.{eqb-true, eqb-false, ltb-true, ltb-false, lt-ltb}
use Rattle.numbers.specs.Search.{some}
use Rattle.numbers.specs.Search.Laws.{case_b, some_cong, some_zero, some_suc, is_tabulate}
use Rattle.table.specs.Table.{Table, slot_row, slot_count}
use Rattle.table.specs.Layout.{start, definition_of, slot_type}
use Rattle.table.specs.declared.Part.TheVariants.{Slots}
use Rattle.state.specs.State.{stands_at, slot_of, in_use, max_channels, row_slots}
use Rattle.rules.specs.Program.{channel_slot}
use Rattle.rules.specs.Holding.{has_at}
use Rattle.holding.specs.Own.{own_of, own_list, own_room, types_of, holds_to}
use Rattle.holding.specs.Own.Laws.{room_used, room_le, own_past, holds_none, own_suc}
use Rattle.holding.specs.Own.Listing.{listed, channel_by, own_by, listed_to}

-- the same tests in another order: v is what a slot has, p what is said of it, and b whether a slot before has it
same_tests : (v : ℕ) (number p b : Bool) → (number ≡ false → v < max_channels → p ≡ b)
    → cond p max_channels (cond (ltb v max_channels) (cond number max_channels v) max_channels) ≡ cond (not number) (cond (ltb v max_channels) (cond b max_channels v) max_channels) max_channels
same_tests v true true b e = refl
same_tests v true false b e = case_b (ltb v 128) (λ y. rw y) (λ z. rw z)
same_tests v false p b e = case_b (ltb v 128) (λ y. rw (y, e refl (ltb-true v 128 y))) (λ z. rw z (both p))
  where
    both : (p : Bool) → ◌≡◌ {A = ℕ} (cond p max_channels max_channels) max_channels
    both true = refl
    both false = refl

full_at : (n k : ℕ) → k < n → ◌≡◌ {A = ℕ} (get_or (replicate n max_channels) k 0) max_channels
full_at zero k h = absurd (omega arith)
full_at (suc n) zero h = refl
full_at (suc n) (suc k) h = full_at n k (omega arith)

module _ (tb : Table) (row : List ℕ) where
  -- the channels met by the first k slots are those that these slots hold
  met_holds : (c k : ℕ) → c < max_channels → some (λ i. eqb (own_of tb row i) c) k ≡ holds_to tb row c k
  met_holds c zero h = some_zero (λ i. eqb (own_of tb row i) c) ∙ sym (holds_none tb row c h)
  met_holds c (suc k) h = rw (some_suc (λ i. eqb (own_of tb row i) c) k, own_suc tb row c h k, met_holds c k h)

  module _ (from : ℕ) (e : in_use row ≡ true → from ≡ types_of tb row) where
    -- the channel in a slot, where p says whether a slot before has it
    pub own_first : (k : ℕ) (p : Bool) → k < own_room tb row
        → (channel_by tb from row k < max_channels → p ≡ holds_to tb row (channel_by tb from row k) k)
        → cond p max_channels (channel_by tb from row k) ≡ own_of tb row k
    unfolding channel_by own_of channel_slot holds_to types_of
    own_first k p h f =
        let d = definition_of tb (stands_at row) in
        let place : slot_row tb + start tb Slots d + k ≡ slot_row tb + (start tb Slots d + k) = omega arith in
        let (u, i) = room_used tb row k h in
        rw (e u, place, u, lt-ltb k (slot_count tb d) i)
        (same_tests (slot_of row k) (eqb (slot_type tb d k) 0) p (some (has_at tb row (slot_of row k)) k)
        (λ n g. let q : channel_by tb from row k ≡ slot_of row k = rw (e u, place, n, lt-ltb (slot_of row k) 128 g) in (rw (q, u) at f) g))

    -- one entry more, of a list that has the own channels of the slots before
    own_is : (l : List ℕ) (k : ℕ) → k < own_room tb row → ((i : ℕ) → i < k → get_or l i 0 ≡ own_of tb row i) → own_by tb from row l k ≡ own_of tb row k
    unfolding own_by listed
    own_is l k h before =
        let c = channel_by tb from row k in
        own_first k (listed l k c) h
        (λ g. some_cong (λ i. eqb (get_or l i 0) c) (λ i. eqb (own_of tb row i) c) k (λ i j. rw (before i j)) ∙ met_holds c k g)

    length_listed_to : (l : List ℕ) (k : ℕ) → length (listed_to tb from row l k) ≡ length l
    unfolding listed_to
    length_listed_to l zero = refl
    length_listed_to l (suc k) = length-set (listed_to tb from row l k) k (own_by tb from row (listed_to tb from row l k) k) ∙ length_listed_to l k

    list_done : (l : List ℕ) (k i : ℕ) → k ≤ length l → k ≤ own_room tb row → i < k → get_or (listed_to tb from row l k) i 0 ≡ own_of tb row i
    unfolding listed_to
    list_done l zero i j m h = absurd (omega arith)
    list_done l (suc k) i j m h =
        let p = listed_to tb from row l k in
        case_b (eqb i k)
        (λ y. let q : i ≡ k = eqb-true i k y in
        rw q (get_or-set_same p k (own_by tb from row p k) 0 (omega (arith, length_listed_to l k, j)) ∙ own_is p k (omega arith) (λ x g. list_done l k x (omega arith) (omega arith) g)))
        (λ z. let d = eqb-false i k z in get_or-set_other p k i (own_by tb from row p k) 0 d ∙ list_done l k i (omega arith) (omega arith) (omega (arith, d, h)))

    untouched : (l : List ℕ) (k i : ℕ) → k ≤ i → get_or (listed_to tb from row l k) i 0 ≡ get_or l i 0
    unfolding listed_to
    untouched l zero i h = refl
    untouched l (suc k) i h =
        get_or-set_other (listed_to tb from row l k) k i (own_by tb from row (listed_to tb from row l k) k) 0 (λ q. omega arith) ∙ untouched l k i (omega arith)

    -- past the row's slots the list has no channel, and need not be written
    pub listed_own : listed_to tb from row (replicate row_slots max_channels) (own_room tb row) ≡ own_list tb row
    unfolding own_list
    listed_own =
        let none : List ℕ = replicate 16 128 in
        let n = own_room tb row in
        is_tabulate (listed_to tb from row none n) 16 (own_of tb row) 0 (length_listed_to none n ∙ length-replicate {A = ℕ} 16 128)
        (λ i h. case_b (ltb i n)
        (λ y. list_done none n i (omega (arith, room_le tb row, length-replicate {A = ℕ} 16 128)) (omega arith) (ltb-true i n y))
        (λ z. untouched none n i (ltb-false i n z) ∙ full_at 16 i h ∙ sym (own_past tb row i (ltb-false i n z) h)))
