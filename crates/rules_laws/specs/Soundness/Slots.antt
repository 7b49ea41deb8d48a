-- The tests of a thread's row, as a sound state is asked for them, and what the records say of the row are the same. Assumes nothing.
use Rattle.std.specs.Prelude.{ℕ, ◌<◌, ◌≤◌, ◌≡◌, refl, Bool, false, not, ◌&&◌, ◌||◌, List, ◌⊎◌, ◌≢◌, length, get_or}
use Rattle.std.proofs.Common.{arith, sym, ◌∙◌, inl, inr}
use Rattle.std.proofs.Math.Bool.{true}
use Rattle.std.proofs.Math.Dec.{ltb, eqb}
use Rattle.std.proofs.lemmas.List.{get_or-replicate}
use borrow.Author.Tests.{ltb-true, ltb-false, leb-true, eqb-true, eqb-false, lt-ltb, le-ltb, le-leb, eq-eqb, ne_eqb, not-true, not-false}
use Rattle.numbers.specs.Search.{every}
use Rattle.numbers.specs.Search.Laws.{case_b, contra, every_elim, every_intro, is_tabulate}
use Rattle.numbers.specs.Tests.{parts}
use Rattle.table.specs.Table.{Table, nodes, slot_count}
use Rattle.table.specs.Layout.{definition_of, slot_type}
use Rattle.flow.specs.Flow.{may_lack}
use Rattle.state.specs.State.{State, max_channels, thread_words, row_slots, minus_one, status, stands_at, slot_of, in_use, is_ready, is_waiting, type_in}
use Rattle.rules.specs.Program.{channel_slot}
use Rattle.rules.specs.Start.{free_row}
use Rattle.rules.specs.Sound.{free_zero, row_in_range, spare_zero, slot_typed, slots_typed, slot_filled, slots_filled}
use Rattle.rules_laws.specs.Soundness.{SlotSound, spare, number, unfilled, filled, RowSound}

-- ---- one slot

module _ (tb : Table) (d k : ℕ) where
  channel_yes : k < slot_count tb d → slot_type tb d k ≢ 0 → channel_slot tb d k ≡ true
  unfolding channel_slot
  channel_yes l z = rw (lt-ltb k (slot_count tb d) l, ne_eqb (slot_type tb d k) 0 z)

  channel_past : slot_count tb d ≤ k → channel_slot tb d k ≡ false
  unfolding channel_slot
  channel_past l = rw (le-ltb k (slot_count tb d) l)

  channel_number : slot_type tb d k ≡ 0 → channel_slot tb d k ≡ false
  unfolding channel_slot
  channel_number z = rw z (case_b (ltb k (slot_count tb d)) (λ t. rw t) (λ f. rw f))

-- the number v in slot k at node n
module _ (tb : Table) (ty : ℕ → ℕ) (n k v : ℕ) where
  abbrev own : ℕ
  own = slot_count tb (definition_of tb n)

  abbrev type : ℕ
  type = slot_type tb (definition_of tb n) k

  abbrev is_channel : Bool
  is_channel = channel_slot tb (definition_of tb n) k

  -- it is 0 past the definition's slots; in a channel slot it is -1, or a channel of the slot's type; it is not -1 where every path writes the slot
  abbrev spare_test : Bool
  spare_test = ltb k own || eqb v 0

  abbrev type_test : Bool
  type_test = not is_channel || (eqb v minus_one || (ltb v max_channels && eqb (ty v) type))

  abbrev fill_test : Bool
  fill_test = not is_channel || (may_lack tb n k || not (eqb v minus_one))

  channel_elim : k < own → type ≢ 0 → type_test ≡ true → fill_test ≡ true → SlotSound tb ty n k v
  channel_elim l z f g =
      let c : is_channel ≡ true = channel_yes tb (definition_of tb n) k l z in
      case_b (eqb v minus_one)
      (λ e. case_b (may_lack tb n k) (λ m. unfilled l z m (eqb-true v minus_one e)) (λ m. contra g (rw (c, m, e))))
      (λ e. let h : (ltb v max_channels && eqb (ty v) type) ≡ true = rw (c, e) at f in
      filled l z (ltb-true v max_channels (search parts)) (eqb-true (ty v) type (search parts)))

  slot_elim : spare_test ≡ true → type_test ≡ true → fill_test ≡ true → SlotSound tb ty n k v
  slot_elim h f g =
      case_b (ltb k own)
      (λ a. case_b (eqb type 0) (λ b. number (ltb-true k own a) (eqb-true type 0 b)) (λ b. channel_elim (ltb-true k own a) (eqb-false type 0 b) f g))
      (λ a. spare (ltb-false k own a) (eqb-true v 0 (rw a at h)))

  spare_intro : SlotSound tb ty n k v → spare_test ≡ true
  spare_intro (spare a e) = rw (le-ltb k own a, e)
  spare_intro (number a z) = rw (lt-ltb k own a)
  spare_intro (unfilled a z m e) = rw (lt-ltb k own a)
  spare_intro (filled a z l e) = rw (lt-ltb k own a)

  type_intro : SlotSound tb ty n k v → type_test ≡ true
  type_intro (spare a e) = rw (channel_past tb (definition_of tb n) k a)
  type_intro (number a z) = rw (channel_number tb (definition_of tb n) k z)
  type_intro (unfilled a z m e) = rw (channel_yes tb (definition_of tb n) k a z, eq-eqb v minus_one e)
  type_intro (filled a z l e) =
      rw (channel_yes tb (definition_of tb n) k a z, ne_eqb v minus_one (λ q. absurd (omega arith)), lt-ltb v max_channels l, eq-eqb (ty v) type e)

  fill_intro : SlotSound tb ty n k v → fill_test ≡ true
  fill_intro (spare a e) = rw (channel_past tb (definition_of tb n) k a)
  fill_intro (number a z) = rw (channel_number tb (definition_of tb n) k z)
  fill_intro (unfilled a z m e) = rw (channel_yes tb (definition_of tb n) k a z, m)
  fill_intro (filled a z l e) =
      rw (channel_yes tb (definition_of tb n) k a z, ne_eqb v minus_one (λ q. absurd (omega arith)))
      (case_b (may_lack tb n k) (λ t. rw t) (λ f. rw f))

-- ---- one row

-- a row of nothing but 0 is the free row
all_zero : (row : List ℕ) → length row ≡ thread_words → ((k : ℕ) → k < thread_words → get_or row k 0 ≡ 0) → row ≡ free_row
all_zero row l h =
    is_tabulate row 18 (λ k. 0) 0 l h ∙ sym (is_tabulate free_row 18 (λ k. 0) 0 refl (λ k j. get_or-replicate {A = ℕ} 18 k 0 0 j))

one_or_two : (row : List ℕ) → in_use row ≡ true → status row ≤ 2 → (is_ready row ≡ true) ⊎ (is_waiting row ≡ true)
one_or_two row u h =
    let z = eqb-false (status row) 0 (not-true (eqb (status row) 0) u) in
    case_b (is_ready row)
    (λ t. inl t)
    (λ f. inr (eq-eqb (status row) 2 (omega (arith, z, eqb-false (status row) 1 f))))

at_most_two : (row : List ℕ) → (is_ready row ≡ true) ⊎ (is_waiting row ≡ true) → status row ≤ 2
at_most_two row (inl e) = omega (arith, eqb-true (status row) 1 e)
at_most_two row (inr e) = omega (arith, eqb-true (status row) 2 e)

module _ (tb : Table) (s : State) (row : List ℕ) where
  -- the row passes each of the tests that ask one row alone
  pub record Tested : Type 0 where
    pub in_range_lem : row_in_range tb row ≡ true
    pub free_zero_lem : free_zero row ≡ true
    pub spare_zero_lem : spare_zero tb row ≡ true
    pub typed : slots_typed tb s row ≡ true
    pub filled_in : slots_filled tb row ≡ true

  -- then it is as a sound row is
  module _ (t : Tested) where
    pub tested_free : length row ≡ thread_words → in_use row ≡ false → row ≡ free_row
    unfolding free_zero
    tested_free l f =
        let h : every (λ k. eqb (get_or row k 0) 0) thread_words ≡ true = rw f at t.free_zero_lem in
        all_zero row l (λ k j. eqb-true (get_or row k 0) 0 (every_elim (λ k. eqb (get_or row k 0) 0) thread_words k h j))

    pub tested_status : in_use row ≡ true → (is_ready row ≡ true) ⊎ (is_waiting row ≡ true)
    unfolding row_in_range
    tested_status u = let h = t.in_range_lem in one_or_two row u (leb-true (status row) 2 (search parts))

    pub tested_node : in_use row ≡ true → stands_at row < nodes tb
    unfolding row_in_range
    tested_node u =
        let e = t.in_range_lem in
        let h : (not (in_use row) || ltb (stands_at row) (nodes tb)) ≡ true = search parts in
        ltb-true (stands_at row) (nodes tb) (rw u at h)

    pub tested_slot : in_use row ≡ true → (k : ℕ) → k < row_slots → SlotSound tb (type_in s) (stands_at row) k (slot_of row k)
    unfolding spare_zero slots_typed slot_typed slots_filled slot_filled
    tested_slot u k l =
        let n = stands_at row in
        let v = slot_of row in
        slot_elim tb (type_in s) n k (v k)
        (every_elim (λ i. spare_test tb (type_in s) n i (v i)) row_slots k (rw u at t.spare_zero_lem) l)
        (every_elim (λ i. type_test tb (type_in s) n i (v i)) row_slots k (rw u at t.typed) l)
        (every_elim (λ i. fill_test tb (type_in s) n i (v i)) row_slots k (rw u at t.filled_in) l)

  -- a sound row passes each of the tests that ask one row alone
  module _ (r : RowSound tb (type_in s) row) where
    in_range_intro : row_in_range tb row ≡ true
    unfolding row_in_range
    in_range_intro =
        case_b (in_use row)
        (λ u. rw (le-leb (status row) 2 (at_most_two row (r.ready_or_waits u)), u, lt-ltb (stands_at row) (nodes tb) (r.node_in u)))
        (λ f. rw (le-leb (status row) 2 (omega (arith, eqb-true (status row) 0 (not-false (eqb (status row) 0) f))), f))

    free_zero_intro : free_zero row ≡ true
    unfolding free_zero
    free_zero_intro =
        case_b (in_use row) (λ u. rw u)
        (λ f. rw f (every_intro (λ k. eqb (get_or row k 0) 0) thread_words (λ k l. rw (r.free f) (rw (get_or-replicate {A = ℕ} 18 k 0 0 l)))))

    pub row_tested : Tested
    unfolding spare_zero slots_typed slot_typed slots_filled slot_filled
    row_tested =
        let n = stands_at row in
        let v = slot_of row in record {
          in_range_lem = in_range_intro;
          free_zero_lem = free_zero_intro;
          spare_zero_lem = case_b (in_use row)
              (λ u. rw u (every_intro (λ i. spare_test tb (type_in s) n i (v i)) row_slots (λ k l. spare_intro tb (type_in s) n k (v k) (r.slots u k l))))
              (λ f. rw f);
          typed = case_b (in_use row)
              (λ u. rw u (every_intro (λ i. type_test tb (type_in s) n i (v i)) row_slots (λ k l. type_intro tb (type_in s) n k (v k) (r.slots u k l))))
              (λ f. rw f);
          filled_in = case_b (in_use row)
              (λ u. rw u (every_intro (λ i. fill_test tb (type_in s) n i (v i)) row_slots (λ k l. fill_intro tb (type_in s) n k (v k) (r.slots u k l))))
              (λ f. rw f);
        }
