-- A row's own channels are those that it holds, each at the first slot that has it. Assumes nothing.
use Rattle.std.specs.Prelude.{ℕ, suc, ◌+◌, ◌<◌, ◌≤◌, ◌≡◌, refl, Bool, false, cond, List, ltb, eqb, get_or}
use Rattle.std.proofs.Common.{arith, sym, ◌∙◌}
use Rattle.std.proofs.Math.Bool.{true}
use borrow.Author.Tests.{ltb-true, ltb-false, lt-ltb, le-ltb, eqb-true, eq-eqb, ne_eqb}
use Rattle.numbers.specs.Count.{bit}
use Rattle.numbers.specs.Search.{some}
use Rattle.numbers.specs.Tests.{parts}
use Rattle.numbers.specs.Search.Laws.{case_b, get_d_tabulate, some_zero, some_suc, some_more}
use Rattle.table.specs.Table.{Table, slot_count}
use Rattle.table.specs.Layout.{definition_of}
use Rattle.state.specs.State.{status, stands_at, slot_of, in_use, max_channels, row_slots}
use Rattle.rules.specs.Program.{channel_slot}
use Rattle.rules.specs.Holding.{has_at, holds}
use Rattle.holding.specs.Own.{room, own_of, own_list, own_room, holds_to}

-- ---- the slots of a row

module _ (tb : Table) (row : List ℕ) where
  abbrev slots_here : ℕ
  slots_here = slot_count tb (definition_of tb (stands_at row))

  pub room_le : own_room tb row ≤ row_slots
  unfolding own_room room
  room_le =
      case_b (eqb (status row) 0) (λ y. rw y (omega arith))
      (λ n. rw n (case_b (ltb slots_here 16) (λ a. rw a (omega (arith, ltb-true slots_here 16 a))) (λ b. rw b (omega arith))))

  pub room_used : (k : ℕ) → k < own_room tb row → (in_use row ≡ true) × (k < slots_here)
  unfolding own_room room
  room_used k h =
      case_b (eqb (status row) 0) (λ y. absurd (let q : k < 0 = rw y at h in omega arith))
      (λ n. (rw n, case_b (ltb slots_here 16) (λ a. rw (n, a) at h) (λ b. let q : k < 16 = rw (n, b) at h in omega (arith, ltb-false slots_here 16 b))))

  room_past : (k : ℕ) → own_room tb row ≤ k → k < row_slots → eqb (status row) 0 ≡ false → slots_here ≤ k
  unfolding own_room room
  room_past k h i n = case_b (ltb slots_here 16) (λ a. rw (n, a) at h) (λ b. absurd (let q : 16 ≤ k = rw (n, b) at h in omega arith))

  pub own_past : (k : ℕ) → own_room tb row ≤ k → k < row_slots → own_of tb row k ≡ max_channels
  unfolding own_of channel_slot
  own_past k h i =
      case_b (eqb (status row) 0) (λ y. rw y) (λ n. rw (n, le-ltb k slots_here (room_past k h i n)))

  pub own_at : (k : ℕ) → k < row_slots → get_or (own_list tb row) k 0 ≡ own_of tb row k
  unfolding own_list
  own_at k h = get_d_tabulate 16 k (own_of tb row) 0 h

-- ---- a channel is met at the first slot that has it, and there alone

-- the number 128 is no channel
no_channel : (c : ℕ) → c < max_channels → eqb max_channels c ≡ false
no_channel c h = ne_eqb 128 c (λ q. omega (arith, q, h))

-- of nested tests that end in v, none gives c where v is not c
not_here : (b₁ b₂ b₃ : Bool) (v c : ℕ) → c < max_channels → (b₁ ≡ true → eqb v c ≡ false)
    → eqb (cond b₁ (cond b₂ (cond b₃ max_channels v) max_channels) max_channels) c ≡ false
not_here false b₂ b₃ v c h e = no_channel c h
not_here true false b₃ v c h e = no_channel c h
not_here true true true v c h e = no_channel c h
not_here true true false v c h e = e refl

module _ (tb : Table) (row : List ℕ) (c : ℕ) (h : c < max_channels) where
  pub holds_none : holds_to tb row c 0 ≡ false
  unfolding holds_to
  holds_none = rw (some_zero (has_at tb row c)) (case_b (in_use row) (λ y. rw y) (λ n. rw n))

  module _ (k : ℕ) (u : in_use row ≡ true) where
    -- where slot k has c, it is the first to have c if no slot before has
    own_here : has_at tb row c k ≡ true → own_of tb row k ≡ cond (some (has_at tb row c) k) max_channels c
    unfolding has_at own_of
    own_here e =
        let y : channel_slot tb (definition_of tb (stands_at row)) k ≡ true = search parts in
        let q : slot_of row k ≡ c = eqb-true (slot_of row k) c (search parts) in
        rw (u, y, q, lt-ltb c 128 h)

    own_elsewhere : has_at tb row c k ≡ false → eqb (own_of tb row k) c ≡ false
    unfolding has_at own_of
    own_elsewhere e =
        rw u
        (not_here (channel_slot tb (definition_of tb (stands_at row)) k) (ltb (slot_of row k) 128) (some (has_at tb row (slot_of row k)) k) (slot_of row k) c h (λ y. rw y at e))

    own_used : eqb (own_of tb row k) c ≡ cond (some (has_at tb row c) k) false (has_at tb row c k)
    own_used =
        case_b (has_at tb row c k)
        (λ y. rw (y, own_here y) (case_b (some (has_at tb row c) k) (λ e. rw e (no_channel c h)) (λ e. rw e (eq-eqb c c refl))))
        (λ n. rw (n, own_elsewhere n) (case_b (some (has_at tb row c) k) (λ e. rw e) (λ e. rw e)))

  own_free : (k : ℕ) → in_use row ≡ false → own_of tb row k ≡ max_channels
  unfolding own_of
  own_free k u = rw u

  -- a channel that a slot before has is not met again, and one that is met is held from then on
  pub own_again : (k : ℕ) → holds_to tb row c k ≡ true → eqb (own_of tb row k) c ≡ false
  unfolding holds_to
  own_again k e =
      let u : in_use row ≡ true = search parts in
      let f : some (has_at tb row c) k ≡ true = search parts in
      rw (own_used k u, f)

  pub own_suc : (k : ℕ) → holds_to tb row c (suc k) ≡ cond (holds_to tb row c k) true (eqb (own_of tb row k) c)
  unfolding holds_to
  own_suc k =
      case_b (in_use row)
      (λ u. rw (u, some_suc (has_at tb row c) k, own_used k u) (case_b (some (has_at tb row c) k) (λ e. rw e) (λ e. rw e)))
      (λ n. rw (n, own_free k n) (sym (no_channel c h)))

  -- the entries of the list count a channel that is held once, and any other not at all
  pub own_counts : (k : ℕ) → bit (holds_to tb row c (suc k)) ≡ bit (holds_to tb row c k) + bit (eqb (own_of tb row k) c)
  unfolding bit
  own_counts k =
      rw (own_suc k) (case_b (holds_to tb row c k) (λ y. rw (y, own_again k y)) (λ n. rw n (omega arith)))

  -- ---- a row holds what its 16 slots hold, and what those of its definition do

  pub holds_all : holds_to tb row c row_slots ≡ holds tb row c
  unfolding holds_to holds
  holds_all = rw (lt-ltb c 128 h)

  past_own : (k : ℕ) → slot_count tb (definition_of tb (stands_at row)) ≤ k → has_at tb row c k ≡ false
  unfolding has_at channel_slot
  past_own k l = rw (le-ltb k (slot_count tb (definition_of tb (stands_at row))) l)

  pub holds_room : holds_to tb row c (own_room tb row) ≡ holds tb row c
  unfolding holds_to
  holds_room =
      case_b (eqb (status row) 0) (λ y. rw y)
      (λ n. rw n (sym (some_more (has_at tb row c) (own_room tb row) 16 (room_le tb row) (λ k i l. past_own k (room_past tb row k i l n)))))
      ∙ holds_all
