-- What entering a row and leaving it mean for the counts. Assumes nothing.
use Prim.Native.Nat.{ℕ, zero, suc, ◌+◌, ◌-◌, ◌%◌, ◌<◌, ◌≤◌}
use native.Mathlib.Omega.{arith}
use Rattle.std.proofs.Common.{add-one, sym, ◌∙◌, get_or-set_same}
use Rattle.std.specs.Prelude.{◌≡◌, refl, Bool, true, false, ◌&&◌, cond, eqb}
use mathlib.Core.List.{List, [], ◌∷◌}
use Rattle.std.proofs.Math.ListN.{length, get_or, length-set}
use Rattle.std.proofs.Math.Seq.{get_or-set_other}
use borrow.Author.Tests.{eqb-true, eqb-false}
use Rattle.numbers.specs.Count.{bit}
use Rattle.numbers.specs.Count.Laws.{bit_le}
use Rattle.numbers.specs.Rows.{at}
use Rattle.numbers.specs.Search.Laws.{case_b}
use Rattle.numbers.specs.Signed.{sum, difference}
use Rattle.table.specs.Table.{Table}
use Rattle.state.specs.State.{minus_one, row_slots, is_waiting, max_channels}
use Rattle.rules.specs.Holding.{holds, channel_row}
use Rattle.holding.specs.Own.{own_of, own_list, own_room, holds_to}
use Rattle.holding.specs.Own.Laws.{room_le, own_at, holds_none, own_again, own_suc, holds_all, holds_room}
use Rattle.upkeep.specs.Shift.{shift_row, shift_to}

-- each channel row says a type, a count and a count of waiting holders
abbrev pub Raw : List (List ℕ) → (ℕ → ℕ) → (ℕ → ℕ) → (ℕ → ℕ) → Type 0
Raw chs ty n w = (length chs ≡ 128) × ((c : ℕ) → c < 128 → get_or chs c [] ≡ ty c ∷ n c ∷ w c ∷ [])

-- each channel row says so, and is free where its count is 0
abbrev pub Settled : List (List ℕ) → (ℕ → ℕ) → (ℕ → ℕ) → (ℕ → ℕ) → Type 0
Settled chs ty n w = (length chs ≡ 128) × ((c : ℕ) → c < 128 → get_or chs c [] ≡ channel_row (ty c) (n c) (w c))

-- the row of channel c, shifted
abbrev row_shifted : List (List ℕ) → ℕ → ℕ → ℕ → List ℕ
row_shifted chs c dn dw = channel_row (at chs c 0) (sum (at chs c 1) dn) (sum (at chs c 2) dw)

module _ (chs : List (List ℕ)) (v dn dw : ℕ) where
  length_shift_row : length (shift_row chs v dn dw) ≡ length chs
  unfolding shift_row
  length_shift_row = length-set chs v (row_shifted chs v dn dw)

  shift_same : (c : ℕ) → c < length chs → eqb v c ≡ true → get_or (shift_row chs v dn dw) c [] ≡ row_shifted chs c dn dw
  unfolding shift_row
  shift_same c h e = let q : v ≡ c = eqb-true v c e in rw q (get_or-set_same chs c (row_shifted chs c dn dw) [] h)

  shift_other : (c : ℕ) → eqb v c ≡ false → get_or (shift_row chs v dn dw) c [] ≡ get_or chs c []
  unfolding shift_row
  shift_other c e = get_or-set_other chs v c (row_shifted chs v dn dw) [] (λ q. eqb-false v c e (sym q))

module _ (tb : Table) (row : List ℕ) (dn dw : ℕ) (chs : List (List ℕ)) (long : length chs ≡ max_channels) where
  length_shift_to : (k : ℕ) → length (shift_to (own_list tb row) dn dw chs k) ≡ max_channels
  unfolding shift_to
  length_shift_to zero = long
  length_shift_to (suc k) = length_shift_row (shift_to (own_list tb row) dn dw chs k) (get_or (own_list tb row) k 0) dn dw ∙ length_shift_to k

  -- a channel is touched once at most
  shift_law : (c k : ℕ) → c < max_channels → k ≤ row_slots
      → get_or (shift_to (own_list tb row) dn dw chs k) c [] ≡ cond (holds_to tb row c k) (row_shifted chs c dn dw) (get_or chs c [])
  unfolding shift_to
  shift_law c zero h l = rw (holds_none tb row c h)
  shift_law c (suc k) h l =
      let m = shift_law c k h (omega arith) in
      let prev = shift_to (own_list tb row) dn dw chs k in
      let len : c < length prev = omega (arith, length_shift_to k, h) in
      rw (own_at tb row k l, own_suc tb row c h k)
      (case_b (holds_to tb row c k)
      (λ y. rw y (shift_other prev (own_of tb row k) dn dw c (own_again tb row c h k y) ∙ (rw y at m)))
      (λ n. let same : get_or prev c [] ≡ get_or chs c [] = rw n at m in
      rw n (case_b (eqb (own_of tb row k) c)
      (λ e. rw e (shift_same prev (own_of tb row k) dn dw c len e ∙ rw same))
      (λ e. rw e (shift_other prev (own_of tb row k) dn dw c e ∙ same)))))

  -- the slots of the row's definition shift the channels that the row holds and no other; the whole list does no more
  room_shifted : (c : ℕ) → c < max_channels
      → get_or (shift_to (own_list tb row) dn dw chs (own_room tb row)) c [] ≡ cond (holds tb row c) (row_shifted chs c dn dw) (get_or chs c [])
  room_shifted c h = rw (← holds_room tb row c h) (shift_law c (own_room tb row) h (room_le tb row))

  list_shifted : (c : ℕ) → c < max_channels
      → get_or (shift_to (own_list tb row) dn dw chs row_slots) c [] ≡ cond (holds tb row c) (row_shifted chs c dn dw) (get_or chs c [])
  list_shifted c h = rw (← holds_all tb row c h) (shift_law c 16 h (omega arith))

-- ---- one channel row, in plain numbers

enter_row : (ty n w : ℕ) (u : Bool) → n < 1000 → w < 1000 → channel_row ty (sum n 1) (sum w (bit u)) ≡ ty ∷ (n + 1) ∷ (w + bit u) ∷ []
unfolding channel_row sum
enter_row ty n w u h j =
    let e : (n + 1) % 4294967296 ≡ suc n = omega arith in
    let f : (w + bit u) % 4294967296 ≡ w + bit u = omega (arith, bit_le u) in
    rw (e, f, add-one n)

leave_row : (ty N W n w : ℕ) (u : Bool) (r : List ℕ) → r ≡ channel_row ty N W → N ≡ n + 1 → W ≡ w + bit u → N < 1000 → W < 1000
    → channel_row (get_or r 0 0) (sum (get_or r 1 0) minus_one) (sum (get_or r 2 0) (difference 0 (bit u))) ≡ channel_row ty n w
unfolding channel_row sum difference
leave_row ty N W n w u r e f g h j =
    let m : N ≡ suc n = omega arith in
    let q : r ≡ ty ∷ suc n ∷ W ∷ [] = e ∙ rw m in
    let a : (suc n + 4294967295) % 4294967296 ≡ n = omega arith in
    let b : (W + (0 + (4294967296 - bit u)) % 4294967296) % 4294967296 ≡ w = omega (arith, bit_le u) in
    rw (q, a, b)

weigh_sums : (n w W dw : ℕ) (u v : Bool) → sum (bit v) dw ≡ bit u → W + bit v ≡ w + bit u → n < 1000 → w < 1000 → (sum n 0 ≡ n) × (sum w dw ≡ W)
unfolding sum
weigh_sums n w W dw u v e f h j = (omega arith, omega (arith, bit_le u, bit_le v))

bit_both : (u h : Bool) → h ≡ true → bit (u && h) ≡ bit u
bit_both true h e = rw e
bit_both false h e = refl

bit_neither : (u h : Bool) → h ≡ false → bit (u && h) ≡ 0
unfolding bit
bit_neither true h e = rw e
bit_neither false h e = refl

free_row_lem : (ty n w : ℕ) → (n ≡ 0 → (ty ≡ 0) × (w ≡ 0)) → ty ∷ n ∷ w ∷ [] ≡ channel_row ty n w
unfolding channel_row
free_row_lem ty zero w f = let (a, b) = f refl in rw (a, b)
free_row_lem ty (suc n) w f = refl

-- ---- all channel rows

-- the channel rows once a thread's row is entered, and once it is left
abbrev pub entering : Table → List ℕ → List (List ℕ) → List (List ℕ)
entering tb row chs = shift_to (own_list tb row) 1 (bit (is_waiting row)) chs (own_room tb row)

abbrev pub leaving : Table → List ℕ → List (List ℕ) → List (List ℕ)
leaving tb row chs = shift_to (own_list tb row) minus_one (difference 0 (bit (is_waiting row))) chs row_slots

-- and once it adds dw more to the counts of waiting holders
abbrev pub weighing : Table → List ℕ → ℕ → List (List ℕ) → List (List ℕ)
weighing tb row dw chs = shift_to (own_list tb row) 0 dw chs (own_room tb row)

-- no count comes near the end of the 32-bit numbers
abbrev pub Low : (ℕ → ℕ) → (ℕ → ℕ) → Type 0
Low n w = (c : ℕ) → c < 128 → (n c < 1000) × (w c < 1000)

module _ (chs : List (List ℕ)) (ty n w : ℕ → ℕ) where
  pub enter_law : (tb : Table) (row : List ℕ) → Raw chs ty n w → Low n w
      → Raw (entering tb row chs) ty (λ c. n c + bit (holds tb row c)) (λ c. w c + bit (is_waiting row && holds tb row c))
  unfolding bit
  enter_law tb row (long, raw) low = (
    length_shift_to tb row 1 (bit (is_waiting row)) chs long (own_room tb row),
    λ c h.
        room_shifted tb row 1 (bit (is_waiting row)) chs long c h ∙ rw (raw c h) (case_b (holds tb row c)
        (λ y. let (a, b) = low c h in rw (bit_both (is_waiting row) (holds tb row c) y, y) (enter_row (ty c) (n c) (w c) (is_waiting row) a b))
        (λ z. let a : n c + 0 ≡ n c = omega arith in let b : w c + 0 ≡ w c = omega arith in rw (bit_neither (is_waiting row) (holds tb row c) z, z, a, b))),
  )

  -- rows whose type is 0 where nobody holds them are settled
  pub settle : Raw chs ty n w → ((c : ℕ) → c < max_channels → n c ≡ 0 → (ty c ≡ 0) × (w c ≡ 0)) → Settled chs ty n w
  settle (long, raw) free = (long, λ c h. raw c h ∙ free_row_lem (ty c) (n c) (w c) (free c h))

  -- moved by 0, a row keeps its counts, and is freed where nobody holds it
  pub freed_law : (x : ℕ) → Raw chs ty n w → Low n w → ((c : ℕ) → c < max_channels → eqb x c ≡ false → n c ≡ 0 → (ty c ≡ 0) × (w c ≡ 0))
      → Settled (shift_row chs x 0 0) ty n w
  unfolding sum
  freed_law x (long, raw) low free = (
    length_shift_row chs x 0 0 ∙ long,
    λ c h. case_b (eqb x c)
        (λ y. let (a, b) = low c h in
        let p : (n c + 0) % 4294967296 ≡ n c = omega arith in
        let q : (w c + 0) % 4294967296 ≡ w c = omega arith in
        shift_same chs x 0 0 c (omega arith) y ∙ rw (raw c h, p, q))
        (λ z. shift_other chs x 0 0 c z ∙ raw c h ∙ free_row_lem (ty c) (n c) (w c) (free c h z)),
  )

  -- a row in place of one that held the same and waited where v is true adds dw more to the counts of waiting holders
  pub weigh_law : (tb : Table) (row : List ℕ) (dw : ℕ) (v : Bool) (N W : ℕ → ℕ) → sum (bit v) dw ≡ bit (is_waiting row) → Raw chs ty n w → Low n w
      → ((c : ℕ) → c < max_channels → n c ≡ 0 → (ty c ≡ 0) × (w c ≡ 0))
      → ((c : ℕ) → c < max_channels → (N c ≡ n c) × (W c + bit (v && holds tb row c) ≡ w c + bit (is_waiting row && holds tb row c)))
      → Settled (weighing tb row dw chs) ty N W
  unfolding bit
  weigh_law tb row dw v N W e (long, raw) low free more = (
    length_shift_to tb row 0 dw chs long (own_room tb row),
    λ c h.
        let (a, b) = low c h in let (p, q) = more c h in
        room_shifted tb row 0 dw chs long c h ∙ rw (raw c h, p) (case_b (holds tb row c)
        (λ y. let q' : W c + bit v ≡ w c + bit (is_waiting row) = rw (bit_both v (holds tb row c) y, bit_both (is_waiting row) (holds tb row c) y) at q in
        let (x, k) = weigh_sums (n c) (w c) (W c) dw (is_waiting row) v e q' a b in
        rw (y, x, k))
        (λ z. let q' : W c + 0 ≡ w c + 0 = rw (bit_neither v (holds tb row c) z, bit_neither (is_waiting row) (holds tb row c) z) at q in
        let same : W c ≡ w c = omega arith in
        rw (z, same) (free_row_lem (ty c) (n c) (w c) (free c h)))),
  )

  pub leave_law : (tb : Table) (row : List ℕ) (N W : ℕ → ℕ) → Settled chs ty N W
      → ((c : ℕ) → c < max_channels → (N c ≡ n c + bit (holds tb row c)) × (W c ≡ w c + bit (is_waiting row && holds tb row c)))
      → Low N W → Settled (leaving tb row chs) ty n w
  unfolding bit
  leave_law tb row N W (long, says) more low = (
    length_shift_to tb row minus_one (difference 0 (bit (is_waiting row))) chs long row_slots,
    λ c h.
        list_shifted tb row minus_one (difference 0 (bit (is_waiting row))) chs long c h ∙ case_b (holds tb row c)
        (λ y. let (a, b) = low c h in let (p, q) = more c h in
        let p' : N c ≡ n c + 1 = rw y at p in
        let q' : W c ≡ w c + bit (is_waiting row) = rw (bit_both (is_waiting row) (holds tb row c) y) at q in
        rw y (leave_row (ty c) (N c) (W c) (n c) (w c) (is_waiting row) (get_or chs c []) (says c h) p' q' a b))
        (λ z. let (p, q) = more c h in
        let p' : N c ≡ n c + 0 = rw z at p in
        let q' : W c ≡ w c + 0 = rw (bit_neither (is_waiting row) (holds tb row c) z) at q in
        let a : N c ≡ n c = omega arith in let b : W c ≡ w c = omega arith in
        rw z (says c h ∙ rw (a, b))),
  )
