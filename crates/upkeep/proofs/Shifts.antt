-- One law for each way out of the functions that move the counts. Assumes nothing.
use Prim.Native.Nat.{ℕ, zero, suc, ◌+◌, ◌<◌, ◌≤◌}
use native.Mathlib.Omega.{arith}
use native.Mathlib.Numerals.{add-one}
use native.Mathlib.Decide.{dec_lt}
use mathlib.Core.Path.{◌≡◌, refl, ◌∙◌}
use mathlib.Core.List.{List, [], ◌∷◌}
use lib.ListN.{length, get_or, set, take}
use Rattle.std.proofs.lemmas.List.{get_or-take, length-take}
use lib.Seq.{set_out}
use Rattle.numbers.specs.Rows.{at}
use Rattle.numbers.specs.Signed.{sum}
use Rattle.state.specs.State.{State, state_of, state_words, channel, with_channel, with_channels, max_channels}
use Rattle.state.specs.State.Laws.{length_channels, length_channel, three_stored, either_channel_row, channel_again, channel_written}
use Rattle.rules.specs.Holding.{channel_row}
use Rattle.upkeep.specs.Shift.{row_counted, shift_row, shift_to, channel_shifted, shifted_to}

-- put_counts: two stores make a row of one that has its type
two : (r : List ℕ) (n w : ℕ) → length r ≡ 3 → set (set r 1 n) 2 w ≡ get_or r 0 0 ∷ n ∷ w ∷ []
two [] n w e = absurd (omega arith)
two (x ∷ r) n w e = three_stored (x ∷ r) x n w e

held_row : (ty n w : ℕ) → (n ≡ 0 → ⊥) → ty ∷ n ∷ w ∷ [] ≡ channel_row ty n w
unfolding channel_row
held_row ty zero w h = absurd (h refl)
held_row ty (suc n) w h = refl

module _ (b : List ℕ) (c n w : ℕ) (s₁ s₂ : State) (e : length b ≡ state_words) where
  -- the row that is counted
  counted : (r : List ℕ) → r ≡ channel_row (at (state_of b).channels c 0) n w → with_channel (state_of b) c r ≡ row_counted (state_of b) c n w
  unfolding with_channel row_counted with_channels
  counted r q = rw q

  pub counts_put : (n ≡ 0 → ⊥) → s₁ ≡ with_channel (state_of b) c (set (channel (state_of b) c) 1 n) → s₂ ≡ with_channel s₁ c (set (channel s₁ c) 2 w)
      → s₂ ≡ row_counted (state_of b) c n w
  counts_put z f g = channel_again (state_of b) s₁ s₂ c (λ x. set x 2 w) (set (channel (state_of b) c) 1 n) g f ∙ go (dec_lt c max_channels)
    where
      row : List ℕ
      row = at (state_of b).channels c 0 ∷ n ∷ w ∷ []

      go : Dec (c < max_channels) → with_channel (state_of b) c (set (set (channel (state_of b) c) 1 n) 2 w) ≡ row_counted (state_of b) c n w
      go (yes h) = rw (two (channel (state_of b) c) n w (length_channel b e c h)) (counted row (held_row (at (state_of b).channels c 0) n w z))
      go (no h) =
          either_channel_row (state_of b) c (set (set (channel (state_of b) c) 1 n) 2 w) row (omega (arith, length_channels b))
          ∙ counted row (held_row (at (state_of b).channels c 0) n w z)

  pub counts_free : (s₃ : State) → n ≡ 0 → s₁ ≡ with_channel (state_of b) c (set (channel (state_of b) c) 0 0)
      → s₂ ≡ with_channel s₁ c (set (channel s₁ c) 1 0) → s₃ ≡ with_channel s₂ c (set (channel s₂ c) 2 0)
      → s₃ ≡ row_counted (state_of b) c n w
  unfolding channel_row
  counts_free s₃ z f g k =
      let r = set (channel (state_of b) c) 0 0 in
      channel_again (state_of b) s₂ s₃ c (λ x. set x 2 0) (set r 1 0) k (channel_again (state_of b) s₁ s₂ c (λ x. set x 1 0) r g f) ∙ channel_written b e c 0 0 0
      ∙ counted (0 ∷ 0 ∷ 0 ∷ []) (rw z)

-- shift: n and w are the counts that the row has, a and b those that it gets
pub shift_in : (s s₂ : State) (c dn dw n w a b : ℕ) → s₂ ≡ row_counted s c a b → a ≡ sum n dn → b ≡ sum w dw → n ≡ at s.channels c 1
    → w ≡ at s.channels c 2 → s₂ ≡ channel_shifted s c dn dw
unfolding row_counted channel_shifted shift_row
shift_in s s₂ c dn dw n w a b k g h e f = rw (k, g, h, e, f)

pub shift_out : (b : List ℕ) (c dn dw : ℕ) → max_channels ≤ c → state_of b ≡ channel_shifted (state_of b) c dn dw
unfolding channel_shifted shift_row with_channels
shift_out b c dn dw h =
    rw (set_out (state_of b).channels c (channel_row (at (state_of b).channels c 0) (sum (at (state_of b).channels c 1) dn) (sum (at (state_of b).channels c 2) dw)) (omega (arith, length_channels b)))

-- shift_listed
module _ (s : State) (l : List ℕ) (dn dw : ℕ) where
  pub shifts_none : s ≡ shifted_to s l dn dw 0
  unfolding shifted_to shift_to with_channels
  shifts_none = refl

  module _ (s₁ : State) (k : ℕ) (e : s₁ ≡ shifted_to s l dn dw k) where
    pub shifts_more : (s₂ : State) (c : ℕ) → s₂ ≡ channel_shifted s₁ c dn dw → c ≡ get_or l k 0 → s₂ ≡ shifted_to s l dn dw (k + 1)
    unfolding shifted_to shift_to channel_shifted with_channels
    shifts_more s₂ c f g = rw (f, g, e, add-one k)

-- the first n channels of a list, as a list of their own
module _ (l : List ℕ) (n dn dw : ℕ) where
  part_shifts : (chs : List (List ℕ)) (k : ℕ) → k ≤ n → shift_to (take n l) dn dw chs k ≡ shift_to l dn dw chs k
  unfolding shift_to
  part_shifts chs zero h = refl
  part_shifts chs (suc k) h = rw (part_shifts chs k (omega arith), get_or-take n l k 0 (omega arith))

  pub shifted_part : (s s₁ : State) → n ≤ length l → s₁ ≡ shifted_to s (take n l) dn dw (length (take n l)) → s₁ ≡ shifted_to s l dn dw n
  unfolding shifted_to
  shifted_part s s₁ h e =
      let q : length (take n l) ≡ n = omega (arith, length-take n l) in
      e ∙ rw (q, part_shifts s.channels n (omega arith))
