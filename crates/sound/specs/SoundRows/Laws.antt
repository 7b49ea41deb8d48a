-- The tests of `sound`, taken row by row and slot by slot. Assumes nothing.
use Rattle.std.specs.Prelude.{ℕ, ◌<◌, ◌≤◌, ◌≡◌, refl, Bool, true, false, ◌&&◌, ◌||◌, List}
use Rattle.std.proofs.Common.{arith, sym, ◌∙◌, ap}
use Rattle.std.proofs.Math.Dec.{ltb, eqb}
use borrow.Author.Tests.{ltb-false, lt-ltb, le-ltb, not-true}
use Rattle.numbers.specs.Search.{every}
use Rattle.numbers.specs.Search.Laws.{case_b, every_and, every_cong, every_rest}
use Rattle.table.specs.Table.{Table, ports, slot_count}
use Rattle.table.specs.Layout.{definition_of}
use Rattle.state.specs.State.{State, max_threads, max_channels, row_slots, thread, status, stands_at, slot_of, in_use}
use Rattle.rules.specs.Program.{channel_slot}
use Rattle.rules.specs.Sound.{marks_in_range, free_zero, row_in_range, spare_zero, slot_typed, slots_typed, slot_filled, slots_filled, count_true, port_typed, waits_rightly, sound}
use Rattle.holding.specs.Own.{room, own_room}
use Rattle.holding.specs.Own.Laws.{room_le}
use Rattle.sound.specs.SoundRows.{spare_of, spare_zero_at, slot_sound, row_sound}

every_three : (a b c : ℕ → Bool) (n : ℕ) → every (λ i. a i && (b i && c i)) n ≡ (every a n && (every b n && every c n))
every_three a b c n = every_and a (λ i. b i && c i) n ∙ ap (λ x. every a n && x) (every_and b c n)

every_five : (a b c d e : ℕ → Bool) (n : ℕ)
    → every (λ i. a i && (b i && (c i && (d i && e i)))) n ≡ (every a n && (every b n && (every c n && (every d n && every e n))))
every_five a b c d e n =
    every_three a b (λ i. c i && (d i && e i)) n ∙ ap (λ x. every a n && (every b n && x)) (every_three c d e n)

grouped : (a b c d e x : Bool) → (a && (b && (c && (d && (e && x))))) ≡ ((a && (b && (c && (d && e)))) && x)
grouped false b c d e x = refl
grouped true false c d e x = refl
grouped true true false d e x = refl
grouped true true true false e x = refl
grouped true true true true e x = refl

module _ (tb : Table) (s : State) where
  module _ (row : List ℕ) (u : in_use row ≡ true) where
    abbrev slots_here : ℕ
    slots_here = slot_count tb (definition_of tb (stands_at row))

    -- of the 16 slots of a row those below its room are the definition's
    room_is : (k : ℕ) → k < row_slots → ltb k (own_room tb row) ≡ ltb k slots_here
    unfolding own_room room
    room_is k h =
        rw (not-true (eqb (status row) 0) u)
        (case_b (ltb slots_here 16) (λ y. rw y) (λ n. rw (n, lt-ltb k 16 h, lt-ltb k slots_here (omega (arith, ltb-false slots_here 16 n)))))

    -- past them there is nothing to type or to fill
    past_sound : (k : ℕ) → own_room tb row ≤ k → k < row_slots → slot_sound tb s row k ≡ true
    unfolding slot_sound slot_typed slot_filled channel_slot
    past_sound k h i = rw (sym (room_is k i) ∙ le-ltb k (own_room tb row) h)

    pub slots_sound : every (slot_sound tb s row) (own_room tb row) ≡ (every (slot_typed tb s row) row_slots && every (slot_filled tb row) row_slots)
    unfolding slot_sound
    slots_sound =
        every_rest (slot_sound tb s row) (own_room tb row) row_slots (room_le tb row) past_sound ∙ every_and (slot_typed tb s row) (slot_filled tb row) row_slots

    pub spare_zero_lem : every (spare_zero_at row (own_room tb row)) row_slots ≡ every (λ k. ltb k slots_here || eqb (slot_of row k) 0) row_slots
    unfolding spare_zero_at spare_of
    spare_zero_lem =
        every_cong (spare_zero_at row (own_room tb row)) (λ k. ltb k slots_here || eqb (slot_of row k) 0) row_slots
        (λ k h. rw (room_is k h) (case_b (ltb k slots_here) (λ y. rw y) (λ n. rw n)))

  pub sound_rows : sound tb s ≡ (marks_in_range s && (every (λ t. row_sound tb s (thread s t)) max_threads
      && (every (count_true tb s) max_channels && (every (port_typed tb s) (ports tb) && every (waits_rightly tb s) max_threads))))
  unfolding sound row_sound
  sound_rows = rw (every_five (λ t. row_in_range tb (thread s t)) (λ t. free_zero (thread s t)) (λ t. spare_zero tb (thread s t)) (λ t. slots_typed tb s (thread s t)) (λ t. slots_filled tb (thread s t)) max_threads)
      (ap (λ x. marks_in_range s && x)
      (grouped (every (λ t. row_in_range tb (thread s t)) max_threads) (every (λ t. free_zero (thread s t)) max_threads) (every (λ t. spare_zero tb (thread s t)) max_threads)
      (every (λ t. slots_typed tb s (thread s t)) max_threads) (every (λ t. slots_filled tb (thread s t)) max_threads)
      (every (count_true tb s) max_channels && (every (port_typed tb s) (ports tb) && every (waits_rightly tb s) max_threads))))
