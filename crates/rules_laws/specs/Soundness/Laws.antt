-- The test of a sound state and the record say the same. Assumes nothing.
use Rattle.std.specs.Prelude.{ℕ, ◌<◌, ◌≡◌, true}
use Rattle.std.proofs.Math.Dec.{eqb}
use borrow.Author.Tests.{ltb-true, eqb-true, lt-ltb, eq-eqb}
use Rattle.numbers.specs.Search.{every}
use Rattle.numbers.specs.Search.Laws.{every_elim, every_intro}
use Rattle.numbers.specs.Tests.{parts}
use Rattle.table.specs.Table.{Table, ports}
use Rattle.state.specs.State.{State, max_threads, max_channels, thread_mark, channel_mark, turn, thread, is_waiting, type_in}
use Rattle.rules.specs.Holding.{settled}
use Rattle.rules.specs.Sound.{marks_in_range, free_zero, row_in_range, spare_zero, slots_typed, slots_filled, count_true, port_typed, waits_rightly, sound}
use Rattle.offers.specs.Apart.{Apart}
use Rattle.rules_laws.specs.Shape.{Shaped}
use Rattle.rules_laws.specs.Chosen.{Blocked}
use Rattle.rules_laws.specs.Soundness.{RowSound, Orderly, Sound}
use Rattle.rules_laws.specs.Soundness.Slots.{Tested, tested_free, tested_status, tested_node, tested_slot, row_tested}
use Rattle.rules_laws.specs.Soundness.Waiting.{rightly_blocked, blocked_rightly, blocked_apart, orderly_blocked}
use Rattle.rules_laws.specs.Soundness.Counted.{true_settled, sound_true}

-- ---- from the test

module _ (tb : Table) (s : State) (e : sound tb s ≡ true) where
  marks_tested : marks_in_range s ≡ true
  unfolding sound
  marks_tested = search parts depth 12

  row_test : (t : ℕ) → t < max_threads → Tested tb s (thread s t)
  unfolding sound
  row_test t l = record {
    in_range_lem = every_elim (λ t. row_in_range tb (thread s t)) max_threads t (search parts depth 12) l;
    free_zero_lem = every_elim (λ t. free_zero (thread s t)) max_threads t (search parts depth 12) l;
    spare_zero_lem = every_elim (λ t. spare_zero tb (thread s t)) max_threads t (search parts depth 12) l;
    typed = every_elim (λ t. slots_typed tb s (thread s t)) max_threads t (search parts depth 12) l;
    filled_in = every_elim (λ t. slots_filled tb (thread s t)) max_threads t (search parts depth 12) l;
  }

  counts_tested : every (count_true tb s) max_channels ≡ true
  unfolding sound
  counts_tested = search parts depth 12

  port_tested : (c : ℕ) → c < ports tb → type_in s c ≡ 1
  unfolding sound port_typed
  port_tested c l = eqb-true (type_in s c) 1 (every_elim (port_typed tb s) (ports tb) c (search parts depth 12) l)

  wait_tested : (t : ℕ) → t < max_threads → is_waiting (thread s t) ≡ true → Blocked tb s t
  unfolding sound
  wait_tested t l w = rightly_blocked tb s t w (every_elim (waits_rightly tb s) max_threads t (search parts depth 12) l)

  module _ (h : Shaped s) where
    row_elim : (t : ℕ) → t < max_threads → RowSound tb (type_in s) (thread s t)
    row_elim t l = let r = row_test t l in record {
      long = h.thread_long t l;
      small = h.thread_small t;
      free = tested_free tb s (thread s t) r (h.thread_long t l);
      ready_or_waits = tested_status tb s (thread s t) r;
      node_in = tested_node tb s (thread s t) r;
      slots = tested_slot tb s (thread s t) r;
      waits_at = λ w. (wait_tested t l w).at_choice;
      waits_for = λ w. (wait_tested t l w).meeting_only;
    }

    orderly_elim : Orderly tb s
    unfolding marks_in_range
    orderly_elim = let m = marks_tested in record {
      shaped = h;
      thread_mark_lem = ltb-true (thread_mark s) max_threads (search parts);
      channel_mark_lem = ltb-true (channel_mark s) max_channels (search parts);
      turn_in = ltb-true (turn s) max_threads (search parts);
      row = row_elim;
      port = port_tested;
      apart = blocked_apart tb s wait_tested;
    }

-- a state, of the right shape, that passes the test is sound
pub sound_elim : (tb : Table) (s : State) → Shaped s → sound tb s ≡ true → Sound tb s
sound_elim tb s h e = record { orderly = orderly_elim tb s e h; counts = true_settled tb s h (counts_tested tb s e) }

-- the channel rows of a sound state are settled, and no two of its waiting threads could meet
module _ (tb : Table) (s : State) (h : Sound tb s) where
  pub sound_settled : settled tb s ≡ s
  sound_settled = h.counts

  pub sound_apart : Apart tb s.threads
  sound_apart = h.orderly.apart

-- ---- to the test

module _ (tb : Table) (s : State) (o : Orderly tb s) where
  marks_intro : marks_in_range s ≡ true
  unfolding marks_in_range
  marks_intro = rw (
    lt-ltb (thread_mark s) max_threads o.thread_mark_lem,
    lt-ltb (channel_mark s) max_channels o.channel_mark_lem,
    lt-ltb (turn s) max_threads o.turn_in,
  )

  rows_intro : (t : ℕ) → t < max_threads → Tested tb s (thread s t)
  rows_intro t l = row_tested tb s (thread s t) (o.row t l)

  ports_intro : every (port_typed tb s) (ports tb) ≡ true
  unfolding port_typed
  ports_intro = every_intro (λ c. eqb (type_in s c) 1) (ports tb) (λ c l. eq-eqb (type_in s c) 1 (o.port c l))

  waits_intro : every (waits_rightly tb s) max_threads ≡ true
  waits_intro = every_intro (waits_rightly tb s) max_threads (λ t l. blocked_rightly tb s t (orderly_blocked tb s o t l))

-- a sound state passes it
pub sound_intro : (tb : Table) (s : State) → Sound tb s → sound tb s ≡ true
unfolding sound
sound_intro tb s h = let o = h.orderly in rw (
  marks_intro tb s o,
  every_intro (λ t. row_in_range tb (thread s t)) max_threads (λ t l. (rows_intro tb s o t l).in_range_lem),
  every_intro (λ t. free_zero (thread s t)) max_threads (λ t l. (rows_intro tb s o t l).free_zero_lem),
  every_intro (λ t. spare_zero tb (thread s t)) max_threads (λ t l. (rows_intro tb s o t l).spare_zero_lem),
  every_intro (λ t. slots_typed tb s (thread s t)) max_threads (λ t l. (rows_intro tb s o t l).typed),
  every_intro (λ t. slots_filled tb (thread s t)) max_threads (λ t l. (rows_intro tb s o t l).filled_in),
  every_intro (count_true tb s) max_channels (sound_true tb s h),
  ports_intro tb s o,
  waits_intro tb s o,
)
