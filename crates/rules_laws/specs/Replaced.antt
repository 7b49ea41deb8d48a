-- A state in which one thread row is replaced, a mark is moved or a free channel gets its type is orderly again, if what is written is. Assumes
-- nothing.
use Rattle.std.specs.Prelude.{ℕ, suc, ◌<◌, ◌≡◌, false, ◌≢◌, eqb, length, get_or, set}
use Rattle.std.proofs.Common.{arith, ◌∙◌, get_or-set_same, get_or-set_other, eqb-true}
use mathlib.Core.List.{List, []}
use Rattle.std.proofs.Math.ListN.{length-set}
use Rattle.std.proofs.lemmas.Bool.{eqb-false}
use Rattle.numbers.specs.Rows.Laws.{at_put_same, at_put_row}
use Rattle.numbers.specs.Search.Laws.{case_b, contra}
use Rattle.table.specs.Table.{Table}
use Rattle.state.specs.State.{State, max_threads, max_channels, thread_words, thread, channel, is_waiting, type_in, with_mark, with_thread, with_channel}
use Rattle.rules.specs.Program.{opposite}
use Rattle.rules.specs.Moves.{one_up, typed}
use Rattle.rules_laws.specs.Shape.{Shaped}
use Rattle.rules_laws.specs.Reading.Laws.{offers_elim, holds_elim}
use Rattle.offers.specs.Apart.{Apart}
use Rattle.rules_laws.specs.Soundness.{RowSound, Orderly}
use Rattle.rules_laws.specs.ThreadRow.{held_used}
use Rattle.rules_laws.specs.Settle.{retype}

-- ---- one row of a list replaced: a goal by the two cases of what is read

pub set_read {ℓ} : {A : Type ℓ} {B : Type 0} (l : List A) (t u : ℕ) (row d : A) → t < length l
    → (u ≡ t → get_or (set l t row) u d ≡ row → B) → (u ≢ t → get_or (set l t row) u d ≡ get_or l u d → B) → B
set_read l t u row d h f g =
    case_b (eqb u t)
    (λ e. let q : u ≡ t = eqb-true u t e in f q (rw q (get_or-set_same l t row d h)))
    (λ e. let q : u ≢ t = eqb-false u t e in g q (get_or-set_other l t u row d q))

-- ---- a thread row

module _ (tb : Table) (ths : List (List ℕ)) (t : ℕ) (l : t < length ths) (row : List ℕ) where
  -- only who waits offers
  pub apart_still : Apart tb ths → is_waiting row ≡ false → Apart tb (set ths t row)
  unfolding Apart
  apart_still a w x y bx by ne d c ox oy =
      set_read ths t x row [] l
      (λ q e. contra (offers_elim tb row d c (rw e at ox)).waits w)
      (λ q e. set_read ths t y row [] l
      (λ q' e'. contra (offers_elim tb row (opposite d) c (rw e' at oy)).waits w)
      (λ q' e'. a x y bx by ne d c (rw e at ox) (rw e' at oy)))

module _ (s : State) (h : Shaped s) (t : ℕ) (l : t < max_threads) (row : List ℕ) where
  inside : t < length s.threads
  inside = rw h.all_threads l

  shaped_thread : length row ≡ thread_words → ((k : ℕ) → get_or row k 0 < 4294967296) → Shaped (with_thread s t row)
  unfolding with_thread
  shaped_thread long small = record {
    three_marks = h.three_marks;
    all_threads = length-set s.threads t row ∙ h.all_threads;
    all_channels = h.all_channels;
    thread_long = λ u b. set_read s.threads t u row [] inside (λ q e. rw e long) (λ q e. rw e (h.thread_long u b));
    channel_long = h.channel_long;
    mark_small = h.mark_small;
    thread_small = λ u k. set_read s.threads t u row [] inside (λ q e. rw e (small k)) (λ q e. rw e (h.thread_small u k));
    channel_small = h.channel_small;
  }

module _ (tb : Table) (s : State) (o : Orderly tb s) (t : ℕ) (l : t < max_threads) (row : List ℕ) (r : RowSound tb (type_in s) row) where
  pub row_apart : Apart tb (set s.threads t row) → Orderly tb (with_thread s t row)
  unfolding with_thread
  row_apart a = record {
    shaped = shaped_thread s o.shaped t l row r.long r.small;
    thread_mark_lem = o.thread_mark_lem;
    channel_mark_lem = o.channel_mark_lem;
    turn_in = o.turn_in;
    row = λ u b. set_read s.threads t u row [] (inside s o.shaped t l row) (λ q e. rw e r) (λ q e. rw e (o.row u b));
    port = o.port;
    apart = a;
  }

  -- a row that does not wait
  pub row_still : is_waiting row ≡ false → Orderly tb (with_thread s t row)
  row_still w = row_apart (apart_still tb s.threads t (inside s o.shaped t l row) row o.apart w)

-- ---- a mark

-- one past a number is in range again
pub one_up_below : (n i : ℕ) → i < n → one_up n i < n
unfolding one_up
one_up_below n i l = case_b (eqb (suc i) n) (λ e. rw e (omega arith)) (λ e. rw e (omega (arith, eqb-false (suc i) n e)))

module _ (tb : Table) (s : State) (o : Orderly tb s) (i v : ℕ) (l : i < 3) where
  mark_below : (j m : ℕ) → get_or s.marks j 0 < m → (j ≡ i → v < m) → get_or (set s.marks i v) j 0 < m
  mark_below j m h f =
      set_read s.marks i j v 0 (rw o.shaped.three_marks l) (λ q e. rw e (f q)) (λ q e. rw e h)

  shaped_mark : v < max_channels → Shaped (with_mark s i v)
  unfolding with_mark
  shaped_mark b = let h = o.shaped in record {
    three_marks = length-set s.marks i v ∙ h.three_marks;
    all_threads = h.all_threads;
    all_channels = h.all_channels;
    thread_long = h.thread_long;
    channel_long = h.channel_long;
    mark_small = λ j. mark_below j 4294967296 (h.mark_small j) (λ q. omega arith);
    thread_small = h.thread_small;
    channel_small = h.channel_small;
  }

  -- mark 1 is one of a channel, the others of a thread
  pub mark_moved : v < max_channels → (i ≢ 1 → v < max_threads) → Orderly tb (with_mark s i v)
  unfolding with_mark
  mark_moved b f = record {
    shaped = shaped_mark b;
    thread_mark_lem = mark_below 0 max_threads o.thread_mark_lem (λ q. f (omega arith));
    channel_mark_lem = mark_below 1 max_channels o.channel_mark_lem (λ q. b);
    turn_in = mark_below 2 max_threads o.turn_in (λ q. f (omega arith));
    row = o.row;
    port = o.port;
    apart = o.apart;
  }

-- ---- the type of a free channel

module _ (s : State) (h : Shaped s) (c y : ℕ) (l : c < max_channels) where
  in_channels : c < length s.channels
  in_channels = rw h.all_channels l

  pub typed_same : type_in (typed s c y) c ≡ y
  unfolding typed with_channel
  typed_same = at_put_same s.channels c 0 y in_channels (rw (h.channel_long c l) (omega arith))

  pub typed_other : (e : ℕ) → e ≢ c → type_in (typed s c y) e ≡ type_in s e
  unfolding typed with_channel
  typed_other e n = at_put_row s.channels c 0 y e 0 n

  shaped_typed : y < 4294967296 → Shaped (typed s c y)
  unfolding typed with_channel
  shaped_typed b = record {
    three_marks = h.three_marks;
    all_threads = h.all_threads;
    all_channels = length-set s.channels c (set (channel s c) 0 y) ∙ h.all_channels;
    thread_long = h.thread_long;
    channel_long = λ e j. set_read s.channels c e (set (channel s c) 0 y) [] in_channels
        (λ q f. rw f (length-set (channel s c) 0 y ∙ h.channel_long c l)) (λ q f. rw f (h.channel_long e j));
    mark_small = h.mark_small;
    thread_small = h.thread_small;
    channel_small = λ e k. set_read s.channels c e (set (channel s c) 0 y) [] in_channels
        (λ q f. rw f (set_read (channel s c) 0 k y 0 (rw (h.channel_long c l) (omega arith)) (λ p z. rw z b) (λ p z. rw z (h.channel_small c k))))
        (λ q f. rw f (h.channel_small e k));
  }

module _ (tb : Table) (s : State) (o : Orderly tb s) (c y : ℕ) (l : c < max_channels) (z : type_in s c ≡ 0) where
  -- channels in use keep their types
  used_same : (e : ℕ) → type_in s e ≢ 0 → type_in (typed s c y) e ≡ type_in s e
  used_same e n = typed_other s o.shaped c y l e (λ q. n (rw q z))

  pub row_typed_lem : (row : List ℕ) → RowSound tb (type_in s) row → RowSound tb (type_in (typed s c y)) row
  row_typed_lem row r =
      retype tb (type_in s) (type_in (typed s c y)) row r (λ e h. used_same e (held_used tb (type_in s) row r e (holds_elim tb row e h)))

  -- a free channel gets a type: nobody holds it, and it is no port
  pub free_typed : y < 4294967296 → Orderly tb (typed s c y)
  unfolding typed with_channel
  free_typed b = record {
    shaped = shaped_typed s o.shaped c y l b;
    thread_mark_lem = o.thread_mark_lem;
    channel_mark_lem = o.channel_mark_lem;
    turn_in = o.turn_in;
    row = λ t i. row_typed_lem (thread s t) (o.row t i);
    port = λ e i. used_same e (rw (o.port e i) (λ q. omega arith)) ∙ o.port e i;
    apart = o.apart;
  }
