-- States in buffers and as bytes. Assumes nothing.
use Rattle.std.specs.Prelude.{ℕ, zero, suc, ◌+◌, ◌*◌, ◌<◌, ◌≡◌, refl, List, [], ◌∷◌, ◌++◌, ltb, length, get_or}
use Rattle.std.proofs.Common.{arith, ◌∙◌, ap, append_assoc, drop-drop, ltb-true, ltb-false}
use Rattle.std.proofs.Math.Path.{sym}
use Rattle.std.proofs.Math.ListN.{take, drop, length-append}
use Rattle.std.proofs.Math.Seq.{take_at, drop_at}
use Rattle.numbers.specs.Rows.{rows, at}
use Rattle.numbers.specs.Rows.Laws.{rows_none, rows_more}
use Rattle.numbers.specs.Bytes.{words, joined}
use Rattle.numbers.specs.Bytes.Laws.{numbers_fit, numbers_encode, length_encode, encode_below, rows_joined}
use Rattle.numbers.specs.Search.Laws.{case_b}
use Rattle.loader_laws.specs.Yields.{length_even, joined_small}
use Rattle.state.specs.State.{State, state_length, state_of, view, state_bytes}
use Rattle.state.specs.State.Laws.{length_threads, length_channels, length_marks, length_thread, length_channel, mark_is, mark_out, thread_is, thread_out, thread_row_out, channel_is, channel_out, channel_row_out, bytes_view, words_long}
use Rattle.rules_laws.specs.Shape.{Shaped}

-- ---- the state that a buffer of bytes holds
module _ (b : List ℕ) (fit : (i : ℕ) → get_or b i 0 < 256) where
  word_small : (i : ℕ) → get_or (words b) i 0 < 4294967296
  word_small i = numbers_fit 4 b fit i

  mark_small : (i : ℕ) → get_or (view b).marks i 0 < 4294967296
  mark_small i = case_b (ltb i 3)
      (λ y. rw (← mark_is (words b) i (get_or (words b) i 0) refl (ltb-true i 3 y)) (word_small i))
      (λ y. rw (← mark_out (words b) i (ltb-false i 3 y)) (omega arith))

  thread_small : (t k : ℕ) → at (view b).threads t k < 4294967296
  thread_small t k = case_b (ltb t 64)
      (λ y. case_b (ltb k 18)
      (λ z. rw (← thread_is (words b) t k (get_or (words b) (3 + t * 18 + k) 0) refl (ltb-true t 64 y) (ltb-true k 18 z)) (word_small (3 + t * 18 + k)))
      (λ z. rw (← thread_out (words b) t k (ltb-true t 64 y) (ltb-false k 18 z)) (omega arith)))
      (λ y. rw (← thread_row_out (words b) t k (ltb-false t 64 y)) (omega arith))

  channel_small : (c k : ℕ) → at (view b).channels c k < 4294967296
  channel_small c k = case_b (ltb c 128)
      (λ y. case_b (ltb k 3)
      (λ z. rw (← channel_is (words b) c k (get_or (words b) (1155 + c * 3 + k) 0) refl (ltb-true c 128 y) (ltb-true k 3 z)) (word_small (1155 + c * 3 + k)))
      (λ z. rw (← channel_out (words b) c k (ltb-true c 128 y) (ltb-false k 3 z)) (omega arith)))
      (λ y. rw (← channel_row_out (words b) c k (ltb-false c 128 y)) (omega arith))

-- a buffer of a state's length holds a state of the right shape
pub view_shaped : (b : List ℕ) → length b ≡ state_length → ((i : ℕ) → get_or b i 0 < 256) → Shaped (view b)
view_shaped b long fit = record {
  three_marks = length_marks (words b) (words_long b long);
  all_threads = length_threads (words b);
  all_channels = length_channels (words b);
  thread_long = length_thread (words b) (words_long b long);
  channel_long = length_channel (words b) (words_long b long);
  mark_small = mark_small b fit;
  thread_small = thread_small b fit;
  channel_small = channel_small b fit;
}

-- ---- rows, one after the other, and what stands behind them

rows_past : (w : ℕ) (rs : List (List ℕ)) (rest : List ℕ) → ((t : ℕ) → t < length rs → length (get_or rs t []) ≡ w)
    → rows (length rs) w (joined rs ++ rest) ≡ rs
unfolding joined
rows_past w [] rest h = rows_none w rest
rows_past w (r ∷ rs) rest h =
    let e : length r ≡ w = h 0 (omega arith) in
    let q = joined rs ++ rest in
    rw (append_assoc r (joined rs) rest, rows_more (length rs) w (r ++ q), take_at r q w e, drop_at r q w e, rows_past w rs rest (λ t l. h (suc t) (omega arith)))

append_small : (l m : List ℕ) → ((i : ℕ) → get_or l i 0 < 4294967296) → ((i : ℕ) → get_or m i 0 < 4294967296)
    → (i : ℕ) → get_or (l ++ m) i 0 < 4294967296
append_small [] m f g i = g i
append_small (a ∷ l) m f g zero = f 0
append_small (a ∷ l) m f g (suc i) = append_small l m (λ k. f (suc k)) g i

-- ---- the bytes of a state
module _ (s : State) (h : Shaped s) where
  thread_words_lem : length (joined s.threads) ≡ 1152
  thread_words_lem = omega (arith, length_even 18 s.threads (λ t l. h.thread_long t (omega (arith, h.all_threads))), h.all_threads)

  channel_words_lem : length (joined s.channels) ≡ 384
  channel_words_lem = omega (arith, length_even 3 s.channels (λ c l. h.channel_long c (omega (arith, h.all_channels))), h.all_channels)

  pub bytes_long : length (state_bytes s) ≡ state_length
  unfolding state_bytes
  bytes_long =
      let m = joined s.threads ++ joined s.channels in
      let l = length-append (joined s.threads) (joined s.channels) in
      omega (arith, length_encode 4 (s.marks ++ m), length-append s.marks m, l, h.three_marks, thread_words_lem, channel_words_lem)

  -- the words of the bytes are those of the state, one after the other
  words_of : words (state_bytes s) ≡ s.marks ++ (joined s.threads ++ joined s.channels)
  unfolding state_bytes
  words_of =
      numbers_encode 4 (s.marks ++ (joined s.threads ++ joined s.channels)) (omega arith)
      (append_small s.marks _ h.mark_small
      (append_small (joined s.threads) _ (joined_small 4294967296 s.threads (omega arith) (λ t k l j. h.thread_small t k)) (joined_small 4294967296 s.channels (omega arith) (λ c k l j. h.channel_small c k))))

  -- the bytes of a state hold it
  pub view_bytes : view (state_bytes s) ≡ s
  unfolding state_of
  view_bytes =
      let ths = joined s.threads in
      let chs = joined s.channels in
      let m : take 3 (s.marks ++ (ths ++ chs)) ≡ s.marks = take_at s.marks (ths ++ chs) 3 h.three_marks in
      let d : drop 3 (s.marks ++ (ths ++ chs)) ≡ ths ++ chs = drop_at s.marks (ths ++ chs) 3 h.three_marks in
      let e : drop 1155 (s.marks ++ (ths ++ chs)) ≡ chs =
      sym (drop-drop 1152 3 (s.marks ++ (ths ++ chs))) ∙ rw d (drop_at ths chs 1152 thread_words_lem) in
      let t : rows 64 18 (ths ++ chs) ≡ s.threads =
      rw h.all_threads at (rows_past 18 s.threads chs (λ t l. h.thread_long t (omega (arith, h.all_threads)))) in
      let c : rows 128 3 chs ≡ s.channels =
      rw h.all_channels at (rows_joined 3 s.channels (λ c l. h.channel_long c (omega (arith, h.all_channels)))) in
      rw (words_of, m, d, e, t, c)

pub bytes_small : (s : State) (i : ℕ) → get_or (state_bytes s) i 0 < 256
unfolding state_bytes
bytes_small s i = encode_below 4 (s.marks ++ (joined s.threads ++ joined s.channels)) i

-- two buffers of a state's length that hold the same state are the same bytes
pub same_view : (b b' : List ℕ) → length b ≡ state_length → length b' ≡ state_length → ((i : ℕ) → get_or b i 0 < 256) → ((i : ℕ) → get_or b' i 0 < 256)
    → view b ≡ view b' → b ≡ b'
same_view b b' long long' fit fit' e = sym (bytes_view b long fit) ∙ ap state_bytes e ∙ bytes_view b' long' fit'
