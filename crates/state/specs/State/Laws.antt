-- What a read and a store of a word mean for the state. Assumes nothing.
use Rattle.std.specs.Prelude.{ℕ, ◌+◌, ◌*◌, ◌<◌, ◌≤◌, ◌≡◌, refl, ◌≢◌, true, length, get_or, set, take, drop}
use native.Mathlib.Omega.{arith}
use Rattle.std.proofs.Math.Path.{sym, ap}
use Rattle.std.proofs.Common.{◌∙◌, take-append-drop, set-set, take_all, drop-drop, get_or-take}
use mathlib.Core.List.{List, [], ◌∷◌, ◌++◌}
use Rattle.std.proofs.Math.Decide.{dec_lt}
use Rattle.std.proofs.Math.Nat.{min-eq_left}
use Rattle.std.proofs.Math.ListN.{length-take, length-drop, length-set, get_or-eq_default}
use Rattle.std.proofs.Math.Seq.{get_or-set_same, get_or-set_other, get_or-drop, take-set-lt, take-set-le, drop-set-lt, drop-set-add, set_out}
use Rattle.numbers.specs.Bytes.{words, encode}
use Rattle.numbers.specs.Bytes.Laws.{joined_rows, encode_numbers, length_numbers}
use Rattle.numbers.specs.Rows.{rows, at}
use Rattle.numbers.specs.Search.Laws.{contra}
use Rattle.state.specs.State.{mark_words, max_threads, thread_words, max_channels, channel_words, channels_from, state_words, state_length, State, state_of, view, state_bytes, thread, in_use, channel, with_mark, with_thread, with_channel}
use Rattle.numbers.specs.Rows.Laws.{length_rows, length_row, at_in, at_out, at_row_out, rows_put, rows_past, put_out, put_row_out}

module _ (b : List ℕ) where
  -- ---- shape
  pub length_threads : length (state_of b).threads ≡ max_threads
  unfolding state_of
  length_threads = length_rows max_threads thread_words (drop mark_words b)

  pub length_channels : length (state_of b).channels ≡ max_channels
  unfolding state_of
  length_channels = length_rows max_channels channel_words (drop channels_from b)

  -- a thread that is in use has a row
  pub used_below : (t : ℕ) → in_use (thread (state_of b) t) ≡ true → t < max_threads
  used_below t e = go (dec_lt t max_threads)
    where
      go : Dec (t < max_threads) → t < max_threads
      go (yes h) = h
      go (no h) = contra e (rw (get_or-eq_default (state_of b).threads [] {n = t} (omega (arith, length_threads))) refl)

  -- ---- reads
  pub mark_is : (i r : ℕ) → r ≡ get_or b i 0 → i < mark_words → r ≡ get_or (state_of b).marks i 0
  unfolding state_of
  mark_is i r e h = rw (get_or-take mark_words b i 0 h) e

  pub mark_out : (i : ℕ) → mark_words ≤ i → 0 ≡ get_or (state_of b).marks i 0
  unfolding state_of
  mark_out i h = sym (get_or-eq_default (take mark_words b) 0 (omega (arith, length-take mark_words b)))

  pub thread_is : (t k r : ℕ) → r ≡ get_or b (mark_words + t * thread_words + k) 0 → t < max_threads → k < thread_words → r ≡ at (state_of b).threads t k
  unfolding state_of
  thread_is t k r e h j =
      let f : mark_words + t * thread_words + k ≡ mark_words + (t * thread_words + k) = omega arith in
      rw (at_in max_threads thread_words (drop mark_words b) t k h j, get_or-drop mark_words b (t * thread_words + k) 0, ← f) e

  pub thread_out : (t k : ℕ) → t < max_threads → thread_words ≤ k → 0 ≡ at (state_of b).threads t k
  unfolding state_of
  thread_out t k h j = sym (at_out max_threads thread_words (drop mark_words b) t k h j)

  pub thread_row_out : (t k : ℕ) → max_threads ≤ t → 0 ≡ at (state_of b).threads t k
  unfolding state_of
  thread_row_out t k h = sym (at_row_out max_threads thread_words (drop mark_words b) t k h)

  pub channel_is : (t k r : ℕ) → r ≡ get_or b (channels_from + t * channel_words + k) 0 → t < max_channels → k < channel_words → r ≡ at (state_of b).channels t k
  unfolding state_of
  channel_is t k r e h j =
      let f : channels_from + t * channel_words + k ≡ channels_from + (t * channel_words + k) = omega arith in
      rw (at_in max_channels channel_words (drop channels_from b) t k h j, get_or-drop channels_from b (t * channel_words + k) 0, ← f) e

  pub channel_out : (t k : ℕ) → t < max_channels → channel_words ≤ k → 0 ≡ at (state_of b).channels t k
  unfolding state_of
  channel_out t k h j = sym (at_out max_channels channel_words (drop channels_from b) t k h j)

  pub channel_row_out : (t k : ℕ) → max_channels ≤ t → 0 ≡ at (state_of b).channels t k
  unfolding state_of
  channel_row_out t k h = sym (at_row_out max_channels channel_words (drop channels_from b) t k h)

  -- ---- stores: b' is what b became
  pub mark_put : (b' : List ℕ) (i v : ℕ) → b' ≡ set b i v → i < mark_words → state_of b' ≡ with_mark (state_of b) i v
  unfolding state_of with_mark
  mark_put b' i v e h =
      let m : i < channels_from = omega arith in
      rw (e, take-set-lt mark_words b i v h, drop-set-lt mark_words b i v h, drop-set-lt channels_from b i v m)

  pub mark_kept : (i v : ℕ) → mark_words ≤ i → state_of b ≡ with_mark (state_of b) i v
  unfolding state_of with_mark
  mark_kept i v h = rw (set_out (take mark_words b) i v (omega (arith, length-take mark_words b)))

  pub thread_put : (b' : List ℕ) (t k v : ℕ) → b' ≡ set b (mark_words + t * thread_words + k) v → t < max_threads → k < thread_words
      → state_of b' ≡ with_thread (state_of b) t (set (thread (state_of b) t) k v)
  unfolding state_of with_thread
  thread_put b' t k v e h j =
      let f : mark_words + t * thread_words + k ≡ mark_words + (t * thread_words + k) = omega arith in
      let low : mark_words ≤ mark_words + (t * thread_words + k) = omega arith in
      let high : mark_words + (t * thread_words + k) < channels_from = omega arith in
      rw (e, f, take-set-le mark_words b (mark_words + (t * thread_words + k)) v low, drop-set-lt channels_from b (mark_words + (t * thread_words + k)) v high, drop-set-add mark_words b (t * thread_words + k) v, rows_put max_threads thread_words (drop mark_words b) t k v h j)

  pub thread_kept : (t k v : ℕ) → t < max_threads → thread_words ≤ k → state_of b ≡ with_thread (state_of b) t (set (thread (state_of b) t) k v)
  unfolding state_of with_thread
  thread_kept t k v h j = rw (put_out max_threads thread_words (drop mark_words b) t k v h j)

  pub thread_row_kept : (t k v : ℕ) → max_threads ≤ t → state_of b ≡ with_thread (state_of b) t (set (thread (state_of b) t) k v)
  unfolding state_of with_thread
  thread_row_kept t k v h = rw (put_row_out max_threads thread_words (drop mark_words b) t k v h)

  pub channel_put : (b' : List ℕ) (t k v : ℕ) → b' ≡ set b (channels_from + t * channel_words + k) v → t < max_channels → k < channel_words
      → state_of b' ≡ with_channel (state_of b) t (set (channel (state_of b) t) k v)
  unfolding state_of with_channel
  channel_put b' t k v e h j =
      let f : channels_from + t * channel_words + k ≡ channels_from + (t * channel_words + k) = omega arith in
      let g : channels_from + (t * channel_words + k) ≡ mark_words + (1152 + (t * channel_words + k)) = omega arith in
      let low : mark_words ≤ channels_from + (t * channel_words + k) = omega arith in
      let past : max_threads * thread_words ≤ 1152 + (t * channel_words + k) = omega arith in
      let th : rows max_threads thread_words (drop mark_words (set b (channels_from + (t * channel_words + k)) v)) ≡ rows max_threads thread_words (drop mark_words b) =
      rw (g, drop-set-add mark_words b (1152 + (t * channel_words + k)) v) (rows_past max_threads thread_words (drop mark_words b) (1152 + (t * channel_words + k)) v past) in
      rw (e, f, take-set-le mark_words b (channels_from + (t * channel_words + k)) v low, th, drop-set-add channels_from b (t * channel_words + k) v, rows_put max_channels channel_words (drop channels_from b) t k v h j)

  pub channel_kept : (t k v : ℕ) → t < max_channels → channel_words ≤ k → state_of b ≡ with_channel (state_of b) t (set (channel (state_of b) t) k v)
  unfolding state_of with_channel
  channel_kept t k v h j = rw (put_out max_channels channel_words (drop channels_from b) t k v h j)

  pub channel_row_kept : (t k v : ℕ) → max_channels ≤ t → state_of b ≡ with_channel (state_of b) t (set (channel (state_of b) t) k v)
  unfolding state_of with_channel
  channel_row_kept t k v h = rw (put_row_out max_channels channel_words (drop channels_from b) t k v h)

pub ruleset places = (mark_is, mark_out, thread_is, thread_out, thread_row_out, channel_is, channel_out, channel_row_out, mark_put, mark_kept, thread_put, thread_kept, thread_row_kept, channel_put, channel_kept, channel_row_kept)

-- ---- the bytes of a state

-- a list is its three parts, one behind the other
parts : (l : List ℕ) (a b c : ℕ) → length l ≤ a + b + c → take a l ++ (take b (drop a l) ++ take c (drop (a + b) l)) ≡ l
parts l a b c h =
    rw (take_all c (drop (a + b) l) (omega (arith, length-drop (a + b) l)), ← drop-drop b a l, take-append-drop b (drop a l), take-append-drop a l)

-- the bytes of a state are those of its words
pub words_bytes : (w : List ℕ) → length w ≡ state_words → state_bytes (state_of w) ≡ encode 4 w
unfolding state_bytes state_of
words_bytes w h = rw (joined_rows max_threads thread_words (drop mark_words w), joined_rows max_channels channel_words (drop channels_from w), parts w mark_words 1152 384 (omega (arith, h)))

-- a buffer of the right length has the right number of words, and is the bytes of the state that it holds
pub words_long : (b : List ℕ) → length b ≡ state_length → length (words b) ≡ state_words
words_long b e = length_numbers 4 b ∙ rw e

pub bytes_view : (b : List ℕ) → length b ≡ state_length → ((i : ℕ) → get_or b i 0 < 256) → state_bytes (view b) ≡ b
bytes_view b h f = words_bytes (words b) (words_long b h) ∙ encode_numbers 4 b (omega arith) f

-- ---- the rows of a state of the right number of words are of their lengths

module _ (b : List ℕ) (e : length b ≡ state_words) where
  pub length_marks : length (state_of b).marks ≡ mark_words
  unfolding state_of
  length_marks = length-take mark_words b ∙ min-eq_left (omega (arith, e))

  pub length_thread : (t : ℕ) → t < max_threads → length (thread (state_of b) t) ≡ thread_words
  unfolding state_of
  length_thread t h = length_row max_threads thread_words (drop mark_words b) t h (omega (arith, e, length-drop mark_words b))

  pub length_channel : (c : ℕ) → c < max_channels → length (channel (state_of b) c) ≡ channel_words
  unfolding state_of
  length_channel c h = length_row max_channels channel_words (drop channels_from b) c h (omega (arith, e, length-drop channels_from b))

-- three stores make the marks, and a channel's row
pub three_stored : (r : List ℕ) (a n w : ℕ) → length r ≡ 3 → set (set (set r 0 a) 1 n) 2 w ≡ a ∷ n ∷ w ∷ []
three_stored [] a n w e = absurd (omega arith)
three_stored (x ∷ []) a n w e = absurd (omega arith)
three_stored (x ∷ y ∷ []) a n w e = absurd (omega arith)
three_stored (x ∷ y ∷ z ∷ []) a n w e = refl
three_stored (x ∷ y ∷ z ∷ u ∷ r) a n w e = absurd (omega arith)

-- ---- rows replaced and read

-- where there is no such row nothing is replaced
no_thread_row : (s : State) (t : ℕ) (row : List ℕ) → length s.threads ≤ t → with_thread s t row ≡ s
unfolding with_thread
no_thread_row s t row h = rw (set_out s.threads t row h)

no_channel_row : (s : State) (c : ℕ) (row : List ℕ) → length s.channels ≤ c → with_channel s c row ≡ s
unfolding with_channel
no_channel_row s c row h = rw (set_out s.channels c row h)

-- so that there two rows come to the same
pub either_thread_row : (s : State) (t : ℕ) (row row' : List ℕ) → length s.threads ≤ t → with_thread s t row ≡ with_thread s t row'
either_thread_row s t row row' h = no_thread_row s t row h ∙ sym (no_thread_row s t row' h)

pub either_channel_row : (s : State) (c : ℕ) (row row' : List ℕ) → length s.channels ≤ c → with_channel s c row ≡ with_channel s c row'
either_channel_row s c row row' h = no_channel_row s c row h ∙ sym (no_channel_row s c row' h)

module _ (s : State) (t : ℕ) (row : List ℕ) where
  pub thread_same : t < length s.threads → thread (with_thread s t row) t ≡ row
  unfolding with_thread
  thread_same h = get_or-set_same s.threads t row [] h

  pub thread_other : (u : ℕ) → u ≢ t → thread (with_thread s t row) u ≡ thread s u
  unfolding with_thread
  thread_other u n = get_or-set_other s.threads t u row [] n

  -- the row written last stays
  pub thread_twice : (row' : List ℕ) → with_thread (with_thread s t row) t row' ≡ with_thread s t row'
  unfolding with_thread
  thread_twice row' = rw (set-set s.threads t row row')

  pub threads_with : length (with_thread s t row).threads ≡ length s.threads
  unfolding with_thread
  threads_with = length-set s.threads t row

-- what stands in a row is written anew, by f: s₁ has the row r there
pub thread_again : (s s₁ s₂ : State) (t : ℕ) (f : List ℕ → List ℕ) (r : List ℕ) → s₂ ≡ with_thread s₁ t (f (thread s₁ t)) → s₁ ≡ with_thread s t r
    → s₂ ≡ with_thread s t (f r)
thread_again s s₁ s₂ t f r e g = e ∙ ap (λ (x : State). with_thread x t (f (thread x t))) g ∙ go (dec_lt t (length s.threads))
  where
    go : Dec (t < length s.threads) → with_thread (with_thread s t r) t (f (thread (with_thread s t r) t)) ≡ with_thread s t (f r)
    go (yes h) = rw (thread_same s t r h, thread_twice s t r (f r))
    go (no h) = rw (no_thread_row s t r (omega arith)) (either_thread_row s t (f (thread s t)) (f r) (omega arith))

channel_replaced : (s : State) (c : ℕ) (row row' : List ℕ) → c < length s.channels
    → (channel (with_channel s c row) c ≡ row) × (with_channel (with_channel s c row) c row' ≡ with_channel s c row')
unfolding with_channel
channel_replaced s c row row' h = (get_or-set_same s.channels c row [] h, rw (set-set s.channels c row row'))

pub channel_again : (s s₁ s₂ : State) (c : ℕ) (f : List ℕ → List ℕ) (r : List ℕ) → s₂ ≡ with_channel s₁ c (f (channel s₁ c)) → s₁ ≡ with_channel s c r
    → s₂ ≡ with_channel s c (f r)
channel_again s s₁ s₂ c f r e g = e ∙ ap (λ (x : State). with_channel x c (f (channel x c))) g ∙ go (dec_lt c (length s.channels))
  where
    go : Dec (c < length s.channels) → with_channel (with_channel s c r) c (f (channel (with_channel s c r) c)) ≡ with_channel s c (f r)
    go (yes h) = let p = channel_replaced s c r (f r) h in rw (p.0, p.1)
    go (no h) = rw (no_channel_row s c r (omega arith)) (either_channel_row s c (f (channel s c)) (f r) (omega arith))

-- a channel's row of which each word is written
pub channel_written : (b : List ℕ) → length b ≡ state_words → (c a n w : ℕ) → with_channel (state_of b) c (set (set (set (channel (state_of b) c) 0 a) 1 n) 2 w) ≡ with_channel (state_of b) c (a ∷ n ∷ w ∷ [])
channel_written b e c a n w = go (dec_lt c max_channels)
  where
    go : Dec (c < max_channels) → with_channel (state_of b) c (set (set (set (channel (state_of b) c) 0 a) 1 n) 2 w) ≡ with_channel (state_of b) c (a ∷ n ∷ w ∷ [])
    go (yes h) = rw (three_stored (channel (state_of b) c) a n w (length_channel b e c h))
    go (no h) = either_channel_row (state_of b) c (set (set (set (channel (state_of b) c) 0 a) 1 n) 2 w) (a ∷ n ∷ w ∷ []) (omega (arith, length_channels b))
