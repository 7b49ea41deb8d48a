-- States as buffers hold them: rows of their lengths, and words of 32 bits.
pub mod Laws
use Rattle.std.specs.Prelude.{ℕ, ◌<◌, ◌≡◌, length, get_or}
use Rattle.numbers.specs.Rows.{at}
use Rattle.state.specs.State.{State, max_threads, max_channels, thread_words, channel_words, thread, channel}

pub record Shaped (s : State) : Type 0 where
  pub three_marks : length s.marks ≡ 3
  pub all_threads : length s.threads ≡ max_threads
  pub all_channels : length s.channels ≡ max_channels
  pub thread_long : (t : ℕ) → t < max_threads → length (thread s t) ≡ thread_words
  pub channel_long : (c : ℕ) → c < max_channels → length (channel s c) ≡ channel_words
  pub mark_small : (i : ℕ) → get_or s.marks i 0 < 4294967296
  pub thread_small : (t k : ℕ) → at s.threads t k < 4294967296
  pub channel_small : (c k : ℕ) → at s.channels c k < 4294967296
