-- The state that a buffer holds: three marks, 64 thread rows of 18 words and 128 channel rows of 3. A word is its 32-bit pattern, so that -1, which
-- stands in a channel slot that has no channel, is 4294967295.
pub mod Laws
use Rattle.std.specs.Prelude.{ℕ, ◌+◌, Bool, not, List, [], ◌++◌, eqb, get_or, set, take, drop}
use Rattle.numbers.specs.Rows.{rows, at}
use Rattle.numbers.specs.Bytes.{words, encode, joined}
use Rattle.state.specs.Words as Word

-- ---- the sizes of a state

-- the marks, with the turn; the thread rows and the words of one; the slots of a thread row
abbrev pub mark_words : ℕ
mark_words = 3

abbrev pub max_threads : ℕ
max_threads = 64

abbrev pub thread_words : ℕ
thread_words = 18

abbrev pub row_slots : ℕ
row_slots = 16

-- the channel rows and the words of one, and the word at which they begin
abbrev pub max_channels : ℕ
max_channels = 128

abbrev pub channel_words : ℕ
channel_words = 3

abbrev pub channels_from : ℕ
channels_from = 1155

-- all words of a state, and the bytes of its buffer
abbrev pub state_words : ℕ
state_words = 1539

abbrev pub state_length : ℕ
state_length = 6156

-- the pattern of -1
abbrev pub minus_one : ℕ
minus_one = 4294967295

-- ---- a state, the state of a list of words, and the bytes of a state

pub record State : Type 0 where
  pub marks : List ℕ
  pub threads : List (List ℕ)
  pub channels : List (List ℕ)

unfoldable pub state_of : List ℕ → State
state_of ws = record {
  marks = take mark_words ws;
  threads = rows max_threads thread_words (drop mark_words ws);
  channels = rows max_channels channel_words (drop channels_from ws);
}

-- the state that a buffer holds
abbrev pub view : List ℕ → State
view b = state_of (words b)

-- the bytes of the buffer that holds a state
unfoldable pub state_bytes : State → List ℕ
state_bytes s = encode 4 (s.marks ++ (joined s.threads ++ joined s.channels))

-- ---- the marks: where the search for a free thread row begins, where that for a free channel row does, and whose turn a run begins with
abbrev pub thread_mark : State → ℕ
thread_mark s = get_or s.marks Word.thread_mark 0

abbrev pub channel_mark : State → ℕ
channel_mark s = get_or s.marks Word.channel_mark 0

abbrev pub turn : State → ℕ
turn s = get_or s.marks Word.turn 0

-- ---- a thread's row: its status, the node at which it stands, counted over the whole file, and its slots
abbrev pub thread : State → ℕ → List ℕ
thread s t = get_or s.threads t []

abbrev pub status : List ℕ → ℕ
status row = get_or row Word.status 0

abbrev pub stands_at : List ℕ → ℕ
stands_at row = get_or row Word.node 0

abbrev pub slot_of : List ℕ → ℕ → ℕ
slot_of row k = get_or row (Word.slots + k) 0

abbrev pub slots_of : List ℕ → List ℕ
slots_of row = drop Word.slots row

abbrev pub in_use : List ℕ → Bool
in_use row = not (eqb (status row) Word.free)

abbrev pub is_ready : List ℕ → Bool
is_ready row = eqb (status row) Word.ready

abbrev pub is_waiting : List ℕ → Bool
is_waiting row = eqb (status row) Word.waiting

-- ---- a channel's row: its type, 0 where the channel is free, its count and its count of waiting holders
abbrev pub channel : State → ℕ → List ℕ
channel s c = get_or s.channels c []

abbrev pub type_in : State → ℕ → ℕ
type_in s c = at s.channels c Word.type

abbrev pub count_in : State → ℕ → ℕ
count_in s c = at s.channels c Word.count

abbrev pub waiters_in : State → ℕ → ℕ
waiters_in s c = at s.channels c Word.waiters

-- ---- a state with some of its words replaced, and all others as they were: one mark or one row, or all the marks or rows of a kind
unfoldable pub with_mark : State → ℕ → ℕ → State
with_mark s i v = record { marks = set s.marks i v; threads = s.threads; channels = s.channels }

unfoldable pub with_thread : State → ℕ → List ℕ → State
with_thread s t row = record { marks = s.marks; threads = set s.threads t row; channels = s.channels }

unfoldable pub with_channel : State → ℕ → List ℕ → State
with_channel s c row = record { marks = s.marks; threads = s.threads; channels = set s.channels c row }

unfoldable pub with_channels : State → List (List ℕ) → State
with_channels s chs = record { marks = s.marks; threads = s.threads; channels = chs }

abbrev pub with_threads : State → List (List ℕ) → State
with_threads s ths = record { marks = s.marks; threads = ths; channels = s.channels }

abbrev pub with_marks : State → List ℕ → State
with_marks s ms = record { marks = ms; threads = s.threads; channels = s.channels }
