-- The words of a state by name: the numbers of the three marks, of the words of a thread's row and of a channel's row, and the statuses of a thread.
use Rattle.std.specs.Prelude.{ℕ}

-- ---- the marks: of the threads, of the channels, and the turn
abbrev pub thread_mark : ℕ
thread_mark = 0

abbrev pub channel_mark : ℕ
channel_mark = 1

abbrev pub turn : ℕ
turn = 2

-- ---- a thread's row: its status, its node, and the first of its slots
abbrev pub status : ℕ
status = 0

abbrev pub node : ℕ
node = 1

abbrev pub slots : ℕ
slots = 2

-- ---- a status
abbrev pub free : ℕ
free = 0

abbrev pub ready : ℕ
ready = 1

abbrev pub waiting : ℕ
waiting = 2

-- ---- a channel's row: its type, its count and its count of waiting holders
abbrev pub type : ℕ
type = 0

abbrev pub count : ℕ
count = 1

abbrev pub waiters : ℕ
waiters = 2
