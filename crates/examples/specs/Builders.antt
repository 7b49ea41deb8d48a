-- The rows of a file and the rows of a state, by what they say. All tables and states of examples are written with these.
use Rattle.std.specs.Prelude.{ℕ, ◌-◌, List, [], ◌∷◌, ◌++◌, length, replicate}
use Rattle.state.specs.State.{State, max_threads, max_channels, row_slots}
use Rattle.rules.specs.Start.{free_row, free_channel_row}

-- ---- rows of a file: ten numbers, and two that are 0 in every row

abbrev row : ℕ → ℕ → ℕ → ℕ → ℕ → ℕ → ℕ → ℕ → ℕ → ℕ → List ℕ
row a b c d e f g h i j = a ∷ b ∷ c ∷ d ∷ e ∷ f ∷ g ∷ h ∷ i ∷ j ∷ 0 ∷ 0 ∷ []

-- the header has the counts of types, definitions, slots, nodes, branches and ports
abbrev pub header : ℕ → ℕ → ℕ → ℕ → ℕ → ℕ → List ℕ
header types definitions slots nodes branches ports = row 1 types definitions slots nodes branches ports 0 0 0

-- a type of channels: what they carry is channels of another type, or numbers
abbrev pub carrying : ℕ → List ℕ
carrying type = row 2 type 0 0 0 0 0 0 0 0

abbrev pub of_numbers : List ℕ
of_numbers = carrying 0

-- a definition has counts of parameters, slots and nodes, and a slot has a type, 0 for numbers
abbrev pub definition : ℕ → ℕ → ℕ → List ℕ
definition parameters slots nodes = row 3 parameters slots nodes 0 0 0 0 0 0

abbrev pub slot : ℕ → List ℕ
slot type = row 4 type 0 0 0 0 0 0 0 0

-- a node is an end, a choice of so many branches, or a call of a definition, here with two arguments
abbrev pub ending : List ℕ
ending = row 5 0 0 0 0 0 0 0 0 0

abbrev pub choice : ℕ → List ℕ
choice branches = row 5 1 branches 0 0 0 0 0 0 0

abbrev pub call : ℕ → ℕ → ℕ → List ℕ
call callee first second = row 5 2 callee first second 0 0 0 0 0

-- a branch has a guard, with two operands, and an action, with the operands a, b and c and the next node
abbrev branch : ℕ → ℕ → ℕ → ℕ → ℕ → ℕ → ℕ → ℕ → List ℕ
branch guard x y action a b c next = row 6 guard x y action a b c next 0

-- branches without a guard
abbrev pub pass : ℕ → List ℕ
pass next = branch 0 0 0 0 0 0 0 next

abbrev pub send : ℕ → ℕ → ℕ → List ℕ
send a b next = branch 0 0 0 1 a b 0 next

abbrev pub receive : ℕ → ℕ → ℕ → List ℕ
receive a b next = branch 0 0 0 2 a b 0 next

abbrev pub new : ℕ → ℕ → List ℕ
new a next = branch 0 0 0 3 a 0 0 next

abbrev pub spawn : ℕ → ℕ → List ℕ
spawn child next = row 6 0 0 0 4 0 0 0 next child

abbrev pub set : ℕ → ℕ → ℕ → List ℕ
set a number next = branch 0 0 0 5 a number 0 next

abbrev pub add : ℕ → ℕ → ℕ → ℕ → List ℕ
add a b c next = branch 0 0 0 6 a b c next

-- branches with a guard: go on if a slot equals a number, and receive if a slot is below a number
abbrev pub pass_if_equal : ℕ → ℕ → ℕ → List ℕ
pass_if_equal x number next = branch 1 x number 0 0 0 0 next

abbrev pub receive_if_below : ℕ → ℕ → ℕ → ℕ → ℕ → List ℕ
receive_if_below x number a b next = branch 2 x number 2 a b 0 next

-- ---- rows of a state

-- a thread that is ready at a node, or waits there, with these in its first slots and 0 in the others
abbrev slots : List ℕ → List ℕ
slots values = values ++ replicate (row_slots - length values) 0

abbrev pub ready_at : ℕ → List ℕ → List ℕ
ready_at node values = 1 ∷ node ∷ slots values

abbrev pub waiting_at : ℕ → List ℕ → List ℕ
waiting_at node values = 2 ∷ node ∷ slots values

-- a channel of a type with its two counts, that of the holders and that of the holders that wait
abbrev pub channel_with : ℕ → ℕ → ℕ → List ℕ
channel_with type holders waiting = type ∷ holders ∷ waiting ∷ []

-- a state of all its rows; and one of these threads and these channels, in which all rows behind them are free
abbrev pub state_of_rows : List ℕ → List (List ℕ) → List (List ℕ) → State
state_of_rows marks threads channels = record { marks = marks; threads = threads; channels = channels }

abbrev pub state_with : List ℕ → List (List ℕ) → List (List ℕ) → State
state_with marks threads channels =
    state_of_rows marks (threads ++ replicate (max_threads - length threads) free_row) (channels ++ replicate (max_channels - length channels) free_channel_row)
