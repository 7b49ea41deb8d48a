-- The fields of a line by document 01's names. Document 01 counts the fields of a line from 1, and `at` counts the numbers of a row from 0: field 9 of a
-- branch, its next node, is number 8 of its row. Each name below is the number that `at` takes.
use Rattle.std.specs.Prelude.{ℕ}

-- ---- every line: its kind
abbrev pub kind : ℕ
kind = 0

-- ---- the header: how many lines of each kind there are, and the ports
abbrev pub types : ℕ
types = 1

abbrev pub definitions : ℕ
definitions = 2

abbrev pub slots : ℕ
slots = 3

abbrev pub nodes : ℕ
nodes = 4

abbrev pub branches : ℕ
branches = 5

abbrev pub ports : ℕ
ports = 6

-- ---- a type: the type that it carries
abbrev pub carried : ℕ
carried = 1

-- ---- a definition: its parameters, its own slots and its own nodes
abbrev pub parameters : ℕ
parameters = 1

abbrev pub own_slots : ℕ
own_slots = 2

abbrev pub own_nodes : ℕ
own_nodes = 3

-- ---- a slot: its type
abbrev pub type : ℕ
type = 1

-- ---- a node: whether it is an end, a choice or a call; a choice's branches; the definition that a call enters, and the first of its arguments
abbrev pub node_kind : ℕ
node_kind = 1

abbrev pub own_branches : ℕ
own_branches = 2

abbrev pub callee : ℕ
callee = 2

abbrev pub arguments : ℕ
arguments = 3

-- ---- a branch: its guard with the first and the second operand, its action with a, b and c, its next node and, for a spawn, the child's node
abbrev pub guard : ℕ
guard = 1

abbrev pub first : ℕ
first = 2

abbrev pub second : ℕ
second = 3

abbrev pub action : ℕ
action = 4

abbrev pub a : ℕ
a = 5

abbrev pub b : ℕ
b = 6

abbrev pub c : ℕ
c = 7

abbrev pub next : ℕ
next = 8

abbrev pub child : ℕ
child = 9
