-- The loaded table: one row of twelve numbers for each line of the file, and rows of 0 after them. Rows and numbers are counted from 0, so that
-- line i is row i - 1 and field k is number k - 1; Fields.antt has the numbers of the fields by name. A number is its 16-bit pattern.
use Rattle.std.specs.Prelude.{ℕ, ◌+◌, List}
use Rattle.numbers.specs.Rows.{rows, at}
use Rattle.numbers.specs.Bytes.{shorts}
use Rattle.table.specs.Fields as Field

abbrev pub Table : Type 0
Table = List (List ℕ)

-- ---- the limits of the format

-- the rows of a table, the last of them, and the numbers of a row
abbrev pub max_rows : ℕ
max_rows = 865

abbrev pub last_row : ℕ
last_row = 864

abbrev pub row_numbers : ℕ
row_numbers = 12

-- the numbers of a table, and the bytes of its buffer
abbrev pub table_numbers : ℕ
table_numbers = 10380

abbrev pub table_length : ℕ
table_length = 20760

-- the header's counts
abbrev pub max_types : ℕ
max_types = 16

abbrev pub max_definitions : ℕ
max_definitions = 16

abbrev pub max_slots : ℕ
max_slots = 256

abbrev pub max_nodes : ℕ
max_nodes = 192

abbrev pub max_branches : ℕ
max_branches = 384

abbrev pub max_ports : ℕ
max_ports = 8

-- a definition's parameters, slots and nodes, and a choice's branches
abbrev pub max_parameters : ℕ
max_parameters = 8

abbrev pub max_own_slots : ℕ
max_own_slots = 16

abbrev pub max_own_nodes : ℕ
max_own_nodes = 192

abbrev pub max_own_branches : ℕ
max_own_branches = 8

-- the table that a buffer of bytes holds
abbrev pub table_of : List ℕ → Table
table_of b = rows max_rows row_numbers (shorts b)

module _ (tb : Table) where
  -- the header's counts
  abbrev pub types : ℕ
  types = at tb 0 Field.types

  abbrev pub definitions : ℕ
  definitions = at tb 0 Field.definitions

  abbrev pub slots : ℕ
  slots = at tb 0 Field.slots

  abbrev pub nodes : ℕ
  nodes = at tb 0 Field.nodes

  abbrev pub branches : ℕ
  branches = at tb 0 Field.branches

  abbrev pub ports : ℕ
  ports = at tb 0 Field.ports

  -- the first row of each kind: the header is row 0 and type t is row t
  abbrev pub definition_row : ℕ
  definition_row = 1 + types

  abbrev pub slot_row : ℕ
  slot_row = definition_row + definitions

  abbrev pub node_row : ℕ
  node_row = slot_row + slots

  abbrev pub branch_row : ℕ
  branch_row = node_row + nodes

  -- the number of lines that the header promises
  abbrev pub line_total : ℕ
  line_total = branch_row + branches

  -- the type that a channel of type t carries
  abbrev pub carried : ℕ → ℕ
  carried t = at tb t Field.carried

  -- of definition d: its parameters, slots and nodes
  abbrev pub parameters : ℕ → ℕ
  parameters d = at tb (definition_row + d) Field.parameters

  abbrev pub slot_count : ℕ → ℕ
  slot_count d = at tb (definition_row + d) Field.own_slots

  abbrev pub node_count : ℕ → ℕ
  node_count d = at tb (definition_row + d) Field.own_nodes
