-- Grounds 1 to 7 as document 01 words them, in its order: when a line of a file is at fault on a ground. A reader has to believe this page, the layout of a
-- table (`table/specs`) and its paths (`Paths.antt`). `Refused/Laws.antt` proves of every file, accepted or refused, that the verdict names the lowest ground
-- with a line at fault, and the first such line. Line l is row l - 1 of the table, and a line's fields after its kind are places 1 to 11. Assumes nothing.
pub mod Numbers
pub mod Form
pub mod Ranges
pub mod Typing
pub mod Flow
pub mod Laws
use Rattle.std.specs.Prelude.{ℕ, suc, ◌+◌, ◌-◌, ◌*◌, ◌<◌, ◌≡◌, ◌⊎◌, ◌≢◌, cond, List, [], ◌∷◌, eqb, ℤ, pos, negsuc, ◌+ℤ◌, length, get_or, replicate, ◌≤ℤ◌}
use Rattle.std.proofs.Math.IntN.{pred_ℤ}
use Rattle.std.specs.Int.{w16}
use Rattle.std.proofs.Common.{to_z}
use Rattle.numbers.specs.Rows.{at}
use Rattle.text.specs.Text.{figures, right_justified, field_of}
use Rattle.table.specs.Fields as Field
use Rattle.table.specs.Table.{Table, max_rows, row_numbers, max_types, max_definitions, max_slots, max_nodes, max_branches, max_ports, max_parameters, max_own_slots, max_own_nodes, max_own_branches, types, nodes, ports, definition_row, node_row, branch_row, carried, parameters}
use Rattle.table.specs.Layout.{blocks, lines, size, start, branch_count, definition_of, node_of, slot_type}
use Rattle.table.specs.Form.{kind_due}
use Rattle.table.specs.Roles.{operand_role}
use Rattle.table.specs.declared.Part.{Part}
use Rattle.table.specs.declared.Part.TheVariants.{Nodes}
use Rattle.table.specs.declared.Role.{Role}
use Rattle.table.specs.declared.Role.TheVariants.{Unused, Constant, ReadNumber, ReadChannel, ReadCarried, WriteNumber, WriteChannel, WriteCarried}
use Rattle.file.specs.File.{line_length, line_count, file_table}
use Rattle.loader.specs.declared.Ground.{Ground}
use Rattle.loader.specs.declared.Ground.TheVariants.{Lines, Field, Header, Total, Kind, Sums, Range, Types, Unwritten, Unreachable}
use Rattle.loader_laws.specs.Sums.{sum_z}
use Rattle.loader_laws.specs.Paths.{row_of, CallReads, BranchReads, Reachable, SurelyWritten}

-- ---- whole numbers

-- the numbers from the least to the most
pub record Limits : Type 0 where
  pub least : ℤ
  pub most : ℤ

unfoldable pub from : ℕ → ℕ → Limits
from a b = record { least = pos a; most = pos b }

-- an unused field is 0
abbrev pub unused : Limits
unused = from 0 0

-- the numbers of n things that are counted from 0
unfoldable pub numbered : ℤ → Limits
numbered n = record { least = pos 0; most = pred_ℤ n }

-- the numbers that a field can have: -32768 to 32767
unfoldable pub any_number : Limits
any_number = record { least = negsuc 32767; most = pos 32767 }

abbrev pub Within : Limits → ℤ → Type 0
Within r z = (r.least ≤ℤ z) × (z ≤ℤ r.most)

-- a number in decimal: its figures, and a minus sign before them if it is negative
unfoldable pub decimal : ℤ → List ℕ
decimal (pos n) = figures n
decimal (negsuc n) = 45 ∷ figures (suc n)

-- the number in decimal in the six characters of a field, after blanks
abbrev pub printed : ℤ → List ℕ
printed z = right_justified 6 (decimal z)

-- the whole number that a table has in place k of row r. Where ground 2 finds nothing, it is the number whose print the field is (`Refused/Form.antt`:
-- `field_number`)
abbrev pub number : Table → ℕ → ℕ → ℤ
number tb r k = to_z w16 (at tb r k)

-- ---- grounds 1 and 2

module _ (file : List ℕ) where
  -- not whole lines, or over 865 of them
  abbrev pub NotWhole : Type 0
  NotWhole = (¬ ((n : ℕ) × (length file ≡ n * line_length))) ⊎ (max_rows * line_length < length file)

  -- so, or empty. Loading never asks this of an empty text: a file of no bytes stands for another (document 02, S-2; `EmptyFile.antt`)
  abbrev pub NotLines : Type 0
  NotLines = (length file ≡ 0) ⊎ NotWhole

  -- in row r: a field that is the print of no number, or another character for the newline
  abbrev pub Malformed : ℕ → Type 0
  Malformed r = ((k : ℕ) × (k < row_numbers) × ((z : ℤ) → Within any_number z → field_of file r k ≢ printed z)) ⊎ (get_or file (r * line_length + 72) 0 ≢ 10)

-- ---- ground 3, in the order of its tests

-- the header: types, definitions, slots, nodes, branches, ports
abbrev pub header_limits : List Limits
header_limits = from 0 max_types ∷ from 1 max_definitions ∷ from 0 max_slots ∷ from 1 max_nodes ∷ from 0 max_branches ∷ from 0 max_ports ∷ []

module _ (tb : Table) where
  -- a count out of its limits
  abbrev pub HeaderWrong : Type 0
  HeaderWrong = (k : ℕ) × (k < 6) × (¬ Within (get_or header_limits k unused) (number tb 0 (suc k)))

  -- a file has n lines, and not the header's and those of its first five counts
  abbrev pub TotalWrong : ℕ → Type 0
  TotalWrong n = pos n ≢ pos 1 +ℤ sum_z (λ k. number tb 0 (suc k)) 5

  -- another kind than the header's counts give row r
  abbrev pub KindWrong : ℕ → Type 0
  KindWrong r = number tb r Field.kind ≢ pos (kind_due tb r)

  -- the definitions' slots, the definitions' nodes or the choices' branches add up to another number than the header's
  abbrev pub SumsWrong : Type 0
  SumsWrong = (p : Part) × (sum_z (λ i. to_z w16 (size tb p i)) (blocks tb p) ≢ pos (lines tb p))

-- ---- ground 4. Each line has the limits of its fields; a field past those that are listed is unused

-- an operand's limits by its role, in a definition of s slots
unfoldable pub role_limits : Role → ℤ → Limits
role_limits Unused s = unused
role_limits Constant s = any_number
role_limits ReadNumber s = numbered s
role_limits ReadChannel s = numbered s
role_limits ReadCarried s = numbered s
role_limits WriteNumber s = numbered s
role_limits WriteChannel s = numbered s
role_limits WriteCarried s = numbered s

module _ (tb : Table) where
  -- how many slots and nodes definition d has
  abbrev pub slots_of : ℕ → ℤ
  slots_of d = number tb (definition_row tb + d) Field.own_slots

  abbrev pub nodes_of : ℕ → ℤ
  nodes_of d = number tb (definition_row tb + d) Field.own_nodes

  -- a type's line, and a slot's: a type, of which the header says how many there are
  unfoldable pub type_limits : List Limits
  type_limits = record { least = pos 0; most = number tb 0 Field.types } ∷ []

  -- next and child of a branch of node n, in definition d: the nodes of d past n, as d numbers them
  unfoldable pub onward : ℕ → ℕ → Limits
  onward n d = record { least = pos (suc (n - start tb Nodes d)); most = pred_ℤ (nodes_of d) }

module _ (tb : Table) (r : ℕ) where
  -- a definition's: parameters, slots, nodes
  unfoldable pub definition_limits : List Limits
  definition_limits = from 0 max_parameters ∷ record { least = number tb r Field.parameters; most = pos max_own_slots } ∷ from 1 max_own_nodes ∷ []

  -- a node's, in definition d: an end; a choice, and how many branches; a call, the definition called and for each of its parameters a slot of d
  unfoldable pub call_limits : ℕ → List Limits
  call_limits d = numbered (number tb 0 Field.definitions) ∷ replicate (parameters tb (at tb r Field.callee)) (numbered (slots_of tb d))

  unfoldable pub node_limits : ℕ → List Limits
  node_limits d = from 0 2 ∷ cond (eqb (at tb r Field.node_kind) 1) (from 1 max_own_branches ∷ []) (cond (eqb (at tb r Field.node_kind) 2) (call_limits d) [])

  -- a branch's, of node n in definition d: guard, its two operands, action, its three operands, next, and child if it is a spawn
  unfoldable pub operand_limits : ℕ → ℕ → Limits
  operand_limits d k = role_limits (operand_role tb r k) (slots_of tb d)

  unfoldable pub branch_limits : ℕ → ℕ → List Limits
  branch_limits n d =
      from 0 4 ∷ operand_limits d 0 ∷ operand_limits d 1
      ∷ from 0 7 ∷ operand_limits d 2 ∷ operand_limits d 3 ∷ operand_limits d 4
      ∷ onward tb n d ∷ cond (eqb (at tb r Field.action) 4) (onward tb n d) unused ∷ []

  -- by the line's kind
  unfoldable pub line_limits : List Limits
  line_limits =
      cond (eqb (at tb r Field.kind) 1) header_limits
      (cond (eqb (at tb r Field.kind) 2) (type_limits tb)
      (cond (eqb (at tb r Field.kind) 3) definition_limits
      (cond (eqb (at tb r Field.kind) 4) (type_limits tb)
      (cond (eqb (at tb r Field.kind) 5) (node_limits (definition_of tb (r - node_row tb)))
      (branch_limits (node_of tb (r - branch_row tb)) (definition_of tb (node_of tb (r - branch_row tb))))))))

  -- a field out of its limits. The header's counts are among them, which ground 3 has passed
  abbrev pub OutOfRange : Type 0
  OutOfRange = (k : ℕ) × (k < 11) × (¬ Within (get_or line_limits k unused) (number tb r (suc k)))

-- ---- ground 5. Type 0 is a number, every other type a channel. Where this ground counts, each field is in its limits and its pattern is its number

module _ (tb : Table) where
  -- definition 0 has the ports for its parameters, all of type 1, which carries numbers
  pub record PortsAgree : Type 0 where
    pub as_many : parameters tb 0 ≡ ports tb
    pub of_type : (k : ℕ) → k < ports tb → slot_type tb 0 k ≡ 1
    pub numbers : 0 < ports tb → (0 < types tb) × (carried tb 1 ≡ 0)

  -- the call in row r, of definition d: an argument has its parameter's type
  abbrev pub CallAgrees : ℕ → ℕ → Type 0
  CallAgrees r d = (i : ℕ) → i < parameters tb (at tb r Field.callee) → slot_type tb d (at tb r (Field.arguments + i)) ≡ slot_type tb (at tb r Field.callee) i

  -- slot k of definition d
  abbrev pub IsNumber : ℕ → ℕ → Type 0
  IsNumber d k = slot_type tb d k ≡ 0

  abbrev pub IsChannel : ℕ → ℕ → Type 0
  IsChannel d k = slot_type tb d k ≢ 0

  -- the branch in row r, of definition d: its guard is in place 1 with operands in 2 and 3, its action in place 4 with a, b, c in 5, 6, 7
  pub record BranchAgrees (r d : ℕ) : Type 0 where
    pub constant_guard : (at tb r Field.guard ≡ 1) ⊎ (at tb r Field.guard ≡ 2) → IsNumber d (at tb r Field.first)
    pub slot_guard : (at tb r Field.guard ≡ 3) ⊎ (at tb r Field.guard ≡ 4) → IsNumber d (at tb r Field.first) × IsNumber d (at tb r Field.second)
    pub send_receive : (at tb r Field.action ≡ 1) ⊎ (at tb r Field.action ≡ 2) → IsChannel d (at tb r Field.a) × (slot_type tb d (at tb r Field.b) ≡ carried tb (slot_type tb d (at tb r Field.a)))
    pub new_channel_lem : at tb r Field.action ≡ 3 → IsChannel d (at tb r Field.a)
    pub set_number : at tb r Field.action ≡ 5 → IsNumber d (at tb r Field.a)
    pub sums : (at tb r Field.action ≡ 6) ⊎ (at tb r Field.action ≡ 7) → IsNumber d (at tb r Field.a) × IsNumber d (at tb r Field.b) × IsNumber d (at tb r Field.c)

module _ (tb : Table) (r : ℕ) where
  -- row r is the line of a node n, and P n
  abbrev pub AtNode : (ℕ → Type 0) → Type 0
  AtNode P = (n : ℕ) × (n < nodes tb) × (r ≡ node_row tb + n) × P n

  -- row r is the line of a branch of a node n, and P n
  abbrev pub AtBranch : (ℕ → Type 0) → Type 0
  AtBranch P = (n : ℕ) × (i : ℕ) × (n < nodes tb) × (i < branch_count tb n) × (r ≡ row_of tb n i) × P n

  -- the ports' rule is at fault in definition 0's line
  abbrev pub TypesDisagree : Type 0
  TypesDisagree =
      ((r ≡ definition_row tb) × (¬ PortsAgree tb))
      ⊎ (AtNode (λ n. (at tb r Field.node_kind ≡ 2) × (¬ CallAgrees tb r (definition_of tb n)))
      ⊎ AtBranch (λ n. ¬ BranchAgrees tb r (definition_of tb n)))

  -- ---- ground 6: a slot is read that is no parameter, and that some path leaves unwritten

  abbrev pub ReadsUnwritten : Type 0
  ReadsUnwritten =
      AtNode (λ n. (k : ℕ) × CallReads tb n k × (¬ SurelyWritten tb n k))
      ⊎ AtBranch (λ n. (k : ℕ) × BranchReads tb r k × (¬ SurelyWritten tb n k))

  -- ---- ground 7: no path leads to the node

  abbrev pub NotReached : Type 0
  NotReached = AtNode (λ n. ¬ Reachable tb n)

-- ---- the grounds

-- line l is one of the file's, and its row is at fault
abbrev pub OnLine : List ℕ → (ℕ → Type 0) → ℕ → Type 0
OnLine file P l = (r : ℕ) × (r < line_count file) × (l ≡ suc r) × P r

-- a file is at fault in line l on a ground
unfoldable pub Refused : List ℕ → Ground → ℕ → Type 0
Refused file Lines l = (l ≡ 0) × NotLines file
Refused file Field l = OnLine file (Malformed file) l
Refused file Header l = (l ≡ 1) × HeaderWrong (file_table file)
Refused file Total l = (l ≡ 1) × TotalWrong (file_table file) (line_count file)
Refused file Kind l = OnLine file (KindWrong (file_table file)) l
Refused file Sums l = (l ≡ 1) × SumsWrong (file_table file)
Refused file Range l = OnLine file (OutOfRange (file_table file)) l
Refused file Types l = OnLine file (TypesDisagree (file_table file)) l
Refused file Unwritten l = OnLine file (ReadsUnwritten (file_table file)) l
Refused file Unreachable l = OnLine file (NotReached (file_table file)) l

-- ---- the lowest of them, and its first line

-- the order in which the grounds are tested, ground 3 in four parts
unfoldable pub rank : Ground → ℕ
rank Lines = 0
rank Field = 1
rank Header = 2
rank Total = 3
rank Kind = 4
rank Sums = 5
rank Range = 6
rank Types = 7
rank Unwritten = 8
rank Unreachable = 9

-- line l is the first with R on ground g, and no ground before g has a line with R
abbrev pub LowestOf : (Ground → ℕ → Type 0) → Ground → ℕ → Type 0
LowestOf R g l = R g l × ((m : ℕ) → m < l → ¬ R g m) × ((h : Ground) (m : ℕ) → rank h < rank g → ¬ R h m)
