-- Which slots a path may leave unwritten, by one pass upward over the nodes: next and child are above their node, so that all that leads to a
-- node has been passed when the node is. Grounds 6 and 7 follow.
pub mod Laws
use Rattle.std.specs.Prelude.{ℕ, zero, suc, ◌+◌, ◌-◌, Bool, true, false, not, ◌&&◌, ◌||◌, cond, List, [], leb, eqb, get_or, set}
use Rattle.numbers.specs.Rows.{at}
use Rattle.numbers.specs.Search.{every, tabulate}
use Rattle.table.specs.Fields as Field
use Rattle.table.specs.Table.{Table, max_nodes, nodes, node_row, branch_row, parameters}
use Rattle.table.specs.Layout.{start, branch_count, definition_of, node_of}
use Rattle.table.specs.Roles.{operand_count, operand, operand_role, reads, writes}
use Rattle.table.specs.declared.Part.TheVariants.{Nodes, Branches}

-- for each node and each number k below 17, whether some path to the node leaves slot k unwritten. A definition has at most 16 slots: no slot
-- has the number 16 and no path writes it, so that gap 16 says whether there is a path at all
abbrev pub Gaps : Type 0
Gaps = List (List Bool)

abbrev pub gap_count : ℕ
gap_count = 17

abbrev pub path_gap : ℕ
path_gap = 16

-- the slot that the branch in row r writes; 17, which is no slot and no gap, where it writes none
unfoldable pub slot_written : Table → ℕ → ℕ
slot_written tb r =
    cond (writes (operand_role tb r 2)) (operand tb r 2)
    (cond (writes (operand_role tb r 3)) (operand tb r 3) gap_count)

-- what goes on past a write of slot w, and two sets of gaps in one
unfoldable pub past_write : ℕ → List Bool → List Bool
past_write w m = tabulate gap_count (λ k. get_or m k false && not (eqb k w))

unfoldable pub either : List Bool → List Bool → List Bool
either m o = tabulate gap_count (λ k. get_or m k false || get_or o k false)

-- node t is also reached with the gaps m
unfoldable pub arrive : Gaps → ℕ → List Bool → Gaps
arrive ms t m = set ms t (either (get_or ms t []) m)

-- node n has gap k
unfoldable pub has_gap : Gaps → ℕ → ℕ → Bool
has_gap ms n k = get_or (get_or ms n []) k false

module _ (tb : Table) where
  -- a path begins at its definition's first node, with the parameters written
  unfoldable pub begins : ℕ → ℕ → Bool
  begins n k = eqb n (start tb Nodes (definition_of tb n)) && leb (parameters tb (definition_of tb n)) k

  unfoldable pub beginning : Gaps
  beginning = tabulate max_nodes (λ n. tabulate gap_count (begins n))

  -- the branch in row r, of a node whose definition starts at node f and which has the gaps m: to its next node, and a spawn to its child too
  unfoldable pub branch_followed : ℕ → List Bool → ℕ → Gaps → Gaps
  branch_followed f m r ms =
      cond (eqb (at tb r Field.action) 4)
      (arrive (arrive ms (f + at tb r Field.next) (past_write (slot_written tb r) m)) (f + at tb r Field.child) (past_write (slot_written tb r) m))
      (arrive ms (f + at tb r Field.next) (past_write (slot_written tb r) m))

  -- the first i branches of node n, which has the gaps m
  unfoldable pub branches_followed : ℕ → List Bool → Gaps → ℕ → Gaps
  branches_followed n m ms zero = ms
  branches_followed n m ms (suc i) =
      branch_followed (start tb Nodes (definition_of tb n)) m (branch_row tb + (start tb Branches n + i)) (branches_followed n m ms i)

  -- all branches of node n, which has the gaps m
  abbrev pub node_followed : ℕ → List Bool → Gaps → Gaps
  node_followed n m ms = branches_followed n m ms (branch_count tb n)

  -- the nodes below n
  unfoldable pub flow_to : ℕ → Gaps
  flow_to zero = beginning
  flow_to (suc n) = node_followed n (get_or (flow_to n) n []) (flow_to n)

  unfoldable pub flow : Gaps
  flow = flow_to (nodes tb)

  -- some path to node n leaves slot k unwritten
  unfoldable pub may_lack : ℕ → ℕ → Bool
  may_lack n k = has_gap flow n k

  module _ (r : ℕ) where
    -- ground 6, of a call at node n and of a branch of node n: what is read is surely written
    unfoldable pub argument_written : ℕ → ℕ → Bool
    argument_written n i = not (may_lack n (at tb r (Field.arguments + i)))

    unfoldable pub call_written : ℕ → Bool
    call_written n = cond (eqb (at tb r Field.node_kind) 2) (every (argument_written n) (parameters tb (at tb r Field.callee))) true

    unfoldable pub operand_written : ℕ → ℕ → Bool
    operand_written n k = not (reads (operand_role tb r k) && may_lack n (operand tb r k))

    unfoldable pub row_written : Bool
    row_written =
        cond (eqb (at tb r Field.kind) 5) (call_written (r - node_row tb))
        (cond (eqb (at tb r Field.kind) 6) (every (operand_written (node_of tb (r - branch_row tb))) operand_count) true)

    unfoldable pub reads_unwritten : Bool
    reads_unwritten = not row_written

    -- ground 7: no path leads to the node
    unfoldable pub unreachable : Bool
    unreachable = eqb (at tb r Field.kind) 5 && not (may_lack (r - node_row tb) path_gap)
