-- Paths. One starts at a definition's first node and goes on from node to node: along a branch to its next node, or to the child that it spawns.
-- Nodes are counted over the whole file.
pub mod Writes
pub mod Pass
pub mod Laws
use Rattle.std.specs.Prelude.{ℕ, ◌+◌, ◌<◌, ◌≡◌, ◌⊎◌, true}
use Rattle.numbers.specs.Rows.{at}
use Rattle.table.specs.Fields as Field
use Rattle.table.specs.Table.{Table, nodes, node_row, branch_row, parameters}
use Rattle.table.specs.Layout.{start, branch_count, definition_of}
use Rattle.table.specs.Roles.{operand, operand_role, reads, writes}
use Rattle.table.specs.declared.Part.TheVariants.{Nodes, Branches}

module _ (tb : Table) where
  -- the first node of the definition that node n stands in
  abbrev pub first_node : ℕ → ℕ
  first_node n = start tb Nodes (definition_of tb n)

  -- the row of branch i of node n
  abbrev pub row_of : ℕ → ℕ → ℕ
  row_of n i = branch_row tb + (start tb Branches n + i)

  -- where the branch in row r leads, in a definition that starts at node f: to its next node, and a spawn to its child too
  abbrev pub Leads : ℕ → ℕ → ℕ → Type 0
  Leads f r t = (t ≡ f + at tb r Field.next) ⊎ ((at tb r Field.action ≡ 4) × (t ≡ f + at tb r Field.child))

  -- branch i of node n leads to node t
  pub record Edge (n i t : ℕ) : Type 0 where
    pub branch : i < branch_count tb n
    pub leads : Leads (first_node n) (row_of n i) t

  -- the paths to a node
  pub data Path : ℕ → Type 0 where
    begin : {n : ℕ} → n < nodes tb → n ≡ first_node n → Path n
    follow : {n t : ℕ} → Path n → (i : ℕ) → Edge n i t → Path t

  -- the call at node n reads slot k, as one of its arguments
  abbrev pub CallReads : ℕ → ℕ → Type 0
  CallReads n k = (j : ℕ) × (at tb (node_row tb + n) Field.node_kind ≡ 2) × (j < parameters tb (at tb (node_row tb + n) Field.callee)) × (k ≡ at tb (node_row tb + n) (Field.arguments + j))

  -- the branch in row r reads slot k, as one of its operands
  abbrev pub BranchReads : ℕ → ℕ → Type 0
  BranchReads r k = (j : ℕ) × (j < 5) × (reads (operand_role tb r j) ≡ true) × (k ≡ operand tb r j)

  -- the branch in row r writes slot k, as one of its operands
  abbrev pub BranchWrites : ℕ → ℕ → Type 0
  BranchWrites r k = (j : ℕ) × (j < 5) × (writes (operand_role tb r j) ≡ true) × (k ≡ operand tb r j)

  -- a branch on the path writes slot k
  unfoldable pub Wrote : {n : ℕ} → ℕ → Path n → Type 0
  Wrote k (begin b e) = ⊥
  Wrote k (follow {n} p i e) = Wrote k p ⊎ BranchWrites (row_of n i) k

  -- slot k is read at node n, by its call or by one of its branches
  abbrev pub IsRead : ℕ → ℕ → Type 0
  IsRead n k = CallReads n k ⊎ ((i : ℕ) × (i < branch_count tb n) × BranchReads (row_of n i) k)

  -- some path leads to node n
  abbrev pub Reachable : ℕ → Type 0
  Reachable n = Path n

  -- whichever way node n is reached, slot k has a value there: it is a parameter, or each path to n has written it
  abbrev pub SurelyWritten : ℕ → ℕ → Type 0
  SurelyWritten n k = (k < parameters tb (definition_of tb n)) ⊎ ((p : Path n) → Wrote k p)
