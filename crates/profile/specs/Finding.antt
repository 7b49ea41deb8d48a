-- How the code finds bounds: capped at one more than there are rows, each kept once it is found; and how it marks the definitions that have a spawn.
pub mod Calls
use Rattle.std.specs.Prelude.{ℕ, suc, ◌+◌, ◌*◌, ◌-◌, ◌<◌, min, ◌≡◌, cond, List, ◌⊎◌, eqb, length, get_or, set}
use Rattle.numbers.specs.Count.{bit}
use Rattle.numbers.specs.Search.{some}
use Rattle.table.specs.Table.{Table, max_definitions, max_nodes, nodes}
use Rattle.table.specs.Layout.{definition_of}
use Rattle.state.specs.State.{max_threads}
use Rattle.rules.specs.Program.{kind_of, callee}
use Rattle.profile.specs.Profile.{node_spawns, spawns_in, node_bound}
use Rattle.profile.specs.declared.Onward.{Onward}
use Rattle.profile.specs.declared.Onward.TheVariants.{Nowhere, Definition, Branches}

-- a bound above the rows that there are is told as one more than these
abbrev pub above : ℕ
above = suc max_threads

unfoldable pub capped : ℕ → ℕ
capped x = min above x

module _ (tb : Table) where
  -- ---- bounds

  -- a list that has the bound of each node, or 0 where it is not found yet
  pub record Kept (l : List ℕ) : Type 0 where
    pub bounds : (n : ℕ) → n < nodes tb → (get_or l n 0 ≡ 0) ⊎ (get_or l n 0 ≡ capped (node_bound tb n))

  -- what the bound of node n rests on
  unfoldable pub onward : ℕ → Onward
  onward n =
      cond (eqb (kind_of tb n) 1) Branches
      (cond (eqb (kind_of tb n) 2) (cond (eqb (callee tb n) (definition_of tb n)) Nowhere (Definition (callee tb n))) Nowhere)

  -- what falls from a node to those on which its bound rests: the definitions that are left, and then the nodes. A node counts four, for itself, its choice and
  -- its branches are asked one after the other, and all nodes together come to less than a definition
  unfoldable pub rank : ℕ → ℕ
  rank n = (max_definitions - definition_of tb n) * 1000 + (max_nodes - n) * 4

  unfoldable pub definition_rank : ℕ → ℕ
  definition_rank d = (max_definitions - d) * 1000 + 999

  -- ---- spawns

  -- the marks l, with that of node n's definition set where the node has a spawn
  unfoldable pub marked_by : ℕ → List ℕ → List ℕ
  marked_by n l = cond (node_spawns tb n) (set l (definition_of tb n) 1) l

  -- a list that has 1 for each definition of which one of the first k nodes has a spawn, and 0 for the others
  pub record Spawning (k : ℕ) (l : List ℕ) : Type 0 where
    pub long : length l ≡ max_definitions
    pub marks : (d : ℕ) → d < max_definitions → get_or l d 0 ≡ bit (some (spawns_in tb d) k)
