-- The rental-shop profile (document 02, S-3): which calls it allows, how many threads a procedure can come to have, and what the check of a table answers.
-- Nodes are counted over the whole file, branches within their choice.
use Rattle.profile.specs.declared.ProfileRefusal.TheVariants as ProfileRefusal
use Rattle.profile.specs.Answers.{Profiled}
use Rattle.std.specs.Prelude.{ℕ, zero, suc, ◌+◌, max, Bool, not, ◌&&◌, ◌||◌, cond, List, ltb, leb, eqb, length, Err, Ok}
use Rattle.numbers.specs.Rows.{at}
use Rattle.numbers.specs.Search.{every, some}
use Rattle.table.specs.Fields as Field
use Rattle.table.specs.Table.{Table, table_length, table_of, nodes}
use Rattle.table.specs.Layout.{start, branch_count, definition_of}
use Rattle.table.specs.declared.Part.TheVariants.{Nodes}
use Rattle.loader.specs.Load.{accepted}
use Rattle.state.specs.State.{max_threads}
use Rattle.rules.specs.Program.{kind_of, callee, branch_at, next_of, child_of}

-- the largest of the numbers f 0 to f (n - 1); 0 where there are none
unfoldable pub largest : (ℕ → ℕ) → ℕ → ℕ
largest f zero = 0
largest f (suc n) = max (largest f n) (f n)

module _ (tb : Table) where
  -- ---- ground 16: calls

  -- branch i of node n is a spawn
  unfoldable pub is_spawn : ℕ → ℕ → Bool
  is_spawn n i = eqb (at tb (branch_at tb n i) Field.action) 4

  -- definition d has a spawn: it is a branch of one of its nodes, whether its guard can be true or not
  unfoldable pub node_spawns : ℕ → Bool
  node_spawns n = some (is_spawn n) (branch_count tb n)

  unfoldable pub spawns_in : ℕ → ℕ → Bool
  spawns_in d n = eqb (definition_of tb n) d && node_spawns n

  unfoldable pub has_spawn : ℕ → Bool
  has_spawn d = some (spawns_in d) (nodes tb)

  -- a call in definition d goes to a definition e of a higher number, or to its own where that has no spawn
  unfoldable pub call_allowed : ℕ → ℕ → Bool
  call_allowed d e = ltb d e || (eqb e d && not (has_spawn d))

  -- every call of the table, in definitions that no thread enters too
  unfoldable pub node_allowed : ℕ → Bool
  node_allowed n = not (eqb (kind_of tb n) 2) || call_allowed (definition_of tb n) (callee tb n)

  unfoldable pub calls_allowed : Bool
  calls_allowed = every node_allowed (nodes tb)

  -- ---- ground 17: thread bounds

  -- the bound of node n, where the nodes to which it leads have the bounds that `bound` says: 1 for an end and for a call of a definition by itself; for
  -- another call the bound of the definition that is called, which is that of its first node; for a choice the largest over its branches, a branch having
  -- the bound of its next node and, for a spawn, that of the child's node besides
  module _ (bound : ℕ → ℕ) where
    unfoldable pub branch_bound_by : ℕ → ℕ → ℕ
    branch_bound_by n i =
        cond (is_spawn n i) (bound (next_of tb n (branch_at tb n i)) + bound (child_of tb n (branch_at tb n i))) (bound (next_of tb n (branch_at tb n i)))

    unfoldable pub call_bound_by : ℕ → ℕ
    call_bound_by n = cond (eqb (callee tb n) (definition_of tb n)) 1 (bound (start tb Nodes (callee tb n)))

    unfoldable pub node_bound_by : ℕ → ℕ
    node_bound_by n =
        cond (eqb (kind_of tb n) 1) (largest (branch_bound_by n) (branch_count tb n))
        (cond (eqb (kind_of tb n) 2) (call_bound_by n) 1)

  -- so for k nodes in a row. Where the calls are allowed every node leads to later nodes alone, and no row is longer than the table has nodes: there
  -- `node_bound n` is `node_bound_by node_bound n` (`Equations.antt`), and no other bounds fit document 02's sentences (`profile_laws/specs/Sentences.antt`)
  unfoldable pub bound_in : ℕ → ℕ → ℕ
  bound_in zero n = 1
  bound_in (suc k) n = node_bound_by (bound_in k) n

  unfoldable pub node_bound : ℕ → ℕ
  node_bound n = bound_in (nodes tb) n

  -- of branch i of node n, and of definition d
  unfoldable pub branch_bound : ℕ → ℕ → ℕ
  branch_bound n i = branch_bound_by node_bound n i

  unfoldable pub definition_bound : ℕ → ℕ
  definition_bound d = node_bound (start tb Nodes d)

-- ---- the check: grounds 8, 9, 16 and 17 in this order; of a table that passes, the thread bound of definition 0
unfoldable pub within_rows : ℕ → Profiled
within_rows threads = cond (leb threads max_threads) (Ok threads) (Err ProfileRefusal.ManyThreads)

unfoldable pub profile_of : Table → Profiled
profile_of tb = cond (calls_allowed tb) (within_rows (definition_bound tb 0)) (Err ProfileRefusal.ForbiddenCall)

unfoldable pub profile_call : List ℕ → Profiled
profile_call table =
    cond (eqb (length table) table_length)
    (cond (accepted table) (profile_of (table_of table)) (Err ProfileRefusal.WrongTable))
    (Err ProfileRefusal.WrongLength)

-- the numbers of document 02 for each answer: the refusal, 0 where there is none, and the threads, 0 where the call is refused
unfoldable pub refusal_number : Profiled → ℕ
refusal_number (Ok n) = 0
refusal_number (Err ProfileRefusal.WrongLength) = 8
refusal_number (Err ProfileRefusal.WrongTable) = 9
refusal_number (Err ProfileRefusal.ForbiddenCall) = 16
refusal_number (Err ProfileRefusal.ManyThreads) = 17

unfoldable pub threads_number : Profiled → ℕ
threads_number (Ok n) = n
threads_number (Err ProfileRefusal.WrongLength) = 0
threads_number (Err ProfileRefusal.WrongTable) = 0
threads_number (Err ProfileRefusal.ForbiddenCall) = 0
threads_number (Err ProfileRefusal.ManyThreads) = 0
