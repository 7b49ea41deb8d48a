-- The agent of 002 that a state stands for. A node of a table stands for the process that begins there; a thread's slots are its environment; a waiting
-- thread has its offers as commitments; the channels in use are Δ. The bench is one thread more.
use Rattle.std.specs.Prelude.{ℕ, zero, suc, Bool, not, ◌&&◌, cond, List, [], ◌∷◌, ◌++◌, ltb, eqb, None, Option, Some}
use Rattle.numbers.specs.Rows.{at}
use Rattle.numbers.specs.Search.{tabulate}
use Rattle.numbers.specs.Signed.{widened}
use Rattle.table.specs.Fields as Field
use Rattle.table.specs.Table.{Table, nodes, parameters, slot_count}
use Rattle.table.specs.Layout.{start, branch_count, definition_of, slot_type}
use Rattle.table.specs.declared.Part.TheVariants.{Nodes}
use Rattle.state.specs.State.{State, max_channels, row_slots, stands_at, slot_of, in_use, is_waiting, type_in}
use Rattle.rules.specs.Program.{kind_of, callee, argument, branch_at, next_of, child_of, field_a, field_b, field_c, act_of, guard_holds}
use Rattle.rules.specs.declared.Direction.TheVariants.{Out, In}
use Rattle.rules.specs.declared.Act.{Act}
use Rattle.rules.specs.declared.Act.TheVariants.{Tau, Meeting, New, Spawn, Assignment}
use Rattle.published.specs.Syntax.{Expression, constant, plus, minus, Guard, always, equals, below, same, less, and_fits, Process, end, choice, invoke, Sum, nothing, branch, Prefix, tau, output, input, new_channel, new_thread, assign, waits}
use Rattle.published.specs.Agents.{Value, channel, number, Env, Commitment, gives, takes, Thread, thread, Channels, Agent, agent}
use Rattle.published.specs.Rules.{Ours}
use Rattle.published.specs.Fired.{Labels, ours_fire}

-- the word v as a value of type ty; -1 is no channel
unfoldable pub value_as : ℕ → ℕ → Option Value
value_as ty v = cond (eqb ty 0) (Some (number v)) (cond (ltb v max_channels) (Some (channel v)) None)

-- an environment without the unbound variables at its end, so that environments that bind the same are the same list (`Trimmed.antt`: `trimmed_same`)
unfoldable pub in_front : Option Value → Env → Env
in_front None [] = []
in_front None (o ∷ δ) = None ∷ o ∷ δ
in_front (Some v) δ = Some v ∷ δ

unfoldable pub trimmed : Env → Env
trimmed [] = []
trimmed (o ∷ δ) = in_front o (trimmed δ)

-- Δ: the channels in use
unfoldable pub channels_of : State → Channels
channels_of s c = not (eqb (type_in s c) 0)

module _ (tb : Table) where
  -- ---- processes

  -- the guard of the branch in row r, as the file has it
  unfoldable pub printed_guard_of : ℕ → Guard
  printed_guard_of r =
      cond (eqb (at tb r Field.guard) 0) always
      (cond (eqb (at tb r Field.guard) 1) (equals (at tb r Field.first) (widened (at tb r Field.second)))
      (cond (eqb (at tb r Field.guard) 2) (below (at tb r Field.first) (widened (at tb r Field.second)))
      (cond (eqb (at tb r Field.guard) 3) (same (at tb r Field.first) (at tb r Field.second))
      (less (at tb r Field.first) (at tb r Field.second)))))

  -- what its assignment assigns
  unfoldable pub expression_of : ℕ → Expression
  expression_of r =
      cond (eqb (at tb r Field.action) 5) (constant (widened (field_b tb r)))
      (cond (eqb (at tb r Field.action) 6) (plus (field_b tb r) (field_c tb r)) (minus (field_b tb r) (field_c tb r)))

  -- the guard that counts, by the act of the branch: an assignment has to fit (document 02, S-4)
  unfoldable pub guard_by : ℕ → Act → Guard
  guard_by r Tau = printed_guard_of r
  guard_by r (Meeting d) = printed_guard_of r
  guard_by r New = printed_guard_of r
  guard_by r Spawn = printed_guard_of r
  guard_by r Assignment = and_fits (printed_guard_of r) (expression_of r)

  unfoldable pub guard_of : ℕ → Guard
  guard_of r = guard_by r (act_of tb r)

  -- the prefix of the branch in row r, by its act, where a child would begin with the process P
  unfoldable pub prefix_of : Process → ℕ → Act → Prefix
  prefix_of P r Tau = tau
  prefix_of P r (Meeting Out) = output (field_a tb r) (field_b tb r)
  prefix_of P r (Meeting In) = input (field_a tb r) (field_b tb r)
  prefix_of P r New = new_channel (field_a tb r)
  prefix_of P r Spawn = new_thread P
  prefix_of P r Assignment = assign (field_a tb r) (expression_of r)

  -- where f gives the process of each node that a branch leads to: m branches of node n from branch i on, and then the sum q
  unfoldable pub sum_before : (ℕ → Process) → Sum → ℕ → ℕ → ℕ → Sum
  sum_before f q n i zero = q
  sum_before f q n i (suc m) =
      branch (guard_of (branch_at tb n i)) (prefix_of (f (child_of tb n (branch_at tb n i))) (branch_at tb n i) (act_of tb (branch_at tb n i)))
      (f (next_of tb n (branch_at tb n i))) (sum_before f q n (suc i) m)

  -- node n: a choice, a call or an end
  unfoldable pub node_process : (ℕ → Process) → ℕ → Process
  node_process f n =
      cond (eqb (kind_of tb n) 1) (choice (sum_before f nothing n 0 (branch_count tb n)))
      (cond (eqb (kind_of tb n) 2) (invoke (callee tb n) (tabulate (parameters tb (callee tb n)) (argument tb n))) end)

  -- node n, followed over k nodes. Branches lead to later nodes, so that as many as the table has are enough (`Unrolled.antt`: `process_at_lem`)
  unfoldable pub unrolled : ℕ → ℕ → Process
  unrolled zero n = end
  unrolled (suc k) n = node_process (unrolled k) n

  unfoldable pub process_at : ℕ → Process
  process_at n = unrolled (nodes tb) n

  -- the definitions: the process at the first node of each
  unfoldable pub body_of : ℕ → Process
  body_of d = process_at (start tb Nodes d)

  -- ---- document 01's own rules, of this table

  -- slot k of definition d is one for numbers
  unfoldable pub for_numbers : ℕ → ℕ → Bool
  for_numbers d k = ltb k (slot_count tb d) && eqb (slot_type tb d k) 0

  abbrev pub OurRules : Agent → Agent → Type 0
  OurRules = Ours body_of for_numbers

  abbrev pub OurLabels : Labels (Ours body_of for_numbers)
  OurLabels = ours_fire body_of for_numbers

  -- ---- threads

  -- the slots that the definition has
  unfoldable pub slot_value : List ℕ → ℕ → Option Value
  slot_value row k =
      cond (ltb k (slot_count tb (definition_of tb (stands_at row)))) (value_as (slot_type tb (definition_of tb (stands_at row)) k) (slot_of row k)) None

  unfoldable pub env_of : List ℕ → Env
  env_of row = trimmed (tabulate row_slots (slot_value row))

  -- the commitment by a branch in row r that does this act
  unfoldable pub committed : List ℕ → ℕ → Act → List Commitment
  committed row r Tau = []
  committed row r (Meeting Out) = gives (slot_of row (field_a tb r)) (field_b tb r) (process_at (next_of tb (stands_at row) r)) ∷ []
  committed row r (Meeting In) = takes (slot_of row (field_a tb r)) (field_b tb r) (process_at (next_of tb (stands_at row) r)) ∷ []
  committed row r New = []
  committed row r Spawn = []
  committed row r Assignment = []

  -- the commitments by m branches from branch i on: those whose guard is true
  unfoldable pub commitments_from : List ℕ → ℕ → ℕ → List Commitment
  commitments_from row i zero = []
  commitments_from row i (suc m) =
      cond (guard_holds tb (branch_at tb (stands_at row) i) row) (committed row (branch_at tb (stands_at row) i) (act_of tb (branch_at tb (stands_at row) i))) []
      ++ commitments_from row (suc i) m

  -- a thread that waits has passed over each of its branches, and has left a wait for each; one that is ready has no commitment
  unfoldable pub waiting_thread : List ℕ → Thread
  waiting_thread row =
      thread (commitments_from row 0 (branch_count tb (stands_at row))) (env_of row) (choice (waits (branch_count tb (stands_at row))))

  unfoldable pub ready_thread : List ℕ → Thread
  ready_thread row = thread [] (env_of row) (process_at (stands_at row))

  unfoldable pub thread_of : List ℕ → Thread
  thread_of row = cond (is_waiting row) (waiting_thread row) (ready_thread row)

  -- the rows in use
  unfoldable pub threads_of : List (List ℕ) → List Thread
  threads_of [] = []
  threads_of (row ∷ rows) = cond (in_use row) (thread_of row ∷ threads_of rows) (threads_of rows)

  -- ---- agents

  -- the bench, and the threads of the state
  unfoldable pub agent_of : Thread → State → Agent
  agent_of bench s = agent (channels_of s) (bench ∷ threads_of s.threads)
