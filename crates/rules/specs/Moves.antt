-- What a ready thread does: which move it makes, what the move writes, and the state after it.
use Rattle.rules.specs.Answers.{Partner}
use Rattle.std.specs.Prelude.{ℕ, suc, ◌+◌, Bool, true, false, not, ◌&&◌, cond, List, ◌∷◌, ltb, leb, eqb, set, None, Option, Some, ℤ}
use Rattle.std.specs.Int.{w32}
use Rattle.std.proofs.Common.{of_z}
use Rattle.numbers.specs.Search.{first}
use Rattle.table.specs.Table.{Table}
use Rattle.table.specs.Layout.{branch_count}
use Rattle.state.specs.Words as Word
use Rattle.state.specs.State.{State, max_threads, max_channels, thread_mark, channel_mark, thread, stands_at, slot_of, slots_of, in_use, type_in, channel, with_mark, with_thread, with_channel}
use Rattle.rules.specs.Program.{type_at, kind_of, callee, argument, branch_at, next_of, child_of, field_a, field_b, act_of, guard_holds, assigned, opposite}
use Rattle.rules.specs.Holding.{settled}
use Rattle.rules.specs.Start.{free_row, entered}
use Rattle.rules.specs.Offers.{partner_of}
use Rattle.rules.specs.declared.Direction.{Direction}
use Rattle.rules.specs.declared.Direction.TheVariants.{Out, In}
use Rattle.rules.specs.declared.Act.{Act}
use Rattle.rules.specs.declared.Act.TheVariants.{Tau, Meeting, New, Spawn, Assignment}
use Rattle.rules.specs.declared.Move.{Move}
use Rattle.rules.specs.declared.Move.TheVariants.{Ends, Calls, Waits, Goes, Creates, Spawns, Meets, LacksThread, LacksChannel}

-- ---- rows going up from a mark, around the end

-- the first of n numbers, from m upward, with p
unfoldable pub first_from : ℕ → ℕ → (ℕ → Bool) → ℕ
first_from n m p = first (λ i. leb m i && p i) n

-- the first from m upward and, where there is none, the first at all; n where there is none
unfoldable pub around : ℕ → ℕ → (ℕ → Bool) → ℕ
around n m p = cond (ltb (first_from n m p) n) (first_from n m p) (first p n)

-- one past number i of n: past the last comes 0
unfoldable pub one_up : ℕ → ℕ → ℕ
one_up n i = cond (eqb (suc i) n) 0 (suc i)

unfoldable pub is_free_thread : State → ℕ → Bool
is_free_thread s u = not (in_use (thread s u))

unfoldable pub is_free_channel : State → ℕ → Bool
is_free_channel s c = eqb (type_in s c) 0

unfoldable pub free_thread : State → ℕ
free_thread s = around max_threads (thread_mark s) (is_free_thread s)

unfoldable pub free_channel : State → ℕ
free_channel s = around max_channels (channel_mark s) (is_free_channel s)

-- ---- which move it is

-- a meeting by branch i waits where there is no partner; new and spawn need a free row
unfoldable pub meeting : ℕ → Partner → Move
meeting i None = Waits
meeting i (Some (u, j)) = Meets i u j

unfoldable pub creation : ℕ → ℕ → Move
creation i c = cond (ltb c max_channels) (Creates i c) LacksChannel

unfoldable pub spawning : ℕ → ℕ → Move
spawning i u = cond (ltb u max_threads) (Spawns i u) LacksThread

-- a branch goes ahead unless its move is to wait
unfoldable pub goes_ahead : Move → Bool
goes_ahead Ends = true
goes_ahead Calls = true
goes_ahead Waits = false
goes_ahead (Goes i) = true
goes_ahead (Creates i c) = true
goes_ahead (Spawns i u) = true
goes_ahead (Meets i u j) = true
goes_ahead LacksThread = true
goes_ahead LacksChannel = true

module _ (tb : Table) (s : State) (t : ℕ) where
  -- by an act of branch i, whose guard is true
  unfoldable pub act_move : ℕ → Act → Move
  act_move i Tau = Goes i
  act_move i (Meeting d) =
      meeting i (partner_of tb s t (opposite d) (slot_of (thread s t) (field_a tb (branch_at tb (stands_at (thread s t)) i))))
  act_move i New = creation i (free_channel s)
  act_move i Spawn = spawning i (free_thread s)
  act_move i Assignment = Goes i

  -- by branch i alone: a false guard is skipped
  unfoldable pub branch_move : ℕ → Move
  branch_move i =
      cond (guard_holds tb (branch_at tb (stands_at (thread s t)) i) (thread s t))
      (act_move i (act_of tb (branch_at tb (stands_at (thread s t)) i))) Waits

  unfoldable pub ahead : ℕ → Bool
  ahead i = goes_ahead (branch_move i)

  -- a choice takes the first branch that goes ahead, and waits where none does
  unfoldable pub choice : Move
  choice =
      cond (ltb (first ahead (branch_count tb (stands_at (thread s t)))) (branch_count tb (stands_at (thread s t))))
      (branch_move (first ahead (branch_count tb (stands_at (thread s t))))) Waits

  unfoldable pub move : Move
  move =
      cond (eqb (kind_of tb (stands_at (thread s t))) 1) choice
      (cond (eqb (kind_of tb (stands_at (thread s t))) 2) Calls Ends)

-- ---- what a move writes

-- a thread's row as it goes on, ready, at node n; and as it waits
unfoldable pub resumed : List ℕ → ℕ → List ℕ
resumed row n = Word.ready ∷ n ∷ slots_of row

unfoldable pub waiting_row : List ℕ → List ℕ
waiting_row row = Word.waiting ∷ stands_at row ∷ slots_of row

-- a row with v in slot k
unfoldable pub stored : List ℕ → ℕ → ℕ → List ℕ
stored row k v = set row (Word.slots + k) v

-- the row after a meeting: the receiver has v in its slot b
unfoldable pub met : Direction → List ℕ → ℕ → ℕ → ℕ → List ℕ
met Out row n b v = resumed row n
met In row n b v = stored (resumed row n) b v

-- a row with what an assignment comes to in slot k. No move stores an overflow: the guard of such a branch counts as false
unfoldable pub stored_number : List ℕ → ℕ → Option ℤ → List ℕ
stored_number row k (Some z) = stored row k (of_z w32 z)
stored_number row k None = row

-- the row after a tau or an assignment in row r
unfoldable pub gone : Act → List ℕ → ℕ → ℕ → Option ℤ → List ℕ
gone Tau row n a v = resumed row n
gone (Meeting d) row n a v = resumed row n
gone New row n a v = resumed row n
gone Spawn row n a v = resumed row n
gone Assignment row n a v = stored_number (resumed row n) a v

-- the direction of an act
unfoldable pub side_of : Act → Direction
side_of Tau = Out
side_of (Meeting d) = d
side_of New = Out
side_of Spawn = Out
side_of Assignment = Out

-- a channel's row, typed
unfoldable pub typed : State → ℕ → ℕ → State
typed s c ty = with_channel s c (set (channel s c) Word.type ty)

module _ (tb : Table) where
  -- what branch i of a thread's node, which stands in row `row_of` of the table, makes of the thread's row
  module _ (row : List ℕ) (i : ℕ) where
    abbrev pub row_of : ℕ
    row_of = branch_at tb (stands_at row) i

    -- the thread's row after a branch that goes ahead alone
    unfoldable pub gone_by : List ℕ
    gone_by = gone (act_of tb row_of) row (next_of tb (stands_at row) row_of) (field_a tb row_of) (assigned tb row_of row)

    -- the thread's row after a branch that made channel c
    unfoldable pub created_by : ℕ → List ℕ
    created_by c = stored (resumed row (next_of tb (stands_at row) row_of)) (field_a tb row_of) c

    -- the thread's row after a meeting with somebody who gave v
    unfoldable pub met_by : ℕ → List ℕ
    met_by v = met (side_of (act_of tb row_of)) row (next_of tb (stands_at row) row_of) (field_b tb row_of) v

    -- what the thread gives at a meeting
    unfoldable pub value_by : ℕ
    value_by = slot_of row (field_b tb row_of)

    -- the type of the channel that the branch makes
    unfoldable pub type_by : ℕ
    type_by = type_at tb (stands_at row) (field_a tb row_of)

  -- thread t, which goes on after its branch i, and its child u, ready at the child's node with the same slots
  unfoldable pub spawned_by : State → ℕ → ℕ → ℕ → State
  spawned_by s t i u =
      with_thread (with_thread s t (resumed (thread s t) (next_of tb (stands_at (thread s t)) (row_of (thread s t) i))))
      u (resumed (thread s t) (child_of tb (stands_at (thread s t)) (row_of (thread s t) i)))

  module _ (s : State) (t : ℕ) where
    -- all that is read is read in the state before the move
    unfoldable pub written : Move → State
    written Ends = with_thread s t free_row
    written Calls =
        with_thread s t (entered tb (callee tb (stands_at (thread s t))) (λ k. slot_of (thread s t) (argument tb (stands_at (thread s t)) k)))
    written Waits = with_thread s t (waiting_row (thread s t))
    written (Goes i) = with_thread s t (gone_by (thread s t) i)
    written (Creates i c) =
        with_mark (typed (with_thread s t (created_by (thread s t) i c)) c (type_by (thread s t) i)) Word.channel_mark (one_up max_channels c)
    written (Spawns i u) = with_mark (spawned_by s t i u) Word.thread_mark (one_up max_threads u)
    written (Meets i u j) =
        with_thread (with_thread s t (met_by (thread s t) i (value_by (thread s u) j))) u (met_by (thread s u) j (value_by (thread s t) i))
    written LacksThread = s
    written LacksChannel = s

    -- the state after a move: what it writes, and the channel rows settled
    unfoldable pub perform : Move → State
    perform m = settled tb (written m)

  -- ---- the environment as the other side: thread u, met through its branch j by somebody who gives v, goes on just as if a thread had met it
  unfoldable pub met_by_bench : State → ℕ → ℕ → ℕ → State
  met_by_bench s u j v = settled tb (with_thread s u (met_by (thread s u) j v))
