-- The states that are sound for a table: one test for each thing that document 01 asks of a sound state, in its order.
use Rattle.std.specs.Prelude.{ℕ, Bool, not, ◌&&◌, ◌||◌, cond, List, ltb, leb, eqb, get_or}
use Rattle.numbers.specs.Search.{every}
use Rattle.table.specs.Table.{Table, nodes, ports, slot_count}
use Rattle.table.specs.Layout.{definition_of, branch_count, slot_type}
use Rattle.flow.specs.Flow.{may_lack}
use Rattle.state.specs.Words as Word
use Rattle.state.specs.State.{State, max_threads, max_channels, thread_words, row_slots, minus_one, thread_mark, channel_mark, turn, thread, status, stands_at, slot_of, in_use, is_waiting, type_in, count_in, waiters_in}
use Rattle.rules.specs.Program.{channel_slot, kind_of}
use Rattle.rules.specs.Holding.{count_of, waiters}
use Rattle.rules.specs.Moves.{ahead}

-- the marks and the turn are in range
unfoldable pub marks_in_range : State → Bool
marks_in_range s = ltb (thread_mark s) max_threads && (ltb (channel_mark s) max_channels && ltb (turn s) max_threads)

-- a free row is all 0
unfoldable pub free_zero : List ℕ → Bool
free_zero row = in_use row || every (λ k. eqb (get_or row k 0) 0) thread_words

module _ (tb : Table) where
  -- the status and, of a thread, the node are in range
  unfoldable pub row_in_range : List ℕ → Bool
  row_in_range row = leb (status row) Word.waiting && (not (in_use row) || ltb (stands_at row) (nodes tb))

  -- slots past the definition's are 0
  unfoldable pub spare_zero : List ℕ → Bool
  spare_zero row =
      not (in_use row) || every (λ k. ltb k (slot_count tb (definition_of tb (stands_at row))) || eqb (slot_of row k) 0) row_slots

  module _ (s : State) where
    -- what stands in channel slot k of a thread is -1, or a channel that is in use and has the type of the slot; number slots are not asked
    unfoldable pub slot_typed : List ℕ → ℕ → Bool
    slot_typed row k =
        not (channel_slot tb (definition_of tb (stands_at row)) k)
        || (eqb (slot_of row k) minus_one
        || (ltb (slot_of row k) max_channels && eqb (type_in s (slot_of row k)) (slot_type tb (definition_of tb (stands_at row)) k)))

    unfoldable pub slots_typed : List ℕ → Bool
    slots_typed row = not (in_use row) || every (slot_typed row) row_slots

  -- a channel slot that no path to the node leaves unwritten is filled. Parameters are such slots
  unfoldable pub slot_filled : List ℕ → ℕ → Bool
  slot_filled row k =
      not (channel_slot tb (definition_of tb (stands_at row)) k) || (may_lack tb (stands_at row) k || not (eqb (slot_of row k) minus_one))

  unfoldable pub slots_filled : List ℕ → Bool
  slots_filled row = not (in_use row) || every (slot_filled row) row_slots

  module _ (s : State) where
    -- the counts of channel c are true, and it is in use exactly when its count is above 0
    unfoldable pub count_true : ℕ → Bool
    count_true c =
        eqb (count_in s c) (count_of tb s.threads c)
        && (eqb (waiters_in s c) (waiters tb s.threads c)
        && cond (eqb (type_in s c) 0) (eqb (count_in s c) 0) (ltb 0 (count_in s c)))

    -- the ports are in use, of type 1
    unfoldable pub port_typed : ℕ → Bool
    port_typed c = eqb (type_in s c) 1

    -- a waiting thread stands at a choice, and none of its branches could go ahead, where a lacking row does not hold back a spawn or a new
    unfoldable pub waits_rightly : ℕ → Bool
    waits_rightly t =
        not (is_waiting (thread s t))
        || (eqb (kind_of tb (stands_at (thread s t))) 1 && every (λ i. not (ahead tb s t i)) (branch_count tb (stands_at (thread s t))))

    unfoldable pub sound : Bool
    sound =
        marks_in_range s
        && (every (λ t. row_in_range (thread s t)) max_threads
        && (every (λ t. free_zero (thread s t)) max_threads
        && (every (λ t. spare_zero (thread s t)) max_threads
        && (every (λ t. slots_typed s (thread s t)) max_threads
        && (every (λ t. slots_filled (thread s t)) max_threads
        && (every count_true max_channels
        && (every port_typed (ports tb)
        && every waits_rightly max_threads)))))))
