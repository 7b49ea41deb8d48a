-- What waiting threads offer, and who meets whom.
use Rattle.rules.specs.Answers.{Partner}
use Rattle.std.specs.Prelude.{ℕ, Bool, false, not, ◌&&◌, cond, List, ltb, eqb, None, Some}
use Rattle.numbers.specs.Search.{first, some}
use Rattle.table.specs.Table.{Table}
use Rattle.table.specs.Layout.{branch_count}
use Rattle.state.specs.State.{State, max_threads, max_channels, thread, stands_at, slot_of, is_waiting}
use Rattle.rules.specs.Program.{branch_at, field_a, act_of, guard_holds, same}
use Rattle.rules.specs.declared.Direction.{Direction}
use Rattle.rules.specs.declared.Act.{Act}
use Rattle.rules.specs.declared.Act.TheVariants.{Tau, Meeting, New, Spawn, Assignment}

-- an act is a meeting of direction d
unfoldable pub meets? : Act → Direction → Bool
meets? Tau d = false
meets? (Meeting e) d = same e d
meets? New d = false
meets? Spawn d = false
meets? Assignment d = false

module _ (tb : Table) where
  -- the branch in row r, of a thread's row, is a meeting of direction d on channel c, and its guard is true
  unfoldable pub offers_in : List ℕ → Direction → ℕ → ℕ → Bool
  offers_in row d c r = meets? (act_of tb r) d && (eqb (slot_of row (field_a tb r)) c && guard_holds tb r row)

  -- branch i of the node at which the thread stands is a meeting of direction d on channel c, and its guard is true
  unfoldable pub offers_at : List ℕ → Direction → ℕ → ℕ → Bool
  offers_at row d c i = offers_in row d c (branch_at tb (stands_at row) i)

  -- the first branch through which it offers d on c; the number of its branches where there is none
  unfoldable pub offering_branch : List ℕ → Direction → ℕ → ℕ
  offering_branch row d c = first (offers_at row d c) (branch_count tb (stands_at row))

  -- only a thread that waits offers, by each meeting among its branches whose guard is true. What is no channel, as -1 is not, is not offered
  unfoldable pub offers : List ℕ → Direction → ℕ → Bool
  offers row d c = ltb c max_channels && (is_waiting row && some (offers_at row d c) (branch_count tb (stands_at row)))

  module _ (s : State) (t : ℕ) (d : Direction) (c : ℕ) where
    -- another thread than t offers d on c
    unfoldable pub answers : ℕ → Bool
    answers u = not (eqb u t) && offers (thread s u) d c

    -- the order in which threads are tried: by their number, lowest first
    unfoldable pub answering : ℕ
    answering = first answers max_threads

    -- the partner is the first thread that answers, and of its branches the first that does
    unfoldable pub partner_of : Partner
    partner_of = cond (ltb answering max_threads) (Some (answering, offering_branch (thread s answering) d c)) None
