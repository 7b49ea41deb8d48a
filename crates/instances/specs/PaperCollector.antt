-- The collector that 002 prints (Table 8), and a state in which it takes a thread that moves later. Assumes nothing.
use Rattle.std.specs.Prelude.{ℕ, zero, suc, ◌≡◌, refl, Bool, true, false, not, ◌&&◌, ◌||◌, List, eqb, get_or}
use Rattle.numbers.specs.Rows.{at}
use Rattle.numbers.specs.Search.{some, every, tabulate}
use Rattle.table.specs.Table.{Table}
use Rattle.table.specs.Layout.{branch_count}
use Rattle.state.specs.State.{State, max_threads, thread, stands_at, slot_of, is_ready, is_waiting}
use Rattle.rules.specs.Program.{branch_at, field_a, act_of, guard_holds}
use Rattle.rules.specs.Holding.{holds}
use Rattle.rules.specs.Start.{started}
use Rattle.rules.specs.Offers.{meets?, offers}
use Rattle.rules.specs.Calls.{course_of}
use Rattle.rules.specs.declared.Direction.TheVariants.{Out, In}
use Rattle.rules_laws.specs.Frames.{elem, movers}
use Rattle.engine_laws.specs.Movers.{turn_movers, onward_movers, ran_movers}
use Rattle.collector.specs.Collect.{taken}
use Rattle.examples.specs.Tables.{chain}
use Rattle.examples.specs.Computing.{running, collecting}

-- ---- the printed collector begins with one waiting thread as the only candidate. Of each candidate it looks at the channels of its offers. Where some
-- holder of such a channel does not wait, which the channel's two counts show (the bench never waits), it gives up and takes nothing. Else those that
-- offer on that channel become candidates too, and not all that hold it. In the end it takes all that were candidates. (As it is printed a candidate
-- stays one for ever; here each is looked at once)

module _ (tb : Table) (s : State) where
  -- branch i of thread t is an offer
  unfoldable pub offering : ℕ → ℕ → Bool
  offering t i =
      is_waiting (thread s t)
      && (guard_holds tb (branch_at tb (stands_at (thread s t)) i) (thread s t)
      && (meets? (act_of tb (branch_at tb (stands_at (thread s t)) i)) Out || meets? (act_of tb (branch_at tb (stands_at (thread s t)) i)) In))

  -- the channel of that offer
  unfoldable pub channel_of : ℕ → ℕ → ℕ
  channel_of t i = slot_of (thread s t) (field_a tb (branch_at tb (stands_at (thread s t)) i))

  -- thread u offers on the channel of an offer of thread t
  unfoldable pub offers_with : ℕ → ℕ → Bool
  offers_with t u =
      some (λ i. offering t i && (offers tb (thread s u) Out (channel_of t i) || offers tb (thread s u) In (channel_of t i)))
      (branch_count tb (stands_at (thread s t)))

  -- all holders of the channels of its offers wait
  unfoldable pub all_wait : ℕ → Bool
  all_wait t =
      every (λ i. not (offering t i) || eqb (at s.channels (channel_of t i) 1) (at s.channels (channel_of t i) 2))
      (branch_count tb (stands_at (thread s t)))

  -- the candidates, found by rounds
  unfoldable pub candidates : ℕ → ℕ → List Bool
  candidates first zero = tabulate max_threads (λ t. eqb t first)
  candidates first (suc k) =
      tabulate max_threads (λ u. get_or (candidates first k) u false
      || (is_waiting (thread s u) && some (λ t. get_or (candidates first k) t false && offers_with t u) max_threads))

  -- the printed collector gives up at none of the candidates
  unfoldable pub takes_all : List Bool → Bool
  takes_all m = every (λ t. not (get_or m t false) || all_wait t) max_threads

  -- what it takes where it begins with thread first
  unfoldable pub printed_takes : ℕ → ℕ → Bool
  printed_takes first t = get_or (candidates first max_threads) t false && takes_all (candidates first max_threads)

-- ---- the file of document 01's third case

-- the state after eight steps
unfoldable pub chained : State
chained = (course_of chain 8 (started chain)).state

-- thread 1, P, waits on channel 0, which is c; thread 2, W, has c too and waits on channel 1, which is d; thread 0, R, stands ready and knows d, and it does
-- not know c
pub chain_stands : (offers chain (thread chained 1) In 0 ≡ true)
    × (holds chain (thread chained 2) 0 ≡ true)
    × (offers chain (thread chained 2) In 1 ≡ true)
    × (is_ready (thread chained 0) ≡ true)
    × (holds chain (thread chained 0) 1 ≡ true)
    × (holds chain (thread chained 0) 0 ≡ false)
unfolding running chained
chain_stands = (refl, refl, refl, refl, refl, refl)

-- no collection takes P, for W is enabled and knows c
pub chain_kept : (taken chain chained 0 ≡ false) × (taken chain chained 1 ≡ false) × (taken chain chained 2 ≡ false)
unfolding collecting chained
chain_kept = (refl, refl, refl)

-- the printed collector, which begins with P, takes it
pub printed_takes_lem : printed_takes chain chained 1 1 ≡ true
unfolding running chained offering channel_of offers_with all_wait candidates takes_all printed_takes
printed_takes_lem = refl

-- yet P moves within two steps more: R sends on d, and W, which that wakes, sends on c
pub chain_moves : elem 1 (ran_movers chain 2 chained) ≡ true
unfolding running chained elem movers turn_movers onward_movers ran_movers
chain_moves = refl
