-- An instance of document 02's S-5: what the pass over the rows gathers, of rows that are in no sound state. Assumes nothing.
use Rattle.std.proofs.Common.{arith}
use Rattle.std.specs.Prelude.{◌≡◌, refl, true, false, [], ◌∷◌, get_or, replicate}
use Rattle.numbers.specs.Search.Laws.{get_d_tabulate}
use Rattle.table.specs.Table.{Table}
use Rattle.loader_laws.specs.PrintedFile.{filled_up}
use Rattle.state.specs.State.{State, max_threads, max_channels, is_waiting}
use Rattle.rules.specs.Holding.{holders, waiters}
use Rattle.rules.specs.Sound.{sound}
use Rattle.recount.specs.Tally.{added_below}
use Rattle.recount.specs.Tally.Laws.{holders_counted, waiters_counted}
use Rattle.examples.specs.Builders.{ready_at, waiting_at, channel_with, state_with}
use Rattle.examples.specs.Tables.{two_slots}
use Rattle.examples.specs.Computing.{running, testing}

abbrev tb : Table
tb = filled_up two_slots

-- All stand at the end of definition 1, which has two channel slots. Thread 0 waits there, where nobody can, and has channel 0 in both; thread 1 has it in one, and
-- channel 1 in the other; thread 2 has channel 0 and a status that there is not. No count of a channel is true.
abbrev pub unsound : State
unsound = state_with (3 ∷ 2 ∷ 0 ∷ []) (waiting_at 2 (0 ∷ 0 ∷ []) ∷ ready_at 2 (0 ∷ 1 ∷ []) ∷ (7 ∷ 2 ∷ 0 ∷ replicate 15 0) ∷ []) (channel_with 1 9 9 ∷ [])

pub not_sound : sound tb unsound ≡ false
unfolding testing
not_sound = refl

-- five slots have channel 0, and three threads hold it; thread 0, whose mark is not that of nobody, is one of them, and the only one that waits
pub unsound_holders : (get_or (added_below tb (λ row. true) unsound.threads (replicate max_channels 0) max_threads) 0 0 ≡ 3)
    × (get_or (added_below tb (λ row. is_waiting row) unsound.threads (replicate max_channels 0) max_threads) 0 0 ≡ 1)
unfolding running
unsound_holders = (
  rw (holders_counted tb unsound.threads refl) (get_d_tabulate 128 0 (holders tb unsound.threads) 0 (omega arith)),
  rw (waiters_counted tb unsound.threads refl) (get_d_tabulate 128 0 (waiters tb unsound.threads) 0 (omega arith)),
)

-- thread 1 holds channel 1, and does not wait
pub unsound_other : (holders tb unsound.threads 1 ≡ 1) × (waiters tb unsound.threads 1 ≡ 0)
unfolding running
unsound_other = (refl, refl)
