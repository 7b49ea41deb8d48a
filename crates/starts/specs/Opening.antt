-- The state before thread 0 has its row, one row after the other, and the slots of that row.
pub mod Laws
use Rattle.std.specs.Prelude.{ℕ, cond, List, [], ◌∷◌, ltb, replicate}
use Rattle.numbers.specs.Search.{tabulate}
use Rattle.table.specs.Table.{Table, ports, parameters}
use Rattle.state.specs.State.{State, max_threads, max_channels, with_channels, with_threads, with_marks}
use Rattle.rules.specs.Program.{blank}
use Rattle.rules.specs.Start.{free_row, free_channel_row, opening}
use Rattle.starts.specs.FilledRows.{filled_to}

-- the row of channel c where the first p channels are ports: the bench holds a port, and nobody else does
unfoldable pub port_held : ℕ → ℕ → List ℕ
port_held p c = cond (ltb c p) (1 ∷ 1 ∷ 0 ∷ []) free_channel_row

module _ (s : State) where
  -- the first n thread rows are free, and all of them are
  unfoldable pub freed_to : ℕ → State
  freed_to n = with_threads s (filled_to (λ t. free_row) s.threads n)

  unfoldable pub freed : State
  freed = with_threads s (replicate max_threads free_row)

  module _ (p : ℕ) where
    -- of the first n channels the ports are held, and of all channels
    unfoldable pub opened_to : ℕ → State
    opened_to n = with_channels s (filled_to (port_held p) s.channels n)

    unfoldable pub opened : State
    opened = with_channels s (tabulate max_channels (port_held p))

    -- the marks with p ports
    unfoldable pub marked : State
    marked = with_marks s (1 ∷ p ∷ 0 ∷ [])

-- the state before thread 0 has its row: the opening with every thread row free, and each port held by the bench
unfoldable pub unstarted : Table → State
unstarted tb = with_threads (with_channels (opening tb) (tabulate max_channels (port_held (ports tb)))) (replicate max_threads free_row)

-- slot k of thread 0: parameter k of definition 0 is port k, any other slot is blank
unfoldable pub port_at : Table → ℕ → ℕ
port_at tb k = cond (ltb k (parameters tb 0)) k (blank tb 0 k)
