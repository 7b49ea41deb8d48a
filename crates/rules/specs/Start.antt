-- How a definition is entered, and the state with which a file starts.
use Rattle.std.specs.Prelude.{ℕ, cond, List, [], ◌∷◌, ltb, replicate}
use Rattle.numbers.specs.Search.{tabulate}
use Rattle.table.specs.Table.{Table, ports, parameters}
use Rattle.table.specs.Layout.{start}
use Rattle.table.specs.declared.Part.TheVariants.{Nodes}
use Rattle.state.specs.Words as Word
use Rattle.state.specs.State.{State, max_channels, thread_words, row_slots}
use Rattle.rules.specs.Program.{blank}
use Rattle.rules.specs.Holding.{settled}

-- a free thread row, and a free channel row
abbrev pub free_row : List ℕ
free_row = replicate thread_words 0

abbrev pub free_channel_row : List ℕ
free_channel_row = 0 ∷ 0 ∷ 0 ∷ []

module _ (tb : Table) where
  -- a thread's row as it enters definition d: ready at the first node, the parameters given and every other slot blank
  unfoldable pub entered : ℕ → (ℕ → ℕ) → List ℕ
  entered d given = Word.ready ∷ start tb Nodes d ∷ tabulate row_slots (λ k. cond (ltb k (parameters tb d)) (given k) (blank tb d k))

  -- the ports are in use and of type 1
  unfoldable pub port_row : ℕ → List ℕ
  port_row c = cond (ltb c (ports tb)) (1 ∷ 0 ∷ 0 ∷ []) free_channel_row

  -- thread 0 enters definition 0 with the ports in order; the marks are 1 and P, and the turn is 0
  abbrev pub opening : State
  opening = record {
    marks = 1 ∷ ports tb ∷ 0 ∷ [];
    threads = entered 0 (λ k. k) ∷ replicate 63 free_row;
    channels = tabulate max_channels port_row;
  }

  -- the state with which a file starts: the opening, with its channels counted
  unfoldable pub started : State
  started = settled tb opening
