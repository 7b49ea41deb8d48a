-- Gaps kept as bits: gap k of a node is bit k of its number. Their laws are in `Gaps/Laws.antt`.
pub mod Laws
use Rattle.std.specs.Prelude.{ℕ, ◌-◌, ◌/◌, ◌%◌, ◌^◌, Bool, cond, List, map, eqb, ltb}
use Rattle.numbers.specs.Search.{tabulate}
use Rattle.table.specs.Table.{Table, parameters}
use Rattle.table.specs.Layout.{start, definition_of}
use Rattle.table.specs.declared.Part.TheVariants.{Nodes}
use Rattle.flow.specs.Flow.{Gaps, gap_count}

unfoldable pub bit : ℕ → ℕ → Bool
bit m k = eqb (m / 2 ^ k % 2) 1

unfoldable pub bits : ℕ → List Bool
bits m = tabulate gap_count (bit m)

unfoldable pub gaps_of : List ℕ → Gaps
gaps_of l = map bits l

-- the number with gap p and those above it
unfoldable pub gaps_from : ℕ → ℕ
gaps_from p = cond (ltb p gap_count) (131072 - 2 ^ p) 0

-- the number with the gaps that node n begins with
unfoldable pub seed : Table → ℕ → ℕ
seed tb n = cond (eqb n (start tb Nodes (definition_of tb n))) (gaps_from (parameters tb (definition_of tb n))) 0
