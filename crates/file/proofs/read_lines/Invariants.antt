-- `file::read_lines` meets its contract. The loop: no line passed is malformed, and their numbers are laid into the table. Assumes nothing.
use Prim.Native.Nat.{◌*◌, ◌≤◌}
use mathlib.Core.Path.{◌≡◌}
use lib.ListN.{length}
use Rattle.numbers.specs.Bytes.{shorts}
use Rattle.numbers.specs.Laid.{laid}
use Rattle.numbers.specs.Search.{first}
use Rattle.file.specs.File.{malformed, number_in}
use Rattle.file.proofs.read_lines.Given as goal

abbrev pub invariant-loop-line : goal.invariant-loop-line
invariant-loop-line l =
    (l.line ≤ l.n) × (length l.table ≡ length l.initial.table) × (first (malformed l.file) l.line ≡ l.line) × (shorts l.table ≡ laid (number_in l.file) (l.line * 12) 10380)
