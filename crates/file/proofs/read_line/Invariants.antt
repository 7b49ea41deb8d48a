-- `file::read_line` meets its contract. The loop: the fields before the column are numbers, and they are laid into the table. Assumes nothing.
use Prim.Native.Nat.{◌+◌, ◌*◌, ◌≤◌}
use mathlib.Core.Path.{◌≡◌}
use mathlib.Core.Bool.{true}
use lib.ListN.{length}
use Rattle.numbers.specs.Bytes.{shorts}
use Rattle.numbers.specs.Laid.{laid}
use Rattle.numbers.specs.Search.{every}
use Rattle.file.specs.File.{field_is_number, number_in}
use Rattle.file.proofs.read_line.Given as goal

abbrev pub invariant-loop-column : goal.invariant-loop-column
invariant-loop-column l =
    (l.column ≤ 12) × (length l.table ≡ length l.initial.table) × (every (field_is_number l.file l.line) l.column ≡ true)
    × (shorts l.table ≡ laid (number_in l.file) (l.line * 12 + l.column) 10380)
