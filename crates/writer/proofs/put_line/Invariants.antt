-- `writer::put_line` meets its contract. The loop: the fields before the column are laid. Assumes nothing.
use Prim.Native.Nat.{◌*◌, ◌≤◌}
use mathlib.Core.Path.{◌≡◌}
use mathlib.Core.List.{[], map}
use lib.ListN.{length, get_or, take}
use lib.Seq.{sets}
use Rattle.numbers.specs.Bytes.{joined}
use Rattle.text.specs.Text.{text}
use Rattle.writer.proofs.put_line.Given as goal

abbrev pub invariant-loop-column : goal.invariant-loop-column
invariant-loop-column l =
    (l.column ≤ 12) × (l.at ≡ l.line * 73) × (length l.file ≡ length l.initial.file) × (l.file ≡ sets l.initial.file l.at (joined (map text (take l.column (get_or l.table l.line [])))))
