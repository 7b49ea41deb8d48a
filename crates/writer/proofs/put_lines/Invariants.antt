-- `writer::put_lines` meets its contract. The loop: the lines of the rows passed are laid. Assumes nothing.
use Prim.Native.Nat.{◌≤◌}
use mathlib.Core.Path.{◌≡◌}
use lib.ListN.{length, take}
use lib.Seq.{sets}
use Rattle.text.specs.Text.{file_text}
use Rattle.writer.proofs.put_lines.Given as goal

abbrev pub invariant-loop-line : goal.invariant-loop-line
invariant-loop-line l = (l.line ≤ l.n) × (length l.file ≡ length l.initial.file) × (l.file ≡ sets l.initial.file 0 (file_text (take l.line l.table)))
