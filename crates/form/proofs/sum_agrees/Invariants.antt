-- `form::sum_agrees` meets its contract. The loop: both sums are those of the sizes so far, which keeps them below 65535 times their number. Assumes nothing.
use Prim.Native.Nat.{◌≤◌, ◌<◌, ◌*◌}
use mathlib.Core.Path.{◌≡◌}
use Rattle.numbers.specs.Search.{sum_to}
use Rattle.table.specs.Table.{table_of}
use Rattle.table.specs.Layout.{blocks}
use Rattle.table.specs.Form.{gain_of, loss_of}
use Rattle.form.proofs.sum_agrees.Given as goal

abbrev pub invariant-loop-i : goal.invariant-loop-i
invariant-loop-i l =
    (l.i ≤ l.n) × (l.n ≡ blocks (table_of l.table) l.part) × (l.n < 65536) × (l.gains ≡ sum_to (gain_of (table_of l.table) l.part) l.i) × (l.gains ≤ 65535 * l.i) × (l.losses ≡ sum_to (loss_of (table_of l.table) l.part) l.i) × (l.losses ≤ 65535 * l.i)
