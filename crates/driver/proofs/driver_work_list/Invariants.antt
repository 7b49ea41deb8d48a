use Prim.Native.Nat.{◌*◌, ◌/◌, ◌≤◌}
use mathlib.Core.Path.{◌≡◌}
use lib.ListN.{length}
use Rattle.numbers.specs.Bytes.{words}
use Rattle.guarantee.specs.SeatedClaim.{after_seats}
use Rattle.driver.specs.Encoding.{calls_of, answers_to, written_from}
use Rattle.driver.specs.Encoding.Laws.{rest_from}
use Rattle.driver.proofs.driver_work_list.Given as goal

-- the work that is left, done from here, comes to the whole result
abbrev pub invariant-loop-i : goal.invariant-loop-i
invariant-loop-i l =
    (l.i ≤ length l.calls / 24)
    × (length l.state ≡ length l.initial.state)
    × (length l.answers ≡ length l.initial.answers)
    × (after_seats l.table l.state (rest_from l.lists l.calls l.i) ≡ after_seats l.table l.initial.state (calls_of l.lists l.calls))
    × (written_from (words l.answers) (l.i * 5) (answers_to l.table l.state (rest_from l.lists l.calls l.i))
    ≡ written_from (words l.initial.answers) 0 (answers_to l.table l.initial.state (calls_of l.lists l.calls)))
