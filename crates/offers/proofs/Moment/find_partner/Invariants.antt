-- `offers::Moment::find_partner` meets its contract. The loops: no thread passed answers, and of this thread no branch passed offers;
-- where one was seen that competes, the thread offers the asker's own direction. Assumes nothing.
use Rattle.std.specs.Prelude.{None}
use Prim.Native.Nat.{◌≤◌, ◌-◌, ◌<◌}
use mathlib.Core.Path.{◌≡◌}
use mathlib.Core.Bool.{true}
use Rattle.numbers.specs.Search.{first}
use Rattle.state.specs.State.{state_of, thread, is_waiting}
use Rattle.rules.specs.Program.{opposite}
use Rattle.rules.specs.Offers.{offers_at, offers, answers}
use Rattle.offers.proofs.Moment.find_partner.Given as goal

abbrev pub invariant-loop-i : goal.invariant-loop-i
invariant-loop-i l =
    (l.i ≤ l.n)
    × (first (offers_at l.table (thread (state_of l.state) l.u) l.d l.c) l.i ≡ l.i)
    × (l.found ≡ None)
    × (l.competes ≡ true → offers l.table (thread (state_of l.state) l.u) (opposite l.d) l.c ≡ true)

abbrev pub decreases-loop-i : goal.decreases-loop-i
decreases-loop-i l = l.n - l.i

abbrev pub invariant-threads : goal.invariant-threads
invariant-threads l =
    (l.u ≤ l.limit) × (first (answers l.table (state_of l.state) l.t l.d l.c) l.u ≡ l.u) × (l.found ≡ None)
    × (l.u < l.limit → is_waiting (thread (state_of l.state) l.u) ≡ true)

abbrev pub decreases-threads : goal.decreases-threads
decreases-threads l = l.limit - l.u
