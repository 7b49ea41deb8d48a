-- `loader::rest_is_zero` meets its contract. Joined so far are the bytes behind the first n rows, up to place i. Assumes nothing.
use Prim.Native.Nat.{◌*◌, ◌≤◌, ◌-◌}
use mathlib.Core.Path.{◌≡◌}
use Rattle.numbers.specs.Bits.{bits_of}
use Rattle.loader.specs.Verdict.Rest.{bytes_past}
use Rattle.loader.proofs.rest_is_zero.Given as goal

abbrev pub invariant-loop-i : goal.invariant-loop-i
invariant-loop-i l =
    (l.n * 24 ≤ l.i) × (l.i ≤ 20760) × (l.all ≡ bits_of (bytes_past l.table (l.n * 24)) (l.i - l.n * 24))
