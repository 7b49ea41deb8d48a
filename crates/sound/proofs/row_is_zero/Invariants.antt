-- `sound::row_is_zero` meets its contract. The loop: the words below k are joined. Assumes nothing.
use Prim.Native.Nat.{◌≤◌}
use mathlib.Core.Path.{◌≡◌}
use lib.ListN.{get_or}
use Rattle.state.specs.State.{thread_words, state_of, thread}
use Rattle.numbers.specs.Bits.{bits_of}
use Rattle.sound.proofs.row_is_zero.Given as goal

abbrev pub invariant-loop-k : goal.invariant-loop-k
invariant-loop-k l =
    (l.k ≤ thread_words) × (l.all ≡ bits_of (λ i. get_or (thread (state_of l.state) l.t) i 0) l.k)
