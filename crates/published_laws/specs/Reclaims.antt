-- The channels that are freed from one state to a later one.
use Prim.Native.Nat.{ℕ, zero, suc}
use Rattle.std.specs.Prelude.{Bool, not, ◌&&◌, cond, List, [], ◌∷◌, ◌++◌}
use Rattle.state.specs.State.{State, max_channels}
use Rattle.published_laws.specs.Standing.{channels_of}

-- the numbers below n that pass a test, in rising order
unfoldable pub those : (ℕ → Bool) → ℕ → List ℕ
those p zero = []
those p (suc n) = those p n ++ cond (p n) (n ∷ []) []

-- the channels in use in a state that are free in a later one
unfoldable pub freed_channels : State → State → List ℕ
freed_channels s later = those (λ c. channels_of s c && not (channels_of later c)) max_channels
