-- A table that is started if it keeps to the rental-shop profile, in the numbers that C sees: what it comes to, what it leaves in the state's buffer, and what
-- is pledged of it.
pub mod Laws
use Rattle.std.specs.Prelude.{ℕ, cond, List, ℤ}
use Rattle.interface.specs.Interface.{profile_result, start_result}
use Rattle.guarantee.specs.InNumbers.{is_zero}

-- the refusal, and the bytes of the state's buffer
pub record Begun : Type 0 where
  pub refusal : ℤ
  pub state : List ℕ

abbrev pub begun_to : ℤ → List ℕ → Begun
begun_to z b = record { refusal = z; state = b }

-- a table that the check refuses leaves the buffer; else it is started
unfoldable pub begun : List ℕ → List ℕ → Begun
begun table state =
    cond (is_zero (profile_result table).refusal)
    (begun_to (start_result table state).answer.refusal (start_result table state).state)
    (begun_to (profile_result table).refusal state)
