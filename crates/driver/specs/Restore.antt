-- A table that is written as a file and loaded again, in the numbers that C sees: what it comes to, and what it leaves in both buffers.
pub mod Laws
use Rattle.std.specs.Prelude.{ℕ, cond, List, eqb, length, ℤ, pos}
use Rattle.loader.specs.Load.{table_length}
use Rattle.interface.specs.Interface.{write_result}
use Rattle.guarantee.specs.InNumbers.{is_zero}

-- the refusal, the bytes of the buffer for the file, and those of the buffer for the other table
pub record Restored : Type 0 where
  pub refusal : ℤ
  pub file : List ℕ
  pub table : List ℕ

abbrev pub restored_to : ℤ → List ℕ → List ℕ → Restored
restored_to z f t = record { refusal = z; file = f; table = t }

-- of a table t, a buffer b for its file and a buffer u for the other table: a write that is refused leaves u; where it is done, u becomes t itself if it has
-- a table's length
unfoldable pub restored : List ℕ → List ℕ → List ℕ → Restored
restored t b u =
    cond (is_zero (write_result t b).answer.refusal)
    (cond (eqb (length u) table_length) (restored_to (pos 0) (write_result t b).file t) (restored_to (pos 8) (write_result t b).file u))
    (restored_to (write_result t b).answer.refusal (write_result t b).file u)
