-- Numbers in a byte buffer, lowest byte first. Their laws are in `Bytes/Laws.antt`, over the width.
pub mod Laws
use Rattle.std.specs.Prelude.{ℕ, zero, suc, ◌+◌, ◌*◌, ◌/◌, ◌%◌, List, [], ◌∷◌, ◌++◌, map, length}
use Rattle.numbers.specs.Rows.{rows}

-- the number that these bytes make
unfoldable pub little : List ℕ → ℕ
little [] = 0
little (b ∷ bs) = b + 256 * little bs

-- the numbers of w bytes each that a buffer holds; a rest of fewer than w bytes is no number
pub numbers_of : ℕ → List ℕ → List ℕ
numbers_of w b = map little (rows (length b / w) w b)

-- a buffer as 16-bit numbers, and as 32-bit words
abbrev pub shorts : List ℕ → List ℕ
shorts b = numbers_of 2 b

abbrev pub words : List ℕ → List ℕ
words b = numbers_of 4 b

-- the w bytes of a number
unfoldable pub bytes_of : ℕ → ℕ → List ℕ
bytes_of zero v = []
bytes_of (suc w) v = v % 256 ∷ bytes_of w (v / 256)

-- the bytes of a list of numbers, w for each
unfoldable pub encode : ℕ → List ℕ → List ℕ
encode w [] = []
encode w (v ∷ vs) = bytes_of w v ++ encode w vs

-- rows, one after the other
unfoldable pub joined : List (List ℕ) → List ℕ
joined [] = []
joined (r ∷ rs) = r ++ joined rs
