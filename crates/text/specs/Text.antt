-- The printed form of numbers, lines and files, and the reading of a field. A number from -32768 to 32767 is kept as its 16-bit pattern, below 65536,
-- the negative ones from 32768 on. A character is its number in ASCII: 32 is the blank, 45 the minus sign, 48 to 57 the figures, 10 the newline.
-- The laws are in `Text/Laws.antt`.
pub mod Laws
pub mod Characters
use Rattle.std.specs.Prelude.{ℕ, zero, suc, ◌+◌, ◌-◌, ◌*◌, ◌/◌, ◌%◌, Bool, true, false, cond, List, [], ◌∷◌, ◌++◌, map, ltb, leb, eqb, length, take, drop, replicate, None, Option, Some}
use Rattle.numbers.specs.Bytes.{joined}

-- ---- printing

-- the figures of n, which is not above k: those of its tenth, and the last one
unfoldable pub figures_by : ℕ → ℕ → List ℕ
figures_by zero n = (48 + n) ∷ []
figures_by (suc k) n = cond (ltb n 10) ((48 + n) ∷ []) (figures_by k (n / 10) ++ ((48 + n % 10) ∷ []))

-- the decimal figures of n, with no leading zero
unfoldable pub figures : ℕ → List ℕ
figures n = figures_by n n

-- whether the number of the pattern v is negative, and how far it is from 0
abbrev pub negative : ℕ → Bool
negative v = ltb 32767 v

abbrev pub size : ℕ → ℕ
size v = cond (negative v) (65536 - v) v

-- a minus before s, or none
abbrev pub signed : Bool → List ℕ → List ℕ
signed n s = cond n (45 ∷ s) s

-- the number of the pattern v in decimal
unfoldable pub numeral : ℕ → List ℕ
numeral v = signed (negative v) (figures (size v))

-- s after as many blanks as make w characters
unfoldable pub right_justified : ℕ → List ℕ → List ℕ
right_justified w s = replicate (w - length s) 32 ++ s

-- the field of the pattern v: six characters
unfoldable pub text : ℕ → List ℕ
text v = right_justified 6 (numeral v)

-- the line of a row of patterns: their fields and a newline
unfoldable pub line_text : List ℕ → List ℕ
line_text row = joined (map text row) ++ (10 ∷ [])

-- the file of rows: their lines
unfoldable pub file_text : List (List ℕ) → List ℕ
file_text rs = joined (map line_text rs)

-- ---- reading

-- the characters of a line: twelve fields of six and a newline
abbrev pub line_length : ℕ
line_length = 73

-- the six characters at a line and a column of a file, both counted from 0
abbrev pub field_of : List ℕ → ℕ → ℕ → List ℕ
field_of file line column = take 6 (drop (line * line_length + column * 6) file)

-- what a character counts as a figure: nothing, where it is none
unfoldable pub figure_of : ℕ → ℕ
figure_of c = cond (leb 48 c) (cond (leb c 57) (c - 48) 0) 0

-- the number that the figures of a text go on to make after n
unfoldable pub size_from : ℕ → List ℕ → ℕ
size_from n [] = n
size_from n (c ∷ s) = size_from (n * 10 + figure_of c) s

-- whether there is a minus
unfoldable pub has_minus : List ℕ → Bool
has_minus [] = false
has_minus (c ∷ s) = cond (eqb c 45) true (has_minus s)

-- the pattern that a text may stand for, whatever else it holds
unfoldable pub pattern_in : List ℕ → ℕ
pattern_in s = cond (has_minus s) (65536 - size_from 0 s) (size_from 0 s) % 65536

-- whether two texts are the same
unfoldable pub same : List ℕ → List ℕ → Bool
same [] [] = true
same [] (y ∷ ys) = false
same (x ∷ xs) [] = false
same (x ∷ xs) (y ∷ ys) = cond (eqb x y) (same xs ys) false

-- what a field holds: the pattern of which it is the text, and Wrong where it is the text of none
unfoldable pub read_number : List ℕ → Option ℕ
read_number f = cond (same f (text (pattern_in f))) (Some (pattern_in f)) None
