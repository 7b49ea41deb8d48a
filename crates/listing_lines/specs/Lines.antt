-- The lines of a listing, as bytes: a line of numbers in columns, the heading, the line of a step, and what is counted in the closing line.
use Rattle.rules.specs.Answers.{Stepped}
use Rattle.std.specs.Prelude.{ℕ, ◌%◌, not, List, [], ◌∷◌, ◌++◌, map, Err, Ok}
use Prim.Native.Char.{code}
use Prim.Native.String.{String, [] as ends, ◌∷◌ as ◌then◌}
use Rattle.numbers.specs.Bytes.{joined}
use Rattle.numbers.specs.Count.{bit}
use Rattle.numbers.specs.Search.{sum_to}
use Rattle.text.specs.Text.{text}
use Rattle.state.specs.State.{State, max_channels}
use Rattle.rules.specs.Moves.{is_free_channel}
use Rattle.engine.specs.Numbers.{act_number, branch_number, partner_number}

-- the characters of a quoted text, each as its number
unfoldable pub characters : String → List ℕ
characters ends = []
characters (c then s) = code c ∷ characters s

-- the column of a number that is given by its 32-bit pattern: the six characters of the same number's 16-bit pattern. Every number of a listing is within
-- 16 bits (`listing_laws/specs/Shown.antt`)
unfoldable pub column : ℕ → List ℕ
column v = text (v % 65536)

-- a line: columns and a newline
unfoldable pub line : List ℕ → List ℕ
line vs = joined (map column vs) ++ (10 ∷ [])

unfoldable pub heading : List ℕ
heading = characters "  STEPTHREAD  NODE   ACTBRANCH  WITH\n"

-- the line of step k, by thread t and what the step answers; a step that is refused has none
unfoldable pub step_line : ℕ → ℕ → Stepped → List ℕ
step_line k t (Ok (n, d)) = line (k ∷ t ∷ n ∷ act_number d ∷ branch_number d ∷ partner_number d ∷ [])
step_line k t (Err r) = []

-- how many channels are in use, the ports among them
unfoldable pub channels_in_use : State → ℕ
channels_in_use s = sum_to (λ c. bit (not (is_free_channel s c))) max_channels
