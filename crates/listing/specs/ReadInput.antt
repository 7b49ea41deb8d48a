-- How much of the input is read, and what then stands in the buffer. Assumes nothing.
use Rattle.std.specs.Prelude.{ℕ, ◌<◌, ◌≤◌, ◌≡◌, List, length, take, ⊤, Result, Ok, Err}
use Rattle.std.proofs.Common.{arith, sym, ◌∙◌, ap, take_all, length-take-le}
use Rattle.std.proofs.Math.Decide.{dec_lt}
use Rattle.std.specs.Io.KnownBytes.{Consumes, IsAtEnd}
use Rattle.std.specs.declared.option.Option.{Option}

-- no more came than the buffer holds
abbrev pub Within : {E : Type 0} → Result ℕ E → ℕ → Type 0
Within (Ok n) most = n ≤ most
Within (Err _) most = Unit

module _ {E : Type 0} (x : Result ℕ E) (b : List ℕ) (e : Within x (length b)) (n : ℕ) (f : x ≡ Ok n) where
  pub came_within : n ≤ length b
  came_within = rw f at e

  pub came_counts : n ≡ length (take n b)
  came_counts = sym (length-take-le n b came_within)

-- r: the length of vs, which stands at the front of b
module _ (r : ℕ) (b vs : List ℕ) (e : r ≡ length vs) (f : take r b ≡ vs) where
  pub front_counts : r ≡ length (take r b)
  front_counts = e ∙ ap length (sym f)

  pub front_within : r ≤ length b
  front_within = go (dec_lt (length b) r)
    where
      go : Dec (length b < r) → r ≤ length b
      go (yes h) = omega (arith, front_counts, ap length (take_all r b (omega arith)))
      go (no h) = omega arith

-- old, new: the bytes that a reader had and has left, where they are known. What came stands at the front of b and is just what the reader has lost; where it
-- does not fill b, nothing is left
abbrev pub ReadsToEnd : {E : Type 0} → Result ℕ E → Option (List ℕ) → Option (List ℕ) → List ℕ → Type 0
ReadsToEnd (Ok n) old new b = Consumes old new (take n b) × (n < length b → IsAtEnd new)
ReadsToEnd (Err _) old new b = ⊤
