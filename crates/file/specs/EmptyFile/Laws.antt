-- The text for which a file stands, and the numbers of the procedure that ends, laid into a table. Assumes nothing.
use Rattle.std.specs.Prelude.{ℕ, ◌*◌, ◌≤◌, ◌≡◌, refl, ◌≢◌, ◌⊎◌, List, [], ◌∷◌, length, set, replicate}
use Rattle.std.proofs.Common.{arith, sym, inl, inr}
use Rattle.numbers.specs.Rows.{rows}
use Rattle.numbers.specs.Laid.{laid}
use Rattle.table.specs.Table.{max_rows, row_numbers, table_numbers}
use Rattle.file.specs.File.{line_count, file_table, number_in}
use Rattle.file.specs.File.Laws.{rows_file}
use Rattle.file.specs.File.Computing.{reading}
use Rattle.file.specs.EmptyFile.{ending_rows, ending_text, procedure_text}

-- ---- the text

pub ending_long : length ending_text ≡ 219
unfolding reading ending_rows
ending_long = refl

pub text_none : (file : List ℕ) → length file ≡ 0 → procedure_text file ≡ ending_text
unfolding procedure_text
text_none [] e = refl
text_none (c ∷ s) e = absurd (omega arith)

pub text_own : (file : List ℕ) → length file ≢ 0 → procedure_text file ≡ file
unfolding procedure_text
text_own [] n = absurd (n refl)
text_own (c ∷ s) n = refl

-- it is never empty
pub text_some : (file : List ℕ) → length (procedure_text file) ≢ 0
unfolding procedure_text
text_some [] e = absurd (omega (arith, ending_long))
text_some (c ∷ s) e = absurd (omega arith)

-- two files that stand for one text are the same, but for the one of no bytes and its lines
pub one_text : (file other : List ℕ) → procedure_text file ≡ procedure_text other
    → (file ≡ other) ⊎ (((file ≡ []) × (other ≡ ending_text)) ⊎ ((file ≡ ending_text) × (other ≡ [])))
unfolding procedure_text
one_text [] [] e = inl refl
one_text [] (c ∷ s) e = inr (inl (refl, sym e))
one_text (c ∷ s) [] e = inr (inr (e, refl))
one_text (c ∷ s) (d ∷ r) e = inl e

-- ---- the numbers: those of its lines that are not 0, in their places in a table of zeros

ending_numbers : set (set (set (set (set (set (replicate table_numbers 0) 0 1) 2 1) 4 1) 12 3) 15 1) 24 5 ≡ laid (number_in ending_text) (line_count ending_text * row_numbers) table_numbers
unfolding reading ending_rows laid number_in
ending_numbers = refl

ending_few : line_count ending_text ≤ max_rows
ending_few = omega (arith, ending_long)

pub ending_laid : (z a b c d e f : List ℕ) → a ≡ set z 0 1 → b ≡ set a 2 1 → c ≡ set b 4 1 → d ≡ set c 12 3 → e ≡ set d 15 1 → f ≡ set e 24 5
    → z ≡ replicate table_numbers 0 → rows max_rows row_numbers f ≡ file_table ending_text
ending_laid z a b c d e f p₁ p₂ p₃ p₄ p₅ p₆ q =
    rw (p₆, p₅, p₄, p₃, p₂, p₁, q, ending_numbers) (rows_file ending_text ending_few)
