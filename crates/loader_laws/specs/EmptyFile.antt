-- A file of no bytes (document 02, S-2): it loads, to the table of the three lines of a procedure that ends. Every other file is judged as document 01 says,
-- and ground 1 is that a file is not whole lines, or too many. Assumes nothing.
use Rattle.loader.specs.declared.LoadRefusal.TheVariants as LoadRefusal
use Rattle.std.specs.Prelude.{ℕ, ◌≡◌, refl, ◌≢◌, ◌↔◌, List, [], length, Err, Ok}
use native.Mathlib.Omega.{arith}
use Rattle.std.proofs.Common.{◌∙◌}
use Rattle.std.proofs.Math.Logic.{inr, ⊎_elim}
use borrow.Author.Tests.{ne_eqb}
use Rattle.table.specs.Table.{table_length}
use Rattle.file.specs.File.{file_table}
use Rattle.file.specs.File.Computing.{reading}
use Rattle.file.specs.EmptyFile.{ending_rows, ending_text, procedure_text}
use Rattle.file.specs.EmptyFile.Laws.{text_none, text_own}
use Rattle.loader.specs.Verdict.{verdict}
use Rattle.loader.specs.Load.{table_bytes, outcome, after_verdict, loaded}
use Rattle.loader.specs.Load.Laws.{ending_sound}
use Rattle.loader.specs.declared.Ground.{Ground}
use Rattle.loader.specs.declared.Ground.TheVariants.{Lines}
use Rattle.loader_laws.specs.PrintedFile.{filled_up, sound_own}
use Rattle.loader_laws.specs.Yields.{sound_loads}
use Rattle.loader_laws.specs.Refused.{NotWhole, Refused, rank, LowestOf}
use Rattle.loader_laws.specs.Refused.Laws.{in_order_iff, answer_iff}

-- the table of the lines of the procedure that ends is its rows
pub ending_table : file_table ending_text ≡ filled_up ending_rows
unfolding reading ending_rows
ending_table = refl

-- ---- a file of no bytes

module _ (t : List ℕ) where
  -- it loads as these lines do, into every buffer
  pub empty_as_ending : loaded [] t ≡ loaded ending_text t
  unfolding loaded procedure_text
  empty_as_ending = rw (sound_own ending_text ending_sound)

  -- a buffer of the table's length gets their table
  pub empty_loads : length t ≡ table_length → loaded [] t ≡ outcome (Ok tt) (table_bytes (filled_up ending_rows))
  empty_loads l = empty_as_ending ∙ sound_loads ending_text t ending_sound l ∙ rw ending_table

  -- any other is refused, on ground 8
  pub empty_refused : length t ≢ table_length → loaded [] t ≡ outcome (Err LoadRefusal.WrongLength) t
  unfolding loaded after_verdict procedure_text
  empty_refused n = rw (ending_sound, ne_eqb (length t) table_length n)

-- ---- every other file

module _ (file t : List ℕ) where
  -- it is judged and read itself
  pub other_loads : length file ≢ 0 → loaded file t ≡ after_verdict (verdict file) file t
  unfolding loaded
  other_loads n = rw (text_own file n)

  -- a file is refused with a ground and a line exactly when it has bytes, and document 01 has this ground for its lowest, with this line for the first
  pub ground_iff : (g : Ground) (l : ℕ) → ((loaded file t).answer ≡ Err (LoadRefusal.FileRefused g l)) ↔ ((length file ≢ 0) × LowestOf (Refused file) g l)
  ground_iff g l = (
    λ e. let w = (answer_iff file t g l).0 e in
        let n : length file ≢ 0 = λ z. (in_order_iff ending_text).0 ending_sound g l (rw (text_none file z) at w.0) in
        (n, rw (text_own file n) at w),
    λ (n, w). (answer_iff file t g l).1 (rw (text_own file n) w),
  )

  -- ground 1 names no line, and a file has it exactly when it is not whole lines, or over 865 of them
  pub lines_iff : (l : ℕ) → ((loaded file t).answer ≡ Err (LoadRefusal.FileRefused Lines l)) ↔ ((l ≡ 0) × NotWhole file)
  unfolding Refused rank
  lines_iff l = (
    λ e. let (n, w) = (ground_iff Lines l).0 e in let (q, x) = w.0 in (q, ⊎_elim (λ z. absurd (n z)) (λ y. y) x),
    λ (q, x). (ground_iff Lines l).1 (
      λ z. ⊎_elim (λ f. f (0, z)) (λ h. omega arith) x,
      ((q, inr x), λ m y w. omega arith, λ h m y w. omega arith),
    ),
  )
