-- Document 02, S-2: a slot that stays empty for a shift sends a card of no bytes, and that is a procedure that ends.
pub mod Laws
use Rattle.std.specs.Prelude.{ℕ, List, [], ◌∷◌}
use Rattle.text.specs.Text.{file_text}

-- its rows: a header that counts one definition and one node, the definition, which has no slot and that one node, and the node, an end
unfoldable pub ending_rows : List (List ℕ)
ending_rows =
    (1 ∷ 0 ∷ 1 ∷ 0 ∷ 1 ∷ 0 ∷ 0 ∷ 0 ∷ 0 ∷ 0 ∷ 0 ∷ 0 ∷ [])
    ∷ (3 ∷ 0 ∷ 0 ∷ 1 ∷ 0 ∷ 0 ∷ 0 ∷ 0 ∷ 0 ∷ 0 ∷ 0 ∷ 0 ∷ [])
    ∷ (5 ∷ 0 ∷ 0 ∷ 0 ∷ 0 ∷ 0 ∷ 0 ∷ 0 ∷ 0 ∷ 0 ∷ 0 ∷ 0 ∷ [])
    ∷ []

-- their lines
abbrev pub ending_text : List ℕ
ending_text = file_text ending_rows

-- the text of the procedure that a file stands for: its own, and these lines where it has no bytes. This text is judged, and the table read from it
unfoldable pub procedure_text : List ℕ → List ℕ
procedure_text [] = ending_text
procedure_text (c ∷ s) = c ∷ s
