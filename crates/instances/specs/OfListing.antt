-- Document 01's listing, worked from its file by the definitions alone. Assumes nothing.
use Rattle.std.specs.Prelude.{ℕ, ◌≡◌, refl, List, [], ◌∷◌}
use Rattle.numbers.specs.Bytes.{joined}
use Rattle.text.specs.Text.{figures_by, figures, numeral, right_justified, text, file_text}
use Rattle.rules.specs.Calls.{step_answer}
use Rattle.engine.specs.Numbers.{act_number, branch_number, partner_number, reason_number, held_up_number}
use Rattle.loader_laws.specs.PrintedFile.{filled_up, sound_own}
use Rattle.examples.specs.Tables.{listing, end_only}
use Rattle.examples.specs.Computing.{collecting}
use Rattle.examples.specs.Files.{rows_load, listing_in_order}
use Rattle.listing_lines.specs.Lines.{characters, column, line, heading, step_line, channels_in_use}
use Rattle.listing_text.specs.Listing as Listing
use Rattle.listing_text.specs.Listing.{turn_line, step_lines, closing_line, taken_line, taken_lines, run_lines, listing_by}

-- opens all that a listing computes with
unfoldable listings_compute : Unit {0}
unfolding collecting joined figures_by figures numeral right_justified text step_answer act_number branch_number partner_number reason_number held_up_number characters column line heading step_line channels_in_use turn_line step_lines closing_line taken_line taken_lines run_lines
listings_compute = tt

-- what document 01 prints
abbrev pub printed : List ℕ
printed = joined (
    characters "  STEPTHREAD  NODE   ACTBRANCH  WITH\n"
    ∷ characters "     1     0     0     3     0    -1\n"
    ∷ characters "     2     0     1     3     0     1\n"
    ∷ characters "     3     1     4     2     0    -1\n"
    ∷ characters "     4     0     2     3     0    -1\n"
    ∷ characters "     5     0     3     3     0     1\n"
    ∷ characters "     6     1     5     0     0    -1\n"
    ∷ characters "     7     0     5     0     0    -1\n"
    ∷ characters "     7     1    -1     0     0\n"
    ∷ [])

-- what is printed of a procedure of one node, an end: the one step, and that no thread is ready then
abbrev pub end_printed : List ℕ
end_printed = joined (
    characters "  STEPTHREAD  NODE   ACTBRANCH  WITH\n"
    ∷ characters "     1     0     0     0     0    -1\n"
    ∷ characters "     1     1    -1     0     0\n"
    ∷ [])

pub end_run : run_lines (filled_up end_only) ≡ end_printed
unfolding listings_compute
end_run = refl

example_run : run_lines (filled_up listing) ≡ printed
unfolding listings_compute
example_run = refl

-- the file's listing is that, character by character
pub example_listing : Listing.listing (file_text listing) ≡ printed
unfolding Listing.listing listing_by
example_listing = let l = rows_load listing listing_in_order in rw (sound_own (file_text listing) l.0, l.0, l.1) example_run
