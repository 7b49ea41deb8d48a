-- Instances of the theorems on writing (`writer_laws/specs/Writing.antt`): document 01's listing is written character by character, in a buffer of just its
-- length and not in a shorter one; a table of zeros and no table at all are refused before the buffer is looked at. Assumes nothing.
use Rattle.writer.specs.declared.WriteRefusal.TheVariants as WriteRefusal
use Rattle.std.specs.Prelude.{ℕ, ◌≤◌, ◌<◌, ◌≡◌, refl, List, [], ◌∷◌, ◌++◌, length, drop, pos, Err, Ok}
use Rattle.std.proofs.Common.{ap, eq-eqb, le-leb}
use Rattle.std.proofs.lemmas.Bool.{lt-leb}
use Rattle.numbers.specs.Bytes.{joined}
use Rattle.numbers.specs.Bytes.Laws.{encode_below}
use Rattle.numbers.specs.Search.{computing}
use Rattle.text.specs.Text.{figures_by, figures, numeral, right_justified, text, line_text, file_text}
use Rattle.text.specs.Text.Characters.{Characters}
use Rattle.table.specs.Table.{Table, table_length}
use Rattle.loader.specs.Load.{table_bytes, accepted}
use Rattle.loader_laws.specs.PrintedFile.{filled_up}
use Rattle.loader_laws.specs.Yields.{length_bytes, bytes_hold}
use Rattle.writer.specs.Write.{printed_form, Outcome, outcome, laid_into, write_call, refusal_number, bytes_number}
use Rattle.interface.specs.Interface.{written_to, written_numbers, write_result}
use Rattle.writer_laws.specs.Writing.{FileOf, table_iff}
use Rattle.listing_lines.specs.Lines.{characters}
use Rattle.examples.specs.Tables.{listing}
use Rattle.examples.specs.Files.{table_for, table_holds, table_long, table_accepted, listing_in_order}
use Rattle.instances.specs.OfBuffers.{zero_table, zero_shaped, zero_refused}

-- ---- document 01's listing

-- its file, as `examples/listing.txt` has it
abbrev pub file_lines : List (List ℕ)
file_lines =
    characters "     1     1     1     2     6     5     0     0     0     0     0     0\n"
    ∷ characters "     2     0     0     0     0     0     0     0     0     0     0     0\n"
    ∷ characters "     3     0     2     6     0     0     0     0     0     0     0     0\n"
    ∷ characters "     4     1     0     0     0     0     0     0     0     0     0     0\n"
    ∷ characters "     4     0     0     0     0     0     0     0     0     0     0     0\n"
    ∷ characters "     5     1     1     0     0     0     0     0     0     0     0     0\n"
    ∷ characters "     5     1     1     0     0     0     0     0     0     0     0     0\n"
    ∷ characters "     5     1     1     0     0     0     0     0     0     0     0     0\n"
    ∷ characters "     5     1     1     0     0     0     0     0     0     0     0     0\n"
    ∷ characters "     5     1     1     0     0     0     0     0     0     0     0     0\n"
    ∷ characters "     5     0     0     0     0     0     0     0     0     0     0     0\n"
    ∷ characters "     6     0     0     0     3     0     0     0     1     0     0     0\n"
    ∷ characters "     6     0     0     0     4     0     0     0     2     4     0     0\n"
    ∷ characters "     6     0     0     0     5     1     7     0     3     0     0     0\n"
    ∷ characters "     6     0     0     0     1     0     1     0     5     0     0     0\n"
    ∷ characters "     6     0     0     0     2     0     1     0     5     0     0     0\n"
    ∷ []

listing_text : printed_form (filled_up listing) ≡ joined file_lines
unfolding computing joined figures_by figures numeral right_justified text line_text file_text printed_form characters
listing_text = refl

listing_long : length (joined file_lines) ≡ 1168
unfolding joined characters
listing_long = refl

-- a buffer of 1168 bytes or more gets it, and keeps what is behind
pub listing_written : (b : List ℕ) → 1168 ≤ length b → write_call (table_for listing) b ≡ outcome (Ok 1168) (joined file_lines ++ drop 1168 b)
unfolding write_call laid_into
listing_written b h =
    rw (eq-eqb (length (table_for listing)) table_length (table_long listing listing_in_order), table_accepted listing listing_in_order, table_holds listing listing_in_order, listing_text, listing_long, le-leb 1168 (length b) h)

-- a shorter one does not
pub listing_short : (b : List ℕ) → length b < 1168 → write_call (table_for listing) b ≡ outcome (Err WriteRefusal.ShortBuffer) b
unfolding write_call laid_into
listing_short b h =
    rw (eq-eqb (length (table_for listing)) table_length (table_long listing listing_in_order), table_accepted listing listing_in_order, table_holds listing listing_in_order, listing_text, listing_long, lt-leb 1168 (length b) h)

-- ---- a table of zeros is that of no file, and no bytes are no table; the buffer has no room either, and that is not looked at

pub zeros_refused : write_call (table_bytes zero_table) [] ≡ outcome (Err WriteRefusal.WrongTable) []
unfolding write_call accepted
zeros_refused = rw (eq-eqb (length (table_bytes zero_table)) table_length (length_bytes zero_table zero_shaped), bytes_hold zero_table zero_shaped, zero_refused)

pub nothing_refused : write_call [] [] ≡ outcome (Err WriteRefusal.WrongLength) []
unfolding write_call
nothing_refused = refl

-- so, by the law, no file loads to zeros
pub bytes_small : (tb : Table) → Characters (table_bytes tb)
unfolding table_bytes
bytes_small tb = encode_below 2 (joined tb)

pub zeros_of_none : (file : List ℕ) → ¬ FileOf (table_bytes zero_table) file
zeros_of_none file = ((table_iff (table_bytes zero_table) [] (bytes_small zero_table)).0 (ap (λ (o : Outcome). o.answer) zeros_refused)).1 file

-- ---- the same in C's numbers

pub listing_answered : (b : List ℕ) → 1168 ≤ length b → write_result (table_for listing) b ≡ written_to (record { refusal = pos 0; bytes = pos 1168 }) (joined file_lines ++ drop 1168 b)
unfolding write_result written_numbers refusal_number bytes_number
listing_answered b h = rw (listing_written b h)

pub zeros_answered : write_result (table_bytes zero_table) [] ≡ written_to (record { refusal = pos 9; bytes = pos 0 }) []
unfolding write_result written_numbers refusal_number bytes_number
zeros_answered = rw zeros_refused
