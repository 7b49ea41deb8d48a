-- Instances of the theorems on a file of no bytes (`loader_laws/specs/EmptyFile.antt`, `writer_laws/specs/Writing.antt`): its three lines character by character,
-- its listing, and demand 3's claim from its start. What is left out: the first 72 bytes of those lines, which are refused. Assumes nothing.
use Rattle.loader.specs.declared.LoadRefusal.TheVariants as LoadRefusal
use Rattle.std.specs.Prelude.{ℕ, ◌≡◌, refl, ◌≢◌, List, [], ◌∷◌, length, take, Err, Ok}
use Rattle.std.proofs.Common.{arith, ap, inl}
use Rattle.numbers.specs.Bytes.{joined}
use Rattle.file.specs.File.Computing.{reading}
use Rattle.file.specs.EmptyFile.{ending_rows, ending_text, procedure_text}
use Rattle.file.specs.EmptyFile.Laws.{ending_long}
use Rattle.loader.specs.Load.{table_bytes, Outcome, outcome, loaded}
use Rattle.loader.specs.Load.Laws.{ending_sound}
use Rattle.loader.specs.declared.Ground.TheVariants.{Lines}
use Rattle.loader_laws.specs.PrintedFile.{filled_up}
use Rattle.loader_laws.specs.EmptyFile.{ending_table, empty_loads, lines_iff}
use Rattle.writer_laws.specs.Writing.{FileOf, file_of, text_of}
use Rattle.examples.specs.Tables.{end_only}
use Rattle.guarantee.specs.Claim.{Any, Guarantee}
use Rattle.guarantee.specs.Proof.{guarantee}
use Rattle.listing_lines.specs.Lines.{characters}
use Rattle.listing_text.specs.Listing.{listing_by, listing}
use Rattle.instances.specs.Parting.{blank, blank_long}
use Rattle.instances.specs.OfGuarantee.{blank_table, blank_table_long}
use Rattle.instances.specs.OfListing.{end_run, end_printed}

-- ---- the lines

pub ending_lines :
    ending_text ≡ joined (
    characters "     1     0     1     0     1     0     0     0     0     0     0     0\n"
    ∷ characters "     3     0     0     1     0     0     0     0     0     0     0     0\n"
    ∷ characters "     5     0     0     0     0     0     0     0     0     0     0     0\n"
    ∷ [])
unfolding reading ending_rows characters
ending_lines = refl

-- by their names: no types, one definition, no slots, one node, no branches, no ports; the definition has no parameters and no slots; the node is an end
pub ending_named : ending_rows ≡ end_only
unfolding ending_rows
ending_named = refl

-- ---- loading

empty_loaded : loaded [] blank_table ≡ outcome (Ok tt) (table_bytes (filled_up ending_rows))
empty_loaded = empty_loads blank_table blank_table_long

pub empty_done : (loaded [] blank_table).answer ≡ Ok tt
empty_done = ap (λ (o : Outcome). o.answer) empty_loaded

-- so two files load to its table
pub two_files : (t : List ℕ) × FileOf t [] × FileOf t ending_text × (ending_text ≢ [])
unfolding procedure_text
two_files =
    let t = table_bytes (filled_up ending_rows) in
    let f = file_of t [] blank_table empty_loaded in
    (t, f, text_of t [] f, λ e. let n : length ending_text ≡ 0 = ap length e in omega (arith, ending_long))

-- 72 bytes of the lines are no empty file
pub cut_lines : (t : List ℕ) → (loaded (take 72 ending_text) t).answer ≡ Err (LoadRefusal.FileRefused Lines 0)
unfolding reading ending_rows
cut_lines t = (lines_iff (take 72 ending_text) t 0).1 (refl, inl (λ (n, e). absurd (omega arith)))

-- ---- what follows from there

-- one step, to the end
pub empty_listing : listing [] ≡ end_printed
unfolding listing listing_by procedure_text
empty_listing = rw (ending_sound, ending_table, ending_named) end_run

-- demand 3's claim, of whatever list of calls
pub empty_guarantee : (ks : List Any) → Guarantee (loaded [] blank_table).table blank ks
empty_guarantee = guarantee [] blank_table empty_done blank blank_long
