-- The file of document 01's listing is in order, and one change in it is refused on each ground. Assumes nothing.
use Rattle.std.specs.Prelude.{ℕ, ◌≡◌, refl, ◌≢◌, List, [], ◌∷◌, ℤ, negsuc, length, set, take, Err, Ok, Some}
use Rattle.std.proofs.Common.{arith, sym, ◌∙◌, ap}
use Rattle.numbers.specs.Search.Laws.{contra}
use Rattle.text.specs.Text.{file_text, read_number}
use Rattle.text.specs.Text.Laws.{text_reads}
use Rattle.table.specs.Table.{Table}
use Rattle.file.specs.File.{is_value}
use Rattle.file.specs.File.Computing.{reading}
use Rattle.loader.specs.Verdict.{at_fault, verdict}
use Rattle.loader.specs.declared.Ground.{Ground}
use Rattle.loader.specs.declared.Ground.TheVariants.{Lines, Field, Header, Total, Kind, Sums, Range, Types, Unwritten, Unreachable}
use Rattle.loader_laws.specs.Refused.{from, any_number, Within, decimal, printed, Refused, rank, LowestOf}
use Rattle.loader_laws.specs.Refused.Numbers.{pattern, text_printed}
use Rattle.loader_laws.specs.Refused.Laws.{refused_iff, in_order_iff}
use Rattle.examples.specs.Builders as Row
use Rattle.examples.specs.Builders.{header, definition, pass}
use Rattle.examples.specs.Tables.{listing_with, listing}
use Rattle.examples.specs.Computing.{judging}
use Rattle.examples.specs.Files.{prints, rows_judged, rows_load, listing_in_order}

-- the file, which is in order
abbrev pub listing_file : List ℕ
listing_file = file_text listing

pub listing_sound : verdict listing_file ≡ Ok tt
listing_sound = (rows_load listing listing_in_order).0

-- ---- changes in the file: 72 characters of it alone; a blank for the second newline

pub listing_cut : verdict (take 72 listing_file) ≡ Err (Lines, 0)
unfolding reading verdict
listing_cut = refl

pub listing_cut_long : length (take 72 listing_file) ≡ 72
unfolding reading
listing_cut_long = refl

pub listing_malformed : verdict (set listing_file 145 32) ≡ Err (Field, 2)
unfolding reading at_fault verdict
listing_malformed = refl

-- ---- changes in its header and its definition: seventeen types, a branch too few, a slot for a node; a slot too few

-- the listing with this header and this definition
abbrev with_counts : List ℕ → List ℕ → Table
with_counts counts defined = listing_with counts defined (Row.set 1 7 3)

abbrev pub seventeen : Table
seventeen = with_counts (header 17 1 2 6 5 0) (definition 0 2 6)

pub listing_header : verdict (file_text seventeen) ≡ Err (Header, 1)
unfolding judging prints
listing_header = rows_judged seventeen refl

abbrev pub branch_short : Table
branch_short = with_counts (header 1 1 2 6 4 0) (definition 0 2 6)

pub listing_total : verdict (file_text branch_short) ≡ Err (Total, 1)
unfolding judging prints
listing_total = rows_judged branch_short refl

abbrev pub slot_for_node : Table
slot_for_node = with_counts (header 1 1 3 5 5 0) (definition 0 2 6)

pub listing_kind : verdict (file_text slot_for_node) ≡ Err (Kind, 6)
unfolding judging prints
listing_kind = rows_judged slot_for_node refl

abbrev pub slot_short : Table
slot_short = with_counts (header 1 1 2 6 5 0) (definition 0 1 6)

pub listing_sums : verdict (file_text slot_short) ≡ Err (Sums, 1)
unfolding judging prints
listing_sums = rows_judged slot_short refl

-- ---- changes in the branch of node 2: it sets slot 2, which there is not; slot 0, which is a channel; no slot; or it leads past node 3

abbrev with_branch : List ℕ → Table
with_branch second = listing_with (header 1 1 2 6 5 0) (definition 0 2 6) second

abbrev pub outside : Table
outside = with_branch (Row.set 2 7 3)

pub listing_range : verdict (file_text outside) ≡ Err (Range, 14)
unfolding judging prints
listing_range = rows_judged outside refl

abbrev pub mistyped : Table
mistyped = with_branch (Row.set 0 7 3)

pub listing_types : verdict (file_text mistyped) ≡ Err (Types, 14)
unfolding judging prints
listing_types = rows_judged mistyped refl

abbrev pub unset : Table
unset = with_branch (pass 3)

pub listing_unwritten : verdict (file_text unset) ≡ Err (Unwritten, 15)
unfolding judging prints
listing_unwritten = rows_judged unset refl

abbrev pub passing : Table
passing = with_branch (Row.set 1 7 5)

pub listing_unreachable : verdict (file_text passing) ≡ Err (Unreachable, 9)
unfolding judging prints
listing_unreachable = rows_judged passing refl

-- ---- the listing and some of the changes in the words of the grounds

-- no ground has a line of the listing at fault
pub listing_refused : (g : Ground) (l : ℕ) → ¬ Refused listing_file g l
listing_refused = (in_order_iff listing_file).0 listing_sound

-- seventeen types are at fault by the limits themselves
pub header_refused : Refused (file_text seventeen) Header 1
unfolding reading Refused from
header_refused = (refl, (0, omega arith, λ w. w.1.le))

-- a slot that there is not: line 14 is refused on ground 4, no line before it is, and none on the grounds before
pub range_refused : LowestOf (Refused (file_text outside)) Range 14
range_refused = (refused_iff (file_text outside) Range 14).0 listing_range

-- a file that is refused on ground 4 is refused on no later ground, though it be at fault there
pub range_only : ¬ LowestOf (Refused (file_text outside)) Types 14
unfolding rank
range_only w = w.2 Range 14 (omega arith) range_refused.0

-- with nothing set at node 2, the send at node 3 reads slot 1, which the one path to there has not written
pub unwritten_refused : LowestOf (Refused (file_text unset)) Unwritten 15
unwritten_refused = (refused_iff (file_text unset) Unwritten 15).0 listing_unwritten

-- with node 5 next to node 2, no path leads to node 3
pub unreachable_refused : LowestOf (Refused (file_text passing)) Unreachable 9
unreachable_refused = (refused_iff (file_text passing) Unreachable 9).0 listing_unreachable

-- ---- fields: the least number and its print; and a print of no number, for its leading zero

pub least_printed : printed (negsuc 32767) ≡ 45 ∷ 51 ∷ 50 ∷ 55 ∷ 54 ∷ 56 ∷ []
unfolding reading decimal
least_printed = refl

pub zero_printed : (z : ℤ) → Within any_number z → printed z ≢ 32 ∷ 32 ∷ 32 ∷ 32 ∷ 48 ∷ 55 ∷ []
unfolding reading
zero_printed z w e =
    let (v, h, q) = pattern z w in
    let r : read_number (32 ∷ 32 ∷ 32 ∷ 32 ∷ 48 ∷ 55 ∷ []) ≡ Some v = text_reads (32 ∷ 32 ∷ 32 ∷ 32 ∷ 48 ∷ 55 ∷ []) v h (sym e ∙ ap printed (sym q) ∙ sym (text_printed v h)) in
    contra (ap is_value r) refl
