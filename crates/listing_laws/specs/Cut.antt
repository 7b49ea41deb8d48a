-- A file that is too long is listed as its first 63,146 bytes are: the program reads no more of it. Assumes nothing.
use Rattle.std.specs.Prelude.{ℕ, ◌/◌, ◌%◌, ◌<◌, ◌≤◌, ◌≡◌, true, List, leb, length, take}
use Rattle.std.proofs.Common.{arith, length-take-le, leb-true, ne_eqb}
use Rattle.numbers.specs.Search.Laws.{case_b}
use Rattle.table.specs.Table.{max_rows}
use Rattle.file.specs.File.{line_length, not_lines}
use Rattle.file.specs.EmptyFile.Laws.{text_own}
use Rattle.loader.specs.Verdict.{verdict}
use Rattle.listing_text.specs.Listing.{listing_by, listing}

too_long : (file : List ℕ) → 63145 < length file → not_lines file ≡ true
unfolding not_lines
too_long file h =
    case_b (leb (length file / line_length) max_rows)
    (λ y. let n : length file / line_length ≤ max_rows = leb-true (length file / line_length) max_rows y in
    case_b (leb 1 (length file / line_length)) (λ z. rw (z, y, ne_eqb (length file % line_length) 0 (λ e. omega arith))) (λ z. rw z))
    (λ y. case_b (leb 1 (length file / line_length)) (λ z. rw (z, y)) (λ z. rw z))

pub listing_cut : (file : List ℕ) → 63145 < length file → listing (take 63146 file) ≡ listing file
unfolding listing listing_by verdict
listing_cut file h =
    let cut = take 63146 file in
    let k : 63145 < length cut = omega (arith, length-take-le 63146 file (omega arith)) in
    rw (text_own file (λ z. absurd (omega arith)), text_own cut (λ z. absurd (omega arith)), too_long file h, too_long cut k)
