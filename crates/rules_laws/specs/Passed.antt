-- What it says that a table is accepted: no ground from 3 to 7 refuses it. Assumes nothing.
use Rattle.std.specs.Prelude.{ℕ, ◌+◌, ◌*◌, ◌<◌, ◌≡◌, true, cond, List, ltb, eqb, get_or, Err, Ok}
use Rattle.std.proofs.Common.{arith}
use Rattle.std.proofs.Math.ListN.{length}
use borrow.Author.Tests.{ltb-true, ltb-false, eq-eqb, eqb-true}
use Rattle.numbers.specs.Bytes.{shorts}
use Rattle.numbers.specs.Bytes.Laws.{numbers_fit}
use Rattle.numbers.specs.Rows.{at}
use Rattle.numbers.specs.Rows.Laws.{at_in, at_out, at_row_out}
use Rattle.numbers.specs.Search.{first}
use Rattle.numbers.specs.Search.Laws.{case_b}
use Rattle.numbers.specs.Tests.{and_left, and_right}
use Rattle.table.specs.Table.{Table, max_rows, row_numbers, table_of, line_total}
use Rattle.table.specs.Form.{kind_wrong, sums_agree}
use Rattle.ranges.specs.Ranges.{out_of_range}
use Rattle.types.specs.Types.{types_disagree}
use Rattle.flow.specs.Flow.{reads_unwritten, unreachable}
use Rattle.file.specs.File.{line_count}
use Rattle.loader.specs.Verdict.{at_fault, judged_flow, judged_rows, judged}
use Rattle.loader.specs.Verdict.Laws.{no_sound, judged_header}
use Rattle.loader.specs.Load.{table_length, accepted}
use Rattle.loader.specs.declared.Ground.TheVariants.{Kind, Sums, Range, Types, Unwritten, Unreachable}
use Rattle.loader_laws.specs.Grounds.{Formed}
use Rattle.loader_laws.specs.PrintedFile.{fault_sound, sound_read}
use Rattle.loader_laws.specs.Yields.{judged_total, acceptable_iff, buffer_shaped}

-- a table in which none of the grounds 3 to 7 has a line at fault
pub record Passed (tb : Table) : Type 0 where
  pub formed : Formed tb
  pub typed : first (types_disagree tb) (line_total tb) ≡ line_total tb
  pub written : first (reads_unwritten tb) (line_total tb) ≡ line_total tb
  pub reached : first (unreachable tb) (line_total tb) ≡ line_total tb

module _ (tb : Table) where
  -- of ground 3 the kinds and the sums, and the rest of the verdict
  past_form : (n : ℕ) → judged tb n ≡ Ok tt → (first (kind_wrong tb) n ≡ n) × (sums_agree tb ≡ true) × (judged_rows tb n ≡ Ok tt)
  unfolding judged
  past_form n e =
      let k : at_fault Kind (kind_wrong tb) n (cond (sums_agree tb) (judged_rows tb n) (Err (Sums, 1))) ≡ Ok tt =
      rw (judged_header tb n e, eq-eqb n (line_total tb) (judged_total tb n e)) at e in
      let (f, q) = fault_sound Kind (kind_wrong tb) n (cond (sums_agree tb) (judged_rows tb n) (Err (Sums, 1))) k in
      case_b (sums_agree tb) (λ y. (f, y, rw y at q)) (λ y. no_sound Sums 1 (rw y at q))

  -- a table in which the verdict finds no fault passes every ground
  pub judged_passed : (n : ℕ) → judged tb n ≡ Ok tt → Passed tb
  unfolding judged_rows judged_flow
  judged_passed n e =
      let t : n ≡ line_total tb = judged_total tb n e in
      let (kinds, sums, rest) = past_form n e in
      let (ranges, past_ranges) = fault_sound Range (out_of_range tb) n _ rest in
      let (typed, past_types) = fault_sound Types (types_disagree tb) n _ past_ranges in
      let (written, past_written) = fault_sound Unwritten (reads_unwritten tb) n _ past_types in
      let (reached, last) = fault_sound Unreachable (unreachable tb) n _ past_written in
      record {
        formed = record { header = judged_header tb n e; kinds = rw t at kinds; sums = sums; ranges = rw t at ranges };
        typed = rw t at typed;
        written = rw t at written;
        reached = rw t at reached;
      }

module _ (b : List ℕ) (e : accepted b ≡ true) (fit : (i : ℕ) → get_or b i 0 < 256) where
  -- the table of a buffer that is accepted passes every ground
  pub accepted_passed : Passed (table_of b)
  unfolding accepted
  accepted_passed =
      let long : length b ≡ table_length = eqb-true (length b) table_length (and_left _ _ e) in
      let (file, v, t) = (acceptable_iff (table_of b) (buffer_shaped b long fit)).0 (and_right (eqb (length b) table_length) _ e) in
      judged_passed (table_of b) (line_count file) (rw t at (sound_read file v).1)

-- every number of a table in bytes is one of 16 bits
pub cells_small : (b : List ℕ) → ((i : ℕ) → get_or b i 0 < 256) → (r k : ℕ) → at (table_of b) r k < 65536
cells_small b fit r k = case_b (ltb r max_rows)
    (λ y. let h = ltb-true r max_rows y in
    case_b (ltb k row_numbers)
    (λ z. rw (at_in max_rows row_numbers (shorts b) r k h (ltb-true k row_numbers z)) (numbers_fit 2 b fit (r * row_numbers + k)))
    (λ z. rw (at_out max_rows row_numbers (shorts b) r k h (ltb-false k row_numbers z)) (omega arith)))
    (λ y. rw (at_row_out max_rows row_numbers (shorts b) r k (ltb-false r max_rows y)) (omega arith))
