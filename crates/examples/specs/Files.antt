-- Whether the file of rows loads, computed from the rows; and from there to a table that the engine accepts, in which every run is sound. Assumes nothing.
use Rattle.std.specs.Prelude.{ℕ, ◌<◌, ◌≡◌, refl, Bool, true, ◌&&◌, List, [], ltb, leb, length, get_or, Ok}
use Rattle.std.proofs.Common.{◌∙◌}
use Rattle.std.proofs.Math.Dec.{eqb}
use borrow.Author.Tests.{ltb-true, leb-true, eqb-true}
use Rattle.numbers.specs.Rows.{at}
use Rattle.numbers.specs.Search.{every}
use Rattle.numbers.specs.Search.Laws.{every_elim}
use Rattle.numbers.specs.Tests.{and_left, and_right}
use Rattle.text.specs.Text.{file_text}
use Rattle.table.specs.Table.{Table, max_rows, row_numbers, table_of}
use Rattle.file.specs.File.{file_table}
use Rattle.loader.specs.Verdict.{judged, verdict, is_sound}
use Rattle.loader.specs.Verdict.Laws.{is_sound_lem}
use Rattle.loader.specs.Load.{table_length, table_bytes, outcome, loaded, accepted}
use Rattle.loader_laws.specs.PrintedFile.{Printable, filled_up, print_table, print_judged}
use Rattle.loader_laws.specs.Yields.{file_shaped, length_bytes, bytes_hold, sound_loads, file_small, file_accepted}
use Rattle.rules.specs.Start.{started}
use Rattle.rules.specs.Calls.{course_of}
use Rattle.rules_laws.specs.Granted.{Granted}
use Rattle.rules_laws.specs.Accepted.{granted}
use Rattle.rules_laws.specs.Soundness.{Sound}
use Rattle.rules_laws.specs.Started.{started_sound}
use Rattle.rules_laws.specs.Lasting.{course_kept}
use Rattle.examples.specs.Computing.{judging}
use Rattle.examples.specs.Tables.{listing, spawner, maker, parting, teaching, port_receiver, end_only, doublings, doublings_and_one, calls_up, calls_down, calls_itself, repeats, counter}

-- ---- rows and their file

-- rows that can be printed: 1 to 865 of them, each of twelve numbers of 16 bits
unfoldable pub prints : Table → Bool
prints rs =
    leb 1 (length rs)
    && (leb (length rs) max_rows
    && (every (λ i. eqb (length (get_or rs i [])) row_numbers) (length rs)
    && every (λ i. every (λ k. ltb (at rs i k) 65536) row_numbers) (length rs)))

-- rows that can be printed and in which a verdict finds no fault
unfoldable pub in_order : Table → Bool
in_order rs = prints rs && is_sound (judged (filled_up rs) (length rs))

module _ (rs : Table) where
  printable : prints rs ≡ true → Printable rs
  unfolding prints
  printable e =
      let e2 = and_right (leb 1 (length rs)) _ e in
      let e3 = and_right (leb (length rs) max_rows) _ e2 in
      let twelves = and_left (every (λ i. eqb (length (get_or rs i [])) row_numbers) (length rs)) _ e3 in
      let smalls = and_right (every (λ i. eqb (length (get_or rs i [])) row_numbers) (length rs)) _ e3 in
      record {
        some = leb-true 1 (length rs) (and_left _ _ e);
        few = leb-true (length rs) max_rows (and_left _ _ e2);
        twelve = λ i l. eqb-true (length (get_or rs i [])) row_numbers (every_elim _ (length rs) i twelves l);
        small = λ i k l m. ltb-true (at rs i k) 65536 (every_elim _ row_numbers k (every_elim _ (length rs) i smalls l) m);
      }

  -- the verdict on the file is that on the rows
  pub rows_judged : prints rs ≡ true → verdict (file_text rs) ≡ judged (filled_up rs) (length rs)
  rows_judged e = print_judged rs (printable e)

  -- where it finds no fault the table of the file is the rows, filled up
  pub rows_load : in_order rs ≡ true → (verdict (file_text rs) ≡ Ok tt) × (file_table (file_text rs) ≡ filled_up rs)
  unfolding in_order
  rows_load e =
      let p = and_left (prints rs) _ e in
      (rows_judged p ∙ is_sound_lem (judged (filled_up rs) (length rs)) (and_right (prints rs) _ e), print_table rs (printable p))

-- ---- from rows in order to an accepted table

-- the bytes that loading leaves
abbrev pub table_for : Table → List ℕ
table_for rs = table_bytes (filled_up rs)

module _ (rs : Table) (e : in_order rs ≡ true) where
  -- the file loads into every buffer of the right length
  pub rows_loaded : (t : List ℕ) → length t ≡ table_length → loaded (file_text rs) t ≡ outcome (Ok tt) (table_for rs)
  rows_loaded t l = let (v, q) = rows_load rs e in rw q at (sound_loads (file_text rs) t v l)

  pub table_holds : table_of (table_for rs) ≡ filled_up rs
  table_holds = rw (← (rows_load rs e).1) (bytes_hold (file_table (file_text rs)) (file_shaped (file_text rs)))

  pub table_long : length (table_for rs) ≡ table_length
  table_long = rw (← (rows_load rs e).1) (length_bytes (file_table (file_text rs)) (file_shaped (file_text rs)))

  pub table_small : (i : ℕ) → get_or (table_for rs) i 0 < 256
  table_small = rw (rows_load rs e).1 at (file_small (file_text rs))

  pub table_accepted : accepted (table_for rs) ≡ true
  table_accepted = let (v, q) = rows_load rs e in rw q at (file_accepted (file_text rs) v)

  -- all that the engine's theorems ask of a table
  pub rows_granted : Granted (filled_up rs)
  rows_granted = rw table_holds at (granted (table_for rs) table_accepted table_small)

  -- every state that a run reaches from the start is sound
  pub run_sound : (n : ℕ) → Sound (filled_up rs) (course_of (filled_up rs) n (started (filled_up rs))).state
  run_sound n = course_kept (filled_up rs) rows_granted n (started (filled_up rs)) (started_sound (filled_up rs) rows_granted)

-- ---- the files of the theorems are in order

pub listing_in_order : in_order listing ≡ true
unfolding judging prints in_order
listing_in_order = refl

pub spawner_in_order : in_order spawner ≡ true
unfolding judging prints in_order
spawner_in_order = refl

pub maker_in_order : in_order maker ≡ true
unfolding judging prints in_order
maker_in_order = refl

pub parting_in_order : in_order parting ≡ true
unfolding judging prints in_order
parting_in_order = refl

pub teaching_in_order : in_order teaching ≡ true
unfolding judging prints in_order
teaching_in_order = refl

pub receiver_in_order : in_order port_receiver ≡ true
unfolding judging prints in_order
receiver_in_order = refl

pub end_in_order : in_order end_only ≡ true
unfolding judging prints in_order
end_in_order = refl

pub doublings_in_order : in_order doublings ≡ true
unfolding judging prints in_order
doublings_in_order = refl

pub one_more_in_order : in_order doublings_and_one ≡ true
unfolding judging prints in_order
one_more_in_order = refl

pub calls_up_in_order : in_order calls_up ≡ true
unfolding judging prints in_order
calls_up_in_order = refl

pub calls_down_in_order : in_order calls_down ≡ true
unfolding judging prints in_order
calls_down_in_order = refl

pub calls_itself_in_order : in_order calls_itself ≡ true
unfolding judging prints in_order
calls_itself_in_order = refl

pub repeats_in_order : in_order repeats ≡ true
unfolding judging prints in_order
repeats_in_order = refl

pub counter_in_order : in_order counter ≡ true
unfolding judging prints in_order
counter_in_order = refl
