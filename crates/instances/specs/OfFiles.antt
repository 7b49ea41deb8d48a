-- Instances of the theorems on loading and on what accepted tables have: fields that are numbers and that are not, a table that can be read and those that the
-- records leave out, slots that must have been written. Assumes nothing.
use Rattle.std.specs.Prelude.{ℕ, ◌<◌, ◌≡◌, refl, true, List, [], ◌∷◌, None, Some}
use Rattle.std.proofs.Common.{arith}
use Rattle.numbers.specs.Search.{computing}
use Rattle.numbers.specs.Search.Laws.{contra}
use Rattle.text.specs.Text.{figures_by, figures, numeral, right_justified, text, figure_of, size_from, has_minus, pattern_in, same, read_number}
use Rattle.text.specs.Text.Laws.{reads_wrong}
use Rattle.table.specs.Table.{Table}
use Rattle.loader_laws.specs.PrintedFile.{filled_up}
use Rattle.state.specs.State.{minus_one}
use Rattle.rules.specs.Program.{channel_slot}
use Rattle.rules.specs.Sound.{slot_filled}
use Rattle.rules_laws.specs.Granted.{Granted}
use Rattle.rules_laws.specs.Passed.{Passed, judged_passed}
use Rattle.rules_laws.specs.Filled.{FilledIfSure, slot_filled_iff}
use Rattle.examples.specs.Builders.{ready_at}
use Rattle.examples.specs.Tables.{listing, portless, circle}
use Rattle.examples.specs.Computing.{judging, running}
use Rattle.examples.specs.Files.{table_for, in_order, table_holds, table_small, table_accepted}
use Rattle.published_laws.specs.Readable.{Readable, readable}

-- ---- fields: the least number is one, the number below it and a leading zero are not

pub field_read : read_number (45 ∷ 51 ∷ 50 ∷ 55 ∷ 54 ∷ 56 ∷ []) ≡ Some 32768
unfolding computing figures_by figures numeral right_justified text figure_of size_from has_minus pattern_in same read_number
field_read = refl

pub field_wrong : (read_number (45 ∷ 51 ∷ 50 ∷ 55 ∷ 54 ∷ 57 ∷ []) ≡ None) × (read_number (32 ∷ 32 ∷ 32 ∷ 32 ∷ 48 ∷ 55 ∷ []) ≡ None)
unfolding computing figures_by figures numeral right_justified text figure_of size_from has_minus pattern_in same read_number
field_wrong = (refl, refl)

-- so, by the law, the second is the text of no number
pub no_text : (v : ℕ) → v < 65536 → ¬ ((32 ∷ 32 ∷ 32 ∷ 32 ∷ 48 ∷ 55 ∷ []) ≡ text v)
no_text = reads_wrong (32 ∷ 32 ∷ 32 ∷ 32 ∷ 48 ∷ 55 ∷ []) field_wrong.1

-- ---- accepted tables (`Granted` of rows in order is `rows_granted` of `examples/specs/Files.antt`)

pub rows_readable : (rs : Table) → in_order rs ≡ true → Readable (filled_up rs)
rows_readable rs e = rw (table_holds rs e) at (readable (table_for rs) (table_accepted rs e) (table_small rs e))

-- one port, and no parameter for it
pub not_granted : ¬ Granted portless
not_granted g = let z : ◌≡◌ {A = ℕ} 0 1 = g.port_parameters in omega arith

-- a node whose only branch leads back to it
pub not_readable : ¬ Readable circle
unfolding running
not_readable r = let z : 0 < 0 = (r.reading 0 0 (omega arith) (omega arith)).next_later in omega arith

-- ---- slots that must have been written: in document 01's listing node 0 makes a channel in slot 0, and node 1 is next

listing_passed : Passed listing
unfolding judging
listing_passed = judged_passed listing 16 refl

-- a thread that stands at node n with no channel in slot 0
abbrev lacking : ℕ → List ℕ
lacking n = ready_at n (minus_one ∷ [])

-- at node 0 it may lack it
pub listing_may_lack : FilledIfSure listing (lacking 0) 0
unfolding judging channel_slot slot_filled
listing_may_lack = (slot_filled_iff listing listing_passed (lacking 0) 0 (omega arith) (omega arith)).0 refl

-- at node 1 no more
pub listing_must_hold : ¬ FilledIfSure listing (lacking 1) 0
unfolding judging channel_slot slot_filled
listing_must_hold f = contra ((slot_filled_iff listing listing_passed (lacking 1) 0 (omega arith) (omega arith)).1 f) refl
