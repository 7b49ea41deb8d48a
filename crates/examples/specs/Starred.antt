-- The starred bench cases of document 01, each from the start of a file. Assumes nothing.
use Rattle.std.specs.Prelude.{◌≡◌, refl, Bool, true, ◌&&◌, List, [], ◌∷◌, Ok}
use Rattle.numbers.specs.Tests.{and_left, and_right}
use Rattle.text.specs.Text.{file_text}
use Rattle.file.specs.File.{file_table}
use Rattle.loader.specs.Verdict.{verdict}
use Rattle.examples.specs.Facts.{steps, gives, ready, waits, sends, receives, knows, slot, answers, counted, runs, collects, takes, keeps, frees, Case, case, table_in, all_hold, working}
use Rattle.examples.specs.Computing.{judging}
use Rattle.examples.specs.Files.{prints, in_order, rows_load}
use Rattle.examples.specs.Tables.{lone_receiver, two_receivers, chain, port_receiver, false_guards, both_sides, two_slots, counter, only_counter, swap, end_only}

-- each case: its file's rows, what is done from the start, and what holds then
abbrev pub cases : List Case
cases =
    -- 1: a thread that alone knows the channel on which it waits to receive is collected, and the channel is free after that
    case lone_receiver (steps 2 ∷ []) (receives 0 0 ∷ counted 0 1 ∷ collects 1 ∷ takes 0 ∷ frees 0 ∷ [])
    -- 2: two threads know two channels, and nobody else does; each waits on one of them, and both are collected
    ∷ case two_receivers (steps 5 ∷ [])
    (receives 0 0 ∷ receives 1 1 ∷ knows 0 1 ∷ knows 1 0 ∷ counted 0 2 ∷ counted 1 2 ∷ collects 2 ∷ takes 0 ∷ takes 1 ∷ frees 0 ∷ frees 1 ∷ [])
    -- 3: thread 1 waits on channel 0, which thread 2 alone knows besides it; thread 2 waits on channel 1, which thread 0 knows; thread 0 is ready. None is
    -- collected
    ∷ case chain (steps 8 ∷ [])
    (receives 1 0 ∷ knows 2 0 ∷ counted 0 2 ∷ receives 2 1 ∷ ready 0 ∷ knows 0 1 ∷ collects 0 ∷ keeps 0 ∷ keeps 1 ∷ keeps 2 ∷ [])
    -- 4: a thread that waits on a port is not collected
    ∷ case port_receiver (steps 1 ∷ []) (receives 0 0 ∷ collects 0 ∷ keeps 0 ∷ [])
    -- 5: a thread none of whose guards is true waits and is collected; its receive on a port is no offer
    ∷ case false_guards (steps 2 ∷ []) (waits 0 ∷ knows 0 0 ∷ collects 1 ∷ takes 0 ∷ [])
    -- 6: a thread with a send and a receive of one channel in one choice does not meet itself: it waits and offers both
    ∷ case both_sides (steps 3 ∷ []) (waits 0 ∷ sends 0 0 ∷ receives 0 0 ∷ counted 0 1 ∷ runs 1 0 1 ∷ [])
    -- 7: a thread with one channel in two slots counts once
    ∷ case two_slots (steps 2 ∷ []) (slot 0 0 0 ∷ slot 0 1 0 ∷ counted 0 1 ∷ [])
    -- 8, as document 02 has it (S-4): 2147483647, here given by the bench, plus 1 does not fit, and its branch is passed over. The step takes the next one,
    -- branch 1, and the slot keeps its number; where the sum is the only branch, the thread waits and is collected
    ∷ case counter (steps 1 ∷ gives 0 2147483647 ∷ steps 1 ∷ []) (slot 0 1 2147483647 ∷ slot 0 2 1 ∷ answers 0 3 1 ∷ [])
    ∷ case counter (steps 1 ∷ gives 0 2147483647 ∷ steps 2 ∷ []) (ready 0 ∷ slot 0 1 2147483647 ∷ [])
    ∷ case only_counter (steps 1 ∷ gives 0 2147483647 ∷ steps 1 ∷ []) (slot 0 1 2147483647 ∷ slot 0 2 1 ∷ answers 0 2 0 ∷ [])
    ∷ case only_counter (steps 1 ∷ gives 0 2147483647 ∷ steps 2 ∷ []) (waits 0 ∷ slot 0 1 2147483647 ∷ collects 1 ∷ takes 0 ∷ [])
    -- 9: a call changes two slots round: slot 0 had port 0, and slot 1 had port 1
    ∷ case swap (steps 1 ∷ []) (slot 0 0 1 ∷ slot 0 1 0 ∷ [])
    -- 10: a run of at most 0 steps makes none and ends for reason 0, even where no thread is ready, which is reason 1 for a longer run
    ∷ case end_only [] (ready 0 ∷ runs 0 0 0 ∷ [])
    ∷ case end_only (steps 1 ∷ []) (runs 0 0 0 ∷ runs 1 0 1 ∷ [])
    ∷ []

-- all of them hold
pub starred_cases : all_hold cases ≡ true
unfolding working
starred_cases = refl

-- ---- each file is in order, and loading gives the table in which its case is worked

unfoldable all_in_order : List Case → Bool
all_in_order [] = true
all_in_order (x ∷ xs) = in_order x.rows && all_in_order xs

unfoldable pub Loads : List Case → Type 0
Loads [] = Unit {0}
Loads (x ∷ xs) = ((verdict (file_text x.rows) ≡ Ok tt) × (file_table (file_text x.rows) ≡ table_in x)) × Loads xs

loads : (xs : List Case) → all_in_order xs ≡ true → Loads xs
unfolding all_in_order Loads
loads [] e = tt
loads (x ∷ xs) e = (rows_load x.rows (and_left _ _ e), loads xs (and_right (in_order x.rows) _ e))

all_in_order_lem : all_in_order cases ≡ true
unfolding judging prints in_order all_in_order
all_in_order_lem = refl

pub starred_load : Loads cases
starred_load = loads cases all_in_order_lem
