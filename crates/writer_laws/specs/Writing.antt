-- Theorems on the call that writes, for every table, every buffer and every length: each ground exactly when it is due; what is written loads to the table, byte
-- for byte; the table of a file that loads is written as that file, but for the file of no bytes, which is written as the three lines for which it stands; the
-- bytes behind the file stay, and a refused call leaves every byte. Assumes nothing.
use Rattle.writer.specs.declared.WriteRefusal.TheVariants as WriteRefusal
use Rattle.writer.specs.Answers.{Written}
use Rattle.loader.specs.Answers.{Loaded}
use Rattle.std.specs.Prelude.{ℕ, ◌*◌, ◌≤◌, ◌<◌, ◌≡◌, refl, ◌↔◌, ◌≢◌, ◌⊎◌, true, false, leb, eqb, length, take, drop, Err, Ok}
use Rattle.std.proofs.Common.{arith, sym, ◌∙◌, ap, length-append, length-drop, take_at, drop_at}
use mathlib.Core.List.{List, [], ◌++◌}
use borrow.Author.Tests.{eqb-true, eq-eqb, leb-true, leb-false, le-leb, lt-leb}
use Rattle.numbers.specs.Search.Laws.{case_b, contra}
use Rattle.numbers.specs.Tests.{clash}
use Rattle.text.specs.Text.{line_length}
use Rattle.text.specs.Text.Characters.{Characters}
use Rattle.table.specs.Table.{table_length, table_of, line_total}
use Rattle.file.specs.File.{line_count, file_table}
use Rattle.file.specs.EmptyFile.{ending_text, procedure_text}
use Rattle.file.specs.EmptyFile.Laws.{ending_long, text_own, text_some, one_text}
use Rattle.loader.specs.Verdict.{verdict}
use Rattle.loader.specs.Load as Load
use Rattle.loader.specs.Load.{table_bytes, loaded, accepted}
use Rattle.loader_laws.specs.PrintedFile.{sound_read, sound_printed, sound_bytes}
use Rattle.loader_laws.specs.Yields.{judged_total, file_shaped, length_bytes, bytes_hold, text_loads, sound_loads, text_bytes, done_sound, file_accepted, accepted_iff}
use Rattle.writer.specs.Write.{printed_form, Outcome, outcome, laid_into, write_call, bytes_number}
use Rattle.writer.specs.Write.Laws.{accepted_long, length_printed, bytes_few}

-- ---- the file of a table

-- a file of bytes that loads to the bytes t, into every buffer of a table's length
abbrev pub FileOf : List ℕ → List ℕ → Type 0
FileOf t file = Characters file × ((own : List ℕ) → length own ≡ table_length → loaded file own ≡ Load.outcome (Ok tt) t)

-- so does a file that loads to them into one buffer
pub file_of : (t file own : List ℕ) → loaded file own ≡ Load.outcome (Ok tt) t → FileOf t file
file_of t file own e = let (v, q) = done_sound file own t e in (text_bytes file v, λ other l. text_loads file other v l ∙ rw q)

-- the printed form of a file's table is the file
pub printed_back : (file : List ℕ) → verdict file ≡ Ok tt → printed_form (file_table file) ≡ file
unfolding printed_form
printed_back file e =
    let n : line_count file ≡ line_total (file_table file) = judged_total (file_table file) (line_count file) (sound_read file e).1 in
    rw (← n) (sym (sound_printed file e))

module _ (t file : List ℕ) (f : FileOf t file) where
  abbrev text : List ℕ
  text = procedure_text file

  in_order_lem : (verdict text ≡ Ok tt) × (table_bytes (file_table text) ≡ t)
  in_order_lem = let own = table_bytes (file_table text) in done_sound file own t (f.1 own (length_bytes (file_table text) (file_shaped text)))

  pub table_accepted : accepted t ≡ true
  table_accepted = rw in_order_lem.1 at (file_accepted text in_order_lem.0)

  pub table_long : length t ≡ table_length
  table_long = accepted_long t table_accepted

  pub text_printed : printed_form (table_of t) ≡ procedure_text file
  text_printed =
      let h : table_of t ≡ file_table text = ap table_of (sym in_order_lem.1) ∙ bytes_hold (file_table text) (file_shaped text) in
      rw h (printed_back text in_order_lem.0)

  -- the text for which it stands is such a file too
  pub text_of : FileOf t (procedure_text file)
  text_of = (sound_bytes text in_order_lem.0, λ own l. sound_loads text own in_order_lem.0 l ∙ rw in_order_lem.1)

-- of a file with bytes: the call, with room for it in the buffer and without
module _ (t file : List ℕ) (f : FileOf t file) (n : length file ≢ 0) where
  file_printed : printed_form (table_of t) ≡ file
  file_printed = text_printed t file f ∙ text_own file n

  module _ (b : List ℕ) where
    pub file_written : length file ≤ length b → write_call t b ≡ outcome (Ok (length file)) (file ++ drop (length file) b)
    unfolding write_call laid_into
    file_written h = rw (eq-eqb (length t) table_length (table_long t file f), table_accepted t file f, file_printed, le-leb (length file) (length b) h)

    pub file_refused : length b < length file → write_call t b ≡ outcome (Err WriteRefusal.ShortBuffer) b
    unfolding write_call laid_into
    file_refused h = rw (eq-eqb (length t) table_length (table_long t file f), table_accepted t file f, file_printed, lt-leb (length file) (length b) h)

-- a table is that of one file alone, but for the file of no bytes and the three lines for which it stands
pub only_file : (t file other : List ℕ) → FileOf t file → FileOf t other
    → (file ≡ other) ⊎ (((file ≡ []) × (other ≡ ending_text)) ⊎ ((file ≡ ending_text) × (other ≡ [])))
only_file t file other f g = one_text file other (sym (text_printed t file f) ∙ text_printed t other g)

-- ground 9 accepts just the bytes that are the table of some file
pub accepted_of : (t : List ℕ) → Characters t → (accepted t ≡ true) ↔ ((file : List ℕ) × FileOf t file)
accepted_of t fit = (
  λ a. let (file, own, c, e) = (accepted_iff t fit).0 a in (file, file_of t file own e),
  λ (file, f). table_accepted t file f,
)

pub refused_of : (t : List ℕ) → Characters t → (accepted t ≡ false) ↔ ((file : List ℕ) → ¬ FileOf t file)
refused_of t fit = (
  λ n file f. contra (table_accepted t file f) n,
  λ none. case_b (accepted t) (λ a. let (file, f) = (accepted_of t fit).0 a in absurd (none file f)) (λ n. n),
)

-- ---- the ways of a write

data Way (t b : List ℕ) : Type 0 where
  wrong : length t ≢ table_length → write_call t b ≡ outcome (Err WriteRefusal.WrongLength) b → Way t b
  no_table : length t ≡ table_length → accepted t ≡ false → write_call t b ≡ outcome (Err WriteRefusal.WrongTable) b → Way t b
  short : (file : List ℕ) → FileOf t file → length b < length file → write_call t b ≡ outcome (Err WriteRefusal.ShortBuffer) b → Way t b
  done : (file : List ℕ) → FileOf t file → length file ≢ 0 → length file ≤ length b → write_call t b ≡ outcome (Ok (length file)) (file ++ drop (length file) b) → Way t b

way : (t b : List ℕ) → Characters t → Way t b
unfolding write_call
way t b fit = case_b (eqb (length t) table_length)
    (λ y. case_b (accepted t)
    (λ a. let (file, x) = (accepted_of t fit).0 a in
    let text = procedure_text file in
    let f = text_of t file x in
    let n = text_some file in
    case_b (leb (length text) (length b))
    (λ w. let h = leb-true (length text) (length b) w in done text f n h (file_written t text f n b h))
    (λ w. let h = leb-false (length text) (length b) w in short text f h (file_refused t text f n b h)))
    (λ a. no_table (eqb-true (length t) table_length y) a (rw (y, a))))
    (λ y. wrong (λ h. contra (eq-eqb (length t) table_length h) y) (rw y))

-- ---- each ground exactly when it is due

module _ (t b : List ℕ) where
  told : (a x : Written) (c : List ℕ) → write_call t b ≡ outcome a c → (write_call t b).answer ≡ x → a ≡ x
  told a x c e f = sym (ap (λ (o : Outcome). o.answer) e) ∙ f

  length_way : Way t b → ((write_call t b).answer ≡ Err WriteRefusal.WrongLength) ↔ (length t ≢ table_length)
  length_way (wrong l e) = (λ f. l, λ f. rw e)
  length_way (no_table l a e) = (λ f. let q = told (Err WriteRefusal.WrongTable) (Err WriteRefusal.WrongLength) b e f in clash cc, λ f. absurd (f l))
  length_way (short file g h e) = (λ f. let q = told (Err WriteRefusal.ShortBuffer) (Err WriteRefusal.WrongLength) b e f in clash cc, λ f. absurd (f (table_long t file g)))
  length_way (done file g n h e) = (λ f. let q = told (Ok (length file)) (Err WriteRefusal.WrongLength) _ e f in clash cc, λ f. absurd (f (table_long t file g)))

  table_way : Way t b → ((write_call t b).answer ≡ Err WriteRefusal.WrongTable) ↔ ((length t ≡ table_length) × (accepted t ≡ false))
  table_way (wrong l e) = (λ f. let q = told (Err WriteRefusal.WrongLength) (Err WriteRefusal.WrongTable) b e f in clash cc, λ f. absurd (l f.0))
  table_way (no_table l a e) = (λ f. (l, a), λ f. rw e)
  table_way (short file g h e) = (λ f. let q = told (Err WriteRefusal.ShortBuffer) (Err WriteRefusal.WrongTable) b e f in clash cc, λ f. contra (table_accepted t file g) f.1)
  table_way (done file g n h e) = (λ f. let q = told (Ok (length file)) (Err WriteRefusal.WrongTable) _ e f in clash cc, λ f. contra (table_accepted t file g) f.1)

  -- the file that is due, and what it has to do with the buffer's length
  short_way : Way t b → (write_call t b).answer ≡ Err WriteRefusal.ShortBuffer → (file : List ℕ) × FileOf t file × (length b < length file)
  short_way (wrong l e) f = let q = told (Err WriteRefusal.WrongLength) (Err WriteRefusal.ShortBuffer) b e f in clash cc
  short_way (no_table l a e) f = let q = told (Err WriteRefusal.WrongTable) (Err WriteRefusal.ShortBuffer) b e f in clash cc
  short_way (short file g h e) f = (file, g, h)
  short_way (done file g n h e) f = let q = told (Ok (length file)) (Err WriteRefusal.ShortBuffer) _ e f in clash cc

  done_way : (n : ℕ) → Way t b → (write_call t b).answer ≡ Ok n → (file : List ℕ) × FileOf t file × (length file ≢ 0) × (length file ≤ length b) × (n ≡ length file)
  done_way n (wrong l e) f = let q = told (Err WriteRefusal.WrongLength) (Ok n) b e f in clash cc
  done_way n (no_table l a e) f = let q = told (Err WriteRefusal.WrongTable) (Ok n) b e f in clash cc
  done_way n (short file g h e) f = let q = told (Err WriteRefusal.ShortBuffer) (Ok n) b e f in clash cc
  done_way n (done file g s h e) f = let q = told (Ok (length file)) (Ok n) _ e f in (file, g, s, h, cc)

  kept_way : Way t b → ((n : ℕ) → (write_call t b).answer ≢ Ok n) → (write_call t b).file ≡ b
  kept_way (wrong l e) f = rw e
  kept_way (no_table l a e) f = rw e
  kept_way (short file g h e) f = rw e
  kept_way (done file g n h e) f = absurd (f (length file) (rw e))

-- of a table t that is bytes, as a slice is, and a buffer b
module _ (t b : List ℕ) (fit : Characters t) where
  -- 8: the table has another length than a table
  pub length_iff : ((write_call t b).answer ≡ Err WriteRefusal.WrongLength) ↔ (length t ≢ table_length)
  length_iff = length_way t b (way t b fit)

  -- 9: it has a table's length, and is the table of no file
  pub table_iff : ((write_call t b).answer ≡ Err WriteRefusal.WrongTable) ↔ ((length t ≡ table_length) × ((file : List ℕ) → ¬ FileOf t file))
  table_iff = let w = table_way t b (way t b fit) in let n = refused_of t fit in (
    λ e. let (l, a) = w.0 e in (l, n.0 a),
    λ (l, none). w.1 (l, n.1 none),
  )

  -- 15: it is the table of a file, and the buffer is shorter than that file
  pub short_iff : ((write_call t b).answer ≡ Err WriteRefusal.ShortBuffer) ↔ ((file : List ℕ) × FileOf t file × (length b < length file))
  short_iff = (short_way t b (way t b fit), λ (file, f, h). ap (λ (o : Outcome). o.answer) (file_refused t file f (λ z. absurd (omega arith)) b h))

  -- done: it is the table of a file with bytes for which the buffer has room, be it just enough; and the bytes are as many as the file has
  pub done_iff : (n : ℕ) → ((write_call t b).answer ≡ Ok n) ↔ ((file : List ℕ) × FileOf t file × (length file ≢ 0) × (length file ≤ length b) × (n ≡ length file))
  done_iff n = (done_way t b n (way t b fit), λ (file, f, s, h, e). rw e (ap (λ (o : Outcome). o.answer) (file_written t file f s b h)))

  -- ---- what a write leaves

  -- a refused call leaves every byte
  pub refused_keeps : ((n : ℕ) → (write_call t b).answer ≢ Ok n) → (write_call t b).file ≡ b
  refused_keeps = kept_way t b (way t b fit)

  module _ (n : ℕ) (e : (write_call t b).answer ≡ Ok n) where
    -- loading the bytes that it left gives the table back
    pub written_loads : (own : List ℕ) → length own ≡ table_length → loaded (take n (write_call t b).file) own ≡ Load.outcome (Ok tt) t
    written_loads own l =
        let (file, f, s, h, q) = (done_iff n).0 e in
        rw (q, file_written t file f s b h, take_at file (drop (length file) b) (length file) refl) (f.1 own l)

    -- the bytes behind them stay
    pub rest_kept : (drop n (write_call t b).file ≡ drop n b) × (length (write_call t b).file ≡ length b)
    rest_kept =
        let (file, f, s, h, q) = (done_iff n).0 e in
        rw (q, file_written t file f s b h) (drop_at file (drop (length file) b) (length file) refl, length-append file (drop (length file) b) ∙ omega (arith, length-drop (length file) b))

    -- 73 of them for each line of the table, in the room that there is, and never more than 63,145
    pub lines_written : n ≡ line_total (table_of t) * line_length
    lines_written = let (file, f, s, h, q) = (done_iff n).0 e in q ∙ ap length (sym (file_printed t file f s)) ∙ length_printed t (table_accepted t file f)

    pub room_written : n ≤ length b
    room_written = let (file, f, s, h, q) = (done_iff n).0 e in omega arith

    pub most_written : n ≤ 63145
    unfolding bytes_number
    most_written = rw e at (bytes_few t b)

-- ---- the table of a file that loads

module _ (file own : List ℕ) (e : (loaded file own).answer ≡ Ok tt) where
  pub loaded_of : FileOf (loaded file own).table file
  loaded_of = file_of (loaded file own).table file own (ap (λ (a : Loaded). Load.outcome a (loaded file own).table) e)

  -- writing it leaves the file's bytes, and answers its length, unless the file has none
  pub loaded_written : length file ≢ 0 → (b : List ℕ) → length file ≤ length b
      → write_call (loaded file own).table b ≡ outcome (Ok (length file)) (file ++ drop (length file) b)
  loaded_written n b h = file_written (loaded file own).table file loaded_of n b h

  -- but in a shorter buffer
  pub loaded_refused : (b : List ℕ) → length b < length file → write_call (loaded file own).table b ≡ outcome (Err WriteRefusal.ShortBuffer) b
  loaded_refused b h = file_refused (loaded file own).table file loaded_of (λ z. absurd (omega arith)) b h

-- the file of no bytes is written as three lines, of 219 bytes: the one file that printing does not restore
module _ (own : List ℕ) (e : (loaded [] own).answer ≡ Ok tt) where
  empty_print : FileOf (loaded [] own).table ending_text
  unfolding procedure_text
  empty_print = text_of (loaded [] own).table [] (loaded_of [] own e)

  pub empty_written : (b : List ℕ) → 219 ≤ length b → write_call (loaded [] own).table b ≡ outcome (Ok 219) (ending_text ++ drop 219 b)
  empty_written b h =
      rw ending_long at (file_written (loaded [] own).table ending_text empty_print (λ z. absurd (omega (arith, ending_long))) b (omega (arith, ending_long)))

  pub empty_short : (b : List ℕ) → length b < 219 → write_call (loaded [] own).table b ≡ outcome (Err WriteRefusal.ShortBuffer) b
  empty_short b h = file_refused (loaded [] own).table ending_text empty_print (λ z. absurd (omega (arith, ending_long))) b (omega (arith, ending_long))
