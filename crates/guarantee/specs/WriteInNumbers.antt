-- What C sees of a write (document 02, S-1): the refusal, the bytes, and what is left in the buffer, for every table, every buffer and every length. The theorems
-- on the definition are in `writer_laws/specs/Writing.antt`; this file says them in the numbers that C gets, and shows them. Assumes nothing.
use Rattle.writer.specs.declared.WriteRefusal.TheVariants as WriteRefusal
use Rattle.writer.specs.Answers.{Written}
use Rattle.loader.specs.Answers.{Loaded}
use Rattle.std.specs.Prelude.{ℕ, ◌*◌, ◌≤◌, ◌<◌, ◌≡◌, refl, true, false, List, [], ◌++◌, ◌≢◌, ◌↔◌, ◌⊎◌, length, take, drop, pos, Err, Ok}
use Rattle.std.proofs.Common.{arith, sym, ◌∙◌, ap, inl, inr}
use Rattle.text.specs.Text.{line_length}
use Rattle.text.specs.Text.Characters.{Characters}
use Rattle.table.specs.Table.{table_of, line_total}
use Rattle.file.specs.EmptyFile.{ending_text}
use Rattle.loader.specs.Load as Load
use Rattle.loader.specs.Load.{table_length, loaded, accepted}
use Rattle.writer.specs.Write.{write_call, refusal_number, bytes_number}
use Rattle.writer_laws.specs.Writing.{FileOf, file_of, accepted_of, refused_of, table_long, length_iff, table_iff, short_iff, done_iff, refused_keeps, written_loads, rest_kept, lines_written, room_written, most_written, loaded_written, empty_written}
use Rattle.interface.specs.Interface.{LoadResult, loaded_to, numbered, load_result, written_to, written_numbers, write_result}
use Rattle.guarantee.specs.Exported.{load_so, table_so}

-- ---- what is said

-- C sees this file loaded to the bytes t, into every buffer of a table's length
abbrev pub LoadsTo : List ℕ → List ℕ → Type 0
LoadsTo t file = Characters file × ((own : List ℕ) → length own ≡ table_length → load_result file own ≡ loaded_to (record { refusal = pos 0; line = pos 0 }) t)

-- C sees some file loaded to the bytes t
abbrev pub IsLoaded : List ℕ → Type 0
IsLoaded t = (file : List ℕ) × LoadsTo t file

-- of a table t and a buffer b
pub record WriteInNumbers (t b : List ℕ) : Type 0 where
  -- each refusal exactly when it is due, and no other
  pub eight : ((write_result t b).answer.refusal ≡ pos 8) ↔ (length t ≢ table_length)
  pub nine : ((write_result t b).answer.refusal ≡ pos 9) ↔ ((length t ≡ table_length) × ((file : List ℕ) → ¬ LoadsTo t file))
  pub fifteen : ((write_result t b).answer.refusal ≡ pos 15) ↔ ((file : List ℕ) × LoadsTo t file × (length b < length file))
  pub zero : ((write_result t b).answer.refusal ≡ pos 0) ↔ ((file : List ℕ) × LoadsTo t file × (length file ≢ 0) × (length file ≤ length b))
  pub no_other : ((write_result t b).answer.refusal ≡ pos 0)
      ⊎ (((write_result t b).answer.refusal ≡ pos 8) ⊎ (((write_result t b).answer.refusal ≡ pos 9) ⊎ ((write_result t b).answer.refusal ≡ pos 15)))
  -- refused: no byte is answered, and every byte stays
  pub refused : (write_result t b).answer.refusal ≢ pos 0 → ((write_result t b).answer.bytes ≡ pos 0) × ((write_result t b).file ≡ b)
  -- done: 73 bytes for each line of the table, for which the buffer has room, and never more than 63,145
  pub bytes : (write_result t b).answer.refusal ≡ pos 0
      → ((write_result t b).answer.bytes ≡ pos (line_total (table_of t) * line_length))
      × (line_total (table_of t) * line_length ≤ length b)
      × (line_total (table_of t) * line_length ≤ 63145)
  -- these bytes of the buffer are a file that loads to the table, and those behind them stay
  pub loads : (write_result t b).answer.refusal ≡ pos 0 → LoadsTo t (take (line_total (table_of t) * line_length) (write_result t b).file)
  pub rest : (write_result t b).answer.refusal ≡ pos 0
      → (drop (line_total (table_of t) * line_length) (write_result t b).file ≡ drop (line_total (table_of t) * line_length) b)
      × (length (write_result t b).file ≡ length b)

-- ---- that it is so

-- a load that C sees done is one
pub loads_so : (t file : List ℕ) → FileOf t file ↔ LoadsTo t file
unfolding load_result numbered Load.refusal_number Load.line_number
loads_so t file = (
  λ (c, f). (c, λ own l. rw (f own l)),
  λ (c, f). (
    c,
    λ own l. let e = f own l in
        let a : (loaded file own).answer ≡ Ok tt = load_so file own (ap (λ (r : LoadResult). r.answer.refusal) e) in
        let q : (loaded file own).table ≡ t = sym (table_so file own) ∙ ap (λ (r : LoadResult). r.table) e in
        ap (λ (x : Loaded). Load.outcome x (loaded file own).table) a ∙ ap (λ (l : List ℕ). Load.outcome (Ok tt) l) q,
  ),
)

-- ground 9 accepts just the bytes to which C sees some file loaded
pub accepted_loads : (t : List ℕ) → Characters t → (accepted t ≡ true) ↔ IsLoaded t
accepted_loads t fit = let f = accepted_of t fit in (
  λ a. let (file, g) = f.0 a in (file, (loads_so t file).0 g),
  λ (file, g). f.1 (file, (loads_so t file).1 g),
)

pub refused_loads : (t : List ℕ) → Characters t → (accepted t ≡ false) ↔ ((file : List ℕ) → ¬ LoadsTo t file)
refused_loads t fit = let f = refused_of t fit in (
  λ n file g. f.0 n file ((loads_so t file).1 g),
  λ none. f.1 (λ file g. none file ((loads_so t file).0 g)),
)

-- a number is that of one answer alone
same_number : (a : Written) (m : ℕ) → pos (refusal_number a) ≡ pos m → refusal_number a ≡ m
same_number a m e = cc

number_of : (a : Written) (m : ℕ) → refusal_number a ≡ m
    → ((m ≡ 8) → a ≡ Err WriteRefusal.WrongLength) × ((m ≡ 9) → a ≡ Err WriteRefusal.WrongTable) × ((m ≡ 15) → a ≡ Err WriteRefusal.ShortBuffer) × ((m ≡ 0) → a ≡ Ok (bytes_number a))
unfolding refusal_number bytes_number
number_of (Ok n) m e = (λ h. absurd (omega arith), λ h. absurd (omega arith), λ h. absurd (omega arith), λ h. refl)
number_of (Err WriteRefusal.WrongLength) m e = (λ h. refl, λ h. absurd (omega arith), λ h. absurd (omega arith), λ h. absurd (omega arith))
number_of (Err WriteRefusal.WrongTable) m e = (λ h. absurd (omega arith), λ h. refl, λ h. absurd (omega arith), λ h. absurd (omega arith))
number_of (Err WriteRefusal.ShortBuffer) m e = (λ h. absurd (omega arith), λ h. absurd (omega arith), λ h. refl, λ h. absurd (omega arith))

one_of : (a : Written) → (pos (refusal_number a) ≡ pos 0) ⊎ ((pos (refusal_number a) ≡ pos 8) ⊎ ((pos (refusal_number a) ≡ pos 9) ⊎ (pos (refusal_number a) ≡ pos 15)))
unfolding refusal_number
one_of (Ok n) = inl refl
one_of (Err WriteRefusal.WrongLength) = inr (inl refl)
one_of (Err WriteRefusal.WrongTable) = inr (inr (inl refl))
one_of (Err WriteRefusal.ShortBuffer) = inr (inr (inr refl))

-- a refused write has no bytes
no_bytes : (a : Written) → pos (refusal_number a) ≢ pos 0 → bytes_number a ≡ 0
unfolding refusal_number bytes_number
no_bytes (Ok n) h = absurd (h refl)
no_bytes (Err WriteRefusal.WrongLength) h = refl
no_bytes (Err WriteRefusal.WrongTable) h = refl
no_bytes (Err WriteRefusal.ShortBuffer) h = refl

-- what a write that is done leaves at the front of the buffer is the file of the table
left_of : (t b : List ℕ) → Characters t → (n : ℕ) → (write_call t b).answer ≡ Ok n → FileOf t (take n (write_call t b).file)
left_of t b fit n e =
    let (file, f, s, h, q) = (done_iff t b fit n).0 e in
    file_of t (take n (write_call t b).file) t (written_loads t b fit n e t (table_long t file f))

pub write_in_numbers : (t b : List ℕ) → Characters t → WriteInNumbers t b
unfolding write_result written_numbers refusal_number bytes_number
write_in_numbers t b fit =
    let a = (write_call t b).answer in
    let is_done : pos (refusal_number a) ≡ pos 0 → a ≡ Ok (bytes_number a) = λ e. (number_of a 0 (same_number a 0 e)).3 refl in
    record {
      eight = (λ e. (length_iff t b fit).0 ((number_of a 8 (same_number a 8 e)).0 refl), λ h. rw ((length_iff t b fit).1 h));
      nine = (
        λ e. let (l, none) = (table_iff t b fit).0 ((number_of a 9 (same_number a 9 e)).1 refl) in (l, λ file f. none file ((loads_so t file).1 f)),
        λ (l, none). rw ((table_iff t b fit).1 (l, λ file f. none file ((loads_so t file).0 f))),
      );
      fifteen = (
        λ e. let (file, f, h) = (short_iff t b fit).0 ((number_of a 15 (same_number a 15 e)).2 refl) in (file, (loads_so t file).0 f, h),
        λ (file, f, h). rw ((short_iff t b fit).1 (file, (loads_so t file).1 f, h)),
      );
      zero = (
        λ e. let (file, f, s, h, q) = (done_iff t b fit (bytes_number a)).0 (is_done e) in (file, (loads_so t file).0 f, s, h),
        λ (file, f, s, h). rw ((done_iff t b fit (length file)).1 (file, (loads_so t file).1 f, s, h, refl)),
      );
      no_other = one_of a;
      refused = λ n. (ap pos (no_bytes a n), refused_keeps t b fit (λ k e. n (rw e)));
      bytes = λ e. let n = bytes_number a in let q = lines_written t b fit n (is_done e) in
          (ap pos q, rw (← q) (room_written t b fit n (is_done e)), rw (← q) (most_written t b fit n (is_done e)));
      loads = λ e. let n = bytes_number a in rw (← lines_written t b fit n (is_done e)) ((loads_so t _).0 (left_of t b fit n (is_done e)));
      rest = λ e. let n = bytes_number a in rw (← lines_written t b fit n (is_done e)) (rest_kept t b fit n (is_done e));
    }

-- the table of a file with bytes that C sees loaded is written as that file
pub load_then_write : (file own : List ℕ) → (load_result file own).answer.refusal ≡ pos 0 → length file ≢ 0 → (b : List ℕ) → length file ≤ length b
    → write_result (load_result file own).table b ≡ written_to (record { refusal = pos 0; bytes = pos (length file) }) (file ++ drop (length file) b)
unfolding write_result written_numbers refusal_number bytes_number
load_then_write file own e n b h = rw (table_so file own, loaded_written file own (load_so file own e) n b h)

-- that of the file of no bytes is written as three lines
pub empty_then_write : (own : List ℕ) → (load_result [] own).answer.refusal ≡ pos 0 → (b : List ℕ) → 219 ≤ length b
    → write_result (load_result [] own).table b ≡ written_to (record { refusal = pos 0; bytes = pos 219 }) (ending_text ++ drop 219 b)
unfolding write_result written_numbers refusal_number bytes_number
empty_then_write own e b h = rw (table_so [] own, empty_written own (load_so [] own e) b h)
