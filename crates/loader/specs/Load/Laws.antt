-- The table's buffer: zeros before reading, the bytes of the table that it holds, and its copy. Assumes nothing.
use Rattle.loader.specs.declared.LoadRefusal.TheVariants as LoadRefusal
use Rattle.loader.specs.Answers.{Verdict}
use Rattle.std.specs.Prelude.{ℕ, ◌+◌, ◌*◌, ◌≤◌, ◌<◌, ◌≡◌, refl, ◌≢◌, Bool, true, false, cond, List, length, get_or, set, take, replicate, Option, Some, None, Result, Err, Ok}
use Rattle.std.specs.Option.{ok_or}
use Rattle.std.proofs.Common.{arith, add-one, sym, ◌∙◌, ext_get_or, take-suc, take-suc-set, take_all, Fits}
use Rattle.std.proofs.lemmas.List.{length-replicate}
use Rattle.std.specs.Int.{w8}
use borrow.Author.Tests.{eq-eqb, ne_eqb}
use Rattle.numbers.specs.Bytes.{shorts, little}
use Rattle.numbers.specs.Bytes.Laws.{bytes_fit, length_numbers, short_is, joined_rows, encode_numbers}
use Rattle.numbers.specs.Laid.{laid}
use Rattle.numbers.specs.Laid.Laws.{laid_none, zeros_at}
use Rattle.table.specs.Table.{max_rows, row_numbers, table_numbers, table_length, table_of}
use Rattle.file.specs.File.{file_table}
use Rattle.file.specs.File.Computing.{reading}
use Rattle.file.specs.EmptyFile.{ending_rows, ending_text, procedure_text}
use Rattle.file.specs.EmptyFile.Laws.{text_none, text_own}
use Rattle.loader.specs.Verdict.{verdict}
use Rattle.loader.specs.Verdict.Computing.{judging}
use Rattle.loader.specs.Load.{table_bytes, outcome, after_verdict, loaded}
use Rattle.loader.specs.declared.Ground.{Ground}

shorts_zero : (n : ℕ) → shorts (replicate (n * 2) 0) ≡ replicate n 0
unfolding little
shorts_zero n =
    let b = replicate {A = ℕ} (n * 2) 0 in
    let long : length (shorts b) ≡ n = length_numbers 2 b ∙ omega (arith, length-replicate {A = ℕ} (n * 2) 0) in
    ext_get_or 0 (shorts b) (replicate n 0) (long ∙ sym (length-replicate n 0))
    (λ i h. sym (short_is b i 0 (rw (zeros_at (n * 2) (i * 2), zeros_at (n * 2) (i * 2 + 1))) (omega (arith, length-replicate {A = ℕ} (n * 2) 0)))
    ∙ sym (zeros_at n i))

pub zero_numbers : (b : List ℕ) → b ≡ replicate table_length 0 → shorts b ≡ replicate table_numbers 0
zero_numbers b e = rw e (shorts_zero table_numbers)

pub table_zero : (b : List ℕ) (f : ℕ → ℕ) → b ≡ replicate table_length 0 → shorts b ≡ laid f 0 table_numbers
table_zero b f e = zero_numbers b e ∙ sym (laid_none f table_numbers)

pub table_kept : (b b' : List ℕ) → b ≡ replicate table_length 0 → length b' ≡ length b → length b' ≡ table_length
table_kept b b' e h = h ∙ rw e (length-replicate {A = ℕ} table_length 0)

-- a buffer of the table's length is the bytes of the table that it holds
pub table_bytes_lem : (b : List ℕ) → length b ≡ table_length → ((i : ℕ) → Fits w8 (get_or b i 0)) → table_bytes (table_of b) ≡ b
unfolding table_bytes
table_bytes_lem b h f =
    let long : length (shorts b) ≤ max_rows * row_numbers = omega (arith, length_numbers 2 b) in
    rw (joined_rows max_rows row_numbers (shorts b), take_all (max_rows * row_numbers) (shorts b) long)
    (encode_numbers 2 b (omega arith) (bytes_fit b f))

-- ---- a copy, one element after the other

module _ (from to : List ℕ) (i : ℕ) (long : length to ≡ length from) (e : take i to ≡ take i from) where
  pub copy_more : (x : ℕ) → x ≡ get_or from i 0 → i < length from → take (i + 1) (set to i x) ≡ take (i + 1) from
  copy_more x f h = rw (f, add-one i, take-suc-set to i (get_or from i 0) (omega arith), take-suc from i 0 h, e)

  pub copy_all : length from ≤ i → to ≡ from
  copy_all h = sym (take_all i to (omega arith)) ∙ e ∙ take_all i from h

-- ---- the text for which a file stands: the verdict v on it, and the buffer b to which its numbers were read

-- the lines of the procedure that ends are in order
pub ending_sound : verdict ending_text ≡ Ok tt
unfolding judging reading ending_rows verdict
ending_sound = refl

module _ (file : List ℕ) where
  module _ (h : length file ≡ 0) where
    pub none_sound : Ok tt ≡ verdict (procedure_text file)
    none_sound = rw (text_none file h, ending_sound)

    pub none_table : (b : List ℕ) → table_of b ≡ file_table ending_text → table_of b ≡ file_table (procedure_text file)
    none_table b e = rw (text_none file h) e

  module _ (h : length file ≢ 0) (v : Verdict) where
    pub own_verdict : v ≡ verdict file → v ≡ verdict (procedure_text file)
    own_verdict e = rw (text_own file h) e

    pub own_table : (b : List ℕ) → (v ≡ Ok tt → table_of b ≡ file_table file) → v ≡ Ok tt → table_of b ≡ file_table (procedure_text file)
    own_table b f e = rw (text_own file h) (f e)

-- ---- the answers, and the buffer t' that t has become, which is t itself where the load is refused

module _ (file t t' : List ℕ) (v : Verdict) (e : v ≡ verdict (procedure_text file)) where
  pub load_refused : (g : Ground) (l : ℕ) → t' ≡ t → v ≡ Err (g, l) → outcome (Err (LoadRefusal.FileRefused g l)) t' ≡ loaded file t
  unfolding loaded after_verdict
  load_refused g l a h = rw (← e, h, a)

  module _ (h : v ≡ Ok tt) where
    pub load_length : t' ≡ t → (length t ≡ table_length → ⊥) → outcome (Err LoadRefusal.WrongLength) t' ≡ loaded file t
    unfolding loaded after_verdict
    load_length a k = rw (← e, h, ne_eqb (length t) table_length k, a)

    pub load_done : (b : List ℕ) → t' ≡ b → (v ≡ Ok tt → table_of b ≡ file_table (procedure_text file)) → length t ≡ table_length → length t' ≡ length t
        → ((i : ℕ) → Fits w8 (get_or t' i 0)) → outcome (Ok tt) t' ≡ loaded file t
    unfolding loaded after_verdict
    load_done b a k m n f = rw (← e, h, eq-eqb (length t) table_length m, ← k h, ← a, table_bytes_lem t' (n ∙ m) f)

-- ---- what an accepted table is told by: the answer of `accept`, with a refusal in the place of none

pub told_refused : {A : Type 0} (b : Bool) (x : A) (q : Option A) → q ≡ cond b (Some x) None → q ≡ None → b ≡ false
told_refused true x q e f = cc
told_refused false x q e f = refl

pub told_refusal : {A E : Type 0} (d x : E) (q : Option A) → ◌≡◌ {A = Result A E} (Err d) (ok_or q x) → q ≡ None → d ≡ x
told_refusal d x q e f = let h = rw f at e in cc

pub told_accepted : {A : Type 0} (b : Bool) (x y : A) (q : Option A) → q ≡ cond b (Some x) None → q ≡ Some y → (b ≡ true) × (y ≡ x)
told_accepted true x y q e f = (refl, cc)
told_accepted false x y q e f = cc
