-- What the exported calls answer and leave, from what the functions below them ensure. Assumes nothing.
use Rattle.loader.specs.declared.LoadRefusal.TheVariants as LoadRefusal
use Rattle.std.specs.Prelude.{Err, Ok}
use Rattle.rules.specs.Answers.{Given}
use Rattle.writer.specs.Answers.{Written}
use Rattle.loader.specs.Answers.{Loaded, Verdict}
use Prim.Native.Nat.{ℕ, ◌≤◌}
use native.Mathlib.Omega.{arith}
use mathlib.Core.Path.{◌≡◌, refl, ◌∙◌, ap}
use mathlib.Core.Bool.{Bool, true, false, cond}
use mathlib.Core.List.{List}
use lib.Dec.{eqb}
use lib.ListN.{length}
use lib.IntN.{ℤ, pos}
use mir.Syntax.{w32}
use mir.Val.{SFits, to_z, of_z}
use mir.Facts.{to_z_pos, to_z-of_z}
use Rattle.file.specs.EmptyFile.{procedure_text}
use Rattle.loader.specs.Verdict.{verdict}
use Rattle.loader.specs.Load.{Outcome, outcome, loaded, after_verdict, refusal_number, line_number, table_length, table_bytes}
use Rattle.loader_laws.specs.Lowest.{fault_line}
use Rattle.writer.specs.Write as Write
use Rattle.writer.specs.Write.{write_call, bytes_number}
use Rattle.writer.specs.Write.Laws.{bytes_few}
use Rattle.rules.specs.Calls as Calls
use Rattle.rules.specs.Seats.{seated_give}
use Rattle.interface.specs.Interface.{loaded_to, numbered, load_result, written_to, written_numbers, write_result, result, in_numbers, give_numbers, give_result}
use Rattle.interface.specs.declared.GiveAnswer.{GiveAnswer}

-- ---- load: every line that loading names is a line of the file, and so fits the interface

line_few : (file t : List ℕ) (v : Verdict) → verdict file ≡ v → line_number (after_verdict v file t).answer ≤ 865
unfolding after_verdict line_number
line_few file t (Err (g, l)) e = fault_line file g l e
line_few file t (Ok tt) e = go (eqb (length t) table_length)
  where
    go : (b : Bool) → line_number (cond b (outcome (Ok tt) (table_bytes (Rattle.file.specs.File.file_table file))) (outcome (Err LoadRefusal.WrongLength) t)).answer ≤ 865
    go true = omega arith
    go false = omega arith

module _ (file t t' : List ℕ) (a : Loaded) (e : outcome a t' ≡ loaded file t) where
  pub answer_line : line_number a ≤ 865
  unfolding loaded
  answer_line = let text = procedure_text file in rw (ap (λ (o : Outcome). o.answer) e) (line_few text t (verdict text) refl)

  module _ (l : ℕ) (g : l ≡ line_number a) where
    pub line_fits : SFits w32 (pos l)
    line_fits = record { sfits = rw g (omega (arith, answer_line)) }

    pub load_answered : (r : ℕ) → r ≡ refusal_number a → r ≤ 8 → loaded_to (record { refusal = to_z w32 r; line = to_z w32 l }) t' ≡ load_result file t
    unfolding load_result numbered
    load_answered r f h =
        let m : l ≤ 865 = rw g answer_line in
        let x : to_z w32 r ≡ pos (refusal_number a) = to_z_pos w32 {n = r} (omega arith) ∙ ap pos f in
        let y : to_z w32 l ≡ pos (line_number a) = to_z_pos w32 {n = l} (omega arith) ∙ ap pos g in
        rw (x, y) (ap numbered e)

-- ---- write: no file is too long for the interface

module _ (t b b' : List ℕ) (a : Written) (e : Write.outcome a b' ≡ write_call t b) (n : ℕ) (g : n ≡ bytes_number a) where
  few_bytes : n ≤ 63145
  few_bytes = rw (g, ap (λ (o : Write.Outcome). o.answer) e) (bytes_few t b)

  pub written_fits : SFits w32 (pos n)
  written_fits = record { sfits = omega (arith, few_bytes) }

  pub write_answered : (r : ℕ) → r ≡ Write.refusal_number a → r ≤ 15 → written_to (record { refusal = to_z w32 r; bytes = to_z w32 n }) b' ≡ write_result t b
  unfolding write_result written_numbers
  write_answered r f h =
      let x : to_z w32 r ≡ pos (Write.refusal_number a) = to_z_pos w32 {n = r} (omega arith) ∙ ap pos f in
      let y : to_z w32 n ≡ pos (bytes_number a) = to_z_pos w32 {n = n} (omega (arith, few_bytes)) ∙ ap pos g in
      rw (x, y) (ap written_numbers e)

-- ---- the calls on a state

-- a: the answer of a call, and b the bytes that it leaves; r are the numbers of the answer
pub answered : {A B : Type 0} (f : A → B) (o : Calls.Outcome A) (a : A) (b : List ℕ) (r : B) → Calls.outcome a b ≡ o → r ≡ f a → result r b ≡ in_numbers f o
unfolding in_numbers
answered f o a b r e g = rw g (ap (in_numbers f) e)

-- the number that is given comes by way of its pattern
pub give_answered : (table b rights b₁ : List ℕ) (seat p v : ℕ) (z : ℤ) (a : Given) (r : GiveAnswer) → Calls.outcome a b₁ ≡ seated_give table b rights seat p v
    → v ≡ of_z w32 (to_z w32 (of_z w32 z)) → SFits w32 z → r ≡ give_numbers a → result r b₁ ≡ give_result table b rights seat p z
unfolding give_result
give_answered table b rights b₁ seat p v z a r e g i f =
    let q : v ≡ of_z w32 z = g ∙ rw (to_z-of_z i) in
    answered give_numbers (seated_give table b rights seat p (of_z w32 z)) a b₁ r (rw q at e) f
