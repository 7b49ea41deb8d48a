-- What C sees of a load (document 01, and document 02, S-2, for a file of no bytes): the ground and the line, each exactly when it is due, and what is left in the
-- table's buffer, for every file, every buffer and every length. The grounds are those of `loader_laws/specs/Refused.antt`, in document 01's words, and the
-- theorems on the definition are in `Refused/Laws.antt` and `EmptyFile.antt` beside it; this file says them in the numbers that C gets, and shows them. Assumes
-- nothing.
use Rattle.loader.specs.declared.LoadRefusal.TheVariants as LoadRefusal
use Rattle.loader.specs.Answers.{Loaded, Verdict}
use Rattle.std.specs.Prelude.{ℕ, ◌≤◌, ◌≡◌, ◌⊎◌, ◌≢◌, ◌↔◌, cond, List, [], eqb, length, Err, Ok}
use Rattle.std.proofs.Common.{arith, ◌∙◌, eqb-true, eq-eqb, ne_eqb}
use Rattle.std.proofs.Math.Path.{refl, sym, ap}
use Rattle.std.proofs.Math.Logic.{inl, inr, ⊎_elim}
use Rattle.std.proofs.Math.IntN.{pos}
use Rattle.std.proofs.lemmas.Bool.{eqb-false}
use Rattle.numbers.specs.Search.Laws.{case_b}
use Rattle.numbers.specs.Tests.{clash}
use Rattle.file.specs.File.{file_table}
use Rattle.file.specs.EmptyFile.{ending_rows, procedure_text}
use Rattle.file.specs.EmptyFile.Laws.{text_none, text_own}
use Rattle.loader.specs.Verdict.{ground_number, verdict}
use Rattle.loader.specs.Verdict.Laws.{no_sound}
use Rattle.loader.specs.Load.{table_length, table_bytes, after_verdict, loaded, refusal_number, line_number}
use Rattle.loader.specs.Load.Laws.{ending_sound}
use Rattle.loader.specs.declared.Ground.{Ground}
use Rattle.loader.specs.declared.Ground.TheVariants.{Lines, Field, Header, Total, Kind, Sums, Range, Types, Unwritten, Unreachable}
use Rattle.loader_laws.specs.PrintedFile.{filled_up}
use Rattle.loader_laws.specs.Refused.{NotWhole, Refused, LowestOf}
use Rattle.loader_laws.specs.Refused.Laws.{in_order_iff}
use Rattle.loader_laws.specs.Lowest.{number_range}
use Rattle.loader_laws.specs.EmptyFile.{empty_loads, ground_iff, lines_iff}
use Rattle.interface.specs.Interface.{loaded_to, numbered, load_result}
use Rattle.guarantee.specs.Exported.{load_zero_iff, load_table, load_keeps}

-- ---- what is said

module _ (file t : List ℕ) where
  -- a load of this file into the buffer t is answered with this refusal and this line
  abbrev pub Told : ℕ → ℕ → Type 0
  Told n l = ((load_result file t).answer.refusal ≡ pos n) × ((load_result file t).answer.line ≡ pos l)

  -- the file has bytes, g is the lowest ground on which some line is at fault, and l the first such line
  abbrev pub FaultAt : Ground → ℕ → Type 0
  FaultAt g l = (length file ≢ 0) × LowestOf (Refused file) g l

  -- it has none, or no line is at fault on any ground
  abbrev pub FileInOrder : Type 0
  FileInOrder = (length file ≡ 0) ⊎ ((g : Ground) (l : ℕ) → ¬ Refused file g l)

  pub record LoadInNumbers : Type 0 where
    -- grounds 1 to 7; ground 3 has four tests
    pub one : (l : ℕ) → Told 1 l ↔ ((l ≡ 0) × NotWhole file)
    pub two : (l : ℕ) → Told 2 l ↔ FaultAt Field l
    pub three : (l : ℕ) → Told 3 l ↔ (FaultAt Header l ⊎ (FaultAt Total l ⊎ (FaultAt Kind l ⊎ FaultAt Sums l)))
    pub four : (l : ℕ) → Told 4 l ↔ FaultAt Range l
    pub five : (l : ℕ) → Told 5 l ↔ FaultAt Types l
    pub six : (l : ℕ) → Told 6 l ↔ FaultAt Unwritten l
    pub seven : (l : ℕ) → Told 7 l ↔ FaultAt Unreachable l
    -- a file in order, by the length of the buffer
    pub eight : (l : ℕ) → Told 8 l ↔ ((l ≡ 0) × FileInOrder × (length t ≢ table_length))
    pub zero : (l : ℕ) → Told 0 l ↔ ((l ≡ 0) × FileInOrder × (length t ≡ table_length))
    pub only : (n : ℕ) × (l : ℕ) × (n ≤ 8) × Told n l
    -- a load that is refused leaves every byte, and one that is done leaves the table of the text for which the file stands
    pub kept : (load_result file t).answer.refusal ≢ pos 0 → (load_result file t).table ≡ t
    pub done : (load_result file t).answer.refusal ≡ pos 0 → (load_result file t).table ≡ table_bytes (file_table (procedure_text file))

-- ---- grounds and their numbers

-- an answer with a number from 1 to 7 is a ground of that number
told_ground : (a : Loaded) (n l : ℕ) → 1 ≤ n → n ≤ 7
    → ((pos (refusal_number a) ≡ pos n) × (pos (line_number a) ≡ pos l)) ↔ ((g : Ground) × (ground_number g ≡ n) × (a ≡ Err (LoadRefusal.FileRefused g l)))
unfolding refusal_number line_number
told_ground (Ok tt) n l h m = (λ (e, f). let q : 0 ≡ n = cc in absurd (omega arith), λ (g, e, f). clash cc)
told_ground (Err (LoadRefusal.FileRefused g k)) n l h m =
    (λ (e, f). (g, cc, let q : k ≡ l = cc in rw q), λ (g, e, f). (cc, cc))
told_ground (Err LoadRefusal.WrongLength) n l h m = (λ (e, f). let q : 8 ≡ n = cc in absurd (omega arith), λ (g, e, f). clash cc)

-- each number but 3 is that of one ground
of_number : ℕ → Ground
of_number n =
    cond (eqb n 1) Lines (cond (eqb n 2) Field (cond (eqb n 4) Range (cond (eqb n 5) Types (cond (eqb n 6) Unwritten Unreachable))))

by_number : (g : Ground) → ground_number g ≢ 3 → g ≡ of_number (ground_number g)
unfolding ground_number of_number
by_number Lines n = refl
by_number Field n = refl
by_number Header n = absurd (n refl)
by_number Total n = absurd (n refl)
by_number Kind n = absurd (n refl)
by_number Sums n = absurd (n refl)
by_number Range n = refl
by_number Types n = refl
by_number Unwritten n = refl
by_number Unreachable n = refl

number_three : (g : Ground) → ground_number g ≡ 3 → (g ≡ Header) ⊎ ((g ≡ Total) ⊎ ((g ≡ Kind) ⊎ (g ≡ Sums)))
unfolding ground_number
number_three Lines e = absurd (omega arith)
number_three Field e = absurd (omega arith)
number_three Header e = inl refl
number_three Total e = inr (inl refl)
number_three Kind e = inr (inr (inl refl))
number_three Sums e = inr (inr (inr refl))
number_three Range e = absurd (omega arith)
number_three Types e = absurd (omega arith)
number_three Unwritten e = absurd (omega arith)
number_three Unreachable e = absurd (omega arith)

-- ---- that it is so

wrong_length : (v : Verdict) (file t : List ℕ) → ((after_verdict v file t).answer ≡ Err LoadRefusal.WrongLength) ↔ ((v ≡ Ok tt) × (length t ≢ table_length))
unfolding after_verdict
wrong_length (Err (g, l)) file t = (λ e. clash cc, λ (e, n). no_sound g l e)
wrong_length (Ok tt) file t = (
  λ e. (refl, λ q. let f : Ok tt ≡ Err LoadRefusal.WrongLength = rw (eq-eqb (length t) table_length q) at e in clash cc),
  λ (e, n). rw (ne_eqb (length t) table_length n),
)

is_eight : (a : Loaded) → pos (refusal_number a) ≡ pos 8 → (a ≡ Err LoadRefusal.WrongLength) × (line_number a ≡ 0)
unfolding refusal_number line_number
is_eight (Ok tt) e = clash cc
is_eight (Err (LoadRefusal.FileRefused g l)) e = let q : ground_number g ≡ 8 = cc in absurd (omega (arith, (number_range g).1))
is_eight (Err LoadRefusal.WrongLength) e = (refl, refl)

no_line : (a : Loaded) → pos (refusal_number a) ≡ pos 0 → line_number a ≡ 0
unfolding refusal_number line_number
no_line (Ok tt) e = refl
no_line (Err (LoadRefusal.FileRefused g l)) e = let q : ground_number g ≡ 0 = cc in absurd (omega (arith, (number_range g).0))
no_line (Err LoadRefusal.WrongLength) e = clash cc

few_numbers : (a : Loaded) → refusal_number a ≤ 8
unfolding refusal_number
few_numbers (Ok tt) = omega arith
few_numbers (Err (LoadRefusal.FileRefused g l)) = omega (arith, (number_range g).1)
few_numbers (Err LoadRefusal.WrongLength) = omega arith

module _ (file t : List ℕ) where
  abbrev answer : Loaded
  answer = (loaded file t).answer

  order_iff : (verdict (procedure_text file) ≡ Ok tt) ↔ FileInOrder file t
  order_iff = case_b (eqb (length file) 0)
      (λ y. let z = eqb-true (length file) 0 y in (λ e. inl z, λ o. rw (text_none file z) ending_sound))
      (λ y. let n = eqb-false (length file) 0 y in
      let q = text_own file n in (
        λ e. inr ((in_order_iff file).0 (rw q at e)),
        ⊎_elim (λ z. absurd (n z)) (λ f. rw q ((in_order_iff file).1 f)),
      ))

  of_ground : (n l : ℕ) → 1 ≤ n → n ≤ 7 → Told file t n l ↔ ((g : Ground) × (ground_number g ≡ n) × FaultAt file t g l)
  unfolding load_result numbered
  of_ground n l h m =
      let w = told_ground answer n l h m in (
        λ e. let (g, q, f) = w.0 e in (g, q, (ground_iff file t g l).0 f),
        λ (g, q, f). w.1 (g, q, (ground_iff file t g l).1 f),
      )

  -- a number that one ground has
  single : (n l : ℕ) (g : Ground) → ground_number g ≡ n → 1 ≤ n → n ≤ 7 → n ≢ 3 → of_number n ≡ g → Told file t n l ↔ FaultAt file t g l
  single n l g q h m three o =
      let w = of_ground n l h m in (
        λ e. let (x, r, f) = w.0 e in
            let y : x ≡ g = by_number x (λ z. three (sym r ∙ z)) ∙ ap of_number r ∙ o in rw y at f,
        λ f. w.1 (g, q, f),
      )

  three_iff : (l : ℕ) → Told file t 3 l ↔ (FaultAt file t Header l ⊎ (FaultAt file t Total l ⊎ (FaultAt file t Kind l ⊎ FaultAt file t Sums l)))
  unfolding ground_number
  three_iff l =
      let w = of_ground 3 l (omega arith) (omega arith) in (
        λ e. let (g, q, f) = w.0 e in ⊎_elim (λ y. inl (rw y at f))
            (λ o. ⊎_elim (λ y. inr (inl (rw y at f))) (λ o. ⊎_elim (λ y. inr (inr (inl (rw y at f)))) (λ y. inr (inr (inr (rw y at f)))) o) o) (number_three g q),
        ⊎_elim (λ f. w.1 (Header, refl, f))
            (λ o. ⊎_elim (λ f. w.1 (Total, refl, f)) (λ o. ⊎_elim (λ f. w.1 (Kind, refl, f)) (λ f. w.1 (Sums, refl, f)) o) o),
      )

  one_iff : (l : ℕ) → Told file t 1 l ↔ ((l ≡ 0) × NotWhole file)
  unfolding load_result numbered ground_number of_number refusal_number line_number
  one_iff l =
      let w = told_ground answer 1 l (omega arith) (omega arith) in (
        λ e. let (g, q, f) = w.0 e in
            let y : g ≡ Lines = by_number g (λ z. omega arith) ∙ ap of_number q in
            (lines_iff file t l).0 (f ∙ ap (λ x. Err (LoadRefusal.FileRefused x l)) y),
        λ x. let a = (lines_iff file t l).1 x in (rw a, rw a),
      )

  eight_iff : (l : ℕ) → Told file t 8 l ↔ ((l ≡ 0) × FileInOrder file t × (length t ≢ table_length))
  unfolding load_result numbered loaded refusal_number line_number
  eight_iff l =
      let w = wrong_length (verdict (procedure_text file)) (procedure_text file) t in (
        λ (e, f). let (a, q) = is_eight answer e in let (v, n) = w.0 a in (let z : line_number answer ≡ l = cc in sym z ∙ q, order_iff.0 v, n),
        λ (q, o, n). let a = w.1 (order_iff.1 o, n) in (rw a, rw (a, q)),
      )

  zero_iff : (l : ℕ) → Told file t 0 l ↔ ((l ≡ 0) × FileInOrder file t × (length t ≡ table_length))
  unfolding load_result numbered
  zero_iff l =
      let w = load_zero_iff file t in (
        λ (e, f). let (v, h) = w.0 e in (let z : line_number answer ≡ l = cc in sym z ∙ no_line answer e, order_iff.0 v, h),
        λ (q, o, h). let e = w.1 (order_iff.1 o, h) in (e, ap pos (no_line answer e ∙ sym q)),
      )

  pub load_in_numbers : LoadInNumbers file t
  unfolding load_result numbered ground_number of_number
  load_in_numbers = record {
    one = one_iff;
    two = λ l. single 2 l Field refl (omega arith) (omega arith) (λ e. omega arith) refl;
    three = three_iff;
    four = λ l. single 4 l Range refl (omega arith) (omega arith) (λ e. omega arith) refl;
    five = λ l. single 5 l Types refl (omega arith) (omega arith) (λ e. omega arith) refl;
    six = λ l. single 6 l Unwritten refl (omega arith) (omega arith) (λ e. omega arith) refl;
    seven = λ l. single 7 l Unreachable refl (omega arith) (omega arith) (λ e. omega arith) refl;
    eight = eight_iff;
    zero = zero_iff;
    only = (refusal_number answer, line_number answer, few_numbers answer, (refl, refl));
    kept = load_keeps file t;
    done = load_table file t;
  }

-- a file of no bytes loads to the table of the procedure that ends
pub empty_zero : (t : List ℕ) → length t ≡ table_length → load_result [] t ≡ loaded_to (record { refusal = pos 0; line = pos 0 }) (table_bytes (filled_up ending_rows))
unfolding load_result numbered refusal_number line_number
empty_zero t l = rw (empty_loads t l)
