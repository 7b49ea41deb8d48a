-- The verdict as a chain of tests: it is the lowest ground whose test finds a line, with the first such line. Assumes nothing.
use Rattle.loader.specs.Answers.{Verdict}
use Prim.Native.Nat.{ℕ, zero, suc, ◌-◌, ◌≤◌, ◌<◌}
use native.Mathlib.Omega.{arith}
use Rattle.std.proofs.Math.Path.{◌≡◌, refl}
use Rattle.std.proofs.Common.{sym, ◌∙◌, ap, inl, inr}
use Rattle.std.specs.Prelude.{◌⊎◌, ◌↔◌, Bool, true, false, not, ◌&&◌, cond, List, ltb, eqb, Err, Ok}
use Rattle.std.proofs.Math.Logic.{⊎_elim}
use borrow.Author.Tests.{lt-ltb, ltb-true, ltb-false, eq-eqb, ne_eqb, eqb-true}
use Rattle.numbers.specs.Search.{first}
use Rattle.numbers.specs.Search.Laws.{case_b, contra, first_le, first_passes, first_below}
use Rattle.numbers.specs.Tests.{and_left}
use Rattle.table.specs.Table.{max_rows, line_total}
use Rattle.table.specs.Form.{header_in_range, kind_wrong, sums_agree}
use Rattle.ranges.specs.Ranges.{out_of_range}
use Rattle.types.specs.Types.{types_disagree}
use Rattle.flow.specs.Flow.{reads_unwritten, unreachable}
use Rattle.file.specs.File.{line_count, not_lines, malformed, file_table}
use Rattle.loader.specs.Verdict.{ground_number, at_fault, judged_flow, judged_rows, judged, verdict}
use Rattle.loader.specs.declared.Ground.{Ground}
use Rattle.loader.specs.declared.Ground.TheVariants.{Lines, Field, Header, Total, Kind, Sums, Range, Types, Unwritten, Unreachable}
use Rattle.loader.specs.Verdict.Laws.{no_sound}
use Rattle.loader_laws.specs.PrintedFile.{lines_lined}
use Rattle.loader_laws.specs.Refused.{rank, LowestOf}

-- ---- the grounds

-- the test p finds line l at fault, which is one of n lines counted from 1; p counts them from 0
unfoldable pub on_line : (ℕ → Bool) → ℕ → ℕ → Bool
on_line p n zero = false
on_line p n (suc i) = ltb i n && p i

-- a test that has only the line k to blame
unfoldable pub only : ℕ → Bool → ℕ → Bool
only k t l = eqb l k && t

-- of a file: line l is at fault on ground g
unfoldable pub fault_at : List ℕ → Ground → ℕ → Bool
fault_at file Lines = only 0 (not_lines file)
fault_at file Field = on_line (malformed file) (line_count file)
fault_at file Header = only 1 (not (header_in_range (file_table file)))
fault_at file Total = only 1 (not (eqb (line_count file) (line_total (file_table file))))
fault_at file Kind = on_line (kind_wrong (file_table file)) (line_count file)
fault_at file Sums = only 1 (not (sums_agree (file_table file)))
fault_at file Range = on_line (out_of_range (file_table file)) (line_count file)
fault_at file Types = on_line (types_disagree (file_table file)) (line_count file)
fault_at file Unwritten = on_line (reads_unwritten (file_table file)) (line_count file)
fault_at file Unreachable = on_line (unreachable (file_table file)) (line_count file)

-- ---- their order

unranked : ℕ → Ground
unranked r =
    cond (eqb r 0) Lines
    (cond (eqb r 1) Field
    (cond (eqb r 2) Header
    (cond (eqb r 3) Total
    (cond (eqb r 4) Kind
    (cond (eqb r 5) Sums
    (cond (eqb r 6) Range
    (cond (eqb r 7) Types
    (cond (eqb r 8) Unwritten Unreachable))))))))

-- the numbers of document 01 by rank
number_of : ℕ → ℕ
number_of r = cond (ltb r 2) (suc r) (cond (ltb r 6) 3 (r - 2))

-- a ground is told by its rank, and its number goes by its rank
ranked : (g : Ground) → (unranked (rank g) ≡ g) × (rank g < 10) × (ground_number g ≡ number_of (rank g))
unfolding rank unranked number_of ground_number
ranked Lines = (refl, omega arith, refl)
ranked Field = (refl, omega arith, refl)
ranked Header = (refl, omega arith, refl)
ranked Total = (refl, omega arith, refl)
ranked Kind = (refl, omega arith, refl)
ranked Sums = (refl, omega arith, refl)
ranked Range = (refl, omega arith, refl)
ranked Types = (refl, omega arith, refl)
ranked Unwritten = (refl, omega arith, refl)
ranked Unreachable = (refl, omega arith, refl)

-- no two grounds have one rank
pub rank_apart : (g h : Ground) → rank g ≡ rank h → g ≡ h
rank_apart g h e = sym (ranked g).0 ∙ ap unranked e ∙ (ranked h).0

number_few : (r : ℕ) → r < 10 → (1 ≤ number_of r) × (number_of r ≤ 7)
unfolding number_of
number_few r h = case_b (ltb r 2)
    (λ y. let u = ltb-true r 2 y in rw y (omega arith, omega arith))
    (λ y. let u = ltb-false r 2 y in
    rw y (case_b (ltb r 6) (λ z. rw z (omega arith, omega arith)) (λ z. let w = ltb-false r 6 z in rw z (omega arith, omega arith))))

-- document 01's numbers for the file's author are 1 to 7
pub number_range : (g : Ground) → (1 ≤ ground_number g) × (ground_number g ≤ 7)
number_range g = rw (ranked g).2 (number_few (rank g) (ranked g).1)

number_mono : (r s : ℕ) → r ≤ s → number_of r ≤ number_of s
unfolding number_of
number_mono r s h =
    case_b (ltb s 2) (λ y. let u = ltb-true s 2 y in rw (y, lt-ltb r 2 (omega arith)) (omega arith))
    (λ y. let u = ltb-false s 2 y in
    case_b (ltb r 2) (λ z. let w = ltb-true r 2 z in rw (y, z) (case_b (ltb s 6) (λ x. rw x (omega arith)) (λ x. let q = ltb-false s 6 x in rw x (omega arith))))
    (λ z. let w = ltb-false r 2 z in
    case_b (ltb s 6) (λ x. let q = ltb-true s 6 x in rw (y, z, x, lt-ltb r 6 (omega arith)) (omega arith))
    (λ x. let q = ltb-false s 6 x in rw (y, z, x) (case_b (ltb r 6) (λ c. rw c (omega arith)) (λ c. rw c (omega arith))))))

-- the ranks go with the numbers of document 01
pub rank_number : (g h : Ground) → rank g ≤ rank h → ground_number g ≤ ground_number h
rank_number g h l = rw ((ranked g).2, (ranked h).2) (number_mono (rank g) (rank h) l)

pub number_rank_below : (g h : Ground) → ground_number g < ground_number h → rank g < rank h
number_rank_below g h l = case_b (ltb (rank g) (rank h)) (λ y. ltb-true (rank g) (rank h) y) (λ y. absurd (omega (arith, rank_number h g (ltb-false (rank g) (rank h) y))))

-- ---- a chain of tests

and_no_right : (b : Bool) → (b && false) ≡ false
and_no_right true = refl
and_no_right false = refl

-- line l is the first that p finds
abbrev First : (ℕ → Bool) → ℕ → Type 0
First p l = (p l ≡ true) × ((m : ℕ) → m < l → p m ≡ false)

-- the verdict v names the first line that p finds, on ground g, and is w where there is none
abbrev Asks : (ℕ → Bool) → Ground → Verdict → Verdict → Type 0
Asks p g w v = ((l : ℕ) × (v ≡ Err (g, l)) × First p l) ⊎ ((v ≡ w) × ((l : ℕ) → p l ≡ false))

module _ (p : ℕ → Bool) (n : ℕ) where
  -- of the lines up to the first that p finds, none before it is at fault
  none_before : (l : ℕ) → l ≤ first p n → on_line p n l ≡ false
  unfolding on_line
  none_before zero h = refl
  none_before (suc i) h = rw (first_below p n i h) (and_no_right (ltb i n))

  none_on : first p n ≡ n → (l : ℕ) → on_line p n l ≡ false
  unfolding on_line
  none_on e zero = refl
  none_on e (suc i) = case_b (ltb i n) (λ y. none_before (suc i) (omega (arith, ltb-true i n y))) (λ y. rw y)

  lines_ask : (g : Ground) (w : Verdict) → Asks (on_line p n) g w (at_fault g p n w)
  unfolding at_fault on_line
  lines_ask g w =
      let f = first p n in
      case_b (ltb f n)
      (λ y. rw y (inl (suc f, refl, (rw (y, first_passes p n (ltb-true f n y)), λ m h. none_before m (omega arith)))))
      (λ y. rw y (inr (refl, none_on (omega (arith, ltb-false f n y, first_le p n)))))

only_asks : (g : Ground) (k : ℕ) (t : Bool) (w : Verdict) → Asks (only k t) g w (cond t (Err (g, k)) w)
unfolding only
only_asks g k true w = inl (k, refl, (rw (eq-eqb k k refl), λ m h. rw (ne_eqb m k (λ e. omega arith))))
only_asks g k false w = inr (refl, λ l. and_no_right (eqb l k))

not_asks : (g : Ground) (k : ℕ) (t : Bool) (w : Verdict) → Asks (only k (not t)) g w (cond t w (Err (g, k)))
not_asks g k true w = only_asks g k false w
not_asks g k false w = only_asks g k true w

-- of the grounds of rank k and above, v is the lowest at fault under t, with its first line
Lowest : (Ground → ℕ → Bool) → ℕ → Verdict → Type 0
Lowest t k (Ok tt) = (g : Ground) (l : ℕ) → k ≤ rank g → t g l ≡ false
Lowest t k (Err (g, l)) = (k ≤ rank g) × First (t g) l × ((h : Ground) (m : ℕ) → k ≤ rank h → rank h < rank g → t h m ≡ false)

module _ (t : Ground → ℕ → Bool) (g : Ground) where
  -- ground g has no line at fault
  skip : ((l : ℕ) → t g l ≡ false) → (h : Ground) (l : ℕ) → rank g ≤ rank h → (suc (rank g) ≤ rank h → t h l ≡ false) → t h l ≡ false
  skip z h l a f = case_b (ltb (rank g) (rank h)) (λ y. f (ltb-true (rank g) (rank h) y))
      (λ y. let q : h ≡ g = rank_apart h g (omega (arith, ltb-false (rank g) (rank h) y)) in rw q (z l))

  passed : (w : Verdict) → ((l : ℕ) → t g l ≡ false) → Lowest t (suc (rank g)) w → Lowest t (rank g) w
  unfolding Lowest
  passed (Ok tt) z s = λ h l a. skip z h l a (λ b. s h l b)
  passed (Err (k, l)) z s = let (a, f, b) = s in (omega arith, f, λ h m c d. skip z h m c (λ e. b h m e d))

  -- one test more
  step : (v w : Verdict) → Asks (t g) g w v → Lowest t (suc (rank g)) w → Lowest t (rank g) v
  unfolding Lowest
  step v w a s =
      ⊎_elim (λ y. let (l, e, f) = y in rw e (omega arith, f, λ h m b c. absurd (let z : ⊥ = omega arith in z)))
      (λ y. let (e, z) = y in rw e (passed w z s)) a

-- the verdict on a file is such a chain
verdict_lowest : (file : List ℕ) → Lowest (fault_at file) 0 (verdict file)
unfolding verdict judged judged_rows judged_flow fault_at rank Lowest
verdict_lowest file =
    let t = fault_at file in
    let tb = file_table file in
    let n = line_count file in
    step t Lines _ _ (only_asks Lines 0 (not_lines file) _)
    (step t Field _ _ (lines_ask (malformed file) n Field _)
    (step t Header _ _ (not_asks Header 1 (header_in_range tb) _)
    (step t Total _ _ (not_asks Total 1 (eqb n (line_total tb)) _)
    (step t Kind _ _ (lines_ask (kind_wrong tb) n Kind _)
    (step t Sums _ _ (not_asks Sums 1 (sums_agree tb) _)
    (step t Range _ _ (lines_ask (out_of_range tb) n Range _)
    (step t Types _ _ (lines_ask (types_disagree tb) n Types _)
    (step t Unwritten _ _ (lines_ask (reads_unwritten tb) n Unwritten _)
    (step t Unreachable _ (Ok tt) (lines_ask (unreachable tb) n Unreachable (Ok tt))
    (λ g l h. absurd (let q = (ranked g).1 in let z : ⊥ = omega arith in z)))))))))))

-- ---- what the verdict names

-- there is at most one first line of the lowest ground
pub lowest_one : (R : Ground → ℕ → Type 0) (g h : Ground) (l m : ℕ) → LowestOf R g l → LowestOf R h m → (g ≡ h) × (l ≡ m)
lowest_one R g h l m a b =
    case_b (ltb (rank g) (rank h)) (λ y. absurd (b.2 g l (ltb-true (rank g) (rank h) y) a.0))
    (λ y. case_b (ltb (rank h) (rank g)) (λ z. absurd (a.2 h m (ltb-true (rank h) (rank g) z) b.0))
    (λ z. let q : g ≡ h = rank_apart g h (omega (arith, ltb-false (rank g) (rank h) y, ltb-false (rank h) (rank g) z)) in
    let c : LowestOf R h l = rw q at a in (q, same c)))
  where
    same : LowestOf R h l → l ≡ m
    same c =
        case_b (ltb l m) (λ y. absurd (b.1 l (ltb-true l m y) c.0))
        (λ y. case_b (ltb m l) (λ z. absurd (c.1 m (ltb-true m l z) b.0)) (λ z. omega (arith, ltb-false l m y, ltb-false m l z)))

-- of the tests
abbrev pub Names : List ℕ → Ground → ℕ → Type 0
Names file = LowestOf (λ g l. fault_at file g l ≡ true)

module _ (file : List ℕ) where
  -- the verdict, whichever it is
  named : (v : Verdict) → Lowest (fault_at file) 0 v → (g : Ground) (l : ℕ) → (v ≡ Err (g, l)) ↔ Names file g l
  unfolding Lowest
  named (Ok tt) s g l = (
    λ e. no_sound g l (sym e),
    λ a. contra a.0 (s g l (omega arith)),
  )
  named (Err (h, m)) s g l =
      let (k, f, b) = s in
      let c : Names file h m = (f.0, λ i y e. contra e (f.1 i y), λ o i y e. contra e (b o i (omega arith) y)) in (
        λ e. let w : (h, m) ≡ (g, l) = cc in let p : h ≡ g = ap (λ (x : Ground × ℕ). x.0) w in let q : m ≡ l = ap (λ (x : Ground × ℕ). x.1) w in rw (p, q) at c,
        λ a. let (p, q) = lowest_one (λ o i. fault_at file o i ≡ true) h g m l c a in cc,
      )

  none_named : (v : Verdict) → Lowest (fault_at file) 0 v → (v ≡ Ok tt) ↔ ((g : Ground) (l : ℕ) → fault_at file g l ≡ false)
  unfolding Lowest
  none_named (Ok tt) s = (λ e g l. s g l (omega arith), λ a. refl)
  none_named (Err (h, m)) s = (no_sound h m, λ a. contra s.1.0 (a h m))

  -- a file is refused on the lowest ground that has a line at fault, with the first such line
  pub lowest_iff : (g : Ground) (l : ℕ) → (verdict file ≡ Err (g, l)) ↔ Names file g l
  lowest_iff = named (verdict file) (verdict_lowest file)

  -- a file is in order just when no ground has a line of it at fault
  pub sound_iff : (verdict file ≡ Ok tt) ↔ ((g : Ground) (l : ℕ) → fault_at file g l ≡ false)
  sound_iff = none_named (verdict file) (verdict_lowest file)

  -- ---- the line named is one of the file's

  on_line_lem : (p : ℕ → Bool) (n l : ℕ) → on_line p n l ≡ true → l ≤ n
  unfolding on_line
  on_line_lem p n zero e = omega arith
  on_line_lem p n (suc i) e = ltb-true i n (and_left _ _ e)

  on_only : (k : ℕ) (t : Bool) (l : ℕ) → only k t l ≡ true → l ≡ k
  unfolding only
  on_only k t l e = eqb-true l k (and_left _ _ e)

  fault_within : (g : Ground) (l : ℕ) → 1 ≤ line_count file → fault_at file g l ≡ true → l ≤ line_count file
  unfolding fault_at
  fault_within Lines l h e = omega (arith, on_only 0 _ l e)
  fault_within Field l h e = on_line_lem _ _ l e
  fault_within Header l h e = omega (arith, on_only 1 _ l e)
  fault_within Total l h e = omega (arith, on_only 1 _ l e)
  fault_within Kind l h e = on_line_lem _ _ l e
  fault_within Sums l h e = omega (arith, on_only 1 _ l e)
  fault_within Range l h e = on_line_lem _ _ l e
  fault_within Types l h e = on_line_lem _ _ l e
  fault_within Unwritten l h e = on_line_lem _ _ l e
  fault_within Unreachable l h e = on_line_lem _ _ l e

  -- 0, for ground 1, or one of the lines
  pub fault_line : (g : Ground) (l : ℕ) → verdict file ≡ Err (g, l) → l ≤ max_rows
  unfolding verdict
  fault_line g l e = case_b (not_lines file)
      (λ y. let q : ◌≡◌ {A = Verdict} (Err (Lines, 0)) (Err (g, l)) = rw y at e in let w : (Lines, 0) ≡ (g, l) = cc in let z : 0 ≡ l = ap (λ (x : Ground × ℕ). x.1) w in omega arith)
      (λ y. let n = lines_lined file y in omega (arith, n.few, fault_within g l n.some ((lowest_iff g l).0 e).0))
