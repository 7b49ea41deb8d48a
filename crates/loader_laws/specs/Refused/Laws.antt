use Rattle.std.proofs.Common.{ap}
-- For every file, accepted or refused: the verdict is ground g at line l exactly when g is the lowest ground on which the file is refused and l its first line,
-- and the file is in order exactly when it is refused on none. Assumes nothing.
use Rattle.loader.specs.declared.LoadRefusal.TheVariants as LoadRefusal
use Rattle.loader.specs.Answers.{Loaded, Verdict}
use Rattle.std.specs.Prelude.{ℕ, zero, suc, ◌+◌, ◌<◌, refl, ◌⊎◌, ◌↔◌, Bool, true, false, List, ltb, eqb, length, Err, Ok}
use Rattle.std.proofs.Common.{arith, sym, ◌∙◌, inl, inr}
use Rattle.std.proofs.Math.Path.{◌≡◌}
use Rattle.std.proofs.Math.Logic.{⊎_elim}
use borrow.Author.Tests.{ltb-true, lt-ltb, eqb-true, eq-eqb, not-false}
use Rattle.numbers.specs.Search.{first}
use Rattle.numbers.specs.Search.Laws.{case_b, contra, first_void}
use Rattle.numbers.specs.Tests.{and_left, and_right, clash}
use Rattle.table.specs.Table.{nodes, node_row, line_total}
use Rattle.table.specs.Form.{header_in_range, kind_wrong, sums_agree}
use Rattle.ranges.specs.Ranges.{out_of_range}
use Rattle.types.specs.Types.{types_disagree}
use Rattle.flow.specs.Flow.{reads_unwritten, unreachable}
use Rattle.file.specs.File.{line_count, not_lines, malformed, file_table}
use Rattle.file.specs.EmptyFile.{procedure_text}
use Rattle.loader.specs.Verdict.{ground_number, verdict}
use Rattle.loader.specs.Verdict.Laws.{no_sound}
use Rattle.loader.specs.Load.{table_length, after_verdict, loaded}
use Rattle.loader.specs.declared.Ground.{Ground}
use Rattle.loader.specs.declared.Ground.TheVariants.{Lines, Field, Header, Total, Kind, Sums, Range, Types, Unwritten, Unreachable}
use Rattle.loader_laws.specs.FormedRows.{FormedTo}
use Rattle.loader_laws.specs.Paths.{row_of, IsRead, Reachable, SurelyWritten}
use Rattle.loader_laws.specs.Grounds.{Formed, branch_below}
use Rattle.loader_laws.specs.Written.{unreachable_iff, call_iff, branch_iff}
use Rattle.loader_laws.specs.Yields.{file_shaped}
use Rattle.loader_laws.specs.Lowest.{on_line, only, fault_at, lowest_one, lowest_iff, sound_iff, number_rank_below}
use Rattle.loader_laws.specs.Refused.{NotLines, Malformed, HeaderWrong, TotalWrong, KindWrong, SumsWrong, OutOfRange, TypesDisagree, ReadsUnwritten, NotReached, OnLine, Refused, rank, LowestOf}
use Rattle.loader_laws.specs.Refused.Form.{Says, says_and, lines_says, field_says, header_says, total_says, kind_says, sums_says}
use Rattle.loader_laws.specs.Refused.Ranges.{range_says}
use Rattle.loader_laws.specs.Refused.Typing.{types_say}
use Rattle.loader_laws.specs.Refused.Flow.{reached_says, unwritten_says}

-- ---- a test of lines, and a test with one line to blame

fine : (t : Bool) → ¬ (t ≡ true) → t ≡ false
fine true f = absurd (f refl)
fine false f = refl

row_fine : (p : ℕ → Bool) (n r : ℕ) → r < n → on_line p n (suc r) ≡ false → p r ≡ false
unfolding on_line
row_fine p n r h e = rw (lt-ltb r n h) at e

only_fine : (k : ℕ) (t : Bool) → only k t k ≡ false → t ≡ false
unfolding only
only_fine k t e = rw (eq-eqb k k refl) at e

on_says : (file : List ℕ) (p : ℕ → Bool) (P : ℕ → Type 0) (l : ℕ) → ((r : ℕ) → r < line_count file → l ≡ suc r → Says (p r) (P r)) → Says (on_line p (line_count file) l) (OnLine file P l)
unfolding on_line
on_says file p P zero s = (λ e. contra e refl, λ w. absurd (let q = w.2 in let z : ⊥ = omega arith in z))
on_says file p P (suc i) s = (
  λ e. let h = ltb-true i (line_count file) (and_left _ _ e) in (i, h, refl, (s i h refl).0 (and_right (ltb i (line_count file)) _ e)),
  λ w. let (r, h, q, x) = w in let o : r ≡ i = omega arith in here o h q x,
)
  where
    here : {r : ℕ} → r ≡ i → r < line_count file → suc i ≡ suc r → P r → on_line p (line_count file) (suc i) ≡ true
    here {r} o h q x = rw (lt-ltb i (line_count file) (omega arith)) (rw o at ((s r h q).1 x))

only_says : (k l : ℕ) (t : Bool) (A : Type 0) → Says t A → Says (only k t l) ((l ≡ k) × A)
unfolding only
only_says k l t A s = says_and (eqb l k) t (l ≡ k) A (λ e. eqb-true l k e, λ e. eq-eqb l k e) (λ _. s)

module _ (file : List ℕ) where
  -- ---- what a ground that finds nothing says

  abbrev Clear : Ground → Type 0
  Clear h = (m : ℕ) → fault_at file h m ≡ false

  header_fine : Clear Header → header_in_range (file_table file) ≡ true
  unfolding fault_at
  header_fine c = not-false _ (only_fine 1 _ (c 1))

  total_fine : Clear Total → line_count file ≡ line_total (file_table file)
  unfolding fault_at
  total_fine c = eqb-true (line_count file) (line_total (file_table file)) (not-false _ (only_fine 1 _ (c 1)))

  sums_fine : Clear Sums → sums_agree (file_table file) ≡ true
  unfolding fault_at
  sums_fine c = not-false _ (only_fine 1 _ (c 1))

  kinds_fine : Clear Kind → line_count file ≡ line_total (file_table file) → first (kind_wrong (file_table file)) (line_total (file_table file)) ≡ line_total (file_table file)
  unfolding fault_at
  kinds_fine c t = first_void (kind_wrong (file_table file)) (line_total (file_table file)) (λ r h. row_fine (kind_wrong (file_table file)) (line_count file) r (omega arith) (c (suc r)))

  formed_to : Clear Header → Clear Total → Clear Kind → Clear Sums → (r : ℕ) → ((i : ℕ) → i < r → out_of_range (file_table file) i ≡ false) → FormedTo (file_table file) r
  formed_to a b c d r f = record {
    header = header_fine a;
    kinds = kinds_fine c (total_fine b);
    sums = sums_fine d;
    ranges = first_void (out_of_range (file_table file)) r f;
  }

  formed : Clear Header → Clear Total → Clear Kind → Clear Sums → Clear Range → Formed (file_table file)
  unfolding fault_at
  formed a b c d e =
      formed_to a b c d (line_total (file_table file)) (λ i h. row_fine (out_of_range (file_table file)) (line_count file) i (omega (arith, total_fine b)) (e (suc i)))

  -- ---- each ground, where the grounds before it find nothing, nor it in the lines before

  exact : (g : Ground) (l : ℕ) → ((h : Ground) → rank h < rank g → Clear h) → ((m : ℕ) → m < l → fault_at file g m ≡ false) → Says (fault_at file g l) (Refused file g l)
  unfolding fault_at rank Refused
  exact Lines l low before = only_says 0 l (not_lines file) (NotLines file) (lines_says file)
  exact Field l low before = on_says file (malformed file) (Malformed file) l (λ r h q. field_says file r)
  exact Header l low before = only_says 1 l _ (HeaderWrong (file_table file)) (header_says (file_table file) (file_shaped file))
  exact Total l low before =
      only_says 1 l _ (TotalWrong (file_table file) (line_count file)) (total_says (file_table file) (file_shaped file) (header_fine (low Header (omega arith))) (line_count file))
  exact Kind l low before = on_says file (kind_wrong (file_table file)) (KindWrong (file_table file)) l (λ r h q. kind_says (file_table file) r)
  exact Sums l low before = only_says 1 l _ (SumsWrong (file_table file)) (sums_says (file_table file) (file_shaped file) (header_fine (low Header (omega arith))))
  exact Range l low before =
      on_says file (out_of_range (file_table file)) (OutOfRange (file_table file)) l (λ r h q. range_says (file_table file) (file_shaped file) r
      (formed_to (low Header (omega arith)) (low Total (omega arith)) (low Kind (omega arith)) (low Sums (omega arith)) r
      (λ i z. row_fine (out_of_range (file_table file)) (line_count file) i (omega arith) (before (suc i) (omega arith))))
      (omega (arith, total_fine (low Total (omega arith)))))
  exact Types l low before =
      on_says file (types_disagree (file_table file)) (TypesDisagree (file_table file)) l (λ r h q. types_say (file_table file)
      (formed (low Header (omega arith)) (low Total (omega arith)) (low Kind (omega arith)) (low Sums (omega arith)) (low Range (omega arith))) r
      (omega (arith, total_fine (low Total (omega arith)))))
  exact Unwritten l low before =
      on_says file (reads_unwritten (file_table file)) (ReadsUnwritten (file_table file)) l (λ r h q. unwritten_says (file_table file)
      (formed (low Header (omega arith)) (low Total (omega arith)) (low Kind (omega arith)) (low Sums (omega arith)) (low Range (omega arith))) r
      (omega (arith, total_fine (low Total (omega arith)))))
  exact Unreachable l low before =
      on_says file (unreachable (file_table file)) (NotReached (file_table file)) l (λ r h q. reached_says (file_table file)
      (formed (low Header (omega arith)) (low Total (omega arith)) (low Kind (omega arith)) (low Sums (omega arith)) (low Range (omega arith))) r
      (omega (arith, total_fine (low Total (omega arith)))))

  -- ---- the verdict

  refused_by : (g : Ground) (l : ℕ) → verdict file ≡ Err (g, l) → LowestOf (Refused file) g l
  refused_by g l e =
      let (a, b, c) = (lowest_iff file g l).0 e in
      let low : (h : Ground) → rank h < rank g → Clear h = λ h y m. fine (fault_at file h m) (c h m y) in
      let before : (m : ℕ) → m < l → fault_at file g m ≡ false = λ m y. fine (fault_at file g m) (b m y) in (
        (exact g l low before).0 a,
        λ m y w. contra ((exact g m low (λ i z. before i (omega arith))).1 w) (before m y),
        λ h m y w. contra ((exact h m (λ o z. low o (omega arith)) (λ i z. low h y i)).1 w) (low h y m),
      )

  none_refused : verdict file ≡ Ok tt → (g : Ground) (l : ℕ) → ¬ Refused file g l
  none_refused e g l w = let c = (sound_iff file).0 e in contra ((exact g l (λ h z. c h) (λ i z. c g i)).1 w) (c g l)

  either : (v : Verdict) → (v ≡ Ok tt) ⊎ ((g : Ground) × (l : ℕ) × (v ≡ Err (g, l)))
  either (Ok tt) = inl refl
  either (Err (g, l)) = inr (g, l, refl)

  refused_answer_lem : (v : Verdict) (t : List ℕ) (g : Ground) (l : ℕ) → ((after_verdict v file t).answer ≡ Err (LoadRefusal.FileRefused g l)) ↔ (v ≡ Err (g, l))
  unfolding after_verdict
  refused_answer_lem (Ok tt) t g l = (
    λ e. absurd (case_b (eqb (length t) table_length) (λ y. done_refused (rw y at e)) (λ y. length_refused (rw y at e))),
    λ e. no_sound g l (sym e),
  )
    where
      done_refused : ◌≡◌ {A = Loaded} (Ok tt) (Err (LoadRefusal.FileRefused g l)) → ⊥
      done_refused q = clash cc

      length_refused : ◌≡◌ {A = Loaded} (Err LoadRefusal.WrongLength) (Err (LoadRefusal.FileRefused g l)) → ⊥
      length_refused q = clash cc
  refused_answer_lem (Err (h, m)) t g l = (λ e. let w : (h, m) ≡ (g, l) = cc in let p : h ≡ g = ap (λ (x : Ground × ℕ). x.0) w in let q : m ≡ l = ap (λ (x : Ground × ℕ). x.1) w in rw (p, q), λ e. let w : (h, m) ≡ (g, l) = cc in let p : h ≡ g = ap (λ (x : Ground × ℕ). x.0) w in let q : m ≡ l = ap (λ (x : Ground × ℕ). x.1) w in rw (p, q))

  -- a file is refused on ground g with line l exactly when g is the lowest ground on which it is refused, and l its first line
  pub refused_iff : (g : Ground) (l : ℕ) → (verdict file ≡ Err (g, l)) ↔ LowestOf (Refused file) g l
  refused_iff g l = (
    refused_by g l,
    λ w. ⊎_elim (λ e. absurd (none_refused e g l w.0))
        (λ s. let (h, m, e) = s in let (p, q) = lowest_one (Refused file) h g m l (refused_by h m e) w in e ∙ cc) (either (verdict file)),
  )

  -- a file is in order exactly when it is refused on no ground
  pub in_order_iff : (verdict file ≡ Ok tt) ↔ ((g : Ground) (l : ℕ) → ¬ Refused file g l)
  in_order_iff = (
    none_refused,
    λ f. ⊎_elim (λ e. e) (λ s. let (h, m, e) = s in absurd (f h m (refused_by h m e).0)) (either (verdict file)),
  )

  -- no ground with a lower number refuses the file
  pub lowest_number : (g : Ground) (l : ℕ) → verdict file ≡ Err (g, l) → (h : Ground) (m : ℕ) → ground_number h < ground_number g → ¬ Refused file h m
  lowest_number g l e h m y = (refused_by g l e).2 h m (number_rank_below h g y)

  -- ---- what a file in order has, over paths

  module _ (e : verdict file ≡ Ok tt) where
    clear : (h : Ground) → Clear h
    clear = (sound_iff file).0 e

    sound_formed : Formed (file_table file)
    sound_formed = formed (clear Header) (clear Total) (clear Kind) (clear Sums) (clear Range)

    -- a path leads to every node
    pub all_reachable : (n : ℕ) → n < nodes (file_table file) → Reachable (file_table file) n
    unfolding fault_at
    all_reachable n h =
        let r = node_row (file_table file) + n in
        (unreachable_iff (file_table file) sound_formed n h).0 (row_fine (unreachable (file_table file)) (line_count file) r (omega (arith, total_fine (clear Total))) (clear Unreachable (suc r)))

    -- a slot that is read is a parameter or is written on every path to there
    pub all_written : (n k : ℕ) → n < nodes (file_table file) → IsRead (file_table file) n k → SurelyWritten (file_table file) n k
    unfolding fault_at
    all_written n k h s = ⊎_elim
        (λ c. let r = node_row (file_table file) + n in
        (call_iff (file_table file) sound_formed n h).0 (row_fine (reads_unwritten (file_table file)) (line_count file) r (omega (arith, total_fine (clear Total))) (clear Unwritten (suc r))) k c)
        (λ b. let (i, l, z) = b in
        let r = row_of (file_table file) n i in
        (branch_iff (file_table file) sound_formed n i h l).0
        (row_fine (reads_unwritten (file_table file)) (line_count file) r (omega (arith, total_fine (clear Total), branch_below (file_table file) sound_formed n i h l)) (clear Unwritten (suc r))) k z) s

-- load answers with the lowest ground on which the text that a file stands for is refused, and its first line, whatever the table's buffer holds
pub answer_iff : (file t : List ℕ) (g : Ground) (l : ℕ) → ((loaded file t).answer ≡ Err (LoadRefusal.FileRefused g l)) ↔ LowestOf (Refused (procedure_text file)) g l
unfolding loaded
answer_iff file t g l =
    let text = procedure_text file in
    let r = refused_iff text g l in
    let a = refused_answer_lem text (verdict text) t g l in (λ e. r.0 (a.0 e), λ w. a.1 (r.1 w))
