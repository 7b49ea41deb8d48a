-- The ways out of the judgement of a table. Assumes nothing.
use Rattle.loader.specs.Answers.{Verdict}
use Rattle.std.specs.Prelude.{ℕ, ◌+◌, ◌*◌, ◌≤◌, ◌<◌, ◌≡◌, refl, Bool, true, false, not, List, leb, length, Err, Ok}
use Rattle.std.proofs.Common.{arith, ◌∙◌}
use Rattle.std.proofs.Math.Numerals.{add-one}
use Rattle.std.proofs.Math.Path.{sym}
use borrow.Author.Tests.{lt-ltb, le-ltb, leb-true, eq-eqb, ne_eqb, not-true, not-false}
use Rattle.numbers.specs.Bytes.{shorts}
use Rattle.numbers.specs.Laid.{laid}
use Rattle.numbers.specs.Search.{every, first}
use Rattle.numbers.specs.Search.Laws.{case_b, contra, first_le}
use Rattle.numbers.specs.Tests.{clash, and_left, and_right}
use Rattle.table.specs.Table.{Table, max_rows, row_numbers, table_numbers, table_length, table_of, line_total}
use Rattle.table.specs.Form.{header_in_range, kind_wrong, sums_agree}
use Rattle.table.specs.Form.Laws.{header_counts}
use Rattle.table.specs.Index.{Indexed, index_of}
use Rattle.table.specs.Index.Laws.{long_whole}
use Rattle.flow.specs.Flow.{flow}
use Rattle.flow.specs.Gaps.{gaps_of}
use Rattle.file.specs.File.{line_count, not_lines, malformed, file_table, number_in}
use Rattle.file.specs.File.Laws.{rows_file}
use Rattle.loader.specs.Verdict.{at_fault, judged_rows, judged, verdict, is_sound, rest_zero, acceptable}
use Rattle.loader.specs.Load.{accepted}
use Rattle.loader.specs.declared.Ground.{Ground}
use Rattle.loader.specs.declared.Ground.TheVariants.{Lines, Field, Header, Total, Kind, Sums}

-- r is the first of n lines at fault
module _ (p : ℕ → Bool) (n r : ℕ) (e : r ≡ first p n) where
  pub at_fault_lem : (g : Ground) (v : Verdict) → r < n → Err (g, r + 1) ≡ at_fault g p n v
  unfolding at_fault
  at_fault_lem g v h = rw (← e, lt-ltb r n h, add-one r)

  pub no_fault : (g : Ground) (v w : Verdict) → n ≤ r → w ≡ v → w ≡ at_fault g p n v
  unfolding at_fault
  no_fault g v w h f = rw (← e, le-ltb r n h) f

pub ruleset faults = (at_fault_lem, no_fault)

-- a verdict that names a fault is not the one that finds none
pub no_sound {ℓ} : {A : Type ℓ} (g : Ground) (l : ℕ) → ◌≡◌ {A = Verdict} (Err (g, l)) (Ok tt) → A
no_sound g l e = clash cc

pub is_sound_lem : (v : Verdict) → is_sound v ≡ true → v ≡ Ok tt
unfolding is_sound
is_sound_lem (Ok tt) e = refl
is_sound_lem (Err (g, l)) e = contra e refl

-- ---- ground 3

module _ (tb : Table) (h : Bool) (e : h ≡ header_in_range tb) where
  pub header_good : not h ≡ false → header_in_range tb ≡ true
  header_good f = sym e ∙ not-false h f

  module _ (n : ℕ) where
    pub judge_header : not h ≡ true → Err (Header, 1) ≡ judged tb n
    unfolding judged
    judge_header f = rw (← e, not-true h f)

    module _ (f : not h ≡ false) (t : ℕ) (a : t ≡ line_total tb) where
      pub judge_total : (n ≡ t → ⊥) → Err (Total, 1) ≡ judged tb n
      unfolding judged
      judge_total d = rw (header_good f, ne_eqb n (line_total tb) (λ q. d (q ∙ sym a)))

      module _ (b : n ≡ t) (k : ℕ) (c : k ≡ first (kind_wrong tb) n) where
        pub judge_kind : k < n → Err (Kind, k + 1) ≡ judged tb n
        unfolding judged
        judge_kind d = rw (header_good f, eq-eqb n (line_total tb) (b ∙ a)) (at_fault_lem (kind_wrong tb) n k c Kind _ d)

        module _ (d : n ≤ k) (s : Bool) (g : s ≡ sums_agree tb) where
          pub judge_sums : not s ≡ true → Err (Sums, 1) ≡ judged tb n
          unfolding judged
          judge_sums i = rw (header_good f, eq-eqb n (line_total tb) (b ∙ a))
              (no_fault (kind_wrong tb) n k c Kind _ (Err (Sums, 1)) d (rw (← g, not-true s i)))

          pub judge_rest : (v : Verdict) → not s ≡ false → v ≡ judged_rows tb n → v ≡ judged tb n
          unfolding judged
          judge_rest v i j = rw (header_good f, eq-eqb n (line_total tb) (b ∙ a))
              (no_fault (kind_wrong tb) n k c Kind _ v d (rw (← g, not-false s i) j))

pub ruleset judgements = (judge_header, judge_total, judge_kind, judge_sums, judge_rest)

-- ---- a file

module _ (file : List ℕ) (q : Bool) (e : q ≡ not_lines file) where
  pub file_lines_lem : q ≡ true → Err (Lines, 0) ≡ verdict file
  unfolding verdict
  file_lines_lem h = rw (← e, h)

  pub few_lines : q ≡ false → line_count file ≤ max_rows
  unfolding not_lines
  few_lines h = leb-true (line_count file) max_rows (and_left _ _ (and_right (leb 1 (line_count file)) _ (not-false _ (sym e ∙ h))))

  module _ (h : q ≡ false) (r : ℕ) (a : r ≡ first (malformed file) (line_count file)) where
    pub file_field : r < line_count file → Err (Field, r + 1) ≡ verdict file
    unfolding verdict
    file_field d = rw (← e, h) (at_fault_lem (malformed file) (line_count file) r a Field _ d)

    module _ (d : line_count file ≤ r) (b : List ℕ) (f : r ≡ line_count file → shorts b ≡ laid (number_in file) (line_count file * row_numbers) table_numbers) where
      pub file_read : table_of b ≡ file_table file
      file_read =
          let x : r ≡ line_count file = omega (arith, first_le (malformed file) (line_count file)) in
          rw (f x) (rows_file file (few_lines h))

      pub file_judged : (v : Verdict) → v ≡ judged (table_of b) (line_count file) → v ≡ verdict file
      unfolding verdict
      file_judged v g = rw (← e, h) (no_fault (malformed file) (line_count file) r a Field _ v d (rw (← file_read) g))

-- ---- ground 9

module _ (tb : Table) where
  pub judged_header : (n : ℕ) → judged tb n ≡ Ok tt → header_in_range tb ≡ true
  unfolding judged
  judged_header n e = case_b (header_in_range tb) (λ t. t) (λ f. no_sound Header 1 (rw f at e))

  pub lines_few : header_in_range tb ≡ true → line_total tb ≤ max_rows
  lines_few e = let c = header_counts tb e in omega arith

  pub sound_few : (n : ℕ) (v : Verdict) → n ≡ line_total tb → v ≡ judged tb n → v ≡ Ok tt → n ≤ max_rows
  sound_few n v a e f = rw a (lines_few (judged_header n (sym e ∙ f)))

  pub acceptable_few : acceptable tb ≡ true → line_total tb ≤ max_rows
  unfolding acceptable
  acceptable_few e = lines_few (judged_header (line_total tb) (is_sound_lem (judged tb (line_total tb)) (and_left _ _ e)))

  pub sound_indexed : (l : List ℕ) (v : Verdict) → (v ≡ Ok tt → Indexed tb l) → v ≡ Ok tt → Indexed tb l
  sound_indexed l v f e = f e

  pub sound_gaps : (l : List ℕ) (v : Verdict) → (v ≡ Ok tt → gaps_of l ≡ flow tb) → v ≡ Ok tt → gaps_of l ≡ flow tb
  sound_gaps l v f e = f e

-- the index of a table in a buffer of the right length
pub indexed_is : (b l : List ℕ) (h : Bool) → h ≡ header_in_range (table_of b) → not h ≡ false → l ≡ index_of (table_of b) → length b ≡ table_length
    → Indexed (table_of b) l
indexed_is b l h e f g k = record { counts = header_good (table_of b) h e f; entries = g; whole = long_whole b k }

module _ (b : List ℕ) where
  pub accept_length : (length b ≡ table_length → ⊥) → false ≡ accepted b
  unfolding accepted
  accept_length h = rw (ne_eqb (length b) table_length h)

  module _ (h : length b ≡ table_length) (n : ℕ) (v : Verdict) (a : n ≡ line_total (table_of b)) (e : v ≡ judged (table_of b) n) where
    pub accept_fault : (g : Ground) (l : ℕ) → v ≡ Err (g, l) → false ≡ accepted b
    unfolding accepted acceptable is_sound
    accept_fault g l f = rw (eq-eqb (length b) table_length h, ← a, ← e, f)

    pub accept_rest : (z : Bool) → v ≡ Ok tt → z ≡ every (rest_zero (table_of b)) max_rows → z ≡ accepted b
    unfolding accepted acceptable is_sound
    accept_rest z f g = rw (eq-eqb (length b) table_length h, ← a, ← e, f) g
