-- Grounds 1 to 3: each test finds just what the ground says, where the tests before it have found nothing. Assumes nothing.
use Rattle.std.specs.Prelude.{ℕ, zero, suc, ◌+◌, ◌*◌, ◌%◌, ◌≤◌, ◌<◌, ◌≡◌, ◌⊎◌, ◌↔◌, ◌≢◌, Bool, not, ◌&&◌, List, ltb, leb, ℤ, nat_abs, ◌+ℤ◌, length, get_or}
use native.Mathlib.Omega.{arith}
use Rattle.std.proofs.Math.Path.{refl, sym, ap}
use Rattle.std.proofs.Common.{◌∙◌}
use Rattle.std.proofs.Math.Logic.{inl, inr, ⊎_elim}
use Rattle.std.proofs.Math.Bool.{true, false}
use Rattle.std.proofs.Math.Dec.{eqb}
use Rattle.std.proofs.Math.IntN.{pos}
use Rattle.std.specs.Int.Signed.{≤ℤ_refl}
use mir.Syntax.{w16}
use mir.Val.{to_z}
use borrow.Author.Tests.{leb-false, le-leb, eqb-true, eqb-false, eq-eqb, not-true, not-false}
use Rattle.numbers.specs.Rows.{at}
use Rattle.numbers.specs.Search.{every}
use Rattle.numbers.specs.Search.Laws.{case_b, contra, every_elim, every_intro, get_d_tabulate}
use Rattle.numbers.specs.Tests.{and_left, and_right, parts}
use Rattle.text.specs.Text.{field_of, text}
use Rattle.text.specs.Text.Laws.{reads_value, wrong_reads, text_reads, text_injective}
use Rattle.table.specs.Fields as Field
use Rattle.table.specs.Table.{Table, max_rows, row_numbers, max_types, max_definitions, max_slots, max_nodes, max_branches, max_ports, types, definitions, slots, nodes, branches, ports, line_total, definition_row, slot_row, node_row, branch_row}
use Rattle.table.specs.Layout.{blocks, lines, size, branch_count}
use Rattle.table.specs.Form.{within, header_in_range, kind_due, kind_wrong, sum_agrees, sums_agree}
use Rattle.table.specs.Form.Laws.{within_least, within_most, header_counts}
use Rattle.table.specs.declared.Part.{Part}
use Rattle.table.specs.declared.Part.TheVariants.{Slots, Nodes, Branches}
use Rattle.file.specs.File.{is_value, line_count, not_lines, field_is_number, well_formed, malformed, file_table, number_at}
use Rattle.loader_laws.specs.PrintedFile.{lines_lined, field_read, row_read}
use Rattle.loader_laws.specs.Sums.{sum_z, sum_iff}
use Rattle.loader_laws.specs.Yields.{Shaped}
use Rattle.loader_laws.specs.Refused.{Within, from, unused, any_number, printed, number, NotLines, Malformed, header_limits, HeaderWrong, TotalWrong, KindWrong, SumsWrong}
use Rattle.loader_laws.specs.Refused.Numbers.{low_number, pattern, in_field, between_iff, from_iff, within_or, not_all, text_printed}

-- a test and what it says
abbrev pub Says : Bool → Type 0 → Type 0
Says t A = (t ≡ true) ↔ A

-- of a test that is negated: it fails just where A does not hold
pub says_not : (t : Bool) (A : Type 0) → Says t A → Says (not t) (¬ A)
says_not t A s = (
  λ e a. contra (s.1 a) (not-true t e),
  λ f. case_b t (λ y. absurd (f (s.0 y))) (λ y. rw y),
)

pub says_and : (s t : Bool) (A B : Type 0) → Says s A → (A → Says t B) → Says (s && t) (A × B)
says_and s t A B a b = (
  λ e. let x = a.0 (and_left _ _ e) in (x, (b x).0 (and_right s _ e)),
  λ w. rw (a.1 w.0, (b w.0).1 w.1),
)

-- of a test of n things that is negated: it fails just where one of them is not so
pub says_some : (t : Bool) (n : ℕ) (P : ℕ → Type 0) → ((k : ℕ) → P k ⊎ (¬ P k)) → Says t ((k : ℕ) → k < n → P k) → Says (not t) ((k : ℕ) × (k < n) × (¬ P k))
says_some t n P d s = (
  λ e. not_all P d n (λ a. contra (s.1 a) (not-true t e)),
  λ w. let (k, h, f) = w in case_b t (λ y. absurd (f (s.0 y k h))) (λ y. rw y),
)

pub within_says : (v lo hi : ℕ) → hi < 32768 → Says (within lo hi v) (Within (from lo hi) (to_z w16 v))
unfolding within
within_says v lo hi f = let b = from_iff v lo hi f in (
  λ e. b.1 (within_least lo hi v e, within_most lo hi v e),
  λ w. let (l, m) = b.0 w in rw (le-leb lo v l, le-leb v hi m),
)

-- ---- grounds 1 and 2

module _ (file : List ℕ) where
  pub lines_says : Says (not_lines file) (NotLines file)
  unfolding not_lines
  lines_says = (
    λ e. let f = not-true _ e in
        case_b (eqb (length file % 73) 0)
        (λ y. let z = eqb-true (length file % 73) 0 y in
        case_b (leb 1 (line_count file))
        (λ x. case_b (leb (line_count file) max_rows)
        (λ w. contra (let q : (leb 1 (line_count file) && (leb (line_count file) max_rows && eqb (length file % 73) 0)) ≡ true = rw (x, w, y) in q) f)
        (λ w. inr (inr (omega (arith, leb-false (line_count file) max_rows w)))))
        (λ x. inl (omega (arith, leb-false 1 (line_count file) x))))
        (λ y. inr (inl (λ s. let (n, q) = s in eqb-false (length file % 73) 0 y (omega arith)))),
    λ w. case_b (not_lines file) (λ y. y) (λ y. let l = lines_lined file y in
        absurd (⊎_elim (λ e. omega (arith, l.whole, l.some)) (λ s. ⊎_elim (λ f. f (line_count file, l.whole)) (λ h. omega (arith, l.whole, l.few)) s) w)),
  )

  -- a field is not read as a number just when it is the print of none
  wrong_iff : (r k : ℕ) → (field_is_number file r k ≡ false) ↔ ((z : ℤ) → Within any_number z → field_of file r k ≢ printed z)
  unfolding field_is_number is_value
  wrong_iff r k = (
    λ e z w q. let (v, h, n) = pattern z w in
        let p : field_of file r k ≡ text v = q ∙ ap printed (sym n) ∙ sym (text_printed v h) in
        let t = text_reads (field_of file r k) v h p in contra refl (rw t at e),
    λ f. let t = wrong_reads (field_of file r k) (λ v h p. f (to_z w16 v) (in_field v h) (p ∙ text_printed v h)) in rw t,
  )

  pub field_says : (r : ℕ) → Says (malformed file r) (Malformed file r)
  unfolding malformed well_formed
  field_says r = (
    λ e. case_b (every (field_is_number file r) row_numbers)
        (λ y. let q : (every (field_is_number file r) row_numbers && eqb (get_or file (r * 73 + 72) 0) 10) ≡ false = not-true _ e in
        inr (eqb-false (get_or file (r * 73 + 72) 0) 10 (rw y at q)))
        (λ y. let (k, h, f) = not_all (λ k. field_is_number file r k ≡ true) (λ k. case_b (field_is_number file r k) (λ z. inl z) (λ z. inr (λ w. contra w z))) 12
        (λ a. contra (every_intro (field_is_number file r) 12 a) y) in
        inl (k, h, (wrong_iff r k).0 (case_b (field_is_number file r k) (λ z. absurd (f z)) (λ z. z)))),
    λ w. case_b (malformed file r) (λ y. y) (λ y. let q = not-false _ y in
        absurd (⊎_elim (λ s. let (k, h, f) = s in
        contra (every_elim (field_is_number file r) 12 k (and_left _ _ q) h) ((wrong_iff r k).1 f))
        (λ n. n (eqb-true (get_or file (r * 73 + 72) 0) 10 (and_right (every (field_is_number file r) 12) _ q))) w)),
  )

-- ---- ground 3

module _ (tb : Table) (s : Shaped tb) where
  pub header_fields : Says (header_in_range tb) ((k : ℕ) → k < 6 → Within (get_or header_limits k unused) (number tb 0 (suc k)))
  unfolding header_in_range
  header_fields = (
    λ e. let w = all.0 e in λ k h. field w k h,
    λ f. all.1 (f 0 (omega arith), (f 1 (omega arith), (f 2 (omega arith), (f 3 (omega arith), (f 4 (omega arith), f 5 (omega arith)))))),
  )
    where
      Six : Type 0
      Six =
          Within (from 0 max_types) (number tb 0 Field.types)
          × (Within (from 1 max_definitions) (number tb 0 Field.definitions)
          × (Within (from 0 max_slots) (number tb 0 Field.slots)
          × (Within (from 1 max_nodes) (number tb 0 Field.nodes)
          × (Within (from 0 max_branches) (number tb 0 Field.branches) × Within (from 0 max_ports) (number tb 0 Field.ports)))))

      all : Says (header_in_range tb) Six
      all =
          says_and _ _ _ _ (within_says (types tb) 0 max_types (omega arith)) (λ _. says_and _ _ _ _ (within_says (definitions tb) 1 max_definitions (omega arith)) (λ _.
          says_and _ _ _ _ (within_says (slots tb) 0 max_slots (omega arith)) (λ _. says_and _ _ _ _ (within_says (nodes tb) 1 max_nodes (omega arith)) (λ _.
          says_and _ _ _ _ (within_says (branches tb) 0 max_branches (omega arith)) (λ _. within_says (ports tb) 0 max_ports (omega arith))))))

      field : Six → (k : ℕ) → k < 6 → Within (get_or header_limits k unused) (number tb 0 (suc k))
      field w zero h = w.0
      field w (suc zero) h = w.1.0
      field w (suc (suc zero)) h = w.1.1.0
      field w (suc (suc (suc zero))) h = w.1.1.1.0
      field w (suc (suc (suc (suc zero)))) h = w.1.1.1.1.0
      field w (suc (suc (suc (suc (suc zero))))) h = w.1.1.1.1.1
      field w (suc (suc (suc (suc (suc (suc k)))))) h = absurd (let z : ⊥ = omega arith in z)

  pub header_says : Says (not (header_in_range tb)) (HeaderWrong tb)
  header_says = says_some (header_in_range tb) 6 (λ k. Within (get_or header_limits k unused) (number tb 0 (suc k))) (λ k. within_or _ _) header_fields

  module _ (e : header_in_range tb ≡ true) where
    header_sum : pos 1 +ℤ sum_z (λ k. number tb 0 (suc k)) 5 ≡ pos (line_total tb)
    unfolding sum_z
    header_sum = let c = header_counts tb e in
        rw (low_number (types tb) (omega arith), low_number (definitions tb) (omega arith), low_number (slots tb) (omega arith), low_number (nodes tb) (omega arith), low_number (branches tb) (omega arith))
        (ap pos (omega arith))

    pub total_says : (n : ℕ) → Says (not (eqb n (line_total tb))) (TotalWrong tb n)
    total_says n = says_not (eqb n (line_total tb)) (pos n ≡ pos 1 +ℤ sum_z (λ k. number tb 0 (suc k)) 5) (
      λ y. ap pos (eqb-true n (line_total tb) y) ∙ sym header_sum,
      λ q. eq-eqb n (line_total tb) (ap nat_abs (q ∙ header_sum)),
    )

    size_few : (p : Part) (i : ℕ) → i < blocks tb p → size tb p i < 65536
    unfolding blocks size branch_count
    size_few Slots i h = let c = header_counts tb e in s.small (definition_row tb + i) 2 (omega arith) (omega arith)
    size_few Nodes i h = let c = header_counts tb e in s.small (definition_row tb + i) 3 (omega arith) (omega arith)
    size_few Branches i h = let c = header_counts tb e in
        case_b (eqb (at tb (node_row tb + i) Field.node_kind) 1) (λ y. rw y (s.small (node_row tb + i) 2 (omega arith) (omega arith))) (λ y. rw y (omega arith))

    pub sums_says : Says (not (sums_agree tb)) (SumsWrong tb)
    unfolding sums_agree
    sums_says = (
      λ y. let f = not-true _ y in
          case_b (sum_agrees tb Slots)
          (λ a. case_b (sum_agrees tb Nodes)
          (λ b. case_b (sum_agrees tb Branches)
          (λ c. contra (let q : sums_agree tb ≡ true = rw (a, b, c) in q) f)
          (λ c. (Branches, wrong Branches c))) (λ b. (Nodes, wrong Nodes b))) (λ a. (Slots, wrong Slots a)),
      λ w. let (p, f) = w in case_b (sums_agree tb) (λ y. absurd (f ((sum_iff tb p (size_few p)).0 (one y p)))) (λ y. rw y),
    )
      where
        wrong : (p : Part) → sum_agrees tb p ≡ false → sum_z (λ i. to_z w16 (size tb p i)) (blocks tb p) ≢ pos (lines tb p)
        wrong p y q = contra ((sum_iff tb p (size_few p)).1 q) y

        one : sums_agree tb ≡ true → (p : Part) → sum_agrees tb p ≡ true
        one y Slots = search parts
        one y Nodes = search parts
        one y Branches = search parts

-- a number that is not negative, by its pattern
pub number_iff : (v d : ℕ) → d < 32768 → (to_z w16 v ≡ pos d) ↔ (v ≡ d)
number_iff v d h = (
  λ e. let (l, m) = (between_iff v d d h).0 (rw e (≤ℤ_refl (pos d), ≤ℤ_refl (pos d))) in omega arith,
  λ e. rw e (low_number d h),
)

module _ (tb : Table) (r : ℕ) where
  pub due_few : (1 ≤ kind_due tb r) × (kind_due tb r ≤ 6)
  unfolding kind_due
  due_few =
      case_b (ltb r 1) (λ y. rw y (omega arith, omega arith))
      (λ y. case_b (ltb r (definition_row tb)) (λ z. rw (y, z) (omega arith, omega arith))
      (λ z. case_b (ltb r (slot_row tb)) (λ x. rw (y, z, x) (omega arith, omega arith))
      (λ x. case_b (ltb r (node_row tb)) (λ w. rw (y, z, x, w) (omega arith, omega arith))
      (λ w. case_b (ltb r (branch_row tb)) (λ v. rw (y, z, x, w, v) (omega arith, omega arith)) (λ v. rw (y, z, x, w, v) (omega arith, omega arith))))))

  pub kind_says : Says (kind_wrong tb r) (KindWrong tb r)
  unfolding kind_wrong
  kind_says =
      let b = number_iff (at tb r Field.kind) (kind_due tb r) (omega (arith, due_few.1)) in
      says_not (eqb (at tb r Field.kind) (kind_due tb r)) (number tb r Field.kind ≡ pos (kind_due tb r))
      (λ y. b.1 (eqb-true (at tb r Field.kind) (kind_due tb r) y), λ q. eq-eqb (at tb r Field.kind) (kind_due tb r) (b.0 q))

-- ---- the fields of a file that ground 2 does not refuse

-- a field is the print of the number that the table has for it, and of no other
pub field_number : (file : List ℕ) (r k : ℕ) (z : ℤ) → r < line_count file → r < max_rows → malformed file r ≡ false → k < 12 → Within any_number z
    → (field_of file r k ≡ printed z) ↔ (number (file_table file) r k ≡ z)
field_number file r k z h l e m w =
    let v = number_at file r k in
    let (f, q) = reads_value (field_of file r k) v (field_read file r k e m) in
    let n : number (file_table file) r k ≡ to_z w16 v = rw (row_read file r h l, get_d_tabulate row_numbers k (number_at file r) 0 m) in (
      λ p. let (u, g, o) = pattern z w in
          n ∙ ap (to_z w16) (text_injective v u f g (sym q ∙ p ∙ ap printed (sym o) ∙ sym (text_printed u g))) ∙ o,
      λ p. q ∙ text_printed v f ∙ ap printed (sym n ∙ p),
    )
