-- Document 02's S-4 in whole numbers: a guard counts as true just where the file's guard is true and the branch has no sum or difference that is out of
-- range. And its comparison: where all sums of a choice fit, guards and values are those of the papers; of steps: `proofs/Compared.antt`. Assumes
-- nothing but that the table is accepted.
use Rattle.std.specs.Prelude.{ℕ, ◌-◌, ◌%◌, ◌≤◌, ◌<◌, ◌≡◌, ◌⊎◌, ◌↔◌, true, false, cond, List, leb, eqb, ℤ, pos, negsuc, ◌+ℤ◌, ◌-ℤ◌, get_or, Some}
use Rattle.std.proofs.Common.{arith, sym, ◌∙◌, ap, inl, inr, to_z}
use Rattle.std.proofs.Math.Path.{refl}
use Rattle.std.specs.Int.Signed.{lt_z}
use Rattle.std.specs.Int.{w32}
use borrow.Author.Tests.{lt-ltb, lt-leb, leb-true, leb-false, ltb-true, eqb-true, eqb-false}
use Rattle.numbers.specs.Rows.{at}
use Rattle.numbers.specs.Search.Laws.{case_b, contra}
use Rattle.numbers.specs.Signed.{in_range, narrowed, is_exact, widened}
use Rattle.numbers.specs.Signed.Laws.{to_z_high}
use Rattle.numbers.specs.Tests.{clash, parts, and_left, and_right, and_true}
use Rattle.table.specs.Fields as Field
use Rattle.table.specs.Form.Laws.{within_most}
use Rattle.table.specs.Table.{Table, nodes, table_of}
use Rattle.table.specs.Layout.{branch_count}
use Rattle.ranges.specs.Ranges.{branch_in_range}
use Rattle.state.specs.State.{stands_at, slot_of, in_use}
use Rattle.loader.specs.Load.{accepted}
use Rattle.loader_laws.specs.Grounds.{own_branch_in_range}
use Rattle.rules.specs.Program.{checked_sum, checked_difference, fitting, branch_at, field_b, field_c, act_of, printed_guard, assigned, guard_holds}
use Rattle.rules.specs.declared.Act.{Act}
use Rattle.rules.specs.declared.Act.TheVariants.{Tau, Meeting, New, Spawn, Assignment}
use Rattle.rules_laws.specs.Passed.{Passed, accepted_passed}
use Rattle.rules_laws.specs.Codes.{assigns_by}
use Rattle.rules_laws.specs.Accepted.{granted}
use Rattle.rules_laws.specs.Soundness.{RowSound}
use Rattle.published.specs.Agents as Agents
use Rattle.published_laws.specs.Readable.{readable}
use Rattle.published_laws.specs.Standing.{printed_guard_of, guard_of, env_of}
use Rattle.published_laws.specs.Environments.{printed_same, guard_same}

-- ---- numbers that a slot cannot have

-- z is below -2147483648 or above 2147483647
abbrev pub OutOfRange : ℤ → Type 0
OutOfRange z = (lt_z z (negsuc 2147483647) ≡ true) ⊎ (lt_z (pos 2147483647) z ≡ true)

-- the test is false of a number that is out of range, and true of one that is not
out_not_in : (z : ℤ) → OutOfRange z → in_range z ≡ false
unfolding in_range
out_not_in (pos n) (inl e) = clash cc
out_not_in (pos n) (inr e) = lt-leb n 2147483647 (ltb-true 2147483647 n e)
out_not_in (negsuc n) (inl e) = rw (lt-leb n 2147483647 (ltb-true 2147483647 n e))
out_not_in (negsuc n) (inr e) = clash cc

not_out_in : (z : ℤ) → (OutOfRange z → ⊥) → in_range z ≡ true
unfolding in_range
not_out_in (pos n) h = case_b (leb n 2147483647) (λ y. y) (λ y. absurd (h (inr (lt-ltb 2147483647 n (leb-false n 2147483647 y)))))
not_out_in (negsuc n) h = case_b (leb n 2147483647) (λ y. rw y) (λ y. absurd (h (inl (lt-ltb 2147483647 n (leb-false n 2147483647 y)))))

-- ---- document 01's sums, as they were before this request: taken modulo 4294967296 back into range

-- what z leaves modulo 4294967296, counted from 0
unfoldable pub residue : ℤ → ℕ
residue (pos n) = n % 4294967296
residue (negsuc n) = 4294967295 - n % 4294967296

-- the number from -2147483648 to 2147483647 that differs from z by a multiple of 4294967296
unfoldable pub wrapped : ℤ → ℤ
wrapped z = to_z w32 (residue z)

-- a number in range is left as it is
wrapped_in : (z : ℤ) → in_range z ≡ true → wrapped z ≡ z
unfolding in_range residue wrapped
wrapped_in (pos n) e =
    let l = leb-true n 2147483647 e in
    let m : n % 4294967296 ≡ n = omega arith in
    rw (m, lt-ltb n 2147483648 (omega arith))
wrapped_in (negsuc n) e =
    let l = leb-true n 2147483647 (and_left (leb n 2147483647) true e) in
    let m : n % 4294967296 ≡ n = omega arith in
    rw m (to_z_high (4294967295 - n) (omega arith) (omega arith) ∙ ap negsuc (omega arith))

-- ---- which branches are passed over for their number

module _ (tb : Table) (r : ℕ) (row : List ℕ) where
  -- the whole numbers that are added or subtracted
  abbrev left : ℤ
  left = to_z w32 (slot_of row (field_b tb r))

  abbrev right : ℤ
  right = to_z w32 (slot_of row (field_c tb r))

  -- the branch is a sum, action 6, or a difference, action 7, and it is out of range
  abbrev pub TooFar : Type 0
  TooFar =
      ((at tb r Field.action ≡ 6) × OutOfRange (to_z w32 (slot_of row (field_b tb r)) +ℤ to_z w32 (slot_of row (field_c tb r))))
      ⊎ ((at tb r Field.action ≡ 7) × OutOfRange (to_z w32 (slot_of row (field_b tb r)) -ℤ to_z w32 (slot_of row (field_c tb r))))

  -- what document 01 has the branch assign
  unfoldable pub wrapped_value : ℤ
  wrapped_value =
      cond (eqb (at tb r Field.action) 5) (to_z w32 (widened (field_b tb r)))
      (cond (eqb (at tb r Field.action) 6) (wrapped (to_z w32 (slot_of row (field_b tb r)) +ℤ to_z w32 (slot_of row (field_c tb r))))
      (wrapped (to_z w32 (slot_of row (field_b tb r)) -ℤ to_z w32 (slot_of row (field_c tb r)))))

  far_unfit : TooFar → fitting (act_of tb r) (assigned tb r row) ≡ false
  unfolding fitting act_of assigned checked_sum checked_difference narrowed is_exact
  far_unfit (inl (e, o)) = rw (e, out_not_in (left +ℤ right) o)
  far_unfit (inr (e, o)) = rw (e, out_not_in (left -ℤ right) o)

  module _ (known : at tb r Field.action ≤ 7) (near : TooFar → ⊥) where
    -- an assignment comes to what document 01 has: a constant, or a sum or a difference that is in range
    near_wrapped : act_of tb r ≡ Assignment → assigned tb r row ≡ Some wrapped_value
    unfolding assigned checked_sum checked_difference narrowed wrapped_value
    near_wrapped a =
        let code = at tb r Field.action in
        case_b (eqb code 5) (λ e. rw e)
        (λ e. case_b (eqb code 6)
        (λ f. let q = not_out_in (left +ℤ right) (λ o. near (inl (eqb-true code 6 f, o))) in rw (e, f, q, wrapped_in (left +ℤ right) q))
        (λ f. let seven : code ≡ 7 = omega (arith, assigns_by tb r a, known, eqb-false code 5 e, eqb-false code 6 f) in
        let q = not_out_in (left -ℤ right) (λ o. near (inr (seven, o))) in rw (e, f, q, wrapped_in (left -ℤ right) q)))

    near_by : (a : Act) → act_of tb r ≡ a → fitting a (assigned tb r row) ≡ true
    unfolding fitting is_exact
    near_by Tau e = refl
    near_by (Meeting d) e = refl
    near_by New e = refl
    near_by Spawn e = refl
    near_by Assignment e = rw (near_wrapped e)

    near_fitting : fitting (act_of tb r) (assigned tb r row) ≡ true
    near_fitting = near_by (act_of tb r) refl

  -- a guard counts as true just where the file's is true and no number is too far
  guard_iff : at tb r Field.action ≤ 7 → (guard_holds tb r row ≡ true) ↔ ((printed_guard tb r row ≡ true) × (TooFar → ⊥))
  unfolding guard_holds
  guard_iff known = (
    λ e. (
      and_left (printed_guard tb r row) (fitting (act_of tb r) (assigned tb r row)) e,
      λ o. contra (and_right (printed_guard tb r row) (fitting (act_of tb r) (assigned tb r row)) e) (far_unfit o),
    ),
    λ (p, near). rw (p, near_fitting known near),
  )

-- ---- of the branches of an accepted table

-- document 01's actions are 0 to 7
action_known : (tb : Table) → Passed tb → (n i : ℕ) → n < nodes tb → i < branch_count tb n → at tb (branch_at tb n i) Field.action ≤ 7
unfolding branch_in_range branch_at
action_known tb a n i h l =
    let p = own_branch_in_range tb a.formed n i h l in
    within_most 0 7 (at tb (branch_at tb n i) Field.action) (search parts depth 4)

module _ (table : List ℕ) (ok : accepted table ≡ true) (fit : (i : ℕ) → get_or table i 0 < 256) (row : List ℕ) (h : stands_at row < nodes (table_of table)) where
  abbrev tb : Table
  tb = table_of table

  -- the row of branch i
  abbrev b : ℕ → ℕ
  b i = branch_at (table_of table) (stands_at row) i

  known : (i : ℕ) → i < branch_count tb (stands_at row) → at tb (b i) Field.action ≤ 7
  known i l = action_known tb (accepted_passed table ok fit) (stands_at row) i h l

  -- the request: a sum or difference that does not fit makes its branch count as one with a false guard, and nothing else does
  pub counts_iff : (i : ℕ) → i < branch_count (table_of table) (stands_at row)
      → (guard_holds (table_of table) (branch_at (table_of table) (stands_at row) i) row ≡ true)
      ↔ ((printed_guard (table_of table) (branch_at (table_of table) (stands_at row) i) row ≡ true)
      × (TooFar (table_of table) (branch_at (table_of table) (stands_at row) i) row → ⊥))
  counts_iff i l = guard_iff tb (b i) row (known i l)

  -- ---- where all sums of a choice fit

  -- none of the branches of the node is too far
  abbrev pub AllFit : Type 0
  AllFit = (i : ℕ) → i < branch_count (table_of table) (stands_at row) → TooFar (table_of table) (branch_at (table_of table) (stands_at row) i) row → ⊥

  module _ (all : AllFit) (i : ℕ) (l : i < branch_count (table_of table) (stands_at row)) where
    -- a guard counts as what the file has
    pub guard_printed : guard_holds (table_of table) (branch_at (table_of table) (stands_at row) i) row
        ≡ printed_guard (table_of table) (branch_at (table_of table) (stands_at row) i) row
    unfolding guard_holds
    guard_printed = rw (near_fitting tb (b i) row (known i l) (all i l)) (sym (and_true (printed_guard tb (b i) row)))

    -- so it does for 002's rules, in the environment of a thread that the engine has
    pub guard_published : (ty : ℕ → ℕ) → RowSound (table_of table) ty row → in_use row ≡ true
        → Agents.holds (env_of (table_of table) row) (guard_of (table_of table) (branch_at (table_of table) (stands_at row) i))
        ≡ Agents.holds (env_of (table_of table) row) (printed_guard_of (table_of table) (branch_at (table_of table) (stands_at row) i))
    guard_published ty r u =
        let g = granted table ok fit in
        let rd = readable table ok fit in
        guard_same tb g rd ty row r u i l ∙ guard_printed ∙ sym (printed_same tb g rd ty row r u i l)

    -- an assignment comes to what document 01 says
    pub value_wrapped : act_of (table_of table) (branch_at (table_of table) (stands_at row) i) ≡ Assignment
        → assigned (table_of table) (branch_at (table_of table) (stands_at row) i) row
        ≡ Some (wrapped_value (table_of table) (branch_at (table_of table) (stands_at row) i) row)
    value_wrapped a = near_wrapped tb (b i) row (known i l) (all i l) a
