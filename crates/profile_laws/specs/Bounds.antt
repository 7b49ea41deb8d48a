-- Laws on the thread bounds of an accepted table whose calls are allowed: the equations settle them, each is at least 1, and none rises along a branch.
-- Nodes are counted over the whole file. Assumes nothing.
use Prim.Native.Nat.{ℕ, zero, suc, ◌+◌, ◌≤◌, ◌<◌}
use native.Mathlib.Omega.{arith}
use Rattle.std.specs.Prelude.{◌≡◌, ◌&&◌, List, ltb, eqb, get_or}
use Rattle.std.proofs.Common.{sym, ◌∙◌}
use Rattle.std.proofs.Math.Bool.{true}
use Rattle.std.proofs.Math.Logic.{⊎_elim}
use borrow.Author.Tests.{ltb-true, ltb-false, eqb-true, eqb-false, eq-eqb}
use Rattle.numbers.specs.Rows.{at}
use Rattle.numbers.specs.Search.Laws.{case_b, first_below}
use Rattle.numbers.specs.Tests.{parts}
use Rattle.table.specs.Fields as Field
use Rattle.table.specs.Table.{Table, max_own_branches, table_of, definitions, nodes, node_row, line_total}
use Rattle.table.specs.Layout.{start, branch_count, definition_of}
use Rattle.table.specs.Form.{within}
use Rattle.table.specs.Form.Laws.{within_least}
use Rattle.table.specs.declared.Part.TheVariants.{Nodes}
use Rattle.ranges.specs.Ranges.{rest_unused, node_in_range}
use Rattle.flow.specs.Flow.{unreachable}
use Rattle.loader.specs.Load.{accepted}
use Rattle.loader_laws.specs.Grounds.{node_in_range_lem, edges}
use Rattle.loader_laws.specs.Paths.{Path, Edge}
use Rattle.loader_laws.specs.Paths.Path.{begin, follow}
use Rattle.loader_laws.specs.Paths.Laws.{path_inside}
use Rattle.loader_laws.specs.Written.{unreachable_iff}
use Rattle.rules.specs.Program.{kind_of, callee, branch_at, next_of, child_of}
use Rattle.rules_laws.specs.Accepted.{granted}
use Rattle.rules_laws.specs.Granted.{Granted}
use Rattle.rules_laws.specs.Passed.{Passed, accepted_passed}
use Rattle.profile.specs.Profile.{largest, is_spawn, calls_allowed, node_bound_by, node_bound, branch_bound, definition_bound}
use Rattle.profile.specs.Equations.{Rising, node_decided, node_bound_is, end_bound, own_call_bound, call_bound, choice_bound, spawn_bound, plain_bound, definition_bound_lem}
use Rattle.profile.specs.Rising.{allowed_cases, rising}

-- a table that loading passes, and whose calls are allowed
pub record Allowed (tb : Table) : Type 0 where
  pub passed : Passed tb
  pub grants : Granted tb
  pub calls : calls_allowed tb ≡ true
  pub rises : Rising tb

pub allowed : (table : List ℕ) → accepted table ≡ true → ((i : ℕ) → get_or table i 0 < 256) → calls_allowed (table_of table) ≡ true → Allowed (table_of table)
allowed table e fit ok =
    let p = accepted_passed table e fit in
    let q = granted table e fit in
    record { passed = p; grants = q; calls = ok; rises = rising (table_of table) p q ok }

-- ---- the largest of some numbers

module _ (f : ℕ → ℕ) where
  -- it is at least each of them, and it is one of them
  pub largest_above : (n i : ℕ) → i < n → f i ≤ largest f n
  unfolding largest
  largest_above zero i l = absurd (omega arith)
  largest_above (suc n) i l = case_b (eqb i n)
      (λ y. let q : i ≡ n = eqb-true i n y in rw q (omega arith))
      (λ y. omega (arith, largest_above n i (omega (arith, eqb-false i n y))))

  pub largest_one : (n : ℕ) → 0 < n → (i : ℕ) × (i < n) × (largest f n ≡ f i)
  unfolding largest
  largest_one zero l = absurd (omega arith)
  largest_one (suc zero) l = (0, omega arith, omega arith)
  largest_one (suc (suc n)) l =
      let m = suc n in
      case_b (ltb (f m) (largest f m))
      (λ y. let (i, k, e) = largest_one (suc n) (omega arith) in (i, omega arith, omega (arith, ltb-true (f m) (largest f m) y)))
      (λ y. (m, omega arith, omega (arith, ltb-false (f m) (largest f m) y)))

-- ---- from the last node downward

-- a property that a node has where all nodes after it have it is one of every node
pub from_last {ℓ} : (tb : Table) (P : ℕ → Type ℓ) → ((n : ℕ) → n < nodes tb → ((m : ℕ) → n < m → m < nodes tb → P m) → P n) → (n : ℕ) → n < nodes tb → P n
from_last tb P step n h = within_nodes (nodes tb) n h (omega arith)
  where
    within_nodes : (k n : ℕ) → n < nodes tb → nodes tb ≤ k + n → P n
    within_nodes zero n h l = absurd (let z : ⊥ = omega arith in z)
    within_nodes (suc k) n h l = step n h (λ m u v. within_nodes k m v (omega arith))

module _ (tb : Table) (g : Rising tb) where
  -- the equations have no other solution
  pub only_bounds : (b : ℕ → ℕ) → ((n : ℕ) → n < nodes tb → b n ≡ node_bound_by tb b n) → (n : ℕ) → n < nodes tb → b n ≡ node_bound tb n
  only_bounds b e = from_last tb (λ n. b n ≡ node_bound tb n)
      (λ n h same. e n h ∙ node_decided tb g b (node_bound tb) n h same ∙ sym (node_bound_is tb g n h))

module _ (tb : Table) (a : Allowed tb) (n : ℕ) (h : n < nodes tb) where
  -- a choice has branches, and only a choice has them
  pub branches_some : kind_of tb n ≡ 1 → 0 < branch_count tb n
  unfolding node_in_range branch_count
  branches_some k =
      let q : (within 1 max_own_branches (at tb (node_row tb + n) Field.own_branches) && rest_unused tb (node_row tb + n) 3) ≡ true =
      rw k at (node_in_range_lem tb a.passed.formed n h) in
      rw k (within_least 1 max_own_branches (at tb (node_row tb + n) Field.own_branches) (search parts))

  -- a call of a later definition has that definition's bound
  pub later_call : kind_of tb n ≡ 2 → definition_of tb n < callee tb n → node_bound tb n ≡ definition_bound tb (callee tb n)
  later_call k l = call_bound tb a.rises n h k (λ e. omega arith)

  -- ---- along a branch

  module _ (i : ℕ) (l : i < branch_count tb n) where
    at_choice : kind_of tb n ≡ 1
    unfolding branch_count
    at_choice = case_b (eqb (kind_of tb n) 1) (λ y. eqb-true (kind_of tb n) 1 y) (λ y. absurd (let z : i < 0 = rw y at l in omega arith))

    branch_below : branch_bound tb n i ≤ node_bound tb n
    branch_below = rw (choice_bound tb a.rises n h at_choice) (largest_above (branch_bound tb n) (branch_count tb n) i l)

    -- the bound of a spawn's next node and that of its child make up no more than the node's
    pub spawn_below : is_spawn tb n i ≡ true → node_bound tb (next_of tb n (branch_at tb n i)) + node_bound tb (child_of tb n (branch_at tb n i)) ≤ node_bound tb n
    spawn_below y = omega (arith, branch_below, spawn_bound tb n i y)

    pub next_below : node_bound tb (next_of tb n (branch_at tb n i)) ≤ node_bound tb n
    next_below = case_b (is_spawn tb n i) (λ y. omega (arith, spawn_below y)) (λ y. omega (arith, branch_below, plain_bound tb n i y))

module _ (tb : Table) (a : Allowed tb) where
  -- every bound is at least 1
  some_if : (n : ℕ) → n < nodes tb → ((m : ℕ) → n < m → m < nodes tb → 1 ≤ node_bound tb m) → 1 ≤ node_bound tb n
  some_if n h some =
      let g = a.rises in
      let k = kind_of tb n in
      case_b (eqb k 1)
      (λ y. let l = branches_some tb a n h (eqb-true k 1 y) in
      let x = g.next n 0 h l in
      omega (arith, next_below tb a n h 0 l, some (next_of tb n (branch_at tb n 0)) x.above x.inside))
      (λ y. case_b (eqb k 2)
      (λ z. let c = eqb-true k 2 z in
      allowed_cases tb a.calls n h c
      (λ u. let e = callee tb n in
      let v = (a.grants.call n h c).callee_in in
      rw (later_call tb a n h c u, definition_bound_lem tb e) (some (start tb Nodes e) (g.after n e h u v) (g.first e v).0))
      (λ o s. omega (arith, own_call_bound tb g n h c o)))
      (λ z. omega (arith, end_bound tb g n h (eqb-false k 1 y) (eqb-false k 2 z))))

  pub bound_some : (n : ℕ) → n < nodes tb → 1 ≤ node_bound tb n
  bound_some = from_last tb (λ n. 1 ≤ node_bound tb n) some_if

  pub definition_some : (d : ℕ) → d < definitions tb → 1 ≤ definition_bound tb d
  definition_some d h = rw (definition_bound_lem tb d) (bound_some (start tb Nodes d) (a.rises.first d h).0)

  -- ---- along a path

  edge_below : (n i t : ℕ) → n < nodes tb → Edge tb n i t → node_bound tb t ≤ node_bound tb n
  unfolding branch_at next_of child_of is_spawn
  edge_below n i t h e = ⊎_elim
      (λ q. rw q (next_below tb a n h i e.branch))
      (λ q. let (y, z) = q in rw z (omega (arith, spawn_below tb a n h i e.branch (eq-eqb _ 4 y))))
      e.leads

  path_below : {t : ℕ} → Path tb t → node_bound tb t ≤ definition_bound tb (definition_of tb t)
  path_below {t} (begin b e) = rw (definition_bound_lem tb (definition_of tb t), ← e) (omega arith)
  path_below {t} (follow {n} p i e) =
      let g = edges tb a.passed.formed in
      let h = path_inside tb g p in
      rw (g.same n i t h e) (omega (arith, edge_below n i t h e, path_below p))

  -- no node of a definition has a bound above its definition's: every node is reached
  pub node_below_definition : (n : ℕ) → n < nodes tb → node_bound tb n ≤ definition_bound tb (definition_of tb n)
  node_below_definition n h = path_below ((unreachable_iff tb a.passed.formed n h).0
      (first_below (unreachable tb) (line_total tb) (node_row tb + n) (rw a.passed.reached (omega arith))))
