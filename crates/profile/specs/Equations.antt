-- The bounds of a table in which every node leads to later nodes alone, as equations: what document 02 says of each kind of node. Assumes nothing.
use Prim.Native.Nat.{ℕ, zero, suc, ◌+◌, ◌≤◌, ◌<◌}
use native.Mathlib.Omega.{arith}
use Rattle.std.specs.Prelude.{◌≡◌, refl, true, false, ◌≢◌, eqb}
use Rattle.std.proofs.Math.Path.{ap}
use Rattle.std.proofs.Common.{◌∙◌}
use borrow.Author.Tests.{eqb-true, eqb-false, eq-eqb, ne_eqb}
use Rattle.numbers.specs.Search.Laws.{case_b}
use Rattle.table.specs.Table.{Table, max_definitions, max_nodes, definitions, nodes}
use Rattle.table.specs.Layout.{start, branch_count, definition_of}
use Rattle.table.specs.declared.Part.TheVariants.{Nodes}
use Rattle.rules.specs.Program.{kind_of, callee, branch_at, next_of, child_of}
use Rattle.profile.specs.Profile.{largest, is_spawn, branch_bound_by, call_bound_by, node_bound_by, bound_in, node_bound, branch_bound, definition_bound}

-- ---- what the equations ask of a table

module _ (tb : Table) where
  -- node m comes after node n, in the definition of node n
  pub record Later (n m : ℕ) : Type 0 where
    pub above : n < m
    pub inside : m < nodes tb
    pub same : definition_of tb m ≡ definition_of tb n

  pub record Rising : Type 0 where
    pub some_definition : 0 < definitions tb
    pub few_nodes : nodes tb ≤ max_nodes
    pub few_definitions : definitions tb ≤ max_definitions
    pub definition_in : (n : ℕ) → n < nodes tb → definition_of tb n < definitions tb
    -- a branch leads on to a later node, and so does the child of a spawn
    pub next : (n i : ℕ) → n < nodes tb → i < branch_count tb n → Later n (next_of tb n (branch_at tb n i))
    pub child : (n i : ℕ) → n < nodes tb → i < branch_count tb n → is_spawn tb n i ≡ true → Later n (child_of tb n (branch_at tb n i))
    -- a call of another definition is one of a later definition, and the nodes of that are later nodes
    pub call : (n : ℕ) → n < nodes tb → kind_of tb n ≡ 2 → callee tb n ≢ definition_of tb n → (definition_of tb n < callee tb n) × (callee tb n < definitions tb)
    pub first : (d : ℕ) → d < definitions tb → (start tb Nodes d < nodes tb) × (definition_of tb (start tb Nodes d) ≡ d)
    pub after : (n d : ℕ) → n < nodes tb → definition_of tb n < d → d < definitions tb → n < start tb Nodes d

-- ---- the largest of some numbers

pub largest_same : (f g : ℕ → ℕ) (n : ℕ) → ((i : ℕ) → i < n → f i ≡ g i) → largest f n ≡ largest g n
unfolding largest
largest_same f g zero h = refl
largest_same f g (suc n) h = rw (largest_same f g n (λ i l. h i (omega arith)), h n (omega arith))

-- ---- the bounds of the nodes after n decide that of n

module _ (tb : Table) (g : Rising tb) (b c : ℕ → ℕ) (n : ℕ) (h : n < nodes tb) (same : (m : ℕ) → n < m → m < nodes tb → b m ≡ c m) where
  branch_decided : (i : ℕ) → i < branch_count tb n → branch_bound_by tb b n i ≡ branch_bound_by tb c n i
  unfolding branch_bound_by
  branch_decided i l =
      let x = g.next n i h l in
      let e = same (next_of tb n (branch_at tb n i)) x.above x.inside in
      case_b (is_spawn tb n i)
      (λ y. let z = g.child n i h l y in rw (y, e, same (child_of tb n (branch_at tb n i)) z.above z.inside))
      (λ y. rw (y, e))

  call_decided : kind_of tb n ≡ 2 → call_bound_by tb b n ≡ call_bound_by tb c n
  unfolding call_bound_by
  call_decided k =
      case_b (eqb (callee tb n) (definition_of tb n))
      (λ y. rw y)
      (λ y. let (u, v) = g.call n h k (eqb-false (callee tb n) (definition_of tb n) y) in
      rw (y, same (start tb Nodes (callee tb n)) (g.after n (callee tb n) h u v) (g.first (callee tb n) v).0))

  pub node_decided : node_bound_by tb b n ≡ node_bound_by tb c n
  unfolding node_bound_by
  node_decided =
      case_b (eqb (kind_of tb n) 1)
      (λ y. rw y (largest_same (branch_bound_by tb b n) (branch_bound_by tb c n) (branch_count tb n) branch_decided))
      (λ y. case_b (eqb (kind_of tb n) 2) (λ z. rw (y, z) (call_decided (eqb-true (kind_of tb n) 2 z))) (λ z. rw (y, z)))

-- ---- the equations

module _ (tb : Table) (g : Rising tb) where
  -- rows of nodes that are long enough all give the same
  enough : (k l n : ℕ) → n < nodes tb → nodes tb ≤ k + n → nodes tb ≤ l + n → bound_in tb k n ≡ bound_in tb l n
  unfolding bound_in
  enough zero l n h p q = absurd (let z : ⊥ = omega arith in z)
  enough (suc k) zero n h p q = absurd (let z : ⊥ = omega arith in z)
  enough (suc k) (suc l) n h p q =
      node_decided tb g (bound_in tb k) (bound_in tb l) n h (λ m u v. enough k l m v (omega arith) (omega arith))

  one_more_lem : (k n : ℕ) → n < nodes tb → nodes tb ≡ suc k → bound_in tb (suc k) n ≡ node_bound_by tb (node_bound tb) n
  unfolding bound_in node_bound
  one_more_lem k n h e = node_decided tb g (bound_in tb k) (bound_in tb (nodes tb)) n h (λ m u v. enough k (nodes tb) m v (omega arith) (omega arith))

  by_nodes : (k n : ℕ) → nodes tb ≡ k → n < nodes tb → node_bound tb n ≡ node_bound_by tb (node_bound tb) n
  unfolding node_bound
  by_nodes zero n e h = absurd (let z : ⊥ = omega arith in z)
  by_nodes (suc k) n e h = ap (λ x. bound_in tb x n) e ∙ one_more_lem k n h e

  -- the bound of a node by those of the nodes to which it leads
  pub node_bound_is : (n : ℕ) → n < nodes tb → node_bound tb n ≡ node_bound_by tb (node_bound tb) n
  node_bound_is n h = by_nodes (nodes tb) n refl h

  -- ---- document 02's sentences, one by one

  module _ (n : ℕ) (h : n < nodes tb) where
    -- an end, and a call of a definition by itself
    pub end_bound : kind_of tb n ≢ 1 → kind_of tb n ≢ 2 → node_bound tb n ≡ 1
    unfolding node_bound_by
    end_bound p q = node_bound_is n h ∙ rw (ne_eqb (kind_of tb n) 1 p, ne_eqb (kind_of tb n) 2 q)

    pub own_call_bound : kind_of tb n ≡ 2 → callee tb n ≡ definition_of tb n → node_bound tb n ≡ 1
    unfolding node_bound_by call_bound_by
    own_call_bound k e = node_bound_is n h ∙ rw (k, eq-eqb (callee tb n) (definition_of tb n) e)

    -- another call
    pub call_bound : kind_of tb n ≡ 2 → callee tb n ≢ definition_of tb n → node_bound tb n ≡ definition_bound tb (callee tb n)
    unfolding node_bound_by call_bound_by definition_bound
    call_bound k e = node_bound_is n h ∙ rw (k, ne_eqb (callee tb n) (definition_of tb n) e)

    -- a choice
    pub choice_bound : kind_of tb n ≡ 1 → node_bound tb n ≡ largest (branch_bound tb n) (branch_count tb n)
    unfolding node_bound_by branch_bound
    choice_bound k = node_bound_is n h ∙ rw k

-- a branch that is a spawn, and one that is not
module _ (tb : Table) (n i : ℕ) where
  pub spawn_bound : is_spawn tb n i ≡ true
      → branch_bound tb n i ≡ node_bound tb (next_of tb n (branch_at tb n i)) + node_bound tb (child_of tb n (branch_at tb n i))
  unfolding branch_bound branch_bound_by
  spawn_bound y = rw y

  pub plain_bound : is_spawn tb n i ≡ false → branch_bound tb n i ≡ node_bound tb (next_of tb n (branch_at tb n i))
  unfolding branch_bound branch_bound_by
  plain_bound y = rw y

-- the bound of a definition is that of its first node
pub definition_bound_lem : (tb : Table) (d : ℕ) → definition_bound tb d ≡ node_bound tb (start tb Nodes d)
unfolding definition_bound
definition_bound_lem tb d = refl
