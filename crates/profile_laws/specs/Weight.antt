-- The weight of a state: for each thread how many threads it can come to be at most, all of them added up. What a thread weighs does not rise along a branch
-- or by a call, a spawn shares it out to the two threads, and each thread weighs at least 1. Assumes nothing.
use Rattle.std.specs.Prelude.{ℕ, ◌+◌, ◌≤◌, ◌<◌, ◌≡◌, refl, true, false, cond}
use Rattle.std.proofs.Common.{arith}
use mathlib.Core.List.{List, []}
use borrow.Author.Tests.{eq-eqb}
use Rattle.numbers.specs.Rows.{at}
use Rattle.numbers.specs.Search.{sum_to}
use Rattle.numbers.specs.Search.Laws.{case_b, sum_below, sum_but_one, sum_ones}
use Rattle.numbers.specs.Count.{bit}
use Rattle.numbers.specs.Count.Laws.{count_index}
use Rattle.table.specs.Fields as Field
use Rattle.table.specs.Table.{Table, definitions, nodes}
use Rattle.table.specs.Layout.{start, branch_count, definition_of}
use Rattle.table.specs.declared.Part.TheVariants.{Nodes}
use Rattle.state.specs.State.{State, max_threads, thread, stands_at, in_use}
use Rattle.rules.specs.Program.{kind_of, callee, branch_at, next_of, child_of, act_of}
use Rattle.rules.specs.declared.Act.TheVariants.{Spawn}
use Rattle.rules_laws.specs.Codes.{spawns_by}
use Rattle.rules_laws.specs.Soundness.{Sound}
use Rattle.engine_laws.specs.Lacking.{Takes, NoThreadRow}
use Rattle.profile.specs.Profile.{is_spawn, has_spawn, node_bound, definition_bound}
use Rattle.profile.specs.Equations.{definition_bound_lem}
use Rattle.profile.specs.Rising.{allowed_cases}
use Rattle.profile_laws.specs.Bounds.{Allowed, bound_some, later_call, spawn_below, next_below, node_below_definition}
use Rattle.profile_laws.specs.Grounds.{has_spawn_iff}
use Rattle.profile_laws.specs.Claim.{threads_in}

module _ (tb : Table) where
  -- of a thread at node n: the node's bound. A definition without a spawn may call itself, and there each node weighs what the definition is bound by
  unfoldable pub node_weight : ℕ → ℕ
  node_weight n = cond (has_spawn tb (definition_of tb n)) (node_bound tb n) (definition_bound tb (definition_of tb n))

  -- of a thread's row: a free row weighs nothing
  unfoldable pub row_weight : List ℕ → ℕ
  row_weight row = cond (in_use row) (node_weight (stands_at row)) 0

  unfoldable pub weight : State → ℕ
  weight s = sum_to (λ t. row_weight (thread s t)) max_threads

-- ---- nodes

module _ (tb : Table) (a : Allowed tb) where
  -- the first node of a definition weighs what the definition is bound by
  pub first_weight : (d : ℕ) → d < definitions tb → node_weight tb (start tb Nodes d) ≡ definition_bound tb d
  unfolding node_weight
  first_weight d h = rw ((a.rises.first d h).1, ← definition_bound_lem tb d) (case_b (has_spawn tb d) (λ y. rw y) (λ y. rw y))

  module _ (n : ℕ) (h : n < nodes tb) where
    node_weighs : node_bound tb n ≤ node_weight tb n
    unfolding node_weight
    node_weighs = case_b (has_spawn tb (definition_of tb n)) (λ y. rw y (omega arith)) (λ y. rw y (node_below_definition tb a n h))

    node_some : 1 ≤ node_weight tb n
    node_some = omega (arith, node_weighs, bound_some tb a n h)

    -- the definition that a call enters is a later one, or its own, which has no spawn
    pub call_weight : kind_of tb n ≡ 2 → node_weight tb (start tb Nodes (callee tb n)) ≤ node_weight tb n
    unfolding node_weight
    call_weight k = rw (first_weight (callee tb n) (a.grants.call n h k).callee_in) (allowed_cases tb a.calls n h k
        (λ l. omega (arith, later_call tb a n h k l, node_weighs))
        (λ e s. rw (e, s) (omega arith)))

    module _ (i : ℕ) (l : i < branch_count tb n) where
      pub next_weight : node_weight tb (next_of tb n (branch_at tb n i)) ≤ node_weight tb n
      unfolding node_weight
      next_weight = rw (a.rises.next n i h l).same (case_b (has_spawn tb (definition_of tb n))
          (λ y. rw y (next_below tb a n h i l)) (λ y. rw y (omega arith)))

      -- after a spawn the two threads weigh no more than the one did
      pub spawn_weight : act_of tb (branch_at tb n i) ≡ Spawn
          → node_weight tb (next_of tb n (branch_at tb n i)) + node_weight tb (child_of tb n (branch_at tb n i)) ≤ node_weight tb n
      unfolding node_weight is_spawn
      spawn_weight e =
          let c = spawns_by tb (branch_at tb n i) e in
          let y = eq-eqb (at tb (branch_at tb n i) Field.action) 4 c in
          let s = (has_spawn_iff tb (definition_of tb n)).1 (record { node = n; branch = i; node_in = h; own = refl; branch_in = l; spawns = c }) in
          rw ((a.rises.next n i h l).same, (a.rises.child n i h l y).same, s) (spawn_below tb a n h i l y)

-- ---- rows

module _ (tb : Table) where
  pub free_weight : (row : List ℕ) → in_use row ≡ false → row_weight tb row ≡ 0
  unfolding row_weight
  free_weight row e = rw e

  pub used_weight : (row : List ℕ) → in_use row ≡ true → row_weight tb row ≡ node_weight tb (stands_at row)
  unfolding row_weight
  used_weight row e = rw e

  pub row_weight_lem : (row : List ℕ) (n : ℕ) → stands_at row ≡ n → row_weight tb row ≤ node_weight tb n
  row_weight_lem row n e = rw (← e) (case_b (in_use row) (λ y. omega (arith, used_weight row y)) (λ y. omega (arith, free_weight row y)))

  -- a thread that comes to a node which weighs no more is no heavier
  pub moved_weight : (row row' : List ℕ) (n : ℕ) → in_use row ≡ true → stands_at row' ≡ n → node_weight tb n ≤ node_weight tb (stands_at row)
      → row_weight tb row' ≤ row_weight tb row
  moved_weight row row' n u e h = omega (arith, used_weight row u, row_weight_lem row' n e)

-- ---- a sound state

module _ (tb : Table) (a : Allowed tb) (s : State) (ok : Sound tb s) where
  -- each thread weighs at least 1
  thread_weighs : (t : ℕ) → t < max_threads → in_use (thread s t) ≡ true → 1 ≤ row_weight tb (thread s t)
  thread_weighs t l u =
      rw (used_weight tb (thread s t) u) (node_some tb a (stands_at (thread s t)) ((ok.orderly.row t l).node_in u))

  -- and so there are no more threads than the state weighs
  pub threads_weigh : threads_in s ≤ weight tb s
  unfolding threads_in weight bit
  threads_weigh =
      rw (count_index in_use s.threads [], ok.orderly.shaped.all_threads)
      (sum_below (λ t. bit (in_use (thread s t))) (λ t. row_weight tb (thread s t)) max_threads (λ t l. case_b (in_use (thread s t))
      (λ u. rw u (thread_weighs t l u))
      (λ u. rw u (omega arith))))

  -- where every row is a thread's and a thread takes a spawn, the state weighs more than there are rows
  pub full_weighs : (t : ℕ) → t < max_threads → Takes tb s t Spawn → NoThreadRow s → max_threads < weight tb s
  unfolding weight
  full_weighs t l (i, f, does) full =
      let row = thread s t in
      let n = stands_at row in
      let u = full t l in
      let h = (ok.orderly.row t l).node_in u in
      let g = a.grants.branch n i h f.branch_in in
      let next = node_some tb a (next_of tb n (branch_at tb n i)) g.next.inside in
      let child = node_some tb a (child_of tb n (branch_at tb n i)) (g.child does).inside in
      let others = sum_but_one (λ t. 1) (λ t. row_weight tb (thread s t)) max_threads t l (λ v m o. thread_weighs v m (full v m)) in
      omega (arith, used_weight tb row u, spawn_weight tb a n h i f.branch_in does, sum_ones max_threads)
