-- The ways of the code that finds bounds, and what falls from one call to the next. Assumes nothing.
use Rattle.std.specs.Prelude.{ℕ, ◌+◌, ◌≤◌, ◌<◌, max, ◌≡◌, Bool, true, false, List, ◌⊎◌, ltb, eqb, length, get_or, set, replicate}
use Rattle.std.proofs.Common.{arith, sym, ap, ◌∙◌, inl, inr, ⊎_elim, get_or-set_same, get_or-set_other}
use Rattle.std.proofs.Math.Numerals.{add-one}
use Rattle.std.proofs.Math.Path.{refl}
use Rattle.std.proofs.Math.Seq.{set_out}
use borrow.Author.Tests.{ltb-true, ltb-false, eq-eqb, ne_eqb, eqb-true, eqb-false}
use Rattle.numbers.specs.Rows.{at}
use Rattle.numbers.specs.Search.Laws.{case_b}
use Rattle.numbers.specs.Laid.Laws.{zeros_at}
use Rattle.table.specs.Fields as Field
use Rattle.table.specs.Table.{Table, max_nodes, definitions, nodes, node_row}
use Rattle.table.specs.Layout.{start, branch_count, definition_of}
use Rattle.table.specs.declared.Part.TheVariants.{Nodes}
use Rattle.rules.specs.Program.{kind_of, callee, branch_at, next_of, child_of}
use Rattle.profile.specs.Profile.{largest, is_spawn, node_bound, branch_bound, definition_bound}
use Rattle.profile.specs.Equations.{Later, Rising, end_bound, own_call_bound, call_bound, choice_bound, spawn_bound, plain_bound}
use Rattle.profile.specs.Finding.Calls.{node_cell}
use Rattle.profile.specs.Finding.{above, capped, Kept, onward, rank, definition_rank}
use Rattle.profile.specs.declared.Onward.{Onward}
use Rattle.profile.specs.declared.Onward.TheVariants.{Nowhere, Definition, Branches}

-- ---- capped bounds

-- what is capped may be capped before it is added, and before the larger is taken
pub capped_through : (a b : ℕ) → (capped (capped a + capped b) ≡ capped (a + b)) × (max (capped a) (capped b) ≡ capped (max a b))
unfolding capped
capped_through a b = (omega arith, omega arith)

pub capped_few : (x r : ℕ) → r ≡ capped x → r ≤ above
unfolding capped
capped_few x r e = omega arith

-- below the cap a number stays what it is, and from there on it is the cap
pub capped_low : (s : ℕ) → s < above → s ≡ capped s
unfolding capped
capped_low s h = omega arith

pub capped_high : (s : ℕ) → above ≤ s → above ≡ capped s
unfolding capped
capped_high s h = omega arith

-- ---- what a bound rests on

-- what the bound of node n rests on, told from the cells that were read: a choice on its branches, an end and a call of its own definition on nothing, and any
-- other call on the definition that it calls
module _ (tb : Table) (n r v : ℕ) (a : r ≡ node_row tb) (e : v ≡ at tb (r + n) Field.node_kind) where
  kind_is : v ≡ kind_of tb n
  kind_is = node_cell tb n r Field.node_kind v a e

  pub onward_choice : v ≡ 1 → Branches ≡ onward tb n
  unfolding onward
  onward_choice f = rw (← kind_is, f)

  module _ (f : v ≡ 1 → ⊥) where
    pub onward_end : (v ≡ 2 → ⊥) → Nowhere ≡ onward tb n
    unfolding onward
    onward_end g = rw (ne_eqb (kind_of tb n) 1 (λ q. f (kind_is ∙ q)), ne_eqb (kind_of tb n) 2 (λ q. g (kind_is ∙ q)))

    module _ (g : v ≡ 2) (x d : ℕ) (k : x ≡ at tb (r + n) Field.callee) (b : d ≡ definition_of tb n) where
      callee_is : x ≡ callee tb n
      callee_is = node_cell tb n r Field.callee x a k

      pub onward_own : x ≡ d → Nowhere ≡ onward tb n
      unfolding onward
      onward_own q = rw (← kind_is, g, ← callee_is, ← b, q, eq-eqb d d refl)

      pub onward_call : (x ≡ d → ⊥) → Definition x ≡ onward tb n
      unfolding onward
      onward_call q = rw (← kind_is, g, ← callee_is, ← b, ne_eqb x d q)

-- what it says of the bound of node n that it rests on this
unfoldable Rests : Table → ℕ → Onward → Type 0
Rests tb n Nowhere = node_bound tb n ≡ 1
Rests tb n (Definition d) = (definition_of tb n < d) × (d < definitions tb) × (node_bound tb n ≡ definition_bound tb d)
Rests tb n Branches = node_bound tb n ≡ largest (branch_bound tb n) (branch_count tb n)

module _ (tb : Table) (g : Rising tb) (n : ℕ) (h : n < nodes tb) where
  rests : Rests tb n (onward tb n)
  unfolding Rests onward
  rests =
      case_b (eqb (kind_of tb n) 1)
      (λ y. rw y (choice_bound tb g n h (eqb-true (kind_of tb n) 1 y)))
      (λ y. rw y (case_b (eqb (kind_of tb n) 2)
      (λ z. let k = eqb-true (kind_of tb n) 2 z in
      rw z (case_b (eqb (callee tb n) (definition_of tb n))
      (λ w. rw w (own_call_bound tb g n h k (eqb-true (callee tb n) (definition_of tb n) w)))
      (λ w. let q = eqb-false (callee tb n) (definition_of tb n) w in
      rw w ((g.call n h k q).0, (g.call n h k q).1, call_bound tb g n h k q))))
      (λ z. rw z (end_bound tb g n h (eqb-false (kind_of tb n) 1 y) (eqb-false (kind_of tb n) 2 z)))))

  told : (p : Onward) → onward tb n ≡ p → Rests tb n p
  told p q = rw q at rests

  pub nowhere_bound : onward tb n ≡ Nowhere → 1 ≡ capped (node_bound tb n)
  unfolding Rests capped
  nowhere_bound q = rw (told Nowhere q)

  pub branches_bound : onward tb n ≡ Branches → node_bound tb n ≡ largest (branch_bound tb n) (branch_count tb n)
  unfolding Rests
  branches_bound q = told Branches q

  module _ (d : ℕ) (q : onward tb n ≡ Definition d) where
    pub definition_inside : d < definitions tb
    unfolding Rests
    definition_inside = (told (Definition d) q).1

    pub called_bound : node_bound tb n ≡ definition_bound tb d
    unfolding Rests
    called_bound = (told (Definition d) q).2

    -- a call goes to a later definition, so that the definitions that are left become fewer
    pub call_falls : (t : ℕ) → rank tb n + 2 ≡ t → definition_rank tb d < t
    unfolding Rests rank definition_rank
    call_falls t f = omega (arith, f, (told (Definition d) q).0, definition_inside, g.few_definitions)

  -- ---- what else falls: in one definition, the nodes that are left

  -- on the way from a node to its choice, and from there to a branch
  pub choice_falls : (t : ℕ) → rank tb n + 2 ≡ t → rank tb n + 1 < t
  choice_falls t f = omega arith

  pub branch_falls : (t : ℕ) → rank tb n + 1 ≡ t → rank tb n < t
  branch_falls t f = omega arith

  later_falls : (m t : ℕ) → Later tb n m → rank tb n ≡ t → rank tb m + 2 < t
  unfolding rank
  later_falls m t l f = rw l.same (omega (arith, f, l.above, l.inside, g.few_nodes))

  -- ---- a branch

  module _ (i r : ℕ) (l : i < branch_count tb n) (b : r ≡ branch_at tb n i) where
    module _ (m : ℕ) (e : m ≡ next_of tb n r) where
      to_next : Later tb n m
      to_next = rw (e, b) (g.next n i h l)

      pub next_falls : (t : ℕ) → rank tb n ≡ t → rank tb m + 2 < t
      next_falls t f = later_falls m t to_next f

      pub next_inside : m < nodes tb
      next_inside = to_next.inside

      module _ (k : ℕ) (c : k ≡ child_of tb n r) (s : Bool) (y : s ≡ is_spawn tb n i) (z : s ≡ true) where
        is_spawn_lem : is_spawn tb n i ≡ true
        is_spawn_lem = sym y ∙ z

        to_child : Later tb n k
        to_child = rw (c, b) (g.child n i h l is_spawn_lem)

        pub child_falls : (t : ℕ) → rank tb n ≡ t → rank tb k + 2 < t
        child_falls t f = later_falls k t to_child f

        pub child_inside : k < nodes tb
        child_inside = to_child.inside

  -- ---- a choice

  pub choice_none : 0 ≡ capped (largest (branch_bound tb n) 0)
  unfolding largest capped
  choice_none = refl

  pub choice_more : (i m b r : ℕ) → r ≡ max m b → b ≡ capped (branch_bound tb n i) → m ≡ capped (largest (branch_bound tb n) i)
      → r ≡ capped (largest (branch_bound tb n) (i + 1))
  unfolding largest
  choice_more i m b r e f k = e ∙ rw (f, k, add-one i) (capped_through (largest (branch_bound tb n) i) (branch_bound tb n i)).1

  -- when no branch is left, the largest so far is the largest of all
  pub choice_end : (i c m : ℕ) → c ≡ branch_count tb n → m ≡ capped (largest (branch_bound tb n) i) → i ≤ c → c ≤ i
      → m ≡ capped (largest (branch_bound tb n) (branch_count tb n))
  choice_end i c m e f a b = let q : i ≡ branch_count tb n = omega (arith, e) in rw q at f

module _ (tb : Table) (n i r m : ℕ) (s : Bool) where
  pub plain_found : (x : ℕ) → x ≡ capped (node_bound tb m) → m ≡ next_of tb n r → r ≡ branch_at tb n i → s ≡ is_spawn tb n i → s ≡ false
      → x ≡ capped (branch_bound tb n i)
  plain_found x f e b y z =
      let j : node_bound tb m ≡ branch_bound tb n i = rw (e, b) (sym (plain_bound tb n i (sym y ∙ z))) in
      f ∙ ap capped j

  pub spawn_found : (k u v x : ℕ) → x ≡ capped (u + v) → u ≡ capped (node_bound tb m) → v ≡ capped (node_bound tb k)
      → m ≡ next_of tb n r → k ≡ child_of tb n r → r ≡ branch_at tb n i → s ≡ is_spawn tb n i → s ≡ true → x ≡ capped (branch_bound tb n i)
  spawn_found k u v x w p q e c b y z =
      let j : node_bound tb m + node_bound tb k ≡ branch_bound tb n i = rw (e, c, b) (sym (spawn_bound tb n i (sym y ∙ z))) in
      w ∙ rw (p, q) (capped_through (node_bound tb m) (node_bound tb k)).0 ∙ ap capped j

-- ---- a definition

module _ (tb : Table) (g : Rising tb) (d m : ℕ) (h : d < definitions tb) (e : m ≡ start tb Nodes d) where
  pub first_inside : m < nodes tb
  first_inside = rw e (g.first d h).0

  pub first_falls : (t : ℕ) → definition_rank tb d ≡ t → rank tb m + 2 < t
  unfolding rank definition_rank
  first_falls t f = rw (e, (g.first d h).1) (omega (arith, f))

  pub definition_found : (x : ℕ) → x ≡ capped (node_bound tb m) → x ≡ capped (definition_bound tb d)
  unfolding definition_bound
  definition_found x f = rw e at f

-- ---- bounds that are kept

module _ (tb : Table) where
  pub kept_none : (l : List ℕ) → l ≡ replicate max_nodes 0 → Kept tb l
  kept_none l e = record { bounds = λ n h. inl (rw e (zeros_at max_nodes n)) }

  -- a kept number other than 0 is the bound of its node
  pub kept_found : (l : List ℕ) (n f : ℕ) → f ≡ get_or l n 0 → Kept tb l → n < nodes tb → (f ≡ 0 → ⊥) → f ≡ capped (node_bound tb n)
  kept_found l n f e k h z = ⊎_elim (λ y. absurd (z (e ∙ y))) (λ y. e ∙ y) (k.bounds n h)

  -- at the place itself; past the end nothing is stored
  kept_here : (l : List ℕ) (n b : ℕ) → Kept tb l → b ≡ capped (node_bound tb n) → n < nodes tb
      → (get_or (set l n b) n 0 ≡ 0) ⊎ (get_or (set l n b) n 0 ≡ capped (node_bound tb n))
  kept_here l n b k f h = case_b (ltb n (length l))
      (λ y. inr (get_or-set_same l n b 0 (ltb-true n (length l) y) ∙ f))
      (λ y. rw (set_out l n b (ltb-false n (length l) y)) (k.bounds n h))

  pub kept_more : (l l' : List ℕ) (n b : ℕ) → l' ≡ set l n b → Kept tb l → b ≡ capped (node_bound tb n) → Kept tb l'
  kept_more l l' n b e k f = record {
    bounds = λ m h. rw e (case_b (eqb m n)
        (λ y. let q = eqb-true m n y in rw q (kept_here l n b k f (rw q at h)))
        (λ y. rw (get_or-set_other l n m b 0 (eqb-false m n y)) (k.bounds m h)));
  }

-- ---- all that the methods ask for

pub ruleset ways = (
  capped_few,
  nowhere_bound,
  branches_bound,
  definition_inside,
  called_bound,
  call_falls,
  next_falls,
  next_inside,
  child_falls,
  child_inside,
  choice_none,
  choice_more,
  plain_found,
  spawn_found,
  first_inside,
  first_falls,
  definition_found,
  kept_none,
  kept_more,
)
