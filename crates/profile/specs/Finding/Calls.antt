-- The ways of the code that marks spawns and judges calls. Assumes nothing.
use Rattle.std.specs.Prelude.{ℕ, ◌+◌, ◌≤◌, ◌<◌, ◌≡◌, Bool, false, not, cond, List, eqb, length, get_or, set, replicate}
use Rattle.std.proofs.Common.{arith, add-one, ◌∙◌, get_or-set_same}
use Rattle.std.proofs.Math.Path.{refl, sym, ap}
use Rattle.std.proofs.Math.Bool.{true}
use Rattle.std.proofs.Math.ListN.{length-set}
use Rattle.std.proofs.lemmas.List.{length-replicate}
use Rattle.std.proofs.Math.Seq.{get_or-set_other}
use borrow.Author.Tests.{eq-eqb, ne_eqb, lt-ltb, le-ltb, eqb-true}
use Rattle.numbers.specs.Rows.{at}
use Rattle.numbers.specs.Count.{bit}
use Rattle.numbers.specs.Search.{every, some}
use Rattle.numbers.specs.Search.Laws.{case_b, contra, every_all, every_failed, some_zero, some_suc, some_still, some_intro}
use Rattle.numbers.specs.Tests.{and_left, and_right, cond_self}
use Rattle.numbers.specs.Laid.Laws.{zeros_at}
use Rattle.table.specs.Fields as Field
use Rattle.table.specs.Table.{Table, max_definitions, nodes, node_row}
use Rattle.table.specs.Layout.{branch_count, definition_of}
use Rattle.table.specs.Form.Laws.{Counts}
use Rattle.rules.specs.Program.{kind_of, callee, branch_at}
use Rattle.rules_laws.specs.Granted.{Granted}
use Rattle.profile.specs.Profile.{is_spawn, node_spawns, spawns_in, has_spawn, call_allowed, node_allowed, calls_allowed}
use Rattle.profile.specs.Finding.{marked_by, Spawning}

-- ---- spawns

pub spawn_is : (tb : Table) (n i r v : ℕ) → r ≡ branch_at tb n i → v ≡ at tb r Field.action → eqb v 4 ≡ is_spawn tb n i
unfolding is_spawn
spawn_is tb n i r v e f = rw (f, e)

module _ (tb : Table) (n : ℕ) where
  pub spawns_none : some (is_spawn tb n) 0 ≡ false
  spawns_none = some_zero (is_spawn tb n)

  pub spawns_more : (i : ℕ) (r : Bool) → r ≡ is_spawn tb n i → some (is_spawn tb n) i ≡ false → r ≡ false → some (is_spawn tb n) (i + 1) ≡ false
  spawns_more i r e h f = rw (add-one i) (some_still (is_spawn tb n) i h (sym e ∙ f))

  pub spawns_found : (i c : ℕ) (r : Bool) → r ≡ is_spawn tb n i → c ≡ branch_count tb n → i < c → r ≡ true → true ≡ node_spawns tb n
  unfolding node_spawns
  spawns_found i c r e k l f = sym (some_intro (is_spawn tb n) (branch_count tb n) i (rw k at l) (sym e ∙ f))

  pub spawns_end : (i c : ℕ) → c ≡ branch_count tb n → some (is_spawn tb n) i ≡ false → i ≤ c → c ≤ i → false ≡ node_spawns tb n
  unfolding node_spawns
  spawns_end i c k h a b = let q : i ≡ branch_count tb n = omega (arith, k) in rw q at (sym h)

  -- the mark of a node's definition
  pub mark_yes : (r : Bool) (d : ℕ) (l l' : List ℕ) → r ≡ node_spawns tb n → d ≡ definition_of tb n → l' ≡ set l d 1 → r ≡ true → l' ≡ marked_by tb n l
  unfolding marked_by
  mark_yes r d l l' e f g h = rw (← e, h, g, f)

  pub mark_no : (r : Bool) (l : List ℕ) → r ≡ node_spawns tb n → r ≡ false → l ≡ marked_by tb n l
  unfolding marked_by
  mark_no r l e h = rw (← e, h)

  pub length_marked : (l : List ℕ) → length (marked_by tb n l) ≡ length l
  unfolding marked_by
  length_marked l = case_b (node_spawns tb n) (λ y. rw (y, length-set l (definition_of tb n) 1)) (λ y. rw y)

module _ (tb : Table) where
  pub spawning_none : (l : List ℕ) → l ≡ replicate max_definitions 0 → Spawning tb 0 l
  unfolding bit
  spawning_none l e = record {
    long = rw e (length-replicate {A = ℕ} max_definitions 0);
    marks = λ d h. rw (e, some_zero (spawns_in tb d)) (zeros_at max_definitions d);
  }

  -- a mark stays as it is, but for that of the definition in which a node has a spawn
  kept_mark : (k : ℕ) (l : List ℕ) (d : ℕ) → spawns_in tb d k ≡ false → get_or (marked_by tb k l) d 0 ≡ get_or l d 0
  unfolding marked_by spawns_in
  kept_mark k l d e = case_b (node_spawns tb k)
      (λ y. rw (y, get_or-set_other l (definition_of tb k) d 1 0 (λ q. contra (rw (eq-eqb (definition_of tb k) d (sym q), y)) e)))
      (λ y. rw y)

  new_mark : (k : ℕ) (l : List ℕ) → length l ≡ max_definitions → (d : ℕ) → d < max_definitions → spawns_in tb d k ≡ true → get_or (marked_by tb k l) d 0 ≡ 1
  unfolding marked_by spawns_in
  new_mark k l long d h e =
      let y : node_spawns tb k ≡ true = and_right (eqb (definition_of tb k) d) _ e in
      let q : definition_of tb k ≡ d = eqb-true (definition_of tb k) d (and_left _ _ e) in
      rw (y, q) (get_or-set_same l d 1 0 (rw long h))

  one_more_lem : (k : ℕ) (l : List ℕ) → Spawning tb k l → (d : ℕ) → d < max_definitions
      → get_or (marked_by tb k l) d 0 ≡ bit (cond (some (spawns_in tb d) k) true (spawns_in tb d k))
  unfolding bit
  one_more_lem k l s d h = case_b (spawns_in tb d k)
      (λ y. rw (y, new_mark k l s.long d h y) (case_b (some (spawns_in tb d) k) (λ w. rw w) (λ w. rw w)))
      (λ y. rw (y, kept_mark k l d y) (s.marks d h ∙ ap bit (cond_self (some (spawns_in tb d) k))))

  pub spawning_more : (k : ℕ) (l l' : List ℕ) → l' ≡ marked_by tb k l → Spawning tb k l → Spawning tb (k + 1) l'
  spawning_more k l l' e s = record {
    long = rw e (length_marked tb k l ∙ s.long);
    marks = λ d h. rw (e, add-one k, some_suc (spawns_in tb d) k) (one_more_lem k l s d h);
  }

  pub spawning_end : (k c : ℕ) (l : List ℕ) → c ≡ nodes tb → Spawning tb k l → k ≤ c → c ≤ k → Spawning tb (nodes tb) l
  spawning_end k c l e s a b = let q : k ≡ nodes tb = omega (arith, e) in rw q at s

-- ---- calls

no_bit : (b : Bool) → eqb (bit b) 0 ≡ not b
unfolding bit
no_bit true = refl
no_bit false = refl

-- a number of a node's row, read from the first node's row on
pub node_cell : (tb : Table) (n r k v : ℕ) → r ≡ node_row tb → v ≡ at tb (r + n) k → v ≡ at tb (node_row tb + n) k
node_cell tb n r k v a e = rw a at e

module _ (tb : Table) (n r v : ℕ) (a : r ≡ node_row tb) (e : v ≡ at tb (r + n) Field.node_kind) where
  kind_is : v ≡ kind_of tb n
  kind_is = node_cell tb n r Field.node_kind v a e

  pub allowed_other : (v ≡ 2 → ⊥) → true ≡ node_allowed tb n
  unfolding node_allowed
  allowed_other f = rw (ne_eqb (kind_of tb n) 2 (λ q. f (kind_is ∙ q)))

  module _ (f : v ≡ 2) (d x : ℕ) (b : d ≡ definition_of tb n) (k : x ≡ at tb (r + n) Field.callee) where
    callee_is : x ≡ callee tb n
    callee_is = node_cell tb n r Field.callee x a k

    to_call : node_allowed tb n ≡ call_allowed tb d x
    unfolding node_allowed
    to_call = rw (← kind_is, f, ← b, ← callee_is)

    pub allowed_later : d < x → true ≡ node_allowed tb n
    unfolding call_allowed
    allowed_later l = rw (to_call, lt-ltb d x l)

    module _ (low : x ≤ d) where
      pub allowed_own : (l : List ℕ) (m : ℕ) → m ≡ get_or l d 0 → x ≡ d → Counts tb → Granted tb → Spawning tb (nodes tb) l → n < nodes tb → eqb m 0 ≡ node_allowed tb n
      unfolding call_allowed has_spawn
      allowed_own l m q w o g s h =
          let few : d < max_definitions = omega (arith, b, g.definition_in n h, o.few_definitions) in
          rw (to_call, le-ltb d x low, w, eq-eqb d d refl, q, s.marks d few) (no_bit _)

      pub allowed_lower : (x ≡ d → ⊥) → false ≡ node_allowed tb n
      unfolding call_allowed
      allowed_lower w = rw (to_call, le-ltb d x low, ne_eqb x d w)

module _ (tb : Table) where
  pub calls_found : (n c : ℕ) (r : Bool) → r ≡ node_allowed tb n → c ≡ nodes tb → n < c → not r ≡ true → false ≡ calls_allowed tb
  unfolding calls_allowed
  calls_found n c r e k l f = every_failed (node_allowed tb) n r e (nodes tb) f (rw k at l)

  pub calls_end : (n c : ℕ) → c ≡ nodes tb → every (node_allowed tb) n ≡ true → n ≤ c → c ≤ n → true ≡ calls_allowed tb
  unfolding calls_allowed
  calls_end n c k h a b = every_all (node_allowed tb) n (nodes tb) h (rw k at a) (rw k at b)
