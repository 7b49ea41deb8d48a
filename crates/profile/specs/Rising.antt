-- In an accepted table whose calls are allowed every node leads to later nodes alone. Assumes nothing.
use Rattle.std.specs.Prelude.{ℕ, suc, ◌<◌, ◌≡◌, true, false, not, ◌&&◌, ◌||◌, List, ◌≢◌, ltb, eqb, get_or}
use Rattle.std.proofs.Common.{arith, ltb-true, eqb-true}
use Rattle.std.proofs.Math.Path.{refl}
use Rattle.std.proofs.Math.Logic.{inl, inr}
use Rattle.std.proofs.lemmas.Bool.{not-true}
use Rattle.numbers.specs.Rows.{at}
use Rattle.numbers.specs.Search.Laws.{case_b, every_elim}
use Rattle.numbers.specs.Tests.{parts}
use Rattle.table.specs.Fields as Field
use Rattle.table.specs.Table.{Table, table_of, definitions, nodes}
use Rattle.table.specs.Layout.{blocks, start, branch_count, definition_of}
use Rattle.table.specs.Form.Laws.{header_counts}
use Rattle.table.specs.declared.Part.TheVariants.{Nodes}
use Rattle.loader.specs.Load.{accepted}
use Rattle.loader_laws.specs.Blocks.{start_mono}
use Rattle.loader_laws.specs.Grounds.{node_stands, edges}
use Rattle.loader_laws.specs.Paths.{Edge}
use Rattle.rules.specs.Program.{kind_of, callee, branch_at, next_of, child_of}
use Rattle.rules_laws.specs.Accepted.{granted}
use Rattle.rules_laws.specs.Granted.{Granted}
use Rattle.rules_laws.specs.Passed.{Passed, accepted_passed}
use Rattle.profile.specs.Profile.{is_spawn, has_spawn, call_allowed, node_allowed, calls_allowed}
use Rattle.profile.specs.Equations.{Later, Rising}

-- a call that is allowed goes to a later definition, or to its own, which then has no spawn
pub allowed_cases {ℓ} : (tb : Table) → calls_allowed tb ≡ true → {A : Type ℓ} (n : ℕ) → n < nodes tb → kind_of tb n ≡ 2 → (definition_of tb n < callee tb n → A)
    → (callee tb n ≡ definition_of tb n → has_spawn tb (definition_of tb n) ≡ false → A) → A
unfolding calls_allowed node_allowed call_allowed
allowed_cases tb ok n h k f g =
    let d = definition_of tb n in
    let e = callee tb n in
    let a : (ltb d e || (eqb e d && not (has_spawn tb d))) ≡ true = rw k at (every_elim (node_allowed tb) (nodes tb) n ok h) in
    case_b (ltb d e)
    (λ y. f (ltb-true d e y))
    (λ y. let b : (eqb e d && not (has_spawn tb d)) ≡ true = rw y at a in g (eqb-true e d (search parts)) (not-true (has_spawn tb d) (search parts)))

module _ (tb : Table) (p : Passed tb) (q : Granted tb) (ok : calls_allowed tb ≡ true) where
  -- ---- where branches lead

  module _ (n i : ℕ) (h : n < nodes tb) where
    later : (t : ℕ) → Edge tb n i t → Later tb n t
    later t e = let g = edges tb p.formed in record { above = g.up n i t h e; inside = g.inside n i t h e; same = g.same n i t h e }

    next_later : i < branch_count tb n → Later tb n (next_of tb n (branch_at tb n i))
    unfolding next_of branch_at
    next_later l = later (next_of tb n (branch_at tb n i)) (record { branch = l; leads = inl refl })

    child_later : i < branch_count tb n → is_spawn tb n i ≡ true → Later tb n (child_of tb n (branch_at tb n i))
    unfolding child_of branch_at is_spawn
    child_later l y = later (child_of tb n (branch_at tb n i)) (record { branch = l; leads = inr (eqb-true (at tb (branch_at tb n i) Field.action) 4 y, refl) })

  -- ---- where calls lead

  call_later : (n : ℕ) → n < nodes tb → kind_of tb n ≡ 2 → callee tb n ≢ definition_of tb n → (definition_of tb n < callee tb n) × (callee tb n < definitions tb)
  call_later n h k e = allowed_cases tb ok n h k (λ l. (l, (q.call n h k).callee_in)) (λ s z. absurd (e s))

  starts_after : (n d : ℕ) → n < nodes tb → definition_of tb n < d → d < definitions tb → n < start tb Nodes d
  unfolding blocks
  starts_after n d h l m =
      let s = node_stands tb p.formed n h in
      omega (arith, s.before, start_mono tb Nodes (suc (definition_of tb n)) d l (omega arith))

  pub rising : Rising tb
  rising =
      let c = header_counts tb p.formed.header in
      record {
        some_definition = q.some_definition;
        few_nodes = q.few_nodes;
        few_definitions = c.few_definitions;
        definition_in = q.definition_in;
        next = next_later;
        child = child_later;
        call = call_later;
        first = λ d h. let r = q.definition d h in (r.first_inside, r.first_same);
        after = starts_after;
      }

-- of the bytes of a table
pub accepted_rising : (table : List ℕ) → accepted table ≡ true → ((i : ℕ) → get_or table i 0 < 256) → calls_allowed (table_of table) ≡ true → Rising (table_of table)
accepted_rising table e fit ok = rising (table_of table) (accepted_passed table e fit) (granted table e fit) ok
