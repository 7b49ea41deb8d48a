-- When the check of a table gives each of its answers, in document 02's words. Of buffers of bytes, whatever their length. Ground 9 is said as the writer's law
-- says it, by the files that load to the table. Nodes are counted over the whole file. Assumes nothing.
use Rattle.profile.specs.declared.ProfileRefusal.TheVariants as ProfileRefusal
use Rattle.profile.specs.Answers.{Profiled}
use Rattle.std.specs.Prelude.{ℕ, ◌≤◌, ◌<◌, ◌≡◌, true, false, List, ◌⊎◌, ◌≢◌, ◌↔◌, ltb, leb, eqb, length, Err, Ok}
use Rattle.std.proofs.Common.{arith, ⊎_elim}
use Rattle.std.proofs.Math.Path.{refl}
use Rattle.std.proofs.Math.Logic.{inl, inr}
use borrow.Author.Tests.{ltb-false, leb-true, leb-false, le-leb, lt-leb, eqb-true, eqb-false, eq-eqb, ne_eqb}
use Rattle.numbers.specs.Rows.{at}
use Rattle.numbers.specs.Search.Laws.{case_b, contra, every_fails, some_elim, some_intro}
use Rattle.numbers.specs.Tests.{parts}
use Rattle.text.specs.Text.Characters.{Characters}
use Rattle.table.specs.Fields as Field
use Rattle.table.specs.Table.{Table, table_length, table_of, nodes}
use Rattle.table.specs.Layout.{branch_count, definition_of}
use Rattle.loader.specs.Load.{accepted}
use Rattle.writer_laws.specs.Writing.{FileOf, accepted_of, refused_of}
use Rattle.state.specs.State.{max_threads}
use Rattle.rules.specs.Program.{kind_of, callee, branch_at}
use Rattle.profile.specs.Profile.{is_spawn, node_spawns, spawns_in, has_spawn, call_allowed, node_allowed, calls_allowed, definition_bound, within_rows, profile_of, profile_call}
use Rattle.profile.specs.Rising.{allowed_cases}
use Rattle.profile_laws.specs.Bounds.{allowed, definition_some}

-- ---- calls

module _ (tb : Table) where
  -- definition d has a spawn: this branch of this node of it
  pub record HasSpawn (d : ℕ) : Type 0 where
    pub node : ℕ
    pub branch : ℕ
    pub node_in : node < nodes tb
    pub own : definition_of tb node ≡ d
    pub branch_in : branch < branch_count tb node
    pub spawns : at tb (branch_at tb node branch) Field.action ≡ 4

  -- each call goes to a definition with a higher number, or to its own where that has no spawn
  abbrev pub Permitted : Type 0
  Permitted = (n : ℕ) → n < nodes tb → kind_of tb n ≡ 2
      → (definition_of tb n < callee tb n) ⊎ ((callee tb n ≡ definition_of tb n) × (¬ HasSpawn (definition_of tb n)))

  -- a call goes to a definition with a lower number, or to its own, which has a spawn
  pub record Forbidden : Type 0 where
    pub node : ℕ
    pub node_in : node < nodes tb
    pub calls : kind_of tb node ≡ 2
    pub goes : (callee tb node < definition_of tb node) ⊎ ((callee tb node ≡ definition_of tb node) × HasSpawn (definition_of tb node))

  pub has_spawn_iff : (d : ℕ) → (has_spawn tb d ≡ true) ↔ HasSpawn d
  unfolding has_spawn spawns_in node_spawns is_spawn
  has_spawn_iff d = (
    λ e. let (n, h, y) = some_elim (spawns_in tb d) (nodes tb) e in
        let (i, l, z) = some_elim (is_spawn tb n) (branch_count tb n) (search parts) in
        record { node = n; branch = i; node_in = h; own = eqb-true (definition_of tb n) d (search parts); branch_in = l; spawns = eqb-true _ 4 z },
    λ s. let n = s.node in
        let y = some_intro (is_spawn tb n) (branch_count tb n) s.branch s.branch_in (eq-eqb _ 4 s.spawns) in
        some_intro (spawns_in tb d) (nodes tb) n s.node_in (rw (eq-eqb (definition_of tb n) d s.own, y)),
  )

  not_both : Permitted → ¬ Forbidden
  not_both f k =
      ⊎_elim (λ l. ⊎_elim (λ m. omega arith) (λ (e, s). omega arith) k.goes)
      (λ (e, none). ⊎_elim (λ m. omega arith) (λ (q, s). none s) k.goes)
      (f k.node k.node_in k.calls)

  permitted : calls_allowed tb ≡ true → Permitted
  permitted ok n h k = allowed_cases tb ok n h k (λ l. inl l) (λ e s. inr (e, λ z. contra ((has_spawn_iff (definition_of tb n)).1 z) s))

  forbidden_at : (n : ℕ) → n < nodes tb → node_allowed tb n ≡ false → Forbidden
  unfolding node_allowed call_allowed
  forbidden_at n h f =
      let d = definition_of tb n in
      let e = callee tb n in
      case_b (eqb (kind_of tb n) 2)
      (λ y. case_b (ltb d e) (λ z. contra (rw (y, z)) f)
      (λ z. record {
        node = n;
        node_in = h;
        calls = eqb-true (kind_of tb n) 2 y;
        goes = case_b (eqb e d)
            (λ w. inr (eqb-true e d w, (has_spawn_iff d).0 (case_b (has_spawn tb d) (λ v. v) (λ v. contra (rw (y, z, w, v)) f))))
            (λ w. inl (omega (arith, ltb-false d e z, eqb-false e d w)));
      }))
      (λ y. contra (rw y) f)

  found : calls_allowed tb ≡ false → Forbidden
  unfolding calls_allowed
  found e = let (n, h, f) = every_fails (node_allowed tb) (nodes tb) e in forbidden_at n h f

  pub allowed_iff : (calls_allowed tb ≡ true) ↔ Permitted
  allowed_iff = (permitted, λ f. case_b (calls_allowed tb) (λ y. y) (λ y. absurd (not_both f (found y))))

  pub forbidden_iff : (calls_allowed tb ≡ false) ↔ Forbidden
  forbidden_iff = (found, λ k. case_b (calls_allowed tb) (λ y. absurd (not_both (permitted y) k)) (λ y. y))

-- ---- the answers

-- some file loads to the table
abbrev pub IsTable : List ℕ → Type 0
IsTable table = (file : List ℕ) × FileOf table file

-- when each answer is due. A table to which a file loads has the right length
unfoldable pub Due : List ℕ → Profiled → Type 0
Due table (Err ProfileRefusal.WrongLength) = length table ≢ table_length
Due table (Err ProfileRefusal.WrongTable) = (length table ≡ table_length) × ((file : List ℕ) → ¬ FileOf table file)
Due table (Err ProfileRefusal.ForbiddenCall) = IsTable table × Forbidden (table_of table)
Due table (Err ProfileRefusal.ManyThreads) = IsTable table × Permitted (table_of table) × (max_threads < definition_bound (table_of table) 0)
Due table (Ok n) = IsTable table × Permitted (table_of table) × (n ≡ definition_bound (table_of table) 0) × (n ≤ max_threads)

-- of a table that is bytes, as a slice is
module _ (table : List ℕ) (fit : Characters table) where
  abbrev tb : Table
  tb = table_of table

  answer_due : Due table (profile_call table)
  unfolding Due profile_call profile_of within_rows
  answer_due =
      case_b (eqb (length table) table_length)
      (λ e. case_b (accepted table)
      (λ y. let f = (accepted_of table fit).0 y in case_b (calls_allowed tb)
      (λ c. case_b (leb (definition_bound tb 0) max_threads)
      (λ b. rw (e, y, c, b) (f, (allowed_iff tb).0 c, refl, leb-true _ max_threads b))
      (λ b. rw (e, y, c, b) (f, (allowed_iff tb).0 c, leb-false _ max_threads b)))
      (λ c. rw (e, y, c) (f, (forbidden_iff tb).0 c)))
      (λ y. rw (e, y) (eqb-true (length table) table_length e, (refused_of table fit).0 y)))
      (λ e. rw e (eqb-false (length table) table_length e))

  pub table_accepted : IsTable table → accepted table ≡ true
  table_accepted = (accepted_of table fit).1

  long : accepted table ≡ true → eqb (length table) table_length ≡ true
  unfolding accepted
  long y = search parts

  due_answer_lem : (x : Profiled) → Due table x → profile_call table ≡ x
  unfolding Due profile_call profile_of within_rows
  due_answer_lem (Err ProfileRefusal.WrongLength) n = rw (ne_eqb (length table) table_length n)
  due_answer_lem (Err ProfileRefusal.WrongTable) (e, none) = rw (eq-eqb (length table) table_length e, (refused_of table fit).1 none)
  due_answer_lem (Err ProfileRefusal.ForbiddenCall) (f, k) = let y = table_accepted f in rw (long y, y, (forbidden_iff tb).1 k)
  due_answer_lem (Err ProfileRefusal.ManyThreads) (f, p, b) = let y = table_accepted f in rw (long y, y, (allowed_iff tb).1 p, lt-leb (definition_bound tb 0) max_threads b)
  due_answer_lem (Ok n) (f, p, e, b) = let y = table_accepted f in rw (long y, y, (allowed_iff tb).1 p, ← e, le-leb n max_threads b)

  -- each answer is given exactly when it is due; and the same, ground by ground
  pub answer_iff : (x : Profiled) → (profile_call table ≡ x) ↔ Due table x
  answer_iff x = (λ e. rw e at answer_due, due_answer_lem x)

  pub length_iff : (profile_call table ≡ Err ProfileRefusal.WrongLength) ↔ (length table ≢ table_length)
  unfolding Due
  length_iff = answer_iff (Err ProfileRefusal.WrongLength)

  -- 9: it has a table's length, and no file loads to it
  pub table_iff : (profile_call table ≡ Err ProfileRefusal.WrongTable) ↔ ((length table ≡ table_length) × ((file : List ℕ) → ¬ FileOf table file))
  unfolding Due
  table_iff = answer_iff (Err ProfileRefusal.WrongTable)

  pub call_iff : (profile_call table ≡ Err ProfileRefusal.ForbiddenCall) ↔ (IsTable table × Forbidden (table_of table))
  unfolding Due
  call_iff = answer_iff (Err ProfileRefusal.ForbiddenCall)

  pub threads_iff : (profile_call table ≡ Err ProfileRefusal.ManyThreads)
      ↔ (IsTable table × Permitted (table_of table) × (max_threads < definition_bound (table_of table) 0))
  unfolding Due
  threads_iff = answer_iff (Err ProfileRefusal.ManyThreads)

  pub passes_iff : (n : ℕ) → (profile_call table ≡ Ok n)
      ↔ (IsTable table × Permitted (table_of table) × (n ≡ definition_bound (table_of table) 0) × (n ≤ max_threads))
  unfolding Due
  passes_iff n = answer_iff (Ok n)

  -- the number that a table passes with is that of one thread at least, and of no more threads than there are rows
  pub passes_some : (n : ℕ) → profile_call table ≡ Ok n → (1 ≤ n) × (n ≤ max_threads)
  passes_some n e =
      let (f, p, q, b) = (passes_iff n).0 e in
      let a = allowed table (table_accepted f) fit ((allowed_iff tb).1 p) in
      (omega (arith, definition_some tb a 0 a.grants.some_definition), b)
