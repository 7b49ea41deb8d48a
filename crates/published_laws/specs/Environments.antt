-- The environment of a thread's row: guards and sums read it as the engine reads the slots, a store is a binding, and who knows a channel holds it. Assumes
-- nothing but what the table grants.
use Rattle.std.specs.Prelude.{ℕ, ◌<◌, ◌≤◌, ◌≡◌, ◌≢◌, true, false, ◌&&◌, List, ltb, eqb, None, Some}
use Rattle.std.proofs.Common.{arith, ◌∙◌}
use Rattle.std.proofs.Math.Path.{refl, sym, ap}
use Rattle.std.proofs.Math.ListN.{length, get_or-eq_default}
use borrow.Author.Tests.{ltb-true, ltb-false, lt-ltb, eqb-true, eqb-false, eq-eqb, ne_eqb}
use Rattle.numbers.specs.Rows.{at}
use Rattle.numbers.specs.Search.{tabulate}
use Rattle.numbers.specs.Search.Laws.{case_b, contra, same_truth, get_d_tabulate, length_tabulate, tabulate_cong, is_tabulate}
use Rattle.numbers.specs.Tests.{clash, and_true}
use Rattle.table.specs.Fields as Field
use Rattle.table.specs.Table.{Table, slot_count}
use Rattle.table.specs.Layout.{branch_count, definition_of, slot_type}
use Rattle.flow.specs.Flow.{may_lack}
use Rattle.state.specs.State.{max_channels, row_slots, stands_at, slot_of, in_use}
use Rattle.rules.specs.Program.{checked_sum, checked_difference, fitting, branch_at, field_b, field_c, act_of, printed_guard, assigned, guard_holds}
use Rattle.rules.specs.Holding.{holds}
use Rattle.rules.specs.declared.Act.{Act}
use Rattle.rules.specs.declared.Act.TheVariants.{Tau, Meeting, New, Spawn, Assignment}
use Rattle.rules_laws.specs.Granted.{Granted}
use Rattle.rules_laws.specs.Codes.{assigns_by}
use Rattle.rules_laws.specs.Reading.Laws.{holds_elim, holds_intro}
use Rattle.rules_laws.specs.Soundness.{SlotSound, spare, number, unfilled, filled, RowSound}
use Rattle.rules_laws.specs.Onward.{own_slot}
use Rattle.published.specs.Agents as Agents
use Rattle.published.specs.Agents.{Value, look, bind, numeric, number_of, value_of, Thread, knows}
use Rattle.published.specs.Bindings.{look_bound, look_other, length_bound, knows_iff}
use Rattle.published_laws.specs.Readable.{NumberSlot, Readable}
use Rattle.published_laws.specs.Standing.{printed_guard_of, expression_of, guard_by, guard_of, value_as, slot_value, trimmed, env_of}
use Rattle.published_laws.specs.Trimmed.{look_trimmed, trimmed_bound}

-- ---- values

-- a channel that is one
value_channel : (ty v c : ℕ) → value_as ty v ≡ Some (Agents.channel c) → (ty ≢ 0) × (v < max_channels) × (v ≡ c)
unfolding value_as
value_channel ty v c e =
    case_b (eqb ty 0)
    (λ y. clash (let q : Some (Agents.number v) ≡ Some (Agents.channel c) = rw y at e in cc))
    (λ y. case_b (ltb v max_channels)
    (λ z. (eqb-false ty 0 y, ltb-true v max_channels z, let q : Some (Agents.channel v) ≡ Some (Agents.channel c) = rw (y, z) at e in cc))
    (λ z. clash (let q : None ≡ Some (Agents.channel c) = rw (y, z) at e in cc)))

pub channel_value : (ty v : ℕ) → ty ≢ 0 → v < max_channels → value_as ty v ≡ Some (Agents.channel v)
unfolding value_as
channel_value ty v n l = rw (ne_eqb ty 0 n, lt-ltb v max_channels l)

pub number_value : (ty v : ℕ) → ty ≡ 0 → value_as ty v ≡ Some (Agents.number v)
unfolding value_as
number_value ty v e = rw (eq-eqb ty 0 e)

-- ---- the environment of a row

module _ (tb : Table) (row : List ℕ) where
  abbrev n : ℕ
  n = stands_at row

  pub look_env : (k : ℕ) → k < row_slots → look (env_of tb row) k ≡ slot_value tb row k
  unfolding env_of
  look_env k l = look_trimmed (tabulate row_slots (slot_value tb row)) k ∙ get_d_tabulate row_slots k (slot_value tb row) None l

  pub look_past : (k : ℕ) → row_slots ≤ k → look (env_of tb row) k ≡ None
  unfolding env_of
  look_past k l =
      let δ = tabulate row_slots (slot_value tb row) in
      look_trimmed δ k ∙ get_or-eq_default δ None {n = k} (omega (arith, length_tabulate row_slots (slot_value tb row)))

  -- a slot of the definition has its value by its type
  pub slot_value_lem : (k : ℕ) → k < slot_count tb (definition_of tb (stands_at row))
      → slot_value tb row k ≡ value_as (slot_type tb (definition_of tb (stands_at row)) k) (slot_of row k)
  unfolding slot_value
  slot_value_lem k l = rw (lt-ltb k (slot_count tb (definition_of tb (stands_at row))) l)

  slot_channel : (k c : ℕ) → slot_value tb row k ≡ Some (Agents.channel c)
      → (k < slot_count tb (definition_of tb (stands_at row))) × (slot_type tb (definition_of tb (stands_at row)) k ≢ 0) × (c < max_channels) × (slot_of row k ≡ c)
  unfolding slot_value
  slot_channel k c e =
      let w = slot_count tb (definition_of tb (stands_at row)) in
      let ty = slot_type tb (definition_of tb (stands_at row)) k in
      case_b (ltb k w)
      (λ y. let (a, b, q) = value_channel ty (slot_of row k) c (rw y at e) in (ltb-true k w y, a, rw (← q) b, q))
      (λ y. clash (let q : None ≡ Some (Agents.channel c) = rw y at e in cc))

  -- ---- who knows a channel

  env_held : in_use row ≡ true → (c : ℕ) (t : Thread) → t.env ≡ env_of tb row → (x : ℕ) → look t.env x ≡ Some (Agents.channel c) → holds tb row c ≡ true
  env_held u c t q x e =
      let f : look (env_of tb row) x ≡ Some (Agents.channel c) = rw q at e in
      case_b (ltb x row_slots)
      (λ y. let l = ltb-true x row_slots y in
      let (a, b, m, h) = slot_channel x c (sym (look_env x l) ∙ f) in
      holds_intro tb row c (record { used = u; channel_in = m; slot = x; slot_in = l; slot_own = a; typed = b; is = h }))
      (λ y. clash (let z : None ≡ Some (Agents.channel c) = sym (look_past x (ltb-false x row_slots y)) ∙ f in cc))

  held_env : (c : ℕ) → holds tb row c ≡ true → (x : ℕ) × (look (env_of tb row) x ≡ Some (Agents.channel c))
  held_env c e =
      let h = holds_elim tb row c e in (
        h.slot,
        look_env h.slot h.slot_in ∙ slot_value_lem h.slot h.slot_own
            ∙ ap (λ v. value_as (slot_type tb (definition_of tb (stands_at row)) h.slot) v) h.is
            ∙ channel_value (slot_type tb (definition_of tb (stands_at row)) h.slot) c h.typed h.channel_in,
      )

  -- a thread with this environment knows just what the row holds
  pub knows_held : in_use row ≡ true → (c : ℕ) (t : Thread) → t.env ≡ env_of tb row → knows c t ≡ holds tb row c
  knows_held u c t q =
      same_truth (knows c t) (holds tb row c)
      (λ y. let (x, e) = (knows_iff c t).0 y in env_held u c t q x e)
      (λ y. let (x, e) = held_env c y in (knows_iff c t).1 (x, rw q e))

-- ---- rows of the same definition

module _ (tb : Table) (row new : List ℕ) (same : definition_of tb (stands_at new) ≡ definition_of tb (stands_at row)) where
  value_same : (k : ℕ) → slot_of new k ≡ slot_of row k → slot_value tb new k ≡ slot_value tb row k
  unfolding slot_value
  value_same k e = rw (same, e)

  pub env_same : ((k : ℕ) → slot_of new k ≡ slot_of row k) → env_of tb new ≡ env_of tb row
  unfolding env_of
  env_same h = ap trimmed (tabulate_cong row_slots (slot_value tb new) (slot_value tb row) (λ k l. value_same k (h k)))

  -- a store is a binding
  pub env_bound : (a : ℕ) (v : Value) → a < row_slots → slot_value tb new a ≡ Some v → ((k : ℕ) → k ≢ a → slot_of new k ≡ slot_of row k)
      → bind (env_of tb row) a v ≡ env_of tb new
  unfolding env_of
  env_bound a v l e h =
      let δ = tabulate row_slots (slot_value tb row) in
      let long : length δ ≡ row_slots = length_tabulate row_slots (slot_value tb row) in
      sym (trimmed_bound δ a v) ∙ ap trimmed (is_tabulate (bind δ a v) row_slots (slot_value tb new) None
      (length_bound δ a v (omega (arith, long)) ∙ long)
      (λ k m. case_b (eqb k a)
      (λ y. let q : k ≡ a = eqb-true k a y in rw q (look_bound δ a v ∙ sym e))
      (λ y. let q : k ≢ a = eqb-false k a y in look_other δ a k v q ∙ get_d_tabulate row_slots k (slot_value tb row) None m ∙ sym (value_same k (h k q)))))

-- ---- what is read

module _ (tb : Table) (g : Granted tb) (rd : Readable tb) (ty : ℕ → ℕ) (row : List ℕ) (r : RowSound tb ty row) (u : in_use row ≡ true) where
  -- a slot for numbers
  number_read : (k : ℕ) → NumberSlot tb (stands_at row) k → number_of (env_of tb row) k ≡ slot_of row k
  unfolding numeric
  number_read k (l, z) =
      let h : look (env_of tb row) k ≡ Some (Agents.number (slot_of row k)) =
      look_env tb row k (own_slot tb g ty row r u k l) ∙ slot_value_lem tb row k l ∙ number_value (slot_type tb (definition_of tb (stands_at row)) k) (slot_of row k) z in
      rw h

  -- a slot that is surely written has a value
  pub filled_value : (k : ℕ) → k < slot_count tb (definition_of tb (stands_at row)) → may_lack tb (stands_at row) k ≡ false
      → (w : Value) × (value_as (slot_type tb (definition_of tb (stands_at row)) k) (slot_of row k) ≡ Some w)
  filled_value k l f = by_slot (r.slots u k (own_slot tb g ty row r u k l))
    where
      by_slot : SlotSound tb ty (stands_at row) k (slot_of row k) → (w : Value) × (value_as (slot_type tb (definition_of tb (stands_at row)) k) (slot_of row k) ≡ Some w)
      by_slot (spare a z) = absurd (omega arith)
      by_slot (number a z) = (Agents.number (slot_of row k), number_value (slot_type tb (definition_of tb (stands_at row)) k) (slot_of row k) z)
      by_slot (unfilled a z m v) = contra m f
      by_slot (filled a z v e) = (Agents.channel (slot_of row k), channel_value (slot_type tb (definition_of tb (stands_at row)) k) (slot_of row k) z v)

  pub look_filled : (k : ℕ) → k < slot_count tb (definition_of tb (stands_at row))
      → look (env_of tb row) k ≡ value_as (slot_type tb (definition_of tb (stands_at row)) k) (slot_of row k)
  look_filled k l = look_env tb row k (own_slot tb g ty row r u k l) ∙ slot_value_lem tb row k l

  module _ (i : ℕ) (l : i < branch_count tb (stands_at row)) where
    abbrev b : ℕ
    b = branch_at tb (stands_at row) i

    -- a guard, as the file has it, is true in the environment just if it is in the row
    pub printed_same : Agents.holds (env_of tb row) (printed_guard_of tb (branch_at tb (stands_at row) i)) ≡ printed_guard tb (branch_at tb (stands_at row) i) row
    unfolding printed_guard printed_guard_of Agents.holds
    printed_same =
        let h = rd.reading (stands_at row) i (r.node_in u) l in
        case_b (eqb (at tb b Field.guard) 0) (λ e. rw e)
        (λ e. let x = number_read (at tb b Field.first) (h.guard_first (eqb-false (at tb b Field.guard) 0 e)) in
        case_b (eqb (at tb b Field.guard) 1) (λ f. rw (e, f, x))
        (λ f. case_b (eqb (at tb b Field.guard) 2) (λ j. rw (e, f, j, x))
        (λ j. let y = number_read (at tb b Field.second) (h.guard_second (omega (arith, eqb-false (at tb b Field.guard) 0 e, eqb-false (at tb b Field.guard) 1 f, eqb-false (at tb b Field.guard) 2 j))) in
        case_b (eqb (at tb b Field.guard) 3) (λ k. rw (e, f, j, k, x, y)) (λ k. rw (e, f, j, k, x, y)))))

    -- what is assigned
    pub assigned_same : act_of tb (branch_at tb (stands_at row) i) ≡ Assignment
        → value_of (env_of tb row) (expression_of tb (branch_at tb (stands_at row) i)) ≡ assigned tb (branch_at tb (stands_at row) i) row
    unfolding assigned checked_sum checked_difference expression_of value_of
    assigned_same m =
        let h = rd.reading (stands_at row) i (r.node_in u) l in
        let c = assigns_by tb b m in
        case_b (eqb (at tb b Field.action) 5) (λ e. rw e)
        (λ e. let above : 5 < at tb b Field.action = omega (arith, eqb-false (at tb b Field.action) 5 e) in
        let x = number_read (field_b tb b) (h.sum_first above) in
        let y = number_read (field_c tb b) (h.sum_second above) in
        case_b (eqb (at tb b Field.action) 6) (λ f. rw (e, f, x, y)) (λ f. rw (e, f, x, y)))

    guard_by_lem : (a : Act) → act_of tb (branch_at tb (stands_at row) i) ≡ a
        → Agents.holds (env_of tb row) (guard_by tb (branch_at tb (stands_at row) i) a)
        ≡ (printed_guard tb (branch_at tb (stands_at row) i) row && fitting a (assigned tb (branch_at tb (stands_at row) i) row))
    unfolding guard_by fitting Agents.holds
    guard_by_lem Tau e = printed_same ∙ and_true (printed_guard tb b row)
    guard_by_lem (Meeting d) e = printed_same ∙ and_true (printed_guard tb b row)
    guard_by_lem New e = printed_same ∙ and_true (printed_guard tb b row)
    guard_by_lem Spawn e = printed_same ∙ and_true (printed_guard tb b row)
    guard_by_lem Assignment e = rw (printed_same, assigned_same e)

    -- so is the guard that counts
    pub guard_same : Agents.holds (env_of tb row) (guard_of tb (branch_at tb (stands_at row) i)) ≡ guard_holds tb (branch_at tb (stands_at row) i) row
    unfolding guard_holds guard_of
    guard_same = guard_by_lem (act_of tb b) refl
