-- A thread that goes on by one of its branches has a sound row, and is ready. Assumes nothing but what the table grants.
use Rattle.std.specs.Prelude.{ℕ, ◌<◌, ◌≡◌, true, List, Option, ℤ}
use Rattle.std.proofs.Common.{arith, ⊎_elim, of_z}
use Rattle.std.proofs.Math.Path.{refl}
use mir.Syntax.{w32}
use Rattle.std.proofs.Math.Facts.{Fits-of_z}
use Rattle.table.specs.Table.{Table, slot_count}
use Rattle.table.specs.Layout.{branch_count, definition_of}
use Rattle.state.specs.State.{max_channels, row_slots, stands_at, in_use, is_ready}
use Rattle.rules.specs.Program.{type_at, branch_at, next_of, child_of, field_a, field_b, act_of, assigned, guard_holds}
use Rattle.rules.specs.Moves.{resumed, stored, met, gone, side_of, gone_by, created_by, met_by, type_by}
use Rattle.rules.specs.declared.Direction.{Direction}
use Rattle.rules.specs.declared.Direction.TheVariants.{Out, In}
use Rattle.rules.specs.declared.Act.{Act}
use Rattle.rules.specs.declared.Act.TheVariants.{Tau, Meeting, New, Spawn, Assignment}
use Rattle.rules_laws.specs.Granted.{Writes, Branching, Granted}
use Rattle.rules_laws.specs.Guards.{assigned_fits, gone_rows, assigning}
use Rattle.rules_laws.specs.Soundness.{SlotSound, number, filled, RowSound}
use Rattle.rules_laws.specs.ThreadRow.{resumed_ready, stored_status, resumed_sound, stored_sound}

-- ---- it is ready

module _ (row : List ℕ) (n k : ℕ) where
  pub stored_ready : (v : ℕ) → is_ready (stored (resumed row n) k v) ≡ true
  stored_ready v = rw (stored_status (resumed row n) k v) (resumed_ready row n)

  gone_ready : (v : Option ℤ) (a : Act) → is_ready (gone a row n k v) ≡ true
  gone_ready = gone_rows (λ r. is_ready r ≡ true) row n k (resumed_ready row n) stored_ready

  met_ready : (v : ℕ) (d : Direction) → is_ready (met d row n k v) ≡ true
  unfolding met
  met_ready v Out = resumed_ready row n
  met_ready v In = stored_ready v

module _ (tb : Table) (row : List ℕ) (i : ℕ) where
  pub gone_by_ready : is_ready (gone_by tb row i) ≡ true
  unfolding gone_by
  gone_by_ready = gone_ready row (next_of tb (stands_at row) (branch_at tb (stands_at row) i)) (field_a tb (branch_at tb (stands_at row) i))
      (assigned tb (branch_at tb (stands_at row) i) row) (act_of tb (branch_at tb (stands_at row) i))

  pub created_by_ready : (c : ℕ) → is_ready (created_by tb row i c) ≡ true
  unfolding created_by
  created_by_ready c = stored_ready row (next_of tb (stands_at row) (branch_at tb (stands_at row) i)) (field_a tb (branch_at tb (stands_at row) i)) c

  pub met_by_ready : (v : ℕ) → is_ready (met_by tb row i v) ≡ true
  unfolding met_by
  met_by_ready v = met_ready row (next_of tb (stands_at row) (branch_at tb (stands_at row) i)) (field_b tb (branch_at tb (stands_at row) i)) v
      (side_of (act_of tb (branch_at tb (stands_at row) i)))

-- ---- a thread in use, with a sound row, and branch i of its node

module _ (tb : Table) (g : Granted tb) (ty : ℕ → ℕ) (row : List ℕ) (r : RowSound tb ty row) (u : in_use row ≡ true) where
  -- its definition's slots have a place in the row
  pub own_slot : (k : ℕ) → k < slot_count tb (definition_of tb (stands_at row)) → k < row_slots
  own_slot k l =
      let d = g.definition (definition_of tb (stands_at row)) (g.definition_in (stands_at row) (r.node_in u)) in
      omega (arith, l, d.few_slots)

  module _ (i : ℕ) (l : i < branch_count tb (stands_at row)) where
    -- the node, the row of the branch, and the node to which it leads
    abbrev n : ℕ
    n = stands_at row

    abbrev b : ℕ
    b = branch_at tb (stands_at row) i

    abbrev m : ℕ
    m = next_of tb (stands_at row) (branch_at tb (stands_at row) i)

    pub branching : Branching tb n b
    branching = g.branch n i (r.node_in u) l

    -- what surely stands in a slot at the next node and was not written
    same_sound : ((k : ℕ) → Writes tb b (act_of tb b) k → ⊥) → RowSound tb ty (resumed row m)
    same_sound h =
        resumed_sound tb g.few_nodes ty row r u m branching.next
        (λ k j f. ⊎_elim (λ x. x) (λ x. absurd (h k x)) (branching.next_filled k j f))

    store_sound : (a v : ℕ) → a < slot_count tb (definition_of tb n) → v < 4294967296 → ((k : ℕ) → Writes tb b (act_of tb b) k → k ≡ a)
        → SlotSound tb ty m a v → RowSound tb ty (stored (resumed row m) a v)
    store_sound a v o q h f =
        stored_sound tb g.few_nodes ty row r u m branching.next a v (own_slot a o) q
        (λ k j e y. ⊎_elim (λ x. x) (λ x. absurd (e (h k x))) (branching.next_filled k j y)) f

    pub tau_sound : act_of tb b ≡ Tau → RowSound tb ty (gone_by tb row i)
    unfolding gone_by gone Writes
    tau_sound e = rw e (same_sound (λ k w. rw e at w))

    pub assigned_sound : guard_holds tb b row ≡ true → act_of tb b ≡ Assignment → RowSound tb ty (gone_by tb row i)
    unfolding Writes
    assigned_sound p e =
        let (o, z) = branching.assigns e in
        let q = branching.next.same in
        let a = assigning tb row i p e in
        let f = assigned_fits tb b row (g.small b 6) a.z a.comes_to in
        rw a.goes (store_sound (field_a tb b) (of_z w32 a.z) o (Fits-of_z f).fits (λ k w. rw e at w) (number (rw q o) (rw q z)))

    -- channel c has the type of the slot
    pub created_sound : act_of tb b ≡ New → (c : ℕ) → c < max_channels → ty c ≡ type_by tb row i → RowSound tb ty (created_by tb row i c)
    unfolding created_by type_by type_at Writes
    created_sound e c h f =
        let (o, z) = branching.creates e in
        let q = branching.next.same in
        store_sound (field_a tb b) c o (omega arith) (λ k w. rw e at w) (filled (rw q o) (rw q z) h (rw q f))

    pub spawner_sound : act_of tb b ≡ Spawn → RowSound tb ty (resumed row m)
    unfolding Writes
    spawner_sound e = same_sound (λ k w. rw e at w)

    pub child_sound : act_of tb b ≡ Spawn → RowSound tb ty (resumed row (child_of tb n b))
    child_sound e = resumed_sound tb g.few_nodes ty row r u (child_of tb n b) (branching.child e) (branching.child_filled e)

    -- what the receiver gets fits its slot
    met_by_lem : (d : Direction) (v : ℕ) → act_of tb b ≡ Meeting d → (d ≡ In → (v < 4294967296) × SlotSound tb ty m (field_b tb b) v)
        → RowSound tb ty (met d row m (field_b tb b) v)
    unfolding met Writes
    met_by_lem Out v e h = same_sound (λ k w. rw e at w)
    met_by_lem In v e h =
        let (q, f) = h refl in
        store_sound (field_b tb b) v (branching.meets In e).with_slot_lem q (λ k w. rw e at w) f

    pub met_sound : (d : Direction) (v : ℕ) → act_of tb b ≡ Meeting d → (d ≡ In → (v < 4294967296) × SlotSound tb ty m (field_b tb b) v)
        → RowSound tb ty (met_by tb row i v)
    unfolding met_by side_of
    met_sound d v e h = rw e (met_by_lem d v e h)
