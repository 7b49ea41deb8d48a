-- What two threads that meet give to one another fits the slots: they hold the same channel, so their slots have the type that it carries. Assumes
-- nothing but what the table grants.
use Rattle.std.specs.Prelude.{ℕ, ◌+◌, ◌<◌, ◌≡◌, refl, true, List}
use Rattle.std.proofs.Math.Path.{sym, ap}
use Rattle.std.proofs.Common.{◌∙◌}
use Rattle.table.specs.Table.{Table, carried}
use Rattle.table.specs.Layout.{branch_count, definition_of, slot_type}
use Rattle.state.specs.State.{stands_at, slot_of, in_use}
use Rattle.rules.specs.Program.{branch_at, next_of, field_a, field_b, act_of}
use Rattle.rules.specs.Moves.{value_by}
use Rattle.rules.specs.declared.Direction.{Direction}
use Rattle.rules.specs.declared.Direction.TheVariants.{Out, In}
use Rattle.rules.specs.declared.Act.TheVariants.{Meeting}
use Rattle.rules_laws.specs.Granted.{MeetsBy, Granted}
use Rattle.rules_laws.specs.Soundness.{SlotSound, number, RowSound}
use Rattle.rules_laws.specs.ThreadRow.{fits, filled_typed}
use Rattle.rules_laws.specs.Onward.{own_slot, branching}

-- a thread in use, with a sound row, and branch i of its node, a meeting
module _ (tb : Table) (g : Granted tb) (ty : ℕ → ℕ) (row : List ℕ) (r : RowSound tb ty row) (u : in_use row ≡ true)
    (i : ℕ) (l : i < branch_count tb (stands_at row)) (d : Direction) (e : act_of tb (branch_at tb (stands_at row) i) ≡ Meeting d) where
  abbrev b : ℕ
  b = branch_at tb (stands_at row) i

  pub meets_by : MeetsBy tb (stands_at row) b d
  meets_by = (branching tb g ty row r u i l).meets d e

  -- its value slot has the type that its channel carries
  pub value_type : slot_type tb (definition_of tb (stands_at row)) (field_b tb b) ≡ carried tb (ty (slot_of row (field_a tb b)))
  value_type =
      let a = field_a tb b in
      meets_by.with_carried
      ∙ ap (carried tb) (sym (filled_typed tb ty (stands_at row) a (slot_of row a) meets_by.on_filled meets_by.on_slot meets_by.on_channel
      (r.slots u a (own_slot tb g ty row r u a meets_by.on_slot))))

  -- what is received on a channel that carries numbers
  pub number_received : carried tb (ty (slot_of row (field_a tb b))) ≡ 0 → (v : ℕ) → SlotSound tb ty (next_of tb (stands_at row) b) (field_b tb b) v
  number_received z v =
      let q = (branching tb g ty row r u i l).next.same in
      number (rw q meets_by.with_slot_lem) (rw q (value_type ∙ z))

module _ (tb : Table) (g : Granted tb) (ty : ℕ → ℕ) (row mate : List ℕ) (r : RowSound tb ty row) (r' : RowSound tb ty mate)
    (u : in_use row ≡ true) (u' : in_use mate ≡ true) (i j : ℕ) (l : i < branch_count tb (stands_at row)) (l' : j < branch_count tb (stands_at mate)) where
  abbrev ri : ℕ
  ri = branch_at tb (stands_at row) i

  abbrev rj : ℕ
  rj = branch_at tb (stands_at mate) j

  -- what the thread of the row mate sends may stand in the slot in which the thread of row receives it
  pub received : act_of tb ri ≡ Meeting In → act_of tb rj ≡ Meeting Out → slot_of row (field_a tb ri) ≡ slot_of mate (field_a tb rj)
      → (value_by tb mate j < 4294967296) × SlotSound tb ty (next_of tb (stands_at row) ri) (field_b tb ri) (value_by tb mate j)
  unfolding value_by
  received e e' c =
      let m = meets_by tb g ty row r u i l In e in
      let m' = meets_by tb g ty mate r' u' j l' Out e' in
      let q = (branching tb g ty row r u i l).next.same in
      let k = field_b tb rj in
      let type : slot_type tb (definition_of tb (stands_at row)) (field_b tb ri) ≡ slot_type tb (definition_of tb (stands_at mate)) k =
      value_type tb g ty row r u i l In e ∙ ap (λ x. carried tb (ty x)) c ∙ sym (value_type tb g ty mate r' u' j l' Out e') in (
        r'.small (2 + k),
        fits tb ty (stands_at mate) k (next_of tb (stands_at row) ri) (field_b tb ri) (slot_of mate k) (m'.with_filled refl) m'.with_slot_lem
            (rw q m.with_slot_lem) (rw q type) (r'.slots u' k (own_slot tb g ty mate r' u' k m'.with_slot_lem)),
      )
