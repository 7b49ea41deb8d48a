-- A row that goes on within its definition, and in which no channel slot gets another channel, holds the channels that it held. Assumes nothing.
use Prim.Native.Nat.{ℕ, ◌<◌}
use Rattle.std.specs.Prelude.{◌≡◌, false, List, ◌∷◌, ltb}
use Rattle.std.proofs.Math.Path.{refl, sym}
use Rattle.std.proofs.Common.{◌∙◌}
use Rattle.std.proofs.Math.Bool.{true, cond}
use borrow.Author.Tests.{eqb-true}
use Rattle.std.proofs.Math.Dec.{eqb}
use Rattle.numbers.specs.Search.{every, tabulate}
use Rattle.numbers.specs.Tests.{parts}
use Rattle.numbers.specs.Search.Laws.{case_b, contra, every_elim, some_cong, get_d_tabulate}
use Rattle.table.specs.Table.{Table, parameters, slot_count}
use Rattle.table.specs.Layout.{start, definition_of, slot_type}
use Rattle.table.specs.declared.Part.TheVariants.{Nodes}
use Rattle.state.specs.State.{row_slots, status, stands_at, slot_of, in_use}
use Rattle.rules.specs.Program.{channel_slot, blank, callee, argument}
use Rattle.rules.specs.Holding.{has_at, holds}
use Rattle.rules.specs.Start.{entered}
use Rattle.rules.specs.Moves.{resumed, waiting_row, stored, met}
use Rattle.rules.specs.declared.Direction.{Direction}
use Rattle.rules.specs.declared.Direction.TheVariants.{Out, In}
use Rattle.call_rows.specs.CalledRow.{call_at, slot_kept, call_keeps}
use Rattle.rules_laws.specs.Reading.Laws.{head_slot}
use Rattle.rules_laws.specs.ThreadRow.{resumed_node, resumed_slot, waiting_slot, stored_status, stored_node, stored_other}

number_slot : (tb : Table) (d k : ℕ) → slot_type tb d k ≡ 0 → channel_slot tb d k ≡ false
unfolding channel_slot
number_slot tb d k e = rw e (case_b (ltb k (slot_count tb d)) (λ y. rw y) (λ z. rw z))

-- ---- rows of one definition with the same channel slots hold the same

module _ (tb : Table) (row new : List ℕ) where
  alike : in_use new ≡ true → in_use row ≡ true → definition_of tb (stands_at new) ≡ definition_of tb (stands_at row)
      → ((k : ℕ) → k < row_slots → channel_slot tb (definition_of tb (stands_at row)) k ≡ true → slot_of new k ≡ slot_of row k) → (c : ℕ)
      → holds tb new c ≡ holds tb row c
  unfolding holds has_at
  alike u v d f c =
      rw (u, v, some_cong (has_at tb new c) (has_at tb row c) 16 (λ k h. case_b (channel_slot tb (definition_of tb (stands_at row)) k) (λ y. rw (d, y, f k h y)) (λ z. rw (d, z))))

module _ (tb : Table) (row : List ℕ) (u : in_use row ≡ true) where
  -- it waits
  pub waiting_holds : (c : ℕ) → holds tb (waiting_row row) c ≡ holds tb row c
  unfolding waiting_row
  waiting_holds = alike tb row (waiting_row row) refl u refl (λ k h y. waiting_slot row k)

  -- it goes on, and a slot is written
  module _ (n k v : ℕ) where
    pub resumed_holds : definition_of tb n ≡ definition_of tb (stands_at row) → (c : ℕ) → holds tb (resumed row n) c ≡ holds tb row c
    unfolding resumed
    resumed_holds d = alike tb row (resumed row n) refl u d (λ j h y. resumed_slot row n j)

    pub stored_holds : definition_of tb n ≡ definition_of tb (stands_at row) → slot_type tb (definition_of tb (stands_at row)) k ≡ 0
        → (c : ℕ) → holds tb (stored (resumed row n) k v) c ≡ holds tb row c
    unfolding resumed
    stored_holds d z =
        let no = number_slot tb (definition_of tb (stands_at row)) k z in
        let st : status (stored (resumed row n) k v) ≡ 1 = stored_status (resumed row n) k v in
        let nd : stands_at (stored (resumed row n) k v) ≡ n = stored_node (resumed row n) k v ∙ resumed_node row n in
        alike tb row (stored (resumed row n) k v) (rw st) u (rw nd d)
        (λ j h y. stored_other (resumed row n) k v j (λ p. contra y (rw p no)) ∙ resumed_slot row n j)

  -- it goes on after a side of a meeting, with a number
  pub met_holds : (n k v : ℕ) → definition_of tb n ≡ definition_of tb (stands_at row) → slot_type tb (definition_of tb (stands_at row)) k ≡ 0
      → (d : Direction) (c : ℕ) → holds tb (met d row n k v) c ≡ holds tb row c
  unfolding met
  met_holds n k v e z Out = resumed_holds n k v e
  met_holds n k v e z In = stored_holds n k v e z

  -- a call of its own definition, by which every channel slot gets what it has
  pub call_holds : call_keeps tb row ≡ true → (c : ℕ)
      → holds tb (entered tb (callee tb (stands_at row)) (λ k. slot_of row (argument tb (stands_at row) k))) c ≡ holds tb row c
  unfolding call_keeps slot_kept call_at entered
  call_holds e =
      let d = callee tb (stands_at row) in
      let n = start tb Nodes d in
      let f : ℕ → ℕ = λ k. cond (ltb k (parameters tb d)) (slot_of row (argument tb (stands_at row) k)) (blank tb d k) in
      let own : eqb (definition_of tb (stands_at row)) d ≡ true = search parts in
      let first : eqb (definition_of tb n) d ≡ true = search parts in
      let kept : every (slot_kept tb row d) 16 ≡ true = search parts in
      let q : definition_of tb (stands_at row) ≡ d = eqb-true (definition_of tb (stands_at row)) d own in
      alike tb row (1 ∷ n ∷ tabulate 16 f) refl u (eqb-true (definition_of tb n) d first ∙ sym q)
      (λ k h y.
      let z : channel_slot tb d k ≡ true = rw q at y in
      let s = every_elim (slot_kept tb row d) 16 k kept h in
      let same : eqb (call_at tb row d k) (slot_of row k) ≡ true = rw z at s in
      head_slot 1 n (tabulate 16 f) k ∙ get_d_tabulate 16 k f 0 h ∙ eqb-true (call_at tb row d k) (slot_of row k) same)
