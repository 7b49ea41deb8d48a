-- What a row that a move writes holds: what the row before it held, and what is stored in a channel slot. Assumes nothing but what the table
-- grants.
use Prim.Native.Nat.{ℕ, ◌<◌}
use Rattle.std.proofs.Common.{arith, sym, ◌∙◌, ap, inl, ltb-true, lt-ltb, eqb-true, ne_eqb}
use Rattle.std.specs.Prelude.{◌≡◌, true, List, ◌⊎◌, ◌≢◌, ltb, eqb, length}
use Rattle.std.proofs.Math.Path.{refl}
use Rattle.std.proofs.Math.Bool.{cond}
use Rattle.std.proofs.Math.Logic.{inr}
use Rattle.std.proofs.lemmas.Bool.{eqb-false}
use Rattle.numbers.specs.Search.{tabulate}
use Rattle.numbers.specs.Search.Laws.{case_b, contra, get_d_tabulate}
use Rattle.table.specs.Table.{Table, nodes, parameters, slot_count}
use Rattle.table.specs.Layout.{start, definition_of, slot_type}
use Rattle.table.specs.declared.Part.TheVariants.{Nodes}
use Rattle.state.specs.State.{max_channels, thread_words, row_slots, minus_one, stands_at, slot_of, in_use}
use Rattle.rules.specs.Program.{channel_slot, blank, callee, argument}
use Rattle.rules.specs.Holding.{holds}
use Rattle.rules.specs.Start.{free_row, entered}
use Rattle.rules.specs.Moves.{resumed, waiting_row, stored, met}
use Rattle.rules.specs.declared.Direction.{Direction}
use Rattle.rules.specs.declared.Direction.TheVariants.{Out, In}
use Rattle.rules_laws.specs.Granted.{Granted, Calling}
use Rattle.rules_laws.specs.Reading.{Holding}
use Rattle.rules_laws.specs.Reading.Laws.{head_slot, holds_elim, holds_intro}
use Rattle.rules_laws.specs.ThreadRow.{resumed_node, resumed_slot, resumed_long, waiting_slot, stored_node, stored_same, stored_other}

-- ---- a thread that waits or goes on

module _ (tb : Table) (row : List ℕ) (used : in_use row ≡ true) where
  -- what a row of the same definition holds by a slot that the two have in common
  same_slot : (new : List ℕ) → definition_of tb (stands_at new) ≡ definition_of tb (stands_at row) → (c : ℕ) (h : Holding tb new c)
      → slot_of new h.slot ≡ slot_of row h.slot → holds tb row c ≡ true
  same_slot new d c h e = holds_intro tb row c (record {
    used = used;
    channel_in = h.channel_in;
    slot = h.slot;
    slot_in = h.slot_in;
    slot_own = rw (← d) h.slot_own;
    typed = rw (← d) h.typed;
    is = sym e ∙ h.is;
  })

  -- it waits
  pub waiting_held : (c : ℕ) → holds tb (waiting_row row) c ≡ true → holds tb row c ≡ true
  unfolding waiting_row
  waiting_held c h = let o = holds_elim tb (waiting_row row) c h in same_slot (waiting_row row) refl c o (waiting_slot row o.slot)

  -- it goes on, at node n of the same definition
  module _ (n : ℕ) (same : definition_of tb n ≡ definition_of tb (stands_at row)) where
    pub resumed_held : (c : ℕ) → holds tb (resumed row n) c ≡ true → holds tb row c ≡ true
    unfolding resumed
    resumed_held c h = let o = holds_elim tb (resumed row n) c h in same_slot (resumed row n) same c o (resumed_slot row n o.slot)

    -- it goes on, and v is stored in slot k
    pub stored_held : length row ≡ thread_words → (k v : ℕ) → k < row_slots → (c : ℕ) → holds tb (stored (resumed row n) k v) c ≡ true
        → ((v ≡ c) × (slot_type tb (definition_of tb (stands_at row)) k ≢ 0)) ⊎ (holds tb row c ≡ true)
    stored_held long k v l c h =
        let new = stored (resumed row n) k v in
        let o = holds_elim tb new c h in
        let d : definition_of tb (stands_at new) ≡ definition_of tb (stands_at row) = rw (stored_node (resumed row n) k v, resumed_node row n) same in
        case_b (eqb o.slot k)
        (λ q. let p : o.slot ≡ k = eqb-true o.slot k q in
        let e : slot_of new o.slot ≡ v = ap (λ (j : ℕ). slot_of new j) p ∙ stored_same (resumed row n) k v (resumed_long row n long) l in
        inl (sym e ∙ o.is, λ z. o.typed (rw (d, p) z)))
        (λ q. inr (same_slot new d c o (stored_other (resumed row n) k v o.slot (eqb-false o.slot k q) ∙ resumed_slot row n o.slot)))

    -- it goes on and has met, as the side e, somebody who gave v
    pub met_held : length row ≡ thread_words → (e : Direction) (b v : ℕ) → b < row_slots → (c : ℕ) → holds tb (met e row n b v) c ≡ true
        → ((v ≡ c) × (slot_type tb (definition_of tb (stands_at row)) b ≢ 0)) ⊎ (holds tb row c ≡ true)
    unfolding met
    met_held long Out b v l c h = inr (resumed_held c h)
    met_held long In b v l c h = stored_held long b v l c h

-- a free row holds nothing
pub free_held {ℓ} : {A : Type ℓ} (tb : Table) (c : ℕ) → holds tb free_row c ≡ true → A
free_held tb c h = contra (holds_elim tb free_row c h).used refl

-- ---- a call

-- a channel slot that is no parameter has no channel
blank_held {ℓ} : {A : Type ℓ} (tb : Table) (d k c : ℕ) → k < slot_count tb d → slot_type tb d k ≢ 0 → blank tb d k ≡ c → c < max_channels → A
unfolding blank channel_slot
blank_held tb d k c l n e b =
    let q : minus_one ≡ c = rw (lt-ltb k (slot_count tb d) l, ne_eqb (slot_type tb d k) 0 n) at e in
    absurd (let h : ⊥ = omega (arith, q) in h)

module _ (tb : Table) (row : List ℕ) (used : in_use row ≡ true) (g : Granted tb) (within : stands_at row < nodes tb) (call : Calling tb (stands_at row)) where
  -- the definition that is called, and what is given to its parameters
  abbrev into : ℕ
  into = callee tb (stands_at row)

  abbrev given : ℕ → ℕ
  given k = slot_of row (argument tb (stands_at row) k)

  entered_word : (k : ℕ) → k < row_slots → slot_of (entered tb into given) k ≡ cond (ltb k (parameters tb into)) (given k) (blank tb into k)
  unfolding entered
  entered_word k l =
      let word : ℕ → ℕ = λ j. cond (ltb j (parameters tb into)) (given j) (blank tb into j) in
      head_slot 1 (start tb Nodes into) (tabulate row_slots word) k ∙ get_d_tabulate row_slots k word 0 l

  -- what slot k of the new row has
  entered_from : (c k : ℕ) → c < max_channels → k < row_slots → k < slot_count tb into → slot_type tb into k ≢ 0
      → cond (ltb k (parameters tb into)) (given k) (blank tb into k) ≡ c → holds tb row c ≡ true
  entered_from c k b l own n e =
      case_b (ltb k (parameters tb into))
      (λ p. let q = ltb-true k (parameters tb into) p in holds_intro tb row c (record {
        used = used;
        channel_in = b;
        slot = argument tb (stands_at row) k;
        slot_in = omega (arith, call.argument_slot k q, (g.definition (definition_of tb (stands_at row)) (g.definition_in (stands_at row) within)).few_slots);
        slot_own = call.argument_slot k q;
        typed = λ z. n (sym (call.argument_typed_lem k q) ∙ z);
        is = rw p at e;
      }))
      (λ p. blank_held tb into k c own n (rw p at e) b)

  -- the slots at the first node are those of the definition
  first_slot : (k : ℕ) → k < slot_count tb (definition_of tb (start tb Nodes into)) → slot_type tb (definition_of tb (start tb Nodes into)) k ≢ 0
      → (k < slot_count tb into) × (slot_type tb into k ≢ 0)
  first_slot k l n =
      let same : definition_of tb (start tb Nodes into) ≡ into = (g.definition into call.callee_in).first_same in
      (rw same at l, λ z. n (rw same z))

  -- a thread that calls a definition holds afterwards only what it held
  pub entered_held : (c : ℕ) → holds tb (entered tb into given) c ≡ true → holds tb row c ≡ true
  unfolding entered
  entered_held c h =
      let o = holds_elim tb (entered tb into given) c h in
      let (own, n) = first_slot o.slot o.slot_own o.typed in
      entered_from c o.slot o.channel_in o.slot_in own n (sym (entered_word o.slot o.slot_in) ∙ o.is)
