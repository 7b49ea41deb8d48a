-- The slots of a call, looked up once. Assumes nothing.
use Rattle.std.specs.Prelude.{ℕ, ◌+◌, ◌<◌, ◌≤◌, ◌≡◌, Bool, true, false, not, ◌&&◌, ◌||◌, cond, List, ◌∷◌, ltb, leb, eqb, set}
use native.Mathlib.Omega.{arith}
use Rattle.std.proofs.Math.Path.{refl, sym}
use Rattle.std.proofs.Common.{◌∙◌}
use borrow.Author.Tests.{lt-ltb, le-ltb, le-leb, lt-leb, ltb-true, ltb-false, leb-true, eq-eqb, ne_eqb}
use Rattle.numbers.specs.Rows.{at}
use Rattle.numbers.specs.Laid.{laid}
use Rattle.numbers.specs.Laid.Laws.{laid_all, laid_skip}
use Rattle.numbers.specs.Search.{every, tabulate}
use Rattle.numbers.specs.Tests.{and_left, and_right}
use Rattle.numbers.specs.Search.Laws.{case_b, same_truth, every_none, every_more, every_elim, every_intro, every_cong, tabulate_cong}
use Rattle.table.specs.Fields as Field
use Rattle.table.specs.Table.{Table, slot_row, node_row, slot_count, parameters}
use Rattle.table.specs.Layout.{start, definition_of, slot_type}
use Rattle.table.specs.declared.Part.TheVariants.{Slots, Nodes}
use Rattle.state.specs.State.{State, row_slots, minus_one, thread, stands_at, slot_of, with_thread}
use Rattle.rules.specs.Program.{channel_slot, blank, callee}
use Rattle.rules.specs.Start.{entered}
use Rattle.rules.specs.Moves.{written}
use Rattle.rules.specs.declared.Move.TheVariants.{Calls}
use Rattle.thread_rows.specs.WrittenRows.Laws.{slots_more}
use Rattle.call_rows.specs.CalledRow.{last_slot, call_by, kept_at, kept_by, call_at, slot_kept, call_slots, call_keeps}

-- ---- from the last slot on all are 0

module _ (p n : ℕ) where
  pub last_own : p ≤ n → n < row_slots → n ≡ last_slot p n
  unfolding last_slot
  last_own h i = rw (le-leb p n h, lt-ltb n 16 i)

  pub last_many : p ≤ n → row_slots ≤ n → row_slots ≡ last_slot p n
  unfolding last_slot
  last_many h i = rw (le-leb p n h, le-ltb n 16 i)

  pub last_odd : n < p → row_slots ≡ last_slot p n
  unfolding last_slot
  last_odd h = rw (lt-leb p n h)

  pub last_le : last_slot p n ≤ row_slots
  unfolding last_slot
  last_le = case_b (leb p n) (λ y. rw y (case_b (ltb n 16) (λ i. rw i (omega (arith, ltb-true n 16 i))) (λ j. rw j (omega arith)))) (λ z. rw z (omega arith))

  -- past it and below 16 a slot is past the parameters and past the slots
  past_last : (k : ℕ) → last_slot p n ≤ k → k < row_slots → (p ≤ k) × (n ≤ k)
  unfolding last_slot
  past_last k h i =
      case_b (leb p n)
      (λ y. case_b (ltb n 16)
      (λ l. let q : n ≤ k = rw (y, l) at h in (omega (arith, leb-true p n y), q))
      (λ m. absurd (let q : 16 ≤ k = rw (y, m) at h in omega arith)))
      (λ z. absurd (let q : 16 ≤ k = rw z at h in omega arith))

-- ---- slot k of a call

-- nested tests as one test
same_blank : (a z : Bool) → cond a (cond z 0 minus_one) 0 ≡ cond (a && not z) minus_one 0
same_blank true true = refl
same_blank true false = refl
same_blank false z = refl

same_kept : (a z e : Bool) → cond a (cond z true e) true ≡ (not (a && not z) || e)
same_kept true true e = refl
same_kept true false e = refl
same_kept false z e = refl

every_and_next : (q : ℕ → Bool) (k : ℕ) → (every q k && q k) ≡ every q (k + 1)
every_and_next q k =
    same_truth (every q k && q k) (every q (k + 1))
    (λ y. every_more q k (q k) (and_left (every q k) (q k) y) refl (and_right (every q k) (q k) y))
    (λ y. rw (every_intro q k (λ i l. every_elim q (k + 1) i y (omega arith)), every_elim q (k + 1) k y (omega arith)))

module _ (tb : Table) (r from p n : ℕ) (row : List ℕ) where
  -- the code's ways out: x is the slot that the call names, v what it has
  module _ (k x : ℕ) where
    pub call_given : (v : ℕ) → v ≡ slot_of row x → x ≡ at tb r (Field.arguments + k) → k < p → v ≡ call_by tb r from p n row k
    unfolding call_by
    call_given v e f h = rw (lt-ltb k p h, e, f)

    -- x is the type of the slot
    pub call_number : x ≡ at tb (from + k) Field.type → p ≤ k → k < n → x ≡ 0 → 0 ≡ call_by tb r from p n row k
    unfolding call_by
    call_number e h i z = rw (le-ltb k p h, lt-ltb k n i, ← e, eq-eqb x 0 z)

    pub call_channel : x ≡ at tb (from + k) Field.type → p ≤ k → k < n → (x ≡ 0 → ⊥) → minus_one ≡ call_by tb r from p n row k
    unfolding call_by
    call_channel e h i z = rw (le-ltb k p h, lt-ltb k n i, ← e, ne_eqb x 0 z)

  call_past : (k : ℕ) → p ≤ k → n ≤ k → call_by tb r from p n row k ≡ 0
  unfolding call_by
  call_past k h i = rw (le-ltb k p h, le-ltb k n i)

  pub call_spare : (k : ℕ) → p ≤ k → n ≤ k → 0 ≡ call_by tb r from p n row k
  call_spare k h i = sym (call_past k h i)

  -- one slot more is laid
  pub calls_more : (l l' : List ℕ) (k m v : ℕ) → l' ≡ set l k v → v ≡ call_by tb r from p n row k → l ≡ laid (call_by tb r from p n row) k row_slots → k < m
      → m ≡ last_slot p n
      → l' ≡ laid (call_by tb r from p n row) (k + 1) row_slots
  calls_more l l' k m v e g h i j = slots_more (call_by tb r from p n row) l l' k v e g h (omega (arith, j, last_le p n))

  -- all slots are laid once the last is
  pub calls_laid : (l : List ℕ) (k m : ℕ) → l ≡ laid (call_by tb r from p n row) k row_slots → m ≡ last_slot p n → m ≤ k → k ≤ m
      → l ≡ tabulate row_slots (call_by tb r from p n row)
  calls_laid l k m e f h i =
      let q : k ≡ last_slot p n = omega (arith, f) in
      e ∙ laid_skip (call_by tb r from p n row) 16 k 16 (rw q (last_le p n)) (omega arith)
      (λ x a b. let (u, v) = past_last p n x (rw (← q) a) b in call_past x u v)
      ∙ laid_all (call_by tb r from p n row) 16

-- from what was looked up: the call stands in row a + m
module _ (tb : Table) (row : List ℕ) (d a m from p n : ℕ) (ea : a ≡ node_row tb) (em : m ≡ stands_at row) (ef : from ≡ slot_row tb + start tb Slots d)
    (ep : p ≡ parameters tb d) (en : n ≡ slot_count tb d) where
  call_at_lem : (k : ℕ) → call_by tb (a + m) from p n row k ≡ call_at tb row d k
  unfolding call_by call_at blank channel_slot
  call_at_lem k =
      let place : slot_row tb + start tb Slots d + k ≡ slot_row tb + (start tb Slots d + k) = omega arith in
      rw (ea, em, ef, ep, en, place, same_blank (ltb k (slot_count tb d)) (eqb (slot_type tb d k) 0))

  calls_looked : (l : List ℕ) → l ≡ tabulate row_slots (call_by tb (a + m) from p n row) → l ≡ tabulate row_slots (call_at tb row d)
  calls_looked l e = e ∙ tabulate_cong 16 (call_by tb (a + m) from p n row) (call_at tb row d) (λ k h. call_at_lem k)

  -- ---- a call after which the row holds what it held

  kept_at_lem : (k : ℕ) → kept_by tb (a + m) from p n row k ≡ slot_kept tb row d k
  unfolding kept_by kept_at slot_kept channel_slot
  kept_at_lem k =
      let place : slot_row tb + start tb Slots d + k ≡ slot_row tb + (start tb Slots d + k) = omega arith in
      rw (call_at_lem k, ef, en, place)
      (same_kept (ltb k (slot_count tb d)) (eqb (slot_type tb d k) 0) (eqb (call_at tb row d k) (slot_of row k)))

  kept_looked : (r : Bool) → r ≡ every (kept_by tb (a + m) from p n row) row_slots → r ≡ every (slot_kept tb row d) row_slots
  kept_looked r e = e ∙ every_cong (kept_by tb (a + m) from p n row) (slot_kept tb row d) 16 (λ k b. kept_at_lem k)

-- ---- the code's ways out: the call of a thread that stands at node m is in row a + m of the table, and calls definition d

module _ (tb : Table) (row : List ℕ) (a m d : ℕ) (ea : a ≡ node_row tb) (em : m ≡ stands_at row) (ed : d ≡ at tb (a + m) Field.callee) where
  called : d ≡ callee tb (stands_at row)
  called = ed ∙ rw (ea, em)

  pub call_laid : (from p n : ℕ) (l : List ℕ) → l ≡ tabulate row_slots (call_by tb (a + m) from p n row) → from ≡ slot_row tb + start tb Slots d
      → p ≡ parameters tb d
      → n ≡ slot_count tb d → l ≡ call_slots tb row
  unfolding call_slots
  call_laid from p n l e ef ep en = calls_looked tb row d a m from p n ea em ef ep en l e ∙ rw called

  -- x and y are the definitions of the node and of the callee's first node, z
  module _ (x : ℕ) (g : x ≡ definition_of tb m) where
    pub keeps_not : (x ≡ d → ⊥) → false ≡ call_keeps tb row
    unfolding call_keeps
    keeps_not h = rw (← called, ← em, ← g, ne_eqb x d h)

    module _ (y z : ℕ) (i : y ≡ definition_of tb z) (j : z ≡ start tb Nodes d) (h : x ≡ d) where
      pub keeps_odd : (y ≡ d → ⊥) → false ≡ call_keeps tb row
      unfolding call_keeps
      keeps_odd l = rw (← called, ← em, ← g, h, eq-eqb d d refl, ← j, ← i, ne_eqb y d l)

      pub keeps_own : (from p n : ℕ) (r : Bool) → r ≡ every (kept_by tb (a + m) from p n row) row_slots → from ≡ slot_row tb + start tb Slots d
          → p ≡ parameters tb d
          → n ≡ slot_count tb d → y ≡ d → r ≡ call_keeps tb row
      unfolding call_keeps
      keeps_own from p n r e ef ep en l =
          rw (← called, ← em, ← g, h, eq-eqb d d refl, ← j, ← i, l, eq-eqb d d refl) (kept_looked tb row d a m from p n ea em ef ep en r e)

pub ruleset keeps_ways = (keeps_own, keeps_not, keeps_odd)

pub call_entered : (tb : Table) (s s₁ : State) (l : List ℕ) (t a m d n : ℕ) → s₁ ≡ with_thread s t (1 ∷ n ∷ l) → n ≡ start tb Nodes d
    → d ≡ at tb (a + m) Field.callee
    → a ≡ node_row tb → m ≡ stands_at (thread s t) → l ≡ call_slots tb (thread s t) → s₁ ≡ written tb s t Calls
unfolding written entered call_slots call_at
call_entered tb s s₁ l t a m d n e f g ea em h = e ∙ rw (f, called tb (thread s t) a m d ea em g, h)

-- slot_keeps
module _ (tb : Table) (from n : ℕ) (row : List ℕ) (k v : ℕ) where
  pub kept_past : n ≤ k → true ≡ kept_at tb from n row k v
  unfolding kept_at
  kept_past h = rw (le-ltb k n h)

  -- x is the type of the slot
  module _ (x : ℕ) (e : x ≡ at tb (from + k) Field.type) (h : k < n) where
    pub kept_number : x ≡ 0 → true ≡ kept_at tb from n row k v
    unfolding kept_at
    kept_number z = rw (lt-ltb k n h, ← e, eq-eqb x 0 z)

    pub kept_channel : (w : ℕ) → w ≡ slot_of row k → (x ≡ 0 → ⊥) → eqb v w ≡ kept_at tb from n row k v
    unfolding kept_at
    kept_channel w g z = rw (lt-ltb k n h, ← e, ne_eqb x 0 z, g)

pub ruleset kept_ways = (kept_past, kept_number, kept_channel)

-- lay_call: b says whether the first k slots get what they have
module _ (tb : Table) (r from p n : ℕ) (row : List ℕ) where
  pub kept_none : true ≡ every (kept_by tb r from p n row) 0
  kept_none = sym (every_none (kept_by tb r from p n row))

  pub kept_more : (k v : ℕ) (a b c : Bool) → a ≡ (b && c) → b ≡ every (kept_by tb r from p n row) k → c ≡ kept_at tb from n row k v
      → v ≡ call_by tb r from p n row k
      → a ≡ every (kept_by tb r from p n row) (k + 1)
  unfolding kept_by
  kept_more k v a b c e f g h = e ∙ rw (f, g, h) (every_and_next (kept_by tb r from p n row) k)

  -- from the last slot on there is none to be kept
  kept_rest : (k : ℕ) → last_slot p n ≤ k → every (kept_by tb r from p n row) k ≡ true → every (kept_by tb r from p n row) row_slots ≡ true
  unfolding kept_by
  kept_rest k l e =
      every_intro (kept_by tb r from p n row) 16 (λ x b. case_b (ltb x k)
      (λ y. every_elim (kept_by tb r from p n row) k x e (ltb-true x k y))
      (λ z. let (u, v) = past_last p n x (omega (arith, l, ltb-false x k z)) b in sym (kept_past tb from n row x (call_by tb r from p n row x) v)))

  pub kept_all : (k m : ℕ) (b : Bool) → b ≡ every (kept_by tb r from p n row) k → m ≡ last_slot p n → m ≤ k → k ≤ m
      → b ≡ every (kept_by tb r from p n row) row_slots
  kept_all k m b e f h i =
      e ∙ same_truth (every (kept_by tb r from p n row) k) (every (kept_by tb r from p n row) row_slots)
      (λ y. kept_rest k (omega (arith, f)) y)
      (λ y. every_intro (kept_by tb r from p n row) k (λ x l. every_elim (kept_by tb r from p n row) 16 x y (omega (arith, f, last_le p n))))

pub ruleset call_ways = (call_given, call_number, call_channel, call_spare)

pub ruleset lasts = (last_own, last_many, last_odd)
