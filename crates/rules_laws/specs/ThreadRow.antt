-- Laws on a single thread row: what a row has after it goes on, waits or is stored into, and that it is sound then. Assumes nothing but what the table
-- grants.
use Rattle.std.specs.Prelude.{ℕ, zero, suc, ◌+◌, ◌<◌, ◌≤◌, ◌≡◌, true, false, List, ◌∷◌, ◌≢◌, eqb, length, get_or, drop}
use Rattle.std.proofs.Common.{arith, sym, ◌∙◌, inl, inr, length-drop}
use Rattle.std.proofs.Math.Path.{refl}
use Rattle.std.proofs.Math.ListN.{length-set}
use Rattle.std.proofs.Math.Seq.{get_or-set_same, get_or-set_other, get_or-drop}
use borrow.Author.Tests.{eqb-true, eqb-false}
use Rattle.numbers.specs.Rows.{at}
use Rattle.numbers.specs.Search.Laws.{case_b, contra}
use Rattle.table.specs.Fields as Field
use Rattle.table.specs.Table.{Table, max_nodes, nodes, slot_count}
use Rattle.table.specs.Layout.{branch_count, definition_of, slot_type}
use Rattle.flow.specs.Flow.{may_lack}
use Rattle.state.specs.State.{max_channels, thread_words, row_slots, status, stands_at, slot_of, in_use, is_ready, is_waiting}
use Rattle.rules.specs.Program.{kind_of, branch_at, field_b, field_c, act_of, printed_guard, assigned, guard_holds}
use Rattle.rules.specs.Moves.{resumed, waiting_row, stored}
use Rattle.rules.specs.declared.Direction.{Direction}
use Rattle.rules.specs.declared.Act.TheVariants.{Meeting}
use Rattle.rules_laws.specs.Granted.{Beside}
use Rattle.rules_laws.specs.Reading.{Holding}
use Rattle.rules_laws.specs.Reading.Laws.{head_slot, ready_used, waiting_used, ready_not_waiting}
use Rattle.rules_laws.specs.Soundness.{SlotSound, spare, number, unfilled, filled, RowSound}

-- ---- the words of a row that goes on, and of one that waits

module _ (row : List ℕ) where
  -- a status and a node before the slots
  headed_long : (x n : ℕ) → length row ≡ thread_words → length (x ∷ n ∷ drop 2 row) ≡ thread_words
  headed_long x n h = omega (arith, length-drop 2 row)

  headed_small : (x n : ℕ) → x < 4294967296 → n < 4294967296 → ((k : ℕ) → get_or row k 0 < 4294967296) → (k : ℕ) → get_or (x ∷ n ∷ drop 2 row) k 0 < 4294967296
  headed_small x n a b h zero = a
  headed_small x n a b h (suc zero) = b
  headed_small x n a b h (suc (suc k)) = rw (get_or-drop 2 row k 0) (h (2 + k))

  module _ (n : ℕ) where
    pub resumed_ready : is_ready (resumed row n) ≡ true
    unfolding resumed
    resumed_ready = refl

    pub resumed_node : stands_at (resumed row n) ≡ n
    unfolding resumed
    resumed_node = refl

    pub resumed_slot : (k : ℕ) → slot_of (resumed row n) k ≡ slot_of row k
    unfolding resumed
    resumed_slot k = head_slot 1 n (drop 2 row) k ∙ get_or-drop 2 row k 0

    pub resumed_long : length row ≡ thread_words → length (resumed row n) ≡ thread_words
    unfolding resumed
    resumed_long h = headed_long 1 n h

    pub resumed_small : n < 4294967296 → ((k : ℕ) → get_or row k 0 < 4294967296) → (k : ℕ) → get_or (resumed row n) k 0 < 4294967296
    unfolding resumed
    resumed_small l h k = headed_small 1 n (omega arith) l h k

  pub waiting_waits : is_waiting (waiting_row row) ≡ true
  unfolding waiting_row
  waiting_waits = refl

  pub waiting_node : stands_at (waiting_row row) ≡ stands_at row
  unfolding waiting_row
  waiting_node = refl

  pub waiting_slot : (k : ℕ) → slot_of (waiting_row row) k ≡ slot_of row k
  unfolding waiting_row
  waiting_slot k = head_slot 2 (stands_at row) (drop 2 row) k ∙ get_or-drop 2 row k 0

  pub waiting_long : length row ≡ thread_words → length (waiting_row row) ≡ thread_words
  unfolding waiting_row
  waiting_long h = headed_long 2 (stands_at row) h

  pub waiting_small : ((k : ℕ) → get_or row k 0 < 4294967296) → (k : ℕ) → get_or (waiting_row row) k 0 < 4294967296
  unfolding waiting_row
  waiting_small h k = headed_small 2 (stands_at row) (omega arith) (h 1) h k

  -- guards and sums look at slots alone
  pub waiting_guard : (tb : Table) (r : ℕ) → guard_holds tb r (waiting_row row) ≡ guard_holds tb r row
  unfolding guard_holds printed_guard assigned
  waiting_guard tb r =
      rw (waiting_slot (at tb r Field.first), waiting_slot (at tb r Field.second), waiting_slot (field_b tb r), waiting_slot (field_c tb r))

-- ---- the words of a row with v in slot b

module _ (row : List ℕ) (b v : ℕ) where
  pub stored_status : status (stored row b v) ≡ status row
  unfolding stored
  stored_status = get_or-set_other row (2 + b) 0 v 0 (λ q. omega arith)

  pub stored_node : stands_at (stored row b v) ≡ stands_at row
  unfolding stored
  stored_node = get_or-set_other row (2 + b) 1 v 0 (λ q. omega arith)

  pub stored_same : length row ≡ thread_words → b < row_slots → slot_of (stored row b v) b ≡ v
  unfolding stored
  stored_same h l = get_or-set_same row (2 + b) v 0 (omega arith)

  pub stored_other : (k : ℕ) → k ≢ b → slot_of (stored row b v) k ≡ slot_of row k
  unfolding stored
  stored_other k n = get_or-set_other row (2 + b) (2 + k) v 0 (λ q. n (omega arith))

  pub stored_long : length row ≡ thread_words → length (stored row b v) ≡ thread_words
  unfolding stored
  stored_long h = length-set row (2 + b) v ∙ h

  pub stored_small : length row ≡ thread_words → b < row_slots → v < 4294967296 → ((k : ℕ) → get_or row k 0 < 4294967296)
      → (k : ℕ) → get_or (stored row b v) k 0 < 4294967296
  unfolding stored
  stored_small h l m f k =
      case_b (eqb k (2 + b))
      (λ e. let q : k ≡ 2 + b = eqb-true k (2 + b) e in rw (q, get_or-set_same row (2 + b) v 0 (omega arith)) m)
      (λ e. rw (get_or-set_other row (2 + b) k v 0 (eqb-false k (2 + b) e)) (f k))

-- ---- slots

module _ (tb : Table) where
  -- what stands in a slot at node n may stand there at node m of the same definition, where no more is surely written
  slot_on : (ty : ℕ → ℕ) (n m : ℕ) → definition_of tb m ≡ definition_of tb n → (k v : ℕ) → (may_lack tb m k ≡ false → may_lack tb n k ≡ false)
      → SlotSound tb ty n k v → SlotSound tb ty m k v
  slot_on ty n m e k v w (spare a z) = spare (rw e a) z
  slot_on ty n m e k v w (number a z) = number (rw e a) (rw e z)
  slot_on ty n m e k v w (unfilled a z f x) = unfilled (rw e a) (rw e z) (case_b (may_lack tb m k) (λ t. t) (λ g. contra f (w g))) x
  slot_on ty n m e k v w (filled a z l x) = filled (rw e a) (rw e z) l (rw e x)

  -- the value of a slot that is surely written may stand in any slot of that type
  pub fits : (ty : ℕ → ℕ) (n k m j v : ℕ) → may_lack tb n k ≡ false → k < slot_count tb (definition_of tb n) → j < slot_count tb (definition_of tb m)
      → slot_type tb (definition_of tb m) j ≡ slot_type tb (definition_of tb n) k → SlotSound tb ty n k v → SlotSound tb ty m j v
  fits ty n k m j v w a b e (spare l z) = absurd (omega arith)
  fits ty n k m j v w a b e (number l z) = number b (e ∙ z)
  fits ty n k m j v w a b e (unfilled l z f x) = contra f w
  fits ty n k m j v w a b e (filled l z i x) = filled b (λ q. z (sym e ∙ q)) i (x ∙ sym e)

  -- a channel slot that is surely written has a channel of its type
  pub filled_typed : (ty : ℕ → ℕ) (n k v : ℕ) → may_lack tb n k ≡ false → k < slot_count tb (definition_of tb n) → slot_type tb (definition_of tb n) k ≢ 0
      → SlotSound tb ty n k v → ty v ≡ slot_type tb (definition_of tb n) k
  filled_typed ty n k v w a h (spare l z) = absurd (omega arith)
  filled_typed ty n k v w a h (number l z) = absurd (h z)
  filled_typed ty n k v w a h (unfilled l z f x) = contra f w
  filled_typed ty n k v w a h (filled l z i x) = x

  -- a slot that has a channel has one in use
  slot_used : (ty : ℕ → ℕ) (n k v : ℕ) → k < slot_count tb (definition_of tb n) → slot_type tb (definition_of tb n) k ≢ 0 → v < max_channels
      → SlotSound tb ty n k v → ty v ≢ 0
  slot_used ty n k v a h i (spare l z) = absurd (omega arith)
  slot_used ty n k v a h i (number l z) = absurd (h z)
  slot_used ty n k v a h i (unfilled l z f x) = absurd (omega arith)
  slot_used ty n k v a h i (filled l z j x) = λ q. h (sym x ∙ q)

  -- ---- rows

  -- a channel that a thread holds is in use
  pub held_used : (ty : ℕ → ℕ) (row : List ℕ) → RowSound tb ty row → (c : ℕ) → Holding tb row c → ty c ≢ 0
  held_used ty row r c h =
      let v : slot_of row h.slot < max_channels = rw h.is h.channel_in in
      let q : ty (slot_of row h.slot) ≢ 0 =
      slot_used ty (stands_at row) h.slot (slot_of row h.slot) h.slot_own h.typed v (r.slots h.used h.slot h.slot_in) in
      rw h.is at q

  -- a row of a ready thread
  ready_sound : (ty : ℕ → ℕ) (row : List ℕ) → is_ready row ≡ true → length row ≡ thread_words → ((k : ℕ) → get_or row k 0 < 4294967296) → stands_at row < nodes tb
      → ((k : ℕ) → k < row_slots → SlotSound tb ty (stands_at row) k (slot_of row k)) → RowSound tb ty row
  ready_sound ty row q h f l g = record {
    long = h;
    small = f;
    free = λ e. contra (ready_used row q) e;
    ready_or_waits = λ e. inl q;
    node_in = λ e. l;
    slots = λ e. g;
    waits_at = λ e. contra e (ready_not_waiting row q);
    waits_for = λ e. contra e (ready_not_waiting row q);
  }

module _ (tb : Table) (few : nodes tb ≤ max_nodes) (ty : ℕ → ℕ) (row : List ℕ) (r : RowSound tb ty row) (u : in_use row ≡ true)
    (m : ℕ) (b : Beside tb (stands_at row) m) where
  -- a thread goes on and writes nothing
  pub resumed_sound : ((k : ℕ) → k < row_slots → may_lack tb m k ≡ false → may_lack tb (stands_at row) k ≡ false) → RowSound tb ty (resumed row m)
  resumed_sound h =
      ready_sound tb ty (resumed row m) (resumed_ready row m) (resumed_long row m r.long)
      (resumed_small row m (omega (arith, few, b.inside)) r.small) (rw (resumed_node row m) b.inside)
      (λ k l. rw (resumed_node row m, resumed_slot row m k) (slot_on tb ty (stands_at row) m b.same k (slot_of row k) (h k l) (r.slots u k l)))

  -- a thread goes on with v in slot j
  pub stored_sound : (j v : ℕ) → j < row_slots → v < 4294967296
      → ((k : ℕ) → k < row_slots → k ≢ j → may_lack tb m k ≡ false → may_lack tb (stands_at row) k ≡ false)
      → SlotSound tb ty m j v → RowSound tb ty (stored (resumed row m) j v)
  stored_sound j v i q h f =
      let long = resumed_long row m r.long in
      let small = resumed_small row m (omega (arith, few, b.inside)) r.small in
      let node : stands_at (stored (resumed row m) j v) ≡ m = stored_node (resumed row m) j v ∙ resumed_node row m in
      ready_sound tb ty (stored (resumed row m) j v) (rw (stored_status (resumed row m) j v) (resumed_ready row m)) (stored_long (resumed row m) j v long)
      (stored_small (resumed row m) j v long i q small) (rw node b.inside)
      (λ k l. rw node (case_b (eqb k j)
      (λ e. let p : k ≡ j = eqb-true k j e in rw (p, stored_same (resumed row m) j v long i) f)
      (λ e. let p : k ≢ j = eqb-false k j e in
      rw (stored_other (resumed row m) j v k p, resumed_slot row m k) (slot_on tb ty (stands_at row) m b.same k (slot_of row k) (h k l p) (r.slots u k l)))))

-- a thread that waits, at a choice whose branches with a true guard are meetings
module _ (tb : Table) (ty : ℕ → ℕ) (row : List ℕ) (r : RowSound tb ty row) (u : in_use row ≡ true) where
  pub waiting_sound : kind_of tb (stands_at row) ≡ 1
      → ((i : ℕ) → i < branch_count tb (stands_at row) → guard_holds tb (branch_at tb (stands_at row) i) row ≡ true
      → (d : Direction) × (act_of tb (branch_at tb (stands_at row) i) ≡ Meeting d))
      → RowSound tb ty (waiting_row row)
  waiting_sound k h = let n = waiting_node row in record {
    long = waiting_long row r.long;
    small = waiting_small row r.small;
    free = λ e. contra (waiting_used (waiting_row row) (waiting_waits row)) e;
    ready_or_waits = λ e. inr (waiting_waits row);
    node_in = λ e. rw n (r.node_in u);
    slots = λ e j l. rw (n, waiting_slot row j) (r.slots u j l);
    waits_at = λ e. rw n k;
    waits_for = λ e i l g. rw n (h i (rw n at l) (rw (n, waiting_guard row tb (branch_at tb (stands_at row) i)) at g));
  }
