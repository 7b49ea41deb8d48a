-- What the functions that test a state come to. Assumes nothing.
use Prim.Native.Nat.{ℕ, zero, suc, ◌+◌, ◌≤◌, ◌<◌}
use native.Mathlib.Omega.{arith}
use native.Mathlib.Nat.{zero-add}
use mathlib.Core.Path.{◌≡◌, refl, ◌∙◌}
use mathlib.Core.Bool.{Bool, true, false, ◌&&◌, ◌||◌, cond, beq}
use mathlib.Core.List.{List}
use lib.Dec.{ltb, leb, eqb}
use lib.ListN.{get_or}
use borrow.Author.Tests.{lt-ltb, le-ltb, eq-eqb, ne_eqb}
use Rattle.numbers.specs.Bits.{bits_of, joined_all}
use Rattle.numbers.specs.Count.{bit}
use Rattle.numbers.specs.Rows.{at}
use Rattle.numbers.specs.Search.{every, tabulate}
use Rattle.numbers.specs.Search.Laws.{get_d_tabulate}
use Rattle.numbers.specs.Tests.{and_true}
use Rattle.table.specs.Fields as Field
use Rattle.table.specs.Table.{Table, nodes, ports, slot_row, slot_count}
use Rattle.table.specs.Layout.{start, definition_of, slot_type}
use Rattle.table.specs.declared.Part.TheVariants.{Slots}
use Rattle.flow.specs.Flow.{Gaps, flow, has_gap, may_lack}
use Rattle.state.specs.State.{State, max_threads, max_channels, thread_words, row_slots, thread, status, stands_at, slot_of, in_use, type_in}
use Rattle.rules.specs.Program.{channel_slot}
use Rattle.rules.specs.Holding.{count_of, holders, waiters}
use Rattle.rules.specs.Sound.{marks_in_range, free_zero, row_in_range, spare_zero, slot_typed, slots_typed, slot_filled, slots_filled, count_true, port_typed, waits_rightly, sound}
use Rattle.holding.specs.Own.{own_room, types_of}
use Rattle.holding.specs.Own.Laws.{room_used}
use Rattle.sound.specs.SoundRows.{word_zero, spare_of, spare_zero_at, slot_sound, row_sound}
use Rattle.sound.specs.SoundRows.Laws.{slots_sound, spare_zero_lem, sound_rows}

or_true : (b : Bool) → (b || true) ≡ true
or_true true = refl
or_true false = refl

-- ---- row_is_zero and spare_zero: x has the bits of what was looked at

module _ (row : List ℕ) (x i : ℕ) where
  pub words_zero : x ≡ bits_of (λ k. get_or row k 0) i → i ≤ thread_words → thread_words ≤ i → eqb x 0 ≡ every (word_zero row) thread_words
  unfolding word_zero
  words_zero e h l = joined_all (λ k. get_or row k 0) i thread_words x e h l

  pub spares_zero : (n : ℕ) → x ≡ bits_of (spare_of row n) i → i ≤ row_slots → row_slots ≤ i → eqb x 0 ≡ every (spare_zero_at row n) row_slots
  unfolding spare_zero_at
  spares_zero n e h l = joined_all (spare_of row n) i row_slots x e h l

-- ---- slot_sound: the row stands at node n; slot k, of the type ty, has v

module _ (tb : Table) (s : State) (row : List ℕ) (k n from ty : ℕ)
    (f : n ≡ stands_at row) (g : from ≡ types_of tb row) (h : k < own_room tb row) (j : ty ≡ at tb (from + k) Field.type) where
  abbrev here : ℕ
  here = definition_of tb (stands_at row)

  own : ltb k (slot_count tb here) ≡ true
  own = lt-ltb k (slot_count tb here) (room_used tb row k h).1

  type_is : ty ≡ slot_type tb here k
  unfolding types_of
  type_is = let p : slot_row tb + start tb Slots here + k ≡ slot_row tb + (start tb Slots here + k) = omega arith in j ∙ rw (g, p)

  pub slot_number : ty ≡ 0 → true ≡ slot_sound tb s row k
  unfolding slot_sound slot_typed slot_filled channel_slot
  slot_number o = rw (own, ← type_is, o)

  module _ (o : ty ≡ 0 → ⊥) (v : ℕ) (e : v ≡ slot_of row k) where
    pub slot_channel : (x : ℕ) → v < max_channels → x ≡ type_in s v → eqb x ty ≡ slot_sound tb s row k
    unfolding slot_sound slot_typed slot_filled channel_slot
    slot_channel x q w =
        rw (← e, own, ← type_is, ne_eqb ty 0 o, ne_eqb v 4294967295 (λ p. omega (arith, p)), lt-ltb v 128 q, ← w, or_true (may_lack tb (stands_at row) k)) (and_true (eqb x ty))

    module _ (q : max_channels ≤ v) where
      empty_slot : (ms : Gaps) (r : Bool) → ms ≡ flow tb → r ≡ has_gap ms n k → v ≡ 4294967295 → r ≡ slot_sound tb s row k
      unfolding slot_sound slot_typed slot_filled channel_slot may_lack
      empty_slot ms r p i w = rw (← e, own, ← type_is, ne_eqb ty 0 o, eq-eqb v 4294967295 w, ← f, ← p, ← i) (or_false r)
        where
          or_false : (b : Bool) → b ≡ (b || false)
          or_false true = refl
          or_false false = refl

      pub slot_no_channel : (v ≡ 4294967295 → ⊥) → false ≡ slot_sound tb s row k
      unfolding slot_sound slot_typed slot_filled channel_slot
      slot_no_channel p = rw (← e, own, ← type_is, ne_eqb ty 0 o, ne_eqb v 4294967295 p, le-ltb v 128 q)

-- the gap that was read comes first: an answer that is no gap of this slot is refused there
pub slot_empty : (tb : Table) (s : State) (row : List ℕ) (k n : ℕ) (ms : Gaps) (r : Bool) → r ≡ has_gap ms n k → ms ≡ flow tb → n ≡ stands_at row
    → (v : ℕ) → v ≡ slot_of row k → v ≡ 4294967295 → max_channels ≤ v → (from ty : ℕ) → from ≡ types_of tb row → ty ≡ at tb (from + k) Field.type → (ty ≡ 0 → ⊥)
    → k < own_room tb row → r ≡ slot_sound tb s row k
slot_empty tb s row k n ms r i p f v e w q from ty g j o h = empty_slot tb s row k n from ty f g h j o v e q ms r p i w

-- ---- pass_row: x is the row's status

pub in_use_lem : (row : List ℕ) (x : ℕ) → x ≡ status row → (x ≡ 0 → ⊥) → in_use row ≡ true
in_use_lem row x e f = rw (← e, ne_eqb x 0 f)

module _ (tb : Table) (s : State) (row : List ℕ) (x : ℕ) (e : x ≡ status row) where
  pub row_free : (r : Bool) → x ≡ 0 → r ≡ every (word_zero row) thread_words → r ≡ row_sound tb s row
  unfolding word_zero row_sound row_in_range free_zero spare_zero slots_typed slots_filled
  row_free r f g = rw (← e, f, ← g) (and_true r)

  pub row_used : (n m : ℕ) (a b d : Bool) → (x ≡ 0 → ⊥) → n ≡ stands_at row → m ≡ own_room tb row → a ≡ every (slot_sound tb s row) m → b ≡ every (spare_zero_at row m) row_slots
      → d ≡ (leb x 2 && ltb n (nodes tb)) → ((a && b) && d) ≡ row_sound tb s row
  unfolding row_sound row_in_range free_zero spare_zero slots_typed slots_filled
  row_used n m a b d f g h i j k =
      let u = in_use_lem row x e f in
      rw (i, j, k, h, slots_sound tb s row u, spare_zero_lem tb s row u, g, e, ne_eqb (status row) 0 (λ q. f (e ∙ q)))
      (turned (every (slot_typed tb s row) row_slots && every (slot_filled tb row) row_slots) _ _)
    where
      turned : (a b d : Bool) → ((a && b) && d) ≡ (d && (b && a))
      turned true true true = refl
      turned true true false = refl
      turned true false true = refl
      turned true false false = refl
      turned false true true = refl
      turned false true false = refl
      turned false false true = refl
      turned false false false = refl

-- what is unused has no holder, and what is used has one
used_as_held : (t : Bool) (a : ℕ) → beq t (eqb a 0) ≡ cond t (eqb a 0) (ltb 0 a)
used_as_held true zero = refl
used_as_held true (suc a) = rw (ne_eqb (suc a) 0 (λ q. omega (arith, q)))
used_as_held false zero = refl
used_as_held false (suc a) = rw (ne_eqb (suc a) 0 (λ q. omega (arith, q)), lt-ltb 0 (suc a) (omega arith))

-- ---- count_due and channel_sound: a is the channel's count, z its type

module _ (tb : Table) (ths : List (List ℕ)) (c n m : ℕ) (l : List ℕ) (e : l ≡ tabulate max_channels (holders tb ths)) (f : n ≡ get_or l c 0) (g : m ≡ ports tb) (h : c < max_channels) where
  counted : n ≡ holders tb ths c
  counted = f ∙ rw (e, get_d_tabulate 128 c (holders tb ths) 0 h)

  pub due_port : c < m → 1 + n ≡ count_of tb ths c
  unfolding count_of bit
  due_port i = rw (← g, lt-ltb c m i, counted)

  pub due_other : m ≤ c → n ≡ count_of tb ths c
  unfolding count_of bit
  due_other i = rw (← g, le-ltb c m i, zero-add (holders tb ths c)) counted

module _ (tb : Table) (s : State) (c a x : ℕ) (e : a ≡ at s.channels c 1) (f : x ≡ count_of tb s.threads c) where
  pub count_false : (a ≡ x → ⊥) → false ≡ count_true tb s c
  unfolding count_true
  count_false g = rw (← e, ← f, ne_eqb a x g)

  module _ (g : a ≡ x) (b y : ℕ) (l : List ℕ) (h : b ≡ at s.channels c 2) (i : y ≡ get_or l c 0) (j : l ≡ tabulate max_channels (waiters tb s.threads)) (k : c < max_channels) where
    waiting_counted : y ≡ waiters tb s.threads c
    waiting_counted = i ∙ rw (j, get_d_tabulate 128 c (waiters tb s.threads) 0 k)

    pub waiting_false : (b ≡ y → ⊥) → false ≡ count_true tb s c
    unfolding count_true
    waiting_false o = rw (← e, ← f, eq-eqb a x g, ← h, ← waiting_counted, ne_eqb b y o)

    module _ (o : b ≡ y) (z : ℕ) (p : z ≡ type_in s c) where
      pub count_told : beq (eqb z 0) (eqb a 0) ≡ count_true tb s c
      unfolding count_true
      count_told = rw (← e, ← f, eq-eqb a x g, ← h, ← waiting_counted, eq-eqb b y o, ← p) (used_as_held (eqb z 0) a)

-- ---- is_sound

module _ (tb : Table) (s : State) (m : Bool) (e : m ≡ marks_in_range s) where
  pub marks_unsound : m ≡ false → false ≡ sound tb s
  marks_unsound f = rw (sound_rows tb s, ← e, f)

  module _ (f : m ≡ true) (t : Bool) (g : t ≡ every (λ t. row_sound tb s (thread s t)) max_threads) where
    pub threads_unsound : t ≡ false → false ≡ sound tb s
    threads_unsound h = rw (sound_rows tb s, ← e, f, ← g, h)

    module _ (h : t ≡ true) (c : Bool) (i : c ≡ every (count_true tb s) max_channels) where
      pub counts_unsound : c ≡ false → false ≡ sound tb s
      counts_unsound j = rw (sound_rows tb s, ← e, f, ← g, h, ← i, j)

      module _ (j : c ≡ true) (p : Bool) (k : p ≡ every (port_typed tb s) (ports tb)) where
        pub ports_unsound : p ≡ false → false ≡ sound tb s
        ports_unsound l = rw (sound_rows tb s, ← e, f, ← g, h, ← i, j, ← k, l)

        pub waits_tested : (w : Bool) → p ≡ true → w ≡ every (waits_rightly tb s) max_threads → w ≡ sound tb s
        waits_tested w l o = rw (sound_rows tb s, ← e, f, ← g, h, ← i, j, ← k, l) o
