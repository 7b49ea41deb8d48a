-- Counting the channel rows anew makes an orderly state sound: channels that somebody holds, and ports, keep their types. Assumes nothing but what
-- the table grants.
use Rattle.std.specs.Prelude.{ℕ, zero, suc, ◌<◌, ◌≤◌, ◌≡◌, refl, true, ltb, length, get_or}
use Rattle.std.proofs.Common.{arith, ◌∙◌, ltb-true, ltb-false, lt-ltb}
use mathlib.Core.List.{List, [], ◌∷◌}
use Rattle.std.proofs.Math.ListN.{get_or-eq_default}
use Rattle.numbers.specs.Count.{bit}
use Rattle.numbers.specs.Count.Laws.{count_pos}
use Rattle.numbers.specs.Rows.{at}
use Rattle.numbers.specs.Search.Laws.{case_b, get_d_tabulate}
use Rattle.table.specs.Table.{Table, ports}
use Rattle.state.specs.State.{State, max_threads, max_channels, row_slots, thread, stands_at, slot_of, in_use, type_in, channel, with_channels}
use Rattle.rules.specs.Holding.{holds, holders, waiters, count_of, channel_row, recount, settled}
use Rattle.upkeep.specs.Upkeep.{few, waiters_le, settled_length, settled_again}
use Rattle.rules_laws.specs.Granted.{Granted}
use Rattle.rules_laws.specs.Shape.{Shaped}
use Rattle.rules_laws.specs.Reading.Laws.{holds_elim, holds_intro}
use Rattle.rules_laws.specs.Soundness.{SlotSound, spare, number, unfilled, filled, RowSound, Orderly, Sound}

-- ---- the types of the channels that a row holds are all that its soundness says of the types

module _ (tb : Table) (ty ty' : ℕ → ℕ) (row : List ℕ) (h : (c : ℕ) → holds tb row c ≡ true → ty' c ≡ ty c) where
  slot_retype : in_use row ≡ true → (k : ℕ) → k < row_slots → SlotSound tb ty (stands_at row) k (slot_of row k)
      → SlotSound tb ty' (stands_at row) k (slot_of row k)
  slot_retype u k l (spare a b) = spare a b
  slot_retype u k l (number a b) = number a b
  slot_retype u k l (unfilled a b m v) = unfilled a b m v
  slot_retype u k l (filled a b v e) = filled a b v (h (slot_of row k) held ∙ e)
    where
      held : holds tb row (slot_of row k) ≡ true
      held = holds_intro tb row (slot_of row k) (record { used = u; channel_in = v; slot = k; slot_in = l; slot_own = a; typed = b; is = refl })

-- a row stays sound where the types of the channels that it holds stay. Channels that are made anew use it too: nobody held them before
pub retype : (tb : Table) (ty ty' : ℕ → ℕ) (row : List ℕ) → RowSound tb ty row → ((c : ℕ) → holds tb row c ≡ true → ty' c ≡ ty c)
    → RowSound tb ty' row
retype tb ty ty' row r h = record {
  long = r.long;
  small = r.small;
  free = r.free;
  ready_or_waits = r.ready_or_waits;
  node_in = r.node_in;
  slots = λ u k l. slot_retype tb ty ty' row h u k l (r.slots u k l);
  waits_at = r.waits_at;
  waits_for = r.waits_for;
}

-- ---- the rows that a count gives

row_type : (ty n w : ℕ) → 0 < n → get_or (channel_row ty n w) 0 0 ≡ ty
unfolding channel_row
row_type ty zero w h = absurd (omega arith)
row_type ty (suc n) w h = refl

row_long : (ty n w : ℕ) → length (channel_row ty n w) ≡ 3
unfolding channel_row
row_long ty zero w = refl
row_long ty (suc n) w = refl

-- of three small words each is small
pub three_small : (a b c k : ℕ) → a < 4294967296 → b < 4294967296 → c < 4294967296 → get_or (a ∷ b ∷ c ∷ []) k 0 < 4294967296
three_small a b c zero h i j = h
three_small a b c (suc zero) h i j = i
three_small a b c (suc (suc zero)) h i j = j
three_small a b c (suc (suc (suc k))) h i j = omega arith

row_small : (ty n w k : ℕ) → ty < 4294967296 → n ≤ 65 → w ≤ n → get_or (channel_row ty n w) k 0 < 4294967296
unfolding channel_row
row_small ty zero w k h i j = three_small 0 0 0 k (omega arith) (omega arith) (omega arith)
row_small ty (suc n) w k h i j = three_small ty (suc n) w k h (omega arith) (omega arith)

-- ---- who is counted

module _ (tb : Table) (ths : List (List ℕ)) (c : ℕ) where
  -- a channel that some thread holds
  held_counted : (t : ℕ) → t < length ths → holds tb (get_or ths t []) c ≡ true → 0 < count_of tb ths c
  unfolding count_of holders
  held_counted t l h = omega (arith, count_pos (λ row. holds tb row c) ths [] t l h)

  -- a port
  port_counted : c < ports tb → 0 < count_of tb ths c
  unfolding count_of bit
  port_counted l = rw (lt-ltb c (ports tb) l) (omega arith)

module _ (tb : Table) (s : State) where
  pub settled_row : (c : ℕ) → c < max_channels → channel (settled tb s) c ≡ channel_row (type_in s c) (count_of tb s.threads c) (waiters tb s.threads c)
  unfolding settled with_channels recount
  settled_row c l = get_d_tabulate max_channels c (λ i. channel_row (type_in s i) (count_of tb s.threads i) (waiters tb s.threads i)) [] l

  type_kept : (c : ℕ) → c < max_channels → 0 < count_of tb s.threads c → type_in (settled tb s) c ≡ type_in s c
  type_kept c l h = rw (settled_row c l) (row_type (type_in s c) (count_of tb s.threads c) (waiters tb s.threads c) h)

  settled_small : Shaped s → (c k : ℕ) → at (settled tb s).channels c k < 4294967296
  settled_small h c k =
      let n = count_of tb s.threads c in
      let w = waiters tb s.threads c in
      case_b (ltb c 128)
      (λ t. rw (settled_row c (ltb-true c 128 t))
      (row_small (type_in s c) n w k (h.channel_small c 0) (few tb s.threads h.all_threads c) (waiters_le tb s.threads c)))
      (λ f. rw (get_or-eq_default (settled tb s).channels [] {n = c} (omega (arith, settled_length tb s, ltb-false c 128 f))) (omega arith))

  settled_shaped : Shaped s → Shaped (settled tb s)
  unfolding settled with_channels
  settled_shaped h = record {
    three_marks = h.three_marks;
    all_threads = h.all_threads;
    all_channels = settled_length tb s;
    thread_long = h.thread_long;
    channel_long = λ c l. rw (settled_row c l) (row_long (type_in s c) (count_of tb s.threads c) (waiters tb s.threads c));
    mark_small = h.mark_small;
    thread_small = h.thread_small;
    channel_small = settled_small h;
  }

-- ---- an orderly state, its channels counted anew, is sound

module _ (tb : Table) (g : Granted tb) (s : State) (o : Orderly tb s) where
  row_settled : (t : ℕ) → t < max_threads → RowSound tb (type_in (settled tb s)) (thread s t)
  row_settled t l =
      retype tb (type_in s) (type_in (settled tb s)) (thread s t) (o.row t l)
      (λ c h. type_kept tb s c (holds_elim tb (thread s t) c h).channel_in (held_counted tb s.threads c t (rw o.shaped.all_threads l) h))

  port_settled : (c : ℕ) → c < ports tb → type_in (settled tb s) c ≡ 1
  port_settled c l = type_kept tb s c (omega (arith, l, g.few_ports)) (port_counted tb s.threads c l) ∙ o.port c l

  orderly_settled : Orderly tb (settled tb s)
  unfolding settled with_channels
  orderly_settled = record {
    shaped = settled_shaped tb s o.shaped;
    thread_mark_lem = o.thread_mark_lem;
    channel_mark_lem = o.channel_mark_lem;
    turn_in = o.turn_in;
    row = row_settled;
    port = port_settled;
    apart = o.apart;
  }

-- what every move ends with
pub settle : (tb : Table) → Granted tb → (s : State) → Orderly tb s → Sound tb (settled tb s)
settle tb g s o = record { orderly = orderly_settled tb g s o; counts = settled_again tb s }
