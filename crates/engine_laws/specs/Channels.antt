-- In a sound state a meeting is on a channel that the thread holds, and a waiting thread holds what it offers to meet on, a channel in use. Assumes
-- nothing but what the table grants.
use Rattle.std.specs.Prelude.{ℕ, ◌<◌, ◌≡◌, refl, true, false, List, ◌≢◌}
use Rattle.std.proofs.Common.{arith, sym, ◌∙◌, ap}
use Rattle.numbers.specs.Search.Laws.{contra}
use Rattle.table.specs.Table.{Table, slot_count}
use Rattle.table.specs.Layout.{branch_count, definition_of, slot_type}
use Rattle.flow.specs.Flow.{may_lack}
use Rattle.state.specs.State.{State, max_threads, max_channels, thread, stands_at, slot_of, in_use, type_in}
use Rattle.rules.specs.Program.{branch_at, field_a, act_of}
use Rattle.rules.specs.Holding.{holds}
use Rattle.rules.specs.Offers.{offers}
use Rattle.rules.specs.declared.Direction.{Direction}
use Rattle.rules.specs.declared.Act.TheVariants.{Meeting}
use Rattle.rules_laws.specs.Granted.{Granted}
use Rattle.rules_laws.specs.Reading.Laws.{waiting_used, holds_elim, holds_intro, offers_elim}
use Rattle.rules_laws.specs.Soundness.{SlotSound, spare, number, unfilled, filled, RowSound, Orderly}
use Rattle.rules_laws.specs.ThreadRow.{held_used}
use Rattle.rules_laws.specs.Onward.{own_slot}
use Rattle.rules_laws.specs.Meetings.{meets_by}

-- a channel slot that is surely written has a channel
filled_in : (tb : Table) (ty : ℕ → ℕ) (n k v : ℕ) → may_lack tb n k ≡ false → k < slot_count tb (definition_of tb n) → slot_type tb (definition_of tb n) k ≢ 0
    → SlotSound tb ty n k v → v < max_channels
filled_in tb ty n k v w a h (spare l z) = absurd (omega arith)
filled_in tb ty n k v w a h (number l z) = absurd (h z)
filled_in tb ty n k v w a h (unfilled l z f x) = contra f w
filled_in tb ty n k v w a h (filled l z i x) = i

-- a thread in use, with a sound row, holds the channel of each meeting among its branches
pub on_held : (tb : Table) → Granted tb → (ty : ℕ → ℕ) (row : List ℕ) → RowSound tb ty row → in_use row ≡ true → (i : ℕ) → i < branch_count tb (stands_at row)
    → (e : Direction) → act_of tb (branch_at tb (stands_at row) i) ≡ Meeting e → holds tb row (slot_of row (field_a tb (branch_at tb (stands_at row) i))) ≡ true
on_held tb g ty row r used i l e does =
    let a = field_a tb (branch_at tb (stands_at row) i) in
    let m = meets_by tb g ty row r used i l e does in
    let b = own_slot tb g ty row r used a m.on_slot in
    holds_intro tb row (slot_of row a) (record {
      used = used;
      channel_in = filled_in tb ty (stands_at row) a (slot_of row a) m.on_filled m.on_slot m.on_channel (r.slots used a b);
      slot = a;
      slot_in = b;
      slot_own = m.on_slot;
      typed = m.on_channel;
      is = refl;
    })

module _ (tb : Table) (g : Granted tb) (s : State) (ok : Orderly tb s) (t : ℕ) (l : t < max_threads) (d : Direction) (c : ℕ)
    (e : offers tb (thread s t) d c ≡ true) where
  -- a waiting thread holds what it offers to meet on
  pub offered_held : holds tb (thread s t) c ≡ true
  offered_held =
      let o = offers_elim tb (thread s t) d c e in
      ap (λ (y : ℕ). holds tb (thread s t) y) (sym o.is)
      ∙ on_held tb g (type_in s) (thread s t) (ok.row t l) (waiting_used (thread s t) o.waits) o.branch o.branch_in d o.does

  -- the channel on which a thread offers is in use
  pub offered_used : type_in s c ≢ 0
  offered_used = held_used tb (type_in s) (thread s t) (ok.row t l) c (holds_elim tb (thread s t) c offered_held)
