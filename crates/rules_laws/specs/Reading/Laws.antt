-- The tests `holds` and `offers` say what the records of `Reading.antt` do; and small laws on rows and directions. Assumes nothing.
use Rattle.std.specs.Prelude.{ℕ, suc, ◌+◌, ◌<◌, ◌≡◌, refl, true, false, List, ◌∷◌, ltb, eqb, get_or}
use Rattle.std.proofs.Common.{arith}
use borrow.Author.Tests.{ltb-true, lt-ltb, eqb-true, eqb-false, eq-eqb, ne_eqb, not-true}
use Rattle.numbers.specs.Search.Laws.{contra, some_elim, some_intro}
use Rattle.numbers.specs.Tests.{parts}
use Rattle.table.specs.Table.{Table, slot_count}
use Rattle.table.specs.Layout.{branch_count, definition_of, slot_type}
use Rattle.state.specs.State.{max_channels, row_slots, status, stands_at, slot_of, in_use, is_ready, is_waiting}
use Rattle.rules.specs.Program.{channel_slot, branch_at, field_a, act_of, opposite, same}
use Rattle.rules.specs.Holding.{has_at, holds}
use Rattle.rules.specs.Offers.{meets?, offers_in, offers_at, offers}
use Rattle.rules.specs.declared.Direction.{Direction}
use Rattle.rules.specs.declared.Direction.TheVariants.{Out, In}
use Rattle.rules.specs.declared.Act.{Act}
use Rattle.rules.specs.declared.Act.TheVariants.{Tau, Meeting, New, Spawn, Assignment}
use Rattle.rules_laws.specs.Reading.{Holding, Offering}

-- ---- the status of a row

module _ (row : List ℕ) where
  pub ready_used : is_ready row ≡ true → in_use row ≡ true
  ready_used e = let q : status row ≡ 1 = eqb-true (status row) 1 e in rw q

  pub waiting_used : is_waiting row ≡ true → in_use row ≡ true
  waiting_used e = let q : status row ≡ 2 = eqb-true (status row) 2 e in rw q

  pub ready_not_waiting : is_ready row ≡ true → is_waiting row ≡ false
  ready_not_waiting e = let q : status row ≡ 1 = eqb-true (status row) 1 e in rw q

-- the slots stand behind the status and the node
pub head_slot : (x n : ℕ) (l : List ℕ) (k : ℕ) → slot_of (x ∷ n ∷ l) k ≡ get_or l k 0
head_slot x n l k = let q : 2 + k ≡ suc (suc k) = omega arith in rw q

-- ---- directions

pub same_is : (e d : Direction) → same e d ≡ true → e ≡ d
unfolding same
same_is Out Out h = refl
same_is Out In h = contra h refl
same_is In Out h = contra h refl
same_is In In h = refl

same_self : (d : Direction) → same d d ≡ true
unfolding same
same_self Out = refl
same_self In = refl

pub opposite_opposite : (d : Direction) → opposite (opposite d) ≡ d
unfolding opposite
opposite_opposite Out = refl
opposite_opposite In = refl

-- an act that passes for a meeting of a direction is one
pub meets_is : (a : Act) (d : Direction) → meets? a d ≡ true → a ≡ Meeting d
unfolding meets?
meets_is Tau d h = contra h refl
meets_is (Meeting e) d h = rw (same_is e d h)
meets_is New d h = contra h refl
meets_is Spawn d h = contra h refl
meets_is Assignment d h = contra h refl

-- ---- holding

module _ (tb : Table) (row : List ℕ) (c : ℕ) where
  -- slot k, a channel slot that has c
  held_by : in_use row ≡ true → ltb c max_channels ≡ true → (k : ℕ) × (k < row_slots) × (has_at tb row c k ≡ true) → Holding tb row c
  unfolding has_at channel_slot
  held_by u b (k, l, h) = let d = definition_of tb (stands_at row) in record {
    used = u;
    channel_in = ltb-true c max_channels b;
    slot = k;
    slot_in = l;
    slot_own = ltb-true k (slot_count tb d) (search parts);
    typed = eqb-false (slot_type tb d k) 0 (not-true (eqb (slot_type tb d k) 0) (search parts));
    is = eqb-true (slot_of row k) c (search parts);
  }

  -- who holds a channel has it in a channel slot
  pub holds_elim : holds tb row c ≡ true → Holding tb row c
  unfolding holds
  holds_elim e = held_by (search parts) (search parts) (some_elim (has_at tb row c) row_slots (search parts))

  has_slot : (h : Holding tb row c) → has_at tb row c h.slot ≡ true
  unfolding has_at channel_slot
  has_slot h = let d = definition_of tb (stands_at row) in rw (
    lt-ltb h.slot (slot_count tb d) h.slot_own,
    ne_eqb (slot_type tb d h.slot) 0 h.typed,
    eq-eqb (slot_of row h.slot) c h.is,
  )

  pub holds_intro : Holding tb row c → holds tb row c ≡ true
  unfolding holds
  holds_intro h = rw (h.used, lt-ltb c max_channels h.channel_in, some_intro (has_at tb row c) row_slots h.slot h.slot_in (has_slot h))

-- ---- offering

module _ (tb : Table) (row : List ℕ) (d : Direction) (c : ℕ) where
  -- branch i, a meeting of direction d on c with a true guard
  offered_by : is_waiting row ≡ true → ltb c max_channels ≡ true
      → (i : ℕ) × (i < branch_count tb (stands_at row)) × (offers_at tb row d c i ≡ true) → Offering tb row d c
  unfolding offers_at offers_in
  offered_by w b (i, l, h) = let r = branch_at tb (stands_at row) i in record {
    waits = w;
    channel_in = ltb-true c max_channels b;
    branch = i;
    branch_in = l;
    passes = search parts;
    does = meets_is (act_of tb r) d (search parts);
    is = eqb-true (slot_of row (field_a tb r)) c (search parts);
  }

  -- who offers to meet on a channel does so by one of its branches
  pub offers_elim : offers tb row d c ≡ true → Offering tb row d c
  unfolding offers
  offers_elim e = offered_by (search parts) (search parts) (some_elim (offers_at tb row d c) (branch_count tb (stands_at row)) (search parts))

  offers_branch : (o : Offering tb row d c) → offers_at tb row d c o.branch ≡ true
  unfolding offers_at offers_in meets?
  offers_branch o = rw (
    o.does,
    same_self d,
    eq-eqb (slot_of row (field_a tb (branch_at tb (stands_at row) o.branch))) c o.is,
    o.passes,
  )

  pub offers_intro : Offering tb row d c → offers tb row d c ≡ true
  unfolding offers
  offers_intro o = rw (
    lt-ltb c max_channels o.channel_in,
    o.waits,
    some_intro (offers_at tb row d c) (branch_count tb (stands_at row)) o.branch o.branch_in (offers_branch o),
  )
