-- The marks that are set for a list of a thread's channels are those of the channels that it holds, and it offers on a marked channel where one of its
-- branches does. Assumes nothing.
use Prim.Native.Nat.{ℕ, zero, suc, ◌≤◌, ◌<◌}
use Rattle.std.proofs.Common.{arith, ◌∙◌, length-set, get_or-set_same, get_or-set_other}
use Rattle.std.specs.Prelude.{◌≡◌, Bool, ◌&&◌, ◌||◌, cond, List, eqb, length}
use Rattle.std.proofs.Math.Path.{refl, sym}
use Rattle.std.proofs.Math.Bool.{true, false}
use Rattle.std.proofs.Math.ListN.{get_or}
use borrow.Author.Tests.{ltb-true, lt-ltb, eqb-true, eqb-false}
use Rattle.numbers.specs.Search.{some}
use Rattle.numbers.specs.Search.Laws.{case_b, same_truth, some_elim, some_intro, some_void, is_tabulate}
use Rattle.numbers.specs.Tests.{parts}
use Rattle.table.specs.Table.{Table}
use Rattle.table.specs.Layout.{branch_count}
use Rattle.state.specs.State.{row_slots, max_channels, stands_at, slot_of, is_waiting}
use Rattle.rules.specs.Program.{branch_at, field_a}
use Rattle.rules.specs.Holding.{holds}
use Rattle.rules.specs.Offers.{offers_in, offers_at, offers}
use Rattle.rules.specs.declared.Direction.{Direction}
use Rattle.rules.specs.declared.Direction.TheVariants.{Out, In}
use Rattle.holding.specs.Own.{own_of, own_list, holds_to}
use Rattle.holding.specs.Own.Laws.{own_at, holds_none, own_suc, holds_all}
use Rattle.threads.specs.Threads.{offers_marked, with_held}
use Rattle.threads.specs.Threads.Laws.{one_way, this_way, marked_offer, offer_marked}
use Rattle.threads.specs.Looking.{raised_to, is_marked, reaches_by, reaches_at}

-- ---- tests

-- one more of a pass that found a, and y now
or_next : (k a y : Bool) → (k || cond a true y) ≡ cond y true (k || a)
or_next true a true = refl
or_next true a false = refl
or_next false true true = refl
or_next false true false = refl
or_next false false true = refl
or_next false false false = refl

-- ---- the marks of the channels that a row holds

pub raised_length : (k : List Bool) (l : List ℕ) (n : ℕ) → length (raised_to k l n) ≡ length k
unfolding raised_to
raised_length k l zero = refl
raised_length k l (suc n) = length-set (raised_to k l n) (get_or l n 0) true ∙ raised_length k l n

module _ (tb : Table) (row : List ℕ) (k : List Bool) (e : length k ≡ max_channels) where
  raised_long : (n : ℕ) → length (raised_to k (own_list tb row) n) ≡ max_channels
  raised_long n = raised_length k (own_list tb row) n ∙ e

  raised_to_lem : (n c : ℕ) → n ≤ row_slots → c < max_channels → get_or (raised_to k (own_list tb row) n) c false ≡ (get_or k c false || holds_to tb row c n)
  unfolding raised_to
  raised_to_lem zero c h l = rw (holds_none tb row c l) (or_none (get_or k c false))
    where
      or_none : (a : Bool) → a ≡ (a || false)
      or_none true = refl
      or_none false = refl
  raised_to_lem (suc n) c h l =
      let o = own_of tb row n in
      let r = raised_to k (own_list tb row) n in
      rw (own_at tb row n (omega arith), own_suc tb row c l n, or_next (get_or k c false) (holds_to tb row c n) (eqb o c), ← raised_to_lem n c (omega arith) l)
      (case_b (eqb o c)
      (λ y. let q : o ≡ c = eqb-true o c y in rw (y, q) (get_or-set_same r c true false (omega (arith, raised_long n))))
      (λ y. rw y (get_or-set_other r o c true false (λ q. eqb-false o c y (sym q)))))

  pub raised_held : raised_to k (own_list tb row) row_slots ≡ with_held tb row k
  unfolding with_held
  raised_held =
      is_tabulate (raised_to k (own_list tb row) 16) max_channels (λ c. get_or k c false || holds tb row c) false (raised_long 16)
      (λ c l. raised_to_lem 16 c (omega arith) l ∙ rw (holds_all tb row c l))

-- ---- offers and branches

-- a branch offers on the channel that it names
offers_channel : (tb : Table) (row : List ℕ) (d : Direction) (c r : ℕ) → offers_in tb row d c r ≡ true → slot_of row (field_a tb r) ≡ c
unfolding offers_in
offers_channel tb row d c r x = eqb-true (slot_of row (field_a tb r)) c (search parts)

module _ (tb : Table) (row : List ℕ) (k : List Bool) where
  module _ (w : is_waiting row ≡ true) where
    -- branch i is a meeting of direction d on c
    module _ (d : Direction) (c i : ℕ) (l : i < branch_count tb (stands_at row)) where
      offers_by : c < max_channels → offers_at tb row d c i ≡ true → offers tb row d c ≡ true
      unfolding offers
      offers_by b x = rw (lt-ltb c max_channels b, w) (some_intro (offers_at tb row d c) (branch_count tb (stands_at row)) i l x)

      reaches_marked : c < max_channels → get_or k c false ≡ true → offers_at tb row d c i ≡ true → some (reaches_at tb row k) (branch_count tb (stands_at row)) ≡ true
      unfolding reaches_at reaches_by is_marked offers_at
      reaches_marked b g x =
          let r = branch_at tb (stands_at row) i in
          let q : slot_of row (field_a tb r) ≡ c = offers_channel tb row d c r x in
          some_intro (reaches_at tb row k) (branch_count tb (stands_at row)) i l
          (rw (q, lt-ltb c max_channels b, g) (this_way (λ e. offers_in tb row e c r) d x))

    offered_by : (i : ℕ) → i < branch_count tb (stands_at row) → reaches_at tb row k i ≡ true
        → (d : Direction) × (c : ℕ) × (c < max_channels) × (get_or k c false ≡ true) × (offers_at tb row d c i ≡ true)
    unfolding reaches_at reaches_by is_marked offers_at
    offered_by i l h =
        let r = branch_at tb (stands_at row) i in
        let c = slot_of row (field_a tb r) in
        let (d, o) = one_way (λ e. offers_in tb row e c r) (search parts) in
        (d, c, ltb-true c max_channels (search parts), search parts, o)

    by_branch_lem : (d : Direction) (c : ℕ) → offers tb row d c ≡ true → (i : ℕ) × (i < branch_count tb (stands_at row)) × (offers_at tb row d c i ≡ true)
    unfolding offers
    by_branch_lem d c o = some_elim (offers_at tb row d c) (branch_count tb (stands_at row)) (search parts)

    -- a waiting thread offers on a marked channel where one of its branches does
    pub reaches_is : some (reaches_at tb row k) (branch_count tb (stands_at row)) ≡ offers_marked tb row k
    reaches_is =
        same_truth (some (reaches_at tb row k) (branch_count tb (stands_at row))) (offers_marked tb row k)
        (λ e. let (i, l, h) = some_elim (reaches_at tb row k) (branch_count tb (stands_at row)) e in
        let (d, c, b, g, x) = offered_by i l h in
        offer_marked tb row k d c (offers_by d c i l b x) g)
        (λ e. let (d, c, b, g, o) = marked_offer tb row k e in
        let (i, l, x) = by_branch_lem d c o in
        reaches_marked d c i l b g x)

  -- any other thread offers nothing
  pub offers_nothing : is_waiting row ≡ false → false ≡ offers_marked tb row k
  unfolding offers_marked offers
  offers_nothing n =
      sym (some_void (λ x. get_or k x false && (offers tb row Out x || offers tb row In x)) max_channels
      (λ c l. rw (n, lt-ltb c max_channels l) (case_b (get_or k c false) (λ y. rw y) (λ z. rw z))))
