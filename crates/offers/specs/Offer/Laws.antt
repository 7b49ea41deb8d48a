-- A branch offers d on a channel, as the rules say it, where its offer on that channel is one of direction d. Assumes nothing.
use Rattle.std.specs.Prelude.{ℕ, ◌≡◌, refl, Bool, true, false, ◌&&◌, List, eqb, None, Option, Some}
use Rattle.std.proofs.Common.{sym, ◌∙◌}
use Rattle.numbers.specs.Search.Laws.{case_b, contra}
use Rattle.numbers.specs.Tests.{and_true}
use Rattle.table.specs.Table.{Table}
use Rattle.state.specs.State.{slot_of}
use Rattle.rules.specs.Program.{field_a, act_of, guard_holds, opposite, same}
use Rattle.rules.specs.Offers.{meets?, offers_in}
use Rattle.rules.specs.declared.Direction.{Direction}
use Rattle.rules.specs.declared.Direction.TheVariants.{Out, In}
use Rattle.rules.specs.declared.Act.{Act}
use Rattle.rules.specs.declared.Act.TheVariants.{Tau, Meeting, New, Spawn, Assignment}
use Rattle.offers.specs.Offer.{offer_of, offer_on, is_of}

-- ---- directions

pub same_self : (d : Direction) → same d d ≡ true
unfolding same
same_self Out = refl
same_self In = refl

-- what is not one direction is the other
pub same_other : (e d : Direction) → same e d ≡ false → same e (opposite d) ≡ true
unfolding same opposite
same_other Out Out n = contra refl n
same_other Out In n = refl
same_other In Out n = refl
same_other In In n = contra refl n

-- ---- offers

meeting_offer : (a : Act) (d : Direction) → meets? a d ≡ is_of (offer_of a) d
unfolding meets? offer_of is_of
meeting_offer Tau d = refl
meeting_offer (Meeting e) d = refl
meeting_offer New d = refl
meeting_offer Spawn d = refl
meeting_offer Assignment d = refl

and_false : (a : Bool) → (a && false) ≡ false
and_false true = refl
and_false false = refl

module _ (tb : Table) (row : List ℕ) (c r : ℕ) where
  pub offers_in_lem : (d : Direction) → offers_in tb row d c r ≡ is_of (offer_on tb row c r) d
  unfolding offers_in offer_on is_of
  offers_in_lem d =
      case_b (eqb (slot_of row (field_a tb r)) c && guard_holds tb r row)
      (λ y. rw y (sym (and_true (meets? (act_of tb r) d)) ∙ meeting_offer (act_of tb r) d))
      (λ n. rw n (and_false (meets? (act_of tb r) d)))

  -- what was read as the offer is v
  module _ (v : Option Direction) (e : v ≡ offer_on tb row c r) where
    pub offer_nothing : v ≡ None → (d : Direction) → offers_in tb row d c r ≡ false
    unfolding is_of
    offer_nothing f d = offers_in_lem d ∙ rw (← e, f)

    pub offer_of_lem : (o d : Direction) → v ≡ Some o → offers_in tb row d c r ≡ same o d
    unfolding is_of
    offer_of_lem o d f = offers_in_lem d ∙ rw (← e, f)
