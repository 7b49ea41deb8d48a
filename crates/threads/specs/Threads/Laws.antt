-- A thread offers on a marked channel exactly where one of its offers is on one. Assumes nothing.
use Rattle.std.specs.Prelude.{ℕ, ◌<◌, ◌≡◌, Bool, true, ◌&&◌, ◌||◌, List, ltb}
use Rattle.std.proofs.Math.Bool.{false}
use Rattle.std.proofs.Math.ListN.{get_or}
use Rattle.std.proofs.Common.{ltb-true}
use Rattle.numbers.specs.Search.Laws.{case_b, some_elim, some_intro}
use Rattle.numbers.specs.Tests.{parts}
use Rattle.table.specs.Table.{Table}
use Rattle.state.specs.State.{max_channels}
use Rattle.rules.specs.Offers.{offers}
use Rattle.rules.specs.declared.Direction.{Direction}
use Rattle.rules.specs.declared.Direction.TheVariants.{Out, In}
use Rattle.threads.specs.Threads.{offers_marked}

-- of two tests, one for each direction, one passes
module _ (p : Direction → Bool) where
  pub one_way : (p Out || p In) ≡ true → (d : Direction) × (p d ≡ true)
  one_way e = case_b (p Out) (λ y. (Out, y)) (λ n. (In, rw n at e))

  pub this_way : (d : Direction) → p d ≡ true → (p Out || p In) ≡ true
  this_way Out e = rw e
  this_way In e = case_b (p Out) (λ y. rw y) (λ n. rw n e)

module _ (tb : Table) (row : List ℕ) (marks : List Bool) where
  pub marked_offer : offers_marked tb row marks ≡ true → (d : Direction) × (c : ℕ) × (c < max_channels) × (get_or marks c false ≡ true) × (offers tb row d c ≡ true)
  unfolding offers_marked
  marked_offer h =
      let (c, l, y) = some_elim (λ x. get_or marks x false && (offers tb row Out x || offers tb row In x)) max_channels h in
      let (d, o) = one_way (λ e. offers tb row e c) (search parts) in
      (d, c, l, search parts, o)

  -- only what is a channel is offered
  offered_in : (d : Direction) (c : ℕ) → offers tb row d c ≡ true → ltb c max_channels ≡ true
  unfolding offers
  offered_in d c o = search parts

  pub offer_marked : (d : Direction) (c : ℕ) → offers tb row d c ≡ true → get_or marks c false ≡ true → offers_marked tb row marks ≡ true
  unfolding offers_marked
  offer_marked d c o g =
      some_intro (λ x. get_or marks x false && (offers tb row Out x || offers tb row In x)) max_channels c (ltb-true c max_channels (offered_in d c o))
      (rw g (this_way (λ e. offers tb row e c) d o))
