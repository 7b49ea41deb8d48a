-- What waits on one channel waits on one side of it (002, Proposition 2): where a thread waits to send, no other waits to receive. Assumes nothing.
use Rattle.std.specs.Prelude.{ℕ, ◌<◌, ◌≡◌, true, false, ◌≢◌}
use Rattle.std.proofs.Math.Path.{refl}
use Rattle.numbers.specs.Search.Laws.{case_b}
use Rattle.table.specs.Table.{Table}
use Rattle.state.specs.State.{State, max_threads, thread}
use Rattle.rules.specs.Program.{opposite}
use Rattle.rules.specs.Offers.{offers}
use Rattle.rules.specs.declared.Direction.{Direction}
use Rattle.rules.specs.declared.Direction.TheVariants.{Out, In}
use Rattle.offers.specs.Apart.{Apart}
use Rattle.rules_laws.specs.Soundness.{Sound}

module _ (tb : Table) (s : State) (ok : Sound tb s) (t u : ℕ) (l : t < max_threads) (m : u < max_threads) (n : t ≢ u) (c : ℕ) where
  -- of two waiting threads, where one offers to send on a channel the other does not offer to receive on it
  pub no_receiver : offers tb (thread s t) Out c ≡ true → offers tb (thread s u) In c ≡ false
  unfolding Apart opposite
  no_receiver a = case_b (offers tb (thread s u) In c) (λ b. absurd (ok.orderly.apart t u l m n Out c a b)) (λ b. b)

  -- the offers of two waiting threads on one channel are of one direction
  pub one_direction : (d e : Direction) → offers tb (thread s t) d c ≡ true → offers tb (thread s u) e c ≡ true → d ≡ e
  unfolding Apart opposite
  one_direction Out Out a b = refl
  one_direction Out In a b = absurd (ok.orderly.apart t u l m n Out c a b)
  one_direction In Out a b = absurd (ok.orderly.apart t u l m n In c a b)
  one_direction In In a b = refl
