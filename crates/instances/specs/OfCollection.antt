-- Instances of the theorems on sound states and on collection (`crates/rules_laws`, `crates/collector_laws`): threads that are enabled and that are not, series
-- that there are and that there are not, sets that are sealed off and that are not, states that are sound and that are not. Assumes nothing.
use Rattle.std.specs.Prelude.{ℕ, ◌≡◌, refl, Bool, true, false, eqb, length}
use Rattle.std.proofs.Common.{arith, inl, inr}
use mathlib.Core.List.{List, [], ◌∷◌}
use Rattle.numbers.specs.Search.Laws.{case_b, contra}
use Rattle.table.specs.Table.{Table}
use Rattle.loader_laws.specs.PrintedFile.{filled_up}
use Rattle.state.specs.State.{State, state_length, view, thread}
use Rattle.rules.specs.Offers.{offers}
use Rattle.rules.specs.Sound.{sound}
use Rattle.rules.specs.declared.Direction.TheVariants.{Out, In}
use Rattle.offers.specs.Apart.{Apart}
use Rattle.rules_laws.specs.Reading.Laws.{ready_not_waiting}
use Rattle.rules_laws.specs.Soundness.{Sound}
use Rattle.engine_laws.specs.Buffers.{SoundBuffer}
use Rattle.engine_laws.specs.Sealed.{Sealed}
use Rattle.engine_laws.specs.Lists.{Call, reached, always_sound}
use Rattle.marking.specs.Enabled.{nobody, Enabled, is_ready_lem, by_bench, by_thread}
use Rattle.collector.specs.Collect.Laws.{taken_iff}
use Rattle.collector_laws.specs.Linked.{Series}
use Rattle.collector_laws.specs.Out.{taken_thread, taken_sealed}
use Rattle.examples.specs.Builders.{ready_at, waiting_at, channel_with, state_with}
use Rattle.examples.specs.Tables.{listing, chain, parting}
use Rattle.examples.specs.Computing.{running, collecting, testing}
use Rattle.examples.specs.Files.{table_for, table_holds, table_small, table_accepted, listing_in_order}
use Rattle.instances.specs.Parting.{tb, state_after, state_sound}
use Rattle.instances.specs.PaperCollector.{chained, chain_stands}

-- ---- the file `parting` after five steps: thread 0 waits to receive on the port, thread 1 on a channel that it alone holds

abbrev parted : State
parted = state_after 5

port_offered : offers tb (thread parted 0) In 0 ≡ true
unfolding running state_after
port_offered = refl

child_taken : taken_thread tb parted 1 ≡ true
unfolding collecting state_after taken_thread
child_taken = refl

-- ---- Definition 1: enabled by the bench, by another thread, and by being ready; and not at all

pub by_port : Enabled (filled_up parting) (state_after 5) nobody 0
by_port = by_bench {t = 0} (omega arith) In 0 port_offered (omega arith)

-- document 01's third case: thread 0 is ready, thread 2 waits on a channel of it, and thread 1 on a channel of thread 2
pub by_others : Enabled chain chained nobody 1
by_others =
    let (p, w, d, r, k, n) = chain_stands in
    by_thread {t = 1} (omega arith) In 0 p 2 (λ q. omega arith) w
    (by_thread {t = 2} (omega arith) In 1 d 0 (λ q. omega arith) k (is_ready_lem {t = 0} (omega arith) r))

pub not_enabled : ¬ Enabled (filled_up parting) (state_after 5) nobody 1
unfolding taken_thread
not_enabled = ((taken_iff tb parted 1).0 child_taken).1

-- ---- sealed sets: thread 1 is sealed off, and thread 0, which a give may move, is not

pub child_sealed : Sealed (filled_up parting) (taken_thread (filled_up parting) (state_after 5)) (state_after 5) (state_after 5) × (taken_thread (filled_up parting) (state_after 5) 1 ≡ true)
child_sealed = (taken_sealed tb parted (state_sound 5), child_taken)

pub parent_not_sealed : ¬ Sealed (filled_up parting) (λ t. eqb t 0) (state_after 5) (state_after 5)
parent_not_sealed z = z.no_port 0 refl In 0 port_offered (omega arith)

-- ---- series: none begins with a thread that a collection takes, in whatever sound state

module _ (tb : Table) (s : State) (q : ℕ → Bool) (z : Sealed tb q s s) where
  sealed_unlinked : (r : List ℕ) (t : ℕ) → q t ≡ true → ¬ Series tb s t r
  unfolding Series
  sealed_unlinked [] t h (inl y) = contra (z.waits t h) (ready_not_waiting (thread s t) y)
  sealed_unlinked [] t h (inr (d, c, o, p)) = z.no_port t h d c o p
  sealed_unlinked (u ∷ r) t h ((d, c, o, n, k), l) =
      case_b (q u) (λ y. sealed_unlinked r u y l) (λ y. z.unknown t h d c o u y k)

pub taken_unlinked : (tb : Table) (s : State) → Sound tb s → (t : ℕ) → taken_thread tb s t ≡ true → (r : List ℕ) → ¬ Series tb s t r
taken_unlinked tb s ok t h r = sealed_unlinked tb s (taken_thread tb s) (taken_sealed tb s ok) r t h

pub child_unlinked : (r : List ℕ) → ¬ Series (filled_up parting) (state_after 5) 1 r
child_unlinked = taken_unlinked tb parted (state_sound 5) 1 child_taken

-- ---- sound states, of the file of document 01's listing

-- whatever is called after its start, the state is sound
pub listing_always : (state : List ℕ) → length state ≡ state_length → (ks : List Call) → SoundBuffer (table_for listing) (reached (table_for listing) state ks)
listing_always = always_sound (table_for listing) (table_accepted listing listing_in_order) (table_small listing listing_in_order)

-- two threads that know channel 0 stand at its send, as the row says, and wait at its receive, and this many of them wait
abbrev pub facing : List ℕ → ℕ → State
facing sender waiting = state_with (2 ∷ 1 ∷ 0 ∷ []) (sender ∷ waiting_at 4 (0 ∷ 0 ∷ []) ∷ []) (channel_with 1 2 waiting ∷ [])

abbrev pub one_waits : State
one_waits = facing (ready_at 3 (0 ∷ 7 ∷ [])) 1

abbrev pub both_wait : State
both_wait = facing (waiting_at 3 (0 ∷ 7 ∷ [])) 2

-- where only the second waits the state is sound; where both do it is not, though every count is right: they could meet
pub one_waits_lem : sound (filled_up listing) one_waits ≡ true
unfolding testing
one_waits_lem = refl

pub both_wait_lem : sound (filled_up listing) both_wait ≡ false
unfolding testing
both_wait_lem = refl

-- 002's Proposition 2, of states, leaves the second out
pub not_apart : ¬ Apart (filled_up listing) both_wait.threads
unfolding running Apart
not_apart h = h 0 1 (omega arith) (omega arith) (λ q. omega arith) Out 0 refl refl

-- no list of calls from the start of the file comes to the state in which both wait
pub never_both_wait : (state : List ℕ) → length state ≡ state_length → (ks : List Call) → ¬ (view (reached (table_for listing) state ks) ≡ both_wait)
never_both_wait state long ks e = contra (rw (table_holds listing listing_in_order, e) at (listing_always state long ks).tested) both_wait_lem
