-- A collection leaves a sound state sound. Assumes nothing but what the table grants.
use Rattle.std.specs.Prelude.{ℕ, ◌<◌, ◌≡◌, refl, Bool, true, cond, List, [], ltb}
use Rattle.std.proofs.Common.{arith, ltb-true, ltb-false}
use Rattle.std.proofs.Math.ListN.{get_or-eq_default}
use Rattle.numbers.specs.Rows.{at}
use Rattle.numbers.specs.Search.{tabulate}
use Rattle.numbers.specs.Search.Laws.{case_b, contra, get_d_tabulate, length_tabulate}
use Rattle.table.specs.Table.{Table}
use Rattle.state.specs.State.{State, max_threads, thread, type_in, with_threads}
use Rattle.rules.specs.Start.{free_row}
use Rattle.rules.specs.Offers.{offers}
use Rattle.rules.specs.declared.Direction.{Direction}
use Rattle.rules_laws.specs.Granted.{Granted}
use Rattle.rules_laws.specs.Shape.{Shaped}
use Rattle.rules_laws.specs.Reading.Laws.{offers_elim}
use Rattle.offers.specs.Apart.{Apart}
use Rattle.rules_laws.specs.Soundness.{RowSound, Orderly, Sound}
use Rattle.rules_laws.specs.Entered.{free_sound}
use Rattle.rules_laws.specs.Settle.{settle}
use Rattle.collector.specs.Collect.{taken, remaining, collected, collect_on}

-- a free row offers nothing
free_offers {ℓ} : {A : Type ℓ} (tb : Table) (d : Direction) (c : ℕ) → offers tb free_row d c ≡ true → A
free_offers tb d c e = contra (offers_elim tb free_row d c e).waits refl

-- whichever threads are freed
module _ (tb : Table) (s : State) (o : Orderly tb s) (q : ℕ → Bool) where
  abbrev left : ℕ → List ℕ
  left t = cond (q t) free_row (thread s t)

  abbrev left_state : State
  left_state = with_threads s (tabulate max_threads left)

  left_row : (t : ℕ) → t < max_threads → thread left_state t ≡ left t
  left_row t l = get_d_tabulate max_threads t left [] l

  left_sound : (t : ℕ) → t < max_threads → RowSound tb (type_in s) (thread left_state t)
  left_sound t l =
      rw (left_row t l) (case_b (q t) (λ y. rw y (free_sound tb (type_in s))) (λ y. rw y (o.row t l)))

  left_small : (t k : ℕ) → at left_state.threads t k < 4294967296
  left_small t k =
      case_b (ltb t max_threads)
      (λ y. (left_sound t (ltb-true t max_threads y)).small k)
      (λ y. rw (get_or-eq_default (tabulate max_threads left) [] {n = t} (omega (arith, ltb-false t max_threads y, length_tabulate max_threads left))) (omega arith))

  left_shaped : Shaped left_state
  left_shaped = let h = o.shaped in record {
    three_marks = h.three_marks;
    all_threads = length_tabulate max_threads left;
    all_channels = h.all_channels;
    thread_long = λ t l. (left_sound t l).long;
    channel_long = h.channel_long;
    mark_small = h.mark_small;
    thread_small = left_small;
    channel_small = h.channel_small;
  }

  -- what a thread offers afterwards it offered before
  left_offers : (t : ℕ) → t < max_threads → (d : Direction) (c : ℕ) → offers tb (thread left_state t) d c ≡ true → offers tb (thread s t) d c ≡ true
  left_offers t l d c e =
      let f : offers tb (left t) d c ≡ true = rw (left_row t l) at e in
      case_b (q t) (λ y. free_offers tb d c (rw y at f)) (λ y. rw y at f)

  left_apart : Apart tb left_state.threads
  unfolding Apart
  left_apart t u l m n d c a b = o.apart t u l m n d c (left_offers t l d c a) (left_offers u m _ c b)

  left_orderly : Orderly tb left_state
  left_orderly = record {
    shaped = left_shaped;
    thread_mark_lem = o.thread_mark_lem;
    channel_mark_lem = o.channel_mark_lem;
    turn_in = o.turn_in;
    row = left_sound;
    port = o.port;
    apart = left_apart;
  }

-- the state after a collection is sound
pub collected_sound : (tb : Table) → Granted tb → (s : State) → Sound tb s → Sound tb (collected tb s)
unfolding collected remaining
collected_sound tb g s ok = settle tb g _ (left_orderly tb s ok.orderly (taken tb s))

-- the call that collects leaves a sound state sound
pub collect_on_kept : (tb : Table) → Granted tb → (s : State) → Sound tb s → Sound tb (collect_on tb s).state
unfolding collect_on
collect_on_kept tb g s ok = collected_sound tb g s ok
