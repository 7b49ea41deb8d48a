-- The state with which a file starts is sound. Assumes nothing but what the table grants.
use Prim.Native.Nat.{ℕ, zero, suc, ◌<◌}
use Rattle.std.proofs.Common.{arith, ap, ltb-true, ltb-false, lt-ltb}
use Rattle.std.specs.Prelude.{◌≡◌, false, ltb, length, get_or}
use Rattle.std.proofs.Math.Path.{refl}
use mathlib.Core.List.{[]}
use Rattle.std.proofs.lemmas.List.{length-replicate, get_or-replicate}
use Rattle.std.proofs.Math.ListN.{get_or-eq_default}
use Rattle.numbers.specs.Rows.{at}
use Rattle.numbers.specs.Search.Laws.{case_b, contra, get_d_tabulate, length_tabulate}
use Rattle.table.specs.Table.{Table, ports, parameters}
use Rattle.table.specs.Layout.{start}
use Rattle.table.specs.declared.Part.TheVariants.{Nodes}
use Rattle.state.specs.State.{max_threads, max_channels, thread, channel, is_waiting, type_in}
use Rattle.rules.specs.Start.{free_row, entered, port_row, opening, started}
use Rattle.rules_laws.specs.Granted.{Granted}
use Rattle.rules_laws.specs.Shape.{Shaped}
use Rattle.rules_laws.specs.Reading.Laws.{offers_elim}
use Rattle.offers.specs.Apart.{Apart}
use Rattle.rules_laws.specs.Soundness.{SlotSound, filled, RowSound, Orderly, Sound}
use Rattle.rules_laws.specs.Entered.{free_sound, entered_sound}
use Rattle.rules_laws.specs.Settle.{three_small, settle}

-- ---- the rows of the ports

module _ (tb : Table) where
  port_long : (c : ℕ) → length (port_row tb c) ≡ 3
  unfolding port_row
  port_long c = case_b (ltb c (ports tb)) (λ t. rw t) (λ f. rw f)

  port_small : (c k : ℕ) → get_or (port_row tb c) k 0 < 4294967296
  unfolding port_row
  port_small c k =
      case_b (ltb c (ports tb))
      (λ t. rw t (three_small 1 0 0 k (omega arith) (omega arith) (omega arith)))
      (λ f. rw f (three_small 0 0 0 k (omega arith) (omega arith) (omega arith)))

  port_type : (c : ℕ) → c < ports tb → get_or (port_row tb c) 0 0 ≡ 1
  unfolding port_row
  port_type c l = rw (lt-ltb c (ports tb) l)

  -- ---- the state before the count

  opening_channel : (c : ℕ) → c < max_channels → channel (opening tb) c ≡ port_row tb c
  opening_channel c l = get_d_tabulate max_channels c (port_row tb) [] l

module _ (tb : Table) (g : Granted tb) where
  opening_type : (c : ℕ) → c < ports tb → type_in (opening tb) c ≡ 1
  opening_type c l = rw (opening_channel tb c (omega (arith, l, g.few_ports))) (port_type tb c l)

  -- the ports as parameters of definition 0
  given_sound : (k : ℕ) → k < parameters tb 0 → (k < 4294967296) × SlotSound tb (type_in (opening tb)) (start tb Nodes 0) k k
  given_sound k l =
      let p : k < ports tb = rw g.port_parameters at l in
      let d = g.definition 0 g.some_definition in
      let e = d.first_same in
      let f = g.port_typed_lem k p in (
        omega (arith, p, g.few_ports),
        filled (rw e (omega (arith, l, d.few_parameters))) (rw (e, f) (λ z. absurd (omega arith))) (omega (arith, p, g.few_ports)) (rw (e, f) (opening_type k p)),
      )

  opening_row : (t : ℕ) → t < max_threads → RowSound tb (type_in (opening tb)) (thread (opening tb) t)
  opening_row zero l = entered_sound tb g (type_in (opening tb)) 0 (λ k. k) g.some_definition given_sound
  opening_row (suc t) l = rw (get_or-replicate 63 t free_row [] (omega arith)) (free_sound tb (type_in (opening tb)))

  opening_small : (t k : ℕ) → at (opening tb).threads t k < 4294967296
  opening_small t k =
      case_b (ltb t 64)
      (λ y. (opening_row t (ltb-true t 64 y)).small k)
      (λ f. rw (get_or-eq_default (opening tb).threads [] {n = t} (omega (arith, ltb-false t 64 f, length-replicate 63 free_row))) (omega arith))

  opening_channel_small : (c k : ℕ) → at (opening tb).channels c k < 4294967296
  opening_channel_small c k =
      case_b (ltb c 128)
      (λ t. rw (opening_channel tb c (ltb-true c 128 t)) (port_small tb c k))
      (λ f. rw (get_or-eq_default (opening tb).channels [] {n = c} (omega (arith, ltb-false c 128 f, length_tabulate 128 (port_row tb)))) (omega arith))

  opening_shaped : Shaped (opening tb)
  opening_shaped = record {
    three_marks = refl;
    all_threads = ap suc (length-replicate 63 free_row);
    all_channels = length_tabulate max_channels (port_row tb);
    thread_long = λ t l. (opening_row t l).long;
    channel_long = λ c l. rw (opening_channel tb c l) (port_long tb c);
    mark_small = λ i. three_small 1 (ports tb) 0 i (omega arith) (omega (arith, g.few_ports)) (omega arith);
    thread_small = opening_small;
    channel_small = opening_channel_small;
  }

  -- thread 0 is ready, and there is no other
  nobody_waits : (t : ℕ) → t < max_threads → is_waiting (thread (opening tb) t) ≡ false
  unfolding entered
  nobody_waits zero l = refl
  nobody_waits (suc t) l = rw (get_or-replicate 63 t free_row [] (omega arith))

  opening_apart : Apart tb (opening tb).threads
  unfolding Apart
  opening_apart t u l m n d c e f = contra (offers_elim tb (thread (opening tb) t) d c e).waits (nobody_waits t l)

  opening_orderly : Orderly tb (opening tb)
  opening_orderly = record {
    shaped = opening_shaped;
    thread_mark_lem = omega arith;
    channel_mark_lem = omega (arith, g.few_ports);
    turn_in = omega arith;
    row = opening_row;
    port = opening_type;
    apart = opening_apart;
  }

-- the state with which a file starts
pub started_sound : (tb : Table) → Granted tb → Sound tb (started tb)
unfolding started
started_sound tb g = settle tb g (opening tb) (opening_orderly tb g)
