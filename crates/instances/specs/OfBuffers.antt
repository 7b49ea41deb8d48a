-- Instances of the theorems on refusals (`engine_laws/specs/Entry.antt`, `Refusals.antt`): a call that each of the grounds 8 to 12 refuses, and one that it does
-- not. Assumes nothing.
use Rattle.std.specs.Prelude.{ℕ, zero, suc, ◌<◌, ◌≤◌, ◌≡◌, refl, true, false, List, [], ◌∷◌, length, get_or, replicate, Err, None, Ok, Some}
use Rattle.std.proofs.Common.{arith}
use Rattle.std.proofs.lemmas.List.{length-replicate}
use Rattle.numbers.specs.Bytes.{bytes_of, encode, joined}
use Rattle.numbers.specs.Rows.{at}
use Rattle.table.specs.Table.{Table, table_of, max_rows, row_numbers, ports}
use Rattle.loader.specs.Verdict.{acceptable}
use Rattle.loader.specs.Load.{table_bytes, accepted}
use Rattle.loader_laws.specs.PrintedFile.{filled_up}
use Rattle.loader_laws.specs.Yields as Yields
use Rattle.loader_laws.specs.Yields.{length_bytes, bytes_hold}
use Rattle.state.specs.State.{State, state_length, view, state_bytes}
use Rattle.rules.specs.Start.{started}
use Rattle.rules.specs.Sound.{sound}
use Rattle.rules.specs.Offers.{partner_of}
use Rattle.rules.specs.Calls.{admission, can_step, step_call, bench, given_to, give_on, give_call, take_call, course_of}
use Rattle.rules.specs.Calls.Laws.{call_admitted}
use Rattle.rules.specs.declared.Direction.TheVariants.{In}
use Rattle.rules.specs.declared.Refusal.TheVariants as Ground
use Rattle.rules_laws.specs.Shape.{Shaped}
use Rattle.rules_laws.specs.Shape.Laws.{bytes_long, view_bytes}
use Rattle.engine_laws.specs.Entry.{RightLengths, Admitted, length_iff, table_iff, state_iff, admitted_iff}
use Rattle.engine_laws.specs.Bench.{NobodyOffers}
use Rattle.engine_laws.specs.Refusals.{step_thread_iff, give_port_iff, take_port_iff, give_nobody_iff}
use Rattle.engine_laws.specs.Buffers.{bytes_sound}
use Rattle.examples.specs.Builders.{state_with}
use Rattle.examples.specs.Tables.{port_receiver, end_only}
use Rattle.examples.specs.Computing.{judging, running, testing}
use Rattle.examples.specs.Files.{table_for, table_holds, table_long, table_accepted, run_sound, receiver_in_order, end_in_order}

-- ---- a state of zeros: what a bench has that forgets to start

abbrev pub blank : State
blank = state_with (0 ∷ 0 ∷ 0 ∷ []) [] []

pub blank_bytes : state_bytes blank ≡ replicate state_length 0
unfolding state_bytes encode bytes_of joined
blank_bytes = refl

-- rows of zeros
pub zero_row : (m k : ℕ) → ◌≡◌ {A = ℕ} (get_or (replicate m 0) k 0) 0
zero_row zero k = refl
zero_row (suc m) zero = refl
zero_row (suc m) (suc k) = zero_row m k

pub zero_at : (n m t k : ℕ) → at (replicate n (replicate m 0)) t k ≡ 0
zero_at zero m t k = refl
zero_at (suc n) m zero k = zero_row m k
zero_at (suc n) m (suc t) k = zero_at n m t k

pub zero_long : (n m t : ℕ) → t < n → length {A = ℕ} (get_or (replicate n (replicate m 0)) t []) ≡ m
zero_long zero m t l = absurd (omega arith)
zero_long (suc n) m zero l = length-replicate {A = ℕ} m 0
zero_long (suc n) m (suc t) l = zero_long n m t (omega arith)

blank_shaped : Shaped blank
blank_shaped = record {
  three_marks = refl;
  all_threads = refl;
  all_channels = refl;
  thread_long = λ t l. zero_long 64 18 t l;
  channel_long = λ c l. zero_long 128 3 c l;
  mark_small = λ i. omega (arith, zero_row 3 i);
  thread_small = λ t k. omega (arith, zero_at 64 18 t k);
  channel_small = λ c k. omega (arith, zero_at 128 3 c k);
}

-- ---- two files: one without ports, of one node, an end; and one whose only thread receives on a port

abbrev pub ends : List ℕ
ends = table_for end_only

abbrev pub receives : List ℕ
receives = table_for port_receiver

-- ---- ground 8: buffers without a byte

pub empty_refused : admission [] [] ≡ Err Ground.Length
empty_refused = (length_iff [] []).1 (λ (a, b). omega arith)

-- ---- ground 9: a table of zeros

abbrev pub zero_table : Table
zero_table = replicate 865 (replicate 12 0)

pub zero_shaped : Yields.Shaped zero_table
zero_shaped = record { long = refl; twelve = λ i l. zero_long 865 12 i l; small = λ i k l m. omega (arith, zero_at 865 12 i k) }

pub zero_refused : acceptable zero_table ≡ false
unfolding judging acceptable
zero_refused = refl

pub zero_table_refused : admission (table_bytes (replicate max_rows (replicate row_numbers 0))) (state_bytes blank) ≡ Err Ground.Table
unfolding accepted
zero_table_refused =
    (table_iff (table_bytes zero_table) (state_bytes blank)).1
    ((length_bytes zero_table zero_shaped, bytes_long blank blank_shaped), rw (length_bytes zero_table zero_shaped, bytes_hold zero_table zero_shaped, zero_refused))

-- ---- ground 10: the state of zeros is not sound where there is a port; where there is none it is, and the calls go on to their own grounds

pub zeros_lengths : RightLengths receives (state_bytes blank)
zeros_lengths = (table_long port_receiver receiver_in_order, bytes_long blank blank_shaped)

zeros_unsound : sound (filled_up port_receiver) blank ≡ false
unfolding testing
zeros_unsound = refl

pub zeros_refused : admission receives (state_bytes blank) ≡ Err Ground.State
zeros_refused =
    (state_iff receives (state_bytes blank)).1 (
      zeros_lengths,
      table_accepted port_receiver receiver_in_order,
      rw (table_holds port_receiver receiver_in_order, view_bytes blank blank_shaped) zeros_unsound,
    )

zeros_sound : sound (filled_up end_only) blank ≡ true
unfolding testing
zeros_sound = refl

pub zeros_admitted : Admitted ends (state_bytes blank)
zeros_admitted =
    (admitted_iff ends (state_bytes blank)).1 (
      (table_long end_only end_in_order, bytes_long blank blank_shaped),
      table_accepted end_only end_in_order,
      rw (table_holds end_only end_in_order, view_bytes blank blank_shaped) zeros_sound,
    )

-- ---- ground 11: thread 0 of it is free, and so not ready; ground 12: there is no port

pub none_to_step : (step_call ends (state_bytes blank) 0).answer ≡ Err Ground.Thread
unfolding can_step
none_to_step = (step_thread_iff ends (state_bytes blank) 0).1 (zeros_admitted, rw (view_bytes blank blank_shaped) refl)

pub no_port : ((give_call ends (state_bytes blank) 0 7).answer ≡ Err Ground.Port) × ((take_call ends (state_bytes blank) 0).answer ≡ Err Ground.Port)
no_port = let few : ports (table_of ends) ≤ 0 = rw (table_holds end_only end_in_order) (omega arith) in
    ((give_port_iff ends (state_bytes blank) 0 7).1 (zeros_admitted, few), (take_port_iff ends (state_bytes blank) 0).1 (zeros_admitted, few))

-- ---- nobody: at the start no thread waits at the port; after a step one does, and a give meets it

abbrev pub begun : ℕ → State
begun n = (course_of (filled_up port_receiver) n (started (filled_up port_receiver))).state

module _ (n : ℕ) where
  pub begun_admitted : Admitted receives (state_bytes (begun n))
  begun_admitted =
      let ok = run_sound port_receiver receiver_in_order n in
      let b = bytes_sound receives (begun n) (rw (table_holds port_receiver receiver_in_order) ok) in
      (admitted_iff receives (state_bytes (begun n))).1 ((table_long port_receiver receiver_in_order, b.long), table_accepted port_receiver receiver_in_order, b.tested)

  pub begun_lengths : RightLengths receives (state_bytes (begun n))
  begun_lengths = ((admitted_iff receives (state_bytes (begun n))).0 begun_admitted).0

  pub begun_view : view (state_bytes (begun n)) ≡ begun n
  begun_view = view_bytes (begun n) (run_sound port_receiver receiver_in_order n).orderly.shaped

none_waits : partner_of (filled_up port_receiver) (begun 0) bench In 0 ≡ None
unfolding running
none_waits = refl

one_waits_lem : partner_of (filled_up port_receiver) (begun 1) bench In 0 ≡ Some (0, 0)
unfolding running
one_waits_lem = refl

pub nobody_there : (give_call receives (state_bytes (begun 0)) 0 7).answer ≡ Ok None
unfolding give_call give_on given_to
nobody_there = rw (call_admitted Err receives (state_bytes (begun 0)) _ (begun_admitted 0), table_holds port_receiver receiver_in_order, begun_view 0, none_waits)

pub somebody_there : (give_call receives (state_bytes (begun 1)) 0 7).answer ≡ Ok (Some 0)
unfolding give_call give_on given_to
somebody_there = rw (call_admitted Err receives (state_bytes (begun 1)) _ (begun_admitted 1), table_holds port_receiver receiver_in_order, begun_view 1, one_waits_lem)

-- by the law none of all 64 threads offers to receive there
pub nobody_offers : NobodyOffers (table_of receives) (view (state_bytes (begun 0))) In 0
nobody_offers = ((give_nobody_iff receives (state_bytes (begun 0)) 0 7).0 nobody_there).2
