-- The claim in C's numbers holds, of every file that C sees loaded and every buffer in which C sees it started. Assumes nothing.
use Rattle.collector.specs.Answers.{Collected}
use Rattle.rules.specs.Answers.{Admission, Given, Ran, Started, Taken}
use Rattle.std.specs.Prelude.{ℕ, zero, suc, ◌≤◌, ◌<◌, ◌≡◌, Bool, true, false, ◌⊎◌, ◌↔◌, length, get_or, Err, None, Ok, Some}
use Rattle.std.proofs.Common.{arith, ◌∙◌, to_z, ne_eqb}
use Rattle.std.proofs.Math.Path.{refl, ap}
use mathlib.Core.List.{List, [], ◌∷◌, map}
use Rattle.std.proofs.Math.Logic.{inl, inr, ⊎_elim}
use Rattle.std.proofs.Math.IntN.{pos}
use mir.Syntax.{w32}
use Rattle.std.proofs.Math.Facts.{to_z_pos}
use Rattle.numbers.specs.Count.{bit}
use Rattle.numbers.specs.Count.Laws.{bit_le}
use Rattle.numbers.specs.Search.{sum_to}
use Rattle.numbers.specs.Search.Laws.{case_b, contra, sum_none, sum_suc}
use Rattle.numbers.specs.Tests.{clash}
use Rattle.table.specs.Table.{Table, table_of}
use Rattle.loader.specs.Load.{accepted}
use Rattle.loader_laws.specs.Yields.{loaded_small, loaded_accepted}
use Rattle.state.specs.State.{State, max_threads, state_length, view, thread, in_use, is_waiting}
use Rattle.rules.specs.Moves.{move}
use Rattle.rules.specs.Calls.{start_admission, start_on, start_call, step_answer, can_step, step_on, step_call}
use Rattle.rules.specs.Calls.Laws.{start_admits, step_answered, by_refused, by_answer}
use Rattle.rules.specs.Seats.{seat_admission, seated_step, seated_give, seated_take, seated_run}
use Rattle.rules.specs.Seats.Laws.{seat_refused, seat_granted}
use Rattle.rules.specs.declared.Right.TheVariants as Right
use Rattle.rules.specs.declared.Refusal.{Refusal}
use Rattle.rules.specs.declared.Refusal.TheVariants as Ground
use Rattle.rules.specs.declared.Move.{Move}
use Rattle.rules.specs.declared.Move.TheVariants.{Ends, Calls, Waits, Goes, Creates, Spawns, Meets, LacksThread, LacksChannel}
use Rattle.engine.specs.Numbers.{refusal_number, partner_number}
use Rattle.engine.specs.Numbers.Laws.{ground_range}
use Rattle.rules_laws.specs.Reading.Laws.{waiting_used}
use Rattle.engine_laws.specs.Entry.{RightLengths, start_length_iff}
use Rattle.engine_laws.specs.Seats.{seat_length_iff}
use Rattle.rules_laws.specs.Chosen.{Chosen, chosen}
use Rattle.rules_laws.specs.Frames.{elem, movers}
use Rattle.engine_laws.specs.Movers.{ran_movers}
use Rattle.engine_laws.specs.Buffers.{SoundBuffer}
use Rattle.engine_laws.specs.SoundCalls.{start_done, call_made}
use Rattle.engine_laws.specs.Lists.{Call, step, give, take, run}
use Rattle.collector.specs.Collect.{taken, taken_count, collect_call, seated_collect}
use Rattle.collector.specs.Collect.Laws.{count_says}
use Rattle.interface.specs.Interface.{load_result, in_numbers, start_fields, start_numbers, start_result, step_fields, step_numbers, step_result, give_fields, give_numbers, give_result, take_fields, take_numbers, take_result, run_fields, run_numbers, run_result, collect_fields, collect_numbers, collect_result}
use Rattle.guarantee.specs.Claim.{Any, unless_refused, met_by_give, met_by_take, in_turns, Linked}
use Rattle.guarantee.specs.ClaimKept.{collect_done, collect_view}
use Rattle.guarantee.specs.SeatedClaim.{AtSeat, asked, after_seat, after_seats, reached_at, placed, moving_by, moving_seats, taken_at, UntouchedAt, NeverTenAt}
use Rattle.guarantee.specs.Through.{kept_left, refused_iff}
use Rattle.guarantee.specs.SeatedProof.{collected_plainly, seat_sound, seats_sound, accepted_seated, collection_refused}
use Rattle.guarantee.specs.Exported.{ground_signed, left, refusal, given_so, started_so, left_so, refused_shows, refused_so, load_so, table_so}
use Rattle.guarantee.specs.NamedInNumbers.{give_waits, take_waits}
use Rattle.guarantee.specs.InNumbers.{left_all, left_from, is_zero, if_done, named, waiting_in, moved, moved_all, takes, NoTen, InNumbers}

-- ---- the numbers of an answer

-- no ground has the number 0
not_zero : (r : Refusal) → is_zero (to_z w32 (refusal_number r)) ≡ false
unfolding is_zero
not_zero r = rw (ground_signed r) (ne_eqb (refusal_number r) 0 (λ e. omega (arith, (ground_range r).0)))

-- the number of a thread's row names it
named_row : (u : ℕ) → u < max_threads → named (to_z w32 u) ≡ u ∷ []
unfolding named
named_row u l = rw (to_z_pos w32 {n = u} (omega arith))

-- ---- the bytes

pub all_so : (table state : List ℕ) (ks : List (AtSeat Any)) → left_all table state ks ≡ after_seats table state ks
unfolding left_all after_seats
all_so table state [] = refl
all_so table state (k ∷ ks) = all_so table (left table state k) ks ∙ ap (λ b. after_seats table b ks) (left_so table state k)

-- from a start
pub from_so : (table state : List ℕ) (ks : List (AtSeat Any)) → left_from table state ks ≡ reached_at table state ks
from_so table state ks = rw (started_so table state) (all_so table (start_call table state).state ks)

-- ---- who moves

free_not_waiting : (row : List ℕ) → in_use row ≡ false → is_waiting row ≡ false
free_not_waiting row h = case_b (is_waiting row) (λ w. contra (waiting_used row w) h) (λ w. w)

-- the row of a thread that is started was free, and one that is met was waiting
child_left_out : (s : State) (u : ℕ) → u < max_threads → in_use (thread s u) ≡ false → waiting_in s (named (to_z w32 u)) ≡ []
unfolding waiting_in
child_left_out s u l h = rw (named_row u l, free_not_waiting (thread s u) h)

partner_counted : (s : State) (u : ℕ) → u < max_threads → is_waiting (thread s u) ≡ true → waiting_in s (named (to_z w32 u)) ≡ u ∷ []
unfolding waiting_in
partner_counted s u l h = rw (named_row u l, h)

-- by the move that a thread makes
step_moves : (tb : Table) (s : State) (t n : ℕ) (m : Move) → Chosen tb s t m
    → if_done (step_numbers (step_answer n m)).refusal (t ∷ waiting_in s (named (step_numbers (step_answer n m)).partner)) ≡ unless_refused (step_answer n m) (movers t m)
unfolding if_done is_zero named waiting_in step_numbers step_fields partner_number refusal_number step_answer unless_refused movers Chosen
step_moves tb s t n Ends k = refl
step_moves tb s t n Calls k = refl
step_moves tb s t n Waits k = refl
step_moves tb s t n (Goes i) k = refl
step_moves tb s t n (Creates i c) k = refl
step_moves tb s t n (Spawns i u) k = ap (λ (us : List ℕ). t ∷ us) (child_left_out s u k.thread_in k.unused)
step_moves tb s t n (Meets i u j) k = ap (λ (us : List ℕ). t ∷ us) (partner_counted s u k.partner.thread_in k.partner.waits)
step_moves tb s t n LacksThread k = refl
step_moves tb s t n LacksChannel k = refl

step_none : (r : Refusal) (who : List ℕ) → if_done (step_numbers (Err r)).refusal who ≡ []
unfolding if_done step_numbers step_fields
step_none r who = rw (not_zero r)

give_moves : (a : Given) → ((u : ℕ) → a ≡ Ok (Some u) → u < max_threads) → if_done (give_numbers a).refusal (named (give_numbers a).thread) ≡ met_by_give a
unfolding if_done is_zero named give_numbers give_fields met_by_give
give_moves (Ok (Some u)) l = named_row u (l u refl)
give_moves (Ok None) l = refl
give_moves (Err r) l = rw (not_zero r)

take_moves : (a : Taken) → ((u v : ℕ) → a ≡ Ok (Some (u, v)) → u < max_threads) → if_done (take_numbers a).refusal (named (take_numbers a).thread) ≡ met_by_take a
unfolding if_done is_zero named take_numbers take_fields met_by_take
take_moves (Ok (Some (u, v))) l = named_row u (l u v refl)
take_moves (Ok None) l = refl
take_moves (Err r) l = rw (not_zero r)

run_moves : (a : Ran) (who : List ℕ) → if_done (run_numbers a).refusal who ≡ in_turns a who
unfolding if_done is_zero run_numbers run_fields in_turns
run_moves (Ok (n, r)) who = refl
run_moves (Err r) who = rw (not_zero r)

module _ (table : List ℕ) (ok : accepted table ≡ true) where
  module _ (state : List ℕ) (b : SoundBuffer table state) where
    -- without seats
    plain_step : (t : ℕ)
        → if_done (step_numbers (step_call table state t).answer).refusal (t ∷ waiting_in (view state) (named (step_numbers (step_call table state t).answer).partner))
        ≡ unless_refused (step_call table state t).answer (movers t (move (table_of table) (view state) t))
    unfolding step_call unless_refused
    plain_step t =
        let s = view state in
        let tb = table_of table in
        rw (call_made table ok Err state b (step_on tb s t), step_answered tb s t)
        (case_b (can_step s t) (λ y. rw y (step_moves tb s t _ (move tb s t) (chosen tb s t))) (λ y. rw y (step_none Ground.Thread _)))

    module _ (rights : List ℕ) (seat : ℕ) where
      step_so : (t : ℕ) (a : Admission) → seat_admission table state rights seat Right.StepAndRun ≡ a
          → moved table state rights seat (step t) ≡ moving_by table state rights seat (step t)
      unfolding moved moving_by step_result in_numbers seated_step unless_refused
      step_so t (Err r) e =
          rw (seat_refused table state rights seat Right.StepAndRun Err (step_call table state t) r e) (step_none r _)
      step_so t (Ok tt) e = rw (seat_granted table state rights seat Right.StepAndRun Err (step_call table state t) e) (plain_step t)

      -- by the numbers as by the definitions
      pub moved_so : (k : Call) → moved table state rights seat k ≡ moving_by table state rights seat k
      unfolding moved moving_by give_result take_result run_result in_numbers
      moved_so (step t) = step_so t (seat_admission table state rights seat Right.StepAndRun) refl
      moved_so (give p v h) =
          ap (λ x. if_done (give_numbers (seated_give table state rights seat p x).answer).refusal (named (give_numbers (seated_give table state rights seat p x).answer).thread)) (given_so v h)
          ∙ give_moves (seated_give table state rights seat p v).answer (λ u e. (give_waits table state rights seat p v u e).0)
      moved_so (take p) = take_moves (seated_take table state rights seat p).answer (λ u v e. (take_waits table state rights seat p u v e).0)
      moved_so (run n) = run_moves (seated_run table state rights seat n).answer (ran_movers (table_of table) n (view state))

  module _ (fit : (i : ℕ) → get_or table i 0 < 256) where
    all_moved_so : (state : List ℕ) → SoundBuffer table state → (ks : List (AtSeat Call)) → moved_all table state ks ≡ moving_seats table state ks
    unfolding moved_all moving_seats
    all_moved_so state b [] = refl
    all_moved_so state b (k ∷ ks) =
        rw (left_so table state (placed k), moved_so state b k.rights k.seat k.call, all_moved_so (after_seat table state (placed k)) (seat_sound table ok fit state b (placed k)) ks)

-- ---- refusal 10

no_ten : (table state : List ℕ) (ks : List (AtSeat Any)) → NeverTenAt table state ks → NoTen table state ks
unfolding NoTen NeverTenAt
no_ten table state [] h = tt
no_ten table state (k ∷ ks) h =
    ((λ e. h.0 (refused_so table state k e)), rw (left_so table state k) (no_ten table (after_seat table state k) ks h.1))

-- ---- a collection of a sound buffer

pub bits_few : (p : ℕ → Bool) (n : ℕ) → sum_to (λ t. bit (p t)) n ≤ n
bits_few p zero = omega (arith, sum_none (λ t. bit (p t)))
bits_few p (suc n) = omega (arith, sum_suc (λ t. bit (p t)) n, bits_few p n, bit_le (p n))

few_taken : (tb : Table) (s : State) → taken_count tb s < 2147483648
unfolding taken_count
few_taken tb s = omega (arith, bits_few (taken tb s) max_threads)

-- a collection that C sees done is one that the claim has done
collect_zero : (a : Collected) → (collect_numbers a).refusal ≡ pos 0 → (n : ℕ) × (a ≡ Ok n)
unfolding collect_numbers collect_fields is_zero
collect_zero (Ok n) e = (n, refl)
collect_zero (Err r) e = contra (ap is_zero e) (not_zero r)

module _ (table : List ℕ) (ok : accepted table ≡ true) (fit : (i : ℕ) → get_or table i 0 < 256) (state : List ℕ) (b : SoundBuffer table state)
    (rights : List ℕ) (seat : ℕ) (e : (collect_result table state rights seat).answer.refusal ≡ pos 0) where
  done_so : (n : ℕ) × ((seated_collect table state rights seat).answer ≡ Ok n)
  unfolding collect_result in_numbers
  done_so = collect_zero (seated_collect table state rights seat).answer e

  plainly : seated_collect table state rights seat ≡ collect_call table state
  plainly = collected_plainly table state rights seat done_so.0 done_so.1

  took_so : (collect_result table state rights seat).answer.threads ≡ pos (sum_to (λ t. bit (takes table state rights seat t)) max_threads)
  unfolding collect_result in_numbers collect_numbers collect_fields takes
  took_so =
      rw (plainly, collect_done table ok state b, collect_view table ok fit state b)
      (to_z_pos w32 {n = taken_count (table_of table) (view state)} (few_taken (table_of table) (view state)) ∙ ap pos (count_says (table_of table) (view state)))

  untouched_so : (later : List (AtSeat Call)) → UntouchedAt table state rights seat later → (t : ℕ) → takes table state rights seat t ≡ true
      → (elem t (moved_all table state later) ≡ false) × (thread (view (left_all table state (map placed later))) t ≡ thread (view state) t)
  unfolding takes taken_at collect_result in_numbers
  untouched_so later h t k = rw (all_moved_so table ok fit state b later, all_so table state (map placed later)) (h t k)

linked_so : (table state rights : List ℕ) (seat : ℕ) → Linked table (seated_collect table state rights seat).state → Linked table (collect_result table state rights seat).state
unfolding collect_result in_numbers
linked_so table state rights seat h = h

-- ---- a start that C sees done

start_zero : (a : Started) → (start_numbers a).refusal ≡ pos 0 → a ≡ Ok tt
unfolding start_numbers start_fields is_zero
start_zero (Ok tt) e = refl
start_zero (Err r) e = contra (ap is_zero e) (not_zero r)

module _ (table : List ℕ) (ok : accepted table ≡ true) (state : List ℕ) where
  -- a start with an accepted table is done exactly if its buffer has the state's length
  pub started_iff : ((start_result table state).answer.refusal ≡ pos 0) ↔ (length state ≡ state_length)
  unfolding start_result in_numbers start_call start_numbers start_fields
  started_iff = (
    λ e. let f = start_zero (start_call table state).answer e in
        (start_admits table state ((by_answer Err state (start_on (table_of table)) (start_admission table state) (Ok tt) (λ r g h. clash cc)).0 f).0).1,
    λ l. rw (start_done table ok state l),
  )

-- ---- of a table that is accepted, in a buffer in which it is started

module _ (table : List ℕ) (ok : accepted table ≡ true) (fit : (i : ℕ) → get_or table i 0 < 256) (state : List ℕ)
    (begun : (start_result table state).answer.refusal ≡ pos 0) (ks : List (AtSeat Any)) where
  long : length state ≡ state_length
  long = (started_iff table ok state).0 begun

  from_sound : SoundBuffer table (left_from table state ks)
  from_sound = rw (from_so table state ks) (seats_sound table ok fit state long ks)

  -- a collection after the list is answered with 0, or with 8, 18 or 19
  answers_by : (rights : List ℕ) (seat : ℕ) (a : Collected) → (seated_collect table (reached_at table state ks) rights seat).answer ≡ a
      → ((collect_numbers a).refusal ≡ pos 0) ⊎ (((collect_numbers a).refusal ≡ pos 8) ⊎ (((collect_numbers a).refusal ≡ pos 18) ⊎ ((collect_numbers a).refusal ≡ pos 19)))
  unfolding collect_numbers collect_fields refusal_number
  answers_by rights seat (Ok n) e = inl refl
  answers_by rights seat (Err r) e =
      inr (⊎_elim (λ q. inl (rw q)) (λ o. ⊎_elim (λ q. inr (inl (rw q))) (λ q. inr (inr (rw q))) o) (collection_refused table ok fit state long ks rights seat r e))

  pub collection_answers : (rights : List ℕ) (seat : ℕ)
      → ((collect_result table (left_from table state ks) rights seat).answer.refusal ≡ pos 0)
      ⊎ (((collect_result table (left_from table state ks) rights seat).answer.refusal ≡ pos 8)
      ⊎ (((collect_result table (left_from table state ks) rights seat).answer.refusal ≡ pos 18)
      ⊎ ((collect_result table (left_from table state ks) rights seat).answer.refusal ≡ pos 19)))
  unfolding collect_result in_numbers
  collection_answers rights seat = rw (from_so table state ks) (answers_by rights seat (seated_collect table (reached_at table state ks) rights seat).answer refl)

  pub accepted_in_numbers : InNumbers table state ks
  accepted_in_numbers =
      let g = accepted_seated table ok fit state long ks in
      let s = left_from table state ks in
      let same = from_so table state ks in
      record {
        counted = rw same g.counted;
        untouched = λ rights seat e later. let d = done_so table ok fit s from_sound rights seat e in
            untouched_so table ok fit s from_sound rights seat e later (rw same (g.untouched rights seat d.0 (rw (← same) d.1) later));
        took = λ rights seat e. took_so table ok fit s from_sound rights seat e;
        linked = λ rights seat e. let d = done_so table ok fit s from_sound rights seat e in
            linked_so table s rights seat (rw same (g.linked rights seat d.0 (rw (← same) d.1)));
        never_ten = rw (started_so table state) (no_ten table (start_call table state).state ks g.never_ten);
        never_ten_later = λ later. rw same (no_ten table (reached_at table state ks) (map placed later) (g.never_ten_later later));
      }

-- ---- the theorem: for every file and every two buffers, where load is answered with refusal 0 and so is start, and for every list of calls
pub in_numbers_lem : (file t : List ℕ) → (load_result file t).answer.refusal ≡ pos 0
    → (state : List ℕ) → (start_result (load_result file t).table state).answer.refusal ≡ pos 0 → (ks : List (AtSeat Any))
    → InNumbers (load_result file t).table state ks
in_numbers_lem file t e =
    accepted_in_numbers (load_result file t).table
    (rw (table_so file t) (loaded_accepted file t (load_so file t e)))
    (rw (table_so file t) (loaded_small file t (load_so file t e)))

-- ---- buffers of other lengths, which the claim leaves out: start and every call of a list is answered with refusal 8, and no byte changes

module _ (table state : List ℕ) (wrong : ¬ RightLengths table state) where
  pub wrong_start : ((start_result table state).answer.refusal ≡ pos 8) × ((start_result table state).state ≡ state)
  unfolding start_result in_numbers start_numbers start_fields start_call refusal_number
  wrong_start =
      let e = by_refused Err state (start_on (table_of table)) (start_admission table state) Ground.Length ((start_length_iff table state).1 wrong) in
      (rw e, rw e)

  pub wrong_call : (k : AtSeat Any) → (refusal table state k ≡ pos 8) × (left table state k ≡ state)
  unfolding refusal_number
  wrong_call k =
      let e = (seat_length_iff table state k.rights k.seat (asked k.call)).1 (λ l. wrong l.0) in (
        refused_shows table state k.rights k.seat k.call Ground.Length ((refused_iff table state k.rights k.seat k.call Ground.Length).1 (inl e)),
        left_so table state k ∙ kept_left table state k.rights k.seat k.call Ground.Length e,
      )

  pub wrong_list : (ks : List (AtSeat Any)) → left_all table state ks ≡ state
  unfolding left_all
  wrong_list [] = refl
  wrong_list (k ∷ ks) = rw (wrong_call k).1 (wrong_list ks)
