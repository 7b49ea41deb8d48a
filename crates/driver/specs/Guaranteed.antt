-- Demand 3 holds of what the driver leaves in its buffers: of a list worked from a state that start left (`listed`), and of a file that is loaded, started and
-- worked, as `ClaimOfBuffers.antt` says it (`guaranteed`). Assumes nothing.
use Prim.Native.Nat.{ℕ, zero, suc, ◌+◌, ◌-◌, ◌*◌, ◌%◌, ◌<◌, ◌≤◌}
use native.Mathlib.Omega.{arith}
use Rattle.std.specs.Prelude.{◌≡◌, refl, true, false, List, [], ◌∷◌, ◌++◌, map, ◌⊎◌, ◌≢◌, eqb, length, get_or, take, drop, pos}
use Rattle.std.proofs.Math.Path.{sym, ap}
use Rattle.std.proofs.Common.{◌∙◌, inl, inr, to_z, of_z}
use Rattle.std.proofs.lemmas.List.{map-append}
use mir.Syntax.{w32}
use borrow.Author.Tests.{eqb-true, eq-eqb}
use Rattle.numbers.specs.Bytes.{words}
use Rattle.numbers.specs.Count.{bit}
use Rattle.numbers.specs.Search.{sum_to}
use Rattle.numbers.specs.Search.Laws.{case_b, contra}
use Rattle.numbers.specs.Tests.{parts, clash}
use Rattle.state.specs.State.{max_threads, state_length, view, thread, in_use, is_ready, is_waiting}
use Rattle.rules_laws.specs.Frames.{elem}
use Rattle.engine_laws.specs.Lists as Lists
use Rattle.engine_laws.specs.Lists.{Call, step, give, run}
use Rattle.interface.specs.Interface.{load_result, start_result, step_result, give_result, take_result, collect_result}
use Rattle.loader_laws.specs.Yields.{loaded_accepted}
use Rattle.guarantee.specs.Claim.{Any, on, collect, Counted, Linked}
use Rattle.guarantee.specs.SeatedClaim.{AtSeat, after_by, after_seats, placed}
use Rattle.guarantee.specs.Exported.{left_by, left_by_lem, left, left_so, refusal, refusal_by, load_so, table_so}
use Rattle.guarantee.specs.InNumbers.{left_all, left_from, is_zero, moved, moved_all, takes, NoTen, InNumbers}
use Rattle.guarantee.specs.InNumbers.Proof.{all_so, bits_few, started_iff, in_numbers_lem}
use Rattle.guarantee.specs.NamedInNumbers.{steps_ready, step_names, give_names, take_names}
use Rattle.driver.specs.Encoding.{pattern, pattern_small, call_by, seated_by, called_by, record_at, calls_of, answer_to, answer_at, answers_to, words_of, written_from}
use Rattle.driver.specs.Encoding.Laws.{is_give, is_take, is_collect}
use Rattle.driver.specs.WorkedFile.{Worked, load_opening, worked_to, worked_file}
use Rattle.driver.specs.Restore.Laws.{zero_is}
use Rattle.driver.specs.ClaimOfBuffers.{call_count, code_at, word_at, Told, row_named, named_by, freed, ClaimOfBuffers}
use Rattle.driver.specs.ClaimOfBuffers.Records.{reached, whole_is, reached_next, word_is}
use Rattle.driver.specs.ClaimOfBuffers.Answered.{pos_word, row_word, refusal_is, step_word, give_word, take_word, collect_word, unnamed}

-- ---- a list, from what start leaves

-- where load and start are answered with refusal 0: the bytes `end`, as the driver ensures them for a list, are those after the calls of the list by themselves,
-- and demand 3 holds of that list
pub listed : (file t : List ℕ) → (load_result file t).answer.refusal ≡ pos 0
    → (state : List ℕ) → (start_result (load_result file t).table state).answer.refusal ≡ pos 0
    → (lists calls end : List ℕ) → end ≡ after_seats (load_result file t).table (start_result (load_result file t).table state).state (calls_of lists calls)
    → (end ≡ left_from (load_result file t).table state (calls_of lists calls)) × InNumbers (load_result file t).table state (calls_of lists calls)
listed file t e state s lists calls end f =
    let table = (load_result file t).table in
    (f ∙ sym (all_so table (start_result table state).state (calls_of lists calls)), in_numbers_lem file t e state s (calls_of lists calls))

-- ---- lists of calls, one part after the other

no_ten_at : (table s : List ℕ) (p : List (AtSeat Any)) (k : AtSeat Any) (q : List (AtSeat Any)) → NoTen table s (p ++ (k ∷ q)) → refusal table (left_all table s p) k ≢ pos 10
unfolding NoTen left_all
no_ten_at table s [] k q h = h.0
no_ten_at table s (m ∷ p) k q h = no_ten_at table (left table s m) p k q h.1

left_append : (table s : List ℕ) (p q : List (AtSeat Any)) → left_all table s (p ++ q) ≡ left_all table (left_all table s p) q
unfolding left_all
left_append table s [] q = refl
left_append table s (k ∷ p) q = left_append table (left table s k) p q

elem_parts : (u : ℕ) (us vs : List ℕ) → elem u (us ++ vs) ≡ false → (elem u us ≡ false) × (elem u vs ≡ false)
unfolding elem
elem_parts u [] vs e = (refl, e)
elem_parts u (x ∷ us) vs e = case_b (eqb u x) (λ y. contra (rw y) e) (λ y. rw y (elem_parts u us vs (rw y at e)))

-- who does not move in a list does not move in its last call
last_still : (table s : List ℕ) (u : ℕ) (p : List (AtSeat Call)) (k : AtSeat Call) → elem u (moved_all table s (p ++ (k ∷ []))) ≡ false
    → elem u (moved table (left_all table s (map placed p)) k.rights k.seat k.call) ≡ false
unfolding moved_all left_all
last_still table s u [] k e = (elem_parts u (moved table s k.rights k.seat k.call) [] e).0
last_still table s u (m ∷ p) k e =
    last_still table (left table s (placed m)) u p k
    (elem_parts u (moved table s m.rights m.seat m.call) (moved_all table (left table s (placed m)) (p ++ (k ∷ []))) e).1

-- ---- records that are no collections

is_on : (code a v : ℕ) → code < 4 → (k : Call) × (call_by code a v ≡ on k)
unfolding call_by
is_on zero a v l = (step a, refl)
is_on (suc zero) a v l = (give a (pattern v) (pattern_small v), refl)
is_on (suc (suc zero)) a v l = (Lists.take a, refl)
is_on (suc (suc (suc zero))) a v l = (run (a % 65536), refl)
is_on (suc (suc (suc (suc c)))) a v l = absurd (omega arith)

unfoldable only_call : Any → Call
only_call (on k) = k
only_call collect = run 0

unfoldable unplaced : AtSeat Any → AtSeat Call
unplaced k = record { rights = k.rights; seat = k.seat; call = only_call k.call }

placed_again : (lists ws : List ℕ) (i : ℕ) → get_or ws (i * 6) 0 < 4 → placed (unplaced (record_at lists ws i)) ≡ record_at lists ws i
unfolding unplaced only_call record_at seated_by
placed_again lists ws i l =
    let (k, q) = is_on (get_or ws (i * 6) 0) (get_or ws (i * 6 + 1) 0) (get_or ws (i * 6 + 2) 0) l in
    again k q
  where
    again : (k : Call) → call_by (get_or ws (i * 6) 0) (get_or ws (i * 6 + 1) 0) (get_or ws (i * 6 + 2) 0) ≡ on k → placed (unplaced (record_at lists ws i)) ≡ record_at lists ws i
    again k q = rw q

-- ---- the parts of the claim, for a list from what start leaves in the buffer b

module _ (table b lists : List ℕ) (claim : (ks : List (AtSeat Any)) → InNumbers table b ks) where
  abbrev begun : List ℕ
  begun = (start_result table b).state

  abbrev state : List ℕ → ℕ → List ℕ
  state calls i = reached table begun lists calls i

  abbrev answered : List ℕ → List ℕ → List ℕ
  answered calls a = written_from a 0 (answers_to table begun (calls_of lists calls))

  abbrev first : List ℕ → ℕ → List (AtSeat Any)
  first calls i = calls_of lists (take (i * 24) calls)

  -- one call and its answer
  module _ (calls a : List ℕ) (i : ℕ) (l : Told calls a i) where
    abbrev s : List ℕ
    s = state calls i

    abbrev k : AtSeat Any
    k = record_at lists (words calls) i

    word : (c : ℕ) → c < 5 → word_at (answered calls a) i c ≡ get_or (words_of (answer_at table s k)) c 0
    word c h = word_is table begun lists calls i l.0 a c l.1 h

    told_refusal : (n : ℕ) → word_at (answered calls a) i 0 ≡ n → refusal table s k ≡ to_z w32 n
    told_refusal n e = refusal_is table s k.rights k.seat k.call n (sym (word 0 (omega arith)) ∙ e)

    not_ten : word_at (answered calls a) i 0 ≢ 10
    not_ten e =
        no_ten_at table begun (first calls i) k (called_by lists (drop (i * 6 + 6) (words calls)))
        (rw (whole_is lists calls i l.0) at (claim (calls_of lists calls)).never_ten)
        (rw (all_so table begun (first calls i)) (told_refusal 10 e))

    -- where it is call c
    module _ (c : Any) (q : k.call ≡ c) where
      call_refusal : word_at (answered calls a) i 0 ≡ 0 → refusal_by table s k.rights k.seat c ≡ pos 0
      call_refusal e = ap (refusal_by table s k.rights k.seat) (sym q) ∙ told_refusal 0 e

      call_word : (n : ℕ) → n < 5 → word_at (answered calls a) i n ≡ get_or (words_of (answer_to table s k.rights k.seat c)) n 0
      call_word n h = word n h ∙ ap (λ x. get_or (words_of (answer_to table s k.rights k.seat x)) n 0) q

    step_told : (u : ℕ) → k.call ≡ on (step u) → word_at (answered calls a) i 0 ≡ 0
        → (u < max_threads) × (is_ready (thread (view s) u) ≡ true)
        × ((v : ℕ) → elem v (row_named (word_at (answered calls a) i 4)) ≡ true
        → (v < max_threads) × ((is_waiting (thread (view s) v) ≡ true) ⊎ (in_use (thread (view s) v) ≡ false)))
    unfolding refusal_by
    step_told u q e =
        let f = call_refusal (on (step u)) q e in
        let (x, y) = steps_ready table s k.rights k.seat u f in (
          x,
          y,
          λ v h.
              let (m, z, p) = row_word (step_result table s k.rights k.seat u).answer.partner (λ w. (is_waiting (thread (view s) w) ≡ true) ⊎ (in_use (thread (view s) w) ≡ false))
              (step_names table s k.rights k.seat u f) v (rw (call_word (on (step u)) q 4 (omega arith), step_word table s k.rights k.seat u) at h) in
              (m, p),
        )

    give_told : (p v : ℕ) (h : v < 4294967296) → k.call ≡ on (give p v h) → word_at (answered calls a) i 0 ≡ 0
        → (u : ℕ) → elem u (row_named (word_at (answered calls a) i 1)) ≡ true → (u < max_threads) × (is_waiting (thread (view s) u) ≡ true)
    unfolding refusal_by
    give_told p v h q e u y =
        let (m, z, w) = row_word (give_result table s k.rights k.seat p (to_z w32 v)).answer.thread (λ x. is_waiting (thread (view s) x) ≡ true)
        (give_names table s k.rights k.seat p (to_z w32 v) (call_refusal (on (give p v h)) q e)) u
        (rw (call_word (on (give p v h)) q 1 (omega arith), give_word table s k.rights k.seat p v h) at y) in
        (m, w)

    take_told : (p : ℕ) → k.call ≡ on (Lists.take p) → word_at (answered calls a) i 0 ≡ 0
        → (u : ℕ) → elem u (row_named (word_at (answered calls a) i 1)) ≡ true → (u < max_threads) × (is_waiting (thread (view s) u) ≡ true)
    unfolding refusal_by
    take_told p q e u y =
        let (m, z, w) = row_word (take_result table s k.rights k.seat p).answer.thread (λ x. is_waiting (thread (view s) x) ≡ true)
        (take_names table s k.rights k.seat p (call_refusal (on (Lists.take p)) q e)) u
        (rw (call_word (on (Lists.take p)) q 1 (omega arith), take_word table s k.rights k.seat p) at y) in
        (m, w)

    met_told : (code_at calls i ≡ 1) ⊎ (code_at calls i ≡ 2) → word_at (answered calls a) i 0 ≡ 0
        → (u : ℕ) → elem u (row_named (word_at (answered calls a) i 1)) ≡ true → (u < max_threads) × (is_waiting (thread (view s) u) ≡ true)
    unfolding record_at seated_by
    met_told (inl c) = give_told _ _ _ (is_give (code_at calls i) (get_or (words calls) (i * 6 + 1) 0) (get_or (words calls) (i * 6 + 2) 0) c)
    met_told (inr c) = take_told _ (is_take (code_at calls i) (get_or (words calls) (i * 6 + 1) 0) (get_or (words calls) (i * 6 + 2) 0) c)

    -- where it is a collection, and done
    module _ (h : 3 < code_at calls i) (e : word_at (answered calls a) i 0 ≡ 0) where
      collects : k.call ≡ collect
      unfolding record_at seated_by
      collects =
          is_collect (code_at calls i) (get_or (words calls) (i * 6 + 1) 0) (get_or (words calls) (i * 6 + 2) 0)
          (λ z. omega arith) (λ z. omega arith) (λ z. omega arith) (λ z. omega arith)

      done : (collect_result table s k.rights k.seat).answer.refusal ≡ pos 0
      unfolding refusal_by
      done = call_refusal collect collects e

      next : state calls (suc i) ≡ (collect_result table s k.rights k.seat).state
      unfolding left_by
      next = reached_next table begun lists calls i l.0 ∙ ap (after_by table s k.rights k.seat) collects ∙ sym (left_by_lem table s k.rights k.seat collect)

      -- what the claim has of the calls before it
      at_left : left_from table b (first calls i) ≡ s
      at_left = all_so table begun (first calls i)

      done_there : (collect_result table (left_from table b (first calls i)) k.rights k.seat).answer.refusal ≡ pos 0
      done_there = rw at_left done

      took_told : word_at (answered calls a) i 1 ≡ sum_to (λ u. bit (freed s (state calls (suc i)) u)) max_threads
      unfolding freed takes
      took_told =
          call_word collect collects 1 (omega arith) ∙ collect_word table s k.rights k.seat
          ∙ ap (of_z w32) (rw at_left at ((claim (first calls i)).took k.rights k.seat done_there))
          ∙ pos_word (sum_to (λ u. bit (takes table s k.rights k.seat u)) max_threads) (omega (arith, bits_few (takes table s k.rights k.seat) max_threads))
          ∙ rw next

      untouched_so : (later : List (AtSeat Call)) (u : ℕ) → takes table s k.rights k.seat u ≡ true
          → (elem u (moved_all table s later) ≡ false) × (thread (view (left_all table s (map placed later))) u ≡ thread (view s) u)
      untouched_so = rw at_left at ((claim (first calls i)).untouched k.rights k.seat done_there)

      linked_told : Linked table (state calls (suc i))
      linked_told = rw next (rw at_left at ((claim (first calls i)).linked k.rights k.seat done_there))

      -- a thread that it takes, and another list that begins with the same calls and has no collection from there on
      module _ (u : ℕ) (y : freed s (state calls (suc i)) u ≡ true) (other : List ℕ) (same : take (i * 24) other ≡ take (i * 24) calls)
          (plain : (j : ℕ) → i ≤ j → j < call_count other → code_at other j < 4) where
        taken_so : takes table s k.rights k.seat u ≡ true
        unfolding freed takes
        taken_so = rw next at y

        used : in_use (thread (view s) u) ≡ true
        unfolding freed
        used = search parts

        unfoldable later : ℕ → List (AtSeat Call)
        later zero = []
        later (suc m) = later m ++ (unplaced (record_at lists (words other) (i + m)) ∷ [])

        later_left : (m : ℕ) → i + m ≤ call_count other → left_all table s (map placed (later m)) ≡ state other (i + m)
        unfolding later left_all
        later_left zero n = let z : i + 0 ≡ i = omega arith in rw (z, same)
        later_left (suc m) n =
            let x = record_at lists (words other) (i + m) in
            let z : i + suc m ≡ suc (i + m) = omega arith in
            ap (left_all table s) (map-append placed (later m) (unplaced x ∷ []))
            ∙ left_append table s (map placed (later m)) (placed (unplaced x) ∷ [])
            ∙ ap (λ y. left table y (placed (unplaced x))) (later_left m (omega arith))
            ∙ ap (λ (y : AtSeat Any). left table (state other (i + m)) y) (placed_again lists (words other) (i + m) (plain (i + m) (omega arith) (omega arith)))
            ∙ left_so table (state other (i + m)) x ∙ sym (reached_next table begun lists other (i + m) (omega arith))
            ∙ ap (state other) (sym z)

        still : (m : ℕ) → i + m ≤ call_count other → (elem u (moved_all table s (later m)) ≡ false) × (thread (view (state other (i + m))) u ≡ thread (view s) u)
        still m n =
            let (x, r) = untouched_so (later m) u taken_so in
            (x, rw (later_left m n) at r)

        module _ (m : ℕ) (n : i + m < call_count other) where
          abbrev c : AtSeat Any
          c = record_at lists (words other) (i + m)

          row_told : thread (view (state other (suc (i + m)))) u ≡ thread (view s) u
          row_told = let z : i + suc m ≡ suc (i + m) = omega arith in rw z at (still (suc m) (omega arith)).1

          moves_told : (x : Call) → c.call ≡ on x → elem u (moved table (state other (i + m)) c.rights c.seat x) ≡ false
          unfolding later unplaced only_call
          moves_told x q =
              let o = last_still table s u (later m) (unplaced c) (still (suc m) (omega arith)).0 in
              rw (later_left m (omega arith), q) at o

          names_told : (a' : List ℕ) → (i + m) * 5 + 5 ≤ length a' → elem u (named_by c.call (word_at (answered other a') (i + m))) ≡ false
          names_told a' z =
              unnamed table (state other (i + m)) c.rights c.seat u (rw (still m (omega arith)).1 used) (word_at (answered other a') (i + m)) c.call
              (λ d h. word_is table begun lists other (i + m) n a' d z h) moves_told

-- ---- the function that loads, starts and works

work_zero : (file t b lists calls a : List ℕ) → (worked_file file t b lists calls a).opening.refusal ≡ pos 0 → ((load_result file t).answer.refusal ≡ pos 0) × (length b ≡ state_length)
unfolding worked_file load_opening is_zero
work_zero file t b lists calls a e = case_b (is_zero (load_result file t).answer.refusal)
    (λ y. let d = zero_is (load_result file t).answer.refusal y in
    (d, case_b (eqb (length b) state_length) (λ z. eqb-true (length b) state_length z) (λ z. let f : pos 8 ≡ pos 0 = rw (y, z) at e in clash cc)))
    (λ y. let f : (load_result file t).answer.refusal ≡ pos 0 = rw y at e in contra (rw f) y)

module _ (file t b lists : List ℕ) (loads : (load_result file t).answer.refusal ≡ pos 0) (long : length b ≡ state_length) where
  abbrev table : List ℕ
  table = (load_result file t).table

  started : (start_result table b).answer.refusal ≡ pos 0
  started = (started_iff table (rw (table_so file t) (loaded_accepted file t (load_so file t loads))) b).1 long

  claim : (ks : List (AtSeat Any)) → InNumbers table b ks
  claim = in_numbers_lem file t loads b started

  worked : (calls a : List ℕ)
      → worked_file file t b lists calls a
      ≡ worked_to (record { refusal = pos 0; line = pos 0 }) table (after_seats table (start_result table b).state (calls_of lists calls)) (answered table b lists claim calls a)
  unfolding worked_file is_zero
  worked calls a = rw (loads, eq-eqb (length b) state_length long)

  abbrev after : List ℕ → List ℕ
  after calls = after_seats table (start_result table b).state (calls_of lists calls)

  abbrev between : List ℕ → ℕ → List ℕ
  between calls i = reached table (start_result table b).state lists calls i

  abbrev words_left : List ℕ → List ℕ → List ℕ
  words_left calls a = answered table b lists claim calls a

  -- each part, of buffers that have what was left
  counted_from : (calls tb x : List ℕ) → tb ≡ table → x ≡ after calls → Counted tb x
  counted_from calls tb x e f = rw (e, f) (rw (all_so table (start_result table b).state (calls_of lists calls)) at (claim (calls_of lists calls)).counted)

  module _ (calls a : List ℕ) (i : ℕ) (w x : List ℕ) (e : w ≡ words_left calls a) (f : x ≡ between calls i) where
    stepped_from : Told calls a i → (u : ℕ) → (record_at lists (words calls) i).call ≡ on (step u) → word_at w i 0 ≡ 0
        → (u < max_threads) × (is_ready (thread (view x) u) ≡ true)
        × ((v : ℕ) → elem v (row_named (word_at w i 4)) ≡ true → (v < max_threads) × ((is_waiting (thread (view x) v) ≡ true) ⊎ (in_use (thread (view x) v) ≡ false)))
    stepped_from = rw (e, f) (step_told table b lists claim calls a i)

    met_from : Told calls a i → (code_at calls i ≡ 1) ⊎ (code_at calls i ≡ 2) → word_at w i 0 ≡ 0
        → (u : ℕ) → elem u (row_named (word_at w i 1)) ≡ true → (u < max_threads) × (is_waiting (thread (view x) u) ≡ true)
    met_from = rw (e, f) (met_told table b lists claim calls a i)

    never_ten_from : Told calls a i → word_at w i 0 ≢ 10
    never_ten_from = rw e (not_ten table b lists claim calls a i)

    abbrev Collects : Type 0
    Collects = Told calls a i × (3 < code_at calls i) × (word_at w i 0 ≡ 0)

    module _ (y : List ℕ) (g : y ≡ between calls (suc i)) where
      took_from : Collects → word_at w i 1 ≡ sum_to (λ u. bit (freed x y u)) max_threads
      took_from = rw (e, f, g) (λ h. took_told table b lists claim calls a i h.0 h.1 h.2)

      linked_from : (tb : List ℕ) → tb ≡ table → Collects → Linked tb y
      linked_from tb q = rw (e, g, q) (λ h. linked_told table b lists claim calls a i h.0 h.1 h.2)

      module _ (u : ℕ) (other a' : List ℕ) (same : take (i * 24) other ≡ take (i * 24) calls) (plain : (j : ℕ) → i ≤ j → j < call_count other → code_at other j < 4) where
        abbrev Still : ℕ → List ℕ → List ℕ → List ℕ → List ℕ → Type 0
        Still j tb w' x' y' =
            (thread (view y') u ≡ thread (view x) u)
            × ((c : Call) → (record_at lists (words other) j).call ≡ on c
            → elem u (moved tb x' (record_at lists (words other) j).rights (record_at lists (words other) j).seat c) ≡ false)
            × (j * 5 + 5 ≤ length a' → elem u (named_by (record_at lists (words other) j).call (word_at w' j)) ≡ false)

        -- m calls after the i that the lists have in common
        still_more : (m : ℕ) → i + m < call_count other → Collects → freed x y u ≡ true
            → Still (i + m) table (words_left other a') (between other (i + m)) (between other (suc (i + m)))
        still_more m n = rw (e, f, g) (λ h q. (
          row_told table b lists claim calls a i h.0 h.1 h.2 u q other same plain m n,
          moves_told table b lists claim calls a i h.0 h.1 h.2 u q other same plain m n,
          names_told table b lists claim calls a i h.0 h.1 h.2 u q other same plain m n a',
        ))

        still_at : (j : ℕ) → i ≤ j → j < call_count other → Collects → freed x y u ≡ true → Still j table (words_left other a') (between other j) (between other (suc j))
        still_at j l n h q =
            let z : i + (j - i) ≡ j = omega arith in
            rw z at (still_more (j - i) (omega arith) h q)

        still_from : (j : ℕ) (tb w' x' y' : List ℕ) → tb ≡ table → w' ≡ words_left other a' → x' ≡ between other j → y' ≡ between other (suc j)
            → i ≤ j → j < call_count other → Collects → freed x y u ≡ true → Still j tb w' x' y'
        still_from j tb w' x' y' o p q r = rw (o, p, q, r) (still_at j)

  table_left : (calls a : List ℕ) → (worked_file file t b lists calls a).table ≡ table
  table_left calls a = ap (λ (o : Worked). o.table) (worked calls a)

  state_left : (calls a : List ℕ) → (worked_file file t b lists calls a).state ≡ after calls
  state_left calls a = ap (λ (o : Worked). o.state) (worked calls a)

  answers_left : (calls a : List ℕ) → (worked_file file t b lists calls a).answers ≡ words_left calls a
  answers_left calls a = ap (λ (o : Worked). o.answers) (worked calls a)

  claimed : (calls a : List ℕ) → ClaimOfBuffers file t b lists calls a
  claimed calls a = record {
    counted = counted_from calls _ _ (table_left calls a) (state_left calls a);
    stepped = λ i. stepped_from calls a i _ _ (answers_left calls a) (state_left (take (i * 24) calls) a);
    met = λ i. met_from calls a i _ _ (answers_left calls a) (state_left (take (i * 24) calls) a);
    took = λ i. took_from calls a i _ _ (answers_left calls a) (state_left (take (i * 24) calls) a) _ (state_left (take (suc i * 24) calls) a);
    untouched = λ i h u q other a' same plain j l n.
        still_from calls a i _ _ (answers_left calls a) (state_left (take (i * 24) calls) a) _ (state_left (take (suc i * 24) calls) a) u other a' same plain
        j _ _ _ _ (table_left other a') (answers_left other a') (state_left (take (j * 24) other) a') (state_left (take (suc j * 24) other) a') l n h q;
    linked = λ i. linked_from calls a i _ _ (answers_left calls a) (state_left (take (i * 24) calls) a) _ (state_left (take (suc i * 24) calls) a) _ (table_left calls a);
    never_ten = λ i. never_ten_from calls a i _ _ (answers_left calls a) (state_left (take (i * 24) calls) a);
  }

-- ---- the theorem: of every file, all buffers and every list of calls, where the function answers 0
pub guaranteed : (file t b lists calls a : List ℕ) → (worked_file file t b lists calls a).opening.refusal ≡ pos 0 → ClaimOfBuffers file t b lists calls a
guaranteed file t b lists calls a e = let (d, l) = work_zero file t b lists calls a e in claimed file t b lists d l calls a
