-- Where a state's channel rows are the recount, and thread rows are written, entering the new rows and then leaving the old ones makes them the
-- recount again. Assumes nothing.
use Prim.Native.Nat.{ℕ, zero, suc, ◌+◌, ◌<◌, ◌≤◌}
use Rattle.std.proofs.Common.{arith, ◌∙◌, eqb-true}
use Rattle.std.specs.Prelude.{◌≡◌, ◌≢◌, Bool, false, ◌&&◌, eqb, ltb, set}
use Rattle.std.proofs.Math.Path.{refl, sym, ap}
use mathlib.Core.List.{List, [], ◌∷◌}
use Rattle.std.proofs.Math.ListN.{length, get_or, length-set}
use Rattle.std.proofs.Math.Seq.{get_or-set_same, get_or-set_other}
use Rattle.std.proofs.lemmas.Bool.{eqb-false}
use Rattle.numbers.specs.Count.{bit, count}
use Rattle.numbers.specs.Count.Laws.{bit_le, bit_and_le, count_le, replaced}
use Rattle.numbers.specs.Rows.{at, put}
use Rattle.numbers.specs.Search.{tabulate}
use Rattle.numbers.specs.Search.Laws.{case_b, get_d_tabulate, length_tabulate, tabulate_cong, is_tabulate}
use Rattle.numbers.specs.Signed.{sum}
use Rattle.table.specs.Table.{Table, ports}
use Rattle.state.specs.State.{State, thread, is_waiting, type_in, with_mark, with_thread, with_channel, with_channels, max_channels, max_threads}
use Rattle.rules.specs.Holding.{holds, holders, waiters, count_of, channel_row, recount, settled}
use Rattle.rules.specs.Moves.{typed}
use Rattle.holding.specs.Own.{own_list}
use Rattle.upkeep.specs.Shift.{shift_row, channel_shifted, shifted_to, row_entered, row_left, row_weighed, settled_one, settled_two, settled_new}
use Rattle.upkeep.specs.Shift.Laws.{Raw, Settled, Low, entering, leaving, weighing, enter_law, settle, freed_law, weigh_law, leave_law}

-- ---- counts

count_and_le {ℓ} : {A : Type ℓ} (p q : A → Bool) (xs : List A) → count (λ x. p x && q x) xs ≤ count q xs
unfolding count
count_and_le p q [] = omega arith
count_and_le p q (x ∷ xs) = omega (arith, count_and_le p q xs, bit_and_le (p x) (q x))

module _ (tb : Table) (ths : List (List ℕ)) where
  pub waiters_le : (c : ℕ) → waiters tb ths c ≤ count_of tb ths c
  unfolding waiters count_of holders
  waiters_le c = omega (arith, count_and_le (λ row. is_waiting row) (λ row. holds tb row c) ths)

  pub few : length ths ≡ max_threads → (c : ℕ) → count_of tb ths c ≤ 65
  unfolding count_of holders
  few long c = omega (arith, long, count_le (λ row. holds tb row c) ths, bit_le (ltb c (ports tb)))

  -- one row is replaced
  module _ (t : ℕ) (h : t < length ths) (row : List ℕ) (c : ℕ) where
    counts_move : count_of tb (set ths t row) c + bit (holds tb (get_or ths t []) c) ≡ count_of tb ths c + bit (holds tb row c)
    unfolding count_of holders
    counts_move = omega (arith, replaced (λ r. holds tb r c) ths t row [] h)

    waiters_move : waiters tb (set ths t row) c + bit (is_waiting (get_or ths t []) && holds tb (get_or ths t []) c) ≡ waiters tb ths c + bit (is_waiting row && holds tb row c)
    unfolding waiters
    waiters_move = replaced (λ r. is_waiting r && holds tb r c) ths t row [] h

    -- by one that holds what it held
    module _ (same : holds tb row c ≡ holds tb (get_or ths t []) c) where
      pub count_stays : count_of tb (set ths t row) c ≡ count_of tb ths c
      count_stays = omega (arith, rw same at counts_move)

      -- and waits where it waited
      waiters_stay : is_waiting row ≡ is_waiting (get_or ths t []) → waiters tb (set ths t row) c ≡ waiters tb ths c
      waiters_stay still = omega (arith, rw (same, still) at waiters_move)

  settled_rows : (chs : List (List ℕ)) (ty : ℕ → ℕ) → Settled chs ty (count_of tb ths) (waiters tb ths) → chs ≡ recount tb ths ty
  unfolding recount
  settled_rows chs ty (long, says) = is_tabulate chs 128 (λ c. channel_row (ty c) (count_of tb ths c) (waiters tb ths c)) [] long says

-- ---- where the channel rows are the recount, they say their types and counts

raw_row : (r : List ℕ) (n w : ℕ) → r ≡ channel_row (get_or r 0 0) n w → w ≤ n → r ≡ get_or r 0 0 ∷ n ∷ w ∷ []
unfolding channel_row
raw_row r zero w e f = let z : get_or r 0 0 ≡ 0 = ap (λ (l : List ℕ). get_or l 0 0) e in let q : w ≡ 0 = omega arith in rw (q, z) e
raw_row r (suc n) w e f = e

free_type : (r : List ℕ) (n w : ℕ) → r ≡ channel_row (get_or r 0 0) n w → n ≡ 0 → get_or r 0 0 ≡ 0
unfolding channel_row
free_type r n w e z = let q : r ≡ 0 ∷ 0 ∷ 0 ∷ [] = e ∙ rw z in ap (λ (l : List ℕ). get_or l 0 0) q

module _ (tb : Table) (ths chs : List (List ℕ)) (e : chs ≡ recount tb ths (λ c. at chs c 0)) where
  counted_row : (c : ℕ) → c < max_channels → get_or chs c [] ≡ channel_row (at chs c 0) (count_of tb ths c) (waiters tb ths c)
  unfolding recount
  counted_row c h =
      ap (λ (l : List (List ℕ)). get_or l c []) e ∙ get_d_tabulate 128 c (λ i. channel_row (at chs i 0) (count_of tb ths i) (waiters tb ths i)) [] h

  raw_start : Raw chs (λ c. at chs c 0) (count_of tb ths) (waiters tb ths)
  unfolding recount
  raw_start = (
    ap (λ (l : List (List ℕ)). length l) e ∙ length_tabulate 128 (λ c. channel_row (at chs c 0) (count_of tb ths c) (waiters tb ths c)),
    λ c h. raw_row (get_or chs c []) (count_of tb ths c) (waiters tb ths c) (counted_row c h) (waiters_le tb ths c),
  )

  free_start : (c : ℕ) → c < max_channels → count_of tb ths c ≡ 0 → at chs c 0 ≡ 0
  free_start c h z = free_type (get_or chs c []) (count_of tb ths c) (waiters tb ths c) (counted_row c h) z

-- ---- the channel rows after one thread row is replaced, after two are, and after one is and a channel's type is written

-- what is counted once a row is entered
module _ (tb : Table) (ths : List (List ℕ)) (row : List ℕ) (c : ℕ) where
  abbrev entered : ℕ
  entered = count_of tb ths c + bit (holds tb row c)

  abbrev entered_waiting : ℕ
  entered_waiting = waiters tb ths c + bit (is_waiting row && holds tb row c)

  waiting_le : entered_waiting ≤ entered
  waiting_le = omega (arith, waiters_le tb ths c, bit_and_le (is_waiting row) (holds tb row c))

  entered_le : length ths ≡ max_threads → entered ≤ 66
  entered_le long = omega (arith, few tb ths long c, bit_le (holds tb row c))

module _ (tb : Table) (ths : List (List ℕ)) (long : length ths ≡ max_threads) where
  low_start : Low (count_of tb ths) (waiters tb ths)
  low_start c h = (omega (arith, few tb ths long c), omega (arith, few tb ths long c, waiters_le tb ths c))

  low_entered : (row : List ℕ) → Low (entered tb ths row) (entered_waiting tb ths row)
  low_entered row c h = (omega (arith, entered_le tb ths row c long), omega (arith, entered_le tb ths row c long, waiting_le tb ths row c))

  -- the old row of thread t is left, where the channel rows are settled with the new one
  last_left : (row : List ℕ) (chs : List (List ℕ)) (ty : ℕ → ℕ) (t : ℕ) → t < max_threads → Settled chs ty (entered tb ths row) (entered_waiting tb ths row)
      → leaving tb (get_or ths t []) chs ≡ recount tb (set ths t row) ty
  last_left row chs ty t h says =
      settled_rows tb (set ths t row) (leaving tb (get_or ths t []) chs) ty
      (leave_law chs ty (count_of tb (set ths t row)) (waiters tb (set ths t row)) tb (get_or ths t []) (entered tb ths row) (entered_waiting tb ths row) says
      (λ c l. (sym (counts_move tb ths t (omega arith) row c), sym (waiters_move tb ths t (omega arith) row c)))
      (low_entered row))

module _ (tb : Table) (ths : List (List ℕ)) (long : length ths ≡ max_threads) (chs : List (List ℕ)) (e : chs ≡ recount tb ths (λ c. at chs c 0))
    (t : ℕ) (h : t < 64) (row : List ℕ) where
  raw_entered : Raw (entering tb row chs) (λ c. at chs c 0) (entered tb ths row) (entered_waiting tb ths row)
  raw_entered = enter_law chs (λ c. at chs c 0) (count_of tb ths) (waiters tb ths) tb row (raw_start tb ths chs e) (low_start tb ths long)

  one_moved : leaving tb (get_or ths t []) (entering tb row chs) ≡ recount tb (set ths t row) (λ c. at chs c 0)
  one_moved =
      last_left tb ths long row (entering tb row chs) (λ c. at chs c 0) t h
      (settle (entering tb row chs) (λ c. at chs c 0) (entered tb ths row) (entered_waiting tb ths row) raw_entered
      (λ c l z. (free_start tb ths chs e c l (omega arith), omega (arith, z, waiting_le tb ths row c))))

  new_moved : (x y : ℕ) → x < max_channels
      → leaving tb (get_or ths t []) (shift_row (entering tb row (put chs x 0 y)) x 0 0) ≡ recount tb (set ths t row) (λ c. at (put chs x 0 y) c 0)
  new_moved x y i =
      let (size, raw) = raw_start tb ths chs e in
      let here : get_or (put chs x 0 y) x [] ≡ set (get_or chs x []) 0 y = get_or-set_same chs x (set (get_or chs x []) 0 y) [] (omega arith) in
      let there : (c : ℕ) → eqb x c ≡ false → get_or (put chs x 0 y) c [] ≡ get_or chs c [] =
      λ c n. get_or-set_other chs x c (set (get_or chs x []) 0 y) [] (λ q. eqb-false x c n (sym q)) in
      let raw' : Raw (put chs x 0 y) (λ c. at (put chs x 0 y) c 0) (count_of tb ths) (waiters tb ths) = (
        length-set chs x (set (get_or chs x []) 0 y) ∙ size,
        λ c l. case_b (eqb x c)
            (λ q. let p : x ≡ c = eqb-true x c q in rw (← p, here, raw x i))
            (λ n. rw (there c n) (raw c l)),
      ) in
      last_left tb ths long row (shift_row (entering tb row (put chs x 0 y)) x 0 0) (λ c. at (put chs x 0 y) c 0) t h
      (freed_law (entering tb row (put chs x 0 y)) (λ c. at (put chs x 0 y) c 0) (entered tb ths row) (entered_waiting tb ths row) x
      (enter_law (put chs x 0 y) (λ c. at (put chs x 0 y) c 0) (count_of tb ths) (waiters tb ths) tb row raw' (low_start tb ths long))
      (low_entered tb ths long row)
      (λ c l n z. (rw (there c n) (free_start tb ths chs e c l (omega arith)), omega (arith, z, waiting_le tb ths row c))))

  -- where the new row holds what the old one held
  module _ (same : (c : ℕ) → holds tb row c ≡ holds tb (get_or ths t []) c) where
    kept_rows : is_waiting row ≡ is_waiting (get_or ths t []) → recount tb (set ths t row) (λ c. at chs c 0) ≡ chs
    unfolding recount
    kept_rows still =
        tabulate_cong 128 (λ c. channel_row (at chs c 0) (count_of tb (set ths t row) c) (waiters tb (set ths t row) c)) (λ c. channel_row (at chs c 0) (count_of tb ths c) (waiters tb ths c))
        (λ c l. rw (count_stays tb ths t (omega arith) row c (same c), waiters_stay tb ths t (omega arith) row c (same c) still))
        ∙ sym e

    weighed_rows : (dw : ℕ) → sum (bit (is_waiting (get_or ths t []))) dw ≡ bit (is_waiting row) → weighing tb row dw chs ≡ recount tb (set ths t row) (λ c. at chs c 0)
    weighed_rows dw more =
        settled_rows tb (set ths t row) (weighing tb row dw chs) (λ c. at chs c 0)
        (weigh_law chs (λ c. at chs c 0) (count_of tb ths) (waiters tb ths) tb row dw (is_waiting (get_or ths t [])) (count_of tb (set ths t row)) (waiters tb (set ths t row)) more
        (raw_start tb ths chs e) (low_start tb ths long)
        (λ c l z. (free_start tb ths chs e c l z, omega (arith, z, waiters_le tb ths c)))
        (λ c l. (count_stays tb ths t (omega arith) row c (same c), rw (← same c) at (waiters_move tb ths t (omega arith) row c))))

  two_moved : (u : ℕ) → u < max_threads → u ≢ t → (other : List ℕ)
      → leaving tb (get_or ths u []) (leaving tb (get_or ths t []) (entering tb other (entering tb row chs))) ≡ recount tb (set (set ths t row) u other) (λ c. at chs c 0)
  two_moved u i d other =
      let ty : ℕ → ℕ = λ c. at chs c 0 in
      let both = entering tb other (entering tb row chs) in
      let N : ℕ → ℕ = λ c. entered tb ths row c + bit (holds tb other c) in
      let W : ℕ → ℕ = λ c. entered_waiting tb ths row c + bit (is_waiting other && holds tb other c) in
      let low : Low N W = λ c l. (
        omega (arith, entered_le tb ths row c long, bit_le (holds tb other c)),
        omega (arith, entered_le tb ths row c long, waiting_le tb ths row c, bit_le (is_waiting other && holds tb other c)),
      ) in
      let says : Settled both ty N W =
      settle both ty N W (enter_law (entering tb row chs) ty (entered tb ths row) (entered_waiting tb ths row) tb other raw_entered (low_entered tb ths long row))
      (λ c l z. (free_start tb ths chs e c l (omega arith), omega (arith, z, waiting_le tb ths row c, bit_and_le (is_waiting other) (holds tb other c)))) in
      let there : get_or (set ths t row) u [] ≡ get_or ths u [] = get_or-set_other ths t u row [] d in
      rw (← there) (last_left tb (set ths t row) (length-set ths t row ∙ long) other (leaving tb (get_or ths t []) both) ty u i
      (leave_law both ty (entered tb (set ths t row) other) (entered_waiting tb (set ths t row) other) tb (get_or ths t []) N W says
      (λ c l. (omega (arith, counts_move tb ths t (omega arith) row c), omega (arith, waiters_move tb ths t (omega arith) row c))) low))

-- ---- states

module _ (tb : Table) (s : State) where
  pub settled_length : length (settled tb s).channels ≡ max_channels
  unfolding settled with_channels recount
  settled_length = length_tabulate 128 (λ c. channel_row (type_in s c) (count_of tb s.threads c) (waiters tb s.threads c))

  again_row : (ty n w : ℕ) → channel_row (get_or (channel_row ty n w) 0 0) n w ≡ channel_row ty n w
  unfolding channel_row
  again_row ty zero w = refl
  again_row ty (suc n) w = refl

  -- what is settled stays so
  pub settled_again : settled tb (settled tb s) ≡ settled tb s
  unfolding settled with_channels recount
  settled_again =
      let f : ℕ → List ℕ = λ c. channel_row (type_in s c) (count_of tb s.threads c) (waiters tb s.threads c) in
      ap (with_channels s)
      (tabulate_cong 128 (λ c. channel_row (at (tabulate 128 f) c 0) (count_of tb s.threads c) (waiters tb s.threads c)) f
      (λ c h. rw (get_d_tabulate 128 c f [] h) (again_row (type_in s c) (count_of tb s.threads c) (waiters tb s.threads c))))

  -- the marks are not looked at
  module _ (i v : ℕ) where
    pub settled_mark : settled tb (with_mark s i v) ≡ with_mark (settled tb s) i v
    unfolding settled with_mark with_channels
    settled_mark = refl

    pub two_mark : (t u : ℕ) (l : List ℕ) (w : ℕ) (l' : List ℕ) (w' : ℕ)
        → settled_two tb (with_mark s i v) t u l w l' w' ≡ with_mark (settled_two tb s t u l w l' w') i v
    unfolding settled_two row_entered row_left shifted_to with_mark with_channels
    two_mark t u l w l' w' = refl

    pub new_mark : (t c : ℕ) (l : List ℕ) (w : ℕ) → settled_new tb (with_mark s i v) t c l w ≡ with_mark (settled_new tb s t c l w) i v
    unfolding settled_new channel_shifted row_entered row_left shifted_to with_mark with_channels
    new_mark t c l w = refl

-- ---- the upkeep comes to the recount

module _ (tb : Table) (s : State) (long : length s.threads ≡ max_threads) (e : settled tb s ≡ s) where
  pub counted : s.channels ≡ recount tb s.threads (λ c. at s.channels c 0)
  unfolding settled with_channels
  counted = sym (ap (λ (x : State). x.channels) e)

  module _ (t : ℕ) (h : t < max_threads) (row : List ℕ) where
    written : get_or (set s.threads t row) t [] ≡ row
    written = get_or-set_same s.threads t row [] (omega arith)

    pub one_settled : settled_one tb (with_thread s t row) t (own_list tb (thread s t)) (bit (is_waiting (thread s t))) ≡ settled tb (with_thread s t row)
    unfolding settled_one row_entered row_left shifted_to with_thread with_channels settled
    one_settled =
        rw written
        (ap (with_channels (with_thread s t row))
        (one_moved tb s.threads long s.channels counted t h row))

    -- a row that holds what it held: where it waits as it did the channel rows stay, and else the counts of waiting holders of its channels go up by dw
    module _ (same : (c : ℕ) → holds tb row c ≡ holds tb (thread s t) c) where
      pub row_kept : is_waiting row ≡ is_waiting (thread s t) → settled tb (with_thread s t row) ≡ with_thread s t row
      unfolding with_thread with_channels settled
      row_kept still = ap (with_channels (with_thread s t row)) (kept_rows tb s.threads long s.channels counted t h row same still)

      pub row_weighed_lem : (dw : ℕ) → sum (bit (is_waiting (thread s t))) dw ≡ bit (is_waiting row) → settled tb (with_thread s t row) ≡ row_weighed tb (with_thread s t row) t dw
      unfolding row_weighed shifted_to with_thread with_channels settled
      row_weighed_lem dw more = rw written (ap (with_channels (with_thread s t row)) (sym (weighed_rows tb s.threads long s.channels counted t h row same dw more)))

    pub new_settled : (c ty : ℕ) → c < max_channels
        → settled_new tb (typed (with_thread s t row) c ty) t c (own_list tb (thread s t)) (bit (is_waiting (thread s t))) ≡ settled tb (typed (with_thread s t row) c ty)
    unfolding settled_new channel_shifted row_entered row_left shifted_to typed with_thread with_channel with_channels settled
    new_settled c ty i =
        rw written
        (ap (with_channels (with_thread s t row))
        (new_moved tb s.threads long s.channels counted t h row c ty i))

    pub two_settled : (u : ℕ) → u < max_threads → u ≢ t → (other : List ℕ)
        → settled_two tb (with_thread (with_thread s t row) u other) t u (own_list tb (thread s t)) (bit (is_waiting (thread s t))) (own_list tb (thread s u)) (bit (is_waiting (thread s u)))
        ≡ settled tb (with_thread (with_thread s t row) u other)
    unfolding settled_two row_entered row_left shifted_to with_thread with_channels settled
    two_settled u i d other =
        let here : get_or (set (set s.threads t row) u other) t [] ≡ row = get_or-set_other (set s.threads t row) u t other [] (λ q. d (sym q)) ∙ written in
        let there : get_or (set (set s.threads t row) u other) u [] ≡ other = get_or-set_same (set s.threads t row) u other [] (omega (arith, length-set s.threads t row)) in
        rw (here, there)
        (ap (with_channels (with_thread (with_thread s t row) u other))
        (two_moved tb s.threads long s.channels counted t h row u i d other))
