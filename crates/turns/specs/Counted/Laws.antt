-- The upkeep moves types and counts of holders without a look at the counts of waiting holders, so that it does the same to a counted state and to
-- what it stands for. Assumes nothing.
use Prim.Native.Nat.{ℕ, zero, suc, ◌+◌, ◌<◌, ◌≤◌}
use Rattle.std.proofs.Common.{arith, ◌∙◌}
use Rattle.std.proofs.Math.Numerals.{add-one}
use Rattle.std.specs.Prelude.{◌≡◌, ◌≢◌, Bool, false, ◌&&◌, length, get_or, set, take}
use Rattle.std.proofs.Math.Path.{refl, sym, ap}
use Rattle.std.proofs.Math.Bool.{cond}
use mathlib.Core.List.{List, [], ◌∷◌}
use Rattle.std.proofs.Math.Dec.{eqb, leb}
use Rattle.std.proofs.Math.ListN.{length-set}
use Rattle.std.proofs.Math.Seq.{get_or-set_same, get_or-set_other}
use borrow.Author.Tests.{eqb-true, eqb-false}
use Rattle.numbers.specs.Count.{bit}
use Rattle.numbers.specs.Rows.{at, put}
use Rattle.numbers.specs.Search.{first, tabulate}
use Rattle.numbers.specs.Search.Laws.{case_b, get_d_tabulate, length_tabulate, tabulate_cong, is_tabulate, first_cong}
use Rattle.numbers.specs.Signed.{sum}
use Rattle.table.specs.Table.{Table}
use Rattle.state.specs.State.Laws.{length_threads, length_channel}
use Rattle.state.specs.State.{max_channels, max_threads, State, state_of, state_words, thread, channel, stands_at, type_in, channel_mark, is_waiting, with_mark, with_thread, with_channel, with_channels}
use Rattle.rules.specs.Start.{free_row}
use Rattle.rules.specs.Holding.{holds, waiters, count_of, channel_row, recount, settled}
use Rattle.table.specs.Layout.{branch_count}
use Rattle.rules.specs.Program.{branch_at, guard_holds, act_of}
use Rattle.rules.specs.declared.Act.{Act}
use Rattle.rules.specs.declared.Act.TheVariants.{Tau, Meeting, New, Spawn, Assignment}
use Rattle.rules.specs.Offers.{answers, answering, partner_of}
use Rattle.rules.specs.Moves.{first_from, around, is_free_thread, is_free_channel, free_thread, free_channel, creation, goes_ahead, act_move, branch_move, ahead, choice, move, typed, spawned_by, written, perform}
use Rattle.rules.specs.declared.Move.{Move}
use Rattle.rules.specs.declared.Move.TheVariants.{Ends, Calls, Waits, Goes, Creates, Spawns, Meets, LacksThread, LacksChannel}
use Rattle.holding.specs.Own.{own_list}
use Rattle.upkeep.specs.Shift.{shift_row, shift_to, shifted_to, channel_shifted, row_entered, row_left, settled_one, settled_two, settled_new}
use Rattle.upkeep.specs.Upkeep.{waiters_le, count_stays, one_settled, two_settled, new_settled, settled_again, settled_length, settled_mark, two_mark, new_mark}
use Rattle.turns.specs.Running.{MoveMade}
use Rattle.turns.specs.Counted.{Alike, Counted, weighed_to, weighed}
use Rattle.turns.specs.Weights.{number_by, weighed_after}

-- ---- one row

head_row : (ty n w w' : ℕ) → take 2 (channel_row ty n w) ≡ take 2 (channel_row ty n w')
unfolding channel_row
head_row ty zero w w' = refl
head_row ty (suc n) w w' = refl

first_word : (r : List ℕ) → get_or (take 2 r) 0 0 ≡ get_or r 0 0
first_word [] = refl
first_word (x ∷ []) = refl
first_word (x ∷ y ∷ r) = refl

second_word : (r : List ℕ) → get_or (take 2 r) 1 0 ≡ get_or r 1 0
second_word [] = refl
second_word (x ∷ []) = refl
second_word (x ∷ y ∷ r) = refl

put_type : (r : List ℕ) (v : ℕ) → take 2 (set r 0 v) ≡ set (take 2 r) 0 v
put_type [] v = refl
put_type (x ∷ []) v = refl
put_type (x ∷ y ∷ r) v = refl

-- ---- all rows

module _ (a b : List (List ℕ)) (e : Alike a b) where
  type_alike : (c : ℕ) → c < max_channels → at a c 0 ≡ at b c 0
  unfolding Alike
  type_alike c h = sym (first_word (get_or a c [])) ∙ rw (e.2 c h) (first_word (get_or b c []))

  count_alike : (c : ℕ) → c < max_channels → at a c 1 ≡ at b c 1
  unfolding Alike
  count_alike c h = sym (second_word (get_or a c [])) ∙ rw (e.2 c h) (second_word (get_or b c []))

  -- a row is replaced by one with the same type and count
  set_alike : (v : ℕ) (r r' : List ℕ) → (v < max_channels → take 2 r ≡ take 2 r') → Alike (set a v r) (set b v r')
  unfolding Alike
  set_alike v r r' f = (
    length-set a v r ∙ e.0,
    length-set b v r' ∙ e.1,
    λ c h. case_b (eqb c v)
        (λ y. let q : c ≡ v = eqb-true c v y in
        rw (← q, get_or-set_same a c r [] (omega (arith, e.0)), get_or-set_same b c r' [] (omega (arith, e.1))) (f (rw (← q) h)))
        (λ n. rw (get_or-set_other a v c r [] (eqb-false c v n), get_or-set_other b v c r' [] (eqb-false c v n)) (e.2 c h)),
  )

  put_alike : (v y : ℕ) → Alike (put a v 0 y) (put b v 0 y)
  unfolding Alike
  put_alike v y = set_alike v (set (get_or a v []) 0 y) (set (get_or b v []) 0 y) (λ h. put_type (get_or a v []) y ∙ rw (e.2 v h) (sym (put_type (get_or b v []) y)))

  row_alike : (v dn dw : ℕ) → Alike (shift_row a v dn dw) (shift_row b v dn dw)
  unfolding shift_row
  row_alike v dn dw =
      set_alike v (channel_row (at a v 0) (sum (at a v 1) dn) (sum (at a v 2) dw)) (channel_row (at b v 0) (sum (at b v 1) dn) (sum (at b v 2) dw))
      (λ h. rw (type_alike v h, count_alike v h) (head_row (at b v 0) (sum (at b v 1) dn) (sum (at a v 2) dw) (sum (at b v 2) dw)))

shift_alike : (l : List ℕ) (dn dw : ℕ) (a b : List (List ℕ)) → Alike a b → (k : ℕ) → Alike (shift_to l dn dw a k) (shift_to l dn dw b k)
unfolding shift_to
shift_alike l dn dw a b e zero = e
shift_alike l dn dw a b e (suc k) =
    row_alike (shift_to l dn dw a k) (shift_to l dn dw b k) (shift_alike l dn dw a b e k) (get_or l k 0) dn dw

-- ---- the upkeep of one row, of two, and of a row and a new channel: the same is done to other channel rows

abbrev SameDone : (State → State) → State → List (List ℕ) → Type 0
SameDone F x chs = (with_channels (F x) (F (with_channels x chs)).channels ≡ F (with_channels x chs)) × Alike (F x).channels (F (with_channels x chs)).channels

module _ (tb : Table) (x : State) (chs : List (List ℕ)) (e : Alike x.channels chs) where
  one_alike : (t : ℕ) (l : List ℕ) (w : ℕ) → SameDone (λ y. settled_one tb y t l w) x chs
  unfolding settled_one row_entered row_left shifted_to with_channels
  one_alike t l w = (refl, shift_alike l _ _ _ _ (shift_alike _ _ _ _ _ e _) _)

  two_alike : (t u : ℕ) (l : List ℕ) (w : ℕ) (l' : List ℕ) (w' : ℕ) → SameDone (λ y. settled_two tb y t u l w l' w') x chs
  unfolding settled_two row_entered row_left shifted_to with_channels
  two_alike t u l w l' w' = (refl, shift_alike l' _ _ _ _ (shift_alike l _ _ _ _ (shift_alike _ _ _ _ _ (shift_alike _ _ _ _ _ e _) _) _) _)

  new_alike : (t c : ℕ) (l : List ℕ) (w : ℕ) → SameDone (λ y. settled_new tb y t c l w) x chs
  unfolding settled_new channel_shifted row_entered row_left shifted_to with_channels
  new_alike t c l w = (refl, shift_alike l _ _ _ _ (row_alike _ _ (shift_alike _ _ _ _ _ e _) c 0 0) _)

  -- ---- what both stand for

  pub same_settled : settled tb x ≡ settled tb (with_channels x chs)
  unfolding settled with_channels recount
  same_settled =
      ap (with_channels x)
      (tabulate_cong 128 (λ c. channel_row (at x.channels c 0) (count_of tb x.threads c) (waiters tb x.threads c)) (λ c. channel_row (at chs c 0) (count_of tb x.threads c) (waiters tb x.threads c))
      (λ c h. rw (type_alike x.channels chs e c h)))

  -- where the other channel rows are settled
  pub stands_for : (z : State) → with_channels x chs ≡ settled tb z → (settled tb x ≡ settled tb z) × Counted tb x
  unfolding Counted with_channels
  stands_for z f =
      let s : settled tb x ≡ settled tb z = same_settled ∙ rw f (settled_again tb z) in
      let k : chs ≡ (settled tb x).channels = ap (λ (y : State). y.channels) (f ∙ sym s) in
      (s, rw (← k) e)

-- ---- the move is the same

module _ (tb : Table) (s : State) (e : Counted tb s) where
  free_alike : free_channel s ≡ free_channel (settled tb s)
  unfolding free_channel around first_from is_free_channel Counted settled with_channels
  free_alike =
      let f : (c : ℕ) → c < 128 → eqb (type_in s c) 0 ≡ eqb (type_in (settled tb s) c) 0 = λ c h. rw (type_alike s.channels (settled tb s).channels e c h) in
      let g = first_cong (λ c. leb (channel_mark s) c && eqb (type_in s c) 0) (λ c. leb (channel_mark s) c && eqb (type_in (settled tb s) c) 0) 128 (λ c h. rw (f c h)) in
      let k = first_cong (λ c. eqb (type_in s c) 0) (λ c. eqb (type_in (settled tb s) c) 0) 128 f in
      rw (g, k)

  act_alike : (t i : ℕ) (a : Act) → act_move tb s t i a ≡ act_move tb (settled tb s) t i a
  unfolding act_move free_thread is_free_thread partner_of answering answers settled with_channels
  act_alike t i Tau = refl
  act_alike t i (Meeting d) = refl
  act_alike t i New = ap (creation i) free_alike
  act_alike t i Spawn = refl
  act_alike t i Assignment = refl

  branch_alike : (t i : ℕ) → branch_move tb s t i ≡ branch_move tb (settled tb s) t i
  unfolding branch_move settled with_channels
  branch_alike t i =
      ap (λ (x : Move). cond (guard_holds tb (branch_at tb (stands_at (thread s t)) i) (thread s t)) x Waits) (act_alike t i (act_of tb (branch_at tb (stands_at (thread s t)) i)))

  ahead_alike : (t i : ℕ) → ahead tb s t i ≡ ahead tb (settled tb s) t i
  unfolding ahead
  ahead_alike t i = ap goes_ahead (branch_alike t i)

  pub move_alike : (t : ℕ) → move tb s t ≡ move tb (settled tb s) t
  unfolding move choice settled with_channels
  move_alike t =
      let n = branch_count tb (stands_at (thread s t)) in
      let f : first (ahead tb s t) n ≡ first (ahead tb (settled tb s) t) n = first_cong (ahead tb s t) (ahead tb (settled tb s) t) n (λ i h. ahead_alike t i) in
      rw (f, branch_alike t (first (ahead tb (settled tb s) t) n))

-- ---- what a move writes, in a counted state and in what it stands for

module _ (tb : Table) (s : State) (chs : List (List ℕ)) (e : Alike s.channels chs) (t : ℕ) where
  both_written : (m : Move) → (with_channels (written tb s t m) (written tb (with_channels s chs) t m).channels ≡ written tb (with_channels s chs) t m)
      × Alike (written tb s t m).channels (written tb (with_channels s chs) t m).channels
  unfolding written spawned_by typed with_mark with_thread with_channel with_channels
  both_written Ends = (refl, e)
  both_written Calls = (refl, e)
  both_written Waits = (refl, e)
  both_written (Goes i) = (refl, e)
  both_written (Creates i c) = (refl, put_alike s.channels chs e c _)
  both_written (Spawns i u) = (refl, e)
  both_written (Meets i u j) = (refl, e)
  both_written LacksThread = (refl, e)
  both_written LacksChannel = (refl, e)

module _ (tb : Table) (s : State) (e : Counted tb s) where
  whole : with_channels s (settled tb s).channels ≡ settled tb s
  unfolding settled with_channels
  whole = refl

  -- m is written: the rows of what the state stands for
  abbrev rows_after : ℕ → Move → List (List ℕ)
  rows_after t m = (written tb (with_channels s (settled tb s).channels) t m).channels

  module _ (t : ℕ) (m : Move) where
    both_after : (with_channels (written tb s t m) (rows_after t m) ≡ written tb (settled tb s) t m) × Alike (written tb s t m).channels (rows_after t m)
    unfolding Counted
    both_after =
        let (p, q) = both_written tb s (settled tb s).channels e t m in
        (p ∙ rw whole, q)

    -- a move after which nothing is to be done
    pub written_settled : settled tb (written tb s t m) ≡ perform tb (settled tb s) t m
    unfolding perform
    written_settled =
        let (p, q) = both_after in
        same_settled tb (written tb s t m) (rows_after t m) q ∙ rw p

  -- a row that holds what the row before it held
  pub kept_counted : length s.threads ≡ max_threads → (t : ℕ) → t < max_threads → (row : List ℕ) → ((c : ℕ) → holds tb row c ≡ holds tb (thread s t) c)
      → Counted tb (with_thread s t row)
  unfolding Counted Alike settled with_channels with_thread recount
  kept_counted long t h row same =
      let f : ℕ → List ℕ = λ c. channel_row (type_in s c) (count_of tb s.threads c) (waiters tb s.threads c) in
      let g : ℕ → List ℕ = λ c. channel_row (type_in s c) (count_of tb (set s.threads t row) c) (waiters tb (set s.threads t row) c) in (
        e.0,
        length_tabulate 128 g,
        λ c l. e.2 c l ∙ rw (get_d_tabulate 128 c f [] l, get_d_tabulate 128 c g [] l, count_stays tb s.threads t (omega arith) row c (same c))
            (head_row (type_in s c) (count_of tb s.threads c) (waiters tb s.threads c) (waiters tb (set s.threads t row) c)),
      )

  -- ---- moves with upkeep: what settles the rows of what the state stands for does the same here, and leaves nothing to be weighed
  upkept : (t : ℕ) (m : Move) (F : State → State) → ((chs : List (List ℕ)) → Alike (written tb s t m).channels chs → SameDone F (written tb s t m) chs)
      → F (written tb (settled tb s) t m) ≡ perform tb (settled tb s) t m → ((x : State) → weighed_after tb (stands_at (thread s t)) t m x ≡ x)
      → MoveMade tb s t m (F (written tb s t m))
  unfolding perform
  upkept t m F same a still =
      let (p, q) = both_after t m in
      let (p₁, q₁) = same (rows_after t m) q in
      let (x, k) = stands_for tb (F (written tb s t m)) _ q₁ (written tb (settled tb s) t m) (p₁ ∙ rw p a) in
      record {
        after = x;
        counted = k;
        weights = λ whole.
            let r : F (written tb s t m) ≡ settled tb (written tb s t m) = rw whole at a in
            rw (still (F (written tb s t m)), r) (settled_again tb (written tb s t m));
      }

-- ---- a mark that is moved besides changes nothing in the upkeep

module _ (tb : Table) (s : State) (i v : ℕ) where
  new_marked : (t x : ℕ) (l : List ℕ) (w : ℕ) → settled_new tb s t x l w ≡ settled tb s → settled_new tb (with_mark s i v) t x l w ≡ settled tb (with_mark s i v)
  new_marked t x l w e = new_mark tb s i v t x l w ∙ rw e (sym (settled_mark tb s i v))

  two_marked : (t x : ℕ) (l : List ℕ) (w : ℕ) (l' : List ℕ) (w' : ℕ) → settled_two tb s t x l w l' w' ≡ settled tb s
      → settled_two tb (with_mark s i v) t x l w l' w' ≡ settled tb (with_mark s i v)
  two_marked t x l w l' w' e = two_mark tb s i v t x l w l' w' ∙ rw e (sym (settled_mark tb s i v))

-- ---- the code's ways out: s₁ after the writes, s₂ after the upkeep

module _ (tb : Table) (b : List ℕ) (t : ℕ) (s₁ s₂ : State) (l : List ℕ) (w : ℕ) where
  module _ (f : s₂ ≡ settled_one tb s₁ t l w) where
    one_made : (m : Move) → s₁ ≡ written tb (state_of b) t m → Counted tb (state_of b)
        → settled_one tb (written tb (settled tb (state_of b)) t m) t l w ≡ perform tb (settled tb (state_of b)) t m
        → ((x : State) → weighed_after tb (stands_at (thread (state_of b) t)) t m x ≡ x) → MoveMade tb (state_of b) t m s₂
    one_made m g e a still = rw (f, g) (upkept tb (state_of b) e t m (λ y. settled_one tb y t l w) (λ chs q. one_alike tb _ chs q t l w) a still)

    pub end_made : s₁ ≡ with_thread (state_of b) t free_row → l ≡ own_list tb (thread (state_of b) t) → w ≡ bit (is_waiting (thread (state_of b) t))
        → Counted tb (state_of b) → t < max_threads
        → MoveMade tb (state_of b) t Ends s₂
    unfolding written perform settled with_channels weighed_after
    end_made g i j e h =
        one_made Ends g e (rw (i, j) (one_settled tb (settled tb (state_of b)) (length_threads b) (settled_again tb (state_of b)) t h _)) (λ x. refl)

    pub call_made : s₁ ≡ written tb (state_of b) t Calls → l ≡ own_list tb (thread (state_of b) t) → w ≡ bit (is_waiting (thread (state_of b) t))
        → Counted tb (state_of b) → t < max_threads
        → MoveMade tb (state_of b) t Calls s₂
    unfolding written perform settled with_channels weighed_after
    call_made g i j e h =
        one_made Calls g e (rw (i, j) (one_settled tb (settled tb (state_of b)) (length_threads b) (settled_again tb (state_of b)) t h _)) (λ x. refl)

  pub channel_made : (k c : ℕ) → s₂ ≡ settled_new tb s₁ t c l w → s₁ ≡ written tb (state_of b) t (Creates k c) → l ≡ own_list tb (thread (state_of b) t)
      → w ≡ bit (is_waiting (thread (state_of b) t)) → Counted tb (state_of b) → t < max_threads → c < max_channels → MoveMade tb (state_of b) t (Creates k c) s₂
  unfolding written perform settled with_channels weighed_after
  channel_made k c f g i j e h n =
      let a = new_marked tb _ 1 _ t c _ _ (new_settled tb (settled tb (state_of b)) (length_threads b) (settled_again tb (state_of b)) t h _ c _ n) in
      rw (f, g) (upkept tb (state_of b) e t (Creates k c) (λ y. settled_new tb y t c l w) (λ chs q. new_alike tb _ chs q t c l w) (rw (i, j) a) (λ x. refl))

  module _ (u : ℕ) (l' : List ℕ) (w' : ℕ) (f : s₂ ≡ settled_two tb s₁ t u l w l' w') where
    two_made : (m : Move) → s₁ ≡ written tb (state_of b) t m → Counted tb (state_of b)
        → settled_two tb (written tb (settled tb (state_of b)) t m) t u l w l' w' ≡ perform tb (settled tb (state_of b)) t m
        → ((x : State) → weighed_after tb (stands_at (thread (state_of b) t)) t m x ≡ x) → MoveMade tb (state_of b) t m s₂
    two_made m g e a still = rw (f, g) (upkept tb (state_of b) e t m (λ y. settled_two tb y t u l w l' w') (λ chs q. two_alike tb _ chs q t u l w l' w') a still)

    pub child_made : (x : ℕ) → s₁ ≡ written tb (state_of b) t (Spawns x u) → l ≡ own_list tb (thread (state_of b) t) → w ≡ bit (is_waiting (thread (state_of b) t))
        → l' ≡ own_list tb (thread (state_of b) u) → w' ≡ bit (is_waiting (thread (state_of b) u)) → Counted tb (state_of b) → t < max_threads → u < max_threads
        → u ≢ t
        → MoveMade tb (state_of b) t (Spawns x u) s₂
    unfolding written spawned_by perform settled with_channels weighed_after
    child_made x g i j k n e h o z =
        let a = two_marked tb _ 0 _ t u _ _ _ _ (two_settled tb (settled tb (state_of b)) (length_threads b) (settled_again tb (state_of b)) t h _ u o z _) in
        two_made (Spawns x u) g e (rw (i, j, k, n) a) (λ y. refl)

    -- where it is no number that is given
    pub meeting_made : (x y : ℕ) → s₁ ≡ written tb (state_of b) t (Meets x u y) → l ≡ own_list tb (thread (state_of b) t)
        → w ≡ bit (is_waiting (thread (state_of b) t))
        → l' ≡ own_list tb (thread (state_of b) u) → w' ≡ bit (is_waiting (thread (state_of b) u)) → (n : ℕ) (r : Bool) → r ≡ number_by tb n x → n ≡ stands_at (thread (state_of b) t) → r ≡ false
        → Counted tb (state_of b) → t < max_threads → u < max_threads → u ≢ t
        → MoveMade tb (state_of b) t (Meets x u y) s₂
    unfolding written perform settled with_channels weighed_after
    meeting_made x y g i j k q n r p v a e h o z =
        two_made (Meets x u y) g e (rw (i, j, k, q) (two_settled tb (settled tb (state_of b)) (length_threads b) (settled_again tb (state_of b)) t h _ u o z _)) (λ whole. rw (← v, ← p, a))

-- ---- a settled state is counted

pub counted_start : (tb : Table) (s : State) → settled tb s ≡ s → Counted tb s
unfolding Counted Alike
counted_start tb s e = rw (ap (λ (x : State). x.channels) e) (let l : length s.channels ≡ 128 = rw (ap (λ (x : State). length x.channels) e) at (settled_length tb s) in (l, l, λ c h. refl))

-- ---- the counts of waiting holders, settled at last

module _ (l : List ℕ) (b : List ℕ) where
  pub weighed_none : state_of b ≡ weighed l (state_of b) 0
  unfolding weighed weighed_to with_channels state_of
  weighed_none = refl

  pub weighed_more : (s₁ s₂ : State) (k v : ℕ) → s₂ ≡ with_channel s₁ k (set (channel s₁ k) 2 v) → s₁ ≡ weighed l (state_of b) k → v ≡ get_or l k 0
      → s₂ ≡ weighed l (state_of b) (k + 1)
  unfolding weighed weighed_to with_channels with_channel
  weighed_more s₁ s₂ k v e f g = e ∙ rw (f, g, add-one k)

  pub weighed_all : (s₁ : State) (k : ℕ) → s₁ ≡ weighed l (state_of b) k → k ≤ max_channels → max_channels ≤ k → s₁ ≡ weighed l (state_of b) max_channels
  weighed_all s₁ k e h i = let q : k ≡ 128 = omega arith in rw (← q) e

module _ (l : List ℕ) (chs : List (List ℕ)) where
  length_weighed : (k : ℕ) → length (weighed_to l chs k) ≡ length chs
  unfolding weighed_to
  length_weighed zero = refl
  length_weighed (suc k) = length-set (weighed_to l chs k) k (set (get_or (weighed_to l chs k) k []) 2 (get_or l k 0)) ∙ length_weighed k

  weighed_later : (k c : ℕ) → k ≤ c → get_or (weighed_to l chs k) c [] ≡ get_or chs c []
  unfolding weighed_to
  weighed_later zero c h = refl
  weighed_later (suc k) c h =
      get_or-set_other (weighed_to l chs k) k c (set (get_or (weighed_to l chs k) k []) 2 (get_or l k 0)) [] (λ q. absurd (omega arith)) ∙ weighed_later k c (omega arith)

  weighed_row : (k c : ℕ) → c < k → c < length chs → get_or (weighed_to l chs k) c [] ≡ set (get_or chs c []) 2 (get_or l c 0)
  unfolding weighed_to
  weighed_row zero c h i = absurd (omega arith)
  weighed_row (suc k) c h i =
      case_b (eqb c k)
      (λ y. let q : c ≡ k = eqb-true c k y in
      rw (← q, get_or-set_same (weighed_to l chs c) c (set (get_or (weighed_to l chs c) c []) 2 (get_or l c 0)) [] (omega (arith, length_weighed c)), weighed_later c c (omega arith)))
      (λ n. get_or-set_other (weighed_to l chs k) k c (set (get_or (weighed_to l chs k) k []) 2 (get_or l k 0)) [] (eqb-false c k n)
      ∙ weighed_row k c (omega (arith, eqb-false c k n)) i)

last_word : (r : List ℕ) (ty n w : ℕ) → length r ≡ 3 → take 2 r ≡ take 2 (channel_row ty n w) → w ≤ n → set r 2 w ≡ channel_row ty n w
unfolding channel_row
last_word [] ty n w h e i = absurd (omega arith)
last_word (x ∷ []) ty n w h e i = absurd (omega arith)
last_word (x ∷ y ∷ []) ty n w h e i = absurd (omega arith)
last_word (x ∷ y ∷ z ∷ u ∷ r) ty n w h e i = absurd (omega arith)
last_word (x ∷ y ∷ z ∷ []) ty zero w h e i =
    let q : w ≡ 0 = omega arith in
    let a : x ≡ 0 = ap (λ (l : List ℕ). get_or l 0 0) e in
    let b : y ≡ 0 = ap (λ (l : List ℕ). get_or l 1 0) e in
    rw (q, a, b)
last_word (x ∷ y ∷ z ∷ []) ty (suc n) w h e i =
    let a : x ≡ ty = ap (λ (l : List ℕ). get_or l 0 0) e in
    let b : y ≡ suc n = ap (λ (l : List ℕ). get_or l 1 0) e in
    rw (a, b)

pub settled_last : (tb : Table) (b : List ℕ) → length b ≡ state_words → Counted tb (state_of b) → (l : List ℕ) (s₁ : State)
    → s₁ ≡ weighed l (state_of b) max_channels
    → l ≡ tabulate max_channels (waiters tb (state_of b).threads) → s₁ ≡ settled tb (state_of b)
unfolding weighed Counted Alike settled with_channels recount
settled_last tb b long e l s₁ f g =
    let s = state_of b in
    let row : ℕ → List ℕ = λ c. channel_row (type_in s c) (count_of tb s.threads c) (waiters tb s.threads c) in
    f ∙ ap (with_channels s)
    (is_tabulate (weighed_to l s.channels 128) 128 row [] (length_weighed l s.channels 128 ∙ e.0)
    (λ c h. weighed_row l s.channels 128 c h (omega (arith, e.0))
    ∙ rw (g, get_d_tabulate 128 c (waiters tb s.threads) 0 h)
    (last_word (get_or s.channels c []) (type_in s c) (count_of tb s.threads c) (waiters tb s.threads c) (length_channel b long c h)
    (e.2 c h ∙ rw (get_d_tabulate 128 c row [] h)) (waiters_le tb s.threads c))))
