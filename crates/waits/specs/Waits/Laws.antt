-- The notes mean what they say, and the threads wait rightly just where no channel has a sender and a receiver that are two threads. Assumes nothing.
use Prim.Native.Nat.{ℕ, zero, suc, ◌≤◌, ◌<◌}
use native.Mathlib.Omega.{arith}
use Rattle.std.specs.Prelude.{◌≡◌, ◌≢◌, Bool, false, ◌&&◌, ltb, eqb}
use Rattle.std.proofs.Math.Path.{refl}
use Rattle.std.proofs.Common.{sym, ◌∙◌, ap}
use Rattle.std.proofs.Math.Bool.{true, not}
use borrow.Author.Tests.{ltb-true, ltb-false, lt-ltb, eqb-true, eqb-false, eq-eqb, ne_eqb, not-true}
use Rattle.numbers.specs.Search.{every, first, some}
use Rattle.numbers.specs.Search.Laws.{case_b, contra, every_elim, every_intro, some_elim, some_intro, same_truth}
use Rattle.numbers.specs.Tests.{and_left, and_right}
use Rattle.table.specs.Table.{Table}
use Rattle.table.specs.Layout.{branch_count}
use Rattle.state.specs.State.{State, max_threads, max_channels, thread, stands_at, slot_of, is_waiting}
use Rattle.rules.specs.Program.{kind_of, branch_at, field_a, act_of, guard_holds, opposite, same}
use Rattle.rules.specs.Offers.{meets?, offers_in, offers_at, offers, answers, answering, partner_of}
use Rattle.rules.specs.Moves.{meeting, creation, spawning, goes_ahead, act_move, branch_move, ahead, free_channel, free_thread}
use Rattle.rules.specs.Sound.{waits_rightly}
use Rattle.rules.specs.declared.Direction.{Direction}
use Rattle.rules.specs.declared.Direction.TheVariants.{Out, In}
use Rattle.rules.specs.declared.Act.{Act}
use Rattle.rules.specs.declared.Act.TheVariants.{Tau, Meeting, New, Spawn, Assignment}
use Rattle.waits.specs.Waits.{several, noted, note_of, apart, needs_partner, held_back, branch_held, waits_alone, who}

-- ---- what a note means

pub data Note (p : ℕ → Bool) (n : ℕ) : ℕ → Type 0 where
  nobody : ((u : ℕ) → u < n → p u ≡ false) → Note p n 0
  alone : (v : ℕ) → v < n → p v ≡ true → ((u : ℕ) → u < n → p u ≡ true → u ≡ v) → Note p n (suc v)
  many : (v w : ℕ) → v < n → w < n → v ≢ w → p v ≡ true → p w ≡ true → Note p n several

module _ (p : ℕ → Bool) where
  -- thread n besides
  with_next : (n m : ℕ) → n < max_threads → p n ≡ true → Note p n m → Note p (suc n) (noted m n)
  unfolding noted
  with_next n m h e (nobody f) = alone n (omega arith) e
      (λ u l t. case_b (ltb u n) (λ y. contra t (f u (ltb-true u n y))) (λ y. omega (arith, ltb-false u n y)))
  with_next n m h e (alone v l t f) =
      let o : suc v ≢ suc n = λ q. omega arith in
      rw (ne_eqb (suc v) 0 (λ q. omega arith), ne_eqb (suc v) (suc n) o) (many v n (omega arith) (omega arith) (λ q. omega arith) t e)
  with_next n m h e (many v w l j d t g) =
      let o : 65 ≢ suc n = λ q. omega arith in
      rw (ne_eqb 65 (suc n) o) (many v w (omega arith) (omega arith) d t g)

  -- thread n does not pass
  past_next : (n m : ℕ) → p n ≡ false → Note p n m → Note p (suc n) m
  past_next n m e (nobody f) = nobody (λ u l. case_b (ltb u n) (λ y. f u (ltb-true u n y)) (λ y. let q : u ≡ n = omega (arith, ltb-false u n y) in rw q e))
  past_next n m e (alone v l t f) = alone v (omega arith) t
      (λ u j g. case_b (ltb u n) (λ y. f u (ltb-true u n y) g) (λ y. let q : u ≡ n = omega (arith, ltb-false u n y) in contra (rw q at g) e))
  past_next n m e (many v w l j d t g) = many v w (omega arith) (omega arith) d t g

  pub note_means : (n : ℕ) → n ≤ max_threads → Note p n (note_of p n)
  unfolding note_of
  note_means zero h = nobody (λ u l. absurd (omega arith))
  note_means (suc n) h = case_b (p n)
      (λ e. rw e (with_next n (note_of p n) (omega arith) e (note_means n (omega arith))))
      (λ e. rw e (past_next n (note_of p n) e (note_means n (omega arith))))

-- two threads below n that pass, one p and the other q
pub record Conflict (p q : ℕ → Bool) (n : ℕ) : Type 0 where
  pub one : ℕ
  pub other : ℕ
  pub one_below : one < n
  pub other_below : other < n
  pub differ : one ≢ other
  pub one_passes : p one ≡ true
  pub other_passes : q other ≡ true

module _ (p q : ℕ → Bool) (n : ℕ) (h : n ≤ max_threads) where
  abbrev conflict : (u v : ℕ) → u < n → v < n → u ≢ v → p u ≡ true → q v ≡ true → Conflict p q n
  conflict u v i j d e f = record { one = u; other = v; one_below = i; other_below = j; differ = d; one_passes = e; other_passes = f }

  -- of two threads one is not u
  either_other : (u v w : ℕ) → u < n → v < n → w < n → v ≢ w → p u ≡ true → q v ≡ true → q w ≡ true → Conflict p q n
  either_other u v w i j k d e f g = case_b (eqb u v)
      (λ y. let a : u ≡ v = eqb-true u v y in conflict u w i k (λ z. d (sym a ∙ z)) e g)
      (λ y. conflict u v i j (eqb-false u v y) e f)

  one_or_other : (u v w : ℕ) → u < n → v < n → w < n → v ≢ w → q u ≡ true → p v ≡ true → p w ≡ true → Conflict p q n
  one_or_other u v w i j k d e f g = case_b (eqb v u)
      (λ y. let a : v ≡ u = eqb-true v u y in conflict w u k i (λ z. d (a ∙ sym z)) g e)
      (λ y. conflict v u j i (eqb-false v u y) f e)

  -- a channel with senders and receivers: its notes are the same thread
  noted_both : (a b : ℕ) → 0 < a → 0 < b → apart a b ≡ (eqb a b && not (eqb a several))
  unfolding apart
  noted_both a b i j = rw (ne_eqb a 0 (λ q. omega arith), ne_eqb b 0 (λ q. omega arith))

  no_sender : (b : ℕ) → apart 0 b ≡ true
  unfolding apart
  no_sender b = refl

  no_receiver : (a : ℕ) → apart a 0 ≡ true
  unfolding apart
  no_receiver a = case_b (eqb a 0) (λ y. rw y) (λ y. rw y)

  pub not_apart : (a b : ℕ) → Note p n a → Note q n b → apart a b ≡ false → Conflict p q n
  not_apart a b (nobody f) y e = contra (no_sender b) e
  not_apart a b (alone v i t f) (nobody g) e = contra (no_receiver a) e
  not_apart a b (alone v i t f) (alone w j u g) e = conflict v w i j
      (λ z. contra (noted_both (suc v) (suc w) (omega arith) (omega arith) ∙ rw (eq-eqb (suc v) (suc w) (ap suc z), ne_eqb (suc v) 65 (λ x. omega arith))) e) t u
  not_apart a b (alone v i t f) (many w x j k d u g) e = either_other v w x i j k d t u g
  not_apart a b (many v w i j d t f) (nobody g) e = contra (no_receiver a) e
  not_apart a b (many v w i j d t f) (alone x k u g) e = one_or_other x v w k i j d u t f
  not_apart a b (many v w i j d t f) (many x y k l c u g) e = either_other v x y i k l c t u g

  pub is_apart : (a b : ℕ) → Note p n a → Note q n b → apart a b ≡ true → Conflict p q n → ⊥
  is_apart a b (nobody f) y e c = contra c.one_passes (f c.one c.one_below)
  is_apart a b (alone v i t f) (nobody g) e c = contra c.other_passes (g c.other c.other_below)
  is_apart a b (alone v i t f) (alone w j u g) e c =
      let x : c.one ≡ v = f c.one c.one_below c.one_passes in
      let y : c.other ≡ w = g c.other c.other_below c.other_passes in
      let z : suc v ≡ suc w = eqb-true (suc v) (suc w) (and_left (eqb (suc v) (suc w)) _ (rw (noted_both (suc v) (suc w) (omega arith) (omega arith)) at e)) in
      c.differ (omega arith)
  is_apart a b (alone v i t f) (many w x j k d u g) e c =
      let z : suc v ≡ 65 = eqb-true (suc v) 65 (and_left (eqb (suc v) 65) _ (rw (noted_both (suc v) 65 (omega arith) (omega arith)) at e)) in absurd (omega arith)
  is_apart a b (many v w i j d t f) (nobody g) e c = contra c.other_passes (g c.other c.other_below)
  is_apart a b (many v w i j d t f) (alone x k u g) e c =
      let z : 65 ≡ suc x = eqb-true 65 (suc x) (and_left (eqb 65 (suc x)) _ (rw (noted_both 65 (suc x) (omega arith) (omega arith)) at e)) in absurd (omega arith)
  is_apart a b (many v w i j d t f) (many x y k l o u g) e c = contra e (noted_both 65 65 (omega arith) (omega arith))

-- ---- which branches go ahead

meets_is : (a : Act) (d : Direction) → meets? a d ≡ true → a ≡ Meeting d
unfolding meets? same
meets_is Tau d e = contra e refl
meets_is (Meeting Out) Out e = refl
meets_is (Meeting Out) In e = contra e refl
meets_is (Meeting In) Out e = contra e refl
meets_is (Meeting In) In e = refl
meets_is New d e = contra e refl
meets_is Spawn d e = contra e refl
meets_is Assignment d e = contra e refl

meets_own : (d : Direction) → meets? (Meeting d) d ≡ true
unfolding meets? same
meets_own Out = refl
meets_own In = refl

partner_is : (a : Act) → needs_partner a ≡ true → (d : Direction) × (a ≡ Meeting d)
unfolding needs_partner
partner_is Tau e = contra e refl
partner_is (Meeting d) e = (d, refl)
partner_is New e = contra e refl
partner_is Spawn e = contra e refl
partner_is Assignment e = contra e refl

module _ (tb : Table) (s : State) (t i : ℕ) where
  abbrev line : ℕ
  line = branch_at tb (stands_at (thread s t)) i

  abbrev channel_at : ℕ
  channel_at = slot_of (thread s t) (field_a tb line)

  act_alone : (a : Act) → needs_partner a ≡ false → goes_ahead (act_move tb s t i a) ≡ true
  unfolding act_move goes_ahead needs_partner creation spawning
  act_alone Tau e = refl
  act_alone (Meeting d) e = contra refl e
  act_alone New e = case_b (ltb (free_channel s) max_channels) (λ y. rw y) (λ y. rw y)
  act_alone Spawn e = case_b (ltb (free_thread s) max_threads) (λ y. rw y) (λ y. rw y)
  act_alone Assignment e = refl

  act_met : (d : Direction) → goes_ahead (act_move tb s t i (Meeting d)) ≡ some (answers tb s t (opposite d) channel_at) max_threads
  unfolding act_move goes_ahead meeting partner_of answering some
  act_met d = case_b (ltb (first (answers tb s t (opposite d) channel_at) max_threads) max_threads) (λ y. rw y) (λ y. rw y)

  -- a branch that cannot go ahead has a false guard or needs a partner
  pub held_back_lem : ahead tb s t i ≡ false → branch_held tb s t i ≡ true
  unfolding ahead branch_move branch_held held_back
  held_back_lem e = case_b (guard_holds tb line (thread s t))
      (λ g. case_b (needs_partner (act_of tb line)) (λ y. rw (g, y)) (λ n. contra (act_alone (act_of tb line) n) (rw g at e)))
      (λ g. rw g)

  -- an offer that another thread answers goes ahead
  pub met_ahead : (d : Direction) (c u : ℕ) → offers_at tb (thread s t) d c i ≡ true → u < max_threads → answers tb s t (opposite d) c u ≡ true
      → ahead tb s t i ≡ true
  unfolding offers_at offers_in ahead branch_move
  met_ahead d c u e h f =
      let m : act_of tb line ≡ Meeting d = meets_is (act_of tb line) d (and_left _ _ e) in
      let r : (eqb channel_at c && guard_holds tb line (thread s t)) ≡ true = and_right (meets? (act_of tb line) d) _ e in
      let q : channel_at ≡ c = eqb-true channel_at c (and_left (eqb channel_at c) _ r) in
      let g : guard_holds tb line (thread s t) ≡ true = and_right (eqb channel_at c) _ r in
      rw (g, m) (act_met d ∙ rw q (some_intro (answers tb s t (opposite d) c) max_threads u h f))

  -- and a branch that goes ahead, but not alone, is such an offer
  abbrev Met : Type 0
  Met = (d : Direction) × (c : ℕ) × (u : ℕ) × (offers_at tb (thread s t) d c i ≡ true) × (u < 64) × (answers tb s t (opposite d) c u ≡ true)

  meeting_met : (d : Direction) → act_of tb line ≡ Meeting d → guard_holds tb line (thread s t) ≡ true → ahead tb s t i ≡ true → Met
  unfolding offers_at offers_in ahead branch_move
  meeting_met d m g e =
      let (u, l, y) = some_elim (answers tb s t (opposite d) channel_at) max_threads (sym (act_met d) ∙ (rw (g, m) at e)) in
      (d, channel_at, u, rw (m, g, meets_own d, eq-eqb channel_at channel_at refl), l, y)

  pub ahead_met : ahead tb s t i ≡ true → branch_held tb s t i ≡ true → Met
  unfolding ahead branch_move branch_held held_back goes_ahead
  ahead_met e f = case_b (guard_holds tb line (thread s t))
      (λ g. let (d, m) = partner_is (act_of tb line) (rw g at f) in meeting_met d m g e)
      (λ n. contra (rw n at e) refl)

-- ---- who offers

other_answers : (tb : Table) (s : State) (t : ℕ) (d : Direction) (c u : ℕ) → u ≢ t → offers tb (thread s u) d c ≡ true → answers tb s t d c u ≡ true
unfolding answers
other_answers tb s t d c u n o = rw (ne_eqb u t n) o

module _ (tb : Table) (s : State) where
  abbrev offering : Direction → ℕ → ℕ → Bool
  offering d c u = offers tb (thread s u) d c

  who_means : (d : Direction) (c : ℕ) → Note (offering d c) max_threads (who tb s d max_threads c)
  unfolding who
  who_means d c = note_means (offering d c) 64 (omega arith)

  abbrev none_conflict : Bool
  none_conflict = every (λ c. apart (who tb s Out 64 c) (who tb s In 64 c)) max_channels

  offers_channel : (d : Direction) (c u : ℕ) → offering d c u ≡ true → c < max_channels
  unfolding offers
  offers_channel d c u e = ltb-true c 128 (and_left (ltb c 128) _ e)

  -- two threads in conflict: the one sends, the other receives
  conflicts : (c : ℕ) → none_conflict ≡ true → Conflict (offering Out c) (offering In c) max_threads → ⊥
  conflicts c e k =
      is_apart (offering Out c) (offering In c) 64 (omega arith) (who tb s Out 64 c) (who tb s In 64 c) (who_means Out c) (who_means In c)
      (every_elim (λ c. apart (who tb s Out 64 c) (who tb s In 64 c)) max_channels c e (offers_channel Out c k.one k.one_passes)) k

  -- so no thread that offers d on c is answered
  unanswered : (d : Direction) (c t u : ℕ) → none_conflict ≡ true → t < max_threads → u < max_threads → offering d c t ≡ true
      → answers tb s t (opposite d) c u ≡ true → ⊥
  unfolding answers opposite
  unanswered Out c t u e h j o a =
      conflicts c e (record { one = t; other = u; one_below = h; other_below = j; differ = λ q. eqb-false u t (not-true _ (and_left _ _ a)) (sym q); one_passes = o; other_passes = and_right (not (eqb u t)) _ a })
  unanswered In c t u e h j o a =
      conflicts c e (record { one = u; other = t; one_below = j; other_below = h; differ = eqb-false u t (not-true _ (and_left _ _ a)); one_passes = and_right (not (eqb u t)) _ a; other_passes = o })

  module _ (t : ℕ) where
    abbrev node : ℕ
    node = stands_at (thread s t)

    -- a thread that waits rightly could not go ahead alone
    rightly_alone : waits_rightly tb s t ≡ true → waits_alone tb s t ≡ true
    unfolding waits_rightly waits_alone
    rightly_alone e = case_b (is_waiting (thread s t))
        (λ w. let f : (eqb (kind_of tb node) 1 && every (λ i. not (ahead tb s t i)) (branch_count tb node)) ≡ true = rw w at e in
        rw (w, and_left (eqb (kind_of tb node) 1) _ f)
        (every_intro (branch_held tb s t) (branch_count tb node)
        (λ i h. held_back_lem tb s t i (not-true _ (every_elim (λ i. not (ahead tb s t i)) (branch_count tb node) i (and_right (eqb (kind_of tb node) 1) _ f) h)))))
        (λ n. rw n)

    -- nor with a partner
    rightly_unmet : (d : Direction) (c u : ℕ) → waits_rightly tb s t ≡ true → offering d c t ≡ true → u < max_threads → answers tb s t (opposite d) c u ≡ true → ⊥
    unfolding waits_rightly offers
    rightly_unmet d c u e o h a =
        let o₁ : (is_waiting (thread s t) && some (offers_at tb (thread s t) d c) (branch_count tb node)) ≡ true = and_right (ltb c max_channels) _ o in
        let w : is_waiting (thread s t) ≡ true = and_left (is_waiting (thread s t)) _ o₁ in
        let f : (eqb (kind_of tb node) 1 && every (λ i. not (ahead tb s t i)) (branch_count tb node)) ≡ true = rw w at e in
        let (i, l, y) = some_elim (offers_at tb (thread s t) d c) (branch_count tb node) (and_right (is_waiting (thread s t)) _ o₁) in
        contra (met_ahead tb s t i d c u y h a) (not-true _ (every_elim (λ i. not (ahead tb s t i)) (branch_count tb node) i (and_right (eqb (kind_of tb node) 1) _ f) l))

    -- a thread that could not go ahead alone, in a state without conflicts, waits rightly
    open_offer : (d : Direction) (c i : ℕ) → c < max_channels → i < branch_count tb node → is_waiting (thread s t) ≡ true
        → offers_at tb (thread s t) d c i ≡ true → offering d c t ≡ true
    unfolding offers
    open_offer d c i b l w y = rw (lt-ltb c 128 b, w) (some_intro (offers_at tb (thread s t) d c) (branch_count tb node) i l y)

    answers_channel : (d : Direction) (c u : ℕ) → answers tb s t d c u ≡ true → c < max_channels
    unfolding answers
    answers_channel d c u a = offers_channel d c u (and_right (not (eqb u t)) _ a)

    still_met : (i : ℕ) → t < max_threads → none_conflict ≡ true → i < branch_count tb node → is_waiting (thread s t) ≡ true → branch_held tb s t i ≡ true
        → ahead tb s t i ≡ true → ⊥
    still_met i h k l w b a =
        let (d, c, u, y, j, x) = ahead_met tb s t i a b in
        unanswered d c t u k h j (open_offer d c i (answers_channel (opposite d) c u x) l w y) x

    alone_rightly : t < max_threads → waits_alone tb s t ≡ true → none_conflict ≡ true → waits_rightly tb s t ≡ true
    unfolding waits_rightly waits_alone
    alone_rightly h e k = case_b (is_waiting (thread s t))
        (λ w. let f : (eqb (kind_of tb node) 1 && every (branch_held tb s t) (branch_count tb node)) ≡ true = rw w at e in
        rw (w, and_left (eqb (kind_of tb node) 1) _ f)
        (every_intro (λ i. not (ahead tb s t i)) (branch_count tb node)
        (λ i l. case_b (ahead tb s t i)
        (λ a. absurd (still_met i h k l w (every_elim (branch_held tb s t) (branch_count tb node) i (and_right (eqb (kind_of tb node) 1) _ f) l) a))
        (λ a. rw a))))
        (λ n. rw n)

  -- where all wait rightly, no channel has a sender and a receiver that are two threads
  rightly_apart : (c : ℕ) → every (waits_rightly tb s) max_threads ≡ true → apart (who tb s Out max_threads c) (who tb s In max_threads c) ≡ true
  unfolding opposite
  rightly_apart c e = case_b (apart (who tb s Out 64 c) (who tb s In 64 c))
      (λ y. y)
      (λ n. absurd (in_conflict
      (not_apart (offering Out c) (offering In c) 64 (omega arith) (who tb s Out 64 c) (who tb s In 64 c) (who_means Out c) (who_means In c) n)))
    where
      in_conflict : Conflict (offering Out c) (offering In c) max_threads → ⊥
      in_conflict k = rightly_unmet k.other In c k.one (every_elim (waits_rightly tb s) max_threads k.other e k.other_below) k.other_passes k.one_below
          (other_answers tb s k.other (opposite In) c k.one k.differ k.one_passes)

  pub waits_law : every (waits_rightly tb s) max_threads ≡ (every (waits_alone tb s) max_threads && none_conflict)
  waits_law = same_truth (every (waits_rightly tb s) max_threads) (every (waits_alone tb s) max_threads && none_conflict)
      (λ e. rw (every_intro (waits_alone tb s) max_threads (λ t h. rightly_alone t (every_elim (waits_rightly tb s) max_threads t e h)))
      (every_intro (λ c. apart (who tb s Out 64 c) (who tb s In 64 c)) max_channels (λ c h. rightly_apart c e)))
      (λ e. every_intro (waits_rightly tb s) max_threads
      (λ t h. alone_rightly t h (every_elim (waits_alone tb s) max_threads t (and_left (every (waits_alone tb s) max_threads) _ e) h) (and_right (every (waits_alone tb s) max_threads) _ e)))
