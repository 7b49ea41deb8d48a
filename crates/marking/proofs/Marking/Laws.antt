-- Marks that a round leaves as they are, are those of the enabled threads. Assumes nothing.
use Prim.Native.Nat.{ℕ, ◌+◌, ◌≤◌, ◌<◌}
use Rattle.std.proofs.Common.{arith, ◌∙◌, ap, length-set, get_or-set_same, get_or-set_other, ext_get_or}
use Rattle.std.specs.Prelude.{◌≡◌, refl, ◌&&◌, ◌||◌, List, eqb, set, replicate}
use Rattle.std.proofs.Math.Path.{sym}
use Rattle.std.proofs.Math.Bool.{Bool, true, false, not, or-false, or_assoc}
use Rattle.std.proofs.Math.Logic.{inl, inr, ⊎_elim}
use Rattle.std.proofs.Math.Dec.{ltb}
use Rattle.std.proofs.Math.ListN.{length, get_or, get_or-eq_default}
use Rattle.std.proofs.lemmas.Bool.{or_cases, or_right, or_parts}
use Rattle.std.proofs.lemmas.List.{length-replicate, get_or-replicate}
use borrow.Author.Tests.{ltb-true, ltb-false, lt-ltb, eqb-true, eqb-false}
use Rattle.numbers.specs.Count.{bit, count}
use Rattle.numbers.specs.Count.Laws.{replaced}
use Rattle.numbers.specs.Search.{some}
use Rattle.numbers.specs.Search.Laws.{case_b, contra, same_truth, some_elim, some_intro, some_void, get_d_tabulate, length_tabulate}
use Rattle.numbers.specs.Tests.{and_left, and_right}
use Rattle.table.specs.Table.{Table, ports}
use Rattle.state.specs.State.{State, max_threads, max_channels, thread, in_use, is_ready}
use Rattle.rules.specs.Holding.{holds}
use Rattle.rules_laws.specs.Reading.Laws.{offers_elim}
use Rattle.threads.specs.Threads.{offers_marked, with_held}
use Rattle.threads.specs.Threads.Laws.{marked_offer, offer_marked}
use Rattle.marking.specs.Rounds.{marked}
use Rattle.marking.specs.Enabled.{nobody, Enabled, is_ready_lem, joins, begins, rounds, enabled_set}
use Rattle.marking.proofs.Enabled.Laws.{Known, Joins, joins_elim, joins_intro, joins_enabled, enabled_closed, enabled_iff}
use Rattle.marking.specs.Marking.{ports_to, unmarked, comes, marked_if, known_if, Still, Marking}

-- ---- a thread that is not marked joins by the marks where it does by the known channels

module _ (tb : Table) (s : State) (m k : List Bool) (g : Marking tb s m k) where
  module _ (t : ℕ) (n : marked m t ≡ false) where
    -- the channels that are known are those that the bench holds, or another thread that is marked
    known_held : (c : ℕ) → c < max_channels → get_or k c false ≡ true → Known tb s nobody m t c
    unfolding Known
    known_held c l e =
        let p : ℕ → Bool = λ u. marked m u && holds tb (thread s u) c in
        ⊎_elim (λ y. inl (ltb-true c (ports tb) y))
        (λ y. let (u, b, h) = some_elim p max_threads y in
        let x : marked m u ≡ true = and_left (marked m u) (holds tb (thread s u) c) h in
        inr (u, b, (λ q. contra (rw q at x) n), x, and_right (marked m u) (holds tb (thread s u) c) h))
        (or_cases (ltb c (ports tb)) (some p max_threads) (sym (g.held c l) ∙ e))

    held_known : (c : ℕ) → c < max_channels → Known tb s nobody m t c → get_or k c false ≡ true
    unfolding Known
    held_known c l (inl p) = g.held c l ∙ rw (lt-ltb c (ports tb) p)
    held_known c l (inr (u, b, d, x, h)) =
        let p : ℕ → Bool = λ u. marked m u && holds tb (thread s u) c in
        g.held c l ∙ or_right (ltb c (ports tb)) (some p max_threads) (some_intro p max_threads u b (rw (x, h)))

    joins_same : offers_marked tb (thread s t) k ≡ joins tb s nobody m t
    unfolding Joins
    joins_same =
        same_truth (offers_marked tb (thread s t) k) (joins tb s nobody m t)
        (λ e. let (d, c, l, x, o) = marked_offer tb (thread s t) k e in joins_intro tb s nobody m t (inr (d, c, o, known_held c l x)))
        (λ e. ⊎_elim (λ y. contra y n)
        (λ (d, c, o, x). offer_marked tb (thread s t) k d c o (held_known c (offers_elim tb (thread s t) d c o).channel_in x))
        (joins_elim tb s nobody m t e))

    comes_is : comes tb s m k t ≡ (is_ready (thread s t) || joins tb s nobody m t)
    unfolding comes
    comes_is = rw (n, joins_same)

  -- ---- a visit keeps the marks right

  comes_unmarked : (t : ℕ) → comes tb s m k t ≡ true → marked m t ≡ false
  unfolding comes
  comes_unmarked t e = case_b (marked m t) (λ y. contra (rw y at e) refl) (λ y. y)

  comes_enabled : (t : ℕ) → t < max_threads → comes tb s m k t ≡ true → Enabled tb s nobody t
  comes_enabled t l e =
      ⊎_elim (λ r. is_ready_lem l r) (λ j. joins_enabled tb s nobody m g.only_enabled t l j)
      (or_cases (is_ready (thread s t)) (joins tb s nobody m t) (sym (comes_is t (comes_unmarked t e)) ∙ e))

  module _ (t : ℕ) (l : t < max_threads) (e : comes tb s m k t ≡ true) where
    here : marked (set m t true) t ≡ true
    here = get_or-set_same m t true false (omega (arith, g.all_threads))

    more_enabled : (u : ℕ) → marked (set m t true) u ≡ true → Enabled tb s nobody u
    more_enabled u h =
        case_b (eqb u t)
        (λ y. let q : u ≡ t = eqb-true u t y in rw q (comes_enabled t l e))
        (λ y. g.only_enabled u (sym (get_or-set_other m t u true false (eqb-false u t y)) ∙ h))

    still_marked : (u : ℕ) → marked m u ≡ true → marked (set m t true) u ≡ true
    still_marked u h =
        case_b (eqb u t)
        (λ y. let q : u ≡ t = eqb-true u t y in rw q here)
        (λ y. get_or-set_other m t u true false (eqb-false u t y) ∙ h)

    more_held : (c : ℕ) → c < max_channels
        → get_or (with_held tb (thread s t) k) c false ≡ (ltb c (ports tb) || some (λ u. marked (set m t true) u && holds tb (thread s u) c) max_threads)
    unfolding with_held
    more_held c i =
        let p : ℕ → Bool = λ u. marked m u && holds tb (thread s u) c in
        let q : ℕ → Bool = λ u. marked (set m t true) u && holds tb (thread s u) c in
        get_d_tabulate max_channels c (λ c. get_or k c false || holds tb (thread s t) c) false i ∙ rw (g.held c i, or_assoc (ltb c (ports tb)) (some p max_threads) (holds tb (thread s t) c))
        (ap (λ (z : Bool). ltb c (ports tb) || z)
        (same_truth (some p max_threads || holds tb (thread s t) c) (some q max_threads)
        (λ y. ⊎_elim
        (λ z. let (u, b, h) = some_elim p max_threads z in
        some_intro q max_threads u b (rw (still_marked u (and_left (marked m u) (holds tb (thread s u) c) h), and_right (marked m u) (holds tb (thread s u) c) h)))
        (λ z. some_intro q max_threads t l (rw here z))
        (or_cases (some p max_threads) (holds tb (thread s t) c) y))
        (λ y. let (u, b, h) = some_elim q max_threads y in
        case_b (eqb u t)
        (λ z. let x : u ≡ t = eqb-true u t z in
        or_right (some p max_threads) (holds tb (thread s t) c) (rw x at (and_right (marked (set m t true) u) (holds tb (thread s u) c) h)))
        (λ z. let x : p u ≡ true = sym (rw (get_or-set_other m t u true false (eqb-false u t z))) ∙ h in rw (some_intro p max_threads u b x)))))

    marked_more : Marking tb s (set m t true) (with_held tb (thread s t) k)
    marked_more = record {
      all_threads = length-set m t true ∙ g.all_threads;
      only_enabled = more_enabled;
      held = more_held;
    }

    fewer : unmarked (set m t true) + 1 ≡ unmarked m
    unfolding unmarked bit
    fewer =
        let h : t < length m = omega (arith, g.all_threads) in
        let r : count not (set m t true) + bit (not (get_or m t false)) ≡ count not m + bit (not true) = replaced not m t true false h in
        let r' : count not (set m t true) + 1 ≡ count not m + 0 = rw (comes_unmarked t e) at r in
        omega (arith, r')

-- ---- the laws of the loops

none_set : (n i : ℕ) → get_or (replicate n false) i false ≡ false
none_set n i =
    case_b (ltb i n)
    (λ y. get_or-replicate n i false false (ltb-true i n y))
    (λ y. get_or-eq_default (replicate n false) false {n = i} (omega (arith, ltb-false i n y, length-replicate {A = Bool} n false)))

or_bit : (a r : Bool) → bit (a || r) ≤ bit a + bit r
unfolding bit
or_bit true true = omega arith
or_bit true false = omega arith
or_bit false true = omega arith
or_bit false false = omega arith

-- nobody is marked at first, and the ports are known
pub marking_none : (tb : Table) (s : State) (m k : List Bool) → m ≡ replicate max_threads false → k ≡ ports_to (ports tb) → Marking tb s m k
unfolding ports_to
marking_none tb s m k e f = rw (e, f) (record {
  all_threads = length-replicate {A = Bool} 64 false;
  only_enabled = λ u h. contra h (none_set 64 u);
  held = λ c l. get_d_tabulate max_channels c (λ c. ltb c (ports tb)) false l
      ∙ rw (some_void (λ u. marked (replicate 64 false) u && holds tb (thread s u) c) max_threads (λ u h. rw (none_set 64 u))) (sym (or-false (ltb c (ports tb))));
})

-- r: whether thread t comes, and m', k' the marks and the known channels after it was visited
module _ (tb : Table) (s : State) (m k m' k' : List Bool) (t : ℕ) (r : Bool) (e : m' ≡ marked_if r m t) (f : k' ≡ known_if r tb (thread s t) k)
    (h : r ≡ comes tb s m k t) where
  pub marking_more : Marking tb s m k → t < max_threads → Marking tb s m' k'
  unfolding marked_if known_if
  marking_more g l =
      rw (e, f, h) (case_b (comes tb s m k t) (λ y. rw y (marked_more tb s m k g t l y)) (λ y. rw y g))

  unmarked_more : Marking tb s m k → t < max_threads → unmarked m' + bit r ≤ unmarked m
  unfolding marked_if bit
  unmarked_more g l =
      rw (e, h) (case_b (comes tb s m k t)
      (λ y. rw y (omega (arith, fewer tb s m k g t l y)))
      (λ y. rw y (omega arith)))

  -- a: whether a thread before t was marked
  module _ (a x : Bool) (j : x ≡ (a || r)) where
    pub still_more : (a ≡ false → Still tb s m k t) → x ≡ false → Still tb s m' k' (t + 1)
    unfolding Still marked_if known_if
    still_more g z =
        let (p, q) = or_parts a r (sym j ∙ z) in
        let n : comes tb s m k t ≡ false = sym h ∙ q in
        rw (e, f, q) (λ u l. case_b (eqb u t)
        (λ y. let i : u ≡ t = eqb-true u t y in rw i n)
        (λ y. g p u (omega (arith, eqb-false u t y))))

    pub fewer_more : (n : ℕ) → Marking tb s m k → t < max_threads → unmarked m + bit a ≤ n → unmarked m' + bit x ≤ n
    fewer_more n g l b = let o = or_bit a r in rw j (omega (arith, unmarked_more g l, o))

-- before the first thread, and after the last
module _ (tb : Table) (s : State) (m k : List Bool) where
  pub still_none : Still tb s m k 0
  unfolding Still
  still_none t l = absurd (omega arith)

  pub still_all : (a : Bool) (t : ℕ) → (a ≡ false → Still tb s m k t) → a ≡ false → t ≤ max_threads → max_threads ≤ t → Still tb s m k max_threads
  still_all a t g e h i = let q : t ≡ 64 = omega arith in rw q at (g e)

pub fewer_none : (m : List Bool) → unmarked m + bit false ≤ unmarked m
unfolding bit
fewer_none m = omega arith

-- a round that marks somebody leaves fewer to be marked
pub fewer_marked : (x y : ℕ) (r : Bool) → y + bit r ≤ x → r ≡ true → y < x
unfolding bit
fewer_marked x y r h e = let k : y + 1 ≤ x = rw e at h in omega arith

-- what is left, with one more while a round is due, becomes less in a round that was due
pub fewer_left : (x y : ℕ) (a r : Bool) → y + bit r ≤ x → a ≡ true → y + bit r < x + bit a
unfolding bit
fewer_left x y a r h e = rw e (omega arith)

-- a round that marks nobody ends the marking
module _ (tb : Table) (s : State) (m k : List Bool) (g : Marking tb s m k) (st : Still tb s m k 64) where
  unmarked_comes : (t : ℕ) → t < max_threads → (is_ready (thread s t) || joins tb s nobody m t) ≡ true → marked m t ≡ true
  unfolding Still
  unmarked_comes t l e = case_b (marked m t) (λ y. y) (λ n. contra (comes_is tb s m k g t n ∙ e) (st t l))

  begins_ready : (t : ℕ) → begins tb s nobody t ≡ true → is_ready (thread s t) ≡ true
  unfolding begins nobody
  begins_ready t e = ⊎_elim (λ y. y) (λ y. contra (and_right (in_use (thread s t)) false y) refl) (or_cases (is_ready (thread s t)) (in_use (thread s t) && false) e)

  marked_enabled : {t : ℕ} → Enabled tb s nobody t → marked m t ≡ true
  marked_enabled e =
      enabled_closed tb s nobody m
      (λ t l y. unmarked_comes t l (rw (begins_ready t y)))
      (λ t l y. unmarked_comes t l (or_right (is_ready (thread s t)) (joins tb s nobody m t) y)) e

  set_long : length (enabled_set tb s nobody) ≡ max_threads
  unfolding enabled_set rounds
  set_long = length_tabulate 64 (joins tb s nobody (rounds tb s nobody 63))

  marking_done : m ≡ enabled_set tb s nobody
  marking_done =
      ext_get_or false m (enabled_set tb s nobody) (g.all_threads ∙ sym set_long)
      (λ u l. same_truth (marked m u) (marked (enabled_set tb s nobody) u)
      (λ y. (enabled_iff tb s nobody u).1 (g.only_enabled u y))
      (λ y. marked_enabled ((enabled_iff tb s nobody u).0 y)))

-- after the last round
pub marking_end : (tb : Table) (s : State) (m k : List Bool) (a : Bool) → Marking tb s m k → (a ≡ false → Still tb s m k 64) → a ≡ false
    → m ≡ enabled_set tb s nobody
marking_end tb s m k a g h e = marking_done tb s m k g (h e)

-- before the first
pub no_rounds : (tb : Table) (s : State) (m k : List Bool) → true ≡ false → Still tb s m k max_threads
no_rounds tb s m k e = contra refl e
