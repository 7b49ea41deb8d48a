-- What the search for a partner has shown at each place. Assumes nothing.
use Rattle.std.specs.Prelude.{None, Option, Some}
use Rattle.rules.specs.Answers.{Partner}
use Prim.Native.Nat.{ℕ, ◌+◌, ◌-◌, ◌<◌, ◌≤◌}
use native.Mathlib.Omega.{arith}
use mathlib.Core.Path.{◌≡◌, refl, sym, ◌∙◌}
use mathlib.Core.Bool.{Bool, true, false, not}
use mathlib.Core.List.{List}
use lib.Dec.{ltb, eqb}
use borrow.Author.Tests.{ltb-true, ltb-false, eqb-true, eq-eqb}
use Rattle.numbers.specs.Search.{first}
use Rattle.numbers.specs.Search.Laws.{case_b, contra, first_more, first_below, first_void, first_rest, some_intro}
use Rattle.numbers.specs.Tests.{and_right}
use Rattle.table.specs.Table.{Table}
use Rattle.state.specs.State.{State, max_threads, thread, is_waiting, max_channels, stands_at}
use Rattle.rules.specs.Program.{opposite, same, branch_at}
use Rattle.rules.specs.Offers.{offers_in, offers_at, offers, answers, partner_of}
use Rattle.rules.specs.Moves.{first_from}
use Rattle.rules.specs.declared.Direction.{Direction}
use Rattle.offers.specs.Apart.{Apart}
use Rattle.next_rows.specs.Around.{from_ge, from_before, from_passes}
use Rattle.offers.specs.Partners.{none_answers}
use Rattle.offers.specs.Offer.{offer_on, is_of}
use Rattle.offers.specs.Offer.Laws.{same_other, offers_in_lem}
use Rattle.offers.specs.Seen.{seen_as, seen_in}
use Rattle.next_rows.specs.UsedBelow.{UsedBelow, top_le, free_from}
use Rattle.offers.specs.Tried.{is_waiting_thread, tried, first_row, row_tried, answers_tried, only_waiting, silent, found_at}
use Rattle.offers.specs.declared.Seen.{Seen}
use Rattle.offers.specs.declared.Seen.TheVariants.{Answers, Competes, Neither}

-- ---- what a branch was seen to be

unfoldable answers? : Seen → Bool
answers? Answers = true
answers? Competes = false
answers? Neither = false

unfoldable competes? : Seen → Bool
competes? Answers = false
competes? Competes = true
competes? Neither = false

seen_answering : (o : Option Direction) (d : Direction) → answers? (seen_as o d) ≡ is_of o d
unfolding answers? seen_as is_of
seen_answering None d = refl
seen_answering (Some e) d = case_b (same e d) (λ y. rw y) (λ n. rw n)

seen_competing : (o : Option Direction) (d : Direction) → competes? (seen_as o d) ≡ true → is_of o (opposite d) ≡ true
unfolding competes? seen_as is_of
seen_competing None d h = contra h refl
seen_competing (Some e) d h = case_b (same e d) (λ y. contra h (rw y)) (λ n. same_other e d n)

module _ (tb : Table) (row : List ℕ) (d : Direction) (c r : ℕ) (v : Seen) (e : v ≡ seen_in tb row d c r) where
  answers_is : answers? v ≡ offers_in tb row d c r
  unfolding seen_in
  answers_is = rw e (seen_answering (offer_on tb row c r) d ∙ sym (offers_in_lem tb row c r d))

  competes_is : v ≡ Competes → offers_in tb row (opposite d) c r ≡ true
  unfolding seen_in competes?
  competes_is f =
      let g : competes? v ≡ true = rw f in
      offers_in_lem tb row c r (opposite d) ∙ seen_competing (offer_on tb row c r) d (rw e at g)

-- branch i, in row r, of the node at which a thread stands, was seen to be v
module _ (tb : Table) (row : List ℕ) (d : Direction) (c i node r : ℕ) (e : node ≡ stands_at row) (f : r ≡ branch_at tb node i) (v : Seen) (g : v ≡ seen_in tb row d c r) where
  seen_at : answers? v ≡ offers_at tb row d c i
  unfolding offers_at
  seen_at = rw (← e, ← f) (answers_is tb row d c r v g)

  pub at_answers : v ≡ Answers → true ≡ offers_at tb row d c i
  unfolding answers?
  at_answers h = rw h at seen_at

  pub at_competes : v ≡ Competes → false ≡ offers_at tb row d c i
  unfolding answers?
  at_competes h = rw h at seen_at

  pub at_neither : v ≡ Neither → false ≡ offers_at tb row d c i
  unfolding answers?
  at_neither h = rw h at seen_at

-- branch i of thread u, of which n are tried, in row r + i, was tried
module _ (tb : Table) (s : State) (d : Direction) (c u r i n : ℕ) (f : r ≡ first_row tb s u n) (v : Seen) (e : v ≡ seen_in tb (thread s u) d c (r + i)) (h : i < n) where
  offer_is : answers? v ≡ offers_at tb (thread s u) d c i
  unfolding offers_at
  offer_is = rw (← row_tried tb s u n i r f h) (answers_is tb (thread s u) d c (r + i) v e)

  -- it is not what is looked for
  passed : first (offers_at tb (thread s u) d c) i ≡ i → answers? v ≡ false → first (offers_at tb (thread s u) d c) (i + 1) ≡ i + 1
  passed g o = first_more (offers_at tb (thread s u) d c) i (answers? v) g offer_is o

  pub neither_passed : v ≡ Neither → first (offers_at tb (thread s u) d c) i ≡ i → first (offers_at tb (thread s u) d c) (i + 1) ≡ i + 1
  unfolding answers?
  neither_passed o g = passed g (rw o)

  pub competing_passed : v ≡ Competes → first (offers_at tb (thread s u) d c) i ≡ i → first (offers_at tb (thread s u) d c) (i + 1) ≡ i + 1
  unfolding answers?
  competing_passed o g = passed g (rw o)

  -- the thread offers the asker's own direction
  pub other_offered : v ≡ Competes → (t : ℕ) → n ≡ tried tb s t u → c < max_channels → offers tb (thread s u) (opposite d) c ≡ true
  unfolding answers offers_at
  other_offered o t b l =
      let w : offers_at tb (thread s u) (opposite d) c i ≡ true = rw (← row_tried tb s u n i r f h) (competes_is tb (thread s u) d c (r + i) v e o) in
      let a : answers tb s t (opposite d) c u ≡ true =
      rw (answers_tried tb s t (opposite d) c u l, ← b) (some_intro (offers_at tb (thread s u) (opposite d) c) n i h w) in
      and_right (not (eqb u t)) (offers tb (thread s u) (opposite d) c) a

module _ (tb : Table) (s : State) (t : ℕ) (d : Direction) (c : ℕ) where
  -- the threads from m up to the first that waits, r, are passed over
  pub threads_skipped : (n m r : ℕ) → r ≡ first_from n m (is_waiting_thread s) → first (answers tb s t d c) m ≡ m → first (answers tb s t d c) r ≡ r
  threads_skipped n m r e past =
      first_void (answers tb s t d c) r
      (λ k l. case_b (ltb k m)
      (λ y. first_below (answers tb s t d c) m k (rw past (ltb-true k m y)))
      (λ y. only_waiting tb s t d c k (from_before (is_waiting_thread s) m n r e k (ltb-false k m y) l)))

  -- no thread from top on answers
  answers_rest : (i top : ℕ) → first (answers tb s t d c) i ≡ i → top ≤ i → UsedBelow s top → first (answers tb s t d c) max_threads ≡ max_threads
  unfolding is_waiting_thread
  answers_rest i top e l used =
      first_rest (answers tb s t d c) i max_threads e (λ k j. only_waiting tb s t d c k (rw (free_from s top used k (omega arith))))

  pub nobody_is : (f : Partner) (u top : ℕ) → f ≡ None → first (answers tb s t d c) u ≡ u → top ≤ u → UsedBelow s top → f ≡ partner_of tb s t d c
  nobody_is f u top e past h k = e ∙ none_answers tb s t d c (answers_rest u top past h k)

  -- all threads were tried
  pub none_is : (f : Partner) (u : ℕ) → f ≡ None → first (answers tb s t d c) u ≡ u → max_threads ≤ u → u ≤ max_threads → f ≡ partner_of tb s t d c
  none_is f u e past h l = let q : u ≡ 64 = omega arith in e ∙ none_answers tb s t d c (rw q at past)

  module _ (u : ℕ) where
    -- it answers, and none before it does
    pub found_is : (r i n : ℕ) → r ≡ first_row tb s u n → (v : Seen) → v ≡ seen_in tb (thread s u) d c (r + i) → i < n
        → first (answers tb s t d c) u ≡ u → c < max_channels → n ≡ tried tb s t u
        → first (offers_at tb (thread s u) d c) i ≡ i → v ≡ Answers → (top : ℕ) → u < top → UsedBelow s top → Some (u, i) ≡ partner_of tb s t d c
    unfolding answers?
    found_is r i n f v e h past l b g o top m k =
        found_at tb s t d c u n i b g (answers? v) (offer_is tb s d c u r i n f v e h) (rw o) h l past (omega (arith, top_le s top k))

    -- no branch of thread u that is tried offers
    module _ (n i : ℕ) (b : n ≡ tried tb s t u) (g : first (offers_at tb (thread s u) d c) i ≡ i) (h : n ≤ i) (j : i ≤ n) (l : c < max_channels) where
      -- it offers the asker's own direction, so that no other thread offers what is looked for
      pub competing_ends : (o : Bool) → (o ≡ true → offers tb (thread s u) (opposite d) c ≡ true) → o ≡ true
          → Apart tb s.threads → (top : ℕ) → UsedBelow s top → u < top → None ≡ partner_of tb s t d c
      unfolding answers Apart
      competing_ends o k e apart top used m =
          let low : u < max_threads = omega (arith, top_le s top used) in
          none_answers tb s t d c (first_void (answers tb s t d c) max_threads
          (λ v q. case_b (answers tb s t d c v)
          (λ y. case_b (eqb v u)
          (λ z. let both : v ≡ u = eqb-true v u z in contra y (rw both (silent tb s t d c u n i b g h j l)))
          (λ z. absurd (apart v u q low (λ x. contra (eq-eqb v u x) z) d c (and_right (not (eqb v t)) (offers tb (thread s v) d c) y) (k e))))
          (λ y. y)))

-- ---- the next thread that waits

-- it waits
pub waits_here : (s : State) (n m r : ℕ) → r ≡ first_from n m (is_waiting_thread s) → r < n → is_waiting (thread s r) ≡ true
unfolding is_waiting_thread
waits_here s n m r e h = from_passes (is_waiting_thread s) m n r e h

pub waits_now : (s : State) (n u : ℕ) → (u < n → is_waiting (thread s u) ≡ true) → u < n → is_waiting (thread s u) ≡ true
waits_now s n u f h = f h

-- it comes after the thread that was tried
pub waiting_less : (s : State) (n u r : ℕ) → r ≡ first_from n (u + 1) (is_waiting_thread s) → u < n → r ≤ n → n - r < n - u
waiting_less s n u r e h l = omega (arith, from_ge (is_waiting_thread s) (u + 1) n r e (omega arith))
