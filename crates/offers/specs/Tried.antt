-- The search for a partner as its loops make it: how many branches of a thread are tried, and from which row on. `answers_tried` and `row_tried`
-- carry these back to the rules' own definitions. Assumes nothing.
use Rattle.std.specs.Prelude.{ℕ, ◌+◌, ◌<◌, ◌≤◌, ◌≡◌, refl, Bool, true, cond, ltb, None, Some}
use native.Mathlib.Omega.{arith}
use Rattle.std.proofs.Common.{sym, ◌∙◌}
use Rattle.std.proofs.Math.Bool.{false}
use Rattle.std.proofs.Math.Dec.{eqb}
use borrow.Author.Tests.{lt-ltb, le-ltb, eq-eqb, ne_eqb}
use Rattle.numbers.specs.Rows.{at}
use Rattle.numbers.specs.Search.{first, some}
use Rattle.numbers.specs.Search.Laws.{case_b, first_none, first_more, first_hit, first_void, some_intro}
use Rattle.table.specs.Table.{Table, branch_row}
use Rattle.table.specs.Layout.{branch_count, start}
use Rattle.table.specs.declared.Part.TheVariants.{Branches}
use Rattle.state.specs.State.{State, max_threads, max_channels, thread, stands_at, is_waiting}
use Rattle.rules.specs.Program.{branch_at}
use Rattle.rules.specs.Offers.{offers_at, offering_branch, offers, answers, partner_of}
use Rattle.rules.specs.declared.Direction.{Direction}
use Rattle.offers.specs.Partners.{none_answers, one_answers}

-- the threads whose branches are tried
unfoldable pub is_waiting_thread : State → ℕ → Bool
is_waiting_thread s u = is_waiting (thread s u)

module _ (tb : Table) (s : State) where
  -- how many branches of thread u are tried for thread t: none of its own, and none of a thread that does not wait
  unfoldable pub tried : ℕ → ℕ → ℕ
  tried t u = cond (eqb u t) 0 (cond (is_waiting (thread s u)) (branch_count tb (stands_at (thread s u))) 0)

  -- the row of the first of n branches of thread u; 0 where n is 0
  unfoldable pub first_row : ℕ → ℕ → ℕ
  first_row u n = cond (eqb n 0) 0 (branch_row tb + start tb Branches (stands_at (thread s u)))

  -- the rows from there on are those of the branches
  pub row_tried : (u n i r : ℕ) → r ≡ first_row u n → i < n → r + i ≡ branch_at tb (stands_at (thread s u)) i
  unfolding first_row branch_at
  row_tried u n i r e l = let q : eqb n 0 ≡ false = ne_eqb n 0 (omega arith) in let f = rw q at e in omega arith

  -- a thread answers exactly if one of the branches tried does
  pub answers_tried : (t : ℕ) (d : Direction) (c u : ℕ) → c < max_channels
      → answers tb s t d c u ≡ some (offers_at tb (thread s u) d c) (tried t u)
  unfolding answers offers tried some
  answers_tried t d c u l =
      let none = first_none (offers_at tb (thread s u) d c) in
      rw (lt-ltb c max_channels l)
      (case_b (eqb u t) (λ e. rw (e, none)) (λ e. rw e (case_b (is_waiting (thread s u)) (λ w. rw w) (λ w. rw (w, none)))))

  -- a thread that does not wait does not answer
  pub only_waiting : (t : ℕ) (d : Direction) (c u : ℕ) → is_waiting_thread s u ≡ false → answers tb s t d c u ≡ false
  unfolding is_waiting_thread answers offers
  only_waiting t d c u w =
      rw w (case_b (eqb u t) (λ e. rw e) (λ e. rw e (case_b (ltb c max_channels) (λ l. rw l) (λ l. rw l))))

  -- where a branch is tried, all of the thread's branches are
  pub tried_all : (t u i : ℕ) → i < tried t u → tried t u ≡ branch_count tb (stands_at (thread s u))
  unfolding tried
  tried_all t u i l =
      case_b (eqb u t)
      (λ e. absurd (let z : i < 0 = rw e at l in omega arith))
      (λ e. rw e (case_b (is_waiting (thread s u)) (λ w. rw w) (λ w. absurd (let z : i < 0 = rw (e, w) at l in omega arith))))

-- the status of thread u was read as w
pub read_waiting : (s : State) (u w : ℕ) → w ≡ at s.threads u 0 → w ≡ 2 → is_waiting (thread s u) ≡ true
read_waiting s u w e g = rw (← e, g)

-- what was read of thread u
module _ (tb : Table) (s : State) (t u : ℕ) where
  pub tried_own : u ≡ t → 0 ≡ tried tb s t u
  unfolding tried
  tried_own f = rw (eq-eqb u t f)

  pub tried_other : is_waiting (thread s u) ≡ true → (u ≡ t → ⊥) → (n r : ℕ) → r ≡ branch_count tb n → n ≡ at s.threads u 1 → r ≡ tried tb s t u
  unfolding tried
  tried_other w f n r i h = rw (ne_eqb u t f, w, i, h)

  module _ (w : ℕ) (e : w ≡ at s.threads u 0) where
    pub tried_idle : (w ≡ 2 → ⊥) → 0 ≡ tried tb s t u
    unfolding tried
    tried_idle g = rw (← e, ne_eqb w 2 g) (case_b (eqb u t) (λ a. rw a) (λ a. rw a))

-- ---- what the loops have shown at each place

module _ (tb : Table) (s : State) (t : ℕ) (d : Direction) (c : ℕ) where
  -- what is no channel has no partner
  pub no_channel : max_channels ≤ c → None ≡ partner_of tb s t d c
  unfolding answers offers
  no_channel h =
      none_answers tb s t d c (first_void (answers tb s t d c) max_threads (λ u l. rw (le-ltb c 128 h) (case_b (eqb u t) (λ e. rw e) (λ e. rw e))))

  -- n branches of thread u are tried, and none below i offers
  module _ (u n i : ℕ) (b : n ≡ tried tb s t u) (g : first (offers_at tb (thread s u) d c) i ≡ i) where
    -- all were tried
    module _ (h : n ≤ i) (j : i ≤ n) (l : c < max_channels) where
      pub silent : answers tb s t d c u ≡ false
      unfolding some
      silent =
          let w : i ≡ n = omega arith in
          let all : first (offers_at tb (thread s u) d c) n ≡ n = rw w at g in
          rw (answers_tried tb s t d c u l, ← b, all) (le-ltb n n (omega arith))

      pub thread_passed : first (answers tb s t d c) u ≡ u → first (answers tb s t d c) (u + 1) ≡ u + 1
      thread_passed past = first_more (answers tb s t d c) u (answers tb s t d c u) past refl silent

    -- branch i offers
    module _ (x : Bool) (o : x ≡ offers_at tb (thread s u) d c i) (y : x ≡ true) (h : i < n) (l : c < max_channels) where
      answered : answers tb s t d c u ≡ true
      answered = rw (answers_tried tb s t d c u l, ← b) (some_intro (offers_at tb (thread s u) d c) n i h (sym o ∙ y))

      branch_is : offering_branch tb (thread s u) d c ≡ i
      unfolding offering_branch
      branch_is =
          let w : n ≡ branch_count tb (stands_at (thread s u)) = b ∙ tried_all tb s t u i (rw (← b) h) in
          rw (← w) (sym (first_hit (offers_at tb (thread s u) d c) i n x g o y h))

      pub found_at : first (answers tb s t d c) u ≡ u → u < max_threads → Some (u, i) ≡ partner_of tb s t d c
      found_at past m = rw (← branch_is) (one_answers tb s t d c u past answered m)
