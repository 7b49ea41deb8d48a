-- A thread waits rightly exactly where its move would be to wait: each of its branches with a true guard is then a meeting that no other thread
-- answers. Assumes nothing.
use Rattle.std.specs.Prelude.{ℕ, ◌<◌, ◌≡◌, refl, false, ◌&&◌, ◌≢◌, eqb, None}
use Rattle.std.proofs.Common.{arith, sym}
use Rattle.std.proofs.Math.Bool.{true, not}
use borrow.Author.Tests.{le-ltb, eqb-true, eqb-false, eq-eqb, not-true}
use Rattle.numbers.specs.Search.{every}
use Rattle.numbers.specs.Search.Laws.{case_b, contra, every_elim, every_intro, first_void}
use Rattle.numbers.specs.Tests.{parts}
use Rattle.table.specs.Table.{Table}
use Rattle.table.specs.Layout.{branch_count}
use Rattle.state.specs.State.{State, max_threads, thread, stands_at, is_waiting}
use Rattle.rules.specs.Program.{kind_of, branch_at, act_of, guard_holds, opposite}
use Rattle.rules.specs.Offers.{offers, answers, answering, partner_of}
use Rattle.rules.specs.Moves.{meeting, goes_ahead, act_move, branch_move, ahead, choice, move}
use Rattle.rules.specs.Sound.{waits_rightly}
use Rattle.rules.specs.declared.Direction.{Direction}
use Rattle.rules.specs.declared.Act.TheVariants.{Meeting}
use Rattle.rules.specs.declared.Move.TheVariants.{Waits}
use Rattle.rules_laws.specs.Reading.Laws.{offers_elim, offers_intro}
use Rattle.rules_laws.specs.Chosen.{channel_by, Open, Blocked, Chosen, chosen}
use Rattle.offers.specs.Apart.{Apart}
use Rattle.rules_laws.specs.Soundness.{Orderly}

module _ (tb : Table) (s : State) (t : ℕ) (d : Direction) (c : ℕ) where
  -- a thread that nobody answers has no partner
  none_answers : ((u : ℕ) → u < max_threads → u ≢ t → offers tb (thread s u) d c ≡ false)
      → (u : ℕ) → u < max_threads → answers tb s t d c u ≡ false
  unfolding answers
  none_answers h u l =
      case_b (eqb u t) (λ e. rw e) (λ f. rw (f, h u l (eqb-false u t f)))

  no_partner : ((u : ℕ) → u < max_threads → u ≢ t → offers tb (thread s u) d c ≡ false) → partner_of tb s t d c ≡ None
  unfolding partner_of answering
  no_partner h = rw (first_void (answers tb s t d c) max_threads (none_answers h))

module _ (tb : Table) (s : State) (t : ℕ) where
  abbrev branches : ℕ
  branches = branch_count tb (stands_at (thread s t))

  -- ---- from the test

  waits_move : kind_of tb (stands_at (thread s t)) ≡ 1 → ((i : ℕ) → i < branches → ahead tb s t i ≡ false) → move tb s t ≡ Waits
  unfolding move choice
  waits_move k h = rw (k, first_void (ahead tb s t) branches h, le-ltb branches branches (omega arith))

  waits_blocked : move tb s t ≡ Waits → Blocked tb s t
  unfolding Chosen
  waits_blocked e = let h : Chosen tb s t Waits = rw e at (chosen tb s t) in h

  -- a thread that waits, and passes the test, is blocked: nothing that it could do goes ahead
  pub rightly_blocked : is_waiting (thread s t) ≡ true → waits_rightly tb s t ≡ true → Blocked tb s t
  unfolding waits_rightly
  rightly_blocked w e =
      let h : (eqb (kind_of tb (stands_at (thread s t))) 1 && every (λ i. not (ahead tb s t i)) branches) ≡ true = rw w at e in
      let f : every (λ i. not (ahead tb s t i)) branches ≡ true = search parts in
      waits_blocked (waits_move (eqb-true (kind_of tb (stands_at (thread s t))) 1 (search parts))
      (λ i l. not-true (ahead tb s t i) (every_elim (λ i. not (ahead tb s t i)) branches i f l)))

  -- ---- to the test

  meeting_stays : (i : ℕ) (d : Direction) → guard_holds tb (branch_at tb (stands_at (thread s t)) i) (thread s t) ≡ true
      → act_of tb (branch_at tb (stands_at (thread s t)) i) ≡ Meeting d
      → partner_of tb s t (opposite d) (channel_by tb s t i) ≡ None → ahead tb s t i ≡ false
  unfolding ahead branch_move act_move meeting goes_ahead
  meeting_stays i d g e n = rw (g, e, n)

  guarded_stays : (i : ℕ) → guard_holds tb (branch_at tb (stands_at (thread s t)) i) (thread s t) ≡ false → ahead tb s t i ≡ false
  unfolding ahead branch_move goes_ahead
  guarded_stays i g = rw g

  module _ (b : Blocked tb s t) where
    open_stays : (i : ℕ) → i < branches → guard_holds tb (branch_at tb (stands_at (thread s t)) i) (thread s t) ≡ true → ahead tb s t i ≡ false
    open_stays i l g =
        let (d, e) = b.meeting_only i l g in
        meeting_stays i d g e (no_partner tb s t (opposite d) (channel_by tb s t i)
        (b.unanswered i d (record { at_choice = b.at_choice; branch_in = l; passes = g; does = e })))

    stays : (i : ℕ) → i < branches → not (ahead tb s t i) ≡ true
    stays i l =
        case_b (guard_holds tb (branch_at tb (stands_at (thread s t)) i) (thread s t)) (λ g. rw (open_stays i l g)) (λ g. rw (guarded_stays i g))

  -- a thread that is blocked where it waits passes the test of a thread that waits
  pub blocked_rightly : (is_waiting (thread s t) ≡ true → Blocked tb s t) → waits_rightly tb s t ≡ true
  unfolding waits_rightly
  blocked_rightly h =
      case_b (is_waiting (thread s t))
      (λ w. rw (w, eq-eqb (kind_of tb (stands_at (thread s t))) 1 (h w).at_choice, every_intro (λ i. not (ahead tb s t i)) branches (stays (h w))))
      (λ w. rw w)

-- ---- all threads

-- where each thread that waits is blocked, no two of them could meet; and the other way about, thread by thread
pub blocked_apart : (tb : Table) (s : State) → ((t : ℕ) → t < max_threads → is_waiting (thread s t) ≡ true → Blocked tb s t) → Apart tb s.threads
unfolding Apart
blocked_apart tb s h t u l m n d c e f =
    let o = offers_elim tb (thread s t) d c e in
    let b = h t l o.waits in
    let g = b.unanswered o.branch d (record { at_choice = b.at_choice; branch_in = o.branch_in; passes = o.passes; does = o.does }) u m (λ q. n (sym q)) in
    contra f (rw o.is at g)

module _ (tb : Table) (s : State) (o : Orderly tb s) (t : ℕ) (l : t < max_threads) (w : is_waiting (thread s t) ≡ true) where
  unanswered : (i : ℕ) (d : Direction) → Open tb s t i (Meeting d) → (u : ℕ) → u < max_threads → u ≢ t
      → offers tb (thread s u) (opposite d) (channel_by tb s t i) ≡ false
  unfolding Apart
  unanswered i d p u m n = let c = channel_by tb s t i in
      case_b (offers tb (thread s u) (opposite d) c)
      (λ e. absurd (o.apart t u l m (λ q. n (sym q)) d c
      (offers_intro tb (thread s t) d c (record {
        waits = w;
        channel_in = (offers_elim tb (thread s u) (opposite d) c e).channel_in;
        branch = i;
        branch_in = p.branch_in;
        passes = p.passes;
        does = p.does;
        is = refl;
      })) e))
      (λ f. f)

  pub orderly_blocked : Blocked tb s t
  orderly_blocked = record { at_choice = (o.row t l).waits_at w; meeting_only = (o.row t l).waits_for w; unanswered = unanswered }
