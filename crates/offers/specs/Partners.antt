-- What an offer and a partner that is found say of the state, and which partner is found. Assumes nothing.
use Rattle.rules.specs.Answers.{Partner}
use Rattle.std.specs.Prelude.{ℕ, ◌<◌, ◌≡◌, true, not, ◌&&◌, List, ◌≢◌, ltb, eqb, None, Some}
use Rattle.std.proofs.Math.Path.{refl, sym}
use Rattle.std.proofs.Common.{◌∙◌}
use borrow.Author.Tests.{lt-ltb, ltb-true, eq-eqb}
use Rattle.numbers.specs.Search.{first, some}
use Rattle.numbers.specs.Search.Laws.{case_b, contra, first_hit, first_passes}
use Rattle.numbers.specs.Tests.{and_left, and_right}
use Rattle.table.specs.Table.{Table}
use Rattle.table.specs.Layout.{branch_count}
use Rattle.state.specs.State.{State, max_threads, max_channels, thread, stands_at, is_waiting}
use Rattle.rules.specs.Offers.{offers_at, offering_branch, offers, answers, answering, partner_of}
use Rattle.rules.specs.declared.Direction.{Direction}

-- a thread that offers waits, on a channel, and its offering branch is one of its branches and offers
pub offers_says : (tb : Table) (row : List ℕ) (d : Direction) (c : ℕ) → offers tb row d c ≡ true
    → (c < max_channels)
    × (is_waiting row ≡ true)
    × (offering_branch tb row d c < branch_count tb (stands_at row))
    × (offers_at tb row d c (offering_branch tb row d c) ≡ true)
unfolding offers some offering_branch
offers_says tb row d c e =
    let n = branch_count tb (stands_at row) in
    let p = offers_at tb row d c in
    let f = and_right (ltb c max_channels) (is_waiting row && ltb (first p n) n) e in
    let l = ltb-true (first p n) n (and_right (is_waiting row) (ltb (first p n) n) f) in
    (ltb-true c max_channels (and_left (ltb c max_channels) _ e), and_left (is_waiting row) _ f, l, first_passes p n l)

module _ (tb : Table) (s : State) (t : ℕ) (d : Direction) (c : ℕ) where
  -- thread u is another than t and offers d on c, first through its branch j
  abbrev pub OffersBy : ℕ → ℕ → Type 0
  OffersBy u j =
      (u < max_threads)
      × (u ≢ t)
      × (offers tb (thread s u) d c ≡ true)
      × (j ≡ offering_branch tb (thread s u) d c)
      × (j < branch_count tb (stands_at (thread s u)))

  -- what is said of an answer to the search
  unfoldable Answered : Partner → Type 0
  Answered None = Unit {0}
  Answered (Some (u, j)) = OffersBy u j

  answering_in : answering tb s t d c < max_threads → OffersBy (answering tb s t d c) (offering_branch tb (thread s (answering tb s t d c)) d c)
  unfolding answering answers
  answering_in h =
      let u = first (answers tb s t d c) max_threads in
      let a = first_passes (answers tb s t d c) max_threads h in
      let n = and_left (not (eqb u t)) (offers tb (thread s u) d c) a in
      let o = and_right (not (eqb u t)) (offers tb (thread s u) d c) a in
      let (l, w, b, p) = offers_says tb (thread s u) d c o in
      (h, (λ q. contra n (rw (eq-eqb u t q))), o, refl, b)

  partner_answered : Answered (partner_of tb s t d c)
  unfolding partner_of Answered
  partner_answered =
      case_b (ltb (answering tb s t d c) max_threads) (λ a. rw a (answering_in (ltb-true (answering tb s t d c) max_threads a))) (λ a. rw a tt)

  pub partner_in : (u j : ℕ) → partner_of tb s t d c ≡ Some (u, j) → OffersBy u j
  unfolding Answered
  partner_in u j e = let h : Answered (Some (u, j)) = rw e at partner_answered in h

  -- its bound, as it is needed where p was answered and matched
  pub partner_below : (p : Partner) (u j : ℕ) → p ≡ partner_of tb s t d c → p ≡ Some (u, j) → u < max_threads
  partner_below p u j e f = let (l, o, a, b, g) = partner_in u j (sym e ∙ f) in l

  -- none of the threads answers
  pub none_answers : first (answers tb s t d c) max_threads ≡ max_threads → None ≡ partner_of tb s t d c
  unfolding partner_of answering
  none_answers e = rw e

  -- thread u answers, and none before it
  pub one_answers : (u : ℕ) → first (answers tb s t d c) u ≡ u → answers tb s t d c u ≡ true → u < max_threads
      → Some (u, offering_branch tb (thread s u) d c) ≡ partner_of tb s t d c
  unfolding partner_of answering
  one_answers u past a l =
      let q : first (answers tb s t d c) max_threads ≡ u = sym (first_hit (answers tb s t d c) u max_threads (answers tb s t d c u) past refl a l) in
      rw (q, lt-ltb u max_threads l)
