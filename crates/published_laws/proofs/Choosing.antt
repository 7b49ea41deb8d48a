-- Which of the partners that 002 allows the engine takes: the first commitment of the other direction on the channel, by rising thread and then by rising branch.
-- Assumes nothing.
use Rattle.rules.specs.Answers.{Partner}
use Rattle.std.specs.Prelude.{ℕ, ◌<◌, ◌≡◌, ◌≢◌, false, ltb, None, Some}
use Rattle.std.proofs.Common.{ap, ne_eqb}
use Rattle.numbers.specs.Search.Laws.{case_b, contra, first_below}
use Rattle.numbers.specs.Tests.{clash}
use Rattle.table.specs.Table.{Table}
use Rattle.table.specs.Layout.{branch_count}
use Rattle.state.specs.State.{State, max_threads, max_channels, thread, stands_at}
use Rattle.rules.specs.Program.{branch_at, next_of, field_b}
use Rattle.rules.specs.Offers.{offers_at, offering_branch, answers, answering, partner_of}
use Rattle.rules.specs.declared.Direction.{Direction}
use Rattle.rules_laws.specs.Chosen.{partner_answers, nobody_answers}
use Rattle.published.specs.Syntax.{Process}
use Rattle.published.specs.Agents.{◌∈◌}
use Rattle.published_laws.specs.Standing.{process_at, waiting_thread, thread_of}
use Rattle.published_laws.specs.Products.{waiting_thread_lem}
use Rattle.published_laws.specs.Commitments.{pledge}
use Rattle.published_laws.proofs.Commitments.{pledge_offers}
use Rattle.published_laws.proofs.Together.{met_commits}

same_at : (a b u j : ℕ) → ◌≡◌ {A = Partner} (Some (a, b)) (Some (u, j)) → (a ≡ u) × (b ≡ j)
same_at a b u j e =
    let q : ◌≡◌ {A = ℕ × ℕ} (a, b) (u, j) = cc in
    (ap (λ (x : ℕ × ℕ). x.0) q, ap (λ (x : ℕ × ℕ). x.1) q)

module _ (tb : Table) (s : State) (t : ℕ) (d : Direction) (c : ℕ) where
  -- the search ended at thread u and its branch j
  found_at : (u j : ℕ) → partner_of tb s t d c ≡ Some (u, j) → (answering tb s t d c ≡ u) × (offering_branch tb (thread s (answering tb s t d c)) d c ≡ j)
  unfolding partner_of
  found_at u j e =
      case_b (ltb (answering tb s t d c) max_threads)
      (λ y. same_at (answering tb s t d c) (offering_branch tb (thread s (answering tb s t d c)) d c) u j (rw y at e))
      (λ y. clash (let z : ◌≡◌ {A = Partner} None (Some (u, j)) = rw y at e in cc))

  -- a thread before it, t left aside, has no such commitment
  none_before : (u j : ℕ) → partner_of tb s t d c ≡ Some (u, j) → (v : ℕ) → v < u → v ≢ t → (x : ℕ) (S : Process)
      → pledge d c x S ∈ (thread_of tb (thread s v)).commitments → ⊥
  unfolding answering answers
  none_before u j e v l n x S i =
      let (q, z) = found_at u j e in
      let m = (partner_answers tb s t d c u j e).channel_in in
      let f = first_below (answers tb s t d c) max_threads v (rw q l) in
      let o = pledge_offers tb (thread s v) d c x S i m in
      contra (rw (ne_eqb v t n, o)) f

  -- of the branches of thread u none before j offers it
  no_branch_before : (u j : ℕ) → partner_of tb s t d c ≡ Some (u, j) → (i : ℕ) → i < j → offers_at tb (thread s u) d c i ≡ false
  unfolding offering_branch
  no_branch_before u j e i l =
      let (q, z) = found_at u j e in
      let z' = rw q at z in
      first_below (offers_at tb (thread s u) d c) (branch_count tb (stands_at (thread s u))) i (rw z' l)

  -- the commitment that is met, and that no thread before it, nor a branch before it, has one
  pub lowest_partner : (u j : ℕ) → partner_of tb s t d c ≡ Some (u, j)
      → (pledge d c (field_b tb (branch_at tb (stands_at (thread s u)) j)) (process_at tb (next_of tb (stands_at (thread s u)) (branch_at tb (stands_at (thread s u)) j)))
      ∈ (thread_of tb (thread s u)).commitments)
      × ((v : ℕ) → v < u → v ≢ t → (x : ℕ) (S : Process) → pledge d c x S ∈ (thread_of tb (thread s v)).commitments → ⊥)
      × ((i : ℕ) → i < j → offers_at tb (thread s u) d c i ≡ false)
  unfolding waiting_thread
  lowest_partner u j e =
      let a = partner_answers tb s t d c u j e in
      (rw (waiting_thread_lem tb (thread s u) a.waits) (met_commits tb s t u j c d a), none_before u j e, no_branch_before u j e)

  -- where the engine finds nobody, no other thread has such a commitment
  pub no_partner : c < max_channels → partner_of tb s t d c ≡ None → (v : ℕ) → v < max_threads → v ≢ t → (x : ℕ) (S : Process)
      → pledge d c x S ∈ (thread_of tb (thread s v)).commitments → ⊥
  no_partner m e v l n x S i = contra (pledge_offers tb (thread s v) d c x S i m) (nobody_answers tb s t d c e v l n)
