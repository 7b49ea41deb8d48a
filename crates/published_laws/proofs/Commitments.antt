-- The commitments of a waiting thread are its offers. Assumes nothing.
use Prim.Native.Nat.{ℕ, zero, suc, ◌+◌, ◌<◌, ◌≤◌}
use native.Mathlib.Omega.{arith}
use Rattle.std.specs.Prelude.{◌≡◌, true, eqb}
use Rattle.std.proofs.Math.Path.{refl}
use Rattle.std.proofs.Common.{inl, inr}
use Rattle.std.proofs.Math.Logic.{⊎_elim}
use Rattle.std.proofs.Math.Bool.{cond}
use mathlib.Core.List.{List, [], ◌∷◌}
use borrow.Author.Tests.{eqb-true, eqb-false}
use Rattle.numbers.specs.Search.Laws.{case_b}
use Rattle.numbers.specs.Tests.{clash}
use Rattle.table.specs.Table.{Table}
use Rattle.table.specs.Layout.{branch_count}
use Rattle.state.specs.State.{max_channels, stands_at, slot_of, is_waiting}
use Rattle.rules.specs.Program.{branch_at, next_of, field_a, field_b, act_of, guard_holds}
use Rattle.rules.specs.Offers.{offers}
use Rattle.rules.specs.declared.Direction.{Direction}
use Rattle.rules.specs.declared.Direction.TheVariants.{Out, In}
use Rattle.rules.specs.declared.Act.{Act}
use Rattle.rules.specs.declared.Act.TheVariants.{Tau, Meeting, New, Spawn, Assignment}
use Rattle.rules_laws.specs.Reading.Laws.{offers_intro}
use Rattle.published.specs.Syntax.{Process}
use Rattle.published.specs.Agents.{◌∈◌, Commitment, channel_of}
use Rattle.published.specs.ProductLaws.{in_left, in_right, in_either}
use Rattle.published_laws.specs.Standing.{process_at, committed, commitments_from, waiting_thread, ready_thread, thread_of}
use Rattle.published_laws.specs.Commitments.{pledge, pledged}

pub pledge_channel : (d : Direction) (c v : ℕ) (Q : Process) → channel_of (pledge d c v Q) ≡ c
unfolding pledge channel_of
pledge_channel Out c v Q = refl
pledge_channel In c v Q = refl

-- two commitments that are one have their direction and their channel in common
pledge_same : (d e : Direction) (c k v w : ℕ) (Q R : Process) → pledge d c v Q ≡ pledge e k w R → (e ≡ d) × (k ≡ c)
unfolding pledge
pledge_same Out Out c k v w Q R q = (refl, cc)
pledge_same Out In c k v w Q R q = clash cc
pledge_same In Out c k v w Q R q = clash cc
pledge_same In In c k v w Q R q = (refl, cc)

module _ (tb : Table) (row : List ℕ) where
  pub committed_meeting : (r : ℕ) (d : Direction) → committed tb row r (Meeting d) ≡ pledged tb row d r ∷ []
  unfolding committed pledge
  committed_meeting r Out = refl
  committed_meeting r In = refl

  -- each commitment is that of a meeting
  committed_elim : (k : Commitment) (r : ℕ) (a : Act) → k ∈ committed tb row r a → (d : Direction) × (a ≡ Meeting d) × (k ≡ pledged tb row d r)
  unfolding committed pledge
  committed_elim k r Tau i = absurd i
  committed_elim k r (Meeting Out) (inl e) = (Out, refl, e)
  committed_elim k r (Meeting Out) (inr i) = absurd i
  committed_elim k r (Meeting In) (inl e) = (In, refl, e)
  committed_elim k r (Meeting In) (inr i) = absurd i
  committed_elim k r New i = absurd i
  committed_elim k r Spawn i = absurd i
  committed_elim k r Assignment i = absurd i

  -- by one of m branches from branch i on
  pub pledged_in : (m i j : ℕ) (d : Direction) → i ≤ j → j < i + m → guard_holds tb (branch_at tb (stands_at row) j) row ≡ true
      → act_of tb (branch_at tb (stands_at row) j) ≡ Meeting d → pledged tb row d (branch_at tb (stands_at row) j) ∈ commitments_from tb row i m
  unfolding commitments_from
  pledged_in zero i j d a b g e = absurd (omega arith)
  pledged_in (suc m) i j d a b g e =
      let r = branch_at tb (stands_at row) in
      let k = pledged tb row d (r j) in
      let own : List Commitment = cond (guard_holds tb (r i) row) (committed tb row (r i) (act_of tb (r i))) [] in
      case_b (eqb j i)
      (λ y. let q : j ≡ i = eqb-true j i y in
      let h : k ∈ own = rw (← q, g, e, committed_meeting (r j) d) (inl refl) in
      in_left k own (commitments_from tb row (suc i) m) h)
      (λ y. in_right k own (commitments_from tb row (suc i) m) (pledged_in m (suc i) j d (omega (arith, eqb-false j i y)) (omega arith) g e))

  -- every commitment of a row is that of a branch whose guard is true and which meets
  pub pledged_from : (k : Commitment) (m i : ℕ) → k ∈ commitments_from tb row i m
      → (j : ℕ) × (i ≤ j) × (j < i + m) × (guard_holds tb (branch_at tb (stands_at row) j) row ≡ true)
      × ((d : Direction) × (act_of tb (branch_at tb (stands_at row) j) ≡ Meeting d) × (k ≡ pledged tb row d (branch_at tb (stands_at row) j)))
  unfolding commitments_from
  pledged_from k zero i h = absurd h
  pledged_from k (suc m) i h =
      let r = branch_at tb (stands_at row) i in
      let own : List Commitment = cond (guard_holds tb r row) (committed tb row r (act_of tb r)) [] in
      ⊎_elim
      (λ x. case_b (guard_holds tb r row)
      (λ y. let z : k ∈ committed tb row r (act_of tb r) = rw y at x in (i, omega arith, omega arith, y, committed_elim k r (act_of tb r) z))
      (λ y. absurd (let z : k ∈ [] = rw y at x in z)))
      (λ x. let (j, a, b, g, e) = pledged_from k m (suc i) x in (j, omega arith, omega arith, g, e))
      (in_either k own (commitments_from tb row (suc i) m) h)

  -- ---- of the thread of a row

  -- what a thread is committed to it offers
  pub commits_offers : (k : Commitment) → k ∈ (thread_of tb row).commitments → (d : Direction) × (v : ℕ) × (Q : Process) × (c : ℕ) × (k ≡ pledge d c v Q)
      × (is_waiting row ≡ true) × (c < max_channels → offers tb row d c ≡ true)
  unfolding thread_of waiting_thread ready_thread
  commits_offers k i =
      case_b (is_waiting row)
      (λ w. let h : k ∈ commitments_from tb row 0 (branch_count tb (stands_at row)) = rw w at i in
      let (j, a, b, g, (d, e, q)) = pledged_from k (branch_count tb (stands_at row)) 0 h in
      let r = branch_at tb (stands_at row) j in (
        d,
        field_b tb r,
        process_at tb (next_of tb (stands_at row) r),
        slot_of row (field_a tb r),
        q,
        w,
        λ l. offers_intro tb row d (slot_of row (field_a tb r)) (record {
          waits = w;
          channel_in = l;
          branch = j;
          branch_in = omega arith;
          passes = g;
          does = e;
          is = refl;
        }),
      ))
      (λ w. absurd (let h : k ∈ [] = rw w at i in h))

  pub pledge_offers : (d : Direction) (c v : ℕ) (Q : Process) → pledge d c v Q ∈ (thread_of tb row).commitments → c < max_channels → offers tb row d c ≡ true
  pledge_offers d c v Q i l =
      let (e, w, R, k, q, z, h) = commits_offers (pledge d c v Q) i in
      let (a, b) = pledge_same d e c k v w Q R q in
      rw (a, b) at (h (rw b l))

-- ---- rows with the same node and the same slots have the same commitments

module _ (tb : Table) (row new : List ℕ) (node : stands_at new ≡ stands_at row) (slots : (k : ℕ) → slot_of new k ≡ slot_of row k)
    (guards : (r : ℕ) → guard_holds tb r new ≡ guard_holds tb r row) where
  committed_same : (r : ℕ) (a : Act) → committed tb new r a ≡ committed tb row r a
  unfolding committed
  committed_same r Tau = refl
  committed_same r (Meeting Out) = rw (node, slots (field_a tb r))
  committed_same r (Meeting In) = rw (node, slots (field_a tb r))
  committed_same r New = refl
  committed_same r Spawn = refl
  committed_same r Assignment = refl

  pub commitments_same : (m i : ℕ) → commitments_from tb new i m ≡ commitments_from tb row i m
  unfolding commitments_from
  commitments_same zero i = refl
  commitments_same (suc m) i =
      let r = branch_at tb (stands_at row) i in
      rw (node, guards r, committed_same r (act_of tb r), commitments_same m (suc i))
