-- How the answers to a give and a take on a state come about: when there is no such port, when nobody is met, and who is. Assumes nothing.
use Rattle.rules.specs.Answers.{Given, Partner, Taken}
use Rattle.std.specs.Prelude.{ℕ, ◌<◌, ◌≤◌, ◌↔◌, false, ltb, Err, None, Ok, Some}
use Rattle.std.proofs.Common.{arith, ◌∙◌}
use Rattle.std.proofs.Math.Path.{◌≡◌, refl, sym, ap}
use borrow.Author.Tests.{ltb-true, ltb-false, lt-ltb, le-ltb, ne_eqb}
use Rattle.numbers.specs.Search.{first}
use Rattle.numbers.specs.Search.Laws.{case_b, first_below, first_void}
use Rattle.numbers.specs.Tests.{clash}
use Rattle.table.specs.Table.{Table, ports}
use Rattle.state.specs.State.{State, max_threads, thread}
use Rattle.rules.specs.Offers.{offers, offering_branch, answers, answering, partner_of}
use Rattle.rules.specs.Moves.{value_by, met_by_bench}
use Rattle.rules.specs.Calls.{afterwards, bench, given_to, give_on, taken_from, take_on}
use Rattle.rules.specs.declared.Direction.{Direction}
use Rattle.rules.specs.declared.Direction.TheVariants.{Out, In}
use Rattle.rules.specs.declared.Refusal.{Refusal}
use Rattle.rules.specs.declared.Refusal.TheVariants as Ground
use Rattle.engine.specs.Numbers.{refusal_number}
use Rattle.engine_laws.specs.Entry.{at_entry}

-- no thread offers d on channel c
abbrev pub NobodyOffers : Table → State → Direction → ℕ → Type 0
NobodyOffers tb s d c = (u : ℕ) → u < max_threads → offers tb (thread s u) d c ≡ false

-- ---- partners of the bench

module _ (tb : Table) (s : State) (d : Direction) (c : ℕ) where
  -- the bench is no thread, so that every thread that offers answers it
  bench_answers : (u : ℕ) → u < max_threads → answers tb s bench d c u ≡ offers tb (thread s u) d c
  unfolding answers
  bench_answers u l = rw (ne_eqb u max_threads (λ e. omega arith))

  pub nobody_iff : (partner_of tb s bench d c ≡ None) ↔ NobodyOffers tb s d c
  unfolding partner_of answering
  nobody_iff =
      let p = answers tb s bench d c in (
        λ e. case_b (ltb (first p max_threads) max_threads)
            (λ y. let f : ◌≡◌ {A = Partner} (Some (first p max_threads, offering_branch tb (thread s (first p max_threads)) d c)) None = rw y at e in clash cc)
            (λ y u l. sym (bench_answers u l) ∙ first_below p max_threads u (omega (arith, ltb-false (first p max_threads) max_threads y))),
        λ f. rw (first_void p max_threads (λ u l. bench_answers u l ∙ f u l)),
      )

-- ---- give

module _ (tb : Table) (s : State) where
  given_met : (m : Partner) (v : ℕ) (r : Refusal) → (given_to tb s m v).answer ≡ Err r → ⊥
  unfolding given_to
  given_met None v r e = clash cc
  given_met (Some (u, j)) v r e = clash cc

  given_nobody : (m : Partner) (v : ℕ) → ((given_to tb s m v).answer ≡ Ok None) ↔ (m ≡ None)
  unfolding given_to
  given_nobody None v = (λ e. refl, λ e. refl)
  given_nobody (Some (u, j)) v = (λ e. clash cc, λ e. clash cc)

  given_who : (m : Partner) (v u : ℕ) → (given_to tb s m v).answer ≡ Ok (Some u)
      → (j : ℕ) × (m ≡ Some (u, j)) × ((given_to tb s m v).state ≡ met_by_bench tb s u j v)
  unfolding given_to
  given_who None v u e = clash cc
  given_who (Some (w, j)) v u e = let h : w ≡ u = cc in (j, ap (λ x. Some (x, j)) h, ap (λ x. met_by_bench tb s x j v) h)

module _ (tb : Table) (s : State) (p v : ℕ) where
  abbrev give_partner : Partner
  give_partner = partner_of tb s bench In p

  give_port : p < ports tb → give_on tb s p v ≡ given_to tb s give_partner v
  unfolding give_on
  give_port l = rw (lt-ltb p (ports tb) l)

  pub give_no_port : ports tb ≤ p → give_on tb s p v ≡ afterwards (Err Ground.Port) s
  unfolding give_on
  give_no_port l = rw (le-ltb p (ports tb) l)

  -- a give is refused where there is no such port, and on no other ground
  pub give_refused : (r : Refusal) → (give_on tb s p v).answer ≡ Err r → (ports tb ≤ p) × (r ≡ Ground.Port)
  give_refused r e = case_b (ltb p (ports tb))
      (λ y. absurd (given_met tb s give_partner v r (rw (give_port (ltb-true p (ports tb) y)) at e)))
      (λ y. let l = ltb-false p (ports tb) y in
      let f : ◌≡◌ {A = Given} (Err Ground.Port) (Err r) = rw (give_no_port l) at e in (l, sym cc))

  pub give_own : (r : Refusal) → (give_on tb s p v).answer ≡ Err r → at_entry r ≡ false
  unfolding at_entry refusal_number
  give_own r e = rw (give_refused r e).1

  -- a give meets nobody where no thread offers to receive on the port
  pub give_nobody : ((give_on tb s p v).answer ≡ Ok None) ↔ ((p < ports tb) × NobodyOffers tb s In p)
  give_nobody = (
    λ e. case_b (ltb p (ports tb))
        (λ y. let l = ltb-true p (ports tb) y in
        (l, (nobody_iff tb s In p).0 ((given_nobody tb s give_partner v).0 (rw (give_port l) at e))))
        (λ y. let f : ◌≡◌ {A = Given} (Err Ground.Port) (Ok None) = rw (give_no_port (ltb-false p (ports tb) y)) at e in clash cc),
    λ k. rw (give_port k.0) ((given_nobody tb s give_partner v).1 ((nobody_iff tb s In p).1 k.1)),
  )

  -- a give meets the partner of the bench
  pub give_met : (u : ℕ) → (give_on tb s p v).answer ≡ Ok (Some u)
      → (p < ports tb) × (j : ℕ) × (partner_of tb s bench In p ≡ Some (u, j)) × ((give_on tb s p v).state ≡ met_by_bench tb s u j v)
  give_met u e = case_b (ltb p (ports tb))
      (λ y. let l = ltb-true p (ports tb) y in
      let (j, f, h) = given_who tb s give_partner v u (rw (give_port l) at e) in (l, j, f, rw (give_port l) h))
      (λ y. let f : ◌≡◌ {A = Given} (Err Ground.Port) (Ok (Some u)) = rw (give_no_port (ltb-false p (ports tb) y)) at e in clash cc)

-- ---- take

module _ (tb : Table) (s : State) where
  taken_met : (m : Partner) (r : Refusal) → (taken_from tb s m).answer ≡ Err r → ⊥
  unfolding taken_from
  taken_met None r e = clash cc
  taken_met (Some (u, j)) r e = clash cc

  taken_nobody : (m : Partner) → ((taken_from tb s m).answer ≡ Ok None) ↔ (m ≡ None)
  unfolding taken_from
  taken_nobody None = (λ e. refl, λ e. refl)
  taken_nobody (Some (u, j)) = (λ e. clash cc, λ e. clash cc)

  taken_who : (m : Partner) (u v : ℕ) → (taken_from tb s m).answer ≡ Ok (Some (u, v))
      → (j : ℕ) × (m ≡ Some (u, j)) × (value_by tb (thread s u) j ≡ v) × ((taken_from tb s m).state ≡ met_by_bench tb s u j 0)
  unfolding taken_from
  taken_who None u v e = clash cc
  taken_who (Some (w, j)) u v e =
      let q : ◌≡◌ {A = ℕ × ℕ} (w, value_by tb (thread s w) j) (u, v) = cc in
      let h : w ≡ u = ap (λ (x : ℕ × ℕ). x.0) q in
      let i : value_by tb (thread s w) j ≡ v = ap (λ (x : ℕ × ℕ). x.1) q in
      (j, ap (λ x. Some (x, j)) h, rw (← h) i, ap (λ x. met_by_bench tb s x j 0) h)

module _ (tb : Table) (s : State) (p : ℕ) where
  abbrev take_partner : Partner
  take_partner = partner_of tb s bench Out p

  take_port : p < ports tb → take_on tb s p ≡ taken_from tb s take_partner
  unfolding take_on
  take_port l = rw (lt-ltb p (ports tb) l)

  pub take_no_port : ports tb ≤ p → take_on tb s p ≡ afterwards (Err Ground.Port) s
  unfolding take_on
  take_no_port l = rw (le-ltb p (ports tb) l)

  -- a take is refused where there is no such port, and on no other ground
  pub take_refused : (r : Refusal) → (take_on tb s p).answer ≡ Err r → (ports tb ≤ p) × (r ≡ Ground.Port)
  take_refused r e = case_b (ltb p (ports tb))
      (λ y. absurd (taken_met tb s take_partner r (rw (take_port (ltb-true p (ports tb) y)) at e)))
      (λ y. let l = ltb-false p (ports tb) y in
      let f : ◌≡◌ {A = Taken} (Err Ground.Port) (Err r) = rw (take_no_port l) at e in (l, sym cc))

  pub take_own : (r : Refusal) → (take_on tb s p).answer ≡ Err r → at_entry r ≡ false
  unfolding at_entry refusal_number
  take_own r e = rw (take_refused r e).1

  -- a take meets nobody where no thread offers to send on the port
  pub take_nobody : ((take_on tb s p).answer ≡ Ok None) ↔ ((p < ports tb) × NobodyOffers tb s Out p)
  take_nobody = (
    λ e. case_b (ltb p (ports tb))
        (λ y. let l = ltb-true p (ports tb) y in
        (l, (nobody_iff tb s Out p).0 ((taken_nobody tb s take_partner).0 (rw (take_port l) at e))))
        (λ y. let f : ◌≡◌ {A = Taken} (Err Ground.Port) (Ok None) = rw (take_no_port (ltb-false p (ports tb) y)) at e in clash cc),
    λ k. rw (take_port k.0) ((taken_nobody tb s take_partner).1 ((nobody_iff tb s Out p).1 k.1)),
  )

  -- a take meets the partner of the bench, and brings the partner's number
  pub take_met : (u v : ℕ) → (take_on tb s p).answer ≡ Ok (Some (u, v))
      → (p < ports tb) × (j : ℕ) × (partner_of tb s bench Out p ≡ Some (u, j)) × (value_by tb (thread s u) j ≡ v) × ((take_on tb s p).state ≡ met_by_bench tb s u j 0)
  take_met u v e = case_b (ltb p (ports tb))
      (λ y. let l = ltb-true p (ports tb) y in
      let (j, f, i, h) = taken_who tb s take_partner u v (rw (take_port l) at e) in (l, j, f, i, rw (take_port l) h))
      (λ y. let f : ◌≡◌ {A = Taken} (Err Ground.Port) (Ok (Some (u, v))) = rw (take_no_port (ltb-false p (ports tb) y)) at e in clash cc)
