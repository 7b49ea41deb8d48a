-- The pledge of the rental-shop profile on lists of calls that are made at seats (document 02, S-3 and S-6): what it says, and that it holds, since seats leave
-- calls out and change nothing else. Assumes nothing.
use Rattle.std.specs.Prelude.{ℕ, ◌≤◌, ◌<◌, ◌≡◌, true, length, get_or, Err, Ok}
use mathlib.Core.List.{List, [], ◌∷◌}
use Rattle.std.proofs.Math.Logic.{⊎_elim}
use Rattle.numbers.specs.Search.Laws.{case_b}
use Rattle.numbers.specs.Tests.{clash}
use Rattle.loader.specs.Load.{loaded, accepted}
use Rattle.loader_laws.specs.Yields.{loaded_small}
use Rattle.state.specs.State.{state_length, view}
use Rattle.rules.specs.Calls.{start_call, run_call}
use Rattle.rules.specs.Seats.{seat_admission, seated_run}
use Rattle.rules.specs.Seats.Laws.{seat_granted, seat_answer}
use Rattle.rules.specs.declared.Right.TheVariants.{StepAndRun}
use Rattle.rules.specs.declared.Refusal.TheVariants as Ground
use Rattle.rules.specs.declared.Reason.TheVariants.{LackedThread}
use Rattle.engine_laws.specs.Buffers.{SoundBuffer}
use Rattle.engine_laws.specs.SoundCalls.{start_done, start_sound}
use Rattle.engine_laws.specs.Lists.{step, give, take, run}
use Rattle.guarantee.specs.Claim.{Any, on, collect}
use Rattle.guarantee.specs.SeatedClaim.{AtSeat, asked, after_seat, reached_at, RefusedAt}
use Rattle.guarantee.specs.Through.{granted_left, kept_left, refused_iff, let_through, through, through_admitted, others_refused}
use Rattle.guarantee.specs.SeatedProof.{seat_sound, reached_through}
use Rattle.profile.specs.Profile.{profile_call}
use Rattle.profile_laws.specs.Claim.{threads_in, EndsLacking, NeverLacks}
use Rattle.profile_laws.specs.Grounds.{table_accepted, passes_iff}
use Rattle.profile_laws.specs.Proof.{accepted_pledge}

-- ---- what is said

-- a run at a seat ends for want of a thread row. Other calls do not end so
unfoldable pub EndsLackingAt : List ℕ → List ℕ → List ℕ → ℕ → Any → Type 0
EndsLackingAt table state rights seat (on (step t)) = ⊥
EndsLackingAt table state rights seat (on (give p v h)) = ⊥
EndsLackingAt table state rights seat (on (take p)) = ⊥
EndsLackingAt table state rights seat (on (run n)) = (j : ℕ) × (t : ℕ) × ((seated_run table state rights seat n).answer ≡ Ok (j, LackedThread t))
EndsLackingAt table state rights seat collect = ⊥

-- no call of a list lacks a thread row: none is refused on ground 13, and no run ends for that reason
unfoldable pub NeverLacksAt : List ℕ → List ℕ → List (AtSeat Any) → Type 0
NeverLacksAt table state [] = Unit
NeverLacksAt table state (k ∷ ks) =
    (¬ RefusedAt table state k.rights k.seat k.call Ground.ThreadRow)
    × (¬ EndsLackingAt table state k.rights k.seat k.call)
    × NeverLacksAt table (after_seat table state k) ks

-- the pledge, of a table whose check answers n, a buffer for the state and a list of calls at seats
pub record SeatedPledge (table state : List ℕ) (n : ℕ) (ks : List (AtSeat Any)) : Type 0 where
  -- no call of the list lacks a thread row
  pub never_lacks : NeverLacksAt table (start_call table state).state ks
  -- after it there are at most n threads
  pub few_threads : threads_in (view (reached_at table state ks)) ≤ n

-- ---- a run at a seat that ends is the run without seats

module _ (table state rights : List ℕ) (seat : ℕ) where
  ends_granted : (k : Any) → EndsLackingAt table state rights seat k → seat_admission table state rights seat (asked k) ≡ Ok tt
  unfolding EndsLackingAt asked seated_run
  ends_granted (on (step t)) e = absurd e
  ends_granted (on (give p v h)) e = absurd e
  ends_granted (on (take p)) e = absurd e
  ends_granted (on (run n)) (j, t, e) =
      seat_answer table state rights seat StepAndRun Err (run_call table state n) (Ok (j, LackedThread t)) (λ r f. clash cc) e
  ends_granted collect e = absurd e

  ends_plainly : (k : Any) → seat_admission table state rights seat (asked k) ≡ Ok tt → EndsLackingAt table state rights seat k → EndsLacking table state k
  unfolding EndsLackingAt EndsLacking asked seated_run
  ends_plainly (on (step t)) a e = e
  ends_plainly (on (give p v h)) a e = e
  ends_plainly (on (take p)) a e = e
  ends_plainly (on (run n)) a (j, t, e) = (j, t, rw (seat_granted table state rights seat StepAndRun Err (run_call table state n) a) at e)
  ends_plainly collect a e = e

-- ---- lists

module _ (table : List ℕ) (ok : accepted table ≡ true) (fit : (i : ℕ) → get_or table i 0 < 256) where
  list_finds : (state : List ℕ) → SoundBuffer table state → (ks : List (AtSeat Any)) → NeverLacks table state (through ks) → NeverLacksAt table state ks
  unfolding NeverLacks NeverLacksAt through
  list_finds state b [] h = tt
  list_finds state b (k ∷ ks) h = case_b (let_through k)
      (λ y. let a = through_admitted table ok state b.long k y in
      let q = granted_left table state k.rights k.seat k.call a in
      let (n, m, rest) : NeverLacks table state (k.call ∷ through ks) = rw y at h in (
        λ e. ⊎_elim (λ f. clash cc) (λ f. n f.1) ((refused_iff table state k.rights k.seat k.call Ground.ThreadRow).0 e),
        λ e. m (ends_plainly table state k.rights k.seat k.call a e),
        list_finds (after_seat table state k) (seat_sound table ok fit state b k) ks (rw q rest),
      ))
      (λ y. let (r, a, o) = others_refused table ok state b.long k y in
      let q = kept_left table state k.rights k.seat k.call r a in
      let rest : NeverLacks table state (through ks) = rw y at h in (
        λ e. ⊎_elim (λ f. ⊎_elim (λ g. clash cc) (λ g. ⊎_elim (λ i. clash cc) (λ i. clash cc) g) o) (λ f. let g = f.0 in clash cc)
            ((refused_iff table state k.rights k.seat k.call Ground.ThreadRow).0 e),
        λ e. let g = ends_granted table state k.rights k.seat k.call e in clash cc,
        list_finds (after_seat table state k) (seat_sound table ok fit state b k) ks (rw q rest),
      ))

-- ---- of a table that passes, and so is accepted
pub seated_accepted_pledge : (table : List ℕ) → ((i : ℕ) → get_or table i 0 < 256) → (n : ℕ) → profile_call table ≡ Ok n
    → (state : List ℕ) → length state ≡ state_length → (ks : List (AtSeat Any)) → SeatedPledge table state n ks
seated_accepted_pledge table fit n e state long ks =
    let ok = table_accepted table fit ((passes_iff table fit n).0 e).0 in
    let p = accepted_pledge table fit n e state long (through ks) in
    record {
      never_lacks = list_finds table ok fit (start_call table state).state (start_sound table ok fit state (start_done table ok state long)) ks p.never_lacks;
      few_threads = rw (reached_through table ok fit state long ks) p.few_threads;
    }

-- ---- the theorem: of every file that loads and passes with n threads, whatever the two buffers had, and of every list of calls at seats
pub seated_pledge : (file t : List ℕ) → (loaded file t).answer ≡ Ok tt → (n : ℕ) → profile_call (loaded file t).table ≡ Ok n
    → (state : List ℕ) → length state ≡ state_length → (ks : List (AtSeat Any)) → SeatedPledge (loaded file t).table state n ks
seated_pledge file t e = seated_accepted_pledge (loaded file t).table (loaded_small file t e)
