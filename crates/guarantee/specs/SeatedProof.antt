-- The whole claim holds of every list of calls at seats, of every file that loads; and when a collection that follows is refused. Assumes nothing.
use Rattle.std.specs.Prelude.{ℕ, ◌<◌, ◌≡◌, ◌↔◌, length, get_or, Err, Ok}
use Rattle.std.proofs.Math.Bool.{true}
use mathlib.Core.List.{List, [], ◌∷◌, map}
use Rattle.std.proofs.Common.{inl}
use Rattle.std.proofs.Math.Logic.{⊎_elim}
use Rattle.numbers.specs.Search.Laws.{case_b}
use Rattle.numbers.specs.Tests.{clash}
use Rattle.table.specs.Table.{table_of}
use Rattle.loader.specs.Load.{loaded, accepted}
use Rattle.loader_laws.specs.Yields.{loaded_small, loaded_accepted}
use Rattle.state.specs.State.{state_length, view}
use Rattle.rules.specs.Calls.{start_call}
use Rattle.rules.specs.Seats.{seat_admission}
use Rattle.rules.specs.Seats.Laws.{seat_granted, seat_answer}
use Rattle.rules.specs.declared.Right.TheVariants as Right
use Rattle.rules.specs.declared.Refusal.{Refusal}
use Rattle.rules.specs.declared.Refusal.TheVariants as Ground
use Rattle.engine_laws.specs.Buffers.{SoundBuffer}
use Rattle.engine_laws.specs.SoundCalls.{start_done, start_sound}
use Rattle.engine_laws.specs.Lists.{Call}
use Rattle.collector.specs.Collect.{taken_count, collect_call, seated_collect}
use Rattle.guarantee.specs.Claim.{Any, collect, reached_by, taken_by, Untouched, RefusedBy, Guarantee}
use Rattle.guarantee.specs.ClaimKept.{not_ten, any_sound, collect_done}
use Rattle.guarantee.specs.Proof.{reached_sound, accepted_guarantee, collection_made}
use Rattle.guarantee.specs.SeatedClaim.{AtSeat, asked, after_seat, reached_at, placed, taken_at, UntouchedAt, RefusedAt, NeverTenAt, SeatedGuarantee}
use Rattle.guarantee.specs.Through.{granted_left, kept_left, refused_iff, let_through, through, through_later, OfSeat, through_admitted, others_refused, list_through, later_left, later_moving}

-- ---- a collection at a seat that is not refused is the collection without seats

pub collected_plainly : (table state rights : List ℕ) (seat n : ℕ) → (seated_collect table state rights seat).answer ≡ Ok n
    → seated_collect table state rights seat ≡ collect_call table state
unfolding seated_collect
collected_plainly table state rights seat n e =
    seat_granted table state rights seat Right.Collect Err (collect_call table state)
    (seat_answer table state rights seat Right.Collect Err (collect_call table state) (Ok n) (λ r f. clash cc) e)

-- ---- of a table that is accepted

module _ (table : List ℕ) (ok : accepted table ≡ true) where
  -- no call at a seat on a sound buffer is refused with 10
  seat_not_ten : (state : List ℕ) → SoundBuffer table state → (k : AtSeat Any) → ¬ RefusedAt table state k.rights k.seat k.call Ground.State
  seat_not_ten state b k e = ⊎_elim
      (λ f. case_b (let_through k)
      (λ y. let g = through_admitted table ok state b.long k y in clash cc)
      (λ y. let (r, g, o) = others_refused table ok state b.long k y in
      let q : r ≡ Ground.State = cc in
      ⊎_elim (λ h. clash cc) (λ h. ⊎_elim (λ i. clash cc) (λ i. clash cc) h) o))
      (λ f. not_ten table ok state b k.call f.1)
      ((refused_iff table state k.rights k.seat k.call Ground.State).0 e)

  module _ (fit : (i : ℕ) → get_or table i 0 < 256) where
    -- a call at a seat leaves a sound buffer sound
    pub seat_sound : (state : List ℕ) → SoundBuffer table state → (k : AtSeat Any) → SoundBuffer table (after_seat table state k)
    seat_sound state b k = case_b (let_through k)
        (λ y. rw (granted_left table state k.rights k.seat k.call (through_admitted table ok state b.long k y)) (any_sound table ok fit state b k.call))
        (λ y. let (r, e, o) = others_refused table ok state b.long k y in rw (kept_left table state k.rights k.seat k.call r e) b)

    seats_not_ten : (state : List ℕ) → SoundBuffer table state → (ks : List (AtSeat Any)) → NeverTenAt table state ks
    unfolding NeverTenAt
    seats_not_ten state b [] = tt
    seats_not_ten state b (k ∷ ks) = (seat_not_ten state b k, seats_not_ten (after_seat table state k) (seat_sound state b k) ks)

    module _ (state : List ℕ) (long : length state ≡ state_length) (ks : List (AtSeat Any)) where
      abbrev begun : List ℕ
      begun = (start_call table state).state

      begun_sound : SoundBuffer table begun
      begun_sound = start_sound table ok fit state (start_done table ok state long)

      abbrev s : List ℕ
      s = reached_at table state ks

      -- the state is that after the calls that are let through
      pub reached_through : reached_at table state ks ≡ reached_by table state (through ks)
      reached_through = list_through table ok fit begun begun_sound ks

      pub seats_sound : SoundBuffer table (reached_at table state ks)
      seats_sound = rw reached_through (reached_sound table ok fit state long (through ks))

      claim : Guarantee table state (through ks)
      claim = accepted_guarantee table ok fit state long (through ks)

      apart : (rights : List ℕ) (seat n : ℕ) → (seated_collect table s rights seat).answer ≡ Ok n → (later : List (AtSeat Call)) → UntouchedAt table s rights seat later
      unfolding taken_at taken_by
      apart rights seat n e later t k =
          let q : taken_by table s t ≡ true = rw (← collected_plainly table s rights seat n e) k in
          let u : Untouched table s (through_later later) =
          rw reached_through (claim.untouched _ (collection_made table ok fit state long (through ks)) (through_later later)) in
          rw (later_moving table ok fit s seats_sound later, later_left table ok fit s seats_sound later) (u t q)

      pub accepted_seated : SeatedGuarantee table state ks
      accepted_seated = record {
        starts = start_done table ok state long;
        counted = rw reached_through claim.counted;
        untouched = apart;
        linked = λ rights seat n e. rw (collected_plainly table s rights seat n e, reached_through) (claim.linked _ (collection_made table ok fit state long (through ks)));
        never_ten = seats_not_ten begun begun_sound ks;
        never_ten_later = λ later. seats_not_ten s seats_sound (map placed later);
      }

      -- ---- a collection that follows the list, at any seat
      module _ (rights : List ℕ) (seat : ℕ) where
        -- it is refused exactly when its seat is
        pub collection_refused_iff : (r : Refusal) → ((seated_collect table s rights seat).answer ≡ Err r)
            ↔ (seat_admission table s rights seat Right.Collect ≡ Err r)
        unfolding RefusedAt RefusedBy asked
        collection_refused_iff r =
            let w = refused_iff table s rights seat collect r in (
              λ e. ⊎_elim (λ f. f) (λ (a, f). let g = collect_done table ok s seats_sound in clash cc) (w.0 e),
              λ e. w.1 (inl e),
            )

        -- and then with 8, 18 or 19: the table is accepted and the state sound
        pub collection_refused : (r : Refusal) → (seated_collect table s rights seat).answer ≡ Err r → OfSeat r
        unfolding asked
        collection_refused r e =
            let f = (collection_refused_iff r).0 e in
            let k : AtSeat Any = record { rights = rights; seat = seat; call = collect } in
            case_b (let_through k)
            (λ y. let g = through_admitted table ok s seats_sound.long k y in clash cc)
            (λ y. let (q, g, o) = others_refused table ok s seats_sound.long k y in let same : q ≡ r = cc in rw (← same) o)

        -- a seat that may collect does: it is answered how many threads it takes
        pub collection_granted : seat_admission table s rights seat Right.Collect ≡ Ok tt
            → (seated_collect table s rights seat).answer ≡ Ok (taken_count (table_of table) (view s))
        unfolding seated_collect
        collection_granted e = rw (seat_granted table s rights seat Right.Collect Err (collect_call table s) e) (collect_done table ok s seats_sound)

-- ---- the theorem: document 01's demand 3, of every file that loads, whatever the two buffers had, and of every list of calls at seats
pub seated_guarantee : (file t : List ℕ) → (loaded file t).answer ≡ Ok tt → (state : List ℕ) → length state ≡ state_length → (ks : List (AtSeat Any))
    → SeatedGuarantee (loaded file t).table state ks
seated_guarantee file t e = accepted_seated (loaded file t).table (loaded_accepted file t e) (loaded_small file t e)
