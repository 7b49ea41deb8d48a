-- The computed set of enabled threads is the least set that Definition 1 of 002 describes. Assumes nothing.
use Prim.Native.Nat.{ℕ, ◌<◌}
use Rattle.std.specs.Prelude.{◌≡◌, ◌&&◌, ◌||◌, List, ◌⊎◌, ◌≢◌, ◌↔◌, eqb, get_or}
use Rattle.std.proofs.Math.Path.{refl}
use Rattle.std.proofs.Math.Bool.{Bool, true, false, not}
use Rattle.std.proofs.Math.Logic.{inl, inr, ⊎_elim}
use Rattle.std.proofs.Math.Dec.{ltb}
use Rattle.std.proofs.lemmas.Bool.{or_cases, or_right}
use borrow.Author.Tests.{ltb-true, lt-ltb, eqb-false, ne_eqb, not-true}
use Rattle.numbers.specs.Search.{some}
use Rattle.numbers.specs.Search.Laws.{contra, some_elim, some_intro}
use Rattle.numbers.specs.Tests.{parts}
use Rattle.table.specs.Table.{Table, ports}
use Rattle.table.specs.Layout.{branch_count}
use Rattle.state.specs.State.{State, max_threads, max_channels, thread, stands_at, slot_of, in_use, is_ready, is_waiting}
use Rattle.rules.specs.Program.{branch_at, field_a, act_of, same}
use Rattle.rules.specs.Holding.{holds}
use Rattle.rules.specs.Offers.{meets?, offers}
use Rattle.rules.specs.declared.Direction.{Direction}
use Rattle.rules.specs.declared.Direction.TheVariants.{Out, In}
use Rattle.rules.specs.declared.Act.{Act}
use Rattle.rules.specs.declared.Act.TheVariants.{Tau, Meeting, New, Spawn, Assignment}
use Rattle.rules_laws.specs.Reading.{Offering}
use Rattle.rules_laws.specs.Reading.Laws.{offers_elim, offers_intro}
use Rattle.marking.specs.Rounds.{marked, round_all, round_root, round_closed}
use Rattle.marking.specs.Enabled.{Enabled, from_start, is_ready_lem, by_bench, by_thread, known, reaches, joins, begins, rounds, enabled_set}

-- ---- an act that is a meeting, of one direction or the other

meeting_elim : (a : Act) → (meets? a Out || meets? a In) ≡ true → (d : Direction) × (a ≡ Meeting d)
unfolding meets?
meeting_elim Tau e = contra e refl
meeting_elim (Meeting d) e = (d, refl)
meeting_elim New e = contra e refl
meeting_elim Spawn e = contra e refl
meeting_elim Assignment e = contra e refl

meeting_intro : (a : Act) (d : Direction) → a ≡ Meeting d → (meets? a Out || meets? a In) ≡ true
unfolding meets? same
meeting_intro a Out e = rw e
meeting_intro a In e = rw e

-- ---- tests joined by or: one of the two holds, and with the second the whole does

pub or_elim : (a b : Bool) → (a || b) ≡ true → (a ≡ true) ⊎ (b ≡ true)
or_elim true b e = inl refl
or_elim false b e = inr e

pub or_second : (a b : Bool) → b ≡ true → (a || b) ≡ true
or_second true b e = refl
or_second false b e = e

module _ (tb : Table) (s : State) (given : ℕ → Bool) where
  -- ---- what the tests say

  -- the bench holds channel c, or a marked thread does, t itself left aside
  unfoldable pub Known : List Bool → ℕ → ℕ → Type 0
  Known m t c = (c < ports tb) ⊎ ((u : ℕ) × (u < max_threads) × (u ≢ t) × (marked m u ≡ true) × (holds tb (thread s u) c ≡ true))

  known_elim : (m : List Bool) (t c : ℕ) → known tb s given m t c ≡ true → Known m t c
  unfolding known Known
  known_elim m t c e =
      let knows : ℕ → Bool = λ u. not (eqb u t) && (get_or m u false && holds tb (thread s u) c) in
      let k : (ltb c (ports tb) || some knows max_threads) ≡ true = search parts in
      ⊎_elim
      (λ l. inl (ltb-true c (ports tb) l))
      (λ h. let (u, l, x) = some_elim knows max_threads h in
      inr (u, l, eqb-false u t (not-true (eqb u t) (search parts)), search parts, search parts))
      (or_cases (ltb c (ports tb)) (some knows max_threads) k)

  known_low : (m : List Bool) (t c : ℕ) → known tb s given m t c ≡ true → ltb c max_channels ≡ true
  unfolding known
  known_low m t c e = search parts

  known_intro : (m : List Bool) (t c : ℕ) → c < max_channels → Known m t c → known tb s given m t c ≡ true
  unfolding known Known
  known_intro m t c b (inl l) = rw (lt-ltb c max_channels b, lt-ltb c (ports tb) l)
  known_intro m t c b (inr (u, l, n, k, h)) =
      let knows : ℕ → Bool = λ u. not (eqb u t) && (get_or m u false && holds tb (thread s u) c) in
      let y : knows u ≡ true = rw (ne_eqb u t n, k, h) in
      rw (lt-ltb c max_channels b) (or_right (ltb c (ports tb)) (some knows max_threads) (some_intro knows max_threads u l y))

  -- why a thread is in the next round: it was in the one before, or it offers on a channel that is known
  unfoldable pub Joins : List Bool → ℕ → Type 0
  Joins m t = (marked m t ≡ true) ⊎ ((d : Direction) × (c : ℕ) × (offers tb (thread s t) d c ≡ true) × Known m t c)

  reach_elim : (m : List Bool) (t i : ℕ) → is_waiting (thread s t) ≡ true → i < branch_count tb (stands_at (thread s t)) → reaches tb s given m t i ≡ true
      → (d : Direction) × (c : ℕ) × (offers tb (thread s t) d c ≡ true) × Known m t c
  unfolding reaches
  reach_elim m t i w l x =
      let row = thread s t in
      let r = branch_at tb (stands_at row) i in
      let c = slot_of row (field_a tb r) in
      let (d, does) = meeting_elim (act_of tb r) (search parts) in
      let b : ltb c max_channels ≡ true = known_low m t c (search parts) in (
        d,
        c,
        offers_intro tb row d c (record {
          waits = w;
          channel_in = ltb-true c max_channels b;
          branch = i;
          branch_in = l;
          passes = search parts;
          does = does;
          is = refl;
        }),
        known_elim m t c (search parts),
      )

  reach_intro : (m : List Bool) (t c : ℕ) (d : Direction) → (o : Offering tb (thread s t) d c) → Known m t c → reaches tb s given m t o.branch ≡ true
  unfolding reaches
  reach_intro m t c d o k =
      rw (o.passes, meeting_intro (act_of tb (branch_at tb (stands_at (thread s t)) o.branch)) d o.does, o.is) (known_intro m t c o.channel_in k)

  pub joins_elim : (m : List Bool) (t : ℕ) → joins tb s given m t ≡ true → Joins m t
  unfolding joins Joins
  joins_elim m t e =
      let n = branch_count tb (stands_at (thread s t)) in
      ⊎_elim
      (λ k. inl k)
      (λ h. let (i, l, x) = some_elim (reaches tb s given m t) n (search parts) in inr (reach_elim m t i (search parts) l x))
      (or_cases (get_or m t false) (is_waiting (thread s t) && some (reaches tb s given m t) n) e)

  pub joins_intro : (m : List Bool) (t : ℕ) → Joins m t → joins tb s given m t ≡ true
  unfolding joins Joins
  joins_intro m t (inl k) = rw k
  joins_intro m t (inr (d, c, o, k)) =
      let n = branch_count tb (stands_at (thread s t)) in
      let f = offers_elim tb (thread s t) d c o in
      or_right (get_or m t false) (is_waiting (thread s t) && some (reaches tb s given m t) n)
      (rw f.waits (some_intro (reaches tb s given m t) n f.branch f.branch_in (reach_intro m t c d f k)))

  begins_elim : (t : ℕ) → t < max_threads → begins tb s given t ≡ true → Enabled tb s given t
  unfolding begins
  begins_elim t l e =
      ⊎_elim (λ r. is_ready_lem l r) (λ h. from_start l (search parts) (search parts)) (or_cases (is_ready (thread s t)) (in_use (thread s t) && given t) e)

  -- ---- enabled threads and marks

  pub enabled_in : {t : ℕ} → Enabled tb s given t → t < max_threads
  enabled_in (from_start l u g) = l
  enabled_in (is_ready_lem l r) = l
  enabled_in (by_bench l d c o p) = l
  enabled_in (by_thread l d c o u n k e) = l

  -- from marks that are all on enabled threads, only enabled threads join
  pub joins_enabled : (m : List Bool) → ((u : ℕ) → marked m u ≡ true → Enabled tb s given u) → (t : ℕ) → t < max_threads → joins tb s given m t ≡ true
      → Enabled tb s given t
  unfolding Joins Known
  joins_enabled m h t l e =
      ⊎_elim (h t)
      (λ (d, c, o, k). ⊎_elim (λ p. by_bench l d c o p) (λ (u, b, n, x, y). by_thread l d c o u n y (h u x)) k)
      (joins_elim m t e)

  -- marks on all threads that begin so, which no other thread joins, are on every enabled thread
  pub enabled_closed : (m : List Bool) → ((t : ℕ) → t < max_threads → begins tb s given t ≡ true → marked m t ≡ true)
      → ((t : ℕ) → t < max_threads → joins tb s given m t ≡ true → marked m t ≡ true) → {t : ℕ} → Enabled tb s given t → marked m t ≡ true
  unfolding Joins Known begins
  enabled_closed m r c {t} (from_start l u g) = r t l (or_right (is_ready (thread s t)) (in_use (thread s t) && given t) (rw (u, g)))
  enabled_closed m r c {t} (is_ready_lem l h) = r t l (rw h)
  enabled_closed m r c {t} (by_bench l d x o p) = c t l (joins_intro m t (inr (d, x, o, inl p)))
  enabled_closed m r c {t} (by_thread l d x o u n k e) = c t l (joins_intro m t (inr (d, x, o, inr (u, enabled_in e, n, enabled_closed m r c e, k))))

  -- ---- the rounds

  keeps : (m : List Bool) (t : ℕ) → marked m t ≡ true → joins tb s given m t ≡ true
  unfolding Joins
  keeps m t e = joins_intro m t (inl e)

  more : (m m' : List Bool) → ((u : ℕ) → marked m u ≡ true → marked m' u ≡ true) → (t : ℕ) → joins tb s given m t ≡ true → joins tb s given m' t ≡ true
  unfolding Joins Known
  more m m' h t e =
      joins_intro m' t (⊎_elim (λ k. inl (h t k))
      (λ (d, c, o, k). inr (d, c, o, ⊎_elim (λ p. inl p) (λ (u, b, n, x, y). inr (u, b, n, h u x, y)) k))
      (joins_elim m t e))

  -- the computed set has exactly the enabled threads
  pub enabled_iff : (t : ℕ) → (get_or (enabled_set tb s given) t false ≡ true) ↔ Enabled tb s given t
  unfolding enabled_set rounds
  enabled_iff t =
      let r = rounds tb s given in
      let b = begins tb s given in
      let j = joins tb s given in (
        round_all max_threads b j r refl (λ k. refl) (Enabled tb s given) begins_elim joins_enabled max_threads t,
        enabled_closed (r max_threads) (round_root max_threads b j r refl (λ k. refl) keeps more max_threads)
            (round_closed max_threads b j r refl (λ k. refl) keeps more),
      )
