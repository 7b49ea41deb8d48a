-- Propositions 3, 4 and 5 of 002: (stuck) takes no enabled thread, it may take all disabled ones at once, and each disabled one with others. Assumes nothing.
use Rattle.std.specs.Prelude.{ℕ, zero, suc, ◌+◌, ◌-◌, ◌≤◌, ◌<◌, ◌≡◌, ◌⊎◌, ◌≢◌, ◌↔◌, true, ◌&&◌, ◌||◌, List, [], ◌∷◌, ◌++◌, ltb, eqb, length, get_or}
use Rattle.std.proofs.Common.{arith, sym, ◌∙◌, ap, length-append, get_or-append-add}
use Rattle.std.proofs.Math.Path.{refl}
use Rattle.std.proofs.Math.Logic.{inl, inr, ⊎_elim}
use Rattle.std.proofs.Math.Bool.{Bool, false, not}
use Rattle.std.proofs.Math.ListN.{get_or-append}
use borrow.Author.Tests.{ltb-true, ltb-false, eqb-false, ne_eqb, not-true, not-false}
use Rattle.numbers.specs.Search.{some, tabulate}
use Rattle.numbers.specs.Search.Laws.{case_b, contra, some_elim, some_intro}
use Rattle.numbers.specs.Tests.{parts}
use Rattle.std.proofs.lemmas.Bool.{or_cases, or_right}
use Rattle.marking.specs.Rounds.{round_all, round_root, round_closed}
use Rattle.published.specs.Syntax.{Process, end, waiting}
use Rattle.published.specs.Agents.{◌∈◌, Commitment, channel_of, Thread, thread, Channels, Agent, agent, nth, knows, globalrc, Commits}
use Rattle.published.specs.Rules.{Rearranged, none_left, same_first, twice, Sticks, stuck, Reduces, sticks, exchange}
use Rattle.published.specs.Cliques.{chosen}
use Rattle.published.specs.Enabling.{Enabled, active, awoken, Disabled, enabled_in}
use Rattle.published.specs.ProductLaws.{in_nth, nth_in, same_order, to_front, turned_back, unknown, none_knows}

-- ---- the places of a product of two parts

nth_left : (A B : List Thread) (j : ℕ) → j < length A → nth (A ++ B) j ≡ nth A j
nth_left A B j l = get_or-append A B (thread [] [] end) j l

nth_right : (A B : List Thread) (j : ℕ) → length A ≤ j → nth (A ++ B) j ≡ nth B (j - length A)
nth_right A B j l =
    let q : length A + (j - length A) ≡ j = omega arith in
    ap (λ (n : ℕ). nth (A ++ B) n) (sym q) ∙ get_or-append-add A B (j - length A) (thread [] [] end)

-- ---- Proposition 3

module _ (A B : List Thread) (waits : (t : Thread) → t ∈ A → waiting t.process ≡ true)
    (none : (t : Thread) → t ∈ A → (ĉ : ℕ) → Commits t.commitments ĉ → globalrc ĉ B ≡ 0) where
  enabled_behind : {j : ℕ} → Enabled (A ++ B) j → length A ≤ j
  enabled_behind {j} (active l w) =
      case_b (ltb j (length A))
      (λ y. let b = ltb-true j (length A) y in contra (waits (nth A j) (nth_in A j b)) (rw (nth_left A B j b) at w))
      (λ y. ltb-false j (length A) y)
  enabled_behind {j} (awoken l w ĉ i k n e h) =
      case_b (ltb j (length A))
      (λ y. let b = ltb-true j (length A) y in
      let f = enabled_behind e in
      let m : k - length A < length B = omega (arith, enabled_in (A ++ B) e, length-append A B) in
      let z = none (nth A j) (nth_in A j b) ĉ (rw (nth_left A B j b) at i) in
      contra (rw (nth_right A B k f) at h) (unknown ĉ B z (nth B (k - length A)) (nth_in B (k - length A) m)))
      (λ y. ltb-false j (length A) y)

  -- none of the threads that (stuck) takes is enabled
  pub proposition_3 : (j : ℕ) → j < length A → Disabled (A ++ B) j
  proposition_3 j l e = let h = enabled_behind e in absurd (omega arith)

-- ---- Proposition 4

-- a disabled thread waits, and no enabled one knows a channel of a commitment of it
module _ (A : List Thread) (j : ℕ) (l : j < length A) (d : Disabled A j) where
  disabled_waits : waiting (nth A j).process ≡ true
  disabled_waits = case_b (waiting (nth A j).process) (λ y. y) (λ n. absurd (d (active l n)))

  disabled_unknown : (ĉ : ℕ) → Commits (nth A j).commitments ĉ → (k : ℕ) → Enabled A k → knows ĉ (nth A k) ≡ false
  disabled_unknown ĉ i k e =
      case_b (knows ĉ (nth A k)) (λ h. absurd (d (awoken l disabled_waits ĉ i k (λ q. d (rw q at e)) e h))) (λ n. n)

module _ (Δ : Channels) where
  -- where the threads of A are disabled and those of B enabled, (stuck) takes all of A (the result is printed with Δ', though the rule leaves Δ)
  module _ (A B : List Thread) (disabled : (j : ℕ) → j < length A → Disabled (A ++ B) j)
      (enabled : (k : ℕ) → length A ≤ k → k < length (A ++ B) → Enabled (A ++ B) k) where
    within : (j : ℕ) → j < length A → j < length (A ++ B)
    within j l = omega (arith, length-append A B)

    part_waits : (t : Thread) → t ∈ A → waiting t.process ≡ true
    part_waits t i =
        let (j, l, q) = in_nth t A i in
        let h = disabled_waits (A ++ B) j (within j l) (disabled j l) in
        rw (nth_left A B j l ∙ q) at h

    part_unknown : (t : Thread) → t ∈ A → (ĉ : ℕ) → Commits t.commitments ĉ → globalrc ĉ B ≡ 0
    part_unknown t i ĉ c =
        let (j, l, q) = in_nth t A i in
        let e : nth (A ++ B) j ≡ t = nth_left A B j l ∙ q in
        none_knows ĉ B (λ u m. let (k, b, p) = in_nth u B m in
        let z = disabled_unknown (A ++ B) j (within j l) (disabled j l) ĉ (rw e c) (length A + k)
        (enabled (length A + k) (omega arith) (omega (arith, length-append A B))) in
        rw (get_or-append-add A B k (thread [] [] end) ∙ p) at z)

    pub proposition_4 : Sticks (agent Δ (A ++ B)) (agent Δ B)
    proposition_4 = stuck A B part_waits part_unknown

-- ---- the enabled threads, computed by rounds of marks

unfoldable pub any_of : (Commitment → Bool) → List Commitment → Bool
any_of p [] = false
any_of p (k ∷ Γ) = p k || any_of p Γ

any_elim : (p : Commitment → Bool) (Γ : List Commitment) → any_of p Γ ≡ true → (k : Commitment) × (k ∈ Γ) × (p k ≡ true)
unfolding any_of
any_elim p [] e = contra e refl
any_elim p (k ∷ Γ) e =
    ⊎_elim (λ y. (k, inl refl, y)) (λ y. let (h, i, q) = any_elim p Γ y in (h, inr i, q)) (or_cases (p k) (any_of p Γ) e)

any_intro : (p : Commitment → Bool) (Γ : List Commitment) (k : Commitment) → k ∈ Γ → p k ≡ true → any_of p Γ ≡ true
unfolding any_of
any_intro p [] k i y = absurd i
any_intro p (h ∷ Γ) k (inl q) y = let z : p h ≡ true = rw q at y in rw z
any_intro p (h ∷ Γ) k (inr i) y = or_right (p h) (any_of p Γ) (any_intro p Γ k i y)

module _ (A : List Thread) where
  -- a marked thread, j left aside, knows channel ĉ
  heard : List Bool → ℕ → ℕ → Bool
  heard m j ĉ = some (λ k. not (eqb k j) && (get_or m k false && knows ĉ (nth A k))) (length A)

  joins : List Bool → ℕ → Bool
  joins m j = get_or m j false || any_of (λ k. heard m j (channel_of k)) (nth A j).commitments

  begins : ℕ → Bool
  begins j = not (waiting (nth A j).process)

  rounds : ℕ → List Bool
  rounds zero = tabulate (length A) begins
  rounds (suc k) = tabulate (length A) (joins (rounds k))

  Heard : List Bool → ℕ → ℕ → Type 0
  Heard m j ĉ = (k : ℕ) × (k < length A) × (k ≢ j) × (get_or m k false ≡ true) × (knows ĉ (nth A k) ≡ true)

  heard_elim : (m : List Bool) (j ĉ : ℕ) → heard m j ĉ ≡ true → Heard m j ĉ
  unfolding heard Heard
  heard_elim m j ĉ e =
      let (k, l, h) = some_elim (λ k. not (eqb k j) && (get_or m k false && knows ĉ (nth A k))) (length A) e in
      (k, l, eqb-false k j (not-true (eqb k j) (search parts)), search parts, search parts)

  heard_intro : (m : List Bool) (j ĉ : ℕ) → Heard m j ĉ → heard m j ĉ ≡ true
  unfolding heard Heard
  heard_intro m j ĉ (k, l, n, y, h) =
      some_intro (λ k. not (eqb k j) && (get_or m k false && knows ĉ (nth A k))) (length A) k l (rw (ne_eqb k j n, y, h))

  Joins : List Bool → ℕ → Type 0
  Joins m j = (get_or m j false ≡ true) ⊎ ((ĉ : ℕ) × Commits (nth A j).commitments ĉ × Heard m j ĉ)

  joins_elim : (m : List Bool) (j : ℕ) → joins m j ≡ true → Joins m j
  unfolding joins Joins
  joins_elim m j e =
      let p : Commitment → Bool = λ k. heard m j (channel_of k) in
      ⊎_elim (λ y. inl y)
      (λ y. let (k, i, h) = any_elim p (nth A j).commitments y in inr (channel_of k, (k, i, refl), heard_elim m j (channel_of k) h))
      (or_cases (get_or m j false) (any_of p (nth A j).commitments) e)

  joins_intro : (m : List Bool) (j : ℕ) → Joins m j → joins m j ≡ true
  unfolding joins Joins
  joins_intro m j (inl y) = rw y
  joins_intro m j (inr (ĉ, (k, i, q), h)) =
      or_right (get_or m j false) (any_of (λ k. heard m j (channel_of k)) (nth A j).commitments)
      (any_intro (λ k. heard m j (channel_of k)) (nth A j).commitments k i (rw q (heard_intro m j ĉ h)))

  begins_enabled : (j : ℕ) → j < length A → begins j ≡ true → Enabled A j
  unfolding begins
  begins_enabled j l e = active l (not-true (waiting (nth A j).process) e)

  joins_enabled : (m : List Bool) → ((k : ℕ) → get_or m k false ≡ true → Enabled A k) → (j : ℕ) → j < length A → joins m j ≡ true → Enabled A j
  unfolding Joins Heard
  joins_enabled m f j l e =
      ⊎_elim (λ y. f j y)
      (λ (ĉ, i, (k, b, n, y, h)). case_b (waiting (nth A j).process)
      (λ w. awoken l w ĉ i k n (f k y) h)
      (λ w. active l w))
      (joins_elim m j e)

  keeps : (m : List Bool) (j : ℕ) → get_or m j false ≡ true → joins m j ≡ true
  unfolding Joins
  keeps m j e = joins_intro m j (inl e)

  increases : (m m' : List Bool) → ((u : ℕ) → get_or m u false ≡ true → get_or m' u false ≡ true) → (j : ℕ) → joins m j ≡ true → joins m' j ≡ true
  unfolding Joins Heard
  increases m m' f j e =
      joins_intro m' j (⊎_elim (λ y. inl (f j y)) (λ (ĉ, i, (k, b, n, y, h)). inr (ĉ, i, (k, b, n, f k y, h))) (joins_elim m j e))

  -- as many rounds as there are threads find them all
  pub marks : List Bool
  marks = rounds (length A)

  closed_marked : (m : List Bool) → ((j : ℕ) → j < length A → begins j ≡ true → get_or m j false ≡ true)
      → ((j : ℕ) → j < length A → joins m j ≡ true → get_or m j false ≡ true) → {j : ℕ} → Enabled A j → get_or m j false ≡ true
  unfolding begins Joins Heard
  closed_marked m r c {j} (active l w) = r j l (rw w)
  closed_marked m r c {j} (awoken l w ĉ i k n e h) =
      c j l (joins_intro m j (inr (ĉ, i, (k, enabled_in A e, n, closed_marked m r c e, h))))

  pub marks_iff : (j : ℕ) → (get_or marks j false ≡ true) ↔ Enabled A j
  unfolding marks rounds
  marks_iff j = (
    round_all (length A) begins joins rounds refl (λ k. refl) (Enabled A) begins_enabled joins_enabled (length A) j,
    closed_marked (rounds (length A)) (round_root (length A) begins joins rounds refl (λ k. refl) keeps increases (length A))
        (round_closed (length A) begins joins rounds refl (λ k. refl) keeps increases),
  )

-- ---- parts of a product by a test of the places

pub parted : (q : ℕ → Bool) (A : List Thread) → Rearranged A (chosen q A ++ chosen (λ j. not (q j)) A)
unfolding chosen
parted q [] = none_left
parted q (t ∷ A) =
    let h = parted (λ j. q (suc j)) A in
    case_b (q 0)
    (λ y. rw y (same_first h))
    (λ y. rw y (twice (same_first h) (turned_back (to_front (chosen (λ j. q (suc j)) A) t (chosen (λ j. not (q (suc j))) A)))))

in_chosen : (q : ℕ → Bool) (A : List Thread) (t : Thread) → t ∈ chosen q A → (j : ℕ) × (j < length A) × (q j ≡ true) × (nth A j ≡ t)
unfolding chosen
in_chosen q [] t i = absurd i
in_chosen q (u ∷ A) t i =
    let later : t ∈ chosen (λ j. q (suc j)) A → (j : ℕ) × (j < length (u ∷ A)) × (q j ≡ true) × (nth (u ∷ A) j ≡ t) =
    λ k. (let (j, l, y, e) = in_chosen (λ j. q (suc j)) A t k in (suc j, omega arith, y, e)) in
    case_b (q 0)
    (λ y. ⊎_elim (λ e. (0, omega arith, y, sym e)) later (rw y at i))
    (λ y. later (rw y at i))

chosen_in : (q : ℕ → Bool) (A : List Thread) (j : ℕ) → j < length A → q j ≡ true → nth A j ∈ chosen q A
unfolding chosen
chosen_in q [] j l y = absurd (omega arith)
chosen_in q (t ∷ A) zero l y = rw y (inl refl)
chosen_in q (t ∷ A) (suc j) l y =
    let h = chosen_in (λ k. q (suc k)) A j (omega arith) y in case_b (q 0) (λ z. rw z (inr h)) (λ z. rw z h)

-- ---- Proposition 4 where disabled and enabled threads stand in any order, and Proposition 5

module _ (Δ : Channels) (A : List Thread) where
  -- q is a test that says which threads are disabled
  module _ (q : ℕ → Bool) (disabled : (j : ℕ) → j < length A → q j ≡ true → Disabled A j)
      (enabled : (k : ℕ) → k < length A → q k ≡ false → Enabled A k) where
    chosen_waits : (t : Thread) → t ∈ chosen q A → waiting t.process ≡ true
    chosen_waits t i = let (j, l, y, e) = in_chosen q A t i in rw e at (disabled_waits A j l (disabled j l y))

    chosen_unknown : (t : Thread) → t ∈ chosen q A → (ĉ : ℕ) → Commits t.commitments ĉ → globalrc ĉ (chosen (λ j. not (q j)) A) ≡ 0
    chosen_unknown t i ĉ c =
        let (j, l, y, e) = in_chosen q A t i in
        none_knows ĉ (chosen (λ j. not (q j)) A) (λ u m. let (k, b, z, f) = in_chosen (λ j. not (q j)) A u m in
        rw f at (disabled_unknown A j l (disabled j l y) ĉ (rw e c) k (enabled k b (not-true (q k) z))))

    pub clique : Sticks (agent Δ (chosen q A ++ chosen (λ j. not (q j)) A)) (agent Δ (chosen (λ j. not (q j)) A))
    clique = stuck (chosen q A) (chosen (λ j. not (q j)) A) chosen_waits chosen_unknown

    pub all_at_once : (def : ℕ → Process) (More : Agent → Agent → Type 0) → Reduces def More (agent Δ A) (agent Δ (chosen (λ j. not (q j)) A))
    all_at_once def More = exchange (parted q A) (sticks clique) (same_order (chosen (λ j. not (q j)) A))

  unmarked : ℕ → Bool
  unmarked j = not (get_or (marks A) j false)

  unmarked_disabled : (j : ℕ) → j < length A → unmarked j ≡ true → Disabled A j
  unfolding unmarked
  unmarked_disabled j l y e = contra ((marks_iff A j).1 e) (not-true (get_or (marks A) j false) y)

  marked_enabled : (k : ℕ) → k < length A → unmarked k ≡ false → Enabled A k
  unfolding unmarked
  marked_enabled k l y = (marks_iff A k).0 (not-false (get_or (marks A) k false) y)

  disabled_unmarked : (j : ℕ) → Disabled A j → unmarked j ≡ true
  unfolding unmarked
  disabled_unmarked j d = case_b (get_or (marks A) j false) (λ y. absurd (d ((marks_iff A j).0 y))) (λ y. rw y)

  -- each disabled thread is one of some threads, all of them disabled, that (stuck) takes together
  pub proposition_5 : (j : ℕ) → j < length A → Disabled A j
      → (C : List Thread) × (R : List Thread) × Rearranged A (C ++ R) × (nth A j ∈ C)
      × ((t : Thread) → t ∈ C → (k : ℕ) × (k < length A) × (nth A k ≡ t) × Disabled A k)
      × Sticks (agent Δ (C ++ R)) (agent Δ R)
  proposition_5 j l d = (
    chosen unmarked A,
    chosen (λ j. not (unmarked j)) A,
    parted unmarked A,
    chosen_in unmarked A j l (disabled_unmarked j d),
    (λ t i. let (k, b, y, e) = in_chosen unmarked A t i in (k, b, e, unmarked_disabled k b y)),
    clique unmarked unmarked_disabled marked_enabled,
  )
