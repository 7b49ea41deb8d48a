-- Lists of rights for the instances of the theorems on seats: every seat may do everything; a shop with a leader at seat 0, a trainee at seat 1 and others, of
-- which is said what each may do and what not (`rules/specs/Seats/Entitled.antt`); and one that is not in order. Assumes nothing.
use Rattle.std.specs.Prelude.{ℕ, ◌<◌, ◌≡◌, refl, Bool, true, false, List, [], ◌∷◌, ◌++◌, ◌⊎◌, ltb, leb, eqb, pos, length, get_or, replicate}
use Rattle.std.proofs.Common.{arith, inl, inr, ⊎_elim, ltb-true, ltb-false, leb-true}
use Rattle.std.proofs.Math.ListN.{get_or-eq_default}
use Rattle.std.proofs.lemmas.Bool.{eqb-false}
use Rattle.numbers.specs.Bytes.{words, encode}
use Rattle.numbers.specs.Bytes.Laws.{length_encode, encode_below, numbers_encode}
use Rattle.numbers.specs.Search.{every, tabulate, computing}
use Rattle.numbers.specs.Search.Laws.{case_b, every_elim}
use Rattle.rules.specs.Seats.{rights_length, right_at, right_in_range, rights_in_range, grants_first, grants_second, grants, has_right}
use Rattle.rules.specs.Seats.Entitled.{Entitled}
use Rattle.rules.specs.declared.Right.TheVariants.{Take, Give, StepAndRun, Collect}

-- the bytes of a list of numbers
abbrev pub listed : List ℕ → List ℕ
listed ns = encode 4 ns

pub listed_small : (ns : List ℕ) (i : ℕ) → get_or (listed ns) i 0 < 256
listed_small ns i = encode_below 4 ns i

-- numbers up to 4 are read back
few : (ns : List ℕ) → every (λ i. leb (get_or ns i 0) 4) (length ns) ≡ true → (i : ℕ) → get_or ns i 0 < 4294967296
few ns e i = case_b (ltb i (length ns))
    (λ y. omega (arith, leb-true (get_or ns i 0) 4 (every_elim (λ i. leb (get_or ns i 0) 4) (length ns) i e (ltb-true i (length ns) y))))
    (λ y. omega (arith, get_or-eq_default ns 0 {n = i} (ltb-false i (length ns) y)))

pub read_back : (ns : List ℕ) → every (λ i. leb (get_or ns i 0) 4) (length ns) ≡ true → words (listed ns) ≡ ns
read_back ns e = numbers_encode 4 ns (omega arith) (few ns e)

-- ---- every seat may do everything

pub full : List ℕ
full = listed (replicate 72 3)

pub full_read : words full ≡ replicate 72 3
unfolding full computing
full_read = read_back (replicate 72 3) refl

pub full_long : length full ≡ rights_length
unfolding full
full_long = length_encode 4 (replicate 72 3)

pub full_small : (i : ℕ) → get_or full i 0 < 256
unfolding full
full_small = listed_small (replicate 72 3)

pub full_in_range : rights_in_range full ≡ true
unfolding rights_in_range right_in_range computing
full_in_range = rw full_read refl

-- at seat 0 in the instances
pub full_steps : has_right full 0 StepAndRun ≡ true
unfolding has_right grants grants_first right_at
full_steps = rw full_read refl

pub full_collects : has_right full 0 Collect ≡ true
unfolding has_right grants grants_second right_at
full_collects = rw full_read refl

pub full_gives : has_right full 0 (Give 0) ≡ true
unfolding has_right grants grants_second right_at
full_gives = rw full_read refl

-- ---- a shop: the list that docs/SEATS.md works out, and behind the trainee the other seats that the page names. No seat at which somebody sits has nine equal
-- numbers

abbrev leader_numbers : List ℕ
leader_numbers = 2 ∷ 1 ∷ 0 ∷ 0 ∷ 0 ∷ 0 ∷ 0 ∷ 0 ∷ 3 ∷ []

abbrev trainee_numbers : List ℕ
trainee_numbers = 0 ∷ 1 ∷ 0 ∷ 0 ∷ 0 ∷ 0 ∷ 0 ∷ 0 ∷ 1 ∷ []

-- a feeder, somebody who clears the bench at night, a clock, a repairer
abbrev other_numbers : List ℕ
other_numbers = (2 ∷ replicate 8 0) ++ (replicate 8 0 ++ (2 ∷ (replicate 8 0 ++ (1 ∷ leader_numbers))))

-- seats 6 and 7 are empty
abbrev shop_numbers : List ℕ
shop_numbers = leader_numbers ++ (trainee_numbers ++ (other_numbers ++ replicate 18 0))

pub shop : List ℕ
shop = listed shop_numbers

shop_read : words shop ≡ shop_numbers
unfolding shop computing
shop_read = read_back shop_numbers refl

pub shop_long : length shop ≡ rights_length
unfolding shop
shop_long = length_encode 4 shop_numbers

pub shop_small : (i : ℕ) → get_or shop i 0 < 256
unfolding shop
shop_small = listed_small shop_numbers

pub shop_in_range : rights_in_range shop ≡ true
unfolding rights_in_range right_in_range computing
shop_in_range = rw shop_read refl

-- ---- what its seats may do, in document 02's words

neither : (m a b : ℕ) → eqb m a ≡ false → eqb m b ≡ false → ¬ ((pos m ≡ pos a) ⊎ (pos m ≡ pos b))
neither m a b f g = ⊎_elim (λ e. eqb-false m a f cc) (λ e. eqb-false m b g cc)

-- the leader gives at port 0 and takes at port 1, steps, runs and collects
pub leader_entitled : Entitled shop 0 (Give 0) × Entitled shop 0 (Take 1) × Entitled shop 0 StepAndRun × Entitled shop 0 Collect
unfolding Entitled
leader_entitled = (
  (omega arith, omega arith, inl (rw shop_read refl)),
  (omega arith, omega arith, inl (rw shop_read refl)),
  (omega arith, inr (rw shop_read refl)),
  (omega arith, inr (rw shop_read refl)),
)

-- and not the other way round, nor at port 7
pub leader_not_entitled : (¬ Entitled shop 0 (Take 0)) × (¬ Entitled shop 0 (Give 1)) × (¬ Entitled shop 0 (Take 7)) × (¬ Entitled shop 0 (Give 7))
unfolding Entitled
leader_not_entitled = (
  λ (s, p, n). neither 2 1 3 refl refl (rw shop_read at n),
  λ (s, p, n). neither 1 2 3 refl refl (rw shop_read at n),
  λ (s, p, n). neither 0 1 3 refl refl (rw shop_read at n),
  λ (s, p, n). neither 0 2 3 refl refl (rw shop_read at n),
)

-- the trainee takes at port 1, steps and runs
pub trainee_entitled : Entitled shop 1 (Take 1) × Entitled shop 1 StepAndRun
unfolding Entitled
trainee_entitled = ((omega arith, omega arith, inl (rw shop_read refl)), (omega arith, inl (rw shop_read refl)))

-- gives nowhere, takes nothing at port 0, and does not collect
pub trainee_not_entitled : (¬ Entitled shop 1 (Give 0)) × (¬ Entitled shop 1 (Take 0)) × (¬ Entitled shop 1 (Give 1)) × (¬ Entitled shop 1 Collect)
unfolding Entitled
trainee_not_entitled = (
  λ (s, p, n). neither 0 2 3 refl refl (rw shop_read at n),
  λ (s, p, n). neither 0 1 3 refl refl (rw shop_read at n),
  λ (s, p, n). neither 1 2 3 refl refl (rw shop_read at n),
  λ (s, n). neither 1 2 3 refl refl (rw shop_read at n),
)

-- ---- the same by the tests, port by port

-- of the ports 0 to 7 those where a seat may take, and where it may give
abbrev pub takes_at : List ℕ → ℕ → List Bool
takes_at rights seat = tabulate 8 (λ p. has_right rights seat (Take p))

abbrev pub gives_at : List ℕ → ℕ → List Bool
gives_at rights seat = tabulate 8 (λ p. has_right rights seat (Give p))

pub leader_ports : (takes_at shop 0 ≡ false ∷ true ∷ replicate 6 false) × (gives_at shop 0 ≡ true ∷ replicate 7 false)
unfolding has_right grants grants_first grants_second right_at computing
leader_ports = (rw shop_read refl, rw shop_read refl)

pub trainee_ports : (takes_at shop 1 ≡ false ∷ true ∷ replicate 6 false) × (gives_at shop 1 ≡ replicate 8 false)
unfolding has_right grants grants_first grants_second right_at computing
trainee_ports = (rw shop_read refl, rw shop_read refl)

-- the feeder, the night's clearer and the clock
pub others_ports : (gives_at shop 2 ≡ true ∷ replicate 7 false) × (takes_at shop 2 ≡ replicate 8 false)
    × (gives_at shop 3 ≡ replicate 8 false) × (takes_at shop 3 ≡ replicate 8 false)
    × (gives_at shop 4 ≡ replicate 8 false) × (takes_at shop 4 ≡ replicate 8 false)
unfolding has_right grants grants_first grants_second right_at computing
others_ports = (rw shop_read refl, rw shop_read refl, rw shop_read refl, rw shop_read refl, rw shop_read refl, rw shop_read refl)

pub leader_may : (has_right shop 0 (Give 0) ≡ true) × (has_right shop 0 Collect ≡ true) × (has_right shop 0 StepAndRun ≡ true)
unfolding has_right grants grants_first grants_second right_at
leader_may = (rw shop_read refl, rw shop_read refl, rw shop_read refl)

pub trainee_may : (has_right shop 1 (Take 1) ≡ true) × (has_right shop 1 StepAndRun ≡ true)
unfolding has_right grants grants_first right_at
trainee_may = (rw shop_read refl, rw shop_read refl)

pub trainee_may_not : (has_right shop 1 (Give 0) ≡ false) × (has_right shop 1 Collect ≡ false)
unfolding has_right grants grants_second right_at
trainee_may_not = (rw shop_read refl, rw shop_read refl)

-- of the bench as a whole: the feeder nothing, the night's clearer only collections, the clock only steps and runs, an empty seat nothing
pub others_bench : (has_right shop 2 StepAndRun ≡ false) × (has_right shop 2 Collect ≡ false)
    × (has_right shop 3 StepAndRun ≡ false) × (has_right shop 3 Collect ≡ true)
    × (has_right shop 4 StepAndRun ≡ true) × (has_right shop 4 Collect ≡ false)
    × (has_right shop 6 StepAndRun ≡ false) × (has_right shop 6 Collect ≡ false)
unfolding has_right grants grants_first grants_second right_at
others_bench =
    (rw shop_read refl, rw shop_read refl, rw shop_read refl, rw shop_read refl, rw shop_read refl, rw shop_read refl, rw shop_read refl, rw shop_read refl)

-- the ninth number of seat 0 is 3, and is no port's; and behind seat 7 there is no seat
pub none_beyond : (has_right shop 0 (Take 8) ≡ false) × (has_right shop 0 (Give 8) ≡ false) × (has_right shop 8 StepAndRun ≡ false) × (has_right shop 4294967295 Collect ≡ false)
unfolding has_right grants
none_beyond = (refl, refl, refl, refl)

-- ---- a list whose last number is 4

abbrev stray_numbers : List ℕ
stray_numbers = leader_numbers ++ (trainee_numbers ++ (other_numbers ++ (replicate 17 0 ++ (4 ∷ []))))

pub stray : List ℕ
stray = listed stray_numbers

pub stray_last : get_or (words stray) 71 0 ≡ 4
unfolding stray computing
stray_last = rw (read_back stray_numbers refl) refl

pub stray_long : length stray ≡ rights_length
unfolding stray
stray_long = length_encode 4 stray_numbers

pub stray_small : (i : ℕ) → get_or stray i 0 < 256
unfolding stray
stray_small = listed_small stray_numbers
