-- Patterns of 16 bits and their whole numbers: a pattern lies in a range exactly when its number does, and the field of a pattern is the print of its number.
-- Assumes nothing.
use Rattle.std.specs.Prelude.{ℕ, zero, suc, ◌-◌, ◌≤◌, ◌<◌, ◌≡◌, ◌⊎◌, ◌↔◌, Bool, true, false, T, ltb, ℤ, pos, negsuc, ◌≤ℤ◌}
use Rattle.std.proofs.Common.{arith, ◌∙◌, ap, inl, inr, ⊎_elim, leb→le, le→leb, to_z, ltb-true, ltb-false, lt-ltb, le-ltb}
use Rattle.std.proofs.Math.IntN.{pred_ℤ}
use Rattle.std.specs.Int.Signed.{le_z, le_z_yes}
use Rattle.std.specs.Int.{w16}
use Rattle.numbers.specs.Search.Laws.{case_b}
use Rattle.text.specs.Text.{numeral, text}
use Rattle.loader_laws.specs.Refused.{Limits, from, numbered, any_number, Within, decimal, printed}

-- ---- the number of a pattern

pub low_number : (v : ℕ) → v < 32768 → to_z w16 v ≡ pos v
low_number v h = rw (lt-ltb v 32768 h)

pub high_number : (v : ℕ) → 32768 ≤ v → to_z w16 v ≡ negsuc (65535 - v)
high_number v h = rw (le-ltb v 32768 h) (ap negsuc (omega arith))

-- each number of a field has its pattern
pub pattern : (z : ℤ) → Within any_number z → (v : ℕ) × (v < 65536) × (to_z w16 v ≡ z)
unfolding any_number
pattern (pos n) w = let h : n ≤ 32767 = leb→le n 32767 w.1.le in (n, omega arith, low_number n (omega arith))
pattern (negsuc n) w =
    let h : n ≤ 32767 = leb→le n 32767 w.0.le in
    (65535 - n, omega arith, high_number (65535 - n) (omega arith) ∙ ap negsuc (omega arith))

pub in_field : (v : ℕ) → v < 65536 → Within any_number (to_z w16 v)
unfolding any_number
in_field v h = case_b (ltb v 32768)
    (λ y. rw (low_number v (ltb-true v 32768 y)) (le_z_yes tt, le_z_yes (le→leb v 32767 (omega (arith, ltb-true v 32768 y)))))
    (λ y. rw (high_number v (ltb-false v 32768 y)) (le_z_yes (le→leb (65535 - v) 32767 (omega (arith, ltb-false v 32768 y))), le_z_yes tt))

-- ---- ranges

-- a pattern lies between two limits just when its number does
pub between_iff : (v lo hi : ℕ) → hi < 32768 → ((pos lo ≤ℤ to_z w16 v) × (to_z w16 v ≤ℤ pos hi)) ↔ ((lo ≤ v) × (v ≤ hi))
between_iff v lo hi f = (
  λ w. case_b (ltb v 32768)
      (λ y. let u : (pos lo ≤ℤ pos v) × (pos v ≤ℤ pos hi) = rw (low_number v (ltb-true v 32768 y)) at w in (leb→le lo v u.0.le, leb→le v hi u.1.le))
      (λ y. let u : pos lo ≤ℤ negsuc (65535 - v) = rw (high_number v (ltb-false v 32768 y)) at w.0 in absurd u.le),
  λ w. rw (low_number v (omega arith)) (le_z_yes (le→leb lo v w.0), le_z_yes (le→leb v hi w.1)),
)

pub from_iff : (v lo hi : ℕ) → hi < 32768 → Within (from lo hi) (to_z w16 v) ↔ ((lo ≤ v) × (v ≤ hi))
unfolding from
from_iff = between_iff

-- a number is within limits whose upper one is one below s exactly where its pattern is
pub below_iff : (v lo s : ℕ) → s < 32768 → ((pos lo ≤ℤ to_z w16 v) × (to_z w16 v ≤ℤ pred_ℤ (pos s))) ↔ ((lo ≤ v) × (v < s))
below_iff v lo zero f = (
  λ w. absurd (
      case_b (ltb v 32768)
      (λ y. let u : pos v ≤ℤ negsuc 0 = rw (low_number v (ltb-true v 32768 y)) at w.1 in u.le)
      (λ y. let u : pos lo ≤ℤ negsuc (65535 - v) = rw (high_number v (ltb-false v 32768 y)) at w.0 in u.le)
      ),
  λ w. absurd (let z : ⊥ = omega arith in z),
)
below_iff v lo (suc s) f = let b = between_iff v lo s (omega arith) in
    (λ w. let u = b.0 w in (u.0, omega arith), λ w. b.1 (w.0, omega arith))

pub numbered_iff : (v s : ℕ) → s < 32768 → Within (numbered (pos s)) (to_z w16 v) ↔ (v < s)
unfolding numbered
numbered_iff v s f = let b = below_iff v 0 s f in (λ w. (b.0 w).1, λ w. b.1 (omega arith, w))

pub zero_iff : (v : ℕ) → Within (from 0 0) (to_z w16 v) ↔ (v ≡ 0)
zero_iff v = let b = from_iff v 0 0 (omega arith) in (λ w. let u = b.0 w in omega arith, λ e. b.1 (omega arith, omega arith))

-- whether a number lies in a range is settled
settled : (t : Bool) → T t ⊎ (¬ T t)
settled true = inl tt
settled false = inr (λ x. x)

order_or : (a b : ℤ) → (a ≤ℤ b) ⊎ (¬ (a ≤ℤ b))
order_or a b = ⊎_elim (λ t. inl (le_z_yes t)) (λ f. inr (λ l. f l.le)) (settled (le_z a b))

pub within_or : (r : Limits) (z : ℤ) → Within r z ⊎ (¬ Within r z)
within_or r z =
    ⊎_elim (λ a. ⊎_elim (λ b. inl (a, b)) (λ f. inr (λ w. f w.1)) (order_or z r.most))
    (λ f. inr (λ w. f w.0)) (order_or r.least z)

-- of n things not all are so: one is not
pub not_all : (P : ℕ → Type 0) → ((k : ℕ) → P k ⊎ (¬ P k)) → (n : ℕ) → ¬ ((k : ℕ) → k < n → P k) → (k : ℕ) × (k < n) × (¬ P k)
not_all P d zero f = absurd (f (λ k h. absurd (let z : ⊥ = omega arith in z)))
not_all P d (suc n) f = ⊎_elim
    (λ p. let (k, h, q) = not_all P d n (λ a. f (λ k h. ⊎_elim (λ e. rw e p) (λ l. a k l) (last k h))) in (k, omega arith, q))
    (λ q. (n, omega arith, q)) (d n)
  where
    last : (k : ℕ) → k < suc n → (k ≡ n) ⊎ (k < n)
    last k h = case_b (ltb k n) (λ y. inr (ltb-true k n y)) (λ y. inl (omega (arith, ltb-false k n y)))

-- ---- prints

pub text_printed : (v : ℕ) → v < 65536 → text v ≡ printed (to_z w16 v)
unfolding text numeral decimal
text_printed v h = case_b (ltb v 32768)
    (λ y. rw (low_number v (ltb-true v 32768 y), le-ltb 32767 v (omega (arith, ltb-true v 32768 y))))
    (λ y. let e : 65536 - v ≡ suc (65535 - v) = omega arith in rw (high_number v (ltb-false v 32768 y), lt-ltb 32767 v (ltb-false v 32768 y), e))
