-- The numbers of grounds tell them apart. Assumes nothing.
use Rattle.std.specs.Prelude.{ℕ, ◌≤◌, ◌≡◌, refl, cond, eqb}
use Rattle.std.proofs.Common.{arith, sym, ◌∙◌, ap}
use Rattle.rules.specs.declared.Refusal.{Refusal}
use Rattle.rules.specs.declared.Refusal.TheVariants.{Length, Table, Rights, Seat, State, Thread, Port, ThreadRow, ChannelRow}
use Rattle.engine.specs.Numbers.{refusal_number}

-- the ground of a number
unfoldable ground_of : ℕ → Refusal
ground_of n =
    cond (eqb n 8) Length
    (cond (eqb n 9) Table
    (cond (eqb n 10) State
    (cond (eqb n 11) Thread
    (cond (eqb n 12) Port
    (cond (eqb n 13) ThreadRow
    (cond (eqb n 14) ChannelRow
    (cond (eqb n 18) Rights Seat)))))))

-- a ground is told by its number, which is one of the engine's grounds
told : (r : Refusal) → (ground_of (refusal_number r) ≡ r) × (8 ≤ refusal_number r) × (refusal_number r ≤ 19)
unfolding ground_of refusal_number
told Length = (refl, omega arith, omega arith)
told Table = (refl, omega arith, omega arith)
told Rights = (refl, omega arith, omega arith)
told Seat = (refl, omega arith, omega arith)
told State = (refl, omega arith, omega arith)
told Thread = (refl, omega arith, omega arith)
told Port = (refl, omega arith, omega arith)
told ThreadRow = (refl, omega arith, omega arith)
told ChannelRow = (refl, omega arith, omega arith)

pub ground_range : (r : Refusal) → (8 ≤ refusal_number r) × (refusal_number r ≤ 19)
ground_range r = ((told r).1, (told r).2)

-- grounds with one number are one ground
pub same_number : (q r : Refusal) → refusal_number q ≡ refusal_number r → q ≡ r
same_number q r e = sym (told q).0 ∙ ap ground_of e ∙ (told r).0
