-- What the admission of a seat lets through, that it asks of the state its length alone, and that a call at a seat is its refusal or the call without seats.
-- Assumes nothing.
use Rattle.rules.specs.Answers.{Admission}
use Rattle.std.specs.Prelude.{ℕ, ◌≡◌, Bool, true, false, cond, List, eqb, length, Err, Ok}
use Rattle.std.proofs.Math.Path.{refl}
use Rattle.std.proofs.Common.{eqb-true}
use Rattle.rules.specs.Calls.{Outcome, outcome, and_then, lengths_right, start_admission}
use Rattle.rules.specs.Calls.Laws.{not_admitted}
use Rattle.rules.specs.Seats.{rights_length, rights_in_range, has_right, rights_admission, seat_admission, by_seat, at_seat}
use Rattle.rules.specs.declared.Right.{Right}
use Rattle.rules.specs.declared.Refusal.{Refusal}
use Rattle.rules.specs.declared.Refusal.TheVariants as Ground

both : (p q : Bool) → ◌≡◌ {A = Admission} (cond p (cond q (Ok tt) (Err Ground.Seat)) (Err Ground.Rights)) (Ok tt) → (p ≡ true) × (q ≡ true)
both true true e = (refl, refl)
both true false e = not_admitted Ground.Seat e
both false q e = not_admitted Ground.Rights e

-- the list has its length, and both admissions hold
all_three : (p : Bool) (a b : Admission) → cond p (and_then a b) (Err Ground.Length) ≡ Ok tt → (p ≡ true) × (a ≡ Ok tt) × (b ≡ Ok tt)
unfolding and_then
all_three true (Ok tt) b e = (refl, refl, e)
all_three true (Err r) b e = not_admitted r e
all_three false a b e = not_admitted Ground.Length e

module _ (table state rights : List ℕ) (seat : ℕ) (right : Right) where
  -- a seat is admitted with a list of the right length and in order by which it has the right, where a start would be admitted
  pub seat_admits : seat_admission table state rights seat right ≡ Ok tt
      → (length rights ≡ rights_length) × (start_admission table state ≡ Ok tt) × (rights_in_range rights ≡ true) × (has_right rights seat right ≡ true)
  unfolding seat_admission rights_admission
  seat_admits e =
      let (l, s, r) = all_three (eqb (length rights) rights_length) (start_admission table state) (rights_admission rights seat right) e in
      let (i, h) = both (rights_in_range rights) (has_right rights seat right) r in
      (eqb-true (length rights) rights_length l, s, i, h)

  -- the admission is the same for every state of this length
  pub state_unread : (other : List ℕ) → length other ≡ length state → seat_admission table other rights seat right ≡ seat_admission table state rights seat right
  unfolding seat_admission start_admission lengths_right
  state_unread other e = rw e

  module _ {A : Type 0} (refused : Refusal → A) (call : Outcome A) where
    -- a call that its seat may not make is refused, and every byte stays
    pub seat_refused : (r : Refusal) → seat_admission table state rights seat right ≡ Err r
        → at_seat table state rights seat refused right call ≡ outcome (refused r) state
    unfolding at_seat by_seat
    seat_refused r e = rw e

    -- a call that its seat may make is the call without seats
    pub seat_granted : seat_admission table state rights seat right ≡ Ok tt → at_seat table state rights seat refused right call ≡ call
    unfolding at_seat by_seat
    seat_granted e = rw e

    answer_by_lem : (a : Admission) → seat_admission table state rights seat right ≡ a → (x : A) → ((r : Refusal) → refused r ≡ x → ⊥)
        → (by_seat refused a state call).answer ≡ x → seat_admission table state rights seat right ≡ Ok tt
    unfolding by_seat
    answer_by_lem (Err r) e x n f = absurd (n r f)
    answer_by_lem (Ok tt) e x n f = e

    -- an answer that is no refusal is that of a seat that may make the call
    pub seat_answer : (x : A) → ((r : Refusal) → refused r ≡ x → ⊥) → (at_seat table state rights seat refused right call).answer ≡ x
        → seat_admission table state rights seat right ≡ Ok tt
    unfolding at_seat
    seat_answer x n f = answer_by_lem (seat_admission table state rights seat right) refl x n f
