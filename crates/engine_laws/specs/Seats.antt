-- Which calls a seat may make (document 02, S-6): grounds 8, 9, 18 and 19, each exactly when it is due, before any that the state has a part in; and that a seat
-- without the right is told the same of every state. Of all buffers, of any length. Assumes nothing.
use Rattle.rules.specs.Answers.{Admission}
use Rattle.std.specs.Prelude.{ℕ, ◌<◌, ◌≤◌, ◌≡◌, ◌⊎◌, ◌↔◌, Bool, true, false, ◌||◌, List, eqb, leb, pos, length, get_or, Err, Ok}
use Rattle.std.proofs.Common.{arith, ap, ◌∙◌, to_z}
use Rattle.std.proofs.Math.Path.{refl}
use Rattle.std.proofs.Math.Logic.{inl, inr, ⊎_elim}
use Rattle.std.specs.Int.{w32}
use Rattle.std.proofs.Math.Facts.{to_z_pos}
use borrow.Author.Tests.{eqb-true, eq-eqb, leb-true, le-leb}
use Rattle.numbers.specs.Bytes.{words}
use Rattle.numbers.specs.Bytes.Laws.{numbers_fit}
use Rattle.numbers.specs.Search.Laws.{case_b, contra, every_elim, every_intro, every_fails}
use Rattle.numbers.specs.Tests.{clash}
use Rattle.loader.specs.Load.{accepted}
use Rattle.rules.specs.Calls.{Outcome, outcome, and_then, lengths_right, start_admission}
use Rattle.rules.specs.Seats.{rights_numbers, rights_length, right_in_range, rights_in_range, has_right, rights_admission, seat_admission, by_seat, at_seat}
use Rattle.rules.specs.Seats.Laws.{state_unread, seat_refused}
use Rattle.rules.proofs.Seats.Entitled.{number_is}
use Rattle.rules.specs.declared.Right.{Right}
use Rattle.rules.specs.declared.Refusal.{Refusal}
use Rattle.rules.specs.declared.Refusal.TheVariants as Ground
use Rattle.engine.specs.Numbers.{refusal_number}
use Rattle.engine_laws.specs.Entry.{RightLengths, lengths_iff}

-- all three buffers have their lengths: a list of rights has 288 bytes
abbrev pub AllLengths : List ℕ → List ℕ → List ℕ → Type 0
AllLengths table state rights = RightLengths table state × (length rights ≡ rights_length)

-- grounds 8, 9, 18 and 19, which a call is asked before the state is looked at
unfoldable pub at_seat_entry : Refusal → Bool
at_seat_entry r = eqb (refusal_number r) 8 || (eqb (refusal_number r) 9 || (eqb (refusal_number r) 18 || eqb (refusal_number r) 19))

pub early_number : (r : Refusal) → at_seat_entry r ≡ true
    → (refusal_number r ≡ 8) ⊎ ((refusal_number r ≡ 9) ⊎ ((refusal_number r ≡ 18) ⊎ (refusal_number r ≡ 19)))
unfolding at_seat_entry refusal_number
early_number Ground.Length e = inl refl
early_number Ground.Table e = inr (inl refl)
early_number Ground.Rights e = inr (inr (inl refl))
early_number Ground.Seat e = inr (inr (inr refl))
early_number Ground.State e = contra e refl
early_number Ground.Thread e = contra e refl
early_number Ground.Port e = contra e refl
early_number Ground.ThreadRow e = contra e refl
early_number Ground.ChannelRow e = contra e refl

-- ---- a list in order, by the signed numbers of which its words are the patterns: each is 0, 1, 2 or 3

abbrev pub ZeroToThree : ℕ → Type 0
ZeroToThree v = (n : ℕ) × (n ≤ 3) × (to_z w32 v ≡ pos n)

few_is : (v : ℕ) → v < 4294967296 → (leb v 3 ≡ true) ↔ ZeroToThree v
few_is v l = (
  λ e. (v, leb-true v 3 e, to_z_pos w32 {n = v} (omega (arith, leb-true v 3 e))),
  λ (n, h, e). le-leb v 3 (omega (arith, number_is v n l (omega arith) e)),
)

module _ (rights : List ℕ) (fit : (i : ℕ) → get_or rights i 0 < 256) where
  -- no number of the list is outside 0 to 3
  pub in_order_iff : (rights_in_range rights ≡ true) ↔ ((i : ℕ) → i < rights_numbers → ZeroToThree (get_or (words rights) i 0))
  unfolding rights_in_range right_in_range
  in_order_iff = (
    λ e i l. (few_is (get_or (words rights) i 0) (numbers_fit 4 rights fit i)).0 (every_elim (right_in_range rights) rights_numbers i e l),
    λ h. every_intro (right_in_range rights) rights_numbers (λ i l. (few_is (get_or (words rights) i 0) (numbers_fit 4 rights fit i)).1 (h i l)),
  )

  -- some number of the list is
  pub outside_iff : (rights_in_range rights ≡ false) ↔ ((i : ℕ) × (i < rights_numbers) × (¬ ZeroToThree (get_or (words rights) i 0)))
  unfolding rights_in_range right_in_range
  outside_iff = (
    λ e. let (i, l, f) = every_fails (right_in_range rights) rights_numbers e in
        (i, l, λ z. contra ((few_is (get_or (words rights) i 0) (numbers_fit 4 rights fit i)).1 z) f),
    λ (i, l, n). case_b (rights_in_range rights)
        (λ e. absurd (n (in_order_iff.0 e i l)))
        (λ e. e),
  )

-- ---- the ways of a seat's admission

module _ (table state rights : List ℕ) (seat : ℕ) (right : Right) where
  abbrev told : Admission
  told = seat_admission table state rights seat right

  data SeatEntry : Type 0 where
    wrong : (¬ AllLengths table state rights) → told ≡ Err Ground.Length → SeatEntry
    other : AllLengths table state rights → accepted table ≡ false → told ≡ Err Ground.Table → SeatEntry
    outside : AllLengths table state rights → accepted table ≡ true → rights_in_range rights ≡ false → told ≡ Err Ground.Rights → SeatEntry
    lacks : AllLengths table state rights → accepted table ≡ true → rights_in_range rights ≡ true → has_right rights seat right ≡ false
        → told ≡ Err Ground.Seat → SeatEntry
    passes : AllLengths table state rights → accepted table ≡ true → rights_in_range rights ≡ true → has_right rights seat right ≡ true
        → told ≡ Ok tt → SeatEntry

  seat_entry : SeatEntry
  unfolding seat_admission and_then start_admission rights_admission
  seat_entry = case_b (eqb (length rights) rights_length)
      (λ m. let k = eqb-true (length rights) rights_length m in case_b (lengths_right table state)
      (λ l. let h : AllLengths table state rights = ((lengths_iff table state).0 l, k) in case_b (accepted table)
      (λ a. case_b (rights_in_range rights)
      (λ i. case_b (has_right rights seat right) (λ g. passes h a i g (rw (m, l, a, i, g))) (λ g. lacks h a i g (rw (m, l, a, i, g))))
      (λ i. outside h a i (rw (m, l, a, i))))
      (λ a. other h a (rw (m, l, a))))
      (λ l. wrong (λ h. contra ((lengths_iff table state).1 h.0) l) (rw (m, l))))
      (λ m. wrong (λ h. contra (eq-eqb (length rights) rights_length h.1) m) (rw m))

  length_by : SeatEntry → (told ≡ Err Ground.Length) ↔ (¬ AllLengths table state rights)
  length_by (wrong l e) = (λ f. l, λ f. e)
  length_by (other l a e) = (λ f. clash cc, λ f. absurd (f l))
  length_by (outside l a i e) = (λ f. clash cc, λ f. absurd (f l))
  length_by (lacks l a i g e) = (λ f. clash cc, λ f. absurd (f l))
  length_by (passes l a i g e) = (λ f. clash cc, λ f. absurd (f l))

  table_by : SeatEntry → (told ≡ Err Ground.Table) ↔ (AllLengths table state rights × (accepted table ≡ false))
  table_by (wrong l e) = (λ f. clash cc, λ f. absurd (l f.0))
  table_by (other l a e) = (λ f. (l, a), λ f. e)
  table_by (outside l a i e) = (λ f. clash cc, λ f. contra a f.1)
  table_by (lacks l a i g e) = (λ f. clash cc, λ f. contra a f.1)
  table_by (passes l a i g e) = (λ f. clash cc, λ f. contra a f.1)

  rights_by : SeatEntry → (told ≡ Err Ground.Rights)
      ↔ (AllLengths table state rights × (accepted table ≡ true) × (rights_in_range rights ≡ false))
  rights_by (wrong l e) = (λ f. clash cc, λ f. absurd (l f.0))
  rights_by (other l a e) = (λ f. clash cc, λ f. contra f.1 a)
  rights_by (outside l a i e) = (λ f. (l, a, i), λ f. e)
  rights_by (lacks l a i g e) = (λ f. clash cc, λ f. contra i f.2)
  rights_by (passes l a i g e) = (λ f. clash cc, λ f. contra i f.2)

  right_by : SeatEntry → (told ≡ Err Ground.Seat)
      ↔ (AllLengths table state rights × (accepted table ≡ true) × (rights_in_range rights ≡ true) × (has_right rights seat right ≡ false))
  right_by (wrong l e) = (λ f. clash cc, λ f. absurd (l f.0))
  right_by (other l a e) = (λ f. clash cc, λ f. contra f.1 a)
  right_by (outside l a i e) = (λ f. clash cc, λ f. contra f.2 i)
  right_by (lacks l a i g e) = (λ f. (l, a, i, g), λ f. e)
  right_by (passes l a i g e) = (λ f. clash cc, λ f. contra g f.3)

  passes_by : SeatEntry → (told ≡ Ok tt)
      ↔ (AllLengths table state rights × (accepted table ≡ true) × (rights_in_range rights ≡ true) × (has_right rights seat right ≡ true))
  passes_by (wrong l e) = (λ f. clash cc, λ f. absurd (l f.0))
  passes_by (other l a e) = (λ f. clash cc, λ f. contra f.1 a)
  passes_by (outside l a i e) = (λ f. clash cc, λ f. contra f.2 i)
  passes_by (lacks l a i g e) = (λ f. clash cc, λ f. contra f.3 g)
  passes_by (passes l a i g e) = (λ f. (l, a, i, g), λ f. e)

  ground_by : SeatEntry → (r : Refusal) → told ≡ Err r → at_seat_entry r ≡ true
  unfolding at_seat_entry refusal_number
  ground_by (wrong l e) r f = let q : Ground.Length ≡ r = cc in rw (← q)
  ground_by (other l a e) r f = let q : Ground.Table ≡ r = cc in rw (← q)
  ground_by (outside l a i e) r f = let q : Ground.Rights ≡ r = cc in rw (← q)
  ground_by (lacks l a i g e) r f = let q : Ground.Seat ≡ r = cc in rw (← q)
  ground_by (passes l a i g e) r f = clash cc

  lacking_by : SeatEntry → has_right rights seat right ≡ false → (r : Refusal) × (told ≡ Err r)
  lacking_by (wrong l e) n = (Ground.Length, e)
  lacking_by (other l a e) n = (Ground.Table, e)
  lacking_by (outside l a i e) n = (Ground.Rights, e)
  lacking_by (lacks l a i g e) n = (Ground.Seat, e)
  lacking_by (passes l a i g e) n = contra g n

  -- ---- the theorems

  -- 8 exactly when a buffer has another length
  pub seat_length_iff : (told ≡ Err Ground.Length) ↔ (¬ AllLengths table state rights)
  seat_length_iff = length_by seat_entry

  -- 9 exactly when the lengths are right and the table is not accepted
  pub seat_table_iff : (told ≡ Err Ground.Table) ↔ (AllLengths table state rights × (accepted table ≡ false))
  seat_table_iff = table_by seat_entry

  -- 18 exactly when besides the table is accepted and a number of the list is out of its range
  pub rights_iff : (told ≡ Err Ground.Rights)
      ↔ (AllLengths table state rights × (accepted table ≡ true) × (rights_in_range rights ≡ false))
  rights_iff = rights_by seat_entry

  -- 19 exactly when besides the list is in order and the seat has not the right
  pub right_iff : (told ≡ Err Ground.Seat)
      ↔ (AllLengths table state rights × (accepted table ≡ true) × (rights_in_range rights ≡ true) × (has_right rights seat right ≡ false))
  right_iff = right_by seat_entry

  pub seat_admitted_iff : (told ≡ Ok tt)
      ↔ (AllLengths table state rights × (accepted table ≡ true) × (rights_in_range rights ≡ true) × (has_right rights seat right ≡ true))
  seat_admitted_iff = passes_by seat_entry

  -- a seat is refused on no other ground
  pub seat_refused_entry : (r : Refusal) → told ≡ Err r → at_seat_entry r ≡ true
  seat_refused_entry r e = ground_by seat_entry r e

  -- a seat without the right is refused
  pub lacking_refused : has_right rights seat right ≡ false → (r : Refusal) × (told ≡ Err r)
  lacking_refused n = lacking_by seat_entry n

  -- ---- a call at a seat whose refusals tell their grounds, `call` being the call without seats
  module _ {A : Type 0} (refused : Refusal → A) (tell : (q r : Refusal) → refused q ≡ refused r → q ≡ r) (call : Outcome A) where
    by_seat_lem : (a : Admission) (r : Refusal) → told ≡ a → ((by_seat refused a state call).answer ≡ refused r)
        ↔ ((a ≡ Err r) ⊎ ((a ≡ Ok tt) × (call.answer ≡ refused r)))
    unfolding by_seat
    by_seat_lem (Err q) r e = (λ f. inl (ap Err (tell q r f)), ⊎_elim (λ f. let g : q ≡ r = cc in rw g) (λ f. clash cc))
    by_seat_lem (Ok tt) r e = (λ f. inr (refl, f), ⊎_elim (λ f. clash cc) (λ f. f.1))

    -- it is refused on a ground exactly when its seat is, or the seat is admitted and the call is refused so
    pub refused_at_iff : (r : Refusal) → ((at_seat table state rights seat refused right call).answer ≡ refused r)
        ↔ ((told ≡ Err r) ⊎ ((told ≡ Ok tt) × (call.answer ≡ refused r)))
    unfolding at_seat
    refused_at_iff r = by_seat_lem told r refl

-- ---- two benches that differ in their states alone: a seat without the right gets one and the same refusal, on one of the grounds 8, 9, 18 and 19, and each
-- state keeps its bytes. The states may be any of one length, and `call` and `call₂` are whatever the call without seats would come to on each
pub same_told : (table rights : List ℕ) (seat : ℕ) (right : Right) → has_right rights seat right ≡ false
    → (state second : List ℕ) → length second ≡ length state → {A : Type 0} (refused : Refusal → A) (call call₂ : Outcome A)
    → (r : Refusal) × (at_seat_entry r ≡ true)
    × (at_seat table state rights seat refused right call ≡ outcome (refused r) state)
    × (at_seat table second rights seat refused right call₂ ≡ outcome (refused r) second)
same_told table rights seat right n state second e refused call call₂ =
    let (r, f) = lacking_refused table state rights seat right n in (
      r,
      seat_refused_entry table state rights seat right r f,
      seat_refused table state rights seat right refused call r f,
      seat_refused table second rights seat right refused call₂ r (state_unread table state rights seat right second e ∙ f),
    )
