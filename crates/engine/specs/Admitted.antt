-- What is promised of the buffers of an admitted call is had where an admission answered so: one law for each promise; and what a call at a seat comes to by
-- what its admission answered. Assumes nothing.
use Rattle.numbers.specs.Bytes.Laws.{bytes_fit}
use Rattle.rules.specs.Answers.{Admission}
use Rattle.std.specs.Prelude.{ℕ, ◌≡◌, List, length, get_or, cond, Err, Ok, Result}
use Rattle.std.proofs.Common.{sym, ◌∙◌, Fits, w8}
use Rattle.table.specs.Table.{Table, table_of}
use Rattle.table.specs.Index.{Indexed}
use Rattle.flow.specs.Flow.{flow}
use Rattle.flow.specs.Gaps.{gaps_of}
use Rattle.state.specs.State.{State, state_length, state_bytes, view}
use Rattle.state.specs.State.Laws.{bytes_view}
use Rattle.rules.specs.Holding.{settled}
use Rattle.rules.specs.Sound.{sound}
use Rattle.rules.specs.Calls.Laws.{start_admits}
use Rattle.rules.specs.Calls.{Outcome, outcome, start_admission, and_then, admission}
use Rattle.rules.specs.Seats.{seat_admission, at_seat}
use Rattle.rules.specs.Seats.Laws.{seat_refused, seat_granted}
use Rattle.rules.specs.declared.Right.{Right}
use Rattle.rules.specs.declared.Refusal.{Refusal}
use Rattle.rules.specs.declared.Refusal.TheVariants as Ground
use Rattle.rules_laws.specs.Granted.{Granted}
use Rattle.rules_laws.specs.Accepted.{granted}
use Rattle.rules_laws.specs.Soundness.{Sound}

-- a table and a state's buffer that grounds 8 and 9 do not refuse
unfoldable pub Judged : List ℕ → List ℕ → Type 0
Judged table state = start_admission table state ≡ Ok tt

-- what that grants: of the table, of the state's buffer, and what is left of the admission
module _ (table b : List ℕ) (j : Judged table b) where
  pub judged_length : length b ≡ state_length
  unfolding Judged
  judged_length = (start_admits table b j).1

  pub judged_back : ((i : ℕ) → Fits w8 (get_or b i 0)) → state_bytes (view b) ≡ b
  judged_back fit = bytes_view b judged_length (bytes_fit b fit)

  pub judged_granted : ((i : ℕ) → Fits w8 (get_or table i 0)) → Granted (table_of table)
  unfolding Judged
  judged_granted fit = granted table (start_admits table b j).2 (bytes_fit table fit)

  pub judged_admission : admission table b ≡ cond (sound (table_of table) (view b)) (Ok tt) (Err Ground.State)
  unfolding Judged admission and_then
  judged_admission = rw j

-- a: what an admission answered
module _ (a : Admission) where
  pub admitted_judged : (table b : List ℕ) → (a ≡ Ok tt → Judged table b) → a ≡ Ok tt → Judged table b
  admitted_judged table b h e = h e

  pub admitted_length : (b : List ℕ) → (a ≡ Ok tt → length b ≡ state_length) → a ≡ Ok tt → length b ≡ state_length
  admitted_length b h e = h e

  module _ (tb : Table) where
    pub admitted_granted : (a ≡ Ok tt → Granted tb) → a ≡ Ok tt → Granted tb
    admitted_granted h e = h e

    pub admitted_indexed : (l : List ℕ) → (a ≡ Ok tt → Indexed tb l) → a ≡ Ok tt → Indexed tb l
    admitted_indexed l h e = h e

    pub admitted_gaps : (l : List ℕ) → (a ≡ Ok tt → gaps_of l ≡ flow tb) → a ≡ Ok tt → gaps_of l ≡ flow tb
    admitted_gaps l h e = h e

    pub admitted_sound : (s : State) → (a ≡ Ok tt → Sound tb s) → a ≡ Ok tt → Sound tb s
    admitted_sound s h e = h e

    -- the channel rows of a sound state are those that a count over its threads gives
    pub admitted_settled : (s : State) → (a ≡ Ok tt → Sound tb s) → a ≡ Ok tt → settled tb s ≡ s
    admitted_settled s h e = (h e).counts

-- ---- a call at a seat, `call` being the call without seats: its refusal, or that call

module _ (table b rights : List ℕ) (seat : ℕ) (right : Right) (a : Admission) (e : a ≡ seat_admission table b rights seat right) {A : Type 0}
    (refused : Refusal → A) (call : Outcome A) where
  pub seat_refuses : (g : Refusal) → a ≡ Err g → outcome (refused g) b ≡ at_seat table b rights seat refused right call
  seat_refuses g f = sym (seat_refused table b rights seat right refused call g (sym e ∙ f))

  pub seat_grants : a ≡ Ok tt → (r : A) (b₁ : List ℕ) → outcome r b₁ ≡ call → outcome r b₁ ≡ at_seat table b rights seat refused right call
  seat_grants f r b₁ h = h ∙ sym (seat_granted table b rights seat right refused call (sym e ∙ f))

-- ---- a call that asks its seat for a right

-- the admission that an answer stands for
abbrev pub admission_by : Result Table Refusal → Admission
admission_by (Ok tb) = Ok tt
admission_by (Err r) = Err r

-- what is known of a table that grounds 8 and 9 do not refuse: seen is the table
pub record Seen (table state : List ℕ) (seen : Table) : Type 0 where
  pub is : seen ≡ table_of table
  pub judged : Judged table state
  pub granted : Granted seen
