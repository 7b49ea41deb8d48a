-- Which buffers a call admits: grounds 8, 9 and 10, and grounds 8 and 9 for start. Assumes nothing.
use Rattle.std.specs.Prelude.{ℕ, ◌≡◌, ◌↔◌, Bool, true, false, ◌||◌, List, eqb, length, Err, Ok}
use borrow.Author.Tests.{eqb-true, eq-eqb}
use Rattle.numbers.specs.Search.Laws.{case_b, contra}
use Rattle.numbers.specs.Tests.{and_left, and_right, clash}
use Rattle.table.specs.Table.{table_of}
use Rattle.loader.specs.Load.{table_length, accepted}
use Rattle.state.specs.State.{state_length, view}
use Rattle.rules.specs.Sound.{sound}
use Rattle.rules.specs.Calls.{After, and_then, lengths_right, start_admission, admission, on_buffers}
use Rattle.rules.specs.Calls.Laws.{call_answer, call_refusal}
use Rattle.rules.specs.declared.Refusal.{Refusal}
use Rattle.rules.specs.declared.Refusal.TheVariants as Ground
use Rattle.engine.specs.Numbers.{refusal_number}

-- both buffers have their lengths: 20760 bytes for a table, 6156 for a state
abbrev pub RightLengths : List ℕ → List ℕ → Type 0
RightLengths table state = (length table ≡ table_length) × (length state ≡ state_length)

-- none of the three grounds refuses the buffers
abbrev pub Admitted : List ℕ → List ℕ → Type 0
Admitted table state = admission table state ≡ Ok tt

-- grounds 8, 9 and 10, which a call is asked before its own
unfoldable pub at_entry : Refusal → Bool
at_entry r = eqb (refusal_number r) 8 || (eqb (refusal_number r) 9 || eqb (refusal_number r) 10)

module _ (table state : List ℕ) where
  pub lengths_iff : (lengths_right table state ≡ true) ↔ RightLengths table state
  unfolding lengths_right
  lengths_iff = (
    λ e. (eqb-true (length table) table_length (and_left _ _ e), eqb-true (length state) state_length (and_right (eqb (length table) table_length) _ e)),
    λ l. rw (eq-eqb (length table) table_length l.0, eq-eqb (length state) state_length l.1),
  )

  -- ---- the ways of an admission
  data Entry : Type 0 where
    wrong : (¬ RightLengths table state) → admission table state ≡ Err Ground.Length → Entry
    other : RightLengths table state → accepted table ≡ false → admission table state ≡ Err Ground.Table → Entry
    unsound : RightLengths table state → accepted table ≡ true → sound (table_of table) (view state) ≡ false
        → admission table state ≡ Err Ground.State → Entry
    passes : RightLengths table state → accepted table ≡ true → sound (table_of table) (view state) ≡ true → Admitted table state → Entry

  entry : Entry
  unfolding admission and_then start_admission
  entry = case_b (lengths_right table state)
      (λ l. let h = lengths_iff.0 l in case_b (accepted table)
      (λ a. case_b (sound (table_of table) (view state)) (λ s. passes h a s (rw (l, a, s))) (λ s. unsound h a s (rw (l, a, s))))
      (λ a. other h a (rw (l, a))))
      (λ l. wrong (λ h. contra (lengths_iff.1 h) l) (rw l))

  length_entry : Entry → (admission table state ≡ Err Ground.Length) ↔ (¬ RightLengths table state)
  length_entry (wrong l e) = (λ f. l, λ f. e)
  length_entry (other l a e) = (λ f. clash cc, λ f. absurd (f l))
  length_entry (unsound l a s e) = (λ f. clash cc, λ f. absurd (f l))
  length_entry (passes l a s e) = (λ f. clash cc, λ f. absurd (f l))

  table_entry : Entry → (admission table state ≡ Err Ground.Table) ↔ (RightLengths table state × (accepted table ≡ false))
  table_entry (wrong l e) = (λ f. clash cc, λ f. absurd (l f.0))
  table_entry (other l a e) = (λ f. (l, a), λ f. e)
  table_entry (unsound l a s e) = (λ f. clash cc, λ f. contra a f.1)
  table_entry (passes l a s e) = (λ f. clash cc, λ f. contra a f.1)

  state_entry : Entry → (admission table state ≡ Err Ground.State)
      ↔ (RightLengths table state × (accepted table ≡ true) × (sound (table_of table) (view state) ≡ false))
  state_entry (wrong l e) = (λ f. clash cc, λ f. absurd (l f.0))
  state_entry (other l a e) = (λ f. clash cc, λ f. contra f.1 a)
  state_entry (unsound l a s e) = (λ f. (l, a, s), λ f. e)
  state_entry (passes l a s e) = (λ f. clash cc, λ f. contra s f.2)

  passes_entry : Entry → Admitted table state ↔ (RightLengths table state × (accepted table ≡ true) × (sound (table_of table) (view state) ≡ true))
  passes_entry (wrong l e) = (λ f. clash cc, λ f. absurd (l f.0))
  passes_entry (other l a e) = (λ f. clash cc, λ f. contra f.1 a)
  passes_entry (unsound l a s e) = (λ f. clash cc, λ f. contra f.2 s)
  passes_entry (passes l a s e) = (λ f. (l, a, s), λ f. e)

  ground_entry : Entry → (r : Refusal) → admission table state ≡ Err r → at_entry r ≡ true
  unfolding at_entry refusal_number
  ground_entry (wrong l e) r f = let q : Ground.Length ≡ r = cc in rw (← q)
  ground_entry (other l a e) r f = let q : Ground.Table ≡ r = cc in rw (← q)
  ground_entry (unsound l a s e) r f = let q : Ground.State ≡ r = cc in rw (← q)
  ground_entry (passes l a s e) r f = clash cc

  -- ---- the ways of start's admission, which has no ground 10
  data StartEntry : Type 0 where
    wrong : (¬ RightLengths table state) → start_admission table state ≡ Err Ground.Length → StartEntry
    other : RightLengths table state → accepted table ≡ false → start_admission table state ≡ Err Ground.Table → StartEntry
    passes : RightLengths table state → accepted table ≡ true → start_admission table state ≡ Ok tt → StartEntry

  start_entry : StartEntry
  unfolding start_admission
  start_entry = case_b (lengths_right table state)
      (λ l. let h = lengths_iff.0 l in case_b (accepted table) (λ a. passes h a (rw (l, a))) (λ a. other h a (rw (l, a))))
      (λ l. wrong (λ h. contra (lengths_iff.1 h) l) (rw l))

  start_length_by : StartEntry → (start_admission table state ≡ Err Ground.Length) ↔ (¬ RightLengths table state)
  start_length_by (wrong l e) = (λ f. l, λ f. e)
  start_length_by (other l a e) = (λ f. clash cc, λ f. absurd (f l))
  start_length_by (passes l a e) = (λ f. clash cc, λ f. absurd (f l))

  start_table_by : StartEntry → (start_admission table state ≡ Err Ground.Table) ↔ (RightLengths table state × (accepted table ≡ false))
  start_table_by (wrong l e) = (λ f. clash cc, λ f. absurd (l f.0))
  start_table_by (other l a e) = (λ f. (l, a), λ f. e)
  start_table_by (passes l a e) = (λ f. clash cc, λ f. contra a f.1)

  start_passes_by : StartEntry → (start_admission table state ≡ Ok tt) ↔ (RightLengths table state × (accepted table ≡ true))
  start_passes_by (wrong l e) = (λ f. clash cc, λ f. absurd (l f.0))
  start_passes_by (other l a e) = (λ f. clash cc, λ f. contra f.1 a)
  start_passes_by (passes l a e) = (λ f. (l, a), λ f. e)

  start_state_by : StartEntry → ¬ (start_admission table state ≡ Err Ground.State)
  start_state_by (wrong l e) f = clash cc
  start_state_by (other l a e) f = clash cc
  start_state_by (passes l a e) f = clash cc

  -- ---- the theorems

  -- an admission is refused on ground 8 exactly when a buffer has another length
  pub length_iff : (admission table state ≡ Err Ground.Length) ↔ (¬ RightLengths table state)
  length_iff = length_entry entry

  -- an admission is refused on ground 9 exactly when the lengths are right and the table is not accepted
  pub table_iff : (admission table state ≡ Err Ground.Table) ↔ (RightLengths table state × (accepted table ≡ false))
  table_iff = table_entry entry

  -- an admission is refused on ground 10 exactly when the lengths are right, the table is accepted and the state is not sound for it
  pub state_iff : (admission table state ≡ Err Ground.State)
      ↔ (RightLengths table state × (accepted table ≡ true) × (sound (table_of table) (view state) ≡ false))
  state_iff = state_entry entry

  -- buffers are admitted exactly when their lengths are right, the table is accepted and the state is sound for it
  pub admitted_iff : Admitted table state ↔ (RightLengths table state × (accepted table ≡ true) × (sound (table_of table) (view state) ≡ true))
  admitted_iff = passes_entry entry

  -- an admission is refused on no ground but 8, 9 and 10
  pub refused_entry : (r : Refusal) → admission table state ≡ Err r → at_entry r ≡ true
  refused_entry r e = ground_entry entry r e

  -- start asks of the lengths and the table what the other calls ask, and nothing of the state
  pub start_length_iff : (start_admission table state ≡ Err Ground.Length) ↔ (¬ RightLengths table state)
  start_length_iff = start_length_by start_entry

  pub start_table_iff : (start_admission table state ≡ Err Ground.Table) ↔ (RightLengths table state × (accepted table ≡ false))
  start_table_iff = start_table_by start_entry

  pub start_admitted_iff : (start_admission table state ≡ Ok tt) ↔ (RightLengths table state × (accepted table ≡ true))
  start_admitted_iff = start_passes_by start_entry

  pub start_not_state : ¬ (start_admission table state ≡ Err Ground.State)
  start_not_state = start_state_by start_entry

-- ---- a call whose refusals tell their grounds, k being the call on the state

module _ {A : Type 0} (refused : Refusal → A) (tell : (q r : Refusal) → refused q ≡ refused r → q ≡ r) (table state : List ℕ) (k : After A) where
  -- a ground of the call's own refuses it exactly when the buffers are admitted and the call on the state is refused on it
  pub own_ground : (r : Refusal) → at_entry r ≡ false
      → ((on_buffers refused table state k).answer ≡ refused r) ↔ (Admitted table state × (k.answer ≡ refused r))
  own_ground r f = call_answer refused table state k (refused r) (λ q e g. contra (refused_entry table state q e) (rw (tell q r g) f))

  -- a ground at entry refuses a call exactly when it refuses the admission, where no ground of the call on the state is one at entry
  pub entry_ground : ((r : Refusal) → k.answer ≡ refused r → at_entry r ≡ false) → (r : Refusal) → at_entry r ≡ true
      → ((on_buffers refused table state k).answer ≡ refused r) ↔ (admission table state ≡ Err r)
  entry_ground own r f = call_refusal refused table state k tell r (λ e. contra f (own r e))
