-- What C sees of sums (document 02, S-4): where a step is answered with a branch that is a sum or a difference, the slot that it writes has just that whole
-- number afterwards, and the number fits. So no branch that is answered has one that does not fit. Of every call of a step at a seat, on any table and state.
-- Assumes nothing.
use Rattle.rules.specs.Answers.{Stepped}
use Rattle.std.specs.Prelude.{ℕ, ◌<◌, ◌≡◌, true, ◌⊎◌, ltb, get_or, ℤ, pos, Err, None, Ok, Some}
use Rattle.std.proofs.Common.{sym, ◌∙◌, ap, inl, inr, SFits, to_z, of_z, to_z-of_z, ltb-true}
use mathlib.Core.List.{List, []}
use Rattle.std.proofs.Math.Seq.{get_or-set_same}
use Rattle.std.specs.Int.{w32}
use Rattle.numbers.specs.Search.Laws.{case_b}
use Rattle.numbers.specs.Signed.{in_range, narrowed}
use Rattle.numbers.specs.Signed.Laws.{narrowed_exact}
use Rattle.numbers.specs.Tests.{parts, clash}
use Rattle.table.specs.Table.{Table, table_of}
use Rattle.state.specs.State.{State, max_threads, row_slots, view, thread, stands_at, slot_of, is_ready, type_in, with_thread, with_channels}
use Rattle.rules.specs.Program.{checked_sum, checked_difference, branch_at, next_of, field_a, act_of, assigned}
use Rattle.rules.specs.Holding.{settled}
use Rattle.rules.specs.Moves.{resumed, gone_by, move, written, perform}
use Rattle.rules.specs.Calls.{Outcome, step_answer, can_step, step_on, step_call}
use Rattle.rules.specs.Calls.Laws.{call_answer}
use Rattle.rules.specs.Seats.{seated_step}
use Rattle.rules.specs.Seats.Laws.{seat_granted, seat_answer}
use Rattle.rules.specs.declared.Act.{Act}
use Rattle.rules.specs.declared.Act.TheVariants.{Tau, Meeting, New, Spawn, Assignment}
use Rattle.rules.specs.declared.Move.{Move}
use Rattle.rules.specs.declared.Move.TheVariants.{Ends, Calls, Waits, Goes, Creates, Spawns, Meets, LacksThread, LacksChannel}
use Rattle.rules.specs.declared.Right.TheVariants as Right
use Rattle.rules.specs.declared.Deed.{Deed}
use Rattle.rules.specs.declared.Deed.TheVariants.{Ended, Called, Waited, Took, TookWith}
use Rattle.rules_laws.specs.Granted.{Granted}
use Rattle.rules_laws.specs.Accepted.{granted}
use Rattle.rules_laws.specs.Guards.{assigning}
use Rattle.rules_laws.specs.Reading.Laws.{ready_used}
use Rattle.rules_laws.specs.Soundness.{Sound}
use Rattle.rules_laws.specs.ThreadRow.{resumed_long, stored_same}
use Rattle.rules_laws.specs.Onward.{own_slot, branching}
use Rattle.rules_laws.specs.Chosen.{Open, Chosen, chosen}
use Rattle.rules_laws.specs.Lasting.{step_on_kept}
use Rattle.engine.specs.Numbers as Numbers
use Rattle.engine_laws.specs.Entry.{admitted_iff}
use Rattle.engine_laws.specs.Buffers.{SoundBuffer, view_sound}
use Rattle.engine_laws.specs.Answers.{step_performed}
use Rattle.engine_laws.specs.SoundCalls.{call_view}
use Rattle.interface.specs.Interface.{in_numbers, step_fields, step_numbers, step_result}
use Rattle.guarantee.specs.Exported.{ground_signed, not_zero}
use Rattle.guarantee.specs.SumsInNumbers.{ComesTo, Answered}

-- ---- of an answer

signed_is : (x n : ℕ) → to_z w32 x ≡ pos n → x ≡ n
signed_is x n e =
    case_b (ltb x 2147483648)
    (λ y. let q : pos x ≡ pos n = rw y at e in cc)
    (λ y. clash (let q = rw y at e in cc))

-- a step by branch i
unfoldable Takes : ℕ → Deed → Type 0
Takes i Ended = ⊥
Takes i Called = ⊥
Takes i Waited = ⊥
Takes i (Took j) = j ≡ i
Takes i (TookWith j u) = j ≡ i

deed_takes : (i : ℕ) (d : Deed) → to_z w32 (Numbers.act_number d) ≡ pos 3 → to_z w32 (Numbers.branch_number d) ≡ pos i → Takes i d
unfolding Takes Numbers.act_number Numbers.branch_number
deed_takes i Ended e f = clash cc
deed_takes i Called e f = clash cc
deed_takes i Waited e f = clash cc
deed_takes i (Took j) e f = signed_is j i f
deed_takes i (TookWith j u) e f = signed_is j i f

same_done : (n k : ℕ) (a d : Deed) → ◌≡◌ {A = Stepped} (Ok (n, a)) (Ok (k, d)) → (n ≡ k) × (a ≡ d)
same_done n k a d e =
    let q : ◌≡◌ {A = ℕ × Deed} (n, a) (k, d) = cc in
    (ap (λ (x : ℕ × Deed). x.0) q, ap (λ (x : ℕ × Deed). x.1) q)

takes_by : (n k i : ℕ) (a d : Deed) → ◌≡◌ {A = Stepped} (Ok (n, a)) (Ok (k, d)) → Takes i d → Takes i a
takes_by n k i a d e t = rw (same_done n k a d e).1 t

answer_done : (a : Stepped) (n i : ℕ) → (step_numbers a).refusal ≡ pos 0 → (step_numbers a).act ≡ pos 3 → (step_numbers a).node ≡ pos n
    → (step_numbers a).branch ≡ pos i → (d : Deed) × (a ≡ Ok (n, d)) × Takes i d
unfolding step_numbers step_fields
answer_done (Ok (m, d)) n i e f g h = (d, ap (λ x. Ok (x, d)) (signed_is m n g), deed_takes i d f h)
answer_done (Err r) n i e f g h = absurd (not_zero r (sym e ∙ ground_signed r))

-- ---- of a state

exact_in : (z w : ℤ) → narrowed z ≡ Some w → (w ≡ z) × (in_range z ≡ true) × SFits w32 z
unfolding narrowed
exact_in z w e =
    let (q, f) = narrowed_exact z w e in
    case_b (in_range z) (λ y. (q, y, f)) (λ y. clash (let x : None ≡ Some w = rw y at e in cc))

-- a sum or difference assigns, and where it has a value that is what it comes to
sum_assigns : (tb : Table) (r : ℕ) (row : List ℕ) (z : ℤ) → ComesTo tb r row z
    → (act_of tb r ≡ Assignment) × ((w : ℤ) → assigned tb r row ≡ Some w → (w ≡ z) × (in_range z ≡ true) × SFits w32 z)
unfolding act_of assigned checked_sum checked_difference
sum_assigns tb r row z (inl (e, q)) = (rw e, λ w f. rw q (exact_in _ w (rw e at f)))
sum_assigns tb r row z (inr (e, q)) = (rw e, λ w f. rw q (exact_in _ w (rw e at f)))

module _ (tb : Table) (g : Granted tb) (s : State) (ok : Sound tb s) (t : ℕ) (l : t < max_threads) (ready : is_ready (thread s t) ≡ true) (i : ℕ) (z : ℤ)
    (c : ComesTo tb (branch_at tb (stands_at (thread s t)) i) (thread s t) z) where
  abbrev row : List ℕ
  row = thread s t

  abbrev r : ℕ
  r = branch_at tb (stands_at (thread s t)) i

  assigns : act_of tb r ≡ Assignment
  assigns = (sum_assigns tb r row z c).0

  gone_row : thread (perform tb s t (Goes i)) t ≡ gone_by tb row i
  unfolding perform settled with_channels written with_thread
  gone_row = get_or-set_same s.threads t (gone_by tb row i) [] (rw ok.orderly.shaped.all_threads l)

  gone_stored : Open tb s t i Assignment → (to_z w32 (slot_of (thread (perform tb s t (Goes i)) t) (field_a tb r)) ≡ z) × (in_range z ≡ true)
  gone_stored o =
      let u = ready_used row ready in
      let x = ok.orderly.row t l in
      let a = assigning tb row i o.passes o.does in
      let (q, y, f) = (sum_assigns tb r row z c).1 a.z a.comes_to in
      let in_row : field_a tb r < row_slots = own_slot tb g (type_in s) row x u (field_a tb r) ((branching tb g (type_in s) row x u i o.branch_in).assigns o.does).0 in
      let next = next_of tb (stands_at row) r in
      (rw (gone_row, a.goes, stored_same (resumed row next) (field_a tb r) (of_z w32 a.z) (resumed_long row next x.long) in_row, q) (to_z-of_z f), y)

  -- no other act is taken by branch i
  other_act : {A : Type 0} (j : ℕ) (a : Act) → j ≡ i → Open tb s t j a → (Assignment ≡ a → ⊥) → A
  other_act j a q o n = absurd (n (sym assigns ∙ (rw q at o).does))

  goes_stored : (j : ℕ) → j ≡ i → Open tb s t j Tau ⊎ Open tb s t j Assignment
      → (to_z w32 (slot_of (thread (perform tb s t (Goes j)) t) (field_a tb r)) ≡ z) × (in_range z ≡ true)
  goes_stored j q (inl o) = other_act j Tau q o (λ e. clash cc)
  goes_stored j q (inr o) = rw q (gone_stored (rw q at o))

  move_stored : (n : ℕ) (m : Move) → Chosen tb s t m → (d : Deed) → step_answer (stands_at (thread s t)) m ≡ Ok (n, d) → Takes i d
      → (to_z w32 (slot_of (thread (perform tb s t m) t) (field_a tb r)) ≡ z) × (in_range z ≡ true)
  unfolding Chosen step_answer Takes
  move_stored n Ends x d e k = absurd (takes_by (stands_at row) n i Ended d e k)
  move_stored n Calls x d e k = absurd (takes_by (stands_at row) n i Called d e k)
  move_stored n Waits x d e k = absurd (takes_by (stands_at row) n i Waited d e k)
  move_stored n (Goes j) x d e k = goes_stored j (takes_by (stands_at row) n i (Took j) d e k) x
  move_stored n (Creates j c) x d e k = other_act j New (takes_by (stands_at row) n i (Took j) d e k) x.takes (λ f. clash cc)
  move_stored n (Spawns j u) x d e k = other_act j Spawn (takes_by (stands_at row) n i (TookWith j u) d e k) x.takes (λ f. clash cc)
  move_stored n (Meets j u h) x d e k =
      other_act j (Meeting x.direction) (takes_by (stands_at row) n i (TookWith j u) d e k) x.takes (λ f. clash cc)
  move_stored n LacksThread x d e k = clash cc
  move_stored n LacksChannel x d e k = clash cc

answer_node : (n m : ℕ) (w : Move) (d : Deed) → step_answer m w ≡ Ok (n, d) → m ≡ n
unfolding step_answer
answer_node n m Ends d e = (same_done m n Ended d e).0
answer_node n m Calls d e = (same_done m n Called d e).0
answer_node n m Waits d e = (same_done m n Waited d e).0
answer_node n m (Goes i) d e = (same_done m n (Took i) d e).0
answer_node n m (Creates i c) d e = (same_done m n (Took i) d e).0
answer_node n m (Spawns i u) d e = (same_done m n (TookWith i u) d e).0
answer_node n m (Meets i u j) d e = (same_done m n (TookWith i u) d e).0
answer_node n m LacksThread d e = clash cc
answer_node n m LacksChannel d e = clash cc

-- ---- the theorem

module _ (table state rights : List ℕ) (fit : (i : ℕ) → get_or table i 0 < 256) (small : (i : ℕ) → get_or state i 0 < 256) (seat t n i : ℕ) (z : ℤ) where
  abbrev tb : Table
  tb = table_of table

  -- of the call without seats
  call_stored : (d : Deed) → Takes i d → (step_call table state t).answer ≡ Ok (n, d)
      → ComesTo tb (branch_at tb n i) (thread (view state) t) z
      → (to_z w32 (slot_of (thread (view (step_call table state t).state) t) (field_a tb (branch_at tb n i))) ≡ z) × (in_range z ≡ true)
  unfolding step_call can_step
  call_stored d k e c =
      let s = view state in
      let on = step_on tb s t in
      let (a, f) = (call_answer Err table state on (Ok (n, d)) (λ r f i. clash cc)).0 e in
      let (lengths, ok, tested) = (admitted_iff table state).0 a in
      let sb : SoundBuffer table state = record { long = lengths.1; small = small; tested = tested } in
      let g = granted table ok fit in
      let sound = view_sound table state sb in
      let (y, q, w) = step_performed tb s t n d f in
      let at_node = answer_node n (stands_at (thread s t)) (move tb s t) d q in
      let h = move_stored tb g s sound t (ltb-true t max_threads (search parts)) (search parts) i z (rw at_node c) n (move tb s t) (chosen tb s t) d q k in
      rw (call_view table ok Err state sb on (step_on_kept tb g s sound t), w) (rw at_node at h)

  -- where a step is answered with branch i of node n, which is a sum or a difference that comes to z, the slot that the branch writes has z afterwards, and z
  -- is a number of 32 signed bits
  pub stored_exactly : Answered table state rights seat t n i → ComesTo (table_of table) (branch_at (table_of table) n i) (thread (view state) t) z
      → (to_z w32 (slot_of (thread (view (step_result table state rights seat t).state) t) (field_a (table_of table) (branch_at (table_of table) n i))) ≡ z)
      × (in_range z ≡ true)
  unfolding step_result in_numbers seated_step
  stored_exactly a c =
      let (d, e, k) = answer_done (seated_step table state rights seat t).answer n i a.done a.took a.node a.branch in
      let call = step_call table state t in
      let told = seat_answer table state rights seat Right.StepAndRun Err call (Ok (n, d)) (λ r f. clash cc) e in
      let q = seat_granted table state rights seat Right.StepAndRun Err call told in
      rw q (call_stored d k (ap (λ (o : Outcome Stepped). o.answer) (sym q) ∙ e) c)
