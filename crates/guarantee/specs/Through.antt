-- Seats leave calls out and change nothing else: a call that its seat may make is the call without seats, and any other leaves every byte. So a list of calls at
-- seats leaves what the list of those that are let through leaves, and moves whom that list moves. Assumes nothing.
use Rattle.rules.specs.Answers.{Admission}
use Rattle.std.specs.Prelude.{ℕ, ◌<◌, ◌≡◌, Bool, true, cond, ◌&&◌, ◌⊎◌, ◌↔◌, eqb, length, get_or, Err, Ok}
use Rattle.std.proofs.Math.Path.{refl}
use Rattle.std.proofs.Common.{ap, ◌∙◌}
use Rattle.std.proofs.Math.Bool.{false}
use mathlib.Core.List.{List, [], ◌∷◌, ◌++◌, map}
use Rattle.std.proofs.Math.Logic.{inl, inr}
use borrow.Author.Tests.{eqb-true, eq-eqb}
use Rattle.numbers.specs.Search.Laws.{case_b, contra}
use Rattle.numbers.specs.Tests.{and_left, and_right}
use Rattle.table.specs.Table.{table_of}
use Rattle.loader.specs.Load.{accepted}
use Rattle.state.specs.State.{state_length, view}
use Rattle.rules.specs.Moves.{move}
use Rattle.rules.specs.Calls.{Outcome, outcome, step_call, give_call, take_call, run_call}
use Rattle.rules.specs.Seats.{rights_length, rights_in_range, has_right, seat_admission, by_seat, at_seat, seated_step, seated_give, seated_take, seated_run}
use Rattle.rules.specs.declared.Right.TheVariants as Right
use Rattle.rules.specs.declared.Refusal.{Refusal}
use Rattle.rules.specs.declared.Refusal.TheVariants as Ground
use Rattle.rules_laws.specs.Frames.{movers}
use Rattle.engine_laws.specs.Movers.{ran_movers}
use Rattle.engine_laws.specs.Seats.{AllLengths, seat_length_iff, rights_iff, right_iff, seat_admitted_iff, refused_at_iff}
use Rattle.engine_laws.specs.Buffers.{SoundBuffer}
use Rattle.engine_laws.specs.SoundCalls.{right_lengths}
use Rattle.engine_laws.specs.Lists.{Call, step, give, take, run, RefusedWith, after, after_all, after_sound}
use Rattle.collector.specs.Collect.{collect_call, seated_collect}
use Rattle.guarantee.specs.Claim.{Any, on, collect, after_any, after_list, unless_refused, met_by_give, met_by_take, in_turns, moving, moving_all, RefusedBy}
use Rattle.guarantee.specs.ClaimKept.{any_sound}
use Rattle.guarantee.specs.SeatedClaim.{AtSeat, asked, after_by, after_seat, after_seats, placed, moving_by, moving_seats, RefusedAt}

three : (p q r : Bool) → (p && (q && r)) ≡ true → (p ≡ true) × (q ≡ true) × (r ≡ true)
three p q r e = let f = and_right p (q && r) e in (and_left p (q && r) e, and_left q r f, and_right q r f)

any_after : (table state : List ℕ) (k : Call) → after_any table state (on k) ≡ after table state k
unfolding after_any
any_after table state k = refl

-- ---- one call at a seat

-- by what a seat is told: this for a refusal, and that for a call that is made
unfoldable pub by_told : {B : Type 0} → Admission → (Refusal → B) → B → B
by_told (Err r) refused made = refused r
by_told (Ok tt) refused made = made

-- whatever is asked of a call at a seat, it is what is asked of its refusal, or of the call without seats
pub by_told_lem : {A B : Type 0} (refused : Refusal → A) (state : List ℕ) (call : Outcome A) (ask : Outcome A → B) (a : Admission)
    → ask (by_seat refused a state call) ≡ by_told a (λ r. ask (outcome (refused r) state)) (ask call)
unfolding by_seat by_told
by_told_lem refused state call ask (Err r) = refl
by_told_lem refused state call ask (Ok tt) = refl

module _ (table state rights : List ℕ) (seat : ℕ) where
  -- the bytes that it leaves
  left_told : (k : Any) → after_by table state rights seat k ≡ by_told (seat_admission table state rights seat (asked k)) (λ r. state) (after_any table state k)
  unfolding asked after_by after_any after at_seat seated_step seated_give seated_take seated_run seated_collect
  left_told (on (step t)) = by_told_lem Err state (step_call table state t) (λ o. o.state) _
  left_told (on (give p v h)) = by_told_lem Err state (give_call table state p v) (λ o. o.state) _
  left_told (on (take p)) = by_told_lem Err state (take_call table state p) (λ o. o.state) _
  left_told (on (run n)) = by_told_lem Err state (run_call table state n) (λ o. o.state) _
  left_told collect = by_told_lem Err state (collect_call table state) (λ o. o.state) _

  -- and whom it moves
  moving_told : (k : Call) → moving_by table state rights seat k ≡ by_told (seat_admission table state rights seat (asked (on k))) (λ r. []) (moving table state k)
  unfolding asked moving_by moving at_seat seated_step seated_give seated_take seated_run unless_refused met_by_give met_by_take in_turns
  moving_told (step t) =
      by_told_lem Err state (step_call table state t) (λ o. unless_refused o.answer (movers t (move (table_of table) (view state) t))) _
  moving_told (give p v h) = by_told_lem Err state (give_call table state p v) (λ o. met_by_give o.answer) _
  moving_told (take p) = by_told_lem Err state (take_call table state p) (λ o. met_by_take o.answer) _
  moving_told (run n) = by_told_lem Err state (run_call table state n) (λ o. in_turns o.answer (ran_movers (table_of table) n (view state))) _

  -- one that its seat may make leaves what it leaves without seats, and moves whom it moves then
  pub granted_left : (k : Any) → seat_admission table state rights seat (asked k) ≡ Ok tt → after_by table state rights seat k ≡ after_any table state k
  unfolding by_told
  granted_left k e = left_told k ∙ rw e

  pub granted_moving : (k : Call) → seat_admission table state rights seat (asked (on k)) ≡ Ok tt
      → moving_by table state rights seat k ≡ moving table state k
  unfolding by_told
  granted_moving k e = moving_told k ∙ rw e

  -- one that its seat may not make leaves every byte, and moves nobody
  pub kept_left : (k : Any) (r : Refusal) → seat_admission table state rights seat (asked k) ≡ Err r → after_by table state rights seat k ≡ state
  unfolding by_told
  kept_left k r e = left_told k ∙ rw e

  pub kept_moving : (k : Call) (r : Refusal) → seat_admission table state rights seat (asked (on k)) ≡ Err r → moving_by table state rights seat k ≡ []
  unfolding by_told
  kept_moving k r e = moving_told k ∙ rw e

  -- a call is refused on a ground exactly when its seat is, or its seat may make it and it is refused so without seats
  pub refused_iff : (k : Any) (r : Refusal) → RefusedAt table state rights seat k r
      ↔ ((seat_admission table state rights seat (asked k) ≡ Err r)
      ⊎ ((seat_admission table state rights seat (asked k) ≡ Ok tt) × RefusedBy table state k r))
  unfolding asked RefusedAt RefusedBy RefusedWith seated_step seated_give seated_take seated_run seated_collect
  refused_iff (on (step t)) r = refused_at_iff table state rights seat Right.StepAndRun Err (λ q r e. cc) (step_call table state t) r
  refused_iff (on (give p v h)) r = refused_at_iff table state rights seat (Right.Give p) Err (λ q r e. cc) (give_call table state p v) r
  refused_iff (on (take p)) r = refused_at_iff table state rights seat (Right.Take p) Err (λ q r e. cc) (take_call table state p) r
  refused_iff (on (run n)) r = refused_at_iff table state rights seat Right.StepAndRun Err (λ q r e. cc) (run_call table state n) r
  refused_iff collect r = refused_at_iff table state rights seat Right.Collect Err (λ q r e. cc) (collect_call table state) r

-- ---- the calls that are let through, where grounds 8 and 9 do not refuse the table and the state

-- the list has its length and is in order, and the seat has the right
unfoldable pub let_through : AtSeat Any → Bool
let_through k = eqb (length k.rights) rights_length && (rights_in_range k.rights && has_right k.rights k.seat (asked k.call))

unfoldable pub through : List (AtSeat Any) → List Any
through [] = []
through (k ∷ ks) = cond (let_through k) (k.call ∷ through ks) (through ks)

unfoldable pub through_later : List (AtSeat Call) → List Call
through_later [] = []
through_later (k ∷ ks) = cond (let_through (placed k)) (k.call ∷ through_later ks) (through_later ks)

-- ground 8, for the length of the list, 18 or 19
abbrev pub OfSeat : Refusal → Type 0
OfSeat r = (r ≡ Ground.Length) ⊎ ((r ≡ Ground.Rights) ⊎ (r ≡ Ground.Seat))

module _ (table : List ℕ) (ok : accepted table ≡ true) where
  module _ (state : List ℕ) (long : length state ≡ state_length) (k : AtSeat Any) where
    abbrev told : Admission
    told = seat_admission table state k.rights k.seat (asked k.call)

    pub through_admitted : let_through k ≡ true → told ≡ Ok tt
    unfolding let_through
    through_admitted e =
        let (l, i, h) = three (eqb (length k.rights) rights_length) (rights_in_range k.rights) (has_right k.rights k.seat (asked k.call)) e in
        (seat_admitted_iff table state k.rights k.seat (asked k.call)).1
        ((right_lengths table ok state long, eqb-true (length k.rights) rights_length l), ok, i, h)

    pub others_refused : let_through k ≡ false → (r : Refusal) × (told ≡ Err r) × OfSeat r
    unfolding let_through
    others_refused e = case_b (eqb (length k.rights) rights_length)
        (λ l. let h : AllLengths table state k.rights = (right_lengths table ok state long, eqb-true (length k.rights) rights_length l) in
        case_b (rights_in_range k.rights)
        (λ i. let n : has_right k.rights k.seat (asked k.call) ≡ false = rw (l, i) at e in
        (Ground.Seat, (right_iff table state k.rights k.seat (asked k.call)).1 (h, ok, i, n), inr (inr refl)))
        (λ i. (Ground.Rights, (rights_iff table state k.rights k.seat (asked k.call)).1 (h, ok, i), inr (inl refl))))
        (λ l. (
          Ground.Length,
          (seat_length_iff table state k.rights k.seat (asked k.call)).1 (λ h. contra (eq-eqb (length k.rights) rights_length h.1) l),
          inl refl,
        ))

  -- ---- lists

  module _ (fit : (i : ℕ) → get_or table i 0 < 256) where
    -- a list of calls at seats leaves what the list of those that are let through leaves
    pub list_through : (state : List ℕ) → SoundBuffer table state → (ks : List (AtSeat Any)) → after_seats table state ks ≡ after_list table state (through ks)
    unfolding after_seats after_list through
    list_through state b [] = refl
    list_through state b (k ∷ ks) = case_b (let_through k)
        (λ y. let q = granted_left table state k.rights k.seat k.call (through_admitted state b.long k y) in
        rw (y, q) (list_through (after_any table state k.call) (any_sound table ok fit state b k.call) ks))
        (λ y. let (r, e, o) = others_refused state b.long k y in
        let q = kept_left table state k.rights k.seat k.call r e in
        rw (y, q) (list_through state b ks))

    -- so does a later list, and it moves whom that list moves
    module _ (state : List ℕ) (b : SoundBuffer table state) (k : AtSeat Call) where
      next_granted : let_through (placed k) ≡ true → after_seat table state (placed k) ≡ after table state k.call
      next_granted y =
          granted_left table state k.rights k.seat (on k.call) (through_admitted state b.long (placed k) y) ∙ any_after table state k.call

      next_kept : let_through (placed k) ≡ false → after_seat table state (placed k) ≡ state
      next_kept y = let (r, e, o) = others_refused state b.long (placed k) y in kept_left table state k.rights k.seat (on k.call) r e

      moving_granted : let_through (placed k) ≡ true → moving_by table state k.rights k.seat k.call ≡ moving table state k.call
      moving_granted y = granted_moving table state k.rights k.seat k.call (through_admitted state b.long (placed k) y)

      moving_kept : let_through (placed k) ≡ false → moving_by table state k.rights k.seat k.call ≡ []
      moving_kept y = let (r, e, o) = others_refused state b.long (placed k) y in kept_moving table state k.rights k.seat k.call r e

    pub later_left : (state : List ℕ) → SoundBuffer table state → (ks : List (AtSeat Call))
        → after_seats table state (map placed ks) ≡ after_all table state (through_later ks)
    unfolding after_seats after_all through_later
    later_left state b [] = refl
    later_left state b (k ∷ ks) = case_b (let_through (placed k))
        (λ y. rw y (ap (λ x. after_seats table x (map placed ks)) (next_granted state b k y)
        ∙ later_left (after table state k.call) (after_sound table ok fit state b k.call) ks))
        (λ y. rw y (ap (λ x. after_seats table x (map placed ks)) (next_kept state b k y) ∙ later_left state b ks))

    pub later_moving : (state : List ℕ) → SoundBuffer table state → (ks : List (AtSeat Call))
        → moving_seats table state ks ≡ moving_all table state (through_later ks)
    unfolding moving_seats moving_all through_later
    later_moving state b [] = refl
    later_moving state b (k ∷ ks) = case_b (let_through (placed k))
        (λ y. rw (y, moving_granted state b k y, next_granted state b k y)
        (ap (λ (us : List ℕ). moving table state k.call ++ us) (later_moving (after table state k.call) (after_sound table ok fit state b k.call) ks)))
        (λ y. rw (y, moving_kept state b k y, next_kept state b k y) (later_moving state b ks))
