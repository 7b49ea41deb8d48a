-- Who takes part in a move, and the thread rows that a move leaves as they were. Assumes nothing.
use Rattle.std.specs.Prelude.{ℕ, ◌<◌, ◌≡◌, Bool, true, false, ◌||◌, ◌⊎◌, ◌≢◌, eqb, Some}
use Rattle.std.proofs.Math.Path.{refl}
use Rattle.std.proofs.Common.{◌∙◌, inl, inr, eqb-true, eq-eqb, ne_eqb}
use mathlib.Core.List.{List, [], ◌∷◌, ◌++◌}
use Rattle.numbers.specs.Search.Laws.{case_b, contra}
use Rattle.table.specs.Table.{Table}
use Rattle.state.specs.State.{State, max_threads, thread, stands_at, in_use, is_ready, is_waiting, with_mark, with_thread, with_channel, with_channels}
use Rattle.state.specs.State.Laws.{thread_other}
use Rattle.rules.specs.Program.{branch_at, act_of, opposite}
use Rattle.rules.specs.Holding.{settled}
use Rattle.rules.specs.Offers.{offers, partner_of}
use Rattle.rules.specs.Moves.{move, typed, met_by, spawned_by, written, perform, met_by_bench}
use Rattle.rules.specs.Calls.{bench, past_turn}
use Rattle.rules.specs.declared.Direction.{Direction}
use Rattle.rules.specs.declared.Act.TheVariants.{Meeting}
use Rattle.rules.specs.declared.Move.{Move}
use Rattle.rules.specs.declared.Move.TheVariants.{Ends, Calls, Waits, Goes, Creates, Spawns, Meets, LacksThread, LacksChannel}
use Rattle.rules_laws.specs.Reading.Laws.{ready_used, waiting_used, ready_not_waiting}
use Rattle.rules_laws.specs.Chosen.{Joining, Chosen, chosen, channel_by, partner_answers}

-- ---- numbers in a list

unfoldable pub elem : ℕ → List ℕ → Bool
elem t [] = false
elem t (u ∷ us) = eqb t u || elem t us

pub elem_first : (t : ℕ) (us : List ℕ) → elem t (t ∷ us) ≡ true
unfolding elem
elem_first t us = rw (eq-eqb t t refl)

pub elem_later : (t u : ℕ) (us : List ℕ) → elem t us ≡ true → elem t (u ∷ us) ≡ true
unfolding elem
elem_later t u us e = case_b (eqb t u) (λ h. rw h) (λ h. rw (h, e))

pub elem_cases : (t u : ℕ) (us : List ℕ) → elem t (u ∷ us) ≡ true → (t ≡ u) ⊎ (elem t us ≡ true)
unfolding elem
elem_cases t u us e = case_b (eqb t u) (λ h. inl (eqb-true t u h)) (λ h. inr (rw h at e))

pub elem_nil {ℓ} : {A : Type ℓ} (t : ℕ) → elem t [] ≡ true → A
unfolding elem
elem_nil t e = contra e refl

-- what is not in a list is not its first, and not in the rest
pub elem_not : (t u : ℕ) (us : List ℕ) → elem t (u ∷ us) ≡ false → (t ≢ u) × (elem t us ≡ false)
unfolding elem
elem_not t u us e = case_b (eqb t u) (λ h. contra (rw h) e) (λ h. ((λ q. contra (eq-eqb t u q) h), rw h at e))

pub elem_none : (t u : ℕ) (us : List ℕ) → t ≢ u → elem t us ≡ false → elem t (u ∷ us) ≡ false
unfolding elem
elem_none t u us n e = rw (ne_eqb t u n, e)

pub elem_append : (t : ℕ) (us vs : List ℕ) → elem t us ≡ false → elem t vs ≡ false → elem t (us ++ vs) ≡ false
unfolding elem
elem_append t [] vs e f = f
elem_append t (u ∷ us) vs e f = case_b (eqb t u) (λ h. contra (rw h) e) (λ h. rw (h, elem_append t us vs (rw h at e) f))

-- ---- who takes part

-- the threads that take part in move m of thread t: itself and the thread that it meets; none where a row is lacking
unfoldable pub movers : ℕ → Move → List ℕ
movers t Ends = t ∷ []
movers t Calls = t ∷ []
movers t Waits = t ∷ []
movers t (Goes i) = t ∷ []
movers t (Creates i c) = t ∷ []
movers t (Spawns i u) = t ∷ []
movers t (Meets i u j) = t ∷ u ∷ []
movers t LacksThread = []
movers t LacksChannel = []

-- the row that a move takes for a new thread
unfoldable pub new_rows : Move → List ℕ
new_rows Ends = []
new_rows Calls = []
new_rows Waits = []
new_rows (Goes i) = []
new_rows (Creates i c) = []
new_rows (Spawns i u) = u ∷ []
new_rows (Meets i u j) = []
new_rows LacksThread = []
new_rows LacksChannel = []

-- ---- which rows are written

module _ (tb : Table) (s : State) (t u : ℕ) where
  one_other : (row : List ℕ) → elem u (t ∷ []) ≡ false → thread (settled tb (with_thread s t row)) u ≡ thread s u
  unfolding settled with_channels
  one_other row e = thread_other s t row u (elem_not u t [] e).0

  two_other : (row mate : List ℕ) (v : ℕ) → u ≢ t → u ≢ v → thread (with_thread (with_thread s t row) v mate) u ≡ thread s u
  two_other row mate v n m = thread_other (with_thread s t row) v mate u m ∙ thread_other s t row u n

  -- a move of thread t changes the rows of the threads that take part and the row of a new thread, and no other
  pub frame : (m : Move) → elem u (movers t m) ≡ false → elem u (new_rows m) ≡ false → thread (perform tb s t m) u ≡ thread s u
  unfolding perform written movers new_rows settled with_channels with_mark typed with_channel spawned_by
  frame Ends e f = one_other _ e
  frame Calls e f = one_other _ e
  frame Waits e f = one_other _ e
  frame (Goes i) e f = one_other _ e
  frame (Creates i c) e f = one_other _ e
  frame (Spawns i v) e f = two_other _ _ v (elem_not u t [] e).0 (elem_not u v [] f).0
  frame (Meets i v j) e f = let (n, g) = elem_not u t (v ∷ []) e in two_other _ _ v n (elem_not u v [] g).0
  frame LacksThread e f = refl
  frame LacksChannel e f = refl

  -- a meeting with the bench changes the row of the thread that is met, and no other
  pub bench_frame : (j v : ℕ) → u ≢ t → thread (met_by_bench tb s t j v) u ≡ thread s u
  unfolding met_by_bench settled with_channels
  bench_frame j v n = thread_other s t (met_by tb (thread s t) j v) u n

-- the turn of a run changes no thread's row
pub turn_frame : (s : State) (t u : ℕ) → thread (past_turn s t) u ≡ thread s u
unfolding past_turn with_mark
turn_frame s t u = refl

-- ---- what that says of one thread

module _ (tb : Table) (s : State) (t : ℕ) where
  -- a thread that was in use is not new
  used_old : (u : ℕ) → in_use (thread s u) ≡ true → (m : Move) → Chosen tb s t m → elem u (new_rows m) ≡ false
  unfolding new_rows elem Chosen
  used_old u h Ends k = refl
  used_old u h Calls k = refl
  used_old u h Waits k = refl
  used_old u h (Goes i) k = refl
  used_old u h (Creates i c) k = refl
  used_old u h (Spawns i v) k = elem_none u v [] (λ q. contra (rw q at h) k.unused) refl
  used_old u h (Meets i v j) k = refl
  used_old u h LacksThread k = refl
  used_old u h LacksChannel k = refl

  -- a ready thread, other than t, takes no part
  ready_apart : (u : ℕ) → u ≢ t → is_ready (thread s u) ≡ true → (m : Move) → Chosen tb s t m → elem u (movers t m) ≡ false
  unfolding movers elem Chosen
  ready_apart u n r Ends k = elem_none u t [] n refl
  ready_apart u n r Calls k = elem_none u t [] n refl
  ready_apart u n r Waits k = elem_none u t [] n refl
  ready_apart u n r (Goes i) k = elem_none u t [] n refl
  ready_apart u n r (Creates i c) k = elem_none u t [] n refl
  ready_apart u n r (Spawns i v) k = elem_none u t [] n refl
  ready_apart u n r (Meets i v j) k =
      elem_none u t (v ∷ []) n (elem_none u v [] (λ q. contra k.partner.waits (ready_not_waiting (thread s v) (rw q at r))) refl)
  ready_apart u n r LacksThread k = refl
  ready_apart u n r LacksChannel k = refl

  -- a thread that is in use and takes no part has its row word for word after the move of thread t
  pub used_stays : (u : ℕ) → in_use (thread s u) ≡ true → elem u (movers t (move tb s t)) ≡ false → thread (perform tb s t (move tb s t)) u ≡ thread s u
  used_stays u h e = frame tb s t u (move tb s t) e (used_old u h (move tb s t) (chosen tb s t))

  -- every other ready thread has the row that it had
  pub ready_stays : (u : ℕ) → u ≢ t → is_ready (thread s u) ≡ true → thread (perform tb s t (move tb s t)) u ≡ thread s u
  ready_stays u n r = used_stays u (ready_used (thread s u) r) (ready_apart u n r (move tb s t) (chosen tb s t))

  -- every waiting thread that is not met has the row that it had
  pub waiting_stays : (u : ℕ) → is_waiting (thread s u) ≡ true → elem u (movers t (move tb s t)) ≡ false
      → thread (perform tb s t (move tb s t)) u ≡ thread s u
  waiting_stays u w e = used_stays u (waiting_used (thread s u) w) e

  met_joins : (i u j : ℕ) → move tb s t ≡ Meets i u j → Joining tb s t i u j
  unfolding Chosen
  met_joins i u j e = as_meeting (move tb s t) e (chosen tb s t)
    where
      as_meeting : (m : Move) → m ≡ Meets i u j → Chosen tb s t m → Joining tb s t i u j
      as_meeting m q k = rw q at k

  -- a thread that is met waits, with an offer of the other direction on the channel of the branch that thread t takes
  pub met_waited : (i u j : ℕ) → move tb s t ≡ Meets i u j
      → (d : Direction)
      × (act_of tb (branch_at tb (stands_at (thread s t)) i) ≡ Meeting d)
      × (is_waiting (thread s u) ≡ true)
      × (offers tb (thread s u) (opposite d) (channel_by tb s t i) ≡ true)
  met_waited i u j e = let o = met_joins i u j e in (o.direction, o.takes.does, o.partner.waits, o.partner.offering)

-- a thread that the bench meets on port p waits, with an offer on that port
pub bench_waited : (tb : Table) (s : State) (d : Direction) (p u j : ℕ) → partner_of tb s bench d p ≡ Some (u, j)
    → (u < max_threads) × (is_waiting (thread s u) ≡ true) × (offers tb (thread s u) d p ≡ true)
bench_waited tb s d p u j e = let a = partner_answers tb s bench d p u j e in (a.thread_in, a.waits, a.offering)
