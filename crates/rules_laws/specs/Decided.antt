-- What a move that is decided says of the state: `move_says` of any move, and what follows for the moves that change more than the thread's own
-- row. Assumes nothing.
use Rattle.rules.specs.Answers.{Partner}
use Rattle.std.specs.Prelude.{ℕ, ◌<◌, ◌≤◌, ◌≡◌, false, ◌⊎◌, ◌≢◌, ltb, eqb, None, Some}
use Rattle.std.proofs.Common.{arith, sym, ◌∙◌}
use Rattle.std.proofs.Math.Path.{refl}
use Rattle.std.proofs.Math.Bool.{true, not}
use Rattle.std.proofs.Math.Logic.{inl, inr}
use Rattle.std.proofs.Math.ListN.{get_or}
use borrow.Author.Tests.{ltb-true, ltb-false, eqb-true, eqb-false}
use Rattle.numbers.specs.Search.{first}
use Rattle.numbers.specs.Search.Laws.{case_b, contra, first_passes, first_below}
use Rattle.table.specs.Table.{Table}
use Rattle.table.specs.Layout.{branch_count}
use Rattle.state.specs.State.{State, max_threads, max_channels, thread_mark, channel_mark, thread, stands_at, slot_of, is_ready, is_waiting}
use Rattle.rules.specs.Program.{kind_of, branch_at, field_a, act_of, guard_holds, opposite}
use Rattle.rules.specs.Offers.{partner_of}
use Rattle.rules.specs.Moves.{is_free_thread, is_free_channel, free_thread, free_channel, meeting, creation, spawning, goes_ahead, act_move, branch_move, ahead, choice, move}
use Rattle.rules.specs.declared.Direction.{Direction}
use Rattle.rules.specs.declared.Act.{Act}
use Rattle.rules.specs.declared.Act.TheVariants.{Tau, Meeting, New, Spawn, Assignment}
use Rattle.rules.specs.declared.Move.{Move}
use Rattle.rules.specs.declared.Move.TheVariants.{Ends, Calls, Waits, Goes, Creates, Spawns, Meets, LacksThread, LacksChannel}
use Rattle.next_rows.specs.Around.{around_in}
use Rattle.offers.specs.Partners.{offers_says, partner_in}

module _ (tb : Table) (s : State) (t : ℕ) where
  -- the kind of the node at which the thread stands, its branches, and the row of branch i
  abbrev kind : ℕ
  kind = kind_of tb (stands_at (thread s t))

  abbrev branches : ℕ
  branches = branch_count tb (stands_at (thread s t))

  abbrev row_at : ℕ → ℕ
  row_at i = branch_at tb (stands_at (thread s t)) i

  -- the thread stands at a choice, and takes branch i of it, whose guard is true, by its act a
  abbrev pub Taken : ℕ → Act → Type 0
  Taken i a = (kind ≡ 1) × (i < branches) × (guard_holds tb (row_at i) (thread s t) ≡ true) × (act_of tb (row_at i) ≡ a)

  unfoldable pub Says : Move → Type 0
  Says Ends = (kind ≢ 1) × (kind ≢ 2)
  Says Calls = kind ≡ 2
  Says Waits = (kind ≡ 1) × ((i : ℕ) → i < branches → ahead tb s t i ≡ false)
  Says (Goes i) = Taken i Tau ⊎ Taken i Assignment
  Says (Creates i c) = Taken i New × (c ≡ free_channel s) × (c < max_channels)
  Says (Spawns i u) = Taken i Spawn × (u ≡ free_thread s) × (u < max_threads)
  Says (Meets i u j) =
      (d : Direction) × Taken i (Meeting d) × (partner_of tb s t (opposite d) (slot_of (thread s t) (field_a tb (row_at i))) ≡ Some (u, j))
  Says LacksThread = (i : ℕ) × Taken i Spawn × (max_threads ≤ free_thread s)
  Says LacksChannel = (i : ℕ) × Taken i New × (max_channels ≤ free_channel s)

  -- a meeting that waits does not go ahead
  meeting_says : (i : ℕ) (d : Direction) (p : Partner) → Taken i (Meeting d)
      → partner_of tb s t (opposite d) (slot_of (thread s t) (field_a tb (row_at i))) ≡ p → goes_ahead (meeting i p) ≡ true → Says (meeting i p)
  unfolding meeting goes_ahead Says
  meeting_says i d None k e g = contra g refl
  meeting_says i d (Some (u, j)) k e g = (d, k, e)

  creation_says : (i : ℕ) → Taken i New → Says (creation i (free_channel s))
  unfolding creation Says
  creation_says i k =
      case_b (ltb (free_channel s) max_channels)
      (λ a. rw a (k, refl, ltb-true (free_channel s) max_channels a))
      (λ a. rw a (i, k, ltb-false (free_channel s) max_channels a))

  spawning_says : (i : ℕ) → Taken i Spawn → Says (spawning i (free_thread s))
  unfolding spawning Says
  spawning_says i k =
      case_b (ltb (free_thread s) max_threads)
      (λ a. rw a (k, refl, ltb-true (free_thread s) max_threads a))
      (λ a. rw a (i, k, ltb-false (free_thread s) max_threads a))

  act_says : (i : ℕ) (a : Act) → Taken i a → goes_ahead (act_move tb s t i a) ≡ true → Says (act_move tb s t i a)
  unfolding act_move Says
  act_says i Tau k g = inl k
  act_says i (Meeting d) k g = meeting_says i d (partner_of tb s t (opposite d) (slot_of (thread s t) (field_a tb (row_at i)))) k refl g
  act_says i New k g = creation_says i k
  act_says i Spawn k g = spawning_says i k
  act_says i Assignment k g = inr k

  branch_says : (i : ℕ) → kind ≡ 1 → i < branches → goes_ahead (branch_move tb s t i) ≡ true → Says (branch_move tb s t i)
  unfolding branch_move goes_ahead
  branch_says i k l g =
      case_b (guard_holds tb (row_at i) (thread s t))
      (λ a. rw a (act_says i (act_of tb (row_at i)) (k, l, a, refl) (rw a at g)))
      (λ a. contra g (rw a))

  choice_says : kind ≡ 1 → Says (choice tb s t)
  unfolding choice ahead Says
  choice_says k =
      case_b (ltb (first (ahead tb s t) branches) branches)
      (λ a. let l : first (ahead tb s t) branches < branches = ltb-true (first (ahead tb s t) branches) branches a in
      rw a (branch_says (first (ahead tb s t) branches) k l (first_passes (ahead tb s t) branches l)))
      (λ a. rw a (k, λ i l. first_below (ahead tb s t) branches i (omega (arith, ltb-false (first (ahead tb s t) branches) branches a))))

  pub move_says : Says (move tb s t)
  unfolding move Says
  move_says =
      case_b (eqb kind 1)
      (λ a. rw a (choice_says (eqb-true kind 1 a)))
      (λ a. rw a (case_b (eqb kind 2) (λ b. rw b (eqb-true kind 2 b)) (λ b. rw b (eqb-false kind 1 a, eqb-false kind 2 b))))

  -- ---- what follows

  pub meets_waiting : (i u j : ℕ) → move tb s t ≡ Meets i u j → is_waiting (thread s u) ≡ true
  unfolding Says
  meets_waiting i u j e =
      let h : Says (Meets i u j) = rw e at move_says in
      let (d, k, f) = h in
      let (l, o, a, b, g) = partner_in tb s t (opposite d) (slot_of (thread s t) (field_a tb (row_at i))) u j f in
      (offers_says tb (thread s u) (opposite d) (slot_of (thread s t) (field_a tb (row_at i))) a).1

  pub spawns_free : (i u : ℕ) → move tb s t ≡ Spawns i u → (u < max_threads) × (is_free_thread s u ≡ true)
  unfolding Says free_thread
  spawns_free i u e =
      let h : Says (Spawns i u) = rw e at move_says in
      let (k, f, l) = h in
      (l, rw f (around_in max_threads (thread_mark s) (is_free_thread s) (rw f at l)))

  -- a free row is not that of a ready thread
  pub spawns_other : (i u : ℕ) → move tb s t ≡ Spawns i u → is_ready (thread s t) ≡ true → u ≢ t
  unfolding is_free_thread
  spawns_other i u e r q =
      let (l, f) = spawns_free i u e in
      let one : get_or (thread s t) 0 0 ≡ 1 = eqb-true (get_or (thread s t) 0 0) 1 r in
      let free : not (not (eqb (get_or (thread s u) 0 0) 0)) ≡ true = f in
      contra (rw (q, one) at free) refl

  pub creates_free : (i c : ℕ) → move tb s t ≡ Creates i c → (c < max_channels) × (is_free_channel s c ≡ true)
  unfolding Says free_channel
  creates_free i c e =
      let h : Says (Creates i c) = rw e at move_says in
      let (k, f, l) = h in
      (l, rw f (around_in max_channels (channel_mark s) (is_free_channel s) (rw f at l)))

-- ---- the bounds of what a move m names, as they are needed where m was answered and matched

module _ (tb : Table) (s : State) (t : ℕ) (m : Move) (e : m ≡ move tb s t) where
  pub spawned_below : (i u : ℕ) → m ≡ Spawns i u → u < max_threads
  spawned_below i u f = let (l, g) = spawns_free tb s t i u (sym e ∙ f) in l

  pub created_below : (i c : ℕ) → m ≡ Creates i c → c < max_channels
  created_below i c f = let (l, g) = creates_free tb s t i c (sym e ∙ f) in l
