-- What holds of a state when a thread's move is chosen there: `chosen`, of every move, and `partner_answers`, of a partner that is found.
use Rattle.rules.specs.Answers.{Partner}
use Rattle.std.specs.Prelude.{ℕ, ◌<◌, ◌≡◌, true, List, ◌⊎◌, ◌≢◌, ltb, None, Some}
use Rattle.std.proofs.Common.{arith}
use Rattle.std.proofs.Math.Path.{refl}
use Rattle.std.proofs.Math.Bool.{false}
use Rattle.std.proofs.Math.Logic.{inl, inr}
use borrow.Author.Tests.{ltb-false, eqb-true, eq-eqb, ne_eqb, not-true, not-false}
use Rattle.numbers.specs.Search.Laws.{case_b, contra, first_below}
use Rattle.numbers.specs.Tests.{parts, clash}
use Rattle.table.specs.Table.{Table}
use Rattle.table.specs.Layout.{branch_count}
use Rattle.state.specs.State.{State, max_threads, max_channels, thread_mark, channel_mark, thread, stands_at, slot_of, in_use, is_waiting, type_in}
use Rattle.rules.specs.Program.{kind_of, branch_at, field_a, act_of, guard_holds, opposite}
use Rattle.rules.specs.Offers.{offers_in, offers_at, offers, answers, answering, partner_of}
use Rattle.rules.specs.Moves.{is_free_thread, is_free_channel, free_thread, free_channel, meeting, creation, spawning, goes_ahead, act_move, branch_move, ahead, move}
use Rattle.rules.specs.declared.Direction.{Direction}
use Rattle.rules.specs.declared.Act.{Act}
use Rattle.rules.specs.declared.Act.TheVariants.{Tau, Meeting, New, Spawn, Assignment}
use Rattle.rules.specs.declared.Move.{Move}
use Rattle.rules.specs.declared.Move.TheVariants.{Ends, Calls, Waits, Goes, Creates, Spawns, Meets, LacksThread, LacksChannel}
use Rattle.next_rows.specs.Around.{around_in, around_none}
use Rattle.offers.specs.Partners.{offers_says, partner_in}
use Rattle.rules_laws.specs.Decided.{Says, Taken, move_says}
use Rattle.rules_laws.specs.Reading.Laws.{meets_is}

-- ---- what is said of a move

module _ (tb : Table) (s : State) (t : ℕ) where
  -- the channel slot of branch i of thread t's node has this
  abbrev pub channel_by : ℕ → ℕ
  channel_by i = slot_of (thread s t) (field_a tb (branch_at tb (stands_at (thread s t)) i))

  -- thread t stands at a choice, and its branch i, which does act a, has a true guard
  pub record Open (i : ℕ) (a : Act) : Type 0 where
    pub at_choice : kind_of tb (stands_at (thread s t)) ≡ 1
    pub branch_in : i < branch_count tb (stands_at (thread s t))
    pub passes : guard_holds tb (branch_at tb (stands_at (thread s t)) i) (thread s t) ≡ true
    pub does : act_of tb (branch_at tb (stands_at (thread s t)) i) ≡ a

  -- thread u is another than t and waits, and its branch j, which has a true guard, offers d on channel c
  pub record Answering (d : Direction) (c u j : ℕ) : Type 0 where
    pub thread_in : u < max_threads
    pub other : u ≢ t
    pub offering : offers tb (thread s u) d c ≡ true
    pub waits : is_waiting (thread s u) ≡ true
    pub channel_in : c < max_channels
    pub branch_in : j < branch_count tb (stands_at (thread s u))
    pub passes : guard_holds tb (branch_at tb (stands_at (thread s u)) j) (thread s u) ≡ true
    pub does : act_of tb (branch_at tb (stands_at (thread s u)) j) ≡ Meeting d
    pub is : slot_of (thread s u) (field_a tb (branch_at tb (stands_at (thread s u)) j)) ≡ c

  -- thread t meets thread u by branches i and j
  pub record Joining (i u j : ℕ) : Type 0 where
    pub direction : Direction
    pub takes : Open i (Meeting direction)
    pub partner : Answering (opposite direction) (channel_by i) u j

  -- thread t makes the free channel c by branch i
  pub record Creating (i c : ℕ) : Type 0 where
    pub takes : Open i New
    pub found : c ≡ free_channel s
    pub channel_in : c < max_channels
    pub untyped : type_in s c ≡ 0

  -- thread t starts a child in the free row u by branch i
  pub record Spawning (i u : ℕ) : Type 0 where
    pub takes : Open i Spawn
    pub found : u ≡ free_thread s
    pub thread_in : u < max_threads
    pub unused : in_use (thread s u) ≡ false

  -- thread t stands at a choice, and each of its branches whose guard is true is a meeting that no other thread answers
  pub record Blocked : Type 0 where
    pub at_choice : kind_of tb (stands_at (thread s t)) ≡ 1
    pub meeting_only : (i : ℕ) → i < branch_count tb (stands_at (thread s t)) → guard_holds tb (branch_at tb (stands_at (thread s t)) i) (thread s t) ≡ true
        → (d : Direction) × (act_of tb (branch_at tb (stands_at (thread s t)) i) ≡ Meeting d)
    pub unanswered : (i : ℕ) (d : Direction) → Open i (Meeting d) → (u : ℕ) → u < max_threads → u ≢ t → offers tb (thread s u) (opposite d) (channel_by i) ≡ false

  -- what holds where thread t, which is ready, makes a move
  unfoldable pub Chosen : Move → Type 0
  Chosen Ends = (kind_of tb (stands_at (thread s t)) ≢ 1) × (kind_of tb (stands_at (thread s t)) ≢ 2)
  Chosen Calls = kind_of tb (stands_at (thread s t)) ≡ 2
  Chosen Waits = Blocked
  Chosen (Goes i) = Open i Tau ⊎ Open i Assignment
  Chosen (Creates i c) = Creating i c
  Chosen (Spawns i u) = Spawning i u
  Chosen (Meets i u j) = Joining i u j
  Chosen LacksThread = (i : ℕ) × Open i Spawn × ((u : ℕ) → u < max_threads → in_use (thread s u) ≡ true)
  Chosen LacksChannel = (i : ℕ) × Open i New × ((c : ℕ) → c < max_channels → type_in s c ≢ 0)

-- ---- partners

at_differs : (u j : ℕ) {A : Type 0} → ◌≡◌ {A = Partner} (Some (u, j)) None → A
at_differs u j e = clash cc

module _ (tb : Table) (row : List ℕ) (d : Direction) (c j : ℕ) (e : offers_at tb row d c j ≡ true) where
  offered_act : act_of tb (branch_at tb (stands_at row) j) ≡ Meeting d
  unfolding offers_at offers_in
  offered_act = meets_is (act_of tb (branch_at tb (stands_at row) j)) d (search parts)

  offered_on : slot_of row (field_a tb (branch_at tb (stands_at row) j)) ≡ c
  unfolding offers_at offers_in
  offered_on = eqb-true (slot_of row (field_a tb (branch_at tb (stands_at row) j))) c (search parts)

  offered_passes : guard_holds tb (branch_at tb (stands_at row) j) row ≡ true
  unfolding offers_at offers_in
  offered_passes = search parts

module _ (tb : Table) (s : State) (t : ℕ) (d : Direction) (c : ℕ) where
  -- a partner that is found answers
  pub partner_answers : (u j : ℕ) → partner_of tb s t d c ≡ Some (u, j) → Answering tb s t d c u j
  partner_answers u j e =
      let (l, o, a, b, g) = partner_in tb s t d c u j e in
      let (k, w, i, p) = offers_says tb (thread s u) d c a in
      let p' : offers_at tb (thread s u) d c j ≡ true = rw b p in
      record {
        thread_in = l;
        other = o;
        offering = a;
        waits = w;
        channel_in = k;
        branch_in = g;
        passes = offered_passes tb (thread s u) d c j p';
        does = offered_act tb (thread s u) d c j p';
        is = offered_on tb (thread s u) d c j p';
      }

  -- where none is found, nobody does
  pub nobody_answers : partner_of tb s t d c ≡ None → (u : ℕ) → u < max_threads → u ≢ t → offers tb (thread s u) d c ≡ false
  unfolding partner_of answering answers
  nobody_answers e u l n =
      case_b (ltb (answering tb s t d c) max_threads)
      (λ a. at_differs _ _ (rw a at e))
      (λ a. let f : answers tb s t d c u ≡ false = first_below (answers tb s t d c) max_threads u (omega (arith, ltb-false (answering tb s t d c) max_threads a)) in
      rw (ne_eqb u t n) at f)

-- ---- moves

module _ (tb : Table) (s : State) (t : ℕ) where
  opened : (i : ℕ) (a : Act) → Taken tb s t i a → Open tb s t i a
  opened i a (k, l, g, e) = record { at_choice = k; branch_in = l; passes = g; does = e }

  -- ---- a branch with a true guard that does not go ahead

  meeting_waits : (i : ℕ) (p : Partner) → goes_ahead (meeting i p) ≡ false → p ≡ None
  unfolding meeting goes_ahead
  meeting_waits i None e = refl
  meeting_waits i (Some (u, j)) e = contra refl e

  creation_ahead : (i c : ℕ) → goes_ahead (creation i c) ≡ true
  unfolding creation goes_ahead
  creation_ahead i c = case_b (ltb c max_channels) (λ a. rw a) (λ a. rw a)

  spawning_ahead : (i u : ℕ) → goes_ahead (spawning i u) ≡ true
  unfolding spawning goes_ahead
  spawning_ahead i u = case_b (ltb u max_threads) (λ a. rw a) (λ a. rw a)

  act_waits : (i : ℕ) (a : Act) → goes_ahead (act_move tb s t i a) ≡ false → (d : Direction) × (a ≡ Meeting d)
  unfolding act_move goes_ahead
  act_waits i Tau e = contra refl e
  act_waits i (Meeting d) e = (d, refl)
  act_waits i New e = contra (creation_ahead i (free_channel s)) e
  act_waits i Spawn e = contra (spawning_ahead i (free_thread s)) e
  act_waits i Assignment e = contra refl e

  module _ (i : ℕ) (e : ahead tb s t i ≡ false) where
    open_waits : guard_holds tb (branch_at tb (stands_at (thread s t)) i) (thread s t) ≡ true
        → goes_ahead (act_move tb s t i (act_of tb (branch_at tb (stands_at (thread s t)) i))) ≡ false
    unfolding ahead branch_move
    open_waits g = rw g at e

    waits_alone_lem : (d : Direction) → Open tb s t i (Meeting d) → partner_of tb s t (opposite d) (channel_by tb s t i) ≡ None
    unfolding act_move
    waits_alone_lem d o =
        let w : goes_ahead (act_move tb s t i (Meeting d)) ≡ false = rw o.does at open_waits o.passes in
        meeting_waits i (partner_of tb s t (opposite d) (channel_by tb s t i)) w

  blocked : kind_of tb (stands_at (thread s t)) ≡ 1 → ((i : ℕ) → i < branch_count tb (stands_at (thread s t)) → ahead tb s t i ≡ false) → Blocked tb s t
  blocked k h = record {
    at_choice = k;
    meeting_only = λ i l g. act_waits i (act_of tb (branch_at tb (stands_at (thread s t)) i)) (open_waits i (h i l) g);
    unanswered = λ i d o. nobody_answers tb s t (opposite d) (channel_by tb s t i) (waits_alone_lem i (h i o.branch_in) d o);
  }

  -- ---- a move that is decided

  creating : (i c : ℕ) → Says tb s t (Creates i c) → Creating tb s t i c
  unfolding Says free_channel is_free_channel
  creating i c (k, e, l) = record {
    takes = opened i New k;
    found = e;
    channel_in = l;
    untyped = eqb-true (type_in s c) 0 (rw e (around_in max_channels (channel_mark s) (is_free_channel s) (rw e at l)));
  }

  spawned : (i u : ℕ) → Says tb s t (Spawns i u) → Spawning tb s t i u
  unfolding Says free_thread is_free_thread
  spawned i u (k, e, l) = record {
    takes = opened i Spawn k;
    found = e;
    thread_in = l;
    unused = not-true (in_use (thread s u)) (rw e (around_in max_threads (thread_mark s) (is_free_thread s) (rw e at l)));
  }

  joining : (i u j : ℕ) → Says tb s t (Meets i u j) → Joining tb s t i u j
  unfolding Says
  joining i u j (d, k, e) = record {
    direction = d;
    takes = opened i (Meeting d) k;
    partner = partner_answers tb s t (opposite d) (channel_by tb s t i) u j e;
  }

  said : (m : Move) → Says tb s t m → Chosen tb s t m
  unfolding Says Chosen free_thread is_free_thread free_channel is_free_channel
  said Ends h = h
  said Calls h = h
  said Waits (k, h) = blocked k h
  said (Goes i) (inl k) = inl (opened i Tau k)
  said (Goes i) (inr k) = inr (opened i Assignment k)
  said (Creates i c) h = creating i c h
  said (Spawns i u) h = spawned i u h
  said (Meets i u j) h = joining i u j h
  said LacksThread (i, k, l) = (i, opened i Spawn k, λ u b. not-false (in_use (thread s u)) (around_none max_threads (thread_mark s) (is_free_thread s) l u b))
  said LacksChannel (i, k, l) =
      (i, opened i New k, λ c b z. contra (eq-eqb (type_in s c) 0 z) (around_none max_channels (channel_mark s) (is_free_channel s) l c b))

  -- the move that a thread makes meets the conditions of its rule
  pub chosen : Chosen tb s t (move tb s t)
  chosen = said (move tb s t) (move_says tb s t)
