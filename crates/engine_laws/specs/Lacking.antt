-- When the step of a thread lacks a row: the branch that it takes, and no row that is free for it. Assumes nothing.
use Rattle.rules.specs.Answers.{Partner}
use Rattle.std.specs.Prelude.{ℕ, ◌<◌, ◌≤◌, ◌≡◌, refl, ◌≢◌, ◌↔◌, Bool, true, false, ltb, eqb, None, Some}
use Rattle.std.proofs.Math.Path.{sym}
use Rattle.std.proofs.Common.{◌∙◌}
use borrow.Author.Tests.{ltb-true, ltb-false, lt-ltb, le-ltb, eqb-true, eqb-false, eq-eqb, not-true, not-false}
use Rattle.numbers.specs.Search.{first}
use Rattle.numbers.specs.Search.Laws.{case_b, contra, first_passes, first_below, first_is}
use Rattle.table.specs.Table.{Table}
use Rattle.table.specs.Layout.{branch_count}
use Rattle.state.specs.State.{State, max_threads, max_channels, thread_mark, channel_mark, thread, stands_at, in_use, type_in}
use Rattle.rules.specs.Program.{kind_of, branch_at, act_of, guard_holds}
use Rattle.rules.specs.Moves.{is_free_thread, is_free_channel, free_thread, free_channel, meeting, creation, spawning, goes_ahead, act_move, branch_move, ahead, choice, move}
use Rattle.rules.specs.declared.Act.{Act}
use Rattle.rules.specs.declared.Act.TheVariants.{Tau, Meeting, New, Spawn, Assignment}
use Rattle.rules.specs.declared.Move.{Move}
use Rattle.rules.specs.declared.Move.TheVariants.{Ends, Calls, Waits, Goes, Creates, Spawns, Meets, LacksThread, LacksChannel}
use Rattle.next_rows.specs.Around.{around_in, around_none}

module _ (tb : Table) (s : State) (t : ℕ) where
  -- thread t stands at a choice, and branch i of it is the first that goes ahead
  pub record FirstAhead (i : ℕ) : Type 0 where
    pub at_choice : kind_of tb (stands_at (thread s t)) ≡ 1
    pub branch_in : i < branch_count tb (stands_at (thread s t))
    pub goes : ahead tb s t i ≡ true
    pub before : (j : ℕ) → j < i → ahead tb s t j ≡ false

  -- the first branch of thread t's choice that goes ahead does this act
  abbrev pub Takes : Act → Type 0
  Takes a = (i : ℕ) × FirstAhead i × (act_of tb (branch_at tb (stands_at (thread s t)) i) ≡ a)

-- every thread row is in use, and every channel row
abbrev pub NoThreadRow : State → Type 0
NoThreadRow s = (u : ℕ) → u < max_threads → in_use (thread s u) ≡ true

abbrev pub NoChannelRow : State → Type 0
NoChannelRow s = (c : ℕ) → c < max_channels → type_in s c ≢ 0

-- ---- rows

module _ (s : State) where
  thread_none : max_threads ≤ free_thread s → NoThreadRow s
  unfolding free_thread is_free_thread
  thread_none h u l = not-false _ (around_none max_threads (thread_mark s) (is_free_thread s) h u l)

  none_thread : NoThreadRow s → max_threads ≤ free_thread s
  unfolding free_thread is_free_thread
  none_thread f = case_b (ltb (free_thread s) max_threads)
      (λ y. let l = ltb-true (free_thread s) max_threads y in
      contra (f (free_thread s) l) (not-true _ (around_in max_threads (thread_mark s) (is_free_thread s) l)))
      (λ y. ltb-false (free_thread s) max_threads y)

  channel_none : max_channels ≤ free_channel s → NoChannelRow s
  unfolding free_channel is_free_channel
  channel_none h c l = eqb-false (type_in s c) 0 (around_none max_channels (channel_mark s) (is_free_channel s) h c l)

  none_channel : NoChannelRow s → max_channels ≤ free_channel s
  unfolding free_channel is_free_channel
  none_channel f = case_b (ltb (free_channel s) max_channels)
      (λ y. let l = ltb-true (free_channel s) max_channels y in
      absurd (f (free_channel s) l (eqb-true (type_in s (free_channel s)) 0 (around_in max_channels (channel_mark s) (is_free_channel s) l))))
      (λ y. ltb-false (free_channel s) max_channels y)

-- ---- branches

-- the moves that a branch makes
unfoldable by_branch : Move → Bool
by_branch Ends = false
by_branch Calls = false
by_branch Waits = false
by_branch (Goes i) = true
by_branch (Creates i c) = true
by_branch (Spawns i u) = true
by_branch (Meets i u j) = true
by_branch LacksThread = true
by_branch LacksChannel = true

module _ (tb : Table) (s : State) (t : ℕ) where
  abbrev kind : ℕ
  kind = kind_of tb (stands_at (thread s t))

  abbrev branches : ℕ
  branches = branch_count tb (stands_at (thread s t))

  abbrev act : ℕ → Act
  act i = act_of tb (branch_at tb (stands_at (thread s t)) i)

  -- a choice makes the move of the first branch that goes ahead
  move_first : (i : ℕ) → FirstAhead tb s t i → move tb s t ≡ branch_move tb s t i
  unfolding move choice
  move_first i f =
      let e : first (ahead tb s t) branches ≡ i = first_is (ahead tb s t) branches i f.branch_in f.goes f.before in
      rw (eq-eqb kind 1 f.at_choice, e, lt-ltb i branches f.branch_in)

  -- where the move is one that a branch makes, thread t stands at a choice, and one of its branches is the first that goes ahead
  first_move : by_branch (move tb s t) ≡ true → (i : ℕ) × FirstAhead tb s t i
  unfolding move choice by_branch
  first_move g = case_b (eqb kind 1)
      (λ y. case_b (ltb (first (ahead tb s t) branches) branches)
      (λ z. let l = ltb-true (first (ahead tb s t) branches) branches z in (
        first (ahead tb s t) branches,
        record {
          at_choice = eqb-true kind 1 y;
          branch_in = l;
          goes = first_passes (ahead tb s t) branches l;
          before = first_below (ahead tb s t) branches;
        },
      ))
      (λ z. contra g (rw (y, z))))
      (λ y. case_b (eqb kind 2) (λ z. contra g (rw (y, z))) (λ z. contra g (rw (y, z))))

  -- what a move that lacks a row says of the act
  unfoldable Lacks : Act → Move → Type 0
  Lacks a Ends = Unit {0}
  Lacks a Calls = Unit {0}
  Lacks a Waits = Unit {0}
  Lacks a (Goes i) = Unit {0}
  Lacks a (Creates i c) = Unit {0}
  Lacks a (Spawns i u) = Unit {0}
  Lacks a (Meets i u j) = Unit {0}
  Lacks a LacksThread = (a ≡ Spawn) × (max_threads ≤ free_thread s)
  Lacks a LacksChannel = (a ≡ New) × (max_channels ≤ free_channel s)

  meeting_lacks : (a : Act) (i : ℕ) (p : Partner) → Lacks a (meeting i p)
  unfolding Lacks meeting
  meeting_lacks a i None = tt
  meeting_lacks a i (Some (u, j)) = tt

  act_lacks : (i : ℕ) (a : Act) → Lacks a (act_move tb s t i a)
  unfolding Lacks act_move creation spawning
  act_lacks i Tau = tt
  act_lacks i (Meeting d) = meeting_lacks (Meeting d) i _
  act_lacks i New = case_b (ltb (free_channel s) max_channels) (λ y. rw y tt) (λ y. rw y (refl, ltb-false (free_channel s) max_channels y))
  act_lacks i Spawn = case_b (ltb (free_thread s) max_threads) (λ y. rw y tt) (λ y. rw y (refl, ltb-false (free_thread s) max_threads y))
  act_lacks i Assignment = tt

  branch_lacks : (i : ℕ) → Lacks (act i) (branch_move tb s t i)
  unfolding Lacks branch_move
  branch_lacks i = case_b (guard_holds tb (branch_at tb (stands_at (thread s t)) i) (thread s t)) (λ y. rw y (act_lacks i (act i))) (λ y. rw y tt)

  -- a branch that goes ahead makes the move of its act
  ahead_move : (i : ℕ) → ahead tb s t i ≡ true → branch_move tb s t i ≡ act_move tb s t i (act i)
  unfolding ahead branch_move goes_ahead
  ahead_move i g = case_b (guard_holds tb (branch_at tb (stands_at (thread s t)) i) (thread s t)) (λ y. rw y) (λ y. contra g (rw y))

  -- ---- when a step lacks a row

  -- a step lacks a thread row just when it takes a spawn and every row is a thread's
  pub lacks_thread_iff : (move tb s t ≡ LacksThread) ↔ (Takes tb s t Spawn × NoThreadRow s)
  unfolding by_branch Lacks act_move spawning
  lacks_thread_iff = (
    λ e. let (i, f) = first_move (rw e) in
        let m : branch_move tb s t i ≡ LacksThread = sym (move_first i f) ∙ e in
        let (a, n) : Lacks (act i) LacksThread = rw m at (branch_lacks i) in
        ((i, f, a), thread_none s n),
    λ k. let ((i, f, a), n) = k in
        move_first i f ∙ ahead_move i f.goes ∙ rw (a, le-ltb (free_thread s) max_threads (none_thread s n)),
  )

  -- a step lacks a channel row just when it takes a new and every row is a channel's
  pub lacks_channel_iff : (move tb s t ≡ LacksChannel) ↔ (Takes tb s t New × NoChannelRow s)
  unfolding by_branch Lacks act_move creation
  lacks_channel_iff = (
    λ e. let (i, f) = first_move (rw e) in
        let m : branch_move tb s t i ≡ LacksChannel = sym (move_first i f) ∙ e in
        let (a, n) : Lacks (act i) LacksChannel = rw m at (branch_lacks i) in
        ((i, f, a), channel_none s n),
    λ k. let ((i, f, a), n) = k in
        move_first i f ∙ ahead_move i f.goes ∙ rw (a, le-ltb (free_channel s) max_channels (none_channel s n)),
  )
