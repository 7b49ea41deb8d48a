-- No move of a thread, meeting with the bench or collection makes a sound state heavier; and what the state weighs with which a file starts. Assumes
-- nothing.
use Rattle.std.specs.Prelude.{ℕ, zero, suc, ◌+◌, ◌≤◌, ◌<◌, ◌≡◌, true, List, [], ◌≢◌, length, Option, ℤ}
use native.Mathlib.Omega.{arith}
use Rattle.std.proofs.Math.Path.{refl}
use Rattle.std.proofs.Common.{◌∙◌, inl, inr}
use Rattle.std.proofs.lemmas.List.{get_or-replicate}
use Rattle.numbers.specs.Search.Laws.{case_b, contra, sum_below, sum_but_one}
use Rattle.table.specs.Table.{Table, nodes}
use Rattle.table.specs.Layout.{start, branch_count}
use Rattle.table.specs.declared.Part.TheVariants.{Nodes}
use Rattle.loader_laws.specs.Sums.{sum_zero}
use Rattle.state.specs.State.{State, max_threads, thread, stands_at, in_use, is_ready, with_mark, with_thread, with_channel, with_channels}
use Rattle.state.specs.State.Laws.{thread_same, thread_other, threads_with}
use Rattle.rules.specs.Program.{callee, branch_at, next_of, child_of, act_of}
use Rattle.rules.specs.Holding.{settled}
use Rattle.rules.specs.Start.{free_row, entered, opening, started}
use Rattle.rules.specs.Moves.{move, resumed, waiting_row, stored, met, gone, side_of, typed, gone_by, created_by, met_by, value_by, spawned_by, written, perform, met_by_bench}
use Rattle.rules.specs.Calls.{bench}
use Rattle.rules.specs.declared.Direction.{Direction}
use Rattle.rules.specs.declared.Direction.TheVariants.{Out, In}
use Rattle.rules.specs.declared.Act.{Act}
use Rattle.rules.specs.declared.Move.{Move}
use Rattle.rules.specs.declared.Move.TheVariants.{Ends, Calls, Waits, Goes, Creates, Spawns, Meets, LacksThread, LacksChannel}
use Rattle.rules_laws.specs.Guards.{gone_rows}
use Rattle.rules_laws.specs.Reading.Laws.{ready_used, waiting_used}
use Rattle.rules_laws.specs.Soundness.{Sound}
use Rattle.rules_laws.specs.Chosen.{Answering, Spawning, Joining, Chosen, chosen}
use Rattle.rules_laws.specs.ThreadRow.{resumed_node, waiting_node, stored_node}
use Rattle.collector.specs.Collect.{taken, collected}
use Rattle.collector.specs.Collect.Laws.{taken_freed, left_same}
use Rattle.profile.specs.Profile.{definition_bound}
use Rattle.profile_laws.specs.Bounds.{Allowed}
use Rattle.profile_laws.specs.Weight.{node_weight, row_weight, weight, first_weight, call_weight, next_weight, spawn_weight, free_weight, used_weight, row_weight_lem, moved_weight}

-- ---- the node at which a thread's row stands once the thread has gone on

module _ (row : List ℕ) (n k : ℕ) where
  stored_next : (v : ℕ) → stands_at (stored (resumed row n) k v) ≡ n
  stored_next v = stored_node (resumed row n) k v ∙ resumed_node row n

  gone_node : (v : Option ℤ) (a : Act) → stands_at (gone a row n k v) ≡ n
  gone_node = gone_rows (λ r. stands_at r ≡ n) row n k (resumed_node row n) stored_next

  met_node : (v : ℕ) (d : Direction) → stands_at (met d row n k v) ≡ n
  unfolding met
  met_node v Out = resumed_node row n
  met_node v In = stored_next v

-- a thread in use, at a node of the table, whose branch i is taken
module _ (tb : Table) (a : Allowed tb) (row : List ℕ) (u : in_use row ≡ true) (h : stands_at row < nodes tb) (i : ℕ) (l : i < branch_count tb (stands_at row)) where
  -- the row with which it goes on to the branch's next node is no heavier
  onward_lighter : (row' : List ℕ) → stands_at row' ≡ next_of tb (stands_at row) (branch_at tb (stands_at row) i) → row_weight tb row' ≤ row_weight tb row
  onward_lighter row' e = moved_weight tb row row' _ u e (next_weight tb a (stands_at row) h i l)

  gone_lighter : row_weight tb (gone_by tb row i) ≤ row_weight tb row
  unfolding gone_by
  gone_lighter = onward_lighter (gone_by tb row i) (gone_node row _ _ _ (act_of tb (branch_at tb (stands_at row) i)))

  created_lighter : (c : ℕ) → row_weight tb (created_by tb row i c) ≤ row_weight tb row
  unfolding created_by
  created_lighter c = onward_lighter (created_by tb row i c) (stored_next row _ _ c)

  met_lighter : (v : ℕ) → row_weight tb (met_by tb row i v) ≤ row_weight tb row
  unfolding met_by
  met_lighter v = onward_lighter (met_by tb row i v) (met_node row _ _ v (side_of (act_of tb (branch_at tb (stands_at row) i))))

-- ---- a row that is replaced

module _ (tb : Table) (s : State) (all : length s.threads ≡ max_threads) (t : ℕ) (l : t < max_threads) (row : List ℕ) where
  replaced_weight : weight tb (with_thread s t row) + row_weight tb (thread s t) ≤ weight tb s + row_weight tb row
  unfolding weight
  replaced_weight =
      rw (thread_same s t row (rw all l)) at
      (sum_but_one (λ u. row_weight tb (thread (with_thread s t row) u)) (λ u. row_weight tb (thread s u)) max_threads t l
      (λ u m o. rw (thread_other s t row u o) (omega arith)))

  replaced_lighter : row_weight tb row ≤ row_weight tb (thread s t) → weight tb (with_thread s t row) ≤ weight tb s
  replaced_lighter h = omega (arith, replaced_weight)

-- ---- the move of a ready thread

module _ (tb : Table) (a : Allowed tb) (s : State) (ok : Sound tb s) where
  all : length s.threads ≡ max_threads
  all = ok.orderly.shaped.all_threads

  -- a thread that is met, by another or by the bench
  mate_lighter : {t : ℕ} {d : Direction} {c u j : ℕ} → Answering tb s t d c u j → (v : ℕ) → row_weight tb (met_by tb (thread s u) j v) ≤ row_weight tb (thread s u)
  mate_lighter {u = u} {j = j} w v =
      let used = waiting_used (thread s u) w.waits in
      met_lighter tb a (thread s u) used ((ok.orderly.row u w.thread_in).node_in used) j w.branch_in v

  module _ (t : ℕ) (l : t < max_threads) (rd : is_ready (thread s t) ≡ true) where
    abbrev row : List ℕ
    row = thread s t

    abbrev n : ℕ
    n = stands_at row

    used : in_use row ≡ true
    used = ready_used row rd

    inside : n < nodes tb
    inside = (ok.orderly.row t l).node_in used

    -- the thread's row and that of another thread, u
    both_lighter : (row' mate : List ℕ) (u : ℕ) → u < max_threads → u ≢ t
        → row_weight tb row' + row_weight tb mate ≤ row_weight tb row + row_weight tb (thread s u)
        → weight tb (with_thread (with_thread s t row') u mate) ≤ weight tb s
    both_lighter row' mate u m o h = omega (
      arith,
      replaced_weight tb s all t l row',
      rw (thread_other s t row' u o) at (replaced_weight tb (with_thread s t row') (threads_with s t row' ∙ all) u m mate),
    )

    -- the thread's row alone, which stands at node m then
    at_lighter : (row' : List ℕ) (m : ℕ) → stands_at row' ≡ m → node_weight tb m ≤ node_weight tb n → weight tb (with_thread s t row') ≤ weight tb s
    at_lighter row' m e h = replaced_lighter tb s all t l row' (moved_weight tb row row' m used e h)

    calls_lighter : Chosen tb s t Calls → weight tb (written tb s t Calls) ≤ weight tb s
    unfolding written Chosen entered
    calls_lighter k = at_lighter _ (start tb Nodes (callee tb n)) refl (call_weight tb a n inside k)

    goes_lighter : (i : ℕ) → i < branch_count tb n → weight tb (written tb s t (Goes i)) ≤ weight tb s
    unfolding written
    goes_lighter i b = replaced_lighter tb s all t l (gone_by tb row i) (gone_lighter tb a row used inside i b)

    creates_lighter : (i c : ℕ) → i < branch_count tb n → weight tb (written tb s t (Creates i c)) ≤ weight tb s
    unfolding written with_mark typed with_channel weight
    creates_lighter i c b = replaced_lighter tb s all t l (created_by tb row i c) (created_lighter tb a row used inside i b c)

    spawns_lighter : (i u : ℕ) → Spawning tb s t i u → weight tb (written tb s t (Spawns i u)) ≤ weight tb s
    unfolding written with_mark spawned_by weight
    spawns_lighter i u k =
        let m = next_of tb n (branch_at tb n i) in
        let c = child_of tb n (branch_at tb n i) in
        both_lighter (resumed row m) (resumed row c) u k.thread_in (λ q. contra used (rw q at k.unused)) (omega (
          arith,
          row_weight_lem tb (resumed row m) m (resumed_node row m),
          row_weight_lem tb (resumed row c) c (resumed_node row c),
          spawn_weight tb a n inside i k.takes.branch_in k.takes.does,
          used_weight tb row used,
        ))

    meets_lighter : (i u j : ℕ) → Joining tb s t i u j → weight tb (written tb s t (Meets i u j)) ≤ weight tb s
    unfolding written
    meets_lighter i u j k =
        let w = k.partner in
        let mate = thread s u in
        both_lighter _ _ u w.thread_in w.other
        (omega (arith, met_lighter tb a row used inside i k.takes.branch_in (value_by tb mate j), mate_lighter w (value_by tb row i)))

    written_lighter : (m : Move) → Chosen tb s t m → weight tb (written tb s t m) ≤ weight tb s
    unfolding written Chosen
    written_lighter Ends k = replaced_lighter tb s all t l free_row (omega (arith, free_weight tb free_row refl))
    written_lighter Calls k = calls_lighter k
    written_lighter Waits k = at_lighter (waiting_row row) n (waiting_node row) (omega arith)
    written_lighter (Goes i) (inl k) = goes_lighter i k.branch_in
    written_lighter (Goes i) (inr k) = goes_lighter i k.branch_in
    written_lighter (Creates i c) k = creates_lighter i c k.takes.branch_in
    written_lighter (Spawns i u) k = spawns_lighter i u k
    written_lighter (Meets i u j) k = meets_lighter i u j k
    written_lighter LacksThread k = omega arith
    written_lighter LacksChannel k = omega arith

    -- whatever move it makes
    pub move_lighter : weight tb (perform tb s t (move tb s t)) ≤ weight tb s
    unfolding perform settled with_channels weight
    move_lighter = written_lighter (move tb s t) (chosen tb s t)

  -- ---- a meeting with the bench, through branch j of thread u, which waits
  pub bench_lighter : (d : Direction) (c u j v : ℕ) → Answering tb s bench d c u j → weight tb (met_by_bench tb s u j v) ≤ weight tb s
  unfolding met_by_bench settled with_channels weight
  bench_lighter d c u j v k = replaced_lighter tb s all u k.thread_in (met_by tb (thread s u) j v) (mate_lighter k v)

-- ---- a collection: each row is kept or freed
pub collected_lighter : (tb : Table) (s : State) → weight tb (collected tb s) ≤ weight tb s
unfolding weight
collected_lighter tb s = sum_below (λ t. row_weight tb (thread (collected tb s) t)) (λ t. row_weight tb (thread s t)) max_threads
    (λ t l. case_b (taken tb s t)
    (λ y. rw (taken_freed tb s t l y, free_weight tb free_row refl) (omega arith))
    (λ y. rw (left_same tb s t l y) (omega arith)))

-- ---- the start: thread 0 at the first node of definition 0, and no other

module _ (tb : Table) where
  others_free : (t : ℕ) → t < max_threads → t ≢ 0 → row_weight tb (thread (opening tb) t) ≤ 0
  others_free zero l o = absurd (o refl)
  others_free (suc t) l o = rw (get_or-replicate 63 t free_row [] (omega arith), free_weight tb free_row refl) (omega arith)

  pub started_weight : Allowed tb → weight tb (started tb) ≤ definition_bound tb 0
  unfolding started settled with_channels weight entered
  started_weight a = omega (
    arith,
    sum_but_one (λ t. row_weight tb (thread (opening tb) t)) (λ t. 0) max_threads 0 (omega arith) others_free,
    sum_zero (λ t. 0) max_threads (λ i l. refl),
    row_weight_lem tb (thread (opening tb) 0) (start tb Nodes 0) refl,
    first_weight tb a 0 a.grants.some_definition,
  )
