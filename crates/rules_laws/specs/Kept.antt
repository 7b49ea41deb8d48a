-- What a move writes leaves the state orderly: one law for each move. Assumes nothing but what the table grants.
use Prim.Native.Nat.{ℕ, ◌+◌, ◌<◌}
use Rattle.std.proofs.Common.{arith, sym, ◌∙◌, inl, inr}
use Rattle.std.specs.Prelude.{◌≡◌, true, List}
use Rattle.std.proofs.Math.Path.{refl, ap}
use Rattle.table.specs.Table.{Table, slot_row, parameters}
use Rattle.table.specs.Layout.{start, definition_of}
use Rattle.table.specs.declared.Part.TheVariants.{Slots, Nodes}
use Rattle.state.specs.State.{State, max_threads, max_channels, thread, stands_at, slot_of, in_use, is_ready, type_in, with_thread, with_channel}
use Rattle.rules.specs.Program.{type_at, callee, argument, branch_at, next_of, child_of, field_a, opposite}
use Rattle.rules.specs.Start.{free_row, entered}
use Rattle.rules.specs.Moves.{one_up, resumed, waiting_row, typed, gone_by, created_by, met_by, value_by, type_by, spawned_by, written}
use Rattle.rules.specs.declared.Act.TheVariants.{Meeting}
use Rattle.rules.specs.declared.Move.{Move}
use Rattle.rules.specs.declared.Move.TheVariants.{Ends, Calls, Waits, Goes, Creates, Spawns, Meets, LacksThread, LacksChannel}
use Rattle.rules_laws.specs.Granted.{Calling, Definition, Granted}
use Rattle.rules_laws.specs.Reading.Laws.{ready_used, waiting_used, ready_not_waiting, opposite_opposite}
use Rattle.rules_laws.specs.Soundness.{SlotSound, RowSound, Orderly}
use Rattle.rules_laws.specs.Entered.{free_sound, entered_sound}
use Rattle.rules_laws.specs.Chosen.{Answering, Joining, Chosen}
use Rattle.rules_laws.specs.ThreadRow.{resumed_ready, fits, waiting_sound}
use Rattle.rules_laws.specs.Onward.{gone_by_ready, created_by_ready, met_by_ready, own_slot, tau_sound, assigned_sound, created_sound, spawner_sound, child_sound, met_sound}
use Rattle.rules_laws.specs.Meetings.{received}
use Rattle.rules_laws.specs.Blocking.{apart_waiting}
use Rattle.rules_laws.specs.Replaced.{row_apart, row_still, one_up_below, mark_moved, typed_same, row_typed_lem, free_typed}

module _ (tb : Table) (g : Granted tb) (s : State) (o : Orderly tb s) (t : ℕ) (l : t < max_threads) (rd : is_ready (thread s t) ≡ true) where
  used : in_use (thread s t) ≡ true
  used = ready_used (thread s t) rd

  old : RowSound tb (type_in s) (thread s t)
  old = o.row t l

  ends_kept : Orderly tb (written tb s t Ends)
  unfolding written
  ends_kept = row_still tb s o t l free_row (free_sound tb (type_in s)) refl

  -- ---- a call

  module _ (e : Chosen tb s t Calls) where
    abbrev n : ℕ
    n = stands_at (thread s t)

    abbrev d : ℕ
    d = callee tb (stands_at (thread s t))

    calling : Calling tb n
    unfolding Chosen
    calling = g.call n (old.node_in used) e

    entry : Definition tb d
    entry = g.definition d calling.callee_in

    argument_sound : (k : ℕ) → k < parameters tb d
        → (slot_of (thread s t) (argument tb n k) < 4294967296) × SlotSound tb (type_in s) (start tb Nodes d) k (slot_of (thread s t) (argument tb n k))
    argument_sound k b =
        let a = argument tb n k in
        let q = entry.first_same in (
          old.small (2 + a),
          fits tb (type_in s) n a (start tb Nodes d) k (slot_of (thread s t) a) (calling.argument_filled k b) (calling.argument_slot k b)
              (rw q (omega (arith, entry.few_parameters))) (rw q (sym (calling.argument_typed_lem k b)))
              (old.slots used a (own_slot tb g (type_in s) (thread s t) old used a (calling.argument_slot k b))),
        )

    calls_kept : Orderly tb (written tb s t Calls)
    unfolding written entered
    calls_kept =
        let given : ℕ → ℕ = λ k. slot_of (thread s t) (argument tb n k) in
        row_still tb s o t l (entered tb d given) (entered_sound tb g (type_in s) d given calling.callee_in argument_sound) refl

  -- ---- a wait

  waits_kept : Chosen tb s t Waits → Orderly tb (written tb s t Waits)
  unfolding written Chosen
  waits_kept b =
      row_apart tb s o t l (waiting_row (thread s t)) (waiting_sound tb (type_in s) (thread s t) old used b.at_choice b.meeting_only)
      (apart_waiting tb s t b (rw o.shaped.all_threads l) o.apart)

  -- ---- a tau or an assignment

  gone_kept : (i : ℕ) → RowSound tb (type_in s) (gone_by tb (thread s t) i) → Orderly tb (written tb s t (Goes i))
  unfolding written
  gone_kept i r = row_still tb s o t l (gone_by tb (thread s t) i) r (ready_not_waiting (gone_by tb (thread s t) i) (gone_by_ready tb (thread s t) i))

  goes_kept : (i : ℕ) → Chosen tb s t (Goes i) → Orderly tb (written tb s t (Goes i))
  unfolding Chosen
  goes_kept i (inl p) = gone_kept i (tau_sound tb g (type_in s) (thread s t) old used i p.branch_in p.does)
  goes_kept i (inr p) = gone_kept i (assigned_sound tb g (type_in s) (thread s t) old used i p.branch_in p.passes p.does)

  -- ---- a new channel

  type_small : (row : List ℕ) (i : ℕ) → type_by tb row i < 4294967296
  unfolding type_by type_at
  type_small row i =
      let d = definition_of tb (stands_at row) in
      omega (arith, g.small (slot_row tb + (start tb Slots d + field_a tb (branch_at tb (stands_at row) i))) 1)

  creates_kept : (i c : ℕ) → Chosen tb s t (Creates i c) → Orderly tb (written tb s t (Creates i c))
  unfolding written Chosen typed with_thread with_channel
  creates_kept i c p =
      let y = type_by tb (thread s t) i in
      let row = created_by tb (thread s t) i c in
      let o' : Orderly tb (typed s c y) = free_typed tb s o c y p.channel_in p.untyped (type_small (thread s t) i) in
      let r : RowSound tb (type_in (typed s c y)) row =
      created_sound tb g (type_in (typed s c y)) (thread s t) (row_typed_lem tb s o c y p.channel_in p.untyped (thread s t) old) used i
      p.takes.branch_in p.takes.does c p.channel_in (typed_same s o.shaped c y p.channel_in) in
      mark_moved tb (with_thread (typed s c y) t row) (row_still tb (typed s c y) o' t l row r (ready_not_waiting row (created_by_ready tb (thread s t) i c)))
      1 (one_up max_channels c) (omega arith) (one_up_below max_channels c p.channel_in) (λ q. absurd (q refl))

  -- ---- a child

  spawns_kept : (i u : ℕ) → Chosen tb s t (Spawns i u) → Orderly tb (written tb s t (Spawns i u))
  unfolding written Chosen spawned_by with_thread
  spawns_kept i u p =
      let n = stands_at (thread s t) in
      let b = branch_at tb (stands_at (thread s t)) i in
      let row = resumed (thread s t) (next_of tb n b) in
      let child = resumed (thread s t) (child_of tb n b) in
      let o' : Orderly tb (with_thread s t row) =
      row_still tb s o t l row (spawner_sound tb g (type_in s) (thread s t) old used i p.takes.branch_in p.takes.does)
      (ready_not_waiting row (resumed_ready (thread s t) (next_of tb n b))) in
      mark_moved tb (with_thread (with_thread s t row) u child)
      (row_still tb (with_thread s t row) o' u p.thread_in child (child_sound tb g (type_in s) (thread s t) old used i p.takes.branch_in p.takes.does)
      (ready_not_waiting child (resumed_ready (thread s t) (child_of tb n b))))
      0 (one_up max_threads u) (omega arith) (omega (arith, one_up_below max_threads u p.thread_in)) (λ q. one_up_below max_threads u p.thread_in)

  -- ---- a meeting

  module _ (i u j : ℕ) (p : Joining tb s t i u j) where
    abbrev w : Answering tb s t (opposite p.direction) (slot_of (thread s t) (field_a tb (branch_at tb (stands_at (thread s t)) i))) u j
    w = p.partner

    mate : RowSound tb (type_in s) (thread s u)
    mate = o.row u w.thread_in

    mate_used : in_use (thread s u) ≡ true
    mate_used = waiting_used (thread s u) w.waits

    own_row : RowSound tb (type_in s) (met_by tb (thread s t) i (value_by tb (thread s u) j))
    unfolding opposite
    own_row =
        met_sound tb g (type_in s) (thread s t) old used i p.takes.branch_in p.direction (value_by tb (thread s u) j) p.takes.does
        (λ q. received tb g (type_in s) (thread s t) (thread s u) old mate used mate_used i j p.takes.branch_in w.branch_in
        (p.takes.does ∙ ap Meeting q) (w.does ∙ ap (λ x. Meeting (opposite x)) q) (sym w.is))

    mate_row : RowSound tb (type_in s) (met_by tb (thread s u) j (value_by tb (thread s t) i))
    unfolding opposite
    mate_row =
        met_sound tb g (type_in s) (thread s u) mate mate_used j w.branch_in (opposite p.direction) (value_by tb (thread s t) i) w.does
        (λ q. received tb g (type_in s) (thread s u) (thread s t) mate old mate_used used j i w.branch_in p.takes.branch_in
        (w.does ∙ ap Meeting q) (p.takes.does ∙ ap Meeting (sym (opposite_opposite p.direction) ∙ ap opposite q)) w.is)

    meets_kept : Orderly tb (written tb s t (Meets i u j))
    unfolding written with_thread
    meets_kept =
        let row = met_by tb (thread s t) i (value_by tb (thread s u) j) in
        let row' = met_by tb (thread s u) j (value_by tb (thread s t) i) in
        let o' : Orderly tb (with_thread s t row) =
        row_still tb s o t l row own_row (ready_not_waiting row (met_by_ready tb (thread s t) i (value_by tb (thread s u) j))) in
        row_still tb (with_thread s t row) o' u w.thread_in row' mate_row (ready_not_waiting row' (met_by_ready tb (thread s u) j (value_by tb (thread s t) i)))

  -- every move
  pub written_orderly : (m : Move) → Chosen tb s t m → Orderly tb (written tb s t m)
  unfolding written Chosen
  written_orderly Ends e = ends_kept
  written_orderly Calls e = calls_kept e
  written_orderly Waits e = waits_kept e
  written_orderly (Goes i) e = goes_kept i e
  written_orderly (Creates i c) e = creates_kept i c e
  written_orderly (Spawns i u) e = spawns_kept i u e
  written_orderly (Meets i u j) e = meets_kept i u j e
  written_orderly LacksThread e = o
  written_orderly LacksChannel e = o
