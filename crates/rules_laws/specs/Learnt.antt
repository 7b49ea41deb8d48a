-- What a thread may learn by a move: every channel that it holds afterwards it held before, or a thread that took part did, or it was free. A port
-- brings nothing to hold. Assumes nothing but what the table grants.
use Rattle.std.specs.Prelude.{ℕ, ◌<◌, ◌≡◌, true, ◌⊎◌, ◌≢◌, length, Some}
use Rattle.std.proofs.Common.{arith, sym, ◌∙◌, ap}
use Rattle.std.proofs.Math.Path.{refl}
use mathlib.Core.List.{List, [], ◌∷◌}
use Rattle.std.proofs.Math.Logic.{inl, inr, ⊎_elim}
use Rattle.table.specs.Table.{Table, ports, carried}
use Rattle.table.specs.Layout.{branch_count, definition_of, slot_type}
use Rattle.state.specs.State.{State, max_threads, max_channels, row_slots, thread, stands_at, slot_of, in_use, is_ready, type_in, with_mark, with_thread, with_channel, with_channels}
use Rattle.state.specs.State.Laws.{threads_with}
use Rattle.rules.specs.Program.{kind_of, callee, argument, branch_at, next_of, field_a, field_b, act_of, opposite}
use Rattle.rules.specs.Holding.{holds, settled}
use Rattle.rules.specs.Start.{free_row, entered}
use Rattle.rules.specs.Offers.{partner_of}
use Rattle.rules.specs.Moves.{move, gone, side_of, typed, gone_by, created_by, met_by, value_by, spawned_by, written, perform, met_by_bench}
use Rattle.rules.specs.Calls.{bench}
use Rattle.rules.specs.declared.Direction.{Direction}
use Rattle.rules.specs.declared.Act.TheVariants.{Tau, Meeting, Assignment}
use Rattle.rules.specs.declared.Move.{Move}
use Rattle.rules.specs.declared.Move.TheVariants.{Ends, Calls, Waits, Goes, Creates, Spawns, Meets, LacksThread, LacksChannel}
use Rattle.rules_laws.specs.Granted.{Granted}
use Rattle.rules_laws.specs.Reading.Laws.{ready_used, waiting_used, holds_elim, holds_intro}
use Rattle.rules_laws.specs.Soundness.{RowSound, Orderly, Sound}
use Rattle.rules_laws.specs.Chosen.{Open, Answering, Joining, Creating, Chosen, chosen, partner_answers}
use Rattle.rules_laws.specs.Guards.{assigning}
use Rattle.rules_laws.specs.Onward.{own_slot, branching}
use Rattle.rules_laws.specs.Meetings.{meets_by, value_type}
use Rattle.rules_laws.specs.Replaced.{set_read}
use Rattle.rules_laws.specs.Frames.{elem, elem_first, elem_later, movers}
use Rattle.rules_laws.specs.Held.{waiting_held, resumed_held, stored_held, met_held, free_held, entered_held}

-- in s, before a move of the threads in who, channel c was free, or thread u or one of those in who held it
abbrev pub Knew : Table → State → List ℕ → ℕ → ℕ → Type 0
Knew tb s who u c = (type_in s c ≡ 0) ⊎ ((w : ℕ) × ((w ≡ u) ⊎ (elem w who ≡ true)) × (holds tb (thread s w) c ≡ true))

-- ---- rows written

module _ (tb : Table) (s : State) (who : List ℕ) where
  -- all that row holds was free, or held by one of who
  abbrev From : List ℕ → Type 0
  From row = (c : ℕ) → holds tb row c ≡ true → (type_in s c ≡ 0) ⊎ ((w : ℕ) × (elem w who ≡ true) × (holds tb (thread s w) c ≡ true))

  knew_from : (row : List ℕ) → From row → (u c : ℕ) → holds tb row c ≡ true → Knew tb s who u c
  knew_from row f u c h = ⊎_elim (λ z. inl z) (λ (w, e, k). inr (w, inr e, k)) (f c h)

module _ (tb : Table) (s : State) (long : length s.threads ≡ max_threads) (who : List ℕ) where
  -- one row is written, or two are
  one_known : (t : ℕ) (row : List ℕ) → t < max_threads → From tb s who row → (u c : ℕ) → holds tb (thread (with_thread s t row) u) c ≡ true → Knew tb s who u c
  unfolding with_thread
  one_known t row l f u c h =
      set_read s.threads t u row [] (omega (arith, long))
      (λ q e. knew_from tb s who row f u c (rw e at h))
      (λ q e. inr (u, inl refl, rw e at h))

  two_known : (t v : ℕ) (row mate : List ℕ) → t < max_threads → v < max_threads → From tb s who row → From tb s who mate
      → (u c : ℕ) → holds tb (thread (with_thread (with_thread s t row) v mate) u) c ≡ true → Knew tb s who u c
  unfolding with_thread
  two_known t v row mate l m f k u c h =
      set_read (with_thread s t row).threads v u mate [] (omega (arith, long, threads_with s t row))
      (λ q e. knew_from tb s who mate k u c (rw e at h))
      (λ q e. one_known t row l f u c (rw e at h))

-- ---- meetings

module _ (tb : Table) (g : Granted tb) (ty : ℕ → ℕ) (row : List ℕ) (r : RowSound tb ty row) (used : in_use row ≡ true) (i : ℕ)
    (l : i < branch_count tb (stands_at row)) (e : Direction) (does : act_of tb (branch_at tb (stands_at row) i) ≡ Meeting e) where
  abbrev with_slot : ℕ
  with_slot = field_b tb (branch_at tb (stands_at row) i)

  with_in : with_slot < row_slots
  with_in = own_slot tb g ty row r used with_slot (meets_by tb g ty row r used i l e does).with_slot_lem

  -- one side of it holds what it held, and what it is given where the slot is for a channel
  side_held : (v c : ℕ) → holds tb (met_by tb row i v) c ≡ true → ((v ≡ c) × (slot_type tb (definition_of tb (stands_at row)) with_slot ≢ 0)) ⊎ (holds tb row c ≡ true)
  unfolding met_by side_of
  side_held v c h =
      met_held tb row used (next_of tb (stands_at row) (branch_at tb (stands_at row) i)) (branching tb g ty row r used i l).next.same r.long e with_slot v with_in c
      (rw does at h)

  -- it holds what it gives, where that is a channel
  given_held : (c : ℕ) → c < max_channels → slot_type tb (definition_of tb (stands_at row)) with_slot ≢ 0 → value_by tb row i ≡ c → holds tb row c ≡ true
  unfolding value_by
  given_held c b n q = holds_intro tb row c (record {
    used = used;
    channel_in = b;
    slot = with_slot;
    slot_in = with_in;
    slot_own = (meets_by tb g ty row r used i l e does).with_slot_lem;
    typed = n;
    is = q;
  })

-- two threads that meet on one channel: each holds afterwards what one of them held
module _ (tb : Table) (g : Granted tb) (ty : ℕ → ℕ) (row mate : List ℕ) (r : RowSound tb ty row) (m : RowSound tb ty mate)
    (used : in_use row ≡ true) (used' : in_use mate ≡ true) (i j : ℕ) (l : i < branch_count tb (stands_at row)) (l' : j < branch_count tb (stands_at mate))
    (e e' : Direction) (does : act_of tb (branch_at tb (stands_at row) i) ≡ Meeting e) (does' : act_of tb (branch_at tb (stands_at mate) j) ≡ Meeting e') where
  joined_held : slot_of row (field_a tb (branch_at tb (stands_at row) i)) ≡ slot_of mate (field_a tb (branch_at tb (stands_at mate) j))
      → (c : ℕ) → holds tb (met_by tb row i (value_by tb mate j)) c ≡ true → (holds tb row c ≡ true) ⊎ (holds tb mate c ≡ true)
  joined_held q c h =
      ⊎_elim
      (λ (v, n). inr (given_held tb g ty mate m used' j l' e' does' c (holds_elim tb (met_by tb row i (value_by tb mate j)) c h).channel_in
      (λ z. n (value_type tb g ty row r used i l e does ∙ ap (λ (y : ℕ). carried tb (ty y)) q ∙ sym (value_type tb g ty mate m used' j l' e' does') ∙ z)) v))
      (λ y. inl y)
      (side_held tb g ty row r used i l e does (value_by tb mate j) c h)

-- ---- the moves of a ready thread

module _ (tb : Table) (g : Granted tb) (s : State) (ok : Orderly tb s) (t : ℕ) (l : t < max_threads) (ready : is_ready (thread s t) ≡ true) where
  abbrev long : length s.threads ≡ max_threads
  long = ok.shaped.all_threads

  abbrev used : in_use (thread s t) ≡ true
  used = ready_used (thread s t) ready

  -- t held all that row holds
  from_self : (who row : List ℕ) → ((c : ℕ) → holds tb row c ≡ true → holds tb (thread s t) c ≡ true) → From tb s (t ∷ who) row
  from_self who row f c h = inr (t, elem_first t who, f c h)

  called_held : kind_of tb (stands_at (thread s t)) ≡ 2
      → (c : ℕ) → holds tb (entered tb (callee tb (stands_at (thread s t))) (λ k. slot_of (thread s t) (argument tb (stands_at (thread s t)) k))) c ≡ true
      → holds tb (thread s t) c ≡ true
  called_held k c h =
      let within = (ok.row t l).node_in used in entered_held tb (thread s t) used g within (g.call (stands_at (thread s t)) within k) c h

  gone_held : (i : ℕ) → Open tb s t i Tau ⊎ Open tb s t i Assignment → (c : ℕ) → holds tb (gone_by tb (thread s t) i) c ≡ true → holds tb (thread s t) c ≡ true
  unfolding gone_by gone
  gone_held i (inl o) c h =
      resumed_held tb (thread s t) used _ (branching tb g (type_in s) (thread s t) (ok.row t l) used i o.branch_in).next.same c (rw o.does at h)
  gone_held i (inr o) c h =
      let b = branching tb g (type_in s) (thread s t) (ok.row t l) used i o.branch_in in
      let (k, z) = b.assigns o.does in
      ⊎_elim (λ (v, n). absurd (n z)) (λ y. y)
      (stored_held tb (thread s t) used _ b.next.same (ok.row t l).long _ _ (own_slot tb g (type_in s) (thread s t) (ok.row t l) used _ k) c
      (rw (assigning tb (thread s t) i o.passes o.does).goes at h))

  created_from : (i k : ℕ) → Creating tb s t i k → From tb s (t ∷ []) (created_by tb (thread s t) i k)
  unfolding created_by
  created_from i k o c h =
      let b = branching tb g (type_in s) (thread s t) (ok.row t l) used i o.takes.branch_in in
      let (a, n) = b.creates o.takes.does in
      ⊎_elim (λ (v, x). inl (rw (← v) o.untyped)) (λ y. inr (t, elem_first t [], y))
      (stored_held tb (thread s t) used _ b.next.same (ok.row t l).long _ k (own_slot tb g (type_in s) (thread s t) (ok.row t l) used _ a) c h)

  met_from : (i u j : ℕ) → Joining tb s t i u j
      → From tb s (t ∷ u ∷ []) (met_by tb (thread s t) i (value_by tb (thread s u) j))
      × From tb s (t ∷ u ∷ []) (met_by tb (thread s u) j (value_by tb (thread s t) i))
  met_from i u j o =
      let p = o.partner in
      let used' : in_use (thread s u) ≡ true = waiting_used (thread s u) p.waits in
      let own : elem t (t ∷ u ∷ []) ≡ true = elem_first t (u ∷ []) in
      let mates : elem u (t ∷ u ∷ []) ≡ true = elem_later u t (u ∷ []) (elem_first u []) in
      let r = ok.row t l in
      let m = ok.row u p.thread_in in (
        (λ c h. inr (⊎_elim (λ y. (t, own, y)) (λ y. (u, mates, y))
            (joined_held tb g (type_in s) (thread s t) (thread s u) r m used used' i j o.takes.branch_in p.branch_in o.direction (opposite o.direction)
            o.takes.does p.does (sym p.is) c h))),
        λ c h. inr (⊎_elim (λ y. (u, mates, y)) (λ y. (t, own, y))
            (joined_held tb g (type_in s) (thread s u) (thread s t) m r used' used j i p.branch_in o.takes.branch_in (opposite o.direction) o.direction
            p.does o.takes.does p.is c h)),
      )

  learns : (m : Move) → Chosen tb s t m → (u c : ℕ) → holds tb (thread (perform tb s t m) u) c ≡ true → Knew tb s (movers t m) u c
  unfolding Chosen perform written movers settled with_channels with_mark typed with_channel spawned_by
  learns Ends k = one_known tb s long (t ∷ []) t free_row l (λ c h. free_held tb c h)
  learns Calls k = one_known tb s long (t ∷ []) t _ l (from_self [] _ (called_held k))
  learns Waits k = one_known tb s long (t ∷ []) t _ l (from_self [] _ (waiting_held tb (thread s t) used))
  learns (Goes i) k = one_known tb s long (t ∷ []) t _ l (from_self [] _ (gone_held i k))
  learns (Creates i c) k = one_known tb s long (t ∷ []) t _ l (created_from i c k)
  learns (Spawns i v) k =
      let b = branching tb g (type_in s) (thread s t) (ok.row t l) used i k.takes.branch_in in
      two_known tb s long (t ∷ []) t v _ _ l k.thread_in
      (from_self [] _ (resumed_held tb (thread s t) used _ b.next.same))
      (from_self [] _ (resumed_held tb (thread s t) used _ (b.child k.takes.does).same))
  learns (Meets i v j) k = let (x, y) = met_from i v j k in two_known tb s long (t ∷ v ∷ []) t v _ _ l k.partner.thread_in x y
  learns LacksThread k = λ u c h. inr (u, inl refl, h)
  learns LacksChannel k = λ u c h. inr (u, inl refl, h)

-- ---- meetings with the bench

-- thread u answers the bench on port p
module _ (tb : Table) (g : Granted tb) (s : State) (ok : Orderly tb s) (d : Direction) (p u j : ℕ) (port : p < ports tb)
    (a : Answering tb s bench d p u j) where
  -- the slot with which thread u meets the bench is for numbers
  pub port_number : slot_type tb (definition_of tb (stands_at (thread s u))) (field_b tb (branch_at tb (stands_at (thread s u)) j)) ≡ 0
  port_number =
      value_type tb g (type_in s) (thread s u) (ok.row u a.thread_in) (waiting_used (thread s u) a.waits) j a.branch_in d a.does
      ∙ ap (λ (y : ℕ). carried tb (type_in s y)) a.is
      ∙ ap (λ (y : ℕ). carried tb y) (ok.port p port)
      ∙ g.port_carries (omega arith)

  bench_row : (v c : ℕ) → holds tb (met_by tb (thread s u) j v) c ≡ true → holds tb (thread s u) c ≡ true
  bench_row v c h =
      ⊎_elim (λ (q, n). absurd (n port_number)) (λ y. y)
      (side_held tb g (type_in s) (thread s u) (ok.row u a.thread_in) (waiting_used (thread s u) a.waits) j a.branch_in d a.does v c h)

  bench_held : (v w c : ℕ) → holds tb (thread (met_by_bench tb s u j v) w) c ≡ true → holds tb (thread s w) c ≡ true
  unfolding met_by_bench settled with_channels with_thread
  bench_held v w c h =
      set_read s.threads u w (met_by tb (thread s u) j v) [] (omega (arith, ok.shaped.all_threads, a.thread_in))
      (λ q e. rw q (bench_row v c (rw e at h)))
      (λ q e. rw e at h)

-- ---- the laws

-- after the move of a ready thread t in a sound state, what thread u holds was held before, by u or by a thread that took part (a partner, or the
-- parent of a new thread), or it was free and is new
pub learnt : (tb : Table) → Granted tb → (s : State) → Sound tb s → (t : ℕ) → t < max_threads → is_ready (thread s t) ≡ true
    → (u c : ℕ) → holds tb (thread (perform tb s t (move tb s t)) u) c ≡ true → Knew tb s (movers t (move tb s t)) u c
learnt tb g s ok t l ready = learns tb g s ok.orderly t l ready (move tb s t) (chosen tb s t)

-- after a meeting with the bench every thread holds only what it held: a port carries numbers
pub bench_learns_nothing : (tb : Table) → Granted tb → (s : State) → Sound tb s → (d : Direction) (p u j : ℕ) → p < ports tb
    → partner_of tb s bench d p ≡ Some (u, j) → (v w c : ℕ) → holds tb (thread (met_by_bench tb s u j v) w) c ≡ true → holds tb (thread s w) c ≡ true
bench_learns_nothing tb g s ok d p u j port e = bench_held tb g s ok.orderly d p u j port (partner_answers tb s bench d p u j e)
