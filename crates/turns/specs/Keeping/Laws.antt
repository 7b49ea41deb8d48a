-- Where the rows that a move writes hold what they held, no count of holders is to be moved, and counts of waiting holders only for one row: this is so after
-- a tau, an assignment, a wait, and a meeting at which a number is given. Assumes nothing but what the table grants.
use Rattle.rules.specs.Answers.{Partner}
use Rattle.std.specs.Prelude.{ℕ, ◌<◌, ◌≡◌, ◌⊎◌, ◌≢◌, List, Bool, true, Some}
use Rattle.std.proofs.Math.Path.{refl, sym, ap}
use Rattle.std.proofs.Common.{◌∙◌, inl, inr, eqb-true}
use Rattle.std.proofs.Math.ListN.{length}
use Rattle.numbers.specs.Rows.{at}
use Rattle.table.specs.Table.{Table, ports, carried}
use Rattle.table.specs.Layout.{branch_count, definition_of, slot_type}
use Rattle.state.specs.State.{max_threads, minus_one, State, state_of, thread, stands_at, in_use, is_ready, type_in, with_thread, with_channels}
use Rattle.state.specs.State.Laws.{length_threads, used_below, thread_other, threads_with}
use Rattle.rules.specs.Program.{type_at, field_b, act_of, opposite}
use Rattle.rules.specs.Holding.{holds, settled}
use Rattle.rules.specs.Offers.{partner_of}
use Rattle.rules.specs.Start.{entered}
use Rattle.rules.specs.Moves.{waiting_row, gone, side_of, row_of, gone_by, met_by, value_by, move, written, met_by_bench}
use Rattle.rules.specs.Calls.{bench}
use Rattle.rules.specs.declared.Direction.{Direction}
use Rattle.rules.specs.declared.Act.TheVariants.{Tau, Assignment}
use Rattle.rules.specs.declared.Move.{Move}
use Rattle.rules.specs.declared.Move.TheVariants.{Calls, Waits, Goes, Spawns, Meets}
use Rattle.call_rows.specs.CalledRow.{call_keeps}
use Rattle.meetings.specs.Sides.{Facing}
use Rattle.program.specs.HandedOn.{gone_storing, Carries}
use Rattle.program.specs.HandedOn.Laws.{gone_storing_lem, goes_assigns}
use Rattle.rules_laws.specs.Granted.{Granted}
use Rattle.rules_laws.specs.Guards.{assigning}
use Rattle.rules_laws.specs.Decided.{spawns_other}
use Rattle.rules_laws.specs.Chosen.{Open, Joining, Chosen, chosen, partner_answers}
use Rattle.rules_laws.specs.Learnt.{port_number}
use Rattle.rules_laws.specs.Meetings.{value_type}
use Rattle.rules_laws.specs.Onward.{branching, gone_by_ready, met_by_ready}
use Rattle.rules_laws.specs.Reading.Laws.{ready_used, waiting_used}
use Rattle.rules_laws.specs.Soundness.{RowSound, Sound}
use Rattle.upkeep.specs.Shift.{row_weighed}
use Rattle.upkeep.specs.Upkeep.{row_kept, row_weighed_lem}
use Rattle.turns.specs.Counted.{Counted}
use Rattle.turns.specs.Counted.Laws.{kept_counted, written_settled}
use Rattle.turns.specs.Running.{Running, MoveMade}
use Rattle.turns.specs.HeldStill.{waiting_holds, resumed_holds, stored_holds, met_holds, call_holds}
use Rattle.turns.specs.Keeping.{CanMeet, AtPort}
use Rattle.turns.specs.Weights.{number_by, weighed_after}
use Rattle.turns.specs.Weights.Laws.{weighs_less, weighs_more, weighs_same}

-- a thread that is ready has a row
pub ready_below : (b : List ℕ) (t : ℕ) → is_ready (thread (state_of b) t) ≡ true → t < max_threads
ready_below b t r = used_below b t (ready_used (thread (state_of b) t) r)

-- ---- rows that hold what they held

module _ (tb : Table) (g : Granted tb) (ty : ℕ → ℕ) (row : List ℕ) (r : RowSound tb ty row) (used : in_use row ≡ true) where
  -- after a side of a meeting at which a number is given
  side_holds : (i : ℕ) → i < branch_count tb (stands_at row) → slot_type tb (definition_of tb (stands_at row)) (field_b tb (row_of tb row i)) ≡ 0
      → (v c : ℕ) → holds tb (met_by tb row i v) c ≡ holds tb row c
  unfolding met_by
  side_holds i l z v = met_holds tb row used _ _ v (branching tb g ty row r used i l).next.same z (side_of (act_of tb (row_of tb row i)))

module _ (tb : Table) (g : Granted tb) (s : State) (ok : Sound tb (settled tb s)) where
  row_sound_lem : (t : ℕ) → t < max_threads → RowSound tb (type_in (settled tb s)) (thread s t)
  unfolding settled with_channels
  row_sound_lem t h = ok.orderly.row t h

  module _ (t : ℕ) (h : t < max_threads) (ready : is_ready (thread s t) ≡ true) where
    used : in_use (thread s t) ≡ true
    used = ready_used (thread s t) ready

    -- after a tau or an assignment
    gone_holds : (i : ℕ) → Open tb s t i Tau ⊎ Open tb s t i Assignment → (c : ℕ) → holds tb (gone_by tb (thread s t) i) c ≡ holds tb (thread s t) c
    unfolding gone_by gone
    gone_holds i (inl o) = rw o.does (resumed_holds tb (thread s t) used _ 0 0 (branching tb g _ (thread s t) (row_sound_lem t h) used i o.branch_in).next.same)
    gone_holds i (inr o) =
        let b = branching tb g _ (thread s t) (row_sound_lem t h) used i o.branch_in in
        rw (assigning tb (thread s t) i o.passes o.does).goes (stored_holds tb (thread s t) used _ _ _ b.next.same (b.assigns o.does).1)

    -- both after a meeting at which thread t gives or receives a number
    module _ (i u j : ℕ) (o : Joining tb s t i u j) (z : slot_type tb (definition_of tb (stands_at (thread s t))) (field_b tb (row_of tb (thread s t) i)) ≡ 0) where
      partner_used : in_use (thread s u) ≡ true
      partner_used = waiting_used (thread s u) o.partner.waits

      partner_number_lem : slot_type tb (definition_of tb (stands_at (thread s u))) (field_b tb (row_of tb (thread s u) j)) ≡ 0
      partner_number_lem =
          let ty = type_in (settled tb s) in
          let p = o.partner in
          value_type tb g ty (thread s u) (row_sound_lem u p.thread_in) partner_used j p.branch_in (opposite o.direction) p.does
          ∙ ap (λ x. carried tb (ty x)) p.is ∙ sym (value_type tb g ty (thread s t) (row_sound_lem t h) used i o.takes.branch_in o.direction o.takes.does) ∙ z

      -- their rows after it
      abbrev own_met : List ℕ
      own_met = met_by tb (thread s t) i (value_by tb (thread s u) j)

      abbrev partner_met : List ℕ
      partner_met = met_by tb (thread s u) j (value_by tb (thread s t) i)

      own_holds : (c : ℕ) → holds tb own_met c ≡ holds tb (thread s t) c
      own_holds = side_holds tb g _ (thread s t) (row_sound_lem t h) used i o.takes.branch_in z (value_by tb (thread s u) j)

      partner_stays : thread (with_thread s t own_met) u ≡ thread s u
      partner_stays = thread_other s t own_met u o.partner.other

      partner_holds : (c : ℕ) → holds tb partner_met c ≡ holds tb (thread (with_thread s t own_met) u) c
      partner_holds c =
          rw partner_stays
          (side_holds tb g _ (thread s u) (row_sound_lem u o.partner.thread_in) partner_used j o.partner.branch_in partner_number_lem (value_by tb (thread s t) i) c)

      joined_made : length s.threads ≡ max_threads → Counted tb s → number_by tb (stands_at (thread s t)) i ≡ true
          → MoveMade tb s t (Meets i u j) (written tb s t (Meets i u j))
      unfolding written weighed_after
      joined_made long e y =
          let still : length (with_thread s t own_met).threads ≡ max_threads = threads_with s t own_met ∙ long in
          record {
            after = written_settled tb s e t (Meets i u j);
            counted = kept_counted tb (with_thread s t own_met) (kept_counted tb s e long t h own_met own_holds) still u o.partner.thread_in partner_met partner_holds;
            weights = λ whole. rw y
                (row_weighed_lem tb (with_thread s t own_met) still
                (row_kept tb s long whole t h own_met own_holds (weighs_same (thread s t) own_met ready (met_by_ready tb (thread s t) i (value_by tb (thread s u) j))))
                u o.partner.thread_in partner_met partner_holds minus_one
                (rw partner_stays (weighs_less (thread s u) partner_met o.partner.waits (met_by_ready tb (thread s u) j (value_by tb (thread s t) i)))));
          }

-- ---- the code's ways out: s₁ after the writes

module _ (tb : Table) (b : List ℕ) (t : ℕ) (s₁ : State) where
  -- one row is written, which holds what it held
  module _ (m : Move) (row : List ℕ) (f : s₁ ≡ with_thread (state_of b) t row) (d : written tb (state_of b) t m ≡ with_thread (state_of b) t row)
      (same : (c : ℕ) → holds tb row c ≡ holds tb (thread (state_of b) t) c) (e : Counted tb (state_of b)) (h : t < max_threads) where
    row_wrote : (settled tb (state_of b) ≡ state_of b → settled tb (with_thread (state_of b) t row) ≡ weighed_after tb (stands_at (thread (state_of b) t)) t m (with_thread (state_of b) t row))
        → MoveMade tb (state_of b) t m s₁
    row_wrote w = rw f (record {
      after = rw d at (written_settled tb (state_of b) e t m);
      counted = kept_counted tb (state_of b) e (length_threads b) t h row same;
      weights = w;
    })

    -- which is ready as it was
    ready_wrote : ((x : State) → weighed_after tb (stands_at (thread (state_of b) t)) t m x ≡ x) → is_ready (thread (state_of b) t) ≡ true → is_ready row ≡ true
        → MoveMade tb (state_of b) t m s₁
    ready_wrote still r q =
        row_wrote (λ whole. rw (still (with_thread (state_of b) t row))
        (row_kept tb (state_of b) (length_threads b) whole t h row same (weighs_same (thread (state_of b) t) row r q)))

  pub call_keeps_lem : (k : Bool) → s₁ ≡ written tb (state_of b) t Calls → k ≡ call_keeps tb (thread (state_of b) t) → k ≡ true → Counted tb (state_of b)
      → t < max_threads
      → is_ready (thread (state_of b) t) ≡ true → MoveMade tb (state_of b) t Calls s₁
  unfolding written weighed_after entered
  call_keeps_lem k f q y e h r =
      ready_wrote Calls _ f refl (call_holds tb (thread (state_of b) t) (ready_used (thread (state_of b) t) r) (sym q ∙ y)) e h (λ x. refl) r refl

  pub number_keeps : (i u j n : ℕ) (r : Bool) → s₁ ≡ written tb (state_of b) t (Meets i u j) → r ≡ number_by tb n i → n ≡ stands_at (thread (state_of b) t) → r ≡ true
      → CanMeet tb (state_of b) t i u j → MoveMade tb (state_of b) t (Meets i u j) s₁
  number_keeps i u j n r f q o y can = rw f (can.number_made (rw (← o, ← q) y))

  -- a move m that was decided in a run
  module _ (m : Move) where
    pub waits_made : s₁ ≡ with_thread (state_of b) t (waiting_row (thread (state_of b) t)) → m ≡ Waits → Counted tb (state_of b) → t < max_threads
        → is_ready (thread (state_of b) t) ≡ true
        → MoveMade tb (state_of b) t m s₁
    unfolding written weighed_after waiting_row
    waits_made f n e h r =
        let row = waiting_row (thread (state_of b) t) in
        let same = waiting_holds tb (thread (state_of b) t) (ready_used (thread (state_of b) t) r) in
        rw n (row_wrote Waits row f refl same e h (λ whole. row_weighed_lem tb (state_of b) (length_threads b) whole t h row same 1 (weighs_more (thread (state_of b) t) row r refl)))

    pub goes_made : (i r v : ℕ) → s₁ ≡ with_thread (state_of b) t (gone_storing tb r v (thread (state_of b) t)) → Carries tb r v (state_of b) t m → m ≡ Goes i → m ≡ move tb (state_of b) t → Running tb (state_of b)
        → t < max_threads
        → is_ready (thread (state_of b) t) ≡ true → MoveMade tb (state_of b) t m s₁
    unfolding Chosen written weighed_after
    goes_made i x v f c n d run h r =
        let g : s₁ ≡ with_thread (state_of b) t (gone_by tb (thread (state_of b) t) i) = f ∙ ap (with_thread (state_of b) t) (gone_storing_lem tb x v (state_of b) t i (goes_assigns tb x v (state_of b) t i m c n)) in
        let q : move tb (state_of b) t ≡ Goes i = sym d ∙ n in
        let o : Chosen tb (state_of b) t (Goes i) = rw q at (chosen tb (state_of b) t) in
        rw n (ready_wrote (Goes i) (gone_by tb (thread (state_of b) t) i) g refl (gone_holds tb run.accepted (state_of b) run.sound t h r i o)
        run.counted h (λ y. refl) r (gone_by_ready tb (thread (state_of b) t) i))

-- ---- what is known of threads that can meet

module _ (tb : Table) (s : State) (t i u j : ℕ) (a : CanMeet tb s t i u j) where
  pub meet_other : u ≢ t
  meet_other = a.other

  pub meet_facing : Facing tb s t i u j
  meet_facing = a.facing

-- ---- what is known of a move m that was decided

module _ (tb : Table) (b : List ℕ) (t : ℕ) (m : Move) (e : m ≡ move tb (state_of b) t) where
  pub child_aside : (i u : ℕ) → m ≡ Spawns i u → is_ready (thread (state_of b) t) ≡ true → u ≢ t
  child_aside i u f r = spawns_other tb (state_of b) t i u (sym e ∙ f) r

  pub can_meet : (i u j : ℕ) → m ≡ Meets i u j → Running tb (state_of b) → t < max_threads → is_ready (thread (state_of b) t) ≡ true
      → CanMeet tb (state_of b) t i u j
  unfolding Chosen Facing number_by type_at
  can_meet i u j f run h r =
      let q : move tb (state_of b) t ≡ Meets i u j = sym e ∙ f in
      let o : Chosen tb (state_of b) t (Meets i u j) = rw q at (chosen tb (state_of b) t) in
      record {
        thread_in = h;
        partner_in = o.partner.thread_in;
        other = o.partner.other;
        facing = (o.direction, o.takes.does, o.partner.does);
        number_made = λ y. joined_made tb run.accepted (state_of b) run.sound t h r i u j o (eqb-true _ 0 y) (length_threads b) run.counted y;
      }

-- ---- a thread that the bench meets, which waited and is ready now: s₁ after the write, s₂ weighed

module _ (tb : Table) (b : List ℕ) (u j v : ℕ) (s₁ s₂ : State) where
  pub met_made : s₂ ≡ row_weighed tb s₁ u minus_one → s₁ ≡ with_thread (state_of b) u (met_by tb (thread (state_of b) u) j v) → Granted tb
      → Sound tb (state_of b) → AtPort tb (state_of b) u j
      → s₂ ≡ met_by_bench tb (state_of b) u j v
  unfolding AtPort met_by_bench
  met_made q f g ok (d, port, l, e) =
      let a = partner_answers tb (state_of b) bench d port u j e in
      let used = waiting_used (thread (state_of b) u) a.waits in
      let h = used_below b u used in
      let row = met_by tb (thread (state_of b) u) j v in
      q ∙ rw f (sym (row_weighed_lem tb (state_of b) (length_threads b) ok.counts u h row
      (side_holds tb g _ (thread (state_of b) u) (ok.orderly.row u h) used j a.branch_in (port_number tb g (state_of b) ok.orderly d port u j l a) v)
      minus_one (weighs_less (thread (state_of b) u) row a.waits (met_by_ready tb (thread (state_of b) u) j v))))

-- r is the number of ports, as it was read
pub at_port : (tb : Table) (s : State) (u j : ℕ) (x : Partner) → x ≡ Some (u, j) → (d : Direction) (p : ℕ) → x ≡ partner_of tb s bench d p
    → (r : ℕ) → r ≡ ports tb → p < r → AtPort tb s u j
unfolding AtPort
at_port tb s u j x f d p e r q l = (d, p, (rw (← q) l), sym e ∙ f)
