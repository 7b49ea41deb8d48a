-- A sound state stays sound: through every move, every meeting with the bench, every move of the turn, every run, and every call on a state. Assumes
-- nothing but what the table grants.
use Rattle.std.specs.declared.ops.ControlFlow.TheVariants.{Break, Continue}
use Rattle.rules.specs.Answers.{Partner, Stepped, Turn}
use Rattle.std.specs.Prelude.{ℕ, zero, suc, ◌<◌, ◌≡◌, refl, true, ltb, Err, None, Ok, Some}
use Rattle.std.proofs.Common.{arith, ap, ◌∙◌}
use borrow.Author.Tests.{ltb-true}
use Rattle.numbers.specs.Search.Laws.{case_b}
use Rattle.numbers.specs.Tests.{parts}
use Rattle.table.specs.Table.{Table, ports, carried}
use Rattle.state.specs.State.{State, max_threads, thread, stands_at, slot_of, is_ready, type_in, with_mark}
use Rattle.rules.specs.Program.{branch_at, field_a}
use Rattle.rules.specs.Offers.{partner_of}
use Rattle.rules.specs.Moves.{one_up, met_by, move, written, perform, met_by_bench}
use Rattle.rules.specs.Calls.{step_answer, step_end, can_step, step_on, bench, given_to, give_on, taken_from, take_on, next_ready, past_turn, turn_by, Course, onward, one_more, turn_end, take_turn, course_of, run_on}
use Rattle.rules.specs.declared.Direction.{Direction}
use Rattle.rules.specs.declared.Direction.TheVariants.{Out, In}
use Rattle.upkeep.specs.Upkeep.{settled_mark}
use Rattle.next_rows.specs.Around.{next_ready_in}
use Rattle.rules_laws.specs.Granted.{Granted}
use Rattle.rules_laws.specs.Reading.Laws.{waiting_used, ready_not_waiting}
use Rattle.rules_laws.specs.Soundness.{RowSound, Sound}
use Rattle.rules_laws.specs.Settle.{settle}
use Rattle.rules_laws.specs.Chosen.{Answering, partner_answers, chosen}
use Rattle.rules_laws.specs.Onward.{met_by_ready, met_sound}
use Rattle.rules_laws.specs.Meetings.{number_received}
use Rattle.rules_laws.specs.Replaced.{row_still, one_up_below, mark_moved}
use Rattle.rules_laws.specs.Kept.{written_orderly}

-- ---- the bench, which meets thread u on port p by the thread's branch j, of direction d, and gives the number v

module _ (tb : Table) (g : Granted tb) (s : State) (ok : Sound tb s) (d : Direction) (p v u j : ℕ) (l : p < ports tb) (b : v < 4294967296)
    (a : Answering tb s bench d p u j) where
  -- ports carry numbers
  port_number : carried tb (type_in s (slot_of (thread s u) (field_a tb (branch_at tb (stands_at (thread s u)) j)))) ≡ 0
  port_number = ap (λ c. carried tb (type_in s c)) a.is ∙ ap (carried tb) (ok.orderly.port p l) ∙ g.port_carries (omega arith)

  met_row : RowSound tb (type_in s) (met_by tb (thread s u) j v)
  met_row =
      let r = ok.orderly.row u a.thread_in in
      let w = waiting_used (thread s u) a.waits in
      met_sound tb g (type_in s) (thread s u) r w j a.branch_in d v a.does
      (λ q. (b, number_received tb g (type_in s) (thread s u) r w j a.branch_in d a.does port_number v))

  bench_kept : Sound tb (met_by_bench tb s u j v)
  unfolding met_by_bench
  bench_kept =
      let row = met_by tb (thread s u) j v in
      settle tb g _ (row_still tb s ok.orderly u a.thread_in row met_row (ready_not_waiting row (met_by_ready tb (thread s u) j v)))

-- ---- the theorems

-- whatever move a ready thread makes, the state after it is sound
pub move_kept : (tb : Table) → Granted tb → (s : State) → Sound tb s → (t : ℕ) → t < max_threads → is_ready (thread s t) ≡ true
    → Sound tb (perform tb s t (move tb s t))
unfolding perform
move_kept tb g s ok t l r = settle tb g (written tb s t (move tb s t)) (written_orderly tb g s ok.orderly t l r (move tb s t) (chosen tb s t))

-- the state after the environment gives the number v on port p to the thread that is found to receive it is sound
pub give_kept : (tb : Table) → Granted tb → (s : State) → Sound tb s → (p v u j : ℕ) → p < ports tb → v < 4294967296
    → partner_of tb s bench In p ≡ Some (u, j) → Sound tb (met_by_bench tb s u j v)
give_kept tb g s ok p v u j l b e = bench_kept tb g s ok In p v u j l b (partner_answers tb s bench In p u j e)

-- the state after the environment takes a number on port p from the thread that is found to send it is sound
pub take_kept : (tb : Table) → Granted tb → (s : State) → Sound tb s → (p u j : ℕ) → p < ports tb
    → partner_of tb s bench Out p ≡ Some (u, j) → Sound tb (met_by_bench tb s u j 0)
take_kept tb g s ok p u j l e = bench_kept tb g s ok Out p 0 u j l (omega arith) (partner_answers tb s bench Out p u j e)

-- the turn of a run may move past any thread
pub turn_kept : (tb : Table) (s : State) → Sound tb s → (t : ℕ) → t < max_threads → Sound tb (past_turn s t)
unfolding past_turn
turn_kept tb s ok t l =
    let v = one_up max_threads t in
    let b : v < max_threads = one_up_below max_threads t l in
    record {
      orderly = mark_moved tb s ok.orderly 2 v (omega arith) (omega arith) (λ q. b);
      counts = settled_mark tb s 2 v ∙ ap (λ x. with_mark x 2 v) ok.counts;
    }

-- ---- runs

module _ (tb : Table) (g : Granted tb) where
  turn_end_kept : (s : State) → Sound tb s → (t : ℕ) → t < max_threads → is_ready (thread s t) ≡ true → (w : Turn) → Sound tb (turn_end tb s t w).state
  unfolding turn_end
  turn_end_kept s ok t l r (Continue tt) = turn_kept tb (perform tb s t (move tb s t)) (move_kept tb g s ok t l r) t l
  turn_end_kept s ok t l r (Break x) = turn_kept tb s ok t l

  -- the state after a turn is sound
  pub take_turn_kept : (s : State) → Sound tb s → Sound tb (take_turn tb s).state
  unfolding take_turn
  take_turn_kept s ok =
      case_b (ltb (next_ready s) max_threads)
      (λ e. let l : next_ready s < max_threads = ltb-true (next_ready s) max_threads e in
      rw e (turn_end_kept s ok (next_ready s) l (next_ready_in s l) (turn_by (next_ready s) (move tb s (next_ready s)))))
      (λ e. rw e ok)

  onward_kept : (w : Turn) (s : State) (f : State → Course) → Sound tb s → ((x : State) → Sound tb x → Sound tb (f x).state) → Sound tb (onward w s f).state
  unfolding onward one_more
  onward_kept (Continue tt) s f ok h = h s ok
  onward_kept (Break r) s f ok h = ok

-- the state in which a run ends is sound
pub course_kept : (tb : Table) → Granted tb → (n : ℕ) (s : State) → Sound tb s → Sound tb (course_of tb n s).state
unfolding course_of
course_kept tb g zero s ok = ok
course_kept tb g (suc n) s ok = onward_kept tb g (take_turn tb s).turn (take_turn tb s).state (course_of tb n) (take_turn_kept tb g s ok) (course_kept tb g n)

-- ---- the calls on a state: each leaves a sound state sound

module _ (tb : Table) (g : Granted tb) (s : State) (ok : Sound tb s) where
  step_end_kept : (a : Stepped) (s' : State) → Sound tb s' → Sound tb (step_end a s s').state
  unfolding step_end
  step_end_kept (Ok (n, d)) s' h = h
  step_end_kept (Err r) s' h = ok

  stepped_kept : (t : ℕ) → can_step s t ≡ true → Sound tb (perform tb s t (move tb s t))
  unfolding can_step
  stepped_kept t e = move_kept tb g s ok t (ltb-true t max_threads (search parts)) (search parts)

  -- a step, of whatever thread
  pub step_on_kept : (t : ℕ) → Sound tb (step_on tb s t).state
  unfolding step_on
  step_on_kept t = case_b (can_step s t)
      (λ e. rw e (step_end_kept (step_answer (stands_at (thread s t)) (move tb s t)) (perform tb s t (move tb s t)) (stepped_kept t e)))
      (λ e. rw e ok)

  given_kept : (p v : ℕ) → p < ports tb → v < 4294967296 → (m : Partner) → partner_of tb s bench In p ≡ m → Sound tb (given_to tb s m v).state
  unfolding given_to
  given_kept p v l h None e = ok
  given_kept p v l h (Some (u, j)) e = give_kept tb g s ok p v u j l h e

  -- a give of a 32-bit number, on whatever port
  pub give_on_kept : (p v : ℕ) → v < 4294967296 → Sound tb (give_on tb s p v).state
  unfolding give_on
  give_on_kept p v h = case_b (ltb p (ports tb))
      (λ e. rw e (given_kept p v (ltb-true p (ports tb) e) h (partner_of tb s bench In p) refl))
      (λ e. rw e ok)

  taken_kept : (p : ℕ) → p < ports tb → (m : Partner) → partner_of tb s bench Out p ≡ m → Sound tb (taken_from tb s m).state
  unfolding taken_from
  taken_kept p l None e = ok
  taken_kept p l (Some (u, j)) e = take_kept tb g s ok p u j l e

  -- a take, on whatever port
  pub take_on_kept : (p : ℕ) → Sound tb (take_on tb s p).state
  unfolding take_on
  take_on_kept p = case_b (ltb p (ports tb))
      (λ e. rw e (taken_kept p (ltb-true p (ports tb) e) (partner_of tb s bench Out p) refl))
      (λ e. rw e ok)

  -- a run of at most n steps
  pub run_on_kept : (n : ℕ) → Sound tb (run_on tb s n).state
  unfolding run_on
  run_on_kept n = course_kept tb g n s ok
