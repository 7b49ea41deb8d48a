-- Document 02's comparison with the papers (S-4), of steps: where every sum and difference of the choice at which a thread stands fits, its step is a turn of
-- the agent in which every guard is the file's own. `Running.antt` says of every step that it is a turn of the agent whose guards ask besides that sums fit
-- (`step_call_reduced`); here the agents before and after, the definitions, and whoever the rule names are without that, and all else is the same. Assumes
-- nothing but that the table is accepted and that the state is sound for it.
use Rattle.std.specs.Prelude.{ℕ, zero, suc, ◌+◌, ◌<◌, ◌≤◌, ◌≡◌, List, eqb, get_or, Ok}
use Rattle.std.proofs.Common.{arith, ltb-true, eqb-true}
use Rattle.std.proofs.Math.Bool.{true}
use Rattle.std.proofs.lemmas.Bool.{eqb-false}
use Rattle.numbers.specs.Rows.{at}
use Rattle.numbers.specs.Search.Laws.{case_b}
use Rattle.numbers.specs.Tests.{parts}
use Rattle.table.specs.Fields as Field
use Rattle.table.specs.Table.{Table, table_of}
use Rattle.table.specs.Layout.{branch_count}
use Rattle.loader.specs.Load.{accepted}
use Rattle.state.specs.State.{max_threads, view, thread, stands_at, in_use, is_ready, type_in}
use Rattle.rules.specs.Program.{kind_of, branch_at, act_of}
use Rattle.rules.specs.Calls.{can_step, step_call}
use Rattle.rules.specs.declared.Act.{Act}
use Rattle.rules.specs.declared.Act.TheVariants.{Tau, Meeting, New, Spawn, Assignment}
use Rattle.rules.specs.declared.Deed.{Deed}
use Rattle.rules_laws.specs.Granted.{Granted}
use Rattle.rules_laws.specs.Accepted.{granted}
use Rattle.rules_laws.specs.Reading.Laws.{ready_used}
use Rattle.rules_laws.specs.Soundness.{Sound}
use Rattle.engine_laws.specs.Buffers.{SoundBuffer, view_sound}
use Rattle.published.specs.Syntax.{Process, Sum, nothing}
use Rattle.published.specs.Agents.{Env, holds, Thread}
use Rattle.published.specs.Unchecked.{unchecked_guard, SumFits, ChoiceFits}
use Rattle.published.proofs.Unchecked.{unchecked_stepped}
use Rattle.published_laws.specs.Readable.{Readable, readable}
use Rattle.published_laws.specs.Standing.{printed_guard_of, guard_by, guard_of, sum_before, process_at, body_of, for_numbers, env_of, thread_of}
use Rattle.published_laws.specs.Products.{Bench, ready_thread_lem}
use Rattle.published_laws.proofs.Alone.{at_choice, at_call, at_end}
use Rattle.published_laws.specs.Fitting.{guard_published}
use Rattle.published_laws.proofs.Running.{step_did, step_call_reduced}
use Rattle.published_laws.specs.Compared.{SumsFit, UncheckedStep}

-- ---- the guard of a branch without the check is the file's own

module _ (tb : Table) (r : ℕ) where
  printed_unchecked : unchecked_guard (printed_guard_of tb r) ≡ printed_guard_of tb r
  unfolding printed_guard_of unchecked_guard
  printed_unchecked =
      let g = at tb r Field.guard in
      case_b (eqb g 0) (λ e. rw e)
      (λ e. case_b (eqb g 1) (λ f. rw (e, f))
      (λ f. case_b (eqb g 2) (λ h. rw (e, f, h))
      (λ h. case_b (eqb g 3) (λ i. rw (e, f, h, i)) (λ i. rw (e, f, h, i)))))

  unchecked_by : (a : Act) → unchecked_guard (guard_by tb r a) ≡ printed_guard_of tb r
  unfolding guard_by unchecked_guard
  unchecked_by Tau = printed_unchecked
  unchecked_by (Meeting d) = printed_unchecked
  unchecked_by New = printed_unchecked
  unchecked_by Spawn = printed_unchecked
  unchecked_by Assignment = printed_unchecked

  pub guard_unchecked : unchecked_guard (guard_of tb r) ≡ printed_guard_of tb r
  unfolding guard_of
  guard_unchecked = unchecked_by (act_of tb r)

-- ---- so a choice whose guards count as the file has them is one to which the check makes no difference

sum_fits : (tb : Table) (f : ℕ → Process) (q : Sum) (δ : Env) (n m i : ℕ)
    → ((j : ℕ) → i ≤ j → j < i + m → holds δ (guard_of tb (branch_at tb n j)) ≡ holds δ (printed_guard_of tb (branch_at tb n j)))
    → SumFits δ q → SumFits δ (sum_before tb f q n i m)
unfolding sum_before SumFits
sum_fits tb f q δ n zero i h x = x
sum_fits tb f q δ n (suc m) i h x =
    (rw (guard_unchecked tb (branch_at tb n i)) (h i (omega arith) (omega arith)), sum_fits tb f q δ n m (suc i) (λ j a b. h j (omega arith) (omega arith)) x)

module _ (table : List ℕ) (ok : accepted table ≡ true) (fit : (i : ℕ) → get_or table i 0 < 256) (state : List ℕ) (sb : SoundBuffer table state) where
  abbrev tb : Table
  tb = table_of table

  g : Granted tb
  g = granted table ok fit

  rd : Readable tb
  rd = readable table ok fit

  sound : Sound tb (view state)
  sound = view_sound table state sb

  module _ (b : Thread) (bn : Bench (table_of table) b) where
    choice_fits : (t : ℕ) → SumsFit table state t → t < max_threads → is_ready (thread (view state) t) ≡ true
        → ChoiceFits (thread_of tb (thread (view state) t)).env (thread_of tb (thread (view state) t)).process
    unfolding ChoiceFits SumFits
    choice_fits t all l ready =
        let row = thread (view state) t in
        let n = stands_at row in
        let o = sound.orderly in
        let r = o.row t l in
        let used : in_use row ≡ true = ready_used row ready in
        case_b (eqb (kind_of tb n) 1)
        (λ y. rw (ready_thread_lem tb row ready, at_choice tb g rd (view state) o t l ready b bn (eqb-true (kind_of tb n) 1 y))
        (sum_fits tb (process_at tb) nothing (env_of tb row) n (branch_count tb n) 0
        (λ j a c. guard_published table ok fit row (r.node_in used) all j (omega arith) (type_in (view state)) r used) tt))
        (λ y. case_b (eqb (kind_of tb n) 2)
        (λ z. rw (ready_thread_lem tb row ready, at_call tb g rd (view state) o t l ready b bn (eqb-true (kind_of tb n) 2 z)) tt)
        (λ z. rw (ready_thread_lem tb row ready, at_end tb g rd (view state) o t l ready b bn (eqb-false (kind_of tb n) 1 y) (eqb-false (kind_of tb n) 2 z)) tt))

    -- a step that is answered as done, of a thread at whose choice all sums fit
    pub step_call_unchecked : (t k : ℕ) (d : Deed) → SumsFit table state t → (step_call table state t).answer ≡ Ok (k, d)
        → UncheckedStep table state b t d (step_call table state t).state
    unfolding can_step
    step_call_unchecked t k d all e =
        let (c, q, w) = step_did table ok fit state sb t k d e in
        let (f, tells, h) = step_call_reduced table ok fit state sb b bn t k d e in
        let fits = choice_fits t all (ltb-true t max_threads (search parts)) (search parts) in
        (f, tells, unchecked_stepped (body_of tb) (for_numbers tb) fits h)
