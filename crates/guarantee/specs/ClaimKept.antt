-- A collection, and so every list of calls, leaves a sound buffer sound; which threads a collection of a sound buffer takes; and no call on a sound
-- buffer is refused with 10. Assumes nothing.
use Rattle.std.specs.Prelude.{ℕ, ◌<◌, ◌≡◌, refl, true, false, ltb, get_or, Err, Ok}
use Rattle.std.proofs.Common.{arith}
use mathlib.Core.List.{List, [], ◌∷◌}
use Rattle.std.proofs.Math.ListN.{get_or-eq_default}
use borrow.Author.Tests.{ltb-true, ltb-false}
use Rattle.numbers.specs.Search.Laws.{case_b}
use Rattle.numbers.specs.Tests.{clash}
use Rattle.table.specs.Table.{table_of}
use Rattle.loader.specs.Load.{accepted}
use Rattle.state.specs.State.{max_threads, view, thread, in_use}
use Rattle.rules.specs.Calls.{admission}
use Rattle.rules.specs.declared.Refusal.TheVariants as Ground
use Rattle.rules_laws.specs.Granted.{Granted}
use Rattle.rules_laws.specs.Accepted.{granted}
use Rattle.rules_laws.specs.Soundness.{Sound}
use Rattle.engine.specs.Numbers.{refusal_number}
use Rattle.engine_laws.specs.Entry.{at_entry}
use Rattle.engine_laws.specs.Refusals.{step_entry_iff, give_entry_iff, take_entry_iff, run_refused_iff}
use Rattle.engine_laws.specs.Buffers.{SoundBuffer, view_sound}
use Rattle.engine_laws.specs.SoundCalls.{admitted, call_made, call_sound, call_view}
use Rattle.engine_laws.specs.Lists.{Call, step, give, take, run, RefusedWith, after_sound}
use Rattle.collector.specs.Collect.{taken, collected, taken_count, collect_on, collect_call}
use Rattle.collector.specs.Collect.Laws.{taken_iff, taken_freed, left_same}
use Rattle.collector_laws.specs.CollectionKeeps.{collect_on_kept}
use Rattle.collector_laws.specs.CollectionRefusals.{collect_refused_iff}
use Rattle.collector_laws.specs.Out.{taken_thread}
use Rattle.guarantee.specs.Claim.{Any, on, collect, after_any, after_list, taken_by, RefusedBy, NeverTen}

-- ---- refusal 10 is met at the entry of a call

call_at_entry : (table state : List ℕ) (k : Call) → RefusedWith table state k Ground.State → admission table state ≡ Err Ground.State
unfolding RefusedWith at_entry refusal_number
call_at_entry table state (step t) e = (step_entry_iff table state t Ground.State refl).0 e
call_at_entry table state (give p v h) e = (give_entry_iff table state p v Ground.State refl).0 e
call_at_entry table state (take p) e = (take_entry_iff table state p Ground.State refl).0 e
call_at_entry table state (run n) e = (run_refused_iff table state n Ground.State).0 e

any_at_entry : (table state : List ℕ) (k : Any) → RefusedBy table state k Ground.State → admission table state ≡ Err Ground.State
unfolding RefusedBy
any_at_entry table state (on k) e = call_at_entry table state k e
any_at_entry table state collect e = (collect_refused_iff table state Ground.State).0 e

-- ---- a table that is accepted

module _ (table : List ℕ) (ok : accepted table ≡ true) where
  -- no call on a sound buffer is refused with 10
  pub not_ten : (state : List ℕ) → SoundBuffer table state → (k : Any) → ¬ RefusedBy table state k Ground.State
  not_ten state b k e = let a = admitted table ok state b in let f = any_at_entry table state k e in clash cc

  -- a collection of a sound buffer is not refused: it answers how many threads it takes
  pub collect_done : (state : List ℕ) → SoundBuffer table state → (collect_call table state).answer ≡ Ok (taken_count (table_of table) (view state))
  unfolding collect_call collect_on
  collect_done state b = rw (call_made table ok Err state b (collect_on (table_of table) (view state)))

module _ (table : List ℕ) (ok : accepted table ≡ true) (fit : (i : ℕ) → get_or table i 0 < 256) where
  pub grants : Granted (table_of table)
  grants = granted table ok fit

  module _ (state : List ℕ) (b : SoundBuffer table state) where
    after_collection : Sound (table_of table) (collect_on (table_of table) (view state)).state
    after_collection = collect_on_kept (table_of table) grants (view state) (view_sound table state b)

    collect_sound : SoundBuffer table (collect_call table state).state
    unfolding collect_call
    collect_sound = call_sound table ok Err state b (collect_on (table_of table) (view state)) after_collection

    -- the bytes after a collection hold the state after it
    pub collect_view : view (collect_call table state).state ≡ collected (table_of table) (view state)
    unfolding collect_call collect_on
    collect_view = call_view table ok Err state b (collect_on (table_of table) (view state)) after_collection

    no_thread : (t : ℕ) → ltb t max_threads ≡ false → thread (view state) t ≡ []
    no_thread t e =
        let s = view state in
        get_or-eq_default s.threads [] {n = t} (omega (arith, (view_sound table state b).orderly.shaped.all_threads, ltb-false t max_threads e))

    -- the threads that a collection takes, by their rows, are those that are not enabled
    pub taken_is : (t : ℕ) → taken_by table state t ≡ taken_thread (table_of table) (view state) t
    unfolding taken_by taken_thread
    taken_is t =
        let s = view state in
        let tb = table_of table in
        case_b (ltb t max_threads)
        (λ l. let i = ltb-true t max_threads l in
        rw (l, collect_view) (case_b (taken tb s t)
        (λ k. rw (taken_freed tb s t i k, k, ((taken_iff tb s t).0 k).0))
        (λ k. rw (left_same tb s t i k, k) (case_b (in_use (thread s t)) (λ u. rw u) (λ u. rw u)))))
        (λ l. rw (l, no_thread t l))

  -- ---- lists of calls

  -- a call leaves a sound buffer sound
  pub any_sound : (state : List ℕ) → SoundBuffer table state → (k : Any) → SoundBuffer table (after_any table state k)
  unfolding after_any
  any_sound state b (on k) = after_sound table ok fit state b k
  any_sound state b collect = collect_sound state b

  pub list_sound : (state : List ℕ) → SoundBuffer table state → (ks : List Any) → SoundBuffer table (after_list table state ks)
  unfolding after_list
  list_sound state b [] = b
  list_sound state b (k ∷ ks) = list_sound (after_any table state k) (any_sound state b k) ks

  pub list_not_ten : (state : List ℕ) → SoundBuffer table state → (ks : List Any) → NeverTen table state ks
  unfolding NeverTen
  list_not_ten state b [] = tt
  list_not_ten state b (k ∷ ks) = (not_ten table ok state b k, list_not_ten (after_any table state k) (any_sound state b k) ks)
