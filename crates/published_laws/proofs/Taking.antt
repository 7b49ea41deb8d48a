-- Demand 2 of document 01, of the call and in 002's words: a collection takes just the threads that Definition 1 calls disabled in the agent that the state
-- stands for, and answers how many they are. Taken is read off the bytes: in use before the call and free after it. Assumes nothing.
use Rattle.collector.specs.Answers.{Collected}
use Rattle.std.specs.Prelude.{ℕ, ◌<◌, ◌≡◌, refl, ◌↔◌, true, List, [], ltb, get_or, Ok}
use Rattle.std.proofs.Common.{arith, sym, ◌∙◌, ltb-true, ltb-false, lt-ltb}
use Rattle.std.proofs.Math.ListN.{get_or-eq_default}
use Rattle.numbers.specs.Count.{bit}
use Rattle.numbers.specs.Search.{sum_to}
use Rattle.numbers.specs.Search.Laws.{case_b, contra}
use Rattle.table.specs.Table.{Table, table_of}
use Rattle.loader.specs.Load.{accepted}
use Rattle.state.specs.State.{max_threads, view, thread, in_use}
use Rattle.rules_laws.specs.Granted.{Granted}
use Rattle.rules_laws.specs.Accepted.{granted}
use Rattle.rules_laws.specs.Soundness.{Sound}
use Rattle.engine_laws.specs.Buffers.{SoundBuffer, view_sound}
use Rattle.collector.specs.Collect.{taken, taken_count, collect_call}
use Rattle.collector.specs.Collect.Laws.{count_says}
use Rattle.collector_laws.specs.Out.{taken_thread}
use Rattle.guarantee.specs.Claim.{taken_by}
use Rattle.guarantee.specs.ClaimKept.{collect_done, collect_view, taken_is}
use Rattle.published.specs.Agents.{Thread}
use Rattle.published.specs.Enabling.{Disabled}
use Rattle.published_laws.specs.Readable.{Readable, readable}
use Rattle.published_laws.specs.Standing.{agent_of}
use Rattle.published_laws.specs.Products.{Bench}
use Rattle.published_laws.proofs.Collecting.{taken_disabled}
use Rattle.published_laws.specs.Taking.{place_in}

same_number : (n m : ℕ) → ◌≡◌ {A = Collected} (Ok n) (Ok m) → n ≡ m
same_number n m e = cc

module _ (table : List ℕ) (ok : accepted table ≡ true) (fit : (i : ℕ) → get_or table i 0 < 256) (state : List ℕ) (sb : SoundBuffer table state) where
  abbrev tb : Table
  tb = table_of table

  g : Granted tb
  g = granted table ok fit

  rd : Readable tb
  rd = readable table ok fit

  sound : Sound tb (view state)
  sound = view_sound table state sb

  in_range_lem : (t : ℕ) → in_use (thread (view state) t) ≡ true → t < max_threads
  in_range_lem t u =
      case_b (ltb t max_threads) (λ y. ltb-true t max_threads y)
      (λ y. let e : thread (view state) t ≡ [] =
      get_or-eq_default (view state).threads [] {n = t} (omega (arith, sound.orderly.shaped.all_threads, ltb-false t max_threads y)) in
      contra (rw e at u) refl)

  taken_row : (t : ℕ) → in_use (thread (view state) t) ≡ true → taken_by table state t ≡ taken tb (view state) t
  unfolding taken_thread
  taken_row t u = taken_is table ok fit state sb t ∙ rw (lt-ltb t max_threads (in_range_lem t u))

  module _ (b : Thread) (bn : Bench (table_of table) b) (t : ℕ) (u : in_use (thread (view state) t) ≡ true) where
    -- a thread in use is taken exactly when 002 calls it disabled
    pub taken_iff_disabled : (taken_by table state t ≡ true) ↔ Disabled (agent_of (table_of table) b (view state)).threads (place_in (view state) t)
    unfolding agent_of
    taken_iff_disabled =
        let l = in_range_lem t u in
        let h = taken_disabled tb g rd (view state) sound b bn t l u in
        ((λ y. h.0 (sym (taken_row t u) ∙ y)), (λ n. taken_row t u ∙ h.1 n))

  -- the answer is how many are taken
  pub taken_number : (n : ℕ) → (collect_call table state).answer ≡ Ok n → n ≡ sum_to (λ t. bit (taken_by table state t)) max_threads
  unfolding taken_by
  taken_number n e =
      same_number n (taken_count tb (view state)) (sym e ∙ collect_done table ok state sb) ∙ count_says tb (view state)
      ∙ rw (collect_view table ok fit state sb)
