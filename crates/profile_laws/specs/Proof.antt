-- The pledge holds, of every file that loads and passes. Assumes nothing.
use Rattle.std.specs.Prelude.{ℕ, ◌≤◌, ◌<◌, ◌≡◌, refl, true, ◌≢◌, length, get_or, Err, Ok}
use native.Mathlib.Omega.{arith}
use mathlib.Core.List.{List, [], ◌∷◌}
use Rattle.std.proofs.Math.Logic.{⊎_elim}
use Rattle.std.proofs.Common.{ltb-true}
use Rattle.numbers.specs.Search.Laws.{contra}
use Rattle.numbers.specs.Tests.{parts, clash}
use Rattle.table.specs.Table.{Table, table_of}
use Rattle.loader.specs.Load.{loaded, accepted}
use Rattle.loader_laws.specs.Yields.{loaded_small}
use Rattle.state.specs.State.{State, max_threads, state_length, view}
use Rattle.rules.specs.Calls.{After, on_buffers, start_call, can_step, step_on, step_call, give_on, give_call, take_on, take_call, run_on, run_call}
use Rattle.rules.specs.declared.Refusal.{Refusal}
use Rattle.rules.specs.declared.Refusal.TheVariants as Ground
use Rattle.rules_laws.specs.Soundness.{Sound}
use Rattle.rules_laws.specs.Lasting.{step_on_kept, give_on_kept, take_on_kept, run_on_kept}
use Rattle.engine.specs.Numbers.{refusal_number}
use Rattle.engine_laws.specs.Entry.{at_entry}
use Rattle.engine_laws.specs.Refusals.{step_thread_row_iff, give_grounds, take_grounds, run_refused_iff}
use Rattle.engine_laws.specs.Buffers.{SoundBuffer, view_sound}
use Rattle.engine_laws.specs.SoundCalls.{admitted, start_view, start_done, start_sound, call_made, call_view}
use Rattle.engine_laws.specs.Lists.{step, give, take, run, RefusedWith, after}
use Rattle.collector_laws.specs.CollectionRefusals.{collect_refused_iff}
use Rattle.guarantee.specs.Claim.{Any, on, collect, after_any, after_list, reached_by, RefusedBy}
use Rattle.guarantee.specs.ClaimKept.{collect_view, list_sound}
use Rattle.guarantee.specs.Proof.{reached_sound}
use Rattle.profile.specs.Profile.{calls_allowed, definition_bound, profile_call}
use Rattle.profile_laws.specs.Claim.{EndsLacking, NeverLacks, Pledge}
use Rattle.profile_laws.specs.Bounds.{Allowed, allowed}
use Rattle.profile_laws.specs.Grounds.{allowed_iff, table_accepted, passes_iff}
use Rattle.profile_laws.specs.Weight.{weight, threads_weigh, full_weighs}
use Rattle.profile_laws.specs.Lighter.{collected_lighter, started_weight}
use Rattle.profile_laws.specs.Calls.{step_lighter, give_lighter, take_lighter, run_lighter, run_finds}

-- ---- of a table that is accepted, and whose calls are allowed

module _ (table : List ℕ) (ok : accepted table ≡ true) (fit : (i : ℕ) → get_or table i 0 < 256) (calls : calls_allowed (table_of table) ≡ true) where
  abbrev tb : Table
  tb = table_of table

  a : Allowed tb
  a = allowed table ok fit calls

  module _ (state : List ℕ) (b : SoundBuffer table state) where
    abbrev s : State
    s = view state

    held : Sound tb s
    held = view_sound table state b

    -- no call makes the state of a buffer heavier
    on_buffers_lem : {A : Type 0} (refused : Refusal → A) (k : After A) → Sound tb k.state → weight tb k.state ≤ weight tb s
        → weight tb (view (on_buffers refused table state k).state) ≤ weight tb s
    on_buffers_lem refused k h w = rw (call_view table ok refused state b k h) w

    any_lighter : (k : Any) → weight tb (view (after_any table state k)) ≤ weight tb s
    unfolding after_any after step_call give_call take_call run_call
    any_lighter (on (step t)) = on_buffers_lem Err (step_on tb s t) (step_on_kept tb a.grants s held t) (step_lighter tb a s held t)
    any_lighter (on (give p v h)) = on_buffers_lem Err (give_on tb s p v) (give_on_kept tb a.grants s held p v h) (give_lighter tb a s held p v)
    any_lighter (on (take p)) = on_buffers_lem Err (take_on tb s p) (take_on_kept tb a.grants s held p) (take_lighter tb a s held p)
    any_lighter (on (run n)) = on_buffers_lem Err (run_on tb s n) (run_on_kept tb a.grants s held n) (run_lighter tb a s held n)
    any_lighter collect = rw (collect_view table ok fit state b) (collected_lighter tb s)

    -- and none lacks a thread row where it weighs no more than there are rows
    module _ (w : weight tb s ≤ max_threads) where
      step_finds : (t : ℕ) → (step_call table state t).answer ≢ Err Ground.ThreadRow
      unfolding can_step
      step_finds t e =
          let (h, can, takes, full) = (step_thread_row_iff table state t).0 e in
          omega (arith, full_weighs tb a s held t (ltb-true t max_threads (search parts)) takes full)

      not_refused : (k : Any) → ¬ RefusedBy table state k Ground.ThreadRow
      unfolding RefusedBy RefusedWith at_entry refusal_number
      not_refused (on (step t)) e = step_finds t e
      not_refused (on (give p v h)) e = ⊎_elim (λ y. contra y refl) (λ q. clash cc) (give_grounds table state p v Ground.ThreadRow e)
      not_refused (on (take p)) e = ⊎_elim (λ y. contra y refl) (λ q. clash cc) (take_grounds table state p Ground.ThreadRow e)
      not_refused (on (run n)) e = let x = admitted table ok state b in let y = (run_refused_iff table state n Ground.ThreadRow).0 e in clash cc
      not_refused collect e = let x = admitted table ok state b in let y = (collect_refused_iff table state Ground.ThreadRow).0 e in clash cc

      not_ended : (k : Any) → ¬ EndsLacking table state k
      unfolding EndsLacking run_call
      not_ended (on (step t)) e = e
      not_ended (on (give p v h)) e = e
      not_ended (on (take p)) e = e
      not_ended (on (run n)) (j, t, e) = run_finds tb a s held w n j t (rw (call_made table ok Err state b (run_on tb s n)) at e)
      not_ended collect e = e

  -- ---- lists of calls

  next_sound : (state : List ℕ) → SoundBuffer table state → (k : Any) → SoundBuffer table (after_any table state k)
  unfolding after_list
  next_sound state b k = list_sound table ok fit state b (k ∷ [])

  list_lighter : (state : List ℕ) → SoundBuffer table state → (ks : List Any) → weight tb (view (after_list table state ks)) ≤ weight tb (view state)
  unfolding after_list
  list_lighter state b [] = omega arith
  list_lighter state b (k ∷ ks) = omega (arith, any_lighter state b k, list_lighter (after_any table state k) (next_sound state b k) ks)

  list_finds : (state : List ℕ) → SoundBuffer table state → weight tb (view state) ≤ max_threads → (ks : List Any) → NeverLacks table state ks
  unfolding NeverLacks
  list_finds state b w [] = tt
  list_finds state b w (k ∷ ks) =
      (not_refused state b w k, not_ended state b w k, list_finds (after_any table state k) (next_sound state b k) (omega (arith, any_lighter state b k)) ks)

  -- ---- from the start

  module _ (n : ℕ) (is : n ≡ definition_bound tb 0) (few : n ≤ max_threads) (state : List ℕ) (long : length state ≡ state_length) (ks : List Any) where
    abbrev begun : List ℕ
    begun = (start_call table state).state

    begun_sound : SoundBuffer table begun
    begun_sound = start_sound table ok fit state (start_done table ok state long)

    begun_light : weight tb (view begun) ≤ n
    begun_light = rw (start_view table ok fit state long) (omega (arith, started_weight tb a))

    pledged : Pledge table state n ks
    pledged = record {
      never_lacks = list_finds begun begun_sound (omega (arith, begun_light)) ks;
      few_threads =
          let reached = view_sound table (reached_by table state ks) (reached_sound table ok fit state long ks) in
          omega (arith, begun_light, list_lighter begun begun_sound ks, threads_weigh tb a (view (reached_by table state ks)) reached);
    }

-- ---- of a table that passes, and so is accepted
pub accepted_pledge : (table : List ℕ) → ((i : ℕ) → get_or table i 0 < 256) → (n : ℕ) → profile_call table ≡ Ok n
    → (state : List ℕ) → length state ≡ state_length → (ks : List Any) → Pledge table state n ks
accepted_pledge table fit n e =
    let (file, permitted, is, few) = (passes_iff table fit n).0 e in
    pledged table (table_accepted table fit file) fit ((allowed_iff (table_of table)).1 permitted) n is few

-- ---- the theorem: document 02's S-3, of every file that loads and passes with n threads, whatever the two buffers had, and of every list of calls
pub pledge : (file t : List ℕ) → (loaded file t).answer ≡ Ok tt → (n : ℕ) → profile_call (loaded file t).table ≡ Ok n
    → (state : List ℕ) → length state ≡ state_length → (ks : List Any) → Pledge (loaded file t).table state n ks
pledge file t e = accepted_pledge (loaded file t).table (loaded_small file t e)
