-- A thread that a collection takes could never have moved again: at the collection the threads that it takes are sealed off, in the sense
-- of `engine_laws/specs/Sealed.antt`, whose laws then say that no later move takes one of them in. Assumes nothing but what the table grants.
use Rattle.std.specs.Prelude.{ℕ, ◌<◌, ◌≡◌, refl, Bool, false, ◌&&◌, [], ltb}
use Rattle.std.proofs.Common.{arith}
use Rattle.std.proofs.Math.Bool.{true}
use Rattle.std.proofs.Math.Logic.{⊎_elim}
use Rattle.std.proofs.Math.ListN.{get_or-eq_default}
use borrow.Author.Tests.{ltb-true, ltb-false, lt-ltb}
use Rattle.numbers.specs.Search.Laws.{case_b, contra}
use Rattle.numbers.specs.Tests.{parts}
use Rattle.table.specs.Table.{Table, ports}
use Rattle.state.specs.State.{State, max_threads, thread, is_waiting}
use Rattle.rules.specs.Holding.{holds}
use Rattle.rules.specs.Offers.{offers}
use Rattle.rules.specs.declared.Direction.{Direction}
use Rattle.rules_laws.specs.Granted.{Granted}
use Rattle.rules_laws.specs.Reading.Laws.{holds_elim}
use Rattle.rules_laws.specs.Soundness.{Sound}
use Rattle.rules_laws.specs.Frames.{elem}
use Rattle.engine_laws.specs.Movers.{ran_movers}
use Rattle.engine_laws.specs.Sealed.{Sealed, sealed_run}
use Rattle.marking.specs.Enabled.{nobody, Enabled, is_ready_lem, by_bench, by_thread}
use Rattle.collector.specs.Collect.{taken}
use Rattle.collector.specs.Collect.Laws.{taken_iff, stays_enabled}

-- the threads that a collection takes, among the rows that there are
unfoldable pub taken_thread : Table → State → ℕ → Bool
taken_thread tb s t = ltb t max_threads && taken tb s t

module _ (tb : Table) (s : State) (ok : Sound tb s) where
  taken_in : (t : ℕ) → taken_thread tb s t ≡ true → t < max_threads
  unfolding taken_thread
  taken_in t q = ltb-true t max_threads (search parts)

  taken_not : (t : ℕ) → taken_thread tb s t ≡ true → Enabled tb s nobody t → ⊥
  unfolding taken_thread
  taken_not t q = ((taken_iff tb s t).0 (search parts)).1

  taken_waits : (t : ℕ) → taken_thread tb s t ≡ true → is_waiting (thread s t) ≡ true
  unfolding taken_thread
  taken_waits t q =
      let l = taken_in t q in
      let h : taken tb s t ≡ true = search parts in
      ⊎_elim (λ r. absurd (taken_not t q (is_ready_lem l r))) (λ w. w) ((ok.orderly.row t l).ready_or_waits ((taken_iff tb s t).0 h).0)

  taken_no_port : (t : ℕ) → taken_thread tb s t ≡ true → (d : Direction) (c : ℕ) → offers tb (thread s t) d c ≡ true → c < ports tb → ⊥
  taken_no_port t q d c o p = taken_not t q (by_bench (taken_in t q) d c o p)

  -- a thread that holds a channel has one of the rows that there are
  holder_in : (u c : ℕ) → holds tb (thread s u) c ≡ true → u < max_threads
  holder_in u c h =
      case_b (ltb u max_threads)
      (λ y. ltb-true u max_threads y)
      (λ y. let e : thread s u ≡ [] = get_or-eq_default s.threads [] {n = u} (omega (arith, ok.orderly.shaped.all_threads, ltb-false u max_threads y)) in
      contra (holds_elim tb [] c (rw e at h)).used refl)

  -- a thread that holds a channel and is not taken is enabled
  holder_enabled : (u c : ℕ) → taken_thread tb s u ≡ false → holds tb (thread s u) c ≡ true → Enabled tb s nobody u
  unfolding taken_thread
  holder_enabled u c f h = stays_enabled tb s u (holds_elim tb (thread s u) c h).used (rw (lt-ltb u max_threads (holder_in u c h)) at f)

  taken_unknown : (t : ℕ) → taken_thread tb s t ≡ true → (d : Direction) (c : ℕ) → offers tb (thread s t) d c ≡ true
      → (u : ℕ) → taken_thread tb s u ≡ false → holds tb (thread s u) c ≡ true → ⊥
  taken_unknown t q d c o u f h = taken_not t q (by_thread (taken_in t q) d c o u (λ e. contra (rw (← e) at q) f) h (holder_enabled u c f h))

-- the threads that a collection takes are sealed off from then on
pub taken_sealed : (tb : Table) (s : State) → Sound tb s → Sealed tb (taken_thread tb s) s s
taken_sealed tb s ok = record {
  bound = taken_in tb s ok;
  same = λ t q. refl;
  waits = taken_waits tb s ok;
  no_port = taken_no_port tb s ok;
  unknown = taken_unknown tb s ok;
}

-- so, had there been no collection, none of them would have taken part in any turn of a run
pub taken_never_moves : (tb : Table) → Granted tb → (s : State) → Sound tb s → (n t : ℕ) → taken_thread tb s t ≡ true → elem t (ran_movers tb n s) ≡ false
taken_never_moves tb g s ok n = (sealed_run tb g (taken_thread tb s) s n s ok (taken_sealed tb s ok)).1
