-- In a sound state Definition 1 of 002, of the agent that the state stands for, is document 01's. Assumes nothing but what the table grants.
use Rattle.std.specs.Prelude.{ℕ, zero, suc, ◌<◌, ◌≡◌, ◌≢◌, ◌↔◌, true, false, List, [], ◌∷◌, ltb, eqb, length}
use Rattle.std.proofs.Common.{arith, sym, ◌∙◌, ap, ⊎_elim}
use Rattle.std.proofs.Math.Path.{refl}
use Rattle.std.proofs.Math.ListN.{get_or-eq_default}
use borrow.Author.Tests.{ltb-true, ltb-false, lt-ltb, eqb-true}
use Rattle.numbers.specs.Search.Laws.{case_b, contra}
use Rattle.table.specs.Table.{Table, nodes, ports}
use Rattle.table.specs.Layout.{branch_count}
use Rattle.state.specs.State.{State, max_threads, thread, stands_at, in_use, is_ready, is_waiting, type_in}
use Rattle.rules.specs.Program.{kind_of, branch_at}
use Rattle.rules.specs.Holding.{holds}
use Rattle.rules.specs.Offers.{offers}
use Rattle.rules.specs.declared.Direction.{Direction}
use Rattle.rules_laws.specs.Granted.{Granted}
use Rattle.rules_laws.specs.Reading.Laws.{ready_used, waiting_used, holds_elim, offers_elim}
use Rattle.rules_laws.specs.Soundness.{RowSound, Sound}
use Rattle.marking.specs.Enabled as Collector
use Rattle.marking.specs.Enabled.{nobody, from_start, is_ready_lem, by_bench, by_thread}
use Rattle.published.specs.Syntax.{Process, Sum, nothing, waiting, some_wait, only_waits, waits}
use Rattle.published.specs.Agents.{channel_of, Thread, nth, knows, Commits}
use Rattle.published.specs.Enabling.{Enabled, active, awoken, enabled_in}
use Rattle.published_laws.specs.Readable.{Readable}
use Rattle.published_laws.specs.Standing.{sum_before, node_process, process_at, waiting_thread, ready_thread, thread_of, threads_of}
use Rattle.published_laws.specs.Unrolled.{process_at_lem}
use Rattle.published_laws.specs.Environments.{knows_held}
use Rattle.published_laws.specs.Products.{Bench, ready_thread_lem, waiting_thread_lem, thread_env}
use Rattle.published_laws.specs.Commitments.{pledged}
use Rattle.published_laws.proofs.Commitments.{pledge_channel, pledged_in, commits_offers}
use Rattle.published_laws.specs.Places as Places
use Rattle.published_laws.specs.Places.{rank_in, rank_nth, rank_apart, rank_found}

-- ---- who waits

only_waits_lem : (n : ℕ) → only_waits (waits n) ≡ true
unfolding only_waits waits
only_waits_lem zero = refl
only_waits_lem (suc n) = only_waits_lem n

pub some_waits : (n : ℕ) → 0 < n → some_wait (waits n) ≡ true
unfolding some_wait waits
some_waits zero l = absurd (omega arith)
some_waits (suc n) l = only_waits_lem n

branch_acts : (tb : Table) (f : ℕ → Process) (q : Sum) (n i m : ℕ) → 0 < m → some_wait (sum_before tb f q n i m) ≡ false
unfolding some_wait sum_before
branch_acts tb f q n i zero l = absurd (omega arith)
branch_acts tb f q n i (suc m) l = refl

module _ (tb : Table) (g : Granted tb) (rd : Readable tb) where
  -- no node stands for Σ wait
  process_acts : (n : ℕ) → n < nodes tb → waiting (process_at tb n) ≡ false
  unfolding node_process waiting
  process_acts n l =
      rw (process_at_lem tb g rd n l)
      (case_b (eqb (kind_of tb n) 1)
      (λ y. rw y (branch_acts tb (process_at tb) nothing n 0 (branch_count tb n) (rd.some_branch n l (eqb-true (kind_of tb n) 1 y))))
      (λ y. rw y (case_b (eqb (kind_of tb n) 2) (λ z. rw z) (λ z. rw z))))

  module _ (ty : ℕ → ℕ) (row : List ℕ) (r : RowSound tb ty row) where
    pub ready_acts : is_ready row ≡ true → waiting (thread_of tb row).process ≡ false
    unfolding ready_thread
    ready_acts e = rw (ready_thread_lem tb row e) (process_acts (stands_at row) (r.node_in (ready_used row e)))

    pub waiting_waits : is_waiting row ≡ true → waiting (thread_of tb row).process ≡ true
    unfolding waiting_thread waiting
    waiting_waits e =
        rw (waiting_thread_lem tb row e)
        (some_waits (branch_count tb (stands_at row)) (rd.some_branch (stands_at row) (r.node_in (waiting_used row e)) (r.waits_at e)))

-- what a thread offers it is committed to
pub offers_commits : (tb : Table) (row : List ℕ) (d : Direction) (c : ℕ) → offers tb row d c ≡ true → Commits (thread_of tb row).commitments c
unfolding waiting_thread
offers_commits tb row d c e =
    let o = offers_elim tb row d c e in
    let r = branch_at tb (stands_at row) o.branch in
    let i = pledged_in tb row (branch_count tb (stands_at row)) 0 o.branch d (omega arith) (omega (arith, o.branch_in)) o.passes o.does in
    (pledged tb row d r, rw (waiting_thread_lem tb row o.waits) i, pledge_channel d _ _ _ ∙ o.is)

module _ (tb : Table) (g : Granted tb) (rd : Readable tb) (s : State) (ok : Sound tb s) (b : Thread) (bn : Bench tb b) where
  abbrev rows : List (List ℕ)
  rows = s.threads

  abbrev A : List Thread
  A = b ∷ threads_of tb s.threads

  inside : (t : ℕ) → t < max_threads → t < length s.threads
  inside t l = rw ok.orderly.shaped.all_threads l

  -- the place of thread t: the bench comes first
  abbrev pub place_of : ℕ → ℕ
  place_of t = Places.place_of s t

  module _ (t : ℕ) (l : t < max_threads) (u : in_use (thread s t) ≡ true) where
    place_in : place_of t < length A
    place_in = let h = rank_in tb rows t (inside t l) u in omega arith

    place_nth : nth A (place_of t) ≡ thread_of tb (thread s t)
    place_nth = rank_nth tb rows t (inside t l) u

    knows_row : (c : ℕ) → knows c (nth A (place_of t)) ≡ holds tb (thread s t) c
    knows_row c = rw place_nth (knows_held tb (thread s t) u c (thread_of tb (thread s t)) (thread_env tb (thread s t)))

  -- ---- from 002 to document 01

  -- who waits offers on a channel that the thread k knows
  by_known : (t : ℕ) → t < max_threads → in_use (thread s t) ≡ true → (ĉ : ℕ) → Commits (thread_of tb (thread s t)).commitments ĉ → (k : ℕ) → k ≢ place_of t
      → k < length A
      → ((u : ℕ) → u < max_threads → in_use (thread s u) ≡ true → k ≡ place_of u → Collector.Enabled tb s nobody u)
      → knows ĉ (nth A k) ≡ true → Collector.Enabled tb s nobody t
  by_known t l x ĉ (c, i, q) zero n m f h =
      let (d, v, Q, e, w, z, o) = commits_offers tb (thread s t) c i in
      let same : e ≡ ĉ = sym (pledge_channel d e v Q) ∙ ap channel_of (sym w) ∙ q in
      let p : ĉ < ports tb = ltb-true ĉ (ports tb) (sym (bn.ports_only ĉ) ∙ h) in
      by_bench l d ĉ (rw same at (o (rw same (omega (arith, g.few_ports))))) p
  by_known t l x ĉ (c, i, q) (suc k) n m f h =
      let (d, v, Q, e, w, z, o) = commits_offers tb (thread s t) c i in
      let same : e ≡ ĉ = sym (pledge_channel d e v Q) ∙ ap channel_of (sym w) ∙ q in
      let (u, in_rows, y, r) = rank_found tb rows k (omega arith) in
      let in_range_lem : u < max_threads = rw ok.orderly.shaped.all_threads at in_rows in
      let place : suc k ≡ place_of u = ap suc (sym r) in
      let held : holds tb (thread s u) ĉ ≡ true = sym (knows_row u in_range_lem y ĉ) ∙ ap (λ (p : ℕ). knows ĉ (nth A p)) (sym place) ∙ h in
      by_thread l d ĉ (rw same at (o (rw same (holds_elim tb (thread s u) ĉ held).channel_in))) u
      (λ e'. n (place ∙ ap (λ (p : ℕ). place_of p) e')) held (f u in_range_lem y place)

  to_ours : {p : ℕ} → Enabled A p → (t : ℕ) → t < max_threads → in_use (thread s t) ≡ true → p ≡ place_of t → Collector.Enabled tb s nobody t
  to_ours (active m w) t l u q =
      let r = ok.orderly.row t l in
      ⊎_elim (λ y. is_ready_lem l y)
      (λ y. contra (waiting_waits tb g rd (type_in s) (thread s t) r y) (rw (q, place_nth t l u) at w)) (r.ready_or_waits u)
  to_ours (awoken m w ĉ i k n e h) t l u q =
      by_known t l u ĉ (rw (q, place_nth t l u) at i) k (λ z. n (z ∙ sym q)) (enabled_in A e) (λ v a x z. to_ours e v a x z) h

  -- ---- from document 01 to 002

  bench_enabled : Enabled A 0
  bench_enabled = active {j = 0} (omega arith) bn.acts

  known_by : (t : ℕ) → t < max_threads → (d : Direction) (c : ℕ) → offers tb (thread s t) d c ≡ true → (k : ℕ) → k ≢ place_of t → Enabled A k
      → knows c (nth A k) ≡ true
      → Enabled A (place_of t)
  known_by t l d c o k n e h =
      let w = (offers_elim tb (thread s t) d c o).waits in
      let u = waiting_used (thread s t) w in
      awoken (place_in t l u) (rw (place_nth t l u) (waiting_waits tb g rd (type_in s) (thread s t) (ok.orderly.row t l) w)) c
      (rw (place_nth t l u) (offers_commits tb (thread s t) d c o)) k n e h

  holder_in : (u c : ℕ) → holds tb (thread s u) c ≡ true → u < max_threads
  holder_in u c h =
      case_b (ltb u max_threads) (λ y. ltb-true u max_threads y)
      (λ y. let e : thread s u ≡ [] = get_or-eq_default s.threads [] {n = u} (omega (arith, ok.orderly.shaped.all_threads, ltb-false u max_threads y)) in
      contra (holds_elim tb [] c (rw e at h)).used refl)

  from_ours : {t : ℕ} → Collector.Enabled tb s nobody t → Enabled A (place_of t)
  unfolding nobody
  from_ours {t} (from_start l u z) = contra z refl
  from_ours {t} (is_ready_lem l y) =
      let u = ready_used (thread s t) y in
      active (place_in t l u) (rw (place_nth t l u) (ready_acts tb g rd (type_in s) (thread s t) (ok.orderly.row t l) y))
  from_ours {t} (by_bench l d c o p) = known_by t l d c o 0 (λ q. omega arith) bench_enabled (bn.ports_only c ∙ lt-ltb c (ports tb) p)
  from_ours {t} (by_thread l d c o u n h e) =
      let x = (holds_elim tb (thread s u) c h).used in
      let m = holder_in u c h in
      let w = waiting_used (thread s t) (offers_elim tb (thread s t) d c o).waits in
      known_by t l d c o (place_of u) (λ q. rank_apart tb rows u t x w n (omega arith)) (from_ours e) (knows_row u m x c ∙ h)

  -- a thread of the state is enabled by 002's definition just if it is by document 01's
  pub enabled_iff : (t : ℕ) → t < max_threads → in_use (thread s t) ≡ true
      → Enabled (b ∷ threads_of tb s.threads) (place_of t) ↔ Collector.Enabled tb s nobody t
  enabled_iff t l u = ((λ e. to_ours e t l u refl), from_ours)
