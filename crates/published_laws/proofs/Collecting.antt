-- A collection is one use of (stuck), with the threads that it takes as the clique, and then uses of (reclaim), one for each channel that it frees. No rule of
-- document 01's own is needed. Assumes nothing but what the table grants.
use Rattle.std.specs.Prelude.{ℕ, suc, ◌<◌, ◌≡◌, ◌↔◌, Bool, true, false, get_or}
use native.Mathlib.Omega.{arith}
use Rattle.std.proofs.Math.Path.{refl}
use Rattle.std.proofs.Common.{sym, ◌∙◌, ap, inl, inr, ltb-true}
use Rattle.std.proofs.Math.Logic.{⊎_elim}
use Rattle.std.proofs.Math.Bool.{not, cond}
use mathlib.Core.List.{List, [], ◌∷◌, ◌++◌}
use Rattle.std.proofs.Math.ListN.{length}
use Rattle.numbers.specs.Search.{tabulate}
use Rattle.numbers.specs.Search.Laws.{case_b, contra, get_d_tabulate, length_tabulate}
use Rattle.table.specs.Table.{Table, ports}
use Rattle.state.specs.State.{State, max_threads, max_channels, thread, in_use, is_waiting, type_in, with_threads, with_channels}
use Rattle.rules.specs.Holding.{holds, settled}
use Rattle.rules.specs.Start.{free_row}
use Rattle.rules.specs.Offers.{offers}
use Rattle.rules.specs.declared.Direction.{Direction}
use Rattle.rules_laws.specs.Granted.{Granted}
use Rattle.rules_laws.specs.Reading.Laws.{holds_elim}
use Rattle.rules_laws.specs.Soundness.{Sound}
use Rattle.marking.specs.Enabled as Collector
use Rattle.marking.specs.Enabled.{nobody, is_ready_lem, by_bench, by_thread}
use Rattle.collector.specs.Collect.{taken, remaining, collected}
use Rattle.collector.specs.Collect.Laws.{taken_iff, stays_enabled}
use Rattle.published.specs.Syntax.{waiting}
use Rattle.published.specs.Agents.{◌∈◌, channel_of, Thread, agent, knows, globalrc, Commits}
use Rattle.published.specs.Rules.{Rearranged, none_left, same_first, twice, Sticks, stuck}
use Rattle.published.specs.Enabling.{Disabled}
use Rattle.published.specs.ProductLaws.{to_front, turned_back, none_knows}
use Rattle.published.specs.Collections.{Collects}
use Rattle.published_laws.specs.Readable.{Readable}
use Rattle.published_laws.specs.Standing.{thread_of, threads_of, channels_of, agent_of}
use Rattle.published_laws.specs.Environments.{knows_held}
use Rattle.published_laws.specs.Products.{Bench, thread_env, row_of}
use Rattle.published_laws.specs.Reclaims.{freed_channels}
use Rattle.published_laws.proofs.Reclaims.{counted_named}
use Rattle.published_laws.proofs.Commitments.{pledge_channel, commits_offers}
use Rattle.published_laws.proofs.EnabledAlike.{place_of, waiting_waits, enabled_iff}
use Rattle.published_laws.specs.Collecting as Collecting
use Rattle.published_laws.specs.Collecting.{taken_then, taken_of, freed_threads}

-- ---- the threads of the rows that a test takes

module _ (tb : Table) where
  pub taken_row : (x : Thread) (q : ℕ → Bool) (rows : List (List ℕ)) → x ∈ taken_of tb q rows
      → (t : ℕ) × (t < length rows) × (in_use (get_or rows t []) ≡ true) × (q t ≡ true) × (x ≡ thread_of tb (get_or rows t []))
  unfolding taken_of taken_then
  taken_row x q [] i = absurd i
  taken_row x q (row ∷ rows) i =
      let later : x ∈ taken_of tb (λ t. q (suc t)) rows
      → (t : ℕ) × (t < length (row ∷ rows)) × (in_use (get_or (row ∷ rows) t []) ≡ true) × (q t ≡ true) × (x ≡ thread_of tb (get_or (row ∷ rows) t [])) =
      λ j. (let (t, l, u, y, e) = taken_row x (λ t. q (suc t)) rows j in (suc t, omega arith, u, y, e)) in
      case_b (in_use row)
      (λ u. case_b (q 0)
      (λ y. ⊎_elim (λ e. (0, omega arith, u, y, e)) later (rw (u, y) at i))
      (λ y. later (rw (u, y) at i)))
      (λ u. later (rw u at i))

  -- the product falls into the threads that are taken and those of the rows that are left
  pub taken_first : (q : ℕ → Bool) (rows left : List (List ℕ)) → length left ≡ length rows
      → ((t : ℕ) → t < length rows → get_or left t [] ≡ cond (q t) free_row (get_or rows t []))
      → Rearranged (threads_of tb rows) (taken_of tb q rows ++ threads_of tb left)
  unfolding taken_of taken_then threads_of
  taken_first q [] [] e h = none_left
  taken_first q [] (y ∷ left) e h = absurd (omega arith)
  taken_first q (row ∷ rows) [] e h = absurd (omega arith)
  taken_first q (row ∷ rows) (new ∷ left) e h =
      let r = taken_first (λ t. q (suc t)) rows left (omega arith) (λ t l. h (suc t) (omega arith)) in
      let f : new ≡ cond (q 0) free_row row = h 0 (omega arith) in
      rw f (case_b (in_use row)
      (λ u. case_b (q 0)
      (λ y. rw (u, y) (same_first r))
      (λ y. rw (u, y, u) (twice (same_first r) (turned_back (to_front (taken_of tb (λ t. q (suc t)) rows) (thread_of tb row) (threads_of tb left))))))
      (λ u. case_b (q 0) (λ y. rw (u, y) r) (λ y. rw (u, y, u) r)))

  taken_same : (q q' : ℕ → Bool) (rows : List (List ℕ)) → ((t : ℕ) → t < length rows → in_use (get_or rows t []) ≡ true → q t ≡ q' t) → taken_of tb q rows ≡ taken_of tb q' rows
  unfolding taken_of taken_then
  taken_same q q' [] h = refl
  taken_same q q' (row ∷ rows) h =
      let r = taken_same (λ t. q (suc t)) (λ t. q' (suc t)) rows (λ t l u. h (suc t) (omega arith) u) in
      case_b (in_use row) (λ u. let e : q 0 ≡ q' 0 = h 0 (omega arith) u in rw (u, e, r)) (λ u. rw (u, r))

module _ (tb : Table) (g : Granted tb) (rd : Readable tb) (s : State) (ok : Sound tb s) (b : Thread) (bn : Bench tb b) where
  -- the threads that a collection takes
  abbrev pub clique : List Thread
  clique = Collecting.clique tb s

  abbrev left_rows : List (List ℕ)
  left_rows = tabulate max_threads (remaining tb s)

  -- the bench and the threads that it leaves
  abbrev pub left_threads : List Thread
  left_threads = Collecting.left_threads tb s b

  left_row : (t : ℕ) → t < max_threads → get_or left_rows t [] ≡ cond (taken tb s t) free_row (thread s t)
  unfolding remaining
  left_row t l = get_d_tabulate max_threads t (remaining tb s) [] l

  in_range_lem : (t : ℕ) → t < length s.threads → t < max_threads
  in_range_lem t l = rw ok.orderly.shaped.all_threads at l

  pub split : Rearranged (b ∷ threads_of tb s.threads) (clique ++ left_threads)
  split =
      let h = taken_first tb (taken tb s) s.threads left_rows (length_tabulate max_threads (remaining tb s) ∙ sym ok.orderly.shaped.all_threads)
      (λ t l. left_row t (in_range_lem t l)) in
      twice (same_first h) (turned_back (to_front clique b (threads_of tb left_rows)))

  -- ---- what (stuck) asks

  taken_waits : (t : ℕ) → t < max_threads → taken tb s t ≡ true → is_waiting (thread s t) ≡ true
  taken_waits t l y =
      let (u, n) = (taken_iff tb s t).0 y in
      ⊎_elim (λ r. absurd (n (is_ready_lem l r))) (λ w. w) ((ok.orderly.row t l).ready_or_waits u)

  clique_waits : (x : Thread) → x ∈ clique → waiting x.process ≡ true
  clique_waits x i =
      let (t, l, u, y, e) = taken_row tb x (taken tb s) s.threads i in
      let m = in_range_lem t l in
      rw e (waiting_waits tb g rd (type_in s) (thread s t) (ok.orderly.row t m) (taken_waits t m y))

  -- a thread that is left is enabled
  left_enabled : (u : ℕ) → u < max_threads → in_use (get_or left_rows u []) ≡ true
      → Collector.Enabled tb s nobody u × (get_or left_rows u [] ≡ thread s u) × (taken tb s u ≡ false)
  left_enabled u l w =
      case_b (taken tb s u)
      (λ y. contra (rw (left_row u l, y) at w) refl)
      (λ y. let e : get_or left_rows u [] ≡ thread s u = left_row u l ∙ rw y in (stays_enabled tb s u (rw e at w) y, e, y))

  unknown_left : (t : ℕ) → t < max_threads → taken tb s t ≡ true → (d : Direction) (ĉ : ℕ) → (ĉ < max_channels → offers tb (thread s t) d ĉ ≡ true)
      → (x : Thread) → x ∈ left_threads → knows ĉ x ≡ false
  unknown_left t l y d ĉ o x (inl e) =
      case_b (knows ĉ x)
      (λ h. let p : ĉ < ports tb = ltb-true ĉ (ports tb) (sym (bn.ports_only ĉ) ∙ (rw e at h)) in
      absurd (((taken_iff tb s t).0 y).1 (by_bench l d ĉ (o (omega (arith, g.few_ports))) p)))
      (λ h. h)
  unknown_left t l y d ĉ o x (inr i) =
      let (u, m, w, e) = row_of tb x left_rows i in
      let a : u < max_threads = omega (arith, length_tabulate max_threads (remaining tb s)) in
      let (en, q, z) = left_enabled u a w in
      let known : knows ĉ x ≡ holds tb (thread s u) ĉ =
      knows_held tb (thread s u) (rw q at w) ĉ x (ap (λ (c : Thread). c.env) e ∙ thread_env tb (get_or left_rows u []) ∙ rw q) in
      case_b (knows ĉ x)
      (λ h. let held : holds tb (thread s u) ĉ ≡ true = sym known ∙ h in
      absurd (((taken_iff tb s t).0 y).1 (by_thread l d ĉ (o (holds_elim tb (thread s u) ĉ held).channel_in) u (λ p. contra y (rw p at z)) held en)))
      (λ h. h)

  clique_unknown : (x : Thread) → x ∈ clique → (ĉ : ℕ) → Commits x.commitments ĉ → globalrc ĉ left_threads ≡ 0
  clique_unknown x i ĉ (k, j, q) =
      let (t, l, u, y, e) = taken_row tb x (taken tb s) s.threads i in
      let j' : k ∈ (thread_of tb (thread s t)).commitments = rw e at j in
      let (d, v, Q, c, w, z, o) = commits_offers tb (thread s t) k j' in
      let same : c ≡ ĉ = sym (pledge_channel d c v Q) ∙ ap channel_of (sym w) ∙ q in
      none_knows ĉ left_threads (λ x' i'. unknown_left t (in_range_lem t l) y d ĉ (rw same at o) x' i')

  -- a collection is one use of (stuck), with the threads that are taken as its clique
  pub stuck_once : Sticks (agent (channels_of s) (clique ++ left_threads)) (agent (channels_of s) left_threads)
  stuck_once = stuck clique left_threads clique_waits clique_unknown

  -- they are those of the rows that are freed
  clique_freed : clique ≡ freed_threads tb s (collected tb s)
  unfolding freed_threads collected settled with_channels
  clique_freed =
      taken_same tb (taken tb s) (λ t. not (in_use (thread (collected tb s) t))) s.threads
      (λ t l u. let e : thread (collected tb s) t ≡ cond (taken tb s t) free_row (thread s t) = left_row t (in_range_lem t l) in
      rw e (case_b (taken tb s t) (λ y. rw y refl) (λ y. rw (y, u))))

  -- the whole collection: (stuck) takes the threads of the rows that are freed, and then (reclaim) the channels that are freed
  pub collection_reduced : Collects (freed_threads tb s (collected tb s)) (freed_channels s (collected tb s)) (agent_of tb b s) (agent_of tb b (collected tb s))
  unfolding agent_of collected settled with_channels channels_of freed_channels
  collection_reduced =
      let x : State = with_threads s left_rows in
      let (p, e) = counted_named tb x ok.orderly.shaped.all_channels b bn in
      rw (← clique_freed) (record { parted = split; stuck_once = stuck_once; reclaimed = p; these = e })

  -- the threads that are taken are those that 002 calls disabled
  pub taken_disabled : (t : ℕ) → t < max_threads → in_use (thread s t) ≡ true
      → (taken tb s t ≡ true) ↔ Disabled (b ∷ threads_of tb s.threads) (place_of tb g rd s ok b bn t)
  taken_disabled t l u = (
    (λ y e. ((taken_iff tb s t).0 y).1 ((enabled_iff tb g rd s ok b bn t l u).0 e)),
    (λ n. (taken_iff tb s t).1 (u, λ e. n ((enabled_iff tb g rd s ok b bn t l u).1 e))),
  )
