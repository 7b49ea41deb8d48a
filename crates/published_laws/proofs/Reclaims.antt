-- Counting the channels of a state anew is a series of uses of (reclaim), one for each channel that nobody holds any more. Assumes nothing.
use Prim.Native.Nat.{ℕ, zero, suc, ◌≤◌, ◌<◌}
use Rattle.std.proofs.Common.{arith, sym, ◌∙◌}
use Rattle.std.specs.Prelude.{◌≡◌, refl, ◌≢◌, Bool, true, not, ◌&&◌, ◌||◌, cond, List, [], ◌∷◌, leb, eqb, length, get_or}
use Rattle.std.proofs.Math.Path.{fun_ext}
use Rattle.std.proofs.Math.Dec.{ltb}
use Rattle.std.proofs.Math.ListN.{get_or-eq_default}
use borrow.Author.Tests.{ltb-true, ltb-false, lt-ltb, eqb-true, eqb-false, eq-eqb, leb-true, leb-false, le-leb, lt-leb}
use Rattle.numbers.specs.Search.Laws.{case_b}
use Rattle.table.specs.Table.{Table}
use Rattle.state.specs.State.{State, max_channels, type_in, with_channels}
use Rattle.rules.specs.Holding.{waiters, count_of, channel_row, settled}
use Rattle.upkeep.specs.Upkeep.{settled_length}
use Rattle.rules_laws.specs.Settle.{settled_row}
use Rattle.published.specs.Agents.{Thread, Channels, adding, agent, globalrc}
use Rattle.published.specs.Rules.{Reclaims, reclaim, Many, stays, goes}
use Rattle.published.specs.ProductLaws.{many_on}
use Rattle.published.specs.Collections.{gone, all_gone, gone_on}
use Rattle.published_laws.specs.Standing.{threads_of, channels_of, agent_of}
use Rattle.published_laws.specs.Products.{Bench, globalrc_count}
use Rattle.published_laws.specs.Reclaims.{those, freed_channels}

those_same : (p q : ℕ → Bool) (n : ℕ) → ((c : ℕ) → c < n → p c ≡ q c) → those p n ≡ those q n
unfolding those
those_same p q zero h = refl
those_same p q (suc n) h = rw (h n (omega arith), those_same p q n (λ c l. h c (omega arith)))

module _ (Δ : Channels) (count : ℕ → ℕ) where
  -- the channels from k on, and of those below it the ones with a count above 0
  left : ℕ → Channels
  left k c = Δ c && (leb k c || ltb 0 (count c))

  left_other : (k c : ℕ) → c ≢ k → left k c ≡ left (suc k) c
  unfolding left
  left_other k c n =
      case_b (leb k c)
      (λ y. rw (y, le-leb (suc k) c (omega (arith, leb-true k c y))))
      (λ y. rw (y, lt-leb (suc k) c (omega (arith, leb-false k c y))))

  left_here : (k : ℕ) → left k k ≡ Δ k
  unfolding left
  left_here k = rw (le-leb k k (omega arith)) (case_b (Δ k) (λ y. rw y) (λ y. rw y))

  left_past : (k : ℕ) → left (suc k) k ≡ Δ k && ltb 0 (count k)
  unfolding left
  left_past k = rw (lt-leb (suc k) k (omega arith))

  left_all_lem : left 0 ≡ Δ
  unfolding left
  left_all_lem = fun_ext (λ c. rw (le-leb 0 c (omega arith)) (case_b (Δ c) (λ y. rw y) (λ y. rw y)))

  -- nothing happens at k, or it goes
  left_same : (k : ℕ) → left (suc k) k ≡ left k k → left k ≡ left (suc k)
  left_same k e = fun_ext (λ c. case_b (eqb c k) (λ y. let q : c ≡ k = eqb-true c k y in rw q (sym e)) (λ y. left_other k c (eqb-false c k y)))

  left_gone : (k : ℕ) → left k k ≡ true → left k ≡ adding (left (suc k)) k
  unfolding adding
  left_gone k e =
      fun_ext (λ c. case_b (eqb c k)
      (λ y. let q : c ≡ k = eqb-true c k y in rw (q, eq-eqb k k refl) e)
      (λ y. rw y (left_other k c (eqb-false c k y))))

  module _ (A : List Thread) (counted : (c : ℕ) → globalrc c A ≡ count c) where
    -- with the channels that go
    reclaim_one : (k : ℕ) → (p : Many Reclaims (agent (left k) A) (agent (left (suc k)) A)) × (all_gone p ≡ cond (Δ k && not (ltb 0 (count k))) (k ∷ []) [])
    unfolding all_gone gone
    reclaim_one k =
        case_b (Δ k)
        (λ y. case_b (ltb 0 (count k))
        (λ z. let e : left k ≡ left (suc k) = left_same k (left_past k ∙ rw (y, z) (sym (left_here k ∙ y))) in rw (e, y, z) (stays, refl))
        (λ z. let e : left k ≡ adding (left (suc k)) k = left_gone k (left_here k ∙ y) in
        rw (e, y, z) (goes (reclaim k (left_past k ∙ rw (y, z)) (counted k ∙ (let h : count k ≡ 0 = omega (arith, ltb-false 0 (count k) z) in h))) stays, refl)))
        (λ y. let e : left k ≡ left (suc k) = left_same k (left_past k ∙ rw y (sym (left_here k ∙ y))) in rw (e, y) (stays, refl))

    reclaim_below : (k : ℕ)
        → (p : Many Reclaims (agent (left 0) A) (agent (left k) A)) × (all_gone p ≡ those (λ c. Δ c && not (ltb 0 (count c))) k)
    unfolding those all_gone
    reclaim_below zero = (stays, refl)
    reclaim_below (suc k) =
        let (p, e) = reclaim_below k in
        let (q, f) = reclaim_one k in
        (many_on Reclaims p q, gone_on p q ∙ cc)

-- ---- of a state

row_typed_lem : (ty n w : ℕ) → not (eqb (get_or (channel_row ty n w) 0 0) 0) ≡ not (eqb ty 0) && ltb 0 n
unfolding channel_row
row_typed_lem ty zero w = case_b (not (eqb ty 0)) (λ y. rw y) (λ y. rw y)
row_typed_lem ty (suc n) w = rw (lt-ltb 0 (suc n) (omega arith)) (case_b (not (eqb ty 0)) (λ y. rw y) (λ y. rw y))

module _ (tb : Table) (s : State) (all : length s.channels ≡ max_channels) where
  none_past : (c : ℕ) → max_channels ≤ c → type_in s c ≡ 0
  none_past c l = rw (get_or-eq_default s.channels [] {n = c} (omega (arith, all)))

  settled_past : (c : ℕ) → max_channels ≤ c → type_in (settled tb s) c ≡ 0
  settled_past c l = rw (get_or-eq_default (settled tb s).channels [] {n = c} (omega (arith, settled_length tb s)))

  settled_channels : left (channels_of s) (count_of tb s.threads) max_channels ≡ channels_of (settled tb s)
  unfolding left channels_of
  settled_channels =
      fun_ext (λ c. case_b (ltb c max_channels)
      (λ y. let l = ltb-true c max_channels y in
      rw (lt-leb max_channels c l) (sym (rw (settled_row tb s c l) (row_typed_lem (type_in s c) (count_of tb s.threads c) (waiters tb s.threads c)))))
      (λ y. rw (none_past c (ltb-false c max_channels y), settled_past c (ltb-false c max_channels y))))

  gone_there : (c : ℕ) → c < max_channels
      → (channels_of s c && not (ltb 0 (count_of tb s.threads c))) ≡ (channels_of s c && not (channels_of (settled tb s) c))
  unfolding channels_of
  gone_there c l =
      let e : channels_of (settled tb s) c ≡ channels_of s c && ltb 0 (count_of tb s.threads c) =
      rw (settled_row tb s c l) (row_typed_lem (type_in s c) (count_of tb s.threads c) (waiters tb s.threads c)) in
      rw e (case_b (channels_of s c) (λ y. rw y) (λ y. rw y))

  -- from the state before the channels are counted to that afterwards, with the channels that go
  pub counted_named : (b : Thread) → Bench tb b
      → (p : Many Reclaims (agent_of tb b s) (agent_of tb b (settled tb s))) × (all_gone p ≡ freed_channels s (settled tb s))
  unfolding agent_of settled with_channels freed_channels
  counted_named b bn =
      let n = count_of tb s.threads in
      let A = b ∷ threads_of tb s.threads in
      let p = reclaim_below (channels_of s) n A (globalrc_count tb b bn s.threads) max_channels in
      rw (left_all_lem (channels_of s) n, settled_channels, those_same _ _ max_channels gone_there) at p

  pub counted_anew : (b : Thread) → Bench tb b → Many Reclaims (agent_of tb b s) (agent_of tb b (settled tb s))
  counted_anew b bn = (counted_named b bn).0
