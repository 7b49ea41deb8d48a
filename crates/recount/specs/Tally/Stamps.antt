-- The stamps tell whether a thread has been counted at a channel, so that it counts each channel once: at the first slot that has it. Assumes nothing.
use Rattle.std.specs.Prelude.{ℕ, suc, ◌+◌, ◌<◌, ◌≤◌, ◌≡◌, Bool, true, false, cond, List, ltb, eqb, length, get_or, replicate}
use Rattle.std.proofs.Common.{arith, sym, ◌∙◌, get_or-set_other}
use Rattle.std.proofs.Math.Numerals.{add-one}
use Rattle.std.proofs.Math.Path.{refl}
use Rattle.std.proofs.Math.ListN.{length-set}
use Rattle.std.proofs.lemmas.List.{length-replicate}
use Rattle.std.proofs.Math.Seq.{get_or-set_same, set_out}
use borrow.Author.Tests.{eqb-true, eqb-false, eq-eqb, ne_eqb, ltb-true, ltb-false}
use Rattle.numbers.specs.Laid.Laws.{zeros_at}
use Rattle.numbers.specs.Search.Laws.{case_b}
use Rattle.table.specs.Table.{Table}
use Rattle.state.specs.State.{max_channels}
use Rattle.holding.specs.Own.{own_of, own_room, types_of, holds_to}
use Rattle.holding.specs.Own.Laws.{holds_none, own_suc}
use Rattle.holding.specs.Own.Listing.{channel_by}
use Rattle.holding.specs.Own.Listing.Laws.{own_first}
use Rattle.recount.specs.Tally.{added, stamped_at, added_unless, Fresh, Passed}

-- before the pass
pub fresh_zeros : Fresh 0 (replicate max_channels 0)
unfolding Fresh
fresh_zeros = (length-replicate {A = ℕ} 128 0, λ c. omega (arith, zeros_at 128 c))

pub fresh_later : (t : ℕ) (stamps : List ℕ) → Fresh t stamps → Fresh (t + 1) stamps
unfolding Fresh
fresh_later t stamps (e, f) = (e, λ c. omega (arith, f c))

-- nothing is added past the end
pub added_out : (l : List ℕ) (c w : ℕ) → length l ≤ c → l ≡ added l c w
unfolding added
added_out l c w h = sym (set_out l c _ h)

module _ (tb : Table) (row : List ℕ) (t : ℕ) (stamps : List ℕ) where
  -- before the row and after it
  pub passed_none : Fresh t stamps → Passed tb row t 0 stamps
  unfolding Fresh Passed
  passed_none (e, f) =
      (fresh_later t stamps (e, f), λ c h. rw (holds_none tb row c h) (ne_eqb (get_or stamps c 0) (t + 1) (λ q. omega (arith, f c, q))))

  pub passed_all : (k : ℕ) → Passed tb row t k stamps → Fresh (t + 1) stamps
  unfolding Passed
  passed_all k (e, f) = e

  -- one slot more: c is the channel in it
  module _ (k from c : ℕ) (h : k < own_room tb row) (e : from ≡ types_of tb row) (f : c ≡ channel_by tb from row k) (p : Passed tb row t k stamps) where
    -- whether a slot before has c, by its stamp
    abbrev had : Bool
    had = eqb (get_or stamps c 0) (t + 1)

    first_here : cond had max_channels c ≡ own_of tb row k
    unfolding Passed
    first_here = rw f (own_first tb row from (λ u. e) k (eqb (get_or stamps (channel_by tb from row k) 0) (t + 1)) h (λ g. p.1 (channel_by tb from row k) g))

    no_other : (x : ℕ) → x < max_channels → (x ≡ c → ⊥) → eqb (own_of tb row k) x ≡ false
    no_other x i n = rw (← first_here) (case_b had (λ y. rw y (ne_eqb 128 x (λ q. omega (arith, q, i)))) (λ z. rw z (ne_eqb c x (λ q. n (sym q)))))

    held_more : (x : ℕ) → x < max_channels → (x ≡ c → ⊥) → eqb (get_or stamps x 0) (t + 1) ≡ holds_to tb row x (suc k)
    unfolding Passed
    held_more x i n = p.1 x i ∙ rw (own_suc tb row x i k, no_other x i n) (case_b (holds_to tb row x k) (λ y. rw y) (λ z. rw z))

    held_here : c < max_channels → true ≡ holds_to tb row c (suc k)
    unfolding Passed
    held_here i =
        rw (own_suc tb row c i k, ← p.1 c i)
        (case_b had (λ y. rw y) (λ n. let q : c ≡ own_of tb row k = rw n at first_here in rw (n, ← q) (sym (eq-eqb c c refl))))

    pub passed_more : (m : List ℕ) → m ≡ stamped_at stamps (t + 1) c → Passed tb row t (k + 1) m
    unfolding Passed Fresh stamped_at
    passed_more m g =
        let long = p.0.0 in
        case_b (ltb c 128)
        (λ y. let i : c < 128 = ltb-true c 128 y in
        rw (g, y, add-one k) (
          (
            length-set stamps c (t + 1) ∙ long,
            λ x. case_b (eqb x c)
                (λ a. let q : x ≡ c = eqb-true x c a in rw (q, get_or-set_same stamps c (t + 1) 0 (omega (arith, long))) (omega arith))
                (λ b. rw (get_or-set_other stamps c x (t + 1) 0 (eqb-false x c b)) (p.0.1 x)),
          ),
          λ x j. case_b (eqb x c)
              (λ a. let q : x ≡ c = eqb-true x c a in rw (q, get_or-set_same stamps c (t + 1) 0 (omega (arith, long))) (eq-eqb (t + 1) (t + 1) refl ∙ held_here i))
              (λ b. rw (get_or-set_other stamps c x (t + 1) 0 (eqb-false x c b)) (held_more x j (eqb-false x c b))),
        ))
        (λ z. let i : 128 ≤ c = ltb-false c 128 z in
        rw (g, z, add-one k) (p.0, λ x j. held_more x j (λ q. omega (arith, q))))

    -- the thread is counted where the slot is the first to have its channel
    pub counted_here : (l m : List ℕ) (w : ℕ) → length l ≡ max_channels → m ≡ added_unless stamps (t + 1) c w l → m ≡ added l (own_of tb row k) w
    unfolding added_unless
    counted_here l m w i g =
        g ∙ rw (← first_here)
        (case_b (ltb c 128)
        (λ y. rw y (case_b had (λ a. rw a (added_out l 128 w (omega (arith, i)))) (λ b. rw b)))
        (λ z. rw z (case_b had (λ a. rw a (added_out l 128 w (omega (arith, i)))) (λ b. rw b (added_out l c w (omega (arith, i, ltb-false c 128 z)))))))
