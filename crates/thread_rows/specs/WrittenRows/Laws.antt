-- What the stores of a row's words come to. Assumes nothing.
use Rattle.std.specs.Prelude.{ℕ, zero, suc, ◌+◌, ◌<◌, ◌≤◌, ◌≡◌, refl, List, [], ◌∷◌, length, get_or, set, drop, replicate}
use Rattle.std.proofs.Common.{arith, sym, ◌∙◌, length-set, length-drop, get_or-set_same, get_or-set_other, get_or-drop, ext_get_or}
use Rattle.std.proofs.Math.Decide.{dec_lt}
use Rattle.std.proofs.Math.Numerals.{add-one}
use Rattle.std.proofs.lemmas.List.{set-get_or}
use Rattle.numbers.specs.Laid.{laid}
use Rattle.numbers.specs.Laid.Laws.{laid_none, laid_all, laid_put}
use Rattle.numbers.specs.Search.{tabulate}
use Rattle.numbers.specs.Search.Laws.{get_d_tabulate, length_tabulate}
use Rattle.state.specs.State.{State, state_of, thread, stands_at, slot_of, slots_of, state_words, row_slots, with_thread, max_threads}
use Rattle.state.specs.State.Laws.{length_threads, length_thread, either_thread_row, thread_again}
use Rattle.rules.specs.Moves.{waiting_row, stored}
use Rattle.thread_rows.specs.WrittenRows.{reslotted, refilled}

-- ---- two words at the head of a row

two_words : (row : List ℕ) (a b : ℕ) → 2 ≤ length row → set (set row 0 a) 1 b ≡ a ∷ b ∷ drop 2 row
two_words [] a b h = absurd (omega arith)
two_words (x ∷ []) a b h = absurd (omega arith)
two_words (x ∷ y ∷ row) a b h = refl

module _ (b b₁ : List ℕ) (t v n : ℕ) (s₂ : State) where
  pub head_written : s₂ ≡ with_thread (state_of b₁) t (set (thread (state_of b₁) t) 1 n) → state_of b₁ ≡ with_thread (state_of b) t (set (thread (state_of b) t) 0 v)
      → length b ≡ state_words → s₂ ≡ with_thread (state_of b) t (v ∷ n ∷ slots_of (thread (state_of b) t))
  head_written e f l = thread_again (state_of b) (state_of b₁) s₂ t (λ x. set x 1 n) (set (thread (state_of b) t) 0 v) e f ∙ go (dec_lt t max_threads)
    where
      go : Dec (t < max_threads) → with_thread (state_of b) t (set (set (thread (state_of b) t) 0 v) 1 n) ≡ with_thread (state_of b) t (v ∷ n ∷ slots_of (thread (state_of b) t))
      go (yes h) = rw (two_words (thread (state_of b) t) v n (omega (arith, length_thread b l t h)))
      go (no h) = either_thread_row (state_of b) t (set (set (thread (state_of b) t) 0 v) 1 n) (v ∷ n ∷ slots_of (thread (state_of b) t)) (omega (arith, length_threads b))

-- a thread that waits where it stands: h is its status and n its node
pub waiting_written : (s s₁ : State) (t h n : ℕ) → s₁ ≡ with_thread s t (h ∷ n ∷ slots_of (thread s t)) → h ≡ 2 → n ≡ stands_at (thread s t)
    → s₁ ≡ with_thread s t (waiting_row (thread s t))
unfolding waiting_row
waiting_written s s₁ t h n e f g = e ∙ rw (f, g)

-- ---- the slots of a row, one after the other

refill_length : (l row : List ℕ) (k : ℕ) → length (refilled l row k) ≡ length row
unfolding refilled stored
refill_length l row zero = refl
refill_length l row (suc k) = length-set (refilled l row k) (2 + k) (get_or l k 0) ∙ refill_length l row k

-- the head stays, and the first k slots are those of the list
refill_head : (l row : List ℕ) (k i : ℕ) → i < 2 → get_or (refilled l row k) i 0 ≡ get_or row i 0
unfolding refilled stored
refill_head l row zero i h = refl
refill_head l row (suc k) i h = get_or-set_other (refilled l row k) (2 + k) i (get_or l k 0) 0 (λ e. omega arith) ∙ refill_head l row k i h

refill_at : (l row : List ℕ) (k i : ℕ) → 2 + k ≤ length row → i < k → get_or (refilled l row k) (2 + i) 0 ≡ get_or l i 0
unfolding refilled stored
refill_at l row zero i h j = absurd (omega arith)
refill_at l row (suc k) i h j = go (dec_lt i k) (λ m. refill_at l row k i (omega arith) m)
  where
    long : 2 + k < length (refilled l row k)
    long = rw (refill_length l row k) (omega arith)

    go : Dec (i < k) → (i < k → get_or (refilled l row k) (2 + i) 0 ≡ get_or l i 0) → get_or (set (refilled l row k) (2 + k) (get_or l k 0)) (2 + i) 0 ≡ get_or l i 0
    go (yes m) f = get_or-set_other (refilled l row k) (2 + k) (2 + i) (get_or l k 0) 0 (λ e. omega arith) ∙ f m
    go (no m) f = let e : i ≡ k = omega arith in rw e (get_or-set_same (refilled l row k) (2 + k) (get_or l k 0) 0 long)

refill_all : (l row : List ℕ) (n : ℕ) → length l ≡ n → length row ≡ 2 + n → refilled l row n ≡ reslotted row l
refill_all l row n e f =
    ext_get_or 0 (refilled l row n) (reslotted row l) (refill_length l row n ∙ omega arith) (λ i h. place i (omega (arith, refill_length l row n)))
  where
    place : (i : ℕ) → i < 2 + n → get_or (refilled l row n) i 0 ≡ get_or (reslotted row l) i 0
    place zero h = refill_head l row n 0 (omega arith)
    place (suc zero) h = refill_head l row n 1 (omega arith)
    place (suc (suc i)) h =
        let q : suc (suc i) ≡ 2 + i = omega arith in
        let p : get_or (refilled l row n) (2 + i) 0 ≡ get_or l i 0 = refill_at l row n i (omega arith) (omega arith) in
        rw (← q) at p

module _ (b : List ℕ) (t : ℕ) (l : List ℕ) where
  pub refill_none : state_of b ≡ with_thread (state_of b) t (refilled l (thread (state_of b) t) 0)
  unfolding refilled with_thread
  refill_none = rw (set-get_or (state_of b).threads t [])

  pub refill_more : (s₁ s₂ : State) (k x : ℕ) → s₂ ≡ with_thread s₁ t (stored (thread s₁ t) k x)
      → s₁ ≡ with_thread (state_of b) t (refilled l (thread (state_of b) t) k) → x ≡ get_or l k 0
      → s₂ ≡ with_thread (state_of b) t (refilled l (thread (state_of b) t) (k + 1))
  unfolding refilled
  refill_more s₁ s₂ k x e f g =
      thread_again (state_of b) s₁ s₂ t (λ y. stored y k x) (refilled l (thread (state_of b) t) k) e f ∙ rw (add-one k, g)

  pub refill_done : (s₁ : State) (k : ℕ) → s₁ ≡ with_thread (state_of b) t (refilled l (thread (state_of b) t) k)
      → length b ≡ state_words → length l ≡ row_slots → row_slots ≤ k → k ≤ row_slots
      → s₁ ≡ with_thread (state_of b) t (reslotted (thread (state_of b) t) l)
  refill_done s₁ k e g f i j = e ∙ go (dec_lt t max_threads)
    where
      go : Dec (t < max_threads) → with_thread (state_of b) t (refilled l (thread (state_of b) t) k) ≡ with_thread (state_of b) t (reslotted (thread (state_of b) t) l)
      go (yes h) =
          let q : k ≡ 16 = omega arith in
          rw (q, refill_all l (thread (state_of b) t) 16 f (length_thread b g t h))
      go (no h) = either_thread_row (state_of b) t (refilled l (thread (state_of b) t) k) (reslotted (thread (state_of b) t) l) (omega (arith, length_threads b))

-- a head and then the slots make a row
pub row_written_lem : (b b₁ : List ℕ) (t v n : ℕ) (l : List ℕ) (s₂ : State) → s₂ ≡ with_thread (state_of b₁) t (reslotted (thread (state_of b₁) t) l)
    → state_of b₁ ≡ with_thread (state_of b) t (v ∷ n ∷ slots_of (thread (state_of b) t)) → s₂ ≡ with_thread (state_of b) t (v ∷ n ∷ l)
row_written_lem b b₁ t v n l s₂ e f =
    thread_again (state_of b) (state_of b₁) s₂ t (λ r. reslotted r l) (v ∷ n ∷ slots_of (thread (state_of b) t)) e f

-- ---- s₁ has row r for thread t, and s₂ has v in its slot k besides

module _ (b : List ℕ) (t : ℕ) (r : List ℕ) (s₁ s₂ : State) (k v : ℕ) where
  pub stored_after : s₂ ≡ with_thread s₁ t (stored (thread s₁ t) k v) → s₁ ≡ with_thread (state_of b) t r
      → s₂ ≡ with_thread (state_of b) t (stored r k v)
  stored_after e f = thread_again (state_of b) s₁ s₂ t (λ x. stored x k v) r e f

-- ---- a list of slots, laid one after the other

module _ (f : ℕ → ℕ) where
  pub slots_none : (l : List ℕ) → l ≡ replicate row_slots 0 → l ≡ laid f 0 row_slots
  slots_none l e = e ∙ sym (laid_none f row_slots)

  pub slots_more : (l l' : List ℕ) (k v : ℕ) → l' ≡ set l k v → v ≡ f k → l ≡ laid f k row_slots → k < row_slots → l' ≡ laid f (k + 1) row_slots
  slots_more l l' k v e g h i = rw (e, h, g, add-one k) (laid_put f row_slots k i)

  pub slots_done : (l : List ℕ) (k : ℕ) → l ≡ laid f k row_slots → row_slots ≤ k → k ≤ row_slots → l ≡ tabulate row_slots f
  slots_done l k e h i = let q : k ≡ row_slots = omega arith in e ∙ rw q (laid_all f row_slots)

-- the slots of a thread
pub slots_copied : (b : List ℕ) (t : ℕ) (l : List ℕ) (k : ℕ) → l ≡ laid (slot_of (thread (state_of b) t)) k row_slots → length b ≡ state_words → t < max_threads
    → row_slots ≤ k → k ≤ row_slots → l ≡ slots_of (thread (state_of b) t)
slots_copied b t l k e g h i j =
    let f = slot_of (thread (state_of b) t) in
    let n : length (slots_of (thread (state_of b) t)) ≡ 16 = omega (arith, length-drop 2 (thread (state_of b) t), length_thread b g t h) in
    slots_done f l k e i j
    ∙ ext_get_or 0 (tabulate row_slots f) (slots_of (thread (state_of b) t)) (length_tabulate row_slots f ∙ sym n)
    (λ x m. get_d_tabulate row_slots x f 0 (omega (arith, length_tabulate row_slots f)) ∙ sym (get_or-drop 2 (thread (state_of b) t) x 0))
