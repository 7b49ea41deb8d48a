-- Laws of a list whose entries are filled in one after the other. Assumes nothing.
use Prim.Native.Nat.{ℕ, ◌+◌, ◌<◌, ◌≤◌}
use native.Mathlib.Omega.{arith}
use mathlib.Core.Path.{◌≡◌, refl, sym, ◌∙◌, ap}
use mathlib.Core.List.{List}
use lib.ListN.{length, get_or, set}
use lib.Dec.{ltb}
use lib.Seq.{ext_get_or, get_or-set_same, get_or-set_other}
use mir.Syntax.{w8}
use mir.Val.{Fits}
use borrow.Author.Tests.{ltb-true, ltb-false}
use Rattle.numbers.specs.Bytes.{words, encode}
use Rattle.numbers.specs.Bytes.Laws.{bytes_fit, encode_numbers}
use Rattle.numbers.specs.Search.Laws.{case_b}
use Rattle.state.specs.State.{state_of, state_bytes, state_words, state_length}
use Rattle.state.specs.State.Laws.{words_bytes, words_long}

-- the first n entries of two lists agree
unfoldable pub Agree : List ℕ → List ℕ → ℕ → Type 0
Agree l m n = (k : ℕ) → k < n → get_or l k 0 ≡ get_or m k 0

module _ (l m : List ℕ) where
  pub agree_none : Agree l m 0
  unfolding Agree
  agree_none k h = absurd (omega arith)

  pub agree_more : (l' : List ℕ) (i v : ℕ) → l' ≡ set l i v → Agree l m i → v ≡ get_or m i 0 → i < length l → Agree l' m (i + 1)
  unfolding Agree
  agree_more l' i v e a f h k j =
      case_b (ltb k i)
      (λ y. let q : k < i = ltb-true k i y in rw e (get_or-set_other l i k v 0 (λ z. omega (arith, z)) ∙ a k q))
      (λ y. let q : k ≡ i = omega (arith, ltb-false k i y) in rw (e, q) (get_or-set_same l i v 0 h ∙ f))

  pub agree_set : (i v : ℕ) → Agree l m i → v ≡ get_or m i 0 → i < length l → Agree (set l i v) m (i + 1)
  agree_set i v a f h = agree_more (set l i v) i v refl a f h

  agree_all : Agree l m (length l) → length l ≡ length m → l ≡ m
  unfolding Agree
  agree_all a e = ext_get_or 0 l m e a

-- a word of a buffer of the right length
pub word_inside : (b b₀ : List ℕ) (i : ℕ) → length b ≡ length b₀ → length b₀ ≡ state_length → i < state_words → i < length (words b)
word_inside b b₀ i e f h = omega (arith, words_long b (e ∙ f))

-- all words of a buffer are read
pub all_read : (b l : List ℕ) (i : ℕ) → Agree l (words b) i → length b ≡ state_length → length l ≡ state_words → state_words ≤ i → l ≡ words b
unfolding Agree
all_read b l i a e f h =
    let w = words_long b e in agree_all l (words b) (λ k j. a k (omega (arith, f))) (f ∙ sym w)

-- all words of a state are written
pub all_written : (b l : List ℕ) (i : ℕ) → Agree (words b) l i → length b ≡ state_length → ((j : ℕ) → Fits w8 (get_or b j 0)) → length l ≡ state_words
    → state_words ≤ i → b ≡ state_bytes (state_of l)
unfolding Agree
all_written b l i a e g f h =
    let w = words_long b e in
    let q : words b ≡ l = agree_all (words b) l (λ k j. a k (omega (arith, w))) (w ∙ sym f) in
    sym (encode_numbers 4 b (omega (arith, e)) (bytes_fit b g)) ∙ ap (encode 4) q ∙ sym (words_bytes l f)

pub ruleset words_read = (agree_none, all_read)

pub ruleset words_written = (agree_none, agree_more, word_inside, all_written)
