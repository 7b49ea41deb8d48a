-- Bytes and lines that are laid into a buffer, one way out of a function after the other, and channels that are counted. Assumes nothing.
use Rattle.rules.specs.Answers.{Stepped}
use Prim.Native.Nat.{ℕ, zero, suc, ◌+◌, ◌*◌, ◌%◌, ◌<◌, ◌≤◌}
use native.Mathlib.Omega.{arith}
use Rattle.std.proofs.Common.{add-one, ◌∙◌, ap, Fits, length-append, take-suc, take_all, length-take-le}
use Rattle.std.specs.Prelude.{◌≡◌, ◌&&◌, List, [], ◌∷◌, ◌++◌, map, length, get_or, set, take, Err, Ok}
use Rattle.std.proofs.Math.Path.{refl, sym}
use Rattle.std.proofs.Math.Bool.{false, not}
use Rattle.std.specs.Int.{w32}
use Rattle.std.proofs.Math.Dec.{eqb}
use Rattle.std.proofs.lemmas.List.Edits.{sets}
use borrow.Author.Tests.{eq-eqb, ne_eqb}
use Rattle.numbers.specs.Rows.{at}
use Rattle.numbers.specs.Bytes.{joined}
use Rattle.numbers.specs.Bytes.Laws.{sets_append, joined_snoc}
use Rattle.numbers.specs.Count.{bit}
use Rattle.numbers.specs.Count.Laws.{bit_le}
use Rattle.numbers.specs.Search.{tabulate}
use Rattle.numbers.specs.Search.Laws.{case_b, sum_none, sum_suc, sum_more, tabulate_none, tabulate_suc}
use Rattle.text.specs.Text.{text}
use Rattle.text.specs.Text.Laws.{length_text, length_joined, pieces_more, pieces_closed}
use Rattle.loader.specs.Verdict.{ground_number}
use Rattle.loader.specs.declared.Ground.{Ground}
use Rattle.state.specs.State.{State, max_threads, max_channels, type_in, thread, stands_at, status, in_use}
use Rattle.rules.specs.Moves.{is_free_channel}
use Rattle.rules.specs.declared.Deed.{Deed}
use Rattle.rules.specs.declared.Refusal.{Refusal}
use Rattle.engine.specs.Numbers.{act_number, branch_number, partner_number}
use Rattle.listing_lines.specs.Lines.{column, line, step_line, channels_in_use}
use Rattle.listing_lines.specs.Laid.{columns_to, in_use_to, gone_line, gone_lines}

-- ---- bytes

module _ (l bs : List ℕ) (at : ℕ) where
  pub bytes_none : l ≡ sets l at (take 0 bs)
  bytes_none = refl

  pub bytes_more : (i : ℕ) (l₁ : List ℕ) → l₁ ≡ sets l at (take i bs) → i < length bs → set l₁ (at + i) (get_or bs i 0) ≡ sets l at (take (i + 1) bs)
  bytes_more i l₁ e h =
      let f : at + length (take i bs) ≡ at + i = ap (at +◌) (length-take-le i bs (omega arith)) in
      rw (e, add-one i, take-suc bs i 0 h, sets_append l at (take i bs) (get_or bs i 0 ∷ []), f)

  pub bytes_all : (i : ℕ) (l₁ : List ℕ) → l₁ ≡ sets l at (take i bs) → length bs ≤ i → l₁ ≡ sets l at bs
  bytes_all i l₁ e h = e ∙ rw (take_all i bs h)

-- ---- lines

length_column : (v : ℕ) → length (column v) ≡ 6
unfolding column
length_column v = length_text (v % 65536)

-- a number's column by what is left of it
pub column_rest : (v : ℕ) → column (v % 65536) ≡ column v
unfolding column
column_rest v = let e : v % 65536 % 65536 ≡ v % 65536 = omega arith in rw e

length_columns : (vs : List ℕ) → length (joined (map column vs)) ≡ length vs * 6
length_columns vs = length_joined column 6 0 vs (λ i h. length_column (get_or vs i 0))

pub length_line : (vs : List ℕ) → length (line vs) ≡ length vs * 6 + 1
unfolding line
length_line vs = length-append (joined (map column vs)) (10 ∷ []) ∙ omega (arith, length_columns vs)

-- the columns of the first i numbers, and then the newline
module _ (vs l : List ℕ) (at : ℕ) where
  pub line_none : l ≡ sets l at (columns_to vs 0)
  unfolding columns_to joined
  line_none = refl

  module _ (i : ℕ) (l₁ : List ℕ) (e : l₁ ≡ sets l at (columns_to vs i)) where
    pub line_more : (l₂ : List ℕ) → l₂ ≡ sets l₁ (at + i * 6) (text (get_or vs i 0 % 65536)) → i < length vs → l₂ ≡ sets l at (columns_to vs (i + 1))
    unfolding column columns_to
    line_more l₂ f h = pieces_more column 6 0 vs (λ i h. length_column (get_or vs i 0)) l at i l₁ e l₂ f h

    pub line_all : i ≤ length vs → length vs ≤ i → set l₁ (at + length vs * 6) 10 ≡ sets l at (line vs)
    unfolding line columns_to
    line_all h k = pieces_closed column 6 0 vs (λ i h. length_column (get_or vs i 0)) l at i l₁ e k 10

-- ---- channels in use

module _ (s : State) where
  module _ (c v : ℕ) (e : v ≡ at s.channels c 0) where
    pub channel_free : v ≡ 0 → 0 ≡ bit (not (is_free_channel s c))
    unfolding is_free_channel bit
    channel_free h = rw (eq-eqb (type_in s c) 0 (sym e ∙ h))

    pub channel_used : (v ≡ 0 → ⊥) → 1 ≡ bit (not (is_free_channel s c))
    unfolding is_free_channel bit
    channel_used h = rw (ne_eqb (type_in s c) 0 (λ q. h (e ∙ q)))

  pub count_none : 0 ≡ in_use_to s 0
  unfolding in_use_to
  count_none = sym (sum_none (λ c. bit (not (is_free_channel s c))))

  pub count_more : (c n v : ℕ) → n ≡ in_use_to s c → v ≡ bit (not (is_free_channel s c)) → n + v ≡ in_use_to s (c + 1)
  unfolding in_use_to
  count_more c n v e f = sum_more (λ x. bit (not (is_free_channel s x))) c n v e f

  count_le : (c : ℕ) → in_use_to s c ≤ c
  unfolding in_use_to
  count_le zero = omega (arith, sum_none (λ x. bit (not (is_free_channel s x))))
  count_le (suc c) = omega (arith, sum_suc (λ x. bit (not (is_free_channel s x))) c, bit_le (not (is_free_channel s c)), count_le c)

  pub count_fits : (c n v : ℕ) → n ≡ in_use_to s c → v ≡ bit (not (is_free_channel s c)) → c < max_channels → Fits w32 (n + v)
  count_fits c n v e f h = record { fits = omega (arith, e, f, count_le c, bit_le (not (is_free_channel s c))) }

  pub count_all : (c n : ℕ) → n ≡ in_use_to s c → c ≤ max_channels → max_channels ≤ c → n ≡ channels_in_use s
  unfolding in_use_to channels_in_use
  count_all c n e h k = let q : c ≡ max_channels = omega arith in e ∙ rw q

-- ---- a step

module _ (l : List ℕ) (at k t : ℕ) (x : Stepped) where
  pub step_laid : (l₁ : List ℕ) (n a b p : ℕ) (d : Deed) → l₁ ≡ sets l at (line (k ∷ t ∷ n ∷ a ∷ b ∷ p ∷ [])) → a ≡ act_number d → b ≡ branch_number d → p ≡ partner_number d → x ≡ Ok (n, d)
      → l₁ ≡ sets l at (step_line k t x)
  unfolding step_line
  step_laid l₁ n a b p d e f g h i = e ∙ rw (f, g, h, i)

  pub step_left : (r : Refusal) → x ≡ Err r → l ≡ sets l at (step_line k t x)
  unfolding step_line
  step_left r i = rw i

-- ---- a refused file

module _ (g : Ground) (n l : ℕ) (e : n ≡ ground_number g) where
  refusal_line : line (n ∷ l % 65536 ∷ []) ≡ line (ground_number g ∷ l ∷ [])
  unfolding line
  refusal_line = rw (e, column_rest l)

  pub refusal_laid : (b b₁ : List ℕ) → b₁ ≡ sets b 0 (line (n ∷ l % 65536 ∷ [])) → b₁ ≡ sets b 0 (line (ground_number g ∷ l ∷ []))
  refusal_laid b b₁ h = h ∙ rw refusal_line

pub refusal_long : (g : Ground) (l r : ℕ) → r ≡ 13 → r ≡ length (line (ground_number g ∷ l ∷ []))
refusal_long g l r h = omega (arith, length_line (ground_number g ∷ l ∷ []))

-- ---- the threads that are gone

module _ (s s₁ : State) where
  module _ (t v : ℕ) (e : v ≡ at s.threads t 0) where
    free_line : v ≡ 0 → gone_line s s₁ t ≡ []
    unfolding gone_line
    free_line h = rw (eq-eqb (status (thread s t)) 0 (sym e ∙ h))

    pub free_long : (p : ℕ) → v ≡ 0 → p ≡ p + length (gone_line s s₁ t)
    free_long p h = rw (free_line h) (omega arith)

    pub free_laid : (b : List ℕ) (p : ℕ) → v ≡ 0 → b ≡ sets b p (gone_line s s₁ t)
    free_laid b p h = rw (free_line h)

  module _ (t v : ℕ) (e : v ≡ at s₁.threads t 0) where
    stayed_line : (v ≡ 0 → ⊥) → gone_line s s₁ t ≡ []
    unfolding gone_line
    stayed_line h =
        let f : eqb (status (thread s₁ t)) 0 ≡ false = ne_eqb (status (thread s₁ t)) 0 (λ q. h (e ∙ q)) in
        case_b (in_use (thread s t)) (λ y. rw (y, f)) (λ y. rw y)

    pub stayed_long : (p : ℕ) → (v ≡ 0 → ⊥) → p ≡ p + length (gone_line s s₁ t)
    stayed_long p h = rw (stayed_line h) (omega arith)

    pub stayed_laid : (b : List ℕ) (p : ℕ) → (v ≡ 0 → ⊥) → b ≡ sets b p (gone_line s s₁ t)
    stayed_laid b p h = rw (stayed_line h)

  module _ (t v w n : ℕ) (e : v ≡ at s.threads t 0) (h : v ≡ 0 → ⊥) (f : w ≡ at s₁.threads t 0) (k : w ≡ 0) (q : n ≡ at s.threads t 1) where
    gone_line_lem : gone_line s s₁ t ≡ line (t ∷ n ∷ [])
    unfolding gone_line
    gone_line_lem = rw (ne_eqb (status (thread s t)) 0 (λ x. h (e ∙ x)), eq-eqb (status (thread s₁ t)) 0 (sym f ∙ k), q)

    pub gone_long : (p r : ℕ) → r ≡ p + 2 * 6 + 1 → r ≡ p + length (gone_line s s₁ t)
    gone_long p r x = rw gone_line_lem (omega (arith, length_line (t ∷ n ∷ [])))

    pub gone_laid : (b b₁ : List ℕ) (p : ℕ) → b₁ ≡ sets b p (line (t ∷ n ∷ [])) → b₁ ≡ sets b p (gone_line s s₁ t)
    gone_laid b b₁ p x = x ∙ rw gone_line_lem

  goes_suc : (t : ℕ) → gone_lines s s₁ (suc t) ≡ gone_lines s s₁ t ++ gone_line s s₁ t
  unfolding gone_lines
  goes_suc t = rw (tabulate_suc t (gone_line s s₁)) (joined_snoc (tabulate t (gone_line s s₁)) (gone_line s s₁ t))

  goes_start : gone_lines s s₁ 0 ≡ []
  unfolding gone_lines joined
  goes_start = rw (tabulate_none (gone_line s s₁))

  short : (t : ℕ) → length (gone_line s s₁ t) ≤ 13
  unfolding gone_line
  short t =
      case_b (in_use (thread s t) && not (in_use (thread s₁ t)))
      (λ y. rw y (omega (arith, length_line (t ∷ stands_at (thread s t) ∷ []))))
      (λ y. rw y (omega arith))

  few : (t : ℕ) → length (gone_lines s s₁ t) ≤ t * 13
  few zero = rw goes_start (omega arith)
  few (suc t) = rw (goes_suc t) (omega (arith, length-append (gone_lines s s₁ t) (gone_line s s₁ t), few t, short t))

  module _ (b : List ℕ) (p : ℕ) where
    pub goes_none : b ≡ sets b p (gone_lines s s₁ 0)
    goes_none = rw goes_start

    pub goes_at : p ≡ p + length (gone_lines s s₁ 0)
    goes_at = rw goes_start (omega arith)

    module _ (t q : ℕ) (e : q ≡ p + length (gone_lines s s₁ t)) where
      pub goes_fits : (b₁ : List ℕ) → length b₁ ≡ length b → p + 832 ≤ length b → t < max_threads → q + 13 ≤ length b₁
      goes_fits b₁ f g h = omega (arith, few t)

      pub goes_long : (r : ℕ) → r ≡ q + length (gone_line s s₁ t) → r ≡ p + length (gone_lines s s₁ (t + 1))
      goes_long r f = rw (add-one t, goes_suc t) (omega (arith, length-append (gone_lines s s₁ t) (gone_line s s₁ t)))

      pub goes_more : (b₁ b₂ : List ℕ) → b₁ ≡ sets b p (gone_lines s s₁ t) → b₂ ≡ sets b₁ q (gone_line s s₁ t) → b₂ ≡ sets b p (gone_lines s s₁ (t + 1))
      goes_more b₁ b₂ f g = g ∙ rw (f, add-one t, goes_suc t, sets_append b p (gone_lines s s₁ t) (gone_line s s₁ t), e)

      pub goes_ends : t ≤ max_threads → max_threads ≤ t → q ≡ p + length (gone_lines s s₁ max_threads)
      goes_ends h k = let x : t ≡ max_threads = omega arith in e ∙ rw x

    pub goes_all : (t : ℕ) (b₁ : List ℕ) → b₁ ≡ sets b p (gone_lines s s₁ t) → t ≤ max_threads → max_threads ≤ t → b₁ ≡ sets b p (gone_lines s s₁ max_threads)
    goes_all t b₁ f h k = let x : t ≡ max_threads = omega arith in f ∙ rw x
