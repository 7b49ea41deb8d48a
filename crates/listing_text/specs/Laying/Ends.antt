-- What follows the steps of a run: a collection, its closing line, and the lines of the threads that it takes. Assumes nothing.
use Rattle.std.specs.Prelude.{ℕ, ◌+◌, ◌*◌, ◌<◌, ◌≡◌, List, [], ◌∷◌, ◌++◌, length}
use Rattle.std.proofs.Common.{arith, ◌∙◌, length-append}
use Rattle.std.proofs.lemmas.List.Edits.{sets}
use Rattle.numbers.specs.Bytes.Laws.{sets_append}
use Rattle.numbers.specs.Search.Laws.{tabulate_cong}
use Rattle.table.specs.Table.{Table}
use Rattle.state.specs.State.{State, max_threads}
use Rattle.rules.specs.Calls.{course}
use Rattle.rules.specs.declared.Reason.{Reason}
use Rattle.engine.specs.Numbers.{reason_number, held_up_number}
use Rattle.collector.specs.Collect.{collected, taken_count}
use Rattle.collector.specs.Collect.Laws.{taken_shows}
use Rattle.listing_lines.specs.Lines.{line, channels_in_use}
use Rattle.listing_lines.specs.Laid.{gone_line, gone_lines}
use Rattle.listing_lines.specs.Laid.Laws.{length_line}
use Rattle.listing_text.specs.Listing.{closing_line, taken_line, taken_lines}
use Rattle.listing_text.specs.Laying.{end_lines}

module _ (tb : Table) (s : State) where
  gone_taken : (t : ℕ) → t < max_threads → gone_line s (collected tb s) t ≡ taken_line tb s t
  unfolding gone_line taken_line
  gone_taken t l = rw (taken_shows tb s t l)

  goes_taken : gone_lines s (collected tb s) max_threads ≡ taken_lines tb s
  unfolding gone_lines taken_lines
  goes_taken = rw (tabulate_cong max_threads (gone_line s (collected tb s)) (taken_line tb s) gone_taken)

  -- n: the steps, r: the reason, x: its number, y: the thread held up, z: how many threads were taken, c: the channels in use; s₁: the state afterwards
  module _ (n x y z c : ℕ) (r : Reason) (s₁ : State) (e : s₁ ≡ collected tb s) (f : x ≡ reason_number r) (g : y ≡ held_up_number r) (h : z ≡ taken_count tb s) (i : c ≡ channels_in_use s₁) where
    closing_is : closing_line tb (course n r s) ≡ line (n ∷ x ∷ y ∷ z ∷ c ∷ [])
    unfolding closing_line
    closing_is = rw (f, g, h, i, e)

    ends_are : end_lines tb (course n r s) ≡ line (n ∷ x ∷ y ∷ z ∷ c ∷ []) ++ gone_lines s s₁ max_threads
    unfolding end_lines
    ends_are = rw (closing_is, e, goes_taken)

    module _ (p q : ℕ) (j : q ≡ p + 5 * 6 + 1) where
      pub end_long : (v : ℕ) → v ≡ q + length (gone_lines s s₁ max_threads) → v ≡ p + length (end_lines tb (course n r s))
      end_long v k =
          rw ends_are (omega (arith, length-append (line (n ∷ x ∷ y ∷ z ∷ c ∷ [])) (gone_lines s s₁ max_threads), length_line (n ∷ x ∷ y ∷ z ∷ c ∷ [])))

      pub end_laid : (b b₁ b₂ : List ℕ) → b₁ ≡ sets b p (line (n ∷ x ∷ y ∷ z ∷ c ∷ [])) → b₂ ≡ sets b₁ q (gone_lines s s₁ max_threads)
          → b₂ ≡ sets b p (end_lines tb (course n r s))
      end_laid b b₁ b₂ k m =
          let o : q ≡ p + length (line (n ∷ x ∷ y ∷ z ∷ c ∷ [])) = omega (arith, length_line (n ∷ x ∷ y ∷ z ∷ c ∷ [])) in
          m ∙ rw (k, o, ends_are, sets_append b p (line (n ∷ x ∷ y ∷ z ∷ c ∷ [])) (gone_lines s s₁ max_threads))
