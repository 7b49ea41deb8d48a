-- The ways out of the function that writes a table and loads it again, from what the exported functions ensure. A number of an answer comes back by way of its
-- pattern. Assumes nothing.
use Rattle.std.specs.Prelude.{ℕ, ◌-◌, ◌*◌, ◌≤◌, ◌≡◌, refl, true, List, ◌≢◌, eqb, length, get_or, take, drop, ℤ, pos, negsuc}
use native.Mathlib.Omega.{arith}
use Rattle.std.proofs.Common.{sym, ◌∙◌, ap, Fits, SFits, to_z, of_z, eqb-true, eq-eqb}
use Rattle.std.specs.Int.{w32, w8}
use Rattle.std.proofs.Math.Facts.{to_z-of_z}
use Rattle.numbers.specs.Bytes.Laws.{bytes_fit}
use Rattle.numbers.specs.Search.Laws.{case_b, contra}
use Rattle.text.specs.Text.{line_length}
use Rattle.table.specs.Table.{table_of, line_total}
use Rattle.loader.specs.Load.{table_length}
use Rattle.interface.specs.Interface.{LoadResult, loaded_to, load_result, WriteResult, write_result}
use Rattle.interface.specs.declared.WriteAnswer.{WriteAnswer}
use Rattle.guarantee.specs.InNumbers.{is_zero}
use Rattle.guarantee.specs.Exported.{load_eight}
use Rattle.guarantee.specs.WriteInNumbers.{LoadsTo, WriteInNumbers, write_in_numbers}
use Rattle.driver.specs.WorkedFile.{load_opening}
use Rattle.driver.specs.Restore.{restored_to, restored}
use Rattle.driver.specs.declared.Opening.{Opening}

-- the one number that is zero
pub zero_is : (z : ℤ) → is_zero z ≡ true → z ≡ pos 0
unfolding is_zero
zero_is (pos n) e = ap pos (eqb-true n 0 e)
zero_is (negsuc n) e = contra e refl

module _ (t b b₁ : List ℕ) (r : WriteAnswer) (e : ◌≡◌ {A = WriteResult} (record { answer = r; file = b₁ }) (write_result t b)) where
  answered : (write_result t b).answer ≡ r
  answered = sym (ap (λ (w : WriteResult). w.answer) e)

  left : (write_result t b).file ≡ b₁
  left = sym (ap (λ (w : WriteResult). w.file) e)

  -- a write that is refused
  pub write_refused : (u u' : List ℕ) → SFits w32 r.refusal → (of_z w32 r.refusal ≡ 0 → ⊥) → u' ≡ u → restored_to (to_z w32 (of_z w32 r.refusal)) b₁ u' ≡ restored t b u
  unfolding restored
  write_refused u u' f n q =
      case_b (is_zero r.refusal)
      (λ y. absurd (n (ap (of_z w32) (zero_is r.refusal y))))
      (λ y. rw (answered, left, y, to_z-of_z f, q))

  -- a write that is done: its bytes are inside the buffer, and they load to the table
  module _ (fit : (i : ℕ) → Fits w8 (get_or t i 0)) (f : SFits w32 r.refusal) (z : of_z w32 r.refusal ≡ 0)
      (g : SFits w32 r.bytes) (v : ℕ) (m : v ≡ of_z w32 (to_z w32 (of_z w32 r.bytes))) where
    done : (write_result t b).answer.refusal ≡ pos 0
    done = ap (λ (a : WriteAnswer). a.refusal) answered ∙ sym (to_z-of_z f) ∙ ap (to_z w32) z

    held : WriteInNumbers t b
    held = write_in_numbers t b (bytes_fit t fit)

    counted : v ≡ line_total (table_of t) * line_length
    counted = m ∙ ap (of_z w32) (to_z-of_z g ∙ ap (λ (a : WriteAnswer). a.bytes) (sym answered) ∙ (held.bytes done).0)

    pub bytes_inside : v ≤ length b₁
    bytes_inside = rw (counted, ← left, (held.rest done).1) (held.bytes done).1

    file_of : LoadsTo t (take v b₁)
    file_of = rw (counted, ← left) (held.loads done)

    long : length t ≡ table_length
    long = case_b (eqb (length t) table_length) (eqb-true (length t) table_length)
        (λ n. let q : pos 8 ≡ pos 0 = sym (held.eight.1 (λ h. contra (eq-eqb (length t) table_length h) n)) ∙ done in let k : ◌≡◌ {A = ℕ} 8 0 = cc in absurd (omega arith))

    -- a buffer that has not a table's length refuses them
    not_loaded : (u : List ℕ) → length u ≢ table_length → load_result (take v b₁) u ≡ loaded_to (record { refusal = pos 8; line = pos 0 }) u
    not_loaded u n = load_eight (take v b₁) t u (ap (λ (o : LoadResult). o.answer.refusal) (file_of.1 t long)) n

    pub load_answered : (u u₁ : List ℕ) (o : Opening) → u₁ ≡ (load_result (take (v - 0) (drop 0 b₁)) u).table
        → o ≡ load_opening (load_result (take (v - 0) (drop 0 b₁)) u).answer → SFits w32 o.refusal → restored_to (to_z w32 (of_z w32 o.refusal)) b₁ u₁ ≡ restored t b u
    unfolding restored is_zero load_opening
    load_answered u u₁ o w q s =
        let k : v - 0 ≡ v = omega arith in
        case_b (eqb (length u) table_length)
        (λ y. let h = file_of.1 u (eqb-true (length u) table_length y) in rw (done, y, left, to_z-of_z s, q, w, k, h))
        (λ y. let h = not_loaded u (λ l. contra (eq-eqb (length u) table_length l) y) in rw (done, y, left, to_z-of_z s, q, w, k, h))
