-- What is weighed after a move: the marks do not matter, and one law for each way out of the code that does it. Assumes nothing.
use Rattle.std.specs.Prelude.{ℕ, ◌≡◌, List, Bool, true, false, eqb}
use Rattle.std.proofs.Math.Path.{refl}
use Rattle.std.proofs.Common.{sym, ◌∙◌}
use Rattle.numbers.specs.Count.{bit}
use Rattle.numbers.specs.Rows.{at}
use Rattle.numbers.specs.Search.Laws.{case_b}
use Rattle.numbers.specs.Signed.{sum}
use Rattle.table.specs.Fields as Field
use Rattle.table.specs.Table.{Table}
use Rattle.state.specs.State.{State, minus_one, is_ready, is_waiting, with_mark, with_channels}
use Rattle.rules.specs.Program.{type_at, branch_at}
use Rattle.rules.specs.declared.Move.{Move}
use Rattle.rules.specs.declared.Move.TheVariants.{Ends, Calls, Waits, Goes, Creates, Spawns, Meets, LacksThread, LacksChannel}
use Rattle.rules_laws.specs.Reading.Laws.{ready_not_waiting}
use Rattle.upkeep.specs.Shift.{shifted_to, row_weighed}
use Rattle.turns.specs.Weights.{number_by, weighed_after}

-- ---- what a row that is ready again, or begins to wait, adds to the counts of waiting holders

module _ (old row : List ℕ) where
  pub weighs_less : is_waiting old ≡ true → is_ready row ≡ true → sum (bit (is_waiting old)) minus_one ≡ bit (is_waiting row)
  unfolding sum bit
  weighs_less e f = rw (e, ready_not_waiting row f)

  pub weighs_more : is_ready old ≡ true → is_waiting row ≡ true → sum (bit (is_waiting old)) 1 ≡ bit (is_waiting row)
  unfolding sum bit
  weighs_more e f = rw (ready_not_waiting old e, f)

  pub weighs_same : is_ready old ≡ true → is_ready row ≡ true → is_waiting row ≡ is_waiting old
  weighs_same e f = ready_not_waiting row f ∙ sym (ready_not_waiting old e)

-- ---- a mark that is moved besides

module _ (tb : Table) (n t : ℕ) (s : State) (i v : ℕ) where
  pub weighed_mark : (m : Move) → weighed_after tb n t m (with_mark s i v) ≡ with_mark (weighed_after tb n t m s) i v
  unfolding weighed_after row_weighed shifted_to with_mark with_channels
  weighed_mark Ends = refl
  weighed_mark Calls = refl
  weighed_mark Waits = refl
  weighed_mark (Goes j) = refl
  weighed_mark (Creates j c) = refl
  weighed_mark (Spawns j u) = refl
  weighed_mark (Meets j u k) = case_b (number_by tb n j) (λ y. rw y) (λ z. rw z)
  weighed_mark LacksThread = refl
  weighed_mark LacksChannel = refl

-- ---- gives_number: the type ty of the slot k with which branch i of node n, in row a of the table, gives or receives

pub number_read : (tb : Table) (i n a k ty : ℕ) → ty ≡ type_at tb n k → k ≡ at tb a Field.b → a ≡ branch_at tb n i → eqb ty 0 ≡ number_by tb n i
unfolding number_by
number_read tb i n a k ty e f g = rw (e, f, g)

-- ---- the arms of settle_step: s before, s₁ after

module _ (tb : Table) (n t : ℕ) (m : Move) (s : State) where
  pub weighed_arm : (s₁ : State) (k : Move) → m ≡ k → s₁ ≡ weighed_after tb n t k s → s₁ ≡ weighed_after tb n t m s
  weighed_arm s₁ k e f = rw e f

  module _ (i u j : ℕ) (r : Bool) (e : r ≡ number_by tb n i) (h : m ≡ Meets i u j) where
    pub weighed_number : (s₁ : State) → s₁ ≡ row_weighed tb s u minus_one → r ≡ true → s₁ ≡ weighed_after tb n t m s
    unfolding weighed_after
    weighed_number s₁ w y = rw (h, ← e, y) w

    pub weighed_channel : r ≡ false → s ≡ weighed_after tb n t m s
    unfolding weighed_after
    weighed_channel z = rw (h, ← e, z)
