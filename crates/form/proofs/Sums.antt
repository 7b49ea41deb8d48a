-- The sums of ground 3, as they run over a part's blocks. Assumes nothing.
use Prim.Native.Nat.{ℕ, ◌+◌, ◌≤◌}
use native.Mathlib.Omega.{arith}
use mathlib.Core.Path.{◌≡◌, sym, ◌∙◌}
use lib.Dec.{eqb}
use Rattle.numbers.specs.Search.{sum_to}
use Rattle.numbers.specs.Search.Laws.{sum_none, sum_more}
use Rattle.table.specs.Table.{Table}
use Rattle.table.specs.Layout.{blocks, lines, size}
use Rattle.table.specs.Form.{gain, loss, gain_of, loss_of, sum_agrees}
use Rattle.table.specs.declared.Part.{Part}

module _ (tb : Table) (p : Part) where
  pub gains_none : 0 ≡ sum_to (gain_of tb p) 0
  gains_none = sym (sum_none (gain_of tb p))

  pub losses_none : 0 ≡ sum_to (loss_of tb p) 0
  losses_none = sym (sum_none (loss_of tb p))

  module _ (i s v g : ℕ) (e : v ≡ size tb p i) where
    pub gains_more : s ≡ sum_to (gain_of tb p) i → g ≡ gain v → s + g ≡ sum_to (gain_of tb p) (i + 1)
    unfolding gain_of
    gains_more f h = sum_more (gain_of tb p) i s g f (h ∙ rw e)

    pub losses_more : s ≡ sum_to (loss_of tb p) i → g ≡ loss v → s + g ≡ sum_to (loss_of tb p) (i + 1)
    unfolding loss_of
    losses_more f h = sum_more (loss_of tb p) i s g f (h ∙ rw e)

  pub agrees_is : (n i g l m : ℕ) → n ≡ blocks tb p → i ≤ n → n ≤ i → g ≡ sum_to (gain_of tb p) i → l ≡ sum_to (loss_of tb p) i → m ≡ lines tb p
      → eqb g (m + l) ≡ sum_agrees tb p
  unfolding sum_agrees
  agrees_is n i g l m e h k a b d = let q : i ≡ blocks tb p = omega arith in rw (a, b, d, q)

pub ruleset sums = (gains_none, losses_none, gains_more, losses_more, agrees_is)
