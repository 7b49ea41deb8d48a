-- Blocks that follow one another, as a table's index has them: which block a line stands in. Assumes nothing.
use Rattle.std.specs.Prelude.{ℕ, suc, ◌+◌, ◌≤◌, ◌<◌, ◌≡◌, ltb}
use Rattle.std.proofs.Common.{arith}
use borrow.Author.Tests.{ltb-true, ltb-false, lt-ltb, le-ltb}
use Rattle.numbers.specs.Search.{first}
use Rattle.numbers.specs.Search.Laws.{case_b, first_is, first_passes, first_below, first_le, sum_suc, sum_mono}
use Rattle.table.specs.Table.{Table}
use Rattle.table.specs.Layout.{blocks, lines, size, start, owner, ends_past}
use Rattle.table.specs.Layout.Laws.{start_sum, starts_by}
use Rattle.table.specs.declared.Part.{Part}

-- the blocks of a part hold just the lines that the header gives to it
abbrev pub Filled : Table → Part → Type 0
Filled tb p = start tb p (blocks tb p) ≡ lines tb p

-- line x of a part stands in block d
pub record Stands (tb : Table) (p : Part) (x d : ℕ) : Type 0 where
  pub block : d < blocks tb p
  pub from : start tb p d ≤ x
  pub before : x < start tb p (suc d)

module _ (tb : Table) (p : Part) where
  pub start_suc : (i : ℕ) → i < blocks tb p → start tb p (suc i) ≡ start tb p i + size tb p i
  start_suc i h = omega (arith, start_sum tb p (suc i) h, start_sum tb p i (omega arith), sum_suc (size tb p) i)

  pub start_mono : (i j : ℕ) → i ≤ j → j ≤ blocks tb p → start tb p i ≤ start tb p j
  start_mono i j h k = omega (arith, start_sum tb p i (omega arith), start_sum tb p j k, sum_mono (size tb p) i j h)

  module _ (full : Filled tb p) (x : ℕ) where
    pub stands_line : (d : ℕ) → Stands tb p x d → x < lines tb p
    stands_line d s = omega (arith, start_mono (suc d) (blocks tb p) s.block (omega arith))

    pub owner_is : (d : ℕ) → Stands tb p x d → owner tb p x ≡ d
    unfolding owner ends_past
    owner_is d s =
        rw (lt-ltb x (lines tb p) (stands_line d s))
        (first_is (ends_past tb p x) (blocks tb p) d s.block (lt-ltb x (start tb p (suc d)) s.before)
        (λ j h. le-ltb x (start tb p (suc j)) (omega (arith, start_mono (suc j) d h (omega (arith, s.block))))))

    pub owner_stands : x < lines tb p → Stands tb p x (owner tb p x)
    unfolding owner ends_past
    owner_stands h = rw (lt-ltb x (lines tb p) h) (
        let o = first (ends_past tb p x) (blocks tb p) in
        let l : start tb p o ≤ x = starts_by tb p x o (first_below (ends_past tb p x) (blocks tb p)) in
        case_b (ltb o (blocks tb p))
        (λ y. record { block = ltb-true o (blocks tb p) y; from = l; before = ltb-true x (start tb p (suc o)) (first_passes (ends_past tb p x) (blocks tb p) (ltb-true o (blocks tb p) y)) })
        (λ y. absurd (let q : o ≡ blocks tb p = omega (arith, ltb-false o (blocks tb p) y, first_le (ends_past tb p x) (blocks tb p)) in
        let k : start tb p (blocks tb p) ≤ x = rw q at l in omega arith)))
