-- How the index is laid, entry by entry. Assumes nothing.
use Prim.Native.Nat.{ℕ, suc, ◌+◌, ◌-◌, ◌≤◌, ◌<◌}
use native.Mathlib.Omega.{arith}
use native.Mathlib.Numerals.{add-one}
use mathlib.Core.Path.{◌≡◌, sym, ◌∙◌}
use mathlib.Core.Bool.{true, false}
use mathlib.Core.List.{List}
use lib.ListN.{get_or, set, replicate}
use borrow.Author.Tests.{lt-ltb, le-ltb, ltb-true, ltb-false}
use Rattle.numbers.specs.Search.{first, sum_to}
use Rattle.numbers.specs.Search.Laws.{case_b, first_none, first_void, first_is, first_below, first_le, sum_none, sum_more}
use Rattle.std.specs.Prelude.{Bool, ltb, Option, Some, None}
use Rattle.std.specs.Bool.{⊤}
use Rattle.std.specs.Fn.{CalledAt}
use Rattle.std.specs.Iterator.{YieldsThen}
use Rattle.std.specs.List.{FoldsTo}
use Rattle.std.specs.Option.{MatchOption, unwrap_or}
use Rattle.std.specs.declared.ops.Range.{Range}
use Rattle.std.proofs.iter.Yields.{nat_range_steps}
use Rattle.std.proofs.lemmas.Iterator.{first_from_Range}
use denote.Param.Members.{Mut}
use denote.Ref.{Bor}
use Rattle.table.specs.Table.{Table, definition_row, slot_row, node_row, branch_row}
use Rattle.table.specs.Layout.{blocks, lines, size, start, owner, ends_past}
use Rattle.table.specs.Form.{header_in_range}
use Rattle.table.specs.Form.Laws.{header_counts}
use Rattle.table.specs.Index.{index_length, starts_from, starts_room, owners_from, owners_room, entry, index_of, Starts}
use Rattle.numbers.specs.Laid.{laid}
use Rattle.numbers.specs.Laid.Laws.{laid_none, laid_all, laid_put, laid_zero, laid_skip, get_d_laid}
use Rattle.table.specs.Index.Laws.{entry_start, entry_owner, entry_definition_row, entry_slot_row, entry_node_row, entry_branch_row, starts_fit, lines_fit, starts_inside, owners_inside}
use Rattle.table.specs.Layout.Laws.{start_sum, start_none, start_out, owner_past}
use Rattle.table.specs.declared.Part.{Part}
use Rattle.table.specs.declared.Part.TheVariants.{Slots, Nodes, Branches}

starts_first : (p : Part) → starts_from p + starts_room p ≤ 227
starts_first Slots = omega arith
starts_first Nodes = omega arith
starts_first Branches = omega arith

owners_last : (p : Part) → 227 ≤ owners_from p
owners_last Slots = omega arith
owners_last Nodes = omega arith
owners_last Branches = omega arith

module _ (tb : Table) (p : Part) where
  pub sizes_none : 0 ≡ sum_to (size tb p) 0
  sizes_none = sym (sum_none (size tb p))

  pub sizes_more : (i s v : ℕ) → s ≡ sum_to (size tb p) i → v ≡ size tb p i → s + v ≡ sum_to (size tb p) (i + 1)
  sizes_more = sum_more (size tb p)

  module _ (h : header_in_range tb ≡ true) where
    -- ---- the starts of a part

    pub starts_none : (l : List ℕ) (from : ℕ) → from ≡ starts_from p → l ≡ laid (entry tb) (starts_from p) index_length
        → l ≡ laid (entry tb) (from + 0 + 1) index_length
    starts_none l from e g =
        let c = header_counts tb h in
        let z : entry tb (starts_from p) ≡ 0 =
        (let q : starts_from p ≡ starts_from p + 0 = omega arith in rw q (entry_start tb p 0 (omega (arith, starts_fit tb c p)) ∙ start_none tb p)) in
        let q : from + 0 + 1 ≡ suc (starts_from p) = omega arith in
        g ∙ rw q (laid_zero (entry tb) index_length (starts_from p) (omega (arith, starts_fit tb c p, starts_inside tb p)) z)

    pub starts_more : (l l' : List ℕ) (from i s v : ℕ) → l' ≡ set l (from + i + 1) (s + v) → l ≡ laid (entry tb) (from + i + 1) index_length → v ≡ size tb p i
        → s ≡ sum_to (size tb p) i → from ≡ starts_from p → i < blocks tb p → l' ≡ laid (entry tb) (from + (i + 1) + 1) index_length
    starts_more l l' from i s v d a g f e k =
        let c = header_counts tb h in
        let q : from + i + 1 ≡ starts_from p + (i + 1) = omega arith in
        let w : from + (i + 1) + 1 ≡ suc (starts_from p + (i + 1)) = omega arith in
        let m : s + v ≡ entry tb (starts_from p + (i + 1)) =
        (sum_more (size tb p) i s v f g ∙ sym (start_sum tb p (i + 1) (omega arith)) ∙ sym (entry_start tb p (i + 1) (omega (arith, starts_fit tb c p)))) in
        d ∙ rw (a, q, m, w) (laid_put (entry tb) index_length (starts_from p + (i + 1)) (omega (arith, starts_fit tb c p, starts_inside tb p)))

    pub starts_all : (l : List ℕ) (from n i : ℕ) → from ≡ starts_from p → n ≡ blocks tb p → i ≤ n → n ≤ i → l ≡ laid (entry tb) (from + i + 1) index_length
        → l ≡ laid (entry tb) (starts_from p + starts_room p) index_length
    starts_all l from n i e b j k a =
        let c = header_counts tb h in
        let f = starts_fit tb c p in
        a ∙ laid_skip (entry tb) index_length (from + i + 1) (starts_from p + starts_room p) (omega arith) (starts_inside tb p)
        (λ x y z. let q : x ≡ starts_from p + (x - starts_from p) = omega arith in
        rw q (entry_start tb p (x - starts_from p) (omega arith) ∙ start_out tb p (x - starts_from p) (omega arith)))

    -- all starts are there before the owners are laid
    pub starts_there : (l : List ℕ) (from x : ℕ) → l ≡ laid (entry tb) (from + x) index_length → from ≡ owners_from p → Starts tb p l
    starts_there l from x e f i k =
        rw e (get_d_laid (entry tb) index_length (from + x) (starts_from p + i) (omega (arith, starts_first p, owners_last p))) ∙ entry_start tb p i k

    -- ---- a block that ends past x

    module _ (l : List ℕ) (g : Starts tb p l) (from n x : ℕ) (b : n ≡ blocks tb p) (k : first (ends_past tb p x) from ≡ from) where
      -- the test by the index
      abbrev ends_in : ℕ → Bool
      ends_in i = ltb x (get_or l (starts_from p + (i + 1)) 0)

      test_is : (i : ℕ) → i < n → ends_past tb p x i ≡ ends_in i
      unfolding ends_past
      test_is i m = sym (rw (g (i + 1) (omega (arith, starts_fit tb (header_counts tb h) p)), add-one i))

      -- no block below i ends past x
      none_below : (i : ℕ) → i ≤ n → ((j : ℕ) → from ≤ j → j < i → ends_in j ≡ false) → (j : ℕ) → j < i → ends_past tb p x j ≡ false
      none_below i m f j e =
          case_b (ltb j from)
          (λ t. first_below (ends_past tb p x) from j (rw k (ltb-true j from t)))
          (λ w. test_is j (omega arith) ∙ f j (ltb-false j from w) e)

      found : (r : Option ℕ)
          → MatchOption r ((j : ℕ) → from ≤ j → j < n → ends_in j ≡ false) (λ i. (from ≤ i) × (i < n) × (ends_in i ≡ true) × ((j : ℕ) → from ≤ j → j < i → ends_in j ≡ false))
          → unwrap_or r n ≡ first (ends_past tb p x) (blocks tb p)
      found None f = rw (← b) (sym (first_void (ends_past tb p x) n (none_below n (omega arith) f)))
      found (Some i) (z, m, t, f) = rw (← b) (sym (first_is (ends_past tb p x) n i m (test_is i m ∙ t) (none_below i (omega arith) f)))

      pub seek_found : {F : Type 0} {g : Mut F (Bor ℕ × Unit {0}) Bool} {s : Range ℕ} (e : s ≡ record { start = from; end = n }) (u : Range ℕ) (f : F) (r : Option ℕ)
          → (xs : List ℕ) × (j : F) × YieldsThen nat_range_steps s xs r u × FoldsTo (λ p x q. CalledAt g p x false q) f xs j × MatchOption r ⊤ (λ x. (h : F) × CalledAt g j x true h)
          → ((x : ℕ) (b : Bool) (q : F) → CalledAt g f x b q → (q ≡ f) × (b ≡ ends_in x)) → unwrap_or r n ≡ first (ends_past tb p x) (blocks tb p)
      seek_found {s = s} e u f r ran h =
          found r
          (rw e at (first_from_Range s u f r (λ x. ends_in x ≡ true) (λ x. ends_in x ≡ false) ran (λ x q k. sym (h x true q k).1) (λ x q k. ((h x false q k).0, sym (h x false q k).1))))

    -- ---- the owners of a part

    pub owners_none : (l : List ℕ) (from : ℕ) → from ≡ owners_from p → l ≡ laid (entry tb) (owners_from p) index_length
        → l ≡ laid (entry tb) (from + 0) index_length
    owners_none l from e g = let q : from + 0 ≡ owners_from p = omega arith in rw q g

    pub owners_start : first (ends_past tb p 0) 0 ≡ 0
    owners_start = first_none (ends_past tb p 0)

    -- no block that ends at x or before ends past x + 1
    pub owners_next : (x r : ℕ) → r ≡ first (ends_past tb p x) (blocks tb p) → first (ends_past tb p (x + 1)) r ≡ r
    unfolding ends_past
    owners_next x r e = first_void (ends_past tb p (x + 1)) r (λ i k. le-ltb (x + 1) (start tb p (suc i))
        (omega (arith, ltb-false x (start tb p (suc i)) (first_below (ends_past tb p x) (blocks tb p) i (rw e at k)))))

    pub owners_below : (x r : ℕ) → r ≡ first (ends_past tb p x) (blocks tb p) → r ≤ blocks tb p
    owners_below x r e = rw e (first_le (ends_past tb p x) (blocks tb p))

    module _ (room : 0 < owners_room p) (from : ℕ) (e : from ≡ owners_from p) where
      pub owners_more : (l l' : List ℕ) (x r : ℕ) → l' ≡ set l (from + x) r → l ≡ laid (entry tb) (from + x) index_length
          → r ≡ first (ends_past tb p x) (blocks tb p) → x < lines tb p → l' ≡ laid (entry tb) (from + (x + 1)) index_length
      unfolding owner
      owners_more l l' x r d a f k =
          let fit = lines_fit tb (header_counts tb h) p room in
          let w : from + (x + 1) ≡ suc (owners_from p + x) = omega arith in
          let o : owner tb p x ≡ r = rw (lt-ltb x (lines tb p) (omega arith)) (sym f) in
          let m : r ≡ entry tb (owners_from p + x) = sym (entry_owner tb p x (omega arith) ∙ o) in
          d ∙ rw (w, a, e, m) (laid_put (entry tb) index_length (owners_from p + x) (omega (arith, owners_inside tb p)))

      pub owners_all : (l : List ℕ) (n x : ℕ) → n ≡ lines tb p → x ≤ n → n ≤ x → l ≡ laid (entry tb) (from + x) index_length
          → l ≡ laid (entry tb) (owners_from p + owners_room p) index_length
      owners_all l n x b j k a =
          let fit = lines_fit tb (header_counts tb h) p room in
          a ∙ laid_skip (entry tb) index_length (from + x) (owners_from p + owners_room p) (omega arith) (owners_inside tb p)
          (λ y u z. let q : y ≡ owners_from p + (y - owners_from p) = omega arith in
          rw q (entry_owner tb p (y - owners_from p) (omega arith) ∙ owner_past tb p (y - owners_from p) (omega arith)))

-- the first rows are laid behind the owners
module _ (tb : Table) where
  row_laid : (l l' : List ℕ) (p v : ℕ) → p < index_length → v ≡ entry tb p → l ≡ laid (entry tb) p index_length → l' ≡ set l p v
      → l' ≡ laid (entry tb) (suc p) index_length
  row_laid l l' p v h e a d = d ∙ rw (a, e) (laid_put (entry tb) index_length p h)

  pub rows_laid : (l l₁ l₂ l₃ l₄ : List ℕ) (d s n b : ℕ) → l₄ ≡ set l₃ 806 b → l₃ ≡ set l₂ 805 n → l₂ ≡ set l₁ 804 s → l₁ ≡ set l 803 d
      → l ≡ laid (entry tb) 803 index_length
      → d ≡ definition_row tb → s ≡ slot_row tb → n ≡ node_row tb → b ≡ branch_row tb → l₄ ≡ laid (entry tb) index_length index_length
  rows_laid l l₁ l₂ l₃ l₄ d s n b e₄ e₃ e₂ e₁ e f g h i =
      row_laid l₃ l₄ 806 b (omega arith) (i ∙ sym (entry_branch_row tb))
      (row_laid l₂ l₃ 805 n (omega arith) (h ∙ sym (entry_node_row tb))
      (row_laid l₁ l₂ 804 s (omega arith) (g ∙ sym (entry_slot_row tb))
      (row_laid l l₁ 803 d (omega arith) (f ∙ sym (entry_definition_row tb)) e e₁) e₂) e₃) e₄

pub index_none : (tb : Table) (l : List ℕ) → l ≡ replicate index_length 0 → l ≡ laid (entry tb) 0 index_length
index_none tb l e = e ∙ sym (laid_none (entry tb) index_length)

pub index_whole : (tb : Table) (l : List ℕ) → l ≡ laid (entry tb) index_length index_length → l ≡ index_of tb
unfolding index_of
index_whole tb l e = e ∙ laid_all (entry tb) index_length

pub ruleset starts_laid = (sizes_none, sizes_more, starts_none, starts_all)

pub ruleset owners_laid = (starts_there, owners_start, owners_none, owners_below, owners_next, owners_all)
