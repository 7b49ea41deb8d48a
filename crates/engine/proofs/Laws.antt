-- Ground 10, and the gives and takes that leave the state as it was. Assumes nothing.
use Rattle.std.specs.Prelude.{◌≡◌, ℕ, Bool, true, false, List, length, get_or, Option, Err, None, Ok, Some, is_some}
use Rattle.std.proofs.Common.{sym, ◌∙◌, Fits, w8}
use Rattle.numbers.specs.Bytes.{words}
use Rattle.numbers.specs.Bytes.Laws.{bytes_fit}
use Rattle.numbers.specs.Tests.{clash}
use Rattle.table.specs.Table.{Table}
use Rattle.state.specs.State.{State, state_length, view, state_of}
use Rattle.rules.specs.Sound.{sound}
use Rattle.rules.specs.Calls.{give_on, take_on}
use Rattle.rules.specs.Calls.Laws.{give_unchanged, take_unchanged}
use Rattle.rules.specs.declared.Refusal.{Refusal}
use Rattle.rules_laws.specs.Shape.Laws.{view_shaped}
use Rattle.rules_laws.specs.Soundness.{Sound}
use Rattle.rules_laws.specs.Soundness.Laws.{sound_elim}

-- ---- ground 10

pub state_read : (tb : Table) (b w : List ℕ) → length b ≡ state_length → ((i : ℕ) → Fits w8 (get_or b i 0)) → w ≡ words b → (x : Bool) → x ≡ sound tb (state_of w) → x ≡ true
    → Sound tb (state_of w)
state_read tb b w long fit i x h t = rw i (sound_elim tb (view b) (view_shaped b long (bytes_fit b fit)) (sym (rw i at h) ∙ t))

-- ---- a give and a take that meet nobody

nobody_given : (tb : Table) (s : State) (p v : ℕ) (m : Option ℕ) → is_some m ≡ false → (give_on tb s p v).answer ≡ Ok m → (give_on tb s p v).state ≡ s
nobody_given tb s p v None h e = give_unchanged tb s p v (λ u i. clash cc)
nobody_given tb s p v (Some u) h e = clash cc

nobody_taken : (tb : Table) (s : State) (p : ℕ) (m : Option (ℕ × ℕ)) → is_some m ≡ false → (take_on tb s p).answer ≡ Ok m → (take_on tb s p).state ≡ s
nobody_taken tb s p None h e = take_unchanged tb s p (λ u v i. clash cc)
nobody_taken tb s p (Some x) h e = clash cc

pub given_nobody : (tb : Table) (s : State) (p v : ℕ) (m : Option ℕ) (x : Bool) → x ≡ is_some m → x ≡ false → (give_on tb s p v).answer ≡ Ok m → (give_on tb s p v).state ≡ s
given_nobody tb s p v m x f h = nobody_given tb s p v m (sym f ∙ h)

pub taken_nobody : (tb : Table) (s : State) (p : ℕ) (m : Option (ℕ × ℕ)) (x : Bool) → x ≡ is_some m → x ≡ false → (take_on tb s p).answer ≡ Ok m → (take_on tb s p).state ≡ s
taken_nobody tb s p m x f h = nobody_taken tb s p m (sym f ∙ h)

pub given_refused : (tb : Table) (s : State) (p v : ℕ) (x : Refusal) → (give_on tb s p v).answer ≡ Err x → (give_on tb s p v).state ≡ s
given_refused tb s p v x e = give_unchanged tb s p v (λ u i. clash cc)

pub taken_refused : (tb : Table) (s : State) (p : ℕ) (x : Refusal) → (take_on tb s p).answer ≡ Err x → (take_on tb s p).state ≡ s
taken_refused tb s p x e = take_unchanged tb s p (λ u v i. clash cc)
