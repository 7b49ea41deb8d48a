-- One law for each way out of the functions that write a meeting. Assumes nothing.
use Prim.Native.Nat.{ℕ}
use mathlib.Core.Path.{◌≡◌, sym, ◌∙◌, ap}
use mathlib.Core.Logic.{◌≢◌}
use mathlib.Core.List.{List}
use lib.Seq.{set_comm}
use Rattle.numbers.specs.Rows.{at}
use Rattle.table.specs.Fields as Field
use Rattle.table.specs.Table.{Table}
use Rattle.state.specs.State.{State, state_of, thread, stands_at, slot_of, with_thread, with_threads}
use Rattle.state.specs.State.Laws.{thread_other}
use Rattle.rules.specs.Program.{branch_at, next_of, act_of, opposite}
use Rattle.rules.specs.Moves.{resumed, stored, met, side_of, row_of, met_by, value_by, written}
use Rattle.rules.specs.declared.Direction.{Direction}
use Rattle.rules.specs.declared.Direction.TheVariants.{Out, In}
use Rattle.rules.specs.declared.Act.{Act}
use Rattle.rules.specs.declared.Act.TheVariants.{Meeting}
use Rattle.rules.specs.declared.Move.TheVariants.{Meets}
use Rattle.thread_rows.specs.WrittenRows.Laws.{stored_after}
use Rattle.meetings.specs.Sides.{Facing, passed}

-- ---- thread t, which stands at node x, goes on at node n by its branch i, which is in row r and of direction d: s₁ after the head of its row is written, and
-- s₂ with v in slot k besides

module _ (tb : Table) (b : List ℕ) (t i v x r n k : ℕ) (c : Act) (d : Direction) (s₁ : State)
    (e : s₁ ≡ with_thread (state_of b) t (resumed (thread (state_of b) t) n))
    (p : x ≡ stands_at (thread (state_of b) t)) (q : r ≡ branch_at tb x i) (o : n ≡ next_of tb x r) (z : k ≡ at tb r Field.b) (f : c ≡ act_of tb r) (g : d ≡ side_of c) where
  same_row : met d (thread (state_of b) t) n k v ≡ met_by tb (thread (state_of b) t) i v
  unfolding met_by
  same_row = rw (g, f, o, z, q, p)

  pub receiver_goes : (s₂ : State) → s₂ ≡ with_thread s₁ t (stored (thread s₁ t) k v) → d ≡ In
      → s₂ ≡ with_thread (state_of b) t (met_by tb (thread (state_of b) t) i v)
  unfolding met
  receiver_goes s₂ j h = rw (← same_row, h) (stored_after b t (resumed (thread (state_of b) t) n) s₁ s₂ k v j e)

-- ---- two rows: threads t and u go on with what the other one gives

pub both_go : (tb : Table) (s s₁ s₂ : State) (t i u j x y : ℕ) → s₂ ≡ with_thread s₁ u (met_by tb (thread s₁ u) j y)
    → s₁ ≡ with_thread s t (met_by tb (thread s t) i x)
    → x ≡ value_by tb (thread s u) j → y ≡ value_by tb (thread s t) i → u ≢ t → s₂ ≡ written tb s t (Meets i u j)
unfolding written
both_go tb s s₁ s₂ t i u j x y e f g h n =
    let w : thread s₁ u ≡ thread s u = ap (λ (r : State). thread r u) f ∙ thread_other s t (met_by tb (thread s t) i x) u n in
    e ∙ rw (w, f, g, h)

-- ---- two rows: thread t sends, and thread u receives

-- s₁, of the words b₁, after t's row is written, s₂ after the head of u's row is, and s₃ with what is given in u's slot
pub passed_on : (tb : Table) (s : State) (b₁ : List ℕ) (s₂ s₃ : State) (t a u b n m k v x y z : ℕ) → s₃ ≡ with_thread s₂ u (stored (thread s₂ u) k v)
    → s₂ ≡ with_thread (state_of b₁) u (resumed (thread (state_of b₁) u) m) → state_of b₁ ≡ with_thread s t (resumed (thread s t) n) → u ≢ t
    → n ≡ next_of tb y a
    → y ≡ stands_at (thread s t) → m ≡ next_of tb z b → z ≡ stands_at (thread s u) → k ≡ at tb b Field.b → x ≡ at tb a Field.b → v ≡ slot_of (thread s t) x
    → s₃ ≡ passed tb s t a u b
unfolding passed met
passed_on tb s b₁ s₂ s₃ t a u b n m k v x y z d e f o p i q j g h l =
    let w : thread (state_of b₁) u ≡ thread s u = ap (λ (r : State). thread r u) f ∙ thread_other s t (resumed (thread s t) n) u o in
    stored_after b₁ u (resumed (thread (state_of b₁) u) m) s₂ s₃ k v d e ∙ rw (w, f, p, i, q, j, g, l, h)

swapped : (s : State) (t u : ℕ) (x y : List ℕ) → u ≢ t → with_thread (with_thread s u x) t y ≡ with_thread (with_thread s t y) u x
unfolding with_thread
swapped s t u x y n = ap (λ (l : List (List ℕ)). with_threads s l) (set_comm s.threads u t x y n)

-- s₁ after the writes; branch i of thread t, which stands at node x, is in row a and of direction r, and branch j of thread u, which stands at y, in row b
module _ (tb : Table) (s s₁ : State) (t a i u b j x y : ℕ) (r : Direction) (c : Act) (e : r ≡ side_of c) (f : c ≡ act_of tb a) (p : a ≡ branch_at tb x i)
    (p' : x ≡ stands_at (thread s t)) (q : b ≡ branch_at tb y j) (q' : y ≡ stands_at (thread s u)) where
  own : a ≡ row_of tb (thread s t) i
  own = p ∙ rw p'

  other : b ≡ row_of tb (thread s u) j
  other = q ∙ rw q'

  -- the direction that was read is that of the meeting
  faces : (d : Direction) → act_of tb (row_of tb (thread s t) i) ≡ Meeting d → r ≡ d
  unfolding side_of
  faces d k = e ∙ rw (f, own, k)

  pub sent : s₁ ≡ passed tb s t a u b → r ≡ Out → Facing tb s t i u j → s₁ ≡ written tb s t (Meets i u j)
  unfolding Facing passed written met_by value_by side_of met opposite
  sent g h (d, k, l) =
      let z : d ≡ Out = sym (faces d k) ∙ h in
      let k' : act_of tb (row_of tb (thread s t) i) ≡ Meeting Out = rw z at k in
      let l' : act_of tb (row_of tb (thread s u) j) ≡ Meeting In = rw z at l in
      g ∙ rw (own, other, k', l')

  pub got : s₁ ≡ passed tb s u b t a → r ≡ In → u ≢ t → Facing tb s t i u j → s₁ ≡ written tb s t (Meets i u j)
  unfolding Facing passed written met_by value_by side_of met opposite
  got g h n (d, k, l) =
      let z : d ≡ In = sym (faces d k) ∙ h in
      let k' : act_of tb (row_of tb (thread s t) i) ≡ Meeting In = rw z at k in
      let l' : act_of tb (row_of tb (thread s u) j) ≡ Meeting Out = rw z at l in
      g ∙ swapped s t u _ _ n ∙ rw (own, other, k', l')
