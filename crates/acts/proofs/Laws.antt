-- What an assignment and a new channel write, one store after the other. Assumes nothing.
use Rattle.std.specs.Prelude.{Some}
use Prim.Native.Nat.{ℕ}
use mathlib.Core.Path.{◌≡◌, ◌∙◌}
use mathlib.Core.List.{List}
use lib.ListN.{set}
use mir.Syntax.{w32}
use mir.Val.{Fits, to_z}
use mir.Facts.{of_z-to_z}
use Rattle.numbers.specs.Rows.{at}
use Rattle.table.specs.Fields as Field
use Rattle.table.specs.Table.{Table}
use Rattle.state.specs.State.{State, state_of, thread, channel, stands_at, with_mark, with_thread, with_channel, max_channels}
use Rattle.rules.specs.Program.{type_at, branch_at, next_of}
use Rattle.rules.specs.Moves.{one_up, resumed, stored, stored_number, gone, typed, created_by, type_by, written}
use Rattle.rules.specs.declared.Act.{Act}
use Rattle.rules.specs.declared.Act.TheVariants.{Assignment}
use Rattle.rules.specs.declared.Move.TheVariants.{Creates}
use Rattle.thread_rows.specs.WrittenRows.Laws.{stored_after}

-- thread t goes on at node n, and an assignment stores v in its slot k
pub assignment_stores : (b : List ℕ) (t n k v : ℕ) (s₁ s₂ : State) (a : Act) → a ≡ Assignment → Fits w32 v
    → s₁ ≡ with_thread (state_of b) t (resumed (thread (state_of b) t) n) → s₂ ≡ with_thread s₁ t (stored (thread s₁ t) k v)
    → s₂ ≡ with_thread (state_of b) t (gone a (thread (state_of b) t) n k (Some (to_z w32 v)))
unfolding gone stored_number
assignment_stores b t n k v s₁ s₂ a f w e g = rw (f, of_z-to_z w) (stored_after b t (resumed (thread (state_of b) t) n) s₁ s₂ k v g e)

-- a mark j gets x, past a new channel: thread t goes on at n, s₁; the new channel c stands in its slot k, s₂; the channel has its type, s₃; m is the node before, and r the row of the branch
module _ (tb : Table) (b : List ℕ) (t i c n k m r ty j x : ℕ) (s₁ s₂ s₃ s₄ : State) where
  pub creation_written : s₄ ≡ with_mark s₃ j x → j ≡ 1 → x ≡ one_up max_channels c → s₃ ≡ with_channel s₂ c (set (channel s₂ c) 0 ty)
      → s₂ ≡ with_thread s₁ t (stored (thread s₁ t) k c) → s₁ ≡ with_thread (state_of b) t (resumed (thread (state_of b) t) n) → ty ≡ type_at tb m k
      → k ≡ at tb r Field.a → n ≡ next_of tb m r → r ≡ branch_at tb m i → m ≡ stands_at (thread (state_of b) t)
      → s₄ ≡ written tb (state_of b) t (Creates i c)
  unfolding written typed type_by created_by
  creation_written e f g h p q u v w y z =
      e ∙ rw (f, g, h, u, stored_after b t (resumed (thread (state_of b) t) n) s₁ s₂ k c p q, v, w, y, z)
