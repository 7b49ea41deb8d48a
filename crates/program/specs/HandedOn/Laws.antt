-- What is handed on makes the row that the rules say. Assumes nothing.
use Rattle.std.specs.Prelude.{ℕ, ◌≡◌, refl, List, Option, Some, ℤ}
use Rattle.std.proofs.Math.Path.{sym}
use Rattle.std.proofs.Common.{ap, to_z}
use mir.Syntax.{w32}
use Rattle.table.specs.Table.{Table}
use Rattle.state.specs.State.{State, thread, stands_at}
use Rattle.rules.specs.Program.{next_of, field_a, act_of, assigned}
use Rattle.rules.specs.Moves.{resumed, stored_number, gone, gone_by}
use Rattle.rules.specs.declared.Act.{Act}
use Rattle.rules.specs.declared.Act.TheVariants.{Tau, Meeting, New, Spawn, Assignment}
use Rattle.rules.specs.declared.Move.{Move}
use Rattle.rules.specs.declared.Move.TheVariants.{Goes}
use Rattle.program.specs.HandedOn.{gone_storing, Assigns, Carries}

-- what is assigned counts for an assignment alone
gone_alike : (a : Act) (row : List ℕ) (n k : ℕ) (v w : Option ℤ) → (a ≡ Assignment → v ≡ w) → gone a row n k v ≡ gone a row n k w
unfolding gone
gone_alike Tau row n k v w h = refl
gone_alike (Meeting d) row n k v w h = refl
gone_alike New row n k v w h = refl
gone_alike Spawn row n k v w h = refl
gone_alike Assignment row n k v w h = ap (stored_number (resumed row n) k) (h refl)

module _ (tb : Table) (r v : ℕ) (s : State) (t i : ℕ) where
  pub gone_storing_lem : Assigns tb r v s t i → gone_storing tb r v (thread s t) ≡ gone_by tb (thread s t) i
  unfolding gone_storing gone_by
  gone_storing_lem a =
      rw (← a.branch) (gone_alike (act_of tb r) (thread s t) (next_of tb (stands_at (thread s t)) r) (field_a tb r) (Some (to_z w32 v)) (assigned tb r (thread s t))
      (λ e. sym (a.number e)))

  pub goes_assigns : (m : Move) → Carries tb r v s t m → m ≡ Goes i → Assigns tb r v s t i
  unfolding Carries
  goes_assigns m h e = rw e at h
