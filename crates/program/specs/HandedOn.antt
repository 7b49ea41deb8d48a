-- What is handed on from the decision on a move to its writes, so that the branch is found once and its number reckoned once.
pub mod Laws
use Rattle.std.specs.Prelude.{ℕ, ◌≡◌, List, Some}
use Rattle.std.specs.Int.{w32}
use Rattle.std.proofs.Common.{to_z}
use Rattle.table.specs.Table.{Table}
use Rattle.state.specs.State.{State, thread, stands_at}
use Rattle.rules.specs.Program.{branch_at, next_of, field_a, act_of, assigned}
use Rattle.rules.specs.Moves.{gone}
use Rattle.rules.specs.declared.Act.TheVariants.{Assignment}
use Rattle.rules.specs.declared.Move.{Move}
use Rattle.rules.specs.declared.Move.TheVariants.{Ends, Calls, Waits, Goes, Creates, Spawns, Meets, LacksThread, LacksChannel}

-- r is the row of a branch, and v the pattern of a number
module _ (tb : Table) (r v : ℕ) where
  -- a thread's row that goes on by that branch and, if it assigns, stores v
  unfoldable pub gone_storing : List ℕ → List ℕ
  gone_storing row = gone (act_of tb r) row (next_of tb (stands_at row) r) (field_a tb r) (Some (to_z w32 v))

  module _ (s : State) (t : ℕ) where
    -- it is branch i of thread t and, if it assigns, comes to v
    pub record Assigns (i : ℕ) : Type 0 where
      pub branch : r ≡ branch_at tb (stands_at (thread s t)) i
      pub number : act_of tb r ≡ Assignment → assigned tb r (thread s t) ≡ Some (to_z w32 v)

    -- so it is, where a move of thread t goes ahead alone
    unfoldable pub Carries : Move → Type 0
    Carries Ends = Unit {0}
    Carries Calls = Unit {0}
    Carries Waits = Unit {0}
    Carries (Goes i) = Assigns i
    Carries (Creates i c) = Unit {0}
    Carries (Spawns i u) = Unit {0}
    Carries (Meets i u j) = Unit {0}
    Carries LacksThread = Unit {0}
    Carries LacksChannel = Unit {0}
