-- The numbers of documents 01 and 02 for the answers of the engine's calls. A number is its 32-bit pattern, so that -1 is `minus_one`.
pub mod Laws
use Rattle.std.specs.Prelude.{ℕ}
use Rattle.state.specs.State.{minus_one}
use Rattle.rules.specs.declared.Refusal.{Refusal}
use Rattle.rules.specs.declared.Refusal.TheVariants.{Length, Table, Rights, Seat, State, Thread, Port, ThreadRow, ChannelRow}
use Rattle.rules.specs.declared.Deed.{Deed}
use Rattle.rules.specs.declared.Deed.TheVariants.{Ended, Called, Waited, Took, TookWith}
use Rattle.rules.specs.declared.Reason.{Reason}
use Rattle.rules.specs.declared.Reason.TheVariants.{AllDone, NoneReady, LackedThread, LackedChannel}

-- grounds 8 to 14, and those of seats, which are asked before 10
unfoldable pub refusal_number : Refusal → ℕ
refusal_number Length = 8
refusal_number Table = 9
refusal_number Rights = 18
refusal_number Seat = 19
refusal_number State = 10
refusal_number Thread = 11
refusal_number Port = 12
refusal_number ThreadRow = 13
refusal_number ChannelRow = 14

-- of a step: the act, the branch within the choice and else 0, and the partner or child and else -1
unfoldable pub act_number : Deed → ℕ
act_number Ended = 0
act_number Called = 1
act_number Waited = 2
act_number (Took i) = 3
act_number (TookWith i u) = 3

unfoldable pub branch_number : Deed → ℕ
branch_number Ended = 0
branch_number Called = 0
branch_number Waited = 0
branch_number (Took i) = i
branch_number (TookWith i u) = i

unfoldable pub partner_number : Deed → ℕ
partner_number Ended = minus_one
partner_number Called = minus_one
partner_number Waited = minus_one
partner_number (Took i) = minus_one
partner_number (TookWith i u) = u

-- of a run: the reason, and the thread held up or -1
unfoldable pub reason_number : Reason → ℕ
reason_number AllDone = 0
reason_number NoneReady = 1
reason_number (LackedThread t) = 2
reason_number (LackedChannel t) = 3

unfoldable pub held_up_number : Reason → ℕ
held_up_number AllDone = minus_one
held_up_number NoneReady = minus_one
held_up_number (LackedThread t) = t
held_up_number (LackedChannel t) = t
