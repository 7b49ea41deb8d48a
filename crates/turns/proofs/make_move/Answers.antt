use Rattle.rules_laws.specs.Decided.{created_below, spawned_below}
use Rattle.turns.specs.Keeping.Laws.{waits_made, goes_made, can_meet, ready_below}
use Rattle.std.proofs.Math.Logic.{inl, inr}
use Rattle.turns.specs.Running.Laws.{lacks_thread, lacks_channel}
use Rattle.turns.proofs.make_move.Goals as goal

pub make_channel-requires-clause-c_lt_max_channels : goal.make_channel-requires-clause-c_lt_max_channels
make_channel-requires-clause-c_lt_max_channels c = search created_below

pub make_child-requires-clause-u_lt_max_threads : goal.make_child-requires-clause-u_lt_max_threads
make_child-requires-clause-u_lt_max_threads c = search spawned_below

pub make_meeting-requires-clause-can_meet : goal.make_meeting-requires-clause-can_meet
make_meeting-requires-clause-can_meet c = search (can_meet, ready_below)

pub returns-in-Waits : goal.returns-in-Waits
returns-in-Waits c = search (waits_made, ready_below)

pub returns-in-Goes : goal.returns-in-Goes
returns-in-Goes c = search (goes_made, ready_below)

pub returns-in-LacksThread : goal.returns-in-LacksThread
returns-in-LacksThread c = elim c.in-LacksThread.is [ inl h ↦ search lacks_thread | inr h ↦ search lacks_channel ]
