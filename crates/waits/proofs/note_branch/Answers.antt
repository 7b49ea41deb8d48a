use Rattle.rules.specs.Program.{same}
use Rattle.waits.proofs.Ways.{meeting}
use Rattle.waits.proofs.note_branch.Goals as goal

pub returns-in-Out-clause-receivers_after : goal.returns-in-Out-clause-receivers_after
unfolding same
returns-in-Out-clause-receivers_after c = search meeting

pub returns-in-In-clause-senders_after : goal.returns-in-In-clause-senders_after
unfolding same
returns-in-In-clause-senders_after c = search meeting

pub returns-else-printed_guard-clause-senders_after : goal.returns-else-printed_guard-clause-senders_after
returns-else-printed_guard-clause-senders_after c = search meeting

pub returns-else-printed_guard-clause-receivers_after : goal.returns-else-printed_guard-clause-receivers_after
returns-else-printed_guard-clause-receivers_after c = search meeting
