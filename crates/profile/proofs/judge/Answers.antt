use Rattle.std.proofs.Common.{sym}
use Rattle.profile.proofs.Answers.{call_forbidden, threads_few, threads_many}
use Rattle.profile.proofs.judge.Goals as goal

pub returns-then-not-calls_allowed : goal.returns-then-not-calls_allowed
returns-then-not-calls_allowed c = search call_forbidden

pub thread_bound-threads-requires : goal.thread_bound-threads-requires
thread_bound-threads-requires c = record { rising = c.requires.rising (sym c.if-not-calls_allowed.ensures) }

pub returns-then-threads-lt-ABOVE : goal.returns-then-threads-lt-ABOVE
returns-then-threads-lt-ABOVE c = search threads_few

pub returns-else-threads-lt-ABOVE : goal.returns-else-threads-lt-ABOVE
returns-else-threads-lt-ABOVE c = search threads_many
