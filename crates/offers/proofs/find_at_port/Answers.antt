use borrow.Author.Rules.{rules}
use Rattle.numbers.specs.Search.Laws.{first_none, first_more}
use Rattle.offers.specs.Tried.{no_channel, thread_passed, found_at}
use Rattle.offers.proofs.Search.{none_is}
use Rattle.offers.proofs.find_at_port.Goals as goal

pub returns-then-p-ge-CHANNELS : goal.returns-then-p-ge-CHANNELS
returns-then-p-ge-CHANNELS c = search no_channel

pub threads-init : goal.threads-init
threads-init c = search (first_none, rules)

pub loop-i-init : goal.loop-i-init
loop-i-init c = search (first_none, rules)

pub loop-i-preserved : goal.loop-i-preserved
loop-i-preserved c = search (first_more, rules)

pub threads-preserved : goal.threads-preserved
threads-preserved c = search (thread_passed, rules)

pub returns-after-threads : goal.returns-after-threads
returns-after-threads c = search none_is

pub returns-then-offers_at : goal.returns-then-offers_at
returns-then-offers_at c = search found_at
