use borrow.Author.Rules.{rules}
use Rattle.loader.specs.Verdict.Rest.{past_none, past_more, rest_is}
use Rattle.loader.proofs.rest_is_zero.Goals as goal

pub loop-i-init : goal.loop-i-init
loop-i-init c = (search rules, search rules, search past_none)

pub loop-i-preserved : goal.loop-i-preserved
loop-i-preserved c = (search rules, search rules, search past_more)

pub returns : goal.returns
returns c = search rest_is
