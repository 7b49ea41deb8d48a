use Rattle.listing_text.specs.Laying.Steps.{come_none, none_long, lines_none, come_more, more_long, lines_more, come_stopped, stopped_long, stopped_laid, come_all, done_long, done_laid}
use borrow.Author.Rules.{rules}
use Rattle.listing_text.proofs.list_steps.Goals as goal

pub loop-i-init : goal.loop-i-init
loop-i-init c = (search rules, search rules, search rules, search come_none, search none_long, search lines_none)

pub returns-in-Break-clause-state_after : goal.returns-in-Break-clause-state_after
returns-in-Break-clause-state_after c = search come_stopped

pub returns-in-Break-clause-steps_value : goal.returns-in-Break-clause-steps_value
returns-in-Break-clause-steps_value c = search stopped_long

pub returns-in-Break-clause-out_after : goal.returns-in-Break-clause-out_after
returns-in-Break-clause-out_after c = search stopped_laid

pub loop-i-preserved : goal.loop-i-preserved
loop-i-preserved c = (search rules, search rules, search rules, search come_more, search more_long, search lines_more)

pub returns-clause-state_after : goal.returns-clause-state_after
returns-clause-state_after c = search come_all

pub returns-clause-steps_value : goal.returns-clause-steps_value
returns-clause-steps_value c = search done_long

pub returns-clause-out_after : goal.returns-clause-out_after
returns-clause-out_after c = search done_laid
