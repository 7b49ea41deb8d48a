use Rattle.listing_lines.specs.Laid.Laws.{count_none, count_more, count_all, count_fits}
use borrow.Author.Rules.{rules}
use Rattle.listing_lines.proofs.channels_in_use.Goals as goal

pub loop-c-init : goal.loop-c-init
loop-c-init c = (search rules, search count_none)

pub overflow_add-n : goal.overflow_add-n
overflow_add-n c = search count_fits

pub loop-c-preserved : goal.loop-c-preserved
loop-c-preserved c = (search rules, search count_more)

pub returns : goal.returns
returns c = search count_all
