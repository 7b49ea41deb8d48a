use Rattle.listing_lines.specs.Laid.Laws.{goes_none, goes_at, goes_more, goes_long, goes_fits, goes_ends, goes_all}
use borrow.Author.Rules.{rules}
use Rattle.listing_lines.proofs.list_gone.Goals as goal

pub loop-t-init : goal.loop-t-init
loop-t-init c = (search rules, search rules, search goes_at, search goes_none)

pub put_gone-end-requires : goal.put_gone-end-requires
put_gone-end-requires c = search goes_fits

pub loop-t-preserved : goal.loop-t-preserved
loop-t-preserved c = (search rules, search rules, search goes_long, search goes_more)

pub returns-clause-value : goal.returns-clause-value
returns-clause-value c = search goes_ends

pub returns-clause-out_after : goal.returns-clause-out_after
returns-clause-out_after c = search goes_all
