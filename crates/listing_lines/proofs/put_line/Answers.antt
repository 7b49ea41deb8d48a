use Rattle.listing_lines.specs.Laid.Laws.{line_none, line_more, line_all}
use borrow.Author.Rules.{rules}
use Rattle.listing_lines.proofs.put_line.Goals as goal

pub loop-i-init : goal.loop-i-init
loop-i-init c = (search rules, search rules, search rules, search line_none)

pub loop-i-preserved : goal.loop-i-preserved
loop-i-preserved c = (search rules, search rules, search rules, search line_more)

pub returns-clause-out_after : goal.returns-clause-out_after
returns-clause-out_after c = search (line_all, rules)
