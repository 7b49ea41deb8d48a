use Rattle.writer.specs.Write.Laws.{lines_none, lines_more, lines_all}
use borrow.Author.Rules.{rules}
use Rattle.writer.proofs.put_lines.Goals as goal

pub loop-line-init : goal.loop-line-init
loop-line-init c = (search rules, search rules, search lines_none)

pub loop-line-preserved : goal.loop-line-preserved
loop-line-preserved c = (search rules, search rules, search lines_more)

pub returns : goal.returns
returns c = search lines_all
