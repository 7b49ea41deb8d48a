use Prim.Native.Nat.{◌<◌}
use Rattle.writer.specs.Write.Laws.{fields_none, fields_more, fields_all}
use borrow.Author.Rules.{rules}
use Rattle.writer.proofs.put_line.Goals as goal

pub loop-column-init : goal.loop-column-init
loop-column-init c = (search rules, search rules, search rules, search fields_none)

pub loop-column-preserved : goal.loop-column-preserved
loop-column-preserved c = let inside : c.loop-column.column < 12 = search rules in (search rules, search rules, search rules, search fields_more)

pub returns : goal.returns
returns c = search fields_all
